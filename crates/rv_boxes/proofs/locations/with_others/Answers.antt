use Rattle.std.proofs.Common.{List, sym, subst}
use Rattle.rv_rows.specs.declared.linear.Row.{Row}
use Rattle.rv_boxes.specs.{Claiming.claim_of, Rounds.IsSetting, Certifying.IsPart}
use Rattle.rv_boxes.proofs.Assembling.{judgeable, others_setting, good_claim, built_certificate}
use Rattle.rv_boxes.proofs.locations.with_others.Goals as goal

pub part-requires : goal.part-requires
part-requires c =
    let (s, d, first, from_first, can, one) = c.requires in
    let o = can.others in (
      s,
      claim_of d,
      judgeable s c.args.frame.now d first from_first c.args.others can,
      subst (λ (rows : List Row). IsSetting s (claim_of d) c.args.others.control rows) (sym c.in_ok-rows.ensures)
          (others_setting s c.args.frame.now d first from_first c.args.others can),
      o.cases,
    )

pub returns-in_ok-certificate-in-Some-clause-some : goal.returns-in_ok-certificate-in-Some-clause-some
returns-in_ok-certificate-in-Some-clause-some c s d first from_first can one =
    let o = can.others in
    let found = rw c.in-Some.is at c.in_ok-rest.ensures.some s (claim_of d) (judgeable s c.args.frame.now d first from_first c.args.others can)
    (subst (λ (rows : List Row). IsSetting s (claim_of d) c.args.others.control rows) (sym c.in_ok-rows.ensures)
    (others_setting s c.args.frame.now d first from_first c.args.others can)) o.cases in
    let two : IsPart s (claim_of d) c.args.others.control c.args.others.given c.args.others.given c.in-Some.rest =
    subst (λ (rows : List Row). IsPart s (claim_of d) c.args.others.control rows c.args.others.given c.in-Some.rest) c.in_ok-rows.ensures found in
    built_certificate s c.args.frame.now d first from_first c.args.others can c.args.initial c.in-Some.rest one two
    c.in_ok-certificate-in-Some.field-0 c.in_ok-certificate-in-Some.ensures

pub returns-in_ok-certificate-in-Some-clause-good : goal.returns-in_ok-certificate-in-Some-clause-good
returns-in_ok-certificate-in-Some-clause-good c s d first from_first can one =
    let o = can.others in
    let found = rw c.in-Some.is at c.in_ok-rest.ensures.some s (claim_of d) (judgeable s c.args.frame.now d first from_first c.args.others can)
    (subst (λ (rows : List Row). IsSetting s (claim_of d) c.args.others.control rows) (sym c.in_ok-rows.ensures)
    (others_setting s c.args.frame.now d first from_first c.args.others can)) o.cases in
    let two : IsPart s (claim_of d) c.args.others.control c.args.others.given c.args.others.given c.in-Some.rest =
    subst (λ (rows : List Row). IsPart s (claim_of d) c.args.others.control rows c.args.others.given c.in-Some.rest) c.in_ok-rows.ensures found in
    good_claim s c.args.frame.now d first from_first c.args.others can c.args.initial c.in-Some.rest one two

pub returns-in-None-clause-none : goal.returns-in-None-clause-none
returns-in-None-clause-none c s d first from_first can one =
    let o = can.others in
    rw c.in-None.is at c.in_ok-rest.ensures.none s (claim_of d) (judgeable s c.args.frame.now d first from_first c.args.others can)
    (subst (λ (rows : List Row). IsSetting s (claim_of d) c.args.others.control rows) (sym c.in_ok-rows.ensures)
    (others_setting s c.args.frame.now d first from_first c.args.others can)) o.cases
