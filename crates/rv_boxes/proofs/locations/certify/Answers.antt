use Rattle.std.proofs.Common.{[], List, sym, subst}
use Rattle.rv_rows.specs.declared.linear.Row.{Row}
use Rattle.rv_boxes.specs.{Claiming.claim_of, Rounds.IsSetting, Certifying.IsPart}
use Rattle.rv_boxes.proofs.Assembling.{judgeable, first_setting}
use Rattle.rv_boxes.proofs.locations.certify.Goals as goal

pub part-requires : goal.part-requires
part-requires c =
    let (s, d, can) = c.requires in
    let start = can.start in (
      s,
      claim_of d,
      judgeable s c.args.frame.now d c.args.first c.args.from_first c.args.others can,
      subst (λ (rows : List Row). IsSetting s (claim_of d) c.args.first rows) (sym c.new-nothing.ensures)
          (first_setting s c.args.frame.now d c.args.first c.args.from_first c.args.others can),
      start.cases,
    )

pub with_others-requires : goal.with_others-requires
with_others-requires c =
    let (s, d, can) = c.requires in
    let start = can.start in
    let found = rw c.in-Some.is at c.in_ok-initial.ensures.some s (claim_of d) (judgeable s c.args.frame.now d c.args.first c.args.from_first c.args.others can)
    (subst (λ (rows : List Row). IsSetting s (claim_of d) c.args.first rows) (sym c.new-nothing.ensures)
    (first_setting s c.args.frame.now d c.args.first c.args.from_first c.args.others can)) start.cases in
    let one : IsPart s (claim_of d) c.args.first [] c.args.others.given c.in-Some.initial =
    subst (λ (rows : List Row). IsPart s (claim_of d) c.args.first rows c.args.others.given c.in-Some.initial) c.new-nothing.ensures found in
    (s, d, c.args.first, c.args.from_first, can, one)

pub returns-in-Some-clause-some : goal.returns-in-Some-clause-some
returns-in-Some-clause-some c s d can =
    let start = can.start in
    let found = rw c.in-Some.is at c.in_ok-initial.ensures.some s (claim_of d) (judgeable s c.args.frame.now d c.args.first c.args.from_first c.args.others can)
    (subst (λ (rows : List Row). IsSetting s (claim_of d) c.args.first rows) (sym c.new-nothing.ensures)
    (first_setting s c.args.frame.now d c.args.first c.args.from_first c.args.others can)) start.cases in
    let one : IsPart s (claim_of d) c.args.first [] c.args.others.given c.in-Some.initial =
    subst (λ (rows : List Row). IsPart s (claim_of d) c.args.first rows c.args.others.given c.in-Some.initial) c.new-nothing.ensures found in
    c.with_others.ensures.some s d c.args.first c.args.from_first can one

pub returns-in-Some-clause-good : goal.returns-in-Some-clause-good
returns-in-Some-clause-good c s d can =
    let start = can.start in
    let found = rw c.in-Some.is at c.in_ok-initial.ensures.some s (claim_of d) (judgeable s c.args.frame.now d c.args.first c.args.from_first c.args.others can)
    (subst (λ (rows : List Row). IsSetting s (claim_of d) c.args.first rows) (sym c.new-nothing.ensures)
    (first_setting s c.args.frame.now d c.args.first c.args.from_first c.args.others can)) start.cases in
    let one : IsPart s (claim_of d) c.args.first [] c.args.others.given c.in-Some.initial =
    subst (λ (rows : List Row). IsPart s (claim_of d) c.args.first rows c.args.others.given c.in-Some.initial) c.new-nothing.ensures found in
    c.with_others.ensures.good s d c.args.first c.args.from_first can one

pub returns-in-Some-clause-none : goal.returns-in-Some-clause-none
returns-in-Some-clause-none c s d can =
    let start = can.start in
    let found = rw c.in-Some.is at c.in_ok-initial.ensures.some s (claim_of d) (judgeable s c.args.frame.now d c.args.first c.args.from_first c.args.others can)
    (subst (λ (rows : List Row). IsSetting s (claim_of d) c.args.first rows) (sym c.new-nothing.ensures)
    (first_setting s c.args.frame.now d c.args.first c.args.from_first c.args.others can)) start.cases in
    let one : IsPart s (claim_of d) c.args.first [] c.args.others.given c.in-Some.initial =
    subst (λ (rows : List Row). IsPart s (claim_of d) c.args.first rows c.args.others.given c.in-Some.initial) c.new-nothing.ensures found in
    c.with_others.ensures.none s d c.args.first c.args.from_first can one

pub returns-in-None-clause-none : goal.returns-in-None-clause-none
returns-in-None-clause-none c s d can =
    let start = can.start in
    rw c.in-None.is at c.in_ok-initial.ensures.none s (claim_of d) (judgeable s c.args.frame.now d c.args.first c.args.from_first c.args.others can)
    (subst (λ (rows : List Row). IsSetting s (claim_of d) c.args.first rows) (sym c.new-nothing.ensures)
    (first_setting s c.args.frame.now d c.args.first c.args.from_first c.args.others can)) start.cases
