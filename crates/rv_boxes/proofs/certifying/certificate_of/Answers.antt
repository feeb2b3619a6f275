use Rattle.rv_boxes.specs.Certifying.{IsCertifiable}
use Rattle.rv_boxes.proofs.Giving.{given_there}
use Rattle.rv_boxes.proofs.certifying.certificate_of.Goals as goal

pub start_of-requires : goal.start_of-requires
start_of-requires c = let (s, given, least) = c.requires in (s, c.args.frame.now, given)

pub rest_of-requires : goal.rest_of-requires
rest_of-requires c =
    let (s, given, least) = c.requires in
    let start = c.in_ok-start.ensures.start s c.args.frame.now given in (
      s,
      c.args.frame.now,
      given_there s c.args.store.now c.start_of.new.store c.args.relation.now c.args.questions.now c.args.frame.now c.start_of.ensures.same given,
      start.initial,
      least.kept,
    )

pub certify-requires : goal.certify-requires
certify-requires c =
    let (s, given, least) = c.requires in
    let r = given.relation in
    let start = c.in_ok-start.ensures.start s c.args.frame.now given in
    let there = given_there s c.args.store.now c.start_of.new.store c.args.relation.now c.args.questions.now c.args.frame.now c.start_of.ensures.same given in
    let can : IsCertifiable s c.args.frame.now c.args.claim.now c.in_ok-start.start.first c.in_ok-start.start.from_first c.in_ok-others.others = record {
      system = r.system;
      frame = given.frame;
      least = least;
      start = start;
      others = c.in_ok-others.ensures.others s c.args.frame.now there start.initial least.kept;
    } in
    (s, c.args.claim.now, can)

pub returns-clause-some : goal.returns-clause-some
returns-clause-some c s given least =
    let r = given.relation in
    let start = c.in_ok-start.ensures.start s c.args.frame.now given in
    let there = given_there s c.args.store.now c.start_of.new.store c.args.relation.now c.args.questions.now c.args.frame.now c.start_of.ensures.same given in
    let can : IsCertifiable s c.args.frame.now c.args.claim.now c.in_ok-start.start.first c.in_ok-start.start.from_first c.in_ok-others.others = record {
      system = r.system;
      frame = given.frame;
      least = least;
      start = start;
      others = c.in_ok-others.ensures.others s c.args.frame.now there start.initial least.kept;
    } in
    c.in_ok-certificate.ensures.some s c.args.claim.now can

pub returns-clause-none : goal.returns-clause-none
returns-clause-none c s given least =
    let r = given.relation in
    let start = c.in_ok-start.ensures.start s c.args.frame.now given in
    let there = given_there s c.args.store.now c.start_of.new.store c.args.relation.now c.args.questions.now c.args.frame.now c.start_of.ensures.same given in
    let can : IsCertifiable s c.args.frame.now c.args.claim.now c.in_ok-start.start.first c.in_ok-start.start.from_first c.in_ok-others.others = record {
      system = r.system;
      frame = given.frame;
      least = least;
      start = start;
      others = c.in_ok-others.ensures.others s c.args.frame.now there start.initial least.kept;
    } in
    c.in_ok-certificate.ensures.none s c.args.claim.now can
