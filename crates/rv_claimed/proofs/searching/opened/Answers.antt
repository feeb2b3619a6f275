use Rattle.std.proofs.Common.{arith}
use Rattle.rv_claims.specs.Claiming.{claim_of}
use Rattle.rv_claimed.proofs.Sought.{searched_later, observer_found, good_when, bad_when}
use Rattle.rv_claimed.proofs.searching.opened.Goals as goal

pub taken_by-requires : goal.taken_by-requires
taken_by-requires c = let (s, thresholds, is, some) = c.requires in (s, thresholds, is)

pub is_within-requires : goal.is_within-requires
is_within-requires c =
    let (s, thresholds, is, some) = c.requires in
    let taken = c.in_ok-taken.ensures.taken s thresholds is some in
    let later = searched_later s thresholds c.args.store.now c.taken_by.new.store c.args.relation.now c.args.questions.now c.args.claim.now
    c.taken_by.ensures.extends is in
    record {
      part = taken.found;
      whole = observer_found s c.taken_by.new.store c.args.relation.now c.args.questions.now later.given c.parts.result.now c.parts.ensures;
    }

pub returns-then-good-clause-opened : goal.returns-then-good-clause-opened
returns-then-good-clause-opened c s thresholds is some =
    let taken = c.in_ok-taken.ensures.taken s thresholds is some in
    let later = searched_later s thresholds c.args.store.now c.taken_by.new.store c.args.relation.now c.args.questions.now c.args.claim.now
    c.taken_by.ensures.extends is in
    let e = c.is_within.ensures.extends in
    let long = e.longer in
    record {
      good = good_when s c.taken_by.new.store c.args.relation.now c.args.questions.now later.given c.parts.result.now c.parts.ensures
          (claim_of c.args.claim.now) c.in_ok-taken.taken taken c.in_ok-good.good c.in_ok-good.ensures.exact c.if-good.true;
      found = omega (arith, long, taken.found);
    }

pub returns-else-good-clause-opened : goal.returns-else-good-clause-opened
returns-else-good-clause-opened c s thresholds is some =
    let taken = c.in_ok-taken.ensures.taken s thresholds is some in
    let later = searched_later s thresholds c.args.store.now c.taken_by.new.store c.args.relation.now c.args.questions.now c.args.claim.now
    c.taken_by.ensures.extends is in
    bad_when s c.taken_by.new.store c.args.relation.now c.args.questions.now later.given c.parts.result.now c.parts.ensures (claim_of c.args.claim.now)
    c.in_ok-taken.taken taken c.in_ok-good.good c.in_ok-good.ensures.exact c.if-good.false
