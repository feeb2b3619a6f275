use Rattle.std.proofs.Common.{◌≤◌, length, arith}
use Rattle.rv_diagram.proofs.Growing.{extends_trans, equal_extends}
use Rattle.rv_symbolic.proofs.Extending.{map_ok}
use Rattle.rv_cover.proofs.Chaining.{ref_later}
use Rattle.rv_cover.proofs.Grown.{first_ordered, rest_ordered, allowed_found, taken_there, refs_there, rows_searched, document}
use Rattle.rv_cover.proofs.seeking.sought_in.Goals as goal

pub safe_into-requires : goal.safe_into-requires
safe_into-requires c = let (s, is) = c.requires in record { refs = is.refs; taken = is.taken_found }

pub frame_of-requires : goal.frame_of-requires
frame_of-requires c =
    let (s, is) = c.requires in
    refs_there s c.args.store.now c.safe_into.new.store c.args.parts.now c.args.questions.now c.args.by c.args.first.now c.args.rest.now c.args.taken
    c.args.reached.now c.args.given.now is c.safe_into.ensures.extends

pub needed-requires : goal.needed-requires
needed-requires c =
    let (s, is) = c.requires in
    let e = c.safe_into.ensures.extends in
    record {
      searched = (
        s,
        rows_searched s c.args.store.now c.safe_into.new.store c.args.parts.now c.args.questions.now c.args.by c.args.first.now c.args.rest.now
            c.args.taken c.args.reached.now c.args.given.now is e _ _ c.in_ok-frame.frame c.in_ok-frame.ensures c.args.given.now (omega arith),
        is.kept,
      );
      allowed = allowed_found s c.args.store.now c.safe_into.new.store c.args.parts.now c.args.questions.now c.args.by c.args.first.now c.args.rest.now
          c.args.taken c.args.reached.now c.args.given.now is e;
      control = rest_ordered s c.args.store.now c.safe_into.new.store c.args.parts.now c.args.questions.now c.args.by c.args.first.now c.args.rest.now
          c.args.taken c.args.reached.now c.args.given.now is e;
      taken = taken_there s c.args.store.now c.safe_into.new.store c.args.parts.now c.args.questions.now c.args.by c.args.first.now c.args.rest.now
          c.args.taken c.args.reached.now c.args.given.now is e;
      safe = c.in_ok-safe.ensures.found;
    }

pub located-requires : goal.located-requires
located-requires c =
    let (s, is) = c.requires in
    let same = equal_extends c.safe_into.new.store c.needed.new.store c.needed.ensures.same in
    let e = extends_trans c.args.store.now c.safe_into.new.store c.needed.new.store c.safe_into.ensures.extends same in
    let few : length c.in-Some.rows ≤ length c.args.given.now = rw c.in-Some.is at c.in_ok-rows.ensures.few in
    let kept = rw c.in-Some.is at c.in_ok-rows.ensures.kept in
    record {
      searched = (
        s,
        rows_searched s c.args.store.now c.needed.new.store c.args.parts.now c.args.questions.now c.args.by c.args.first.now c.args.rest.now
            c.args.taken c.args.reached.now c.args.given.now is e _ _ c.in_ok-frame.frame c.in_ok-frame.ensures c.in-Some.rows few,
        kept s is.kept,
      );
      allowed = allowed_found s c.args.store.now c.needed.new.store c.args.parts.now c.args.questions.now c.args.by c.args.first.now c.args.rest.now
          c.args.taken c.args.reached.now c.args.given.now is e;
      first = first_ordered s c.args.store.now c.needed.new.store c.args.parts.now c.args.questions.now c.args.by c.args.first.now c.args.rest.now
          c.args.taken c.args.reached.now c.args.given.now is e;
      rest = rest_ordered s c.args.store.now c.needed.new.store c.args.parts.now c.args.questions.now c.args.by c.args.first.now c.args.rest.now
          c.args.taken c.args.reached.now c.args.given.now is e;
      taken = taken_there s c.args.store.now c.needed.new.store c.args.parts.now c.args.questions.now c.args.by c.args.first.now c.args.rest.now
          c.args.taken c.args.reached.now c.args.given.now is e;
      safe = ref_later c.safe_into.new.store c.needed.new.store c.in_ok-safe.safe same c.in_ok-safe.ensures.found;
    }

pub returns-in-Some-clause-found : goal.returns-in-Some-clause-found
returns-in-Some-clause-found c s is =
    let kept = rw c.in-Some.is at c.in_ok-rows.ensures.kept in
    map_ok c.located.result _ _ (document s c.args.store.now c.safe_into.new.store c.args.parts.now c.args.questions.now c.args.by c.args.first.now
    c.args.rest.now c.args.taken c.args.reached.now c.args.given.now is c.safe_into.ensures.extends c.in_ok-frame.frame c.in_ok-frame.ensures
    c.in-Some.rows (kept s is.kept)) c.located.ensures.found
