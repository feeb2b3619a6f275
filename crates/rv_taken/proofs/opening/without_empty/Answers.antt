use Rattle.std.proofs.Common.{length, arith}
use Rattle.rv_diagram.proofs.Growing.{extends_refl, extends_trans}
use Rattle.rv_ends.proofs.Stays.{ends_later}
use Rattle.rv_taken.proofs.Meetings.{uncrossed_first, uncrossed_more, uncrossed_all}
use Rattle.rv_taken.proofs.opening.without_empty.Goals as goal

pub without_column-requires-clause-ends : goal.without_column-requires-clause-ends
without_column-requires-clause-ends c =
    ends_later c.args.store.now c.loop-column.store (length c.args.ends.now) c.args.ends.now c.loop-column.invariant.extends c.requires.ends

pub loop-column-init : goal.loop-column-init
loop-column-init c = record {
  extends = extends_refl c.args.store.now;
  exact = uncrossed_first c.args.store.now.nodes c.args.ends.now c.args.whole c.requires.whole;
}

pub loop-column-preserved : goal.loop-column-preserved
loop-column-preserved c = record {
  extends = extends_trans c.args.store.now c.loop-column.store c.without_column.new.store c.loop-column.invariant.extends c.in_ok-rest.ensures.extends;
  exact = uncrossed_more c.args.store.now c.loop-column.store c.without_column.new.store.nodes c.args.ends.now c.loop-column.column c.args.whole
      c.loop-column.rest c.in_ok-rest.rest c.loop-column.invariant.extends c.requires.ends c.loop-column.invariant.exact c.in_ok-rest.ensures.exact;
}

pub returns-clause-exact : goal.returns-clause-exact
returns-clause-exact c = uncrossed_all c.args.store.now c.loop-column.store.nodes c.args.ends.now c.loop-column.column c.args.whole c.loop-column.rest
    (omega (arith, c.loop-column-test.false, c.len-column-end.ensures)) c.loop-column.invariant.exact
