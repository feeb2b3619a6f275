use Rattle.std.proofs.Common.{◌≡◌, true}
use Rattle.rv_diagram.specs.Nodes.{value_of}
use Rattle.rv_diagram.specs.Growing.{Extends}
use Rattle.rv_symbolic.specs.Growing.{Finds}
use Rattle.rv_open.specs.Given.{HoldAmong}
use Rattle.rv_open.proofs.counting.without_rows.Given as goal

abbrev pub invariant-loop-place : goal.invariant-loop-place
invariant-loop-place l = record {
  extends : Extends l.initial.store l.store;
  left : Finds l.initial.store l.store
      (λ v. (value_of l.initial.store.nodes l.fn.from v ≡ true) × HoldAmong l.initial.store.nodes l.answers l.rows l.place v) l.rest;
}
