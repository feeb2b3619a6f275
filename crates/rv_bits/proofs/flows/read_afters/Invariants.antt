use Rattle.rv_bits.specs.{Flows.AreAfters, Shown.AreAfter, Shown.IsAround}
use Rattle.rv_bits.proofs.flows.read_afters.Given as goal

abbrev pub invariant-loop-number : goal.invariant-loop-number
invariant-loop-number l = record {
  read : AreAfters l.around.flat.now l.initial.store l.store l.number l.lists;
  around : IsAround l.store l.around;
  shown : AreAfter l.around.flat.now l.store.nodes l.shown;
}
