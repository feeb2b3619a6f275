use Rattle.rv_diagram.specs.Growing.{Extends}
use Rattle.rv_ends.proofs.Limiting.{AreLimited}
use Rattle.rv_ends.proofs.ends.limited.Given as goal

abbrev pub invariant-loop-column : goal.invariant-loop-column
invariant-loop-column l = record {
  extends : Extends l.initial.store l.store;
  limited : AreLimited l.initial.store.nodes l.store.nodes l.upper l.lower l.ticked l.column l.tests l.ends;
}
