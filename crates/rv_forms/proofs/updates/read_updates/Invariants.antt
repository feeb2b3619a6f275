use Rattle.rv_forms.specs.{Columns.AreUpdatesTo, Terms.IsReady}
use Rattle.rv_forms.proofs.updates.read_updates.Given as goal

abbrev pub invariant-loop-number : goal.invariant-loop-number
invariant-loop-number l = record {
  read : AreUpdatesTo l.around.flat.now l.initial.store l.store l.number l.terms;
  ready : IsReady l.store l.around l.wholes l.shown l.known;
}
