use Rattle.std.proofs.Common.{◌≡◌, length}
use Rattle.rv_diagram.specs.Growing.{Extends}
use Rattle.rv_forms.specs.Terms.{IsReady}
use Rattle.rv_forms.proofs.flows.read_wholes.Given as goal

abbrev pub invariant-loop-flow : goal.invariant-loop-flow
invariant-loop-flow l = record {
  extends : Extends l.initial.store l.store;
  ready : IsReady l.store l.around l.wholes l.shown l.known;
  many : length l.wholes.flows ≡ l.flow-index;
}
