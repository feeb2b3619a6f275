use Rattle.std.proofs.Common.{◌≡◌, ℕ, length, Some}
use Rattle.std.specs.Prelude.{slice_get}
use Rattle.rv_diagram.specs.Growing.{Extends}
use Rattle.rv_forms.specs.Terms.{IsReady}
use Rattle.rv_tested.specs.{declared.compared.Compared.Compared, declared.testing.Sides.Sides, Compared.comparison_in, Testing.AreSidesRead}
use Rattle.rv_tested.proofs.testing.read_all.Given as goal

abbrev pub invariant-loop-number : goal.invariant-loop-number
invariant-loop-number l = record {
  extends : Extends l.initial.store l.store;
  ready : IsReady l.store l.around l.wholes l.shown l.known;
  many : length l.read ≡ l.number;
  each : (i : ℕ) (c : Compared) (x : Sides) → slice_get l.compared i ≡ Some c → slice_get l.read i ≡ Some x
      → AreSidesRead l.around.flat.now l.store.nodes (comparison_in l.around.flat.now.memories c) x;
}
