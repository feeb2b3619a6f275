use Rattle.std.proofs.Common.{◌≡◌, ◌&&◌, List, Option, drop}
use Rattle.rv_diagram.specs.Nodes.{Valuation, IsRef, value_of}
use Rattle.rv_diagram.specs.Growing.{Extends}
use Rattle.rv_agreement.specs.Valuations.{Reading, IsSymbolic}
use Rattle.rv_control.specs.{Control.all_met, Named.named}
use Rattle.rv_flat.specs.FlatInstants.{system_of}
use Rattle.rv_bits.specs.Shown.{AreAfter, IsAround}
use Rattle.rv_bits.proofs.assertions.read_assertions.Given as goal

abbrev pub invariant-loop-e : goal.invariant-loop-e
invariant-loop-e l = record {
  extends : Extends l.initial.store l.store;
  around : IsAround l.store l.around;
  shown : AreAfter l.around.flat.now l.store.nodes l.shown;
  is_ref : IsRef l.store.nodes l.all;
  means : (v : Valuation) (row : List (Option Reading)) → IsSymbolic (system_of l.around.flat.now) (named l.around.flat.now v) row
      → (value_of l.store.nodes l.all v && all_met (system_of l.around.flat.now) (named l.around.flat.now v) row
      (drop l.e-index (system_of l.around.flat.now).assertions))
      ≡ all_met (system_of l.around.flat.now) (named l.around.flat.now v) row (system_of l.around.flat.now).assertions;
}
