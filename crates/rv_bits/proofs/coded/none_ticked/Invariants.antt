use Rattle.std.proofs.Common.{◌≡◌, ◌&&◌, drop}
use Rattle.rv_diagram.specs.Nodes.{Valuation, IsRef, value_of}
use Rattle.rv_diagram.specs.Growing.{Extends}
use Rattle.rv_control.specs.{Control.none_ticked, Named.named}
use Rattle.rv_flat.specs.FlatInstants.{system_of}
use Rattle.rv_bits.proofs.coded.none_ticked.Given as goal

abbrev pub invariant-loop-tick : goal.invariant-loop-tick
invariant-loop-tick l = record {
  extends : Extends l.initial.store l.store;
  is_ref : IsRef l.store.nodes l.all;
  means : (v : Valuation) → (value_of l.store.nodes l.all v && none_ticked (named l.flat v) (drop l.tick-index (system_of l.flat).ticks)) ≡ none_ticked
      (named l.flat v) (system_of l.flat).ticks;
}
