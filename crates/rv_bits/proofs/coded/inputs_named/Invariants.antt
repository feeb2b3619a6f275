use Rattle.std.proofs.Common.{◌≡◌, ◌&&◌, drop}
use Rattle.rv_diagram.specs.Nodes.{Valuation, IsRef, value_of}
use Rattle.rv_diagram.specs.Growing.{Extends}
use Rattle.rv_control.specs.{Control.inputs_named, Named.named}
use Rattle.rv_flat.specs.{FlatInstants.system_of, Steps.label_counts}
use Rattle.rv_bits.proofs.coded.inputs_named.Given as goal

abbrev pub invariant-loop-number : goal.invariant-loop-number
invariant-loop-number l = record {
  extends : Extends l.initial.store l.store;
  is_ref : IsRef l.store.nodes l.all;
  means : (v : Valuation) → (value_of l.store.nodes l.all v && inputs_named (label_counts l.flat) (named l.flat v) l.number
      (drop l.number (system_of l.flat).inputs))
      ≡ inputs_named (label_counts l.flat) (named l.flat v) 0 (system_of l.flat).inputs;
}
