-- What is read of a flow, and of all flows and memories.
use Rattle.std.specs.Prelude.{◌≡◌, ℕ, ◌<◌, Bool, false, ◌&&◌, List, length, Option}
use Rattle.rv_types.specs.declared.typed.Kind.{Kind}
use Rattle.rv_types.specs.declared.typed.Kind.TheVariants as kind
use Rattle.rv_diagram.specs.{declared.Triple.Triple, Nodes.Valuation, Nodes.Diagrams, Nodes.IsRef, Nodes.value_of}
use Rattle.rv_diagram.specs.Growing.{Extends}
use Rattle.rv_flat.specs.{declared.flat.Flat.Flat, declared.parts.FlatFlow.FlatFlow}
use Rattle.rv_bits.specs.Shown.{clock_bit, refs_at, AreFlowRefs, IsAfter, ReadsTo}
use Rattle.rv_bits.specs.{declared.around.Around.Around, declared.around.FlowRefs.FlowRefs, declared.flows.FlowRef.FlowRef, Bits.bit, Reads.tree_in}

-- whether a flow of this type, on this clock, is there and true, by its bits
abbrev pub on_bit : List Triple → List ℕ → Kind → Option ℕ → List ℕ → Valuation → Bool
on_bit nodes on kind.Bool clock bits v = clock_bit nodes on clock v && bit nodes bits v 0
on_bit nodes on _ clock bits v = false

-- The calls gave the references of a flow.
pub record IsFlowRead (x : Around) (old new : Diagrams) (flow : FlatFlow) (one : FlowRef) : Type 0 where
  pub reads : ReadsTo x.flat.now old new (tree_in x flow.body) one.bits
  pub is_ref : IsRef new.nodes one.on
  pub means : (v : Valuation) → value_of new.nodes one.on v ≡ on_bit new.nodes x.read.now.on flow.kind flow.clock one.bits v

-- The calls gave the references of the first flows, as many as are said.
pub record AreFlowsRead (f : Flat) (old new : Diagrams) (n : ℕ) (read : FlowRefs) : Type 0 where
  pub extends : Extends old new
  pub size : length read.on ≡ n
  pub flows : AreFlowRefs f new.nodes read

-- The calls gave lists of references that show what the first memories hold after the instant, as many as are said.
pub record AreAfters (f : Flat) (old new : Diagrams) (n : ℕ) (lists : List (List ℕ)) : Type 0 where
  pub extends : Extends old new
  pub size : length lists ≡ n
  pub each : (m : ℕ) → m < n → IsAfter f new.nodes m (refs_at lists m)
