-- What is read of a whole flat system.
use Rattle.std.specs.Prelude.{◌≡◌, List, length, Option}
use Rattle.rv_types.specs.Lists.{Input}
use Rattle.rv_diagram.specs.Nodes.{Valuation, Diagrams, IsRef, value_of}
use Rattle.rv_diagram.specs.Growing.{Extends}
use Rattle.rv_agreement.specs.{Trees.kind_at, Valuations.Reading, Valuations.reads_at, Valuations.observed, Valuations.IsSymbolic, Evaluation.is_on}
use Rattle.rv_control.specs.{Control.all_met, Control.is_allowed, Control.is_initial, Control.state_bits, Named.named, Named.variables_of}
use Rattle.rv_flat.specs.{declared.flat.Flat.Flat, FlatInstants.system_of, Steps.label_counts, Steps.memory_kinds, Steps.input_kinds}
use Rattle.rv_symbolic.specs.declared.relation.Parts.{Parts}
use Rattle.rv_bits.specs.{declared.around.Tables.Tables, declared.whole.Rest.Rest, declared.whole.ReadSystem.ReadSystem, Following.AreNextRead, Shown.AreTables}
use Rattle.rv_bits.specs.{Shown.AreFlowRefs, Shown.AreAfter, Tables.AreAllBits, Tables.memory_bit}

-- The calls gave the references of what an instant finds.
pub record AreTablesRead (f : Flat) (old new : Diagrams) (t : Tables) : Type 0 where
  pub extends : Extends old new
  pub size : length t.ticks ≡ length (system_of f).ticks
  pub tables : AreTables f new.nodes t
  pub kept : AreAllBits (label_counts f) (variables_of f) (memory_bit f) (kind_at (memory_kinds f)) new.nodes (length f.memories) t.kept
  pub given : AreAllBits (label_counts f) (variables_of f) Input (kind_at (input_kinds f)) new.nodes (length f.inputs) t.given

-- The calls gave the references of the assertions, of the observer, of the next state bits, of all flows, and of what the memories
-- that were read hold after the instant.
pub record IsRestRead (f : Flat) (old new : Diagrams) (r : Rest) : Type 0 where
  pub extends : Extends old new
  pub met_ref : IsRef new.nodes r.met
  pub met : (v : Valuation) (row : List (Option Reading)) → IsSymbolic (system_of f) (named f v) row
      → value_of new.nodes r.met v ≡ all_met (system_of f) (named f v) row (system_of f).assertions
  pub observer_ref : IsRef new.nodes r.observer
  pub observer : (v : Valuation) (row : List (Option Reading)) → IsSymbolic (system_of f) (named f v) row
      → value_of new.nodes r.observer v ≡ is_on Reading (reads_at (system_of f) (named f v)) (observed (system_of f) (named f v) row)
  pub next : AreNextRead f old new (state_bits (variables_of f)) r.next
  pub flows : AreFlowRefs f new.nodes r.read
  pub complete : length r.read.on ≡ length f.flows
  pub after : AreAfter f new.nodes r.shown

-- The calls gave the references of what the system of valuations is.
pub record ArePartsRead (f : Flat) (old new : Diagrams) (p : Parts) : Type 0 where
  pub extends : Extends old new
  pub allowed_ref : IsRef new.nodes p.allowed
  pub allowed : (v : Valuation) (row : List (Option Reading)) → IsSymbolic (system_of f) (named f v) row
      → value_of new.nodes p.allowed v ≡ is_allowed (system_of f) (named f v) row
  pub observer_ref : IsRef new.nodes p.observer
  pub observer : (v : Valuation) (row : List (Option Reading)) → IsSymbolic (system_of f) (named f v) row
      → value_of new.nodes p.observer v ≡ is_on Reading (reads_at (system_of f) (named f v)) (observed (system_of f) (named f v) row)
  pub initial_ref : IsRef new.nodes p.initial
  pub initial : (v : Valuation) → value_of new.nodes p.initial v ≡ is_initial (system_of f) (named f v)
  pub next : AreNextRead f old new (state_bits (variables_of f)) p.next

-- The calls gave the references of a whole flat system.
pub record IsSystemRead (f : Flat) (old new : Diagrams) (r : ReadSystem) : Type 0 where
  pub parts : ArePartsRead f old new r.parts
  pub tables : AreTables f new.nodes r.tables
  pub flows : AreFlowRefs f new.nodes r.read
  pub complete : length r.read.on ≡ length f.flows
  pub after : AreAfter f new.nodes r.shown
