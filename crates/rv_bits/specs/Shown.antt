-- What references show of a flat system at each valuation.
use Rattle.std.specs.Prelude.{◌≡◌, ℕ, ◌<◌, ◌≤◌, Bool, true, cond, List, [], length, Option, Some, slice_index_or, None as Nothing}
use Rattle.rv_types.specs.declared.typed.Kind.{Kind}
use Rattle.rv_types.specs.declared.typed.Kind.TheVariants as kind
use Rattle.rv_diagram.specs.{declared.Triple.Triple, Nodes.Valuation, Nodes.Diagrams, Nodes.value_of, Several.ref_at}
use Rattle.rv_diagram.specs.Growing.{Extends}
use Rattle.rv_agreement.specs.Evaluation.{Found, is_on, is_there, nth}
use Rattle.rv_agreement.specs.Valuations.{Reading, Truth, Name, is_linear, reads_at, found_at, read, updated, IsSymbolic}
use Rattle.rv_agreement.specs.{Agreement.Fits, Agreement.IsWell, Trees.FlatTree, Trees.kind_at, Trees.memory_kinds}
use Rattle.rv_flat.specs.{declared.flat.Flat.Flat, FlatInstants.system_of, Inlined.IsTable}
use Rattle.rv_control.specs.Named.{named}
use Rattle.rv_symbolic.specs.Linked.{AreRefs}
use Rattle.rv_bits.specs.{declared.around.Around.Around, declared.around.Tables.Tables, declared.around.FlowRefs.FlowRefs, Bits.bit, Bits.bit_of}

-- the references spell a number
abbrev pub IsNumber : List Triple → Valuation → List ℕ → ℕ → Type 0
IsNumber nodes v refs l = (b : ℕ) → bit nodes refs v b ≡ bit_of l b

-- a truth value as a number
abbrev pub as_number : Bool → ℕ
as_number t = cond t 1 0

-- The references show a reading of a type: they spell its truth or its label. Of a form nothing is shown.
abbrev pub Shows : List Triple → Valuation → Kind → List ℕ → Reading → Type 0
Shows nodes v kind.Bool refs a = (t : Bool) × (a ≡ Truth t) × IsNumber nodes v refs (as_number t)
Shows nodes v kind.Int refs a = is_linear a ≡ true
Shows nodes v (kind.Labels i) refs a = (l : ℕ) × (a ≡ Name l) × IsNumber nodes v refs l

-- the lists of references by number
abbrev pub refs_at : List (List ℕ) → ℕ → List ℕ
refs_at lists k = slice_index_or lists k []

-- what an instant finds at a valuation by numbers
abbrev pub found : Flat → Valuation → Found Reading
found f v = found_at (system_of f) (named f v)

-- whether the flow of a clock is there and true
abbrev pub is_there_at : Flat → Valuation → List (Option Reading) → Option ℕ → Bool
is_there_at f v row k = is_there Reading (reads_at (system_of f) (named f v)) row k

module _ (f : Flat) (nodes : List Triple) where
  -- The references of ticks, memories and inputs show what an instant finds.
  pub record AreTables (t : Tables) : Type 0 where
    pub tick_refs : AreRefs nodes t.ticks
    pub ticks : (k : ℕ) (v : Valuation) → k < length (system_of f).ticks → value_of nodes (ref_at t.ticks k) v ≡ (found f v).ticked k
    pub kept_refs : (m : ℕ) → AreRefs nodes (refs_at t.kept m)
    pub kept : (m : ℕ) (v : Valuation) → m < length (system_of f).memories
        → Shows nodes v (kind_at (memory_kinds (system_of f)) m) (refs_at t.kept m) ((found f v).kept m)
    pub given_refs : (j : ℕ) → AreRefs nodes (refs_at t.given j)
    pub given : (j : ℕ) (v : Valuation) → j < length (system_of f).inputs
        → Shows nodes v (kind_at (system_of f).inputs j) (refs_at t.given j) ((found f v).given j)

  -- The references of the first flows show whether each is there and true, and what it has where it is there.
  pub record AreFlowRefs (r : FlowRefs) : Type 0 where
    pub size : length r.bits ≡ length r.on
    pub on_refs : AreRefs nodes r.on
    pub bit_refs : (k : ℕ) → AreRefs nodes (refs_at r.bits k)
    pub on_shows : (k : ℕ) (v : Valuation) (row : List (Option Reading)) → k < length r.on → IsSymbolic (system_of f) (named f v) row
        → value_of nodes (ref_at r.on k) v ≡ is_on Reading (reads_at (system_of f) (named f v)) (nth Reading (reads_at (system_of f) (named f v)) row k)
    pub shows : (k : ℕ) (v : Valuation) (row : List (Option Reading)) (a : Reading) → k < length r.on → IsSymbolic (system_of f) (named f v) row
        → nth Reading (reads_at (system_of f) (named f v)) row k ≡ Some a → Shows nodes v (kind_at (system_of f).kinds k) (refs_at r.bits k) a

  -- The references show what a memory holds after the instant.
  pub record IsAfter (m : ℕ) (refs : List ℕ) : Type 0 where
    pub are_refs : AreRefs nodes refs
    pub shows : (v : Valuation) (row : List (Option Reading)) → m < length (system_of f).memories → IsSymbolic (system_of f) (named f v) row
        → Shows nodes v (kind_at (memory_kinds (system_of f)) m) refs (updated (system_of f) (named f v) row m)

  -- What has been read of the memories shows what each holds after the instant.
  pub record AreAfter (shown : List (Option (List ℕ))) : Type 0 where
    pub size : length shown ≡ length f.memories
    pub each : (m : ℕ) (refs : List ℕ) → slice_index_or shown m Nothing ≡ Some refs → IsAfter m refs

-- whether a clock is there, by the references of the flows
abbrev pub clock_bit : List Triple → List ℕ → Option ℕ → Valuation → Bool
clock_bit nodes on Nothing v = true
clock_bit nodes on (Some c) v = value_of nodes (ref_at on c) v

-- The surroundings of an expression are read in this store.
pub record IsAround (d : Diagrams) (x : Around) : Type 0 where
  pub few : length x.flat.now.variables ≤ 4096
  pub variables : length x.flat.now.variables ≤ d.variables
  pub table : IsTable x.flat.now.memories
  pub well : IsWell (system_of x.flat.now)
  pub tables : AreTables x.flat.now d.nodes x.tables.now
  pub flows : AreFlowRefs x.flat.now d.nodes x.read.now

-- The calls gave references that show what an expression has, wherever its clock is there.
pub record ReadsTo (f : Flat) (old new : Diagrams) (t : FlatTree) (refs : List ℕ) : Type 0 where
  pub extends : Extends old new
  pub are_refs : AreRefs new.nodes refs
  pub shows : (v : Valuation) (row : List (Option Reading)) (k : Option ℕ) (j : Kind) → IsSymbolic (system_of f) (named f v) row
      → Fits (system_of f) (length (system_of f).flows) k j t → is_there_at f v row k ≡ true → Shows new.nodes v j refs (read (system_of f) (named f v) row t)
