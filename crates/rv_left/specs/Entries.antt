-- The certificate of a partition, without rows.
use Rattle.std.specs.Prelude.{◌≡◌, ◌↔◌, ℕ, ◌<◌, ◌≤◌, true, List, [], length, Some, slice_get}
use Rattle.rv_diagram.specs.Nodes.{Valuation, Diagrams, IsRef, value_of}
use Rattle.rv_diagram.specs.{Several.ref_at, declared.frozen.Frozen.Frozen}
use Rattle.rv_proofs.specs.{Systems.System, Ranges.IsControlSet, Ranges.IsCondition}
use Rattle.rv_proofs.specs.{declared.certificate.Entry.Entry, declared.certificate.Location.Location}
use Rattle.rv_proofs.specs.declared.certificate.EntryKind.TheVariants.{Go}
use Rattle.rv_split.specs.Partitions.{part_at}
use Rattle.rv_walk.specs.Ends.{has}

-- all sets are sets of control states
abbrev pub AreControlSets : System → List Frozen → Type 0
AreControlSets s sets = (k : ℕ) → k < length sets → IsControlSet s (part_at sets k)

-- the references mean the sets
pub record AreThawn (d : Diagrams) (sets : List Frozen) (n : ℕ) (refs : List ℕ) : Type 0 where
  pub size : length refs ≡ n
  pub found : (k : ℕ) → k < n → IsRef d.nodes (ref_at refs k)
  pub means : (k : ℕ) → k < n → (v : Valuation) → value_of d.nodes (ref_at refs k) v ≡ has (part_at sets k) v

-- They do, and the sets are sets of control states.
pub record AreThawnSets (s : System) (d : Diagrams) (sets : List Frozen) (refs : List ℕ) : Type 0 where
  pub sets_control : AreControlSets s sets
  pub thawn : AreThawn d sets (length sets) refs

-- The condition holds exactly the allowed valuations of a part that lead into a set.
pub record IsLedInto (s : System) (part into condition : Frozen) : Type 0 where
  pub given : IsCondition s condition
  pub exact : (v : Valuation) → (has condition v ≡ true) ↔ ((s.allowed v ≡ true) × (has part v ≡ true) × (has into (s.next v) ≡ true))

-- The entries of a part are steps into sets, under such conditions, and each set that an allowed valuation of the part leads into has one.
pub record AreEntriesInto (s : System) (part : Frozen) (sets : List Frozen) (entries : List Entry) : Type 0 where
  pub few : length entries ≤ length sets
  pub each : (i : ℕ) (e : Entry) → slice_get entries i ≡ Some e
      → (j : ℕ) × (j < length sets) × (e.kind ≡ Go j []) × IsLedInto s part (part_at sets j) e.condition
  pub all : (v : Valuation) → s.allowed v ≡ true → has part v ≡ true → (j : ℕ) → j < length sets → has (part_at sets j) (s.next v) ≡ true
      → (i : ℕ) × (e : Entry) × (slice_get entries i ≡ Some e) × (has e.condition v ≡ true)

-- The location has the control states of a part and its entries, and no row.
pub record IsLocationOf (s : System) (part : Frozen) (sets : List Frozen) (l : Location) : Type 0 where
  pub control : IsControlSet s l.control
  pub same : (v : Valuation) → has l.control v ≡ has part v
  pub entry : l.entry ≡ []
  pub first : l.first ≡ []
  pub around : l.around ≡ []
  pub state : l.state ≡ []
  pub by_entry : l.by_entry ≡ []
  pub by_first : l.by_first ≡ []
  pub entries : AreEntriesInto s part sets l.entries

-- There is such a location for each of the first n sets.
pub record AreLocations (s : System) (sets : List Frozen) (n : ℕ) (locations : List Location) : Type 0 where
  pub size : length locations ≡ n
  pub each : (k : ℕ) (l : Location) → slice_get locations k ≡ Some l → IsLocationOf s (part_at sets k) sets l
