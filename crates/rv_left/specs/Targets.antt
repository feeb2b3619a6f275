-- A part in a store, and the entries into others.
use Rattle.std.specs.Prelude.{◌≡◌, ◌↔◌, ◌⊎◌, ℕ, ◌<◌, ◌≤◌, ◌&&◌, true, List, [], length, Some, slice_get}
use Rattle.rv_diagram.specs.Nodes.{Valuation, Diagrams, IsRef, value_of}
use Rattle.rv_diagram.specs.{Several.ref_at, Several.AreReplacements, declared.frozen.Frozen.Frozen}
use Rattle.rv_proofs.specs.{Systems.System, Systems.HasSameState}
use Rattle.rv_proofs.specs.declared.certificate.Entry.{Entry}
use Rattle.rv_proofs.specs.declared.certificate.EntryKind.TheVariants.{Go}
use Rattle.rv_walk.specs.Ends.{has}
use Rattle.rv_left.specs.{declared.entering.Source.Source, Meeting.AreApart, Becoming.IsConditionOf}

-- the references are those of the store
pub record IsSource (d : Diagrams) (o : Source) : Type 0 where
  pub image : IsRef d.nodes o.image
  pub within : IsRef d.nodes o.within
  pub by : AreReplacements d.nodes d.variables o.by.items

-- what the variables become
abbrev pub moved : Diagrams → List ℕ → Valuation → Valuation
moved d by v x = value_of d.nodes (ref_at by x) v

-- They mean the next control states of the allowed valuations of a part, these valuations, and at them the next control state.
pub record IsSourceOf (s : System) (d : Diagrams) (part : Frozen) (o : Source) : Type 0 where
  pub refs : IsSource d o
  pub image : (v : Valuation) → (value_of d.nodes o.image v ≡ true)
      ↔ ((w : Valuation) × (s.allowed w ≡ true) × (has part w ≡ true) × HasSameState s (s.next w) v)
  pub within : (v : Valuation) → value_of d.nodes o.within v ≡ (s.allowed v && has part v)
  pub next : (v : Valuation) → value_of d.nodes o.within v ≡ true → HasSameState s (moved d o.by.items v) (s.next v)

-- The entry is a step into a set, under the condition that valuations lead into it.
pub record IsTarget (d : Diagrams) (o : Source) (refs : List ℕ) (j : ℕ) (e : Entry) : Type 0 where
  pub kind : e.kind ≡ Go j []
  pub condition : IsConditionOf d o.within (ref_at refs j) o.by.items e.condition

-- some entry is that of a set
abbrev pub HasTarget : Diagrams → Source → List ℕ → List Entry → ℕ → Type 0
HasTarget d o refs entries j = (i : ℕ) × (e : Entry) × (slice_get entries i ≡ Some e) × IsTarget d o refs j e

-- The entries into the first n sets: each of these sets that meets the image has one.
pub record AreTargets (d : Diagrams) (o : Source) (refs : List ℕ) (n : ℕ) (entries : List Entry) : Type 0 where
  pub few : length entries ≤ n
  pub each : (i : ℕ) (e : Entry) → slice_get entries i ≡ Some e → (j : ℕ) × (j < n) × IsTarget d o refs j e
  pub all : (j : ℕ) → j < n → HasTarget d o refs entries j ⊎ AreApart (value_of d.nodes o.image) (value_of d.nodes (ref_at refs j))
