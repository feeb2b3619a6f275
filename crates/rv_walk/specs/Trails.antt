-- A falsifying run on the way back through the layers.
use Rattle.std.specs.Prelude.{◌≡◌, ◌⊎◌, ◌==◌, if◌then◌else◌, ℕ, ◌+◌, ◌-◌, ◌<◌, Bool, false, List, [], length, reverse, Option, Some, None, IsTrue, slice_get}
use Rattle.std.specs.Prelude.{slice_index_or}
use Rattle.rv_diagram.specs.{Nodes.Valuation, Nodes.valuation_of, declared.frozen.Frozen.Frozen}
use Rattle.rv_proofs.specs.{Systems.System, Systems.HasSameState, Scopes.IsIn, Ranges.IsControlSet, Cases.IsInitialSet}
use Rattle.rv_symbolic.specs.Words.{IsLeastWord, IsFalseIn, LeadsTo}
use Rattle.rv_walk.specs.{declared.path.Failing.Failing, Walks.set_at, Paths.at_instant}

-- layer t, of which the first is given beside the others
abbrev pub layer_at : Frozen → List Frozen → ℕ → Frozen
layer_at first sets t = if t == 0 then first else set_at sets t

-- The first layer is that of the initial control states, and the others are sets of control states.
pub record AreControlSets (s : System) (first : Frozen) (sets : List Frozen) : Type 0 where
  pub initial : IsInitialSet s first
  pub each : (t : ℕ) (set : Frozen) → slice_get sets t ≡ Some set → IsControlSet s set

-- In this layer the observer is false, in none before it, and the word is the least valuation there.
pub record IsFailing (s : System) (first : Frozen) (sets : List Frozen) (layer : ℕ) (word : List Bool) : Type 0 where
  pub low : layer < length sets
  pub least : IsLeastWord s (IsFalseIn s (layer_at first sets layer)) word
  pub before : (t : ℕ) → t < layer → (v : Valuation) → ¬ IsFalseIn s (layer_at first sets t) v

-- The first layer in which the observer is false, or none where it is in none.
abbrev pub IsFirstFailing : System → Frozen → List Frozen → Option Failing → Type 0
IsFirstFailing s first sets None = (t : ℕ) → t < length sets → (v : Valuation) → ¬ IsFalseIn s (layer_at first sets t) v
IsFirstFailing s first sets (Some f) = IsFailing s first sets f.layer f.word

-- The words, the last instant first, are allowed valuations of the layers from `last` down, each of which leads to the one of the
-- layer above. The observer is false at the first.
pub record IsTrail (s : System) (first : Frozen) (sets : List Frozen) (last : ℕ) (words : List (List Bool)) : Type 0 where
  pub sizes : (k : ℕ) → k < length words → length (slice_index_or words k []) ≡ s.variables
  pub allowed : (k : ℕ) → k < length words → IsTrue (s.allowed (at_instant words k))
  pub inside : (k : ℕ) → k < length words → IsIn (layer_at first sets (last - k)) (at_instant words k)
  pub steps : (k : ℕ) → k + 1 < length words → HasSameState s (s.next (at_instant words (k + 1))) (at_instant words k)
  pub fails : s.observer (at_instant words 0) ≡ false

-- A layer has a valuation to whose control state no allowed valuation of the layer before leads.
pub record IsBroken (s : System) (first : Frozen) (sets : List Frozen) : Type 0 where
  pub at : ℕ
  pub low : at + 1 < length sets
  pub word : List Bool
  pub inside : IsIn (layer_at first sets (at + 1)) (valuation_of word)
  pub none : (v : Valuation) → ¬ LeadsTo s (layer_at first sets at) word v

-- The words lead from layer `last` down to the first one, or the layers are broken.
abbrev pub IsTrailed : System → Frozen → List Frozen → ℕ → Option (List (List Bool)) → Type 0
IsTrailed s first sets last None = IsBroken s first sets
IsTrailed s first sets last (Some words) = IsTrail s first sets last words × (length words ≡ last + 1)

-- The words are a trail from the first layer in which the observer is false, turned round.
pub record IsTurned (s : System) (first : Frozen) (sets : List Frozen) (words : List (List Bool)) : Type 0 where
  pub last : ℕ
  pub word : List Bool
  pub failing : IsFailing s first sets last word
  pub back : List (List Bool)
  pub trail : IsTrail s first sets last back
  pub count : length back ≡ last + 1
  pub turned : words ≡ reverse back

-- A run through the layers. There is none only where the observer is false in no layer or the layers are broken.
abbrev pub IsPathThrough : System → Frozen → List Frozen → Option (List (List Bool)) → Type 0
IsPathThrough s first sets None = IsFirstFailing s first sets None ⊎ IsBroken s first sets
IsPathThrough s first sets (Some words) = IsTurned s first sets words
