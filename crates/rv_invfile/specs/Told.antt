-- What is known of a flat system of which documents tell.
use Rattle.std.specs.Prelude.{◌≡◌, ◌<◌, ◌≤◌, ◌^◌, ◌⊎◌, ℕ, true, List, [], ◌∷◌, length, get_or}
use Rattle.std.specs.List.{list_all}
use Rattle.rv_flat.specs.{declared.flat.Flat.Flat, declared.parts.FlatInput.FlatInput, declared.parts.FlatMemory.FlatMemory}
use Rattle.rv_tree.specs.Words.{is_name}
use Rattle.rv_invfile.specs.Texts.{all_few, HasKind}
use Rattle.rv_base.specs.{Limits.source_limit, declared.value.Value.Value}

-- a text is one of these
abbrev pub IsAmong : List ℕ → List (List ℕ) → Type 0
IsAmong x [] = ⊥
IsAmong x (y ∷ ys) = (x ≡ y) ⊎ IsAmong x ys

-- no text stands twice
abbrev pub AreDifferent : List (List ℕ) → Type 0
AreDifferent [] = Unit {0}
AreDifferent (x ∷ xs) = ¬ (IsAmong x xs) × AreDifferent xs

-- What documents ask of a flat system: its names are made of letters, digits and `_`, the labels of one enumeration differ, and
-- its lists are bounded.
pub record IsTold (f : Flat) : Type 0 where
  pub main : is_name f.main ≡ true
  pub inputs : list_all (λ i. is_name i.name) f.inputs ≡ true
  pub labels : list_all (list_all is_name) f.labels ≡ true
  pub different : (e : ℕ) → AreDifferent (get_or f.labels e [])
  pub few_labels : all_few f.labels
  pub few_inputs : length f.inputs ≤ source_limit
  pub few_memories : length f.memories < 2 ^ 64

-- something is one of these
abbrev pub IsIn : {A : Type 0} → A → List A → Type 0
IsIn x [] = ⊥
IsIn x (y ∷ ys) = (x ≡ y) ⊎ IsIn x ys

-- Each type of an input or a memory has a value.
pub record HasValues (f : Flat) : Type 0 where
  pub inputs : (i : FlatInput) → IsIn i f.inputs → (v : Value) × HasKind f.labels i.kind v
  pub starts : (m : FlatMemory) → IsIn m f.memories → (v : Value) × HasKind f.labels m.kind v
