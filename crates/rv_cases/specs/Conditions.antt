-- Lists of references that part a set of valuations, and how each question splits them.
use Rattle.std.specs.Prelude.{◌≡◌, ℕ, zero, suc, ◌<◌, ◌||◌, ◌&&◌, Bool, true, false, List, [], length, slice_index_or}
use Rattle.rv_diagram.specs.{declared.Triple.Triple, Nodes.Valuation, Nodes.IsRef, Nodes.value_of, Nodes.valuation_of, Several.ref_at}

-- whether a valuation is in set i
abbrev pub is_in : List Triple → List ℕ → ℕ → Valuation → Bool
is_in nodes refs i v = value_of nodes (ref_at refs i) v

-- each is a reference of the list of nodes
abbrev pub AreRefs : List Triple → List ℕ → Type 0
AreRefs nodes refs = (i : ℕ) → i < length refs → IsRef nodes (ref_at refs i)

-- no valuation is in two of the sets
abbrev pub AreApart : List Triple → List ℕ → Type 0
AreApart nodes refs = (i j : ℕ) → i < j → j < length refs → (v : Valuation) → is_in nodes refs i v ≡ true → is_in nodes refs j v ≡ true → ⊥

-- Each valuation of p is in exactly one of the sets, no other valuation is in any, and none is empty.
pub record IsParted (nodes : List Triple) (p : Valuation → Bool) (refs : List ℕ) : Type 0 where
  pub found : AreRefs nodes refs
  pub covered : (v : Valuation) → p v ≡ true → (i : ℕ) × (i < length refs) × (is_in nodes refs i v ≡ true)
  pub apart : AreApart nodes refs
  pub only : (i : ℕ) → i < length refs → (v : Valuation) → is_in nodes refs i v ≡ true → p v ≡ true
  pub filled : (i : ℕ) → i < length refs → (v : Valuation) × (is_in nodes refs i v ≡ true)

-- The answers to one question: each valuation has exactly one.
pub record AreAnswers (nodes : List Triple) (refs : List ℕ) : Type 0 where
  pub found : AreRefs nodes refs
  pub covered : (v : Valuation) → (i : ℕ) × (i < length refs) × (is_in nodes refs i v ≡ true)
  pub apart : AreApart nodes refs

-- One answer is that of all valuations of the condition.
abbrev pub HasOneAnswer : List Triple → ℕ → List ℕ → Type 0
HasOneAnswer nodes condition answers = (b : ℕ) × (b < length answers)
    × ((v : Valuation) → value_of nodes condition v ≡ true → is_in nodes answers b v ≡ true)

-- The valuation is one of the condition, as long as that has any.
abbrev pub IsSampleOf : List Triple → ℕ → List Bool → Type 0
IsSampleOf nodes condition values = (v : Valuation) → value_of nodes condition v ≡ true → value_of nodes condition (valuation_of values) ≡ true

-- Each of these sets is where a condition and an answer meet.
abbrev pub AreMeets : List Triple → List ℕ → List ℕ → List ℕ → Type 0
AreMeets nodes conditions answers made = (j : ℕ) → j < length made
    → (i : ℕ) × (i < length conditions) × (b : ℕ) × (b < length answers)
    × ((v : Valuation) → is_in nodes made j v ≡ (is_in nodes conditions i v && is_in nodes answers b v))

-- each of these sets, in the new list of nodes, is within one of those, in the old
abbrev pub AreWithin : List Triple → List Triple → List ℕ → List ℕ → Type 0
AreWithin old new larger smaller = (j : ℕ) → j < length smaller
    → (i : ℕ) × (i < length larger) × ((v : Valuation) → is_in new smaller j v ≡ true → is_in old larger i v ≡ true)

-- the answers to question i
abbrev pub list_at : List (List ℕ) → ℕ → List ℕ
list_at lists i = slice_index_or lists i []

-- Two valuations of p that have the same answers to the first n questions are in the same conditions.
abbrev pub AreJoined : List Triple → List Triple → (Valuation → Bool) → List (List ℕ) → ℕ → List ℕ → Type 0
AreJoined old new p questions n conditions = (v w : Valuation) → p v ≡ true → p w ≡ true
    → ((q b : ℕ) → q < n → b < length (list_at questions q) → is_in old (list_at questions q) b v ≡ is_in old (list_at questions q) b w)
    → (j : ℕ) → j < length conditions → is_in new conditions j v ≡ true → is_in new conditions j w ≡ true

-- Sets that part q are added to those that part what is apart from it.
abbrev pub Gathers : List Triple → List Triple → (Valuation → Bool) → List ℕ → List ℕ → Type 0
Gathers old new q before after = (p : Valuation → Bool) → IsParted old p before → ((v : Valuation) → p v ≡ true → q v ≡ true → ⊥)
    → IsParted new (λ v. p v || q v) after

-- whether one of the first n sets has the valuation
abbrev pub among : List Triple → List ℕ → ℕ → Valuation → Bool
among nodes refs zero v = false
among nodes refs (suc n) v = among nodes refs n v || is_in nodes refs n v
