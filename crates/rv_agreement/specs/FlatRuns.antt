-- Runs of a flat system in whole numbers, and what is inductive over its valuations.
use Rattle.std.specs.Prelude.{◌≡◌, ℕ, suc, ◌<◌, ℤ, Bool, true, false, List, ◌++◌, length, Option, Some, slice_index_or, None as Nothing}
use Rattle.rv_base.specs.declared.value.Value.{Value}
use Rattle.rv_rows.specs.Forms.{values}
use Rattle.rv_agreement.specs.Valuations.{Valuation, Reading, Truth, whole_count, IsSymbolic, Agrees, IsCoded, IsAllowed, observed}
use Rattle.rv_agreement.specs.Agreement.{State, found_in, IsWholeInstant, IsNext, IsTyped, updates, Leads}
use Rattle.rv_agreement.specs.{Trees.System, Trees.memory_kinds, Trees.nth_item, Evaluation.is_met, Evaluation.integers}

-- Each row is the instant at its state and inputs, each next state the one after it, all of their types; no clock has ticked at first.
pub record IsFlatRun (s : System) (n : ℕ) (states : ℕ → State) (inputs : ℕ → List Value) (rows : ℕ → List (Option Value)) : Type 0 where
  pub start : (k : ℕ) → slice_index_or (states 0).ticked k false ≡ false
  pub typed : (t : ℕ) → t < n → IsTyped s (states t) (inputs t)
  pub instant : (t : ℕ) → t < n → IsWholeInstant s (states t) (inputs t) (rows t)
  pub next : (t : ℕ) → t < n → IsNext s (states t) (inputs t) (rows t) (states (suc t))

-- every assertion is true or absent in a row
abbrev pub AreMetIn : System → State → List Value → List (Option Value) → Type 0
AreMetIn s now inputs row = (k : ℕ) → k < length s.assertions → is_met Value integers (found_in now inputs) row (nth_item s.assertions k) ≡ true

-- A property of a control state and the integer memories is inductive where every initial control state has it with all integers,
-- and at each allowed valuation that has it at a point which meets the rows, the observer is true, and the next control state
-- has it with the updates. A point has a number for each column: x for the integer memories, y for the integer inputs.
pub record IsInductive (s : System) (holds : Valuation → List ℤ → Bool) : Type 0 where
  pub initial : (v : Valuation) (x : List ℤ) → length x ≡ whole_count (memory_kinds s) → IsCoded s v
      → ((k : ℕ) → k < length s.ticks → v.ticked (slice_index_or s.ticks k Nothing) ≡ false) → holds v x ≡ true
  pub good : (v : Valuation) (symbolic : List (Option Reading)) (x y : List ℤ) → length x ≡ whole_count (memory_kinds s) → length y ≡ whole_count s.inputs
      → IsSymbolic s v symbolic → IsAllowed s v symbolic → Agrees s v symbolic (x ++ y) → holds v x ≡ true
      → observed s v symbolic ≡ Some (Truth true)
  pub kept : (v w : Valuation) (symbolic : List (Option Reading)) (x y : List ℤ) → length x ≡ whole_count (memory_kinds s) → length y ≡ whole_count s.inputs
      → IsSymbolic s v symbolic → IsAllowed s v symbolic → Agrees s v symbolic (x ++ y) → holds v x ≡ true
      → IsCoded s w → Leads s v symbolic w → holds w (values (updates s v symbolic) (x ++ y)) ≡ true
