-- Valuations by names and by numbers are inverse at the variables that are listed.
use Rattle.std.proofs.Common.{◌≡◌, ℕ, zero, suc, ◌<◌, Bool, true, false, cond, List, [], ◌∷◌, length, refl, ◌∙◌, arith}
use Rattle.std.specs.{Prelude.slice_index_or, List.Contains}
use Rattle.rv_types.specs.Lists.{Variable, MainTick, Tick, Kept, Next, Input, Test}
use Rattle.rv_diagram.specs.Nodes.{Valuation as Numbered}
use Rattle.rv_agreement.specs.Valuations.{Valuation}
use Rattle.rv_agreement.proofs.Chosen.{sites_itself}
use Rattle.rv_control.specs.Named.{same_variable, truth_at, by_names, truth_of, by_numbers}
use Rattle.rv_control.proofs.Names.{kept_itself, input_itself, test_itself, found_truth, variable_told}

-- a variable that is no next copy has its own name
own_name : (x : Variable) → (x ≡ Next → ⊥) → same_variable x x ≡ true
own_name MainTick not = refl
own_name (Tick p) not = sites_itself p
own_name (Kept p b) not = kept_itself p b
own_name Next not = absurd (not refl)
own_name (Input j b) not = input_itself j b
own_name (Test p side) not = test_itself p side

pub said_back : (names : List Variable) (w : Valuation) (x : Variable) → Contains names x → truth_of (by_names names (by_numbers names w)) x ≡ truth_of w x
said_back names w MainTick there = found_truth names w MainTick refl there
said_back names w (Tick p) there = found_truth names w (Tick p) (sites_itself p) there
said_back names w (Kept p b) there = found_truth names w (Kept p b) (kept_itself p b) there
said_back names w Next there = refl
said_back names w (Input j b) there = found_truth names w (Input j b) (input_itself j b) there
said_back names w (Test p side) there = found_truth names w (Test p side) (test_itself p side) there

first_read : (names : List Variable) (v : Numbered) (k : ℕ) → k < length names → (slice_index_or names k Next ≡ Next → ⊥)
    → ((j : ℕ) → j < k → slice_index_or names j Next ≡ slice_index_or names k Next → ⊥)
    → truth_at names v (slice_index_or names k Next) ≡ v k
unfolding truth_at
first_read [] v k lt not once = absurd (omega arith)
first_read (y ∷ ys) v zero lt not once = λ i. cond (own_name y not i) (v 0) (truth_at ys (λ j. v (suc j)) y)
first_read (y ∷ ys) v (suc k) lt not once = by (same_variable y (slice_index_or ys k Next)) refl
    (first_read ys (λ j. v (suc j)) k (omega arith) not (λ j less. once (suc j) (omega arith)))
  where
    by : (b : Bool) → same_variable y (slice_index_or ys k Next) ≡ b → truth_at ys (λ j. v (suc j)) (slice_index_or ys k Next) ≡ v (suc k)
        → cond b (v 0) (truth_at ys (λ j. v (suc j)) (slice_index_or ys k Next)) ≡ v (suc k)
    by true e later = absurd (once 0 (omega arith) (variable_told y (slice_index_or ys k Next) e))
    by false e later = later

named_read : (names : List Variable) (v : Numbered) (x : Variable) → (x ≡ Next → ⊥) → truth_of (by_names names v) x ≡ truth_at names v x
named_read names v Next not = absurd (not refl)
named_read names v _ not = refl

pub read_back : (names : List Variable) (v : Numbered) (k : ℕ) → k < length names → (slice_index_or names k Next ≡ Next → ⊥)
    → ((j : ℕ) → j < k → slice_index_or names j Next ≡ slice_index_or names k Next → ⊥)
    → by_numbers names (by_names names v) k ≡ v k
read_back names v k lt not once = named_read names v (slice_index_or names k Next) not ∙ first_read names v k lt not once
