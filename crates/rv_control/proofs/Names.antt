-- What a valuation by names says of a variable is what it says by numbers.
use Rattle.std.proofs.Common.{◌≡◌, inl, inr, ℕ, suc, ◌*◌, ◌<◌, Bool, true, false, cond, nat_eq, List, [], ◌∷◌, ◌++◌, length, refl, sym, ◌∙◌, ap, subst, arith}
use Rattle.std.proofs.Common.{Option, Some, None as Nothing}
use Rattle.std.proofs.lemmas.Bool.{and_parts, eqb-true, eq-eqb, and_from}
use Rattle.std.specs.{Prelude.slice_index_or, List.Contains}
use Rattle.rv_tree.specs.Places.{Sites}
use Rattle.rv_types.specs.Lists.{Side, AtMost, AtLeast, Variable, MainTick, Tick, Kept, Next, Input, Test, with_copies}
use Rattle.rv_diagram.specs.Nodes.{Valuation as Numbered}
use Rattle.rv_agreement.specs.{Checks.same_sites, Checks.same_flow, Valuations.Valuation}
use Rattle.rv_agreement.proofs.Chosen.{sites_itself, flow_itself, sites_told, flow_told}
use Rattle.rv_control.specs.{Named.same_side, Named.same_variable, Named.truth_at, Named.tick_variable, Named.truth_of, Named.by_numbers, Control.tick_index}
use Rattle.rv_types.proofs.{Members.cons_cases, Members.in_tail, Members.nothing_in, ChainLaws.no_flag}

pub side_told : (a b : Side) → same_side a b ≡ true → a ≡ b
side_told AtMost AtMost e = refl
side_told AtMost AtLeast e = no_flag e
side_told AtLeast AtMost e = no_flag e
side_told AtLeast AtLeast e = refl

pub side_itself : (a : Side) → same_side a a ≡ true
side_itself AtMost = refl
side_itself AtLeast = refl

pub variable_told : (y x : Variable) → same_variable y x ≡ true → y ≡ x
variable_told MainTick MainTick e = refl
variable_told (Tick p) (Tick q) e = ap Tick (sites_told p q e)
variable_told (Kept p a) (Kept q b) e = let r = and_parts (same_sites p q) (nat_eq a b) e in λ i. Kept (sites_told p q r.0 i) (eqb-true a b r.1 i)
variable_told (Input j a) (Input k b) e = let r = and_parts (nat_eq j k) (nat_eq a b) e in λ i. Input (eqb-true j k r.0 i) (eqb-true a b r.1 i)
variable_told (Test p s) (Test q t) e = let r = and_parts (same_sites p q) (same_side s t) e in λ i. Test (sites_told p q r.0 i) (side_told s t r.1 i)
variable_told _ _ e = no_flag e

-- each but a next copy has its own name
pub tick_itself : (t : Option Sites) → same_variable (tick_variable t) (tick_variable t) ≡ true
tick_itself Nothing = refl
tick_itself (Some p) = sites_itself p

pub kept_itself : (p : Sites) (b : ℕ) → same_variable (Kept p b) (Kept p b) ≡ true
kept_itself p b = and_from (same_sites p p) (nat_eq b b) (sites_itself p) (eq-eqb b b refl)

pub input_itself : (j b : ℕ) → same_variable (Input j b) (Input j b) ≡ true
input_itself j b = and_from (nat_eq j j) (nat_eq b b) (eq-eqb j j refl) (eq-eqb b b refl)

pub test_itself : (p : Sites) (s : Side) → same_variable (Test p s) (Test p s) ≡ true
test_itself p s = and_from (same_sites p p) (same_side s s) (sites_itself p) (side_itself s)

pub unnamed : (x : Variable) → same_variable Next x ≡ false
unnamed MainTick = refl
unnamed (Tick p) = refl
unnamed (Kept p b) = refl
unnamed Next = refl
unnamed (Input j b) = refl
unnamed (Test p s) = refl

-- A variable that is listed is read as it is by name.
pub found_truth : (names : List Variable) (w : Valuation) (x : Variable) → same_variable x x ≡ true → Contains names x
    → truth_at names (by_numbers names w) x ≡ truth_of w x
unfolding truth_at
found_truth [] w x is c = nothing_in x c
found_truth (y ∷ ys) w x is c = by (same_variable y x) refl (found_truth ys w x is)
  where
    by : (b : Bool) → same_variable y x ≡ b → (Contains ys x → truth_at ys (by_numbers ys w) x ≡ truth_of w x)
        → cond b (truth_of w y) (truth_at ys (by_numbers ys w) x) ≡ truth_of w x
    by true e later = ap (truth_of w) (variable_told y x e)
    by false e later = elim (cons_cases y ys x c) [ inl same ↦ no_flag (sym e ∙ subst (λ z. same_variable z x ≡ true) (sym same) is) | inr rest ↦ later rest ]

-- Valuations that agree at all variables but next copies are read alike.
pub same_truth : (names : List Variable) (v u : Numbered) (x : Variable)
    → ((k : ℕ) → k < length names → (slice_index_or names k Next ≡ Next → ⊥) → v k ≡ u k) → truth_at names v x ≡ truth_at names u x
unfolding truth_at
same_truth [] v u x agree = refl
same_truth (y ∷ ys) v u x agree = by (same_variable y x) refl
    (same_truth ys (λ k. v (suc k)) (λ k. u (suc k)) x (λ k lt not. agree (suc k) (omega (arith, lt)) not))
  where
    by : (b : Bool) → same_variable y x ≡ b → truth_at ys (λ k. v (suc k)) x ≡ truth_at ys (λ k. u (suc k)) x
        → cond b (v 0) (truth_at ys (λ k. v (suc k)) x) ≡ cond b (u 0) (truth_at ys (λ k. u (suc k)) x)
    by true e later = agree 0 (omega arith) (λ is. no_flag (sym (unnamed x) ∙ sym (ap (λ z. same_variable z x) is) ∙ e))
    by false e later = later

-- the same where they agree at all
pub agreed_truth : (names : List Variable) (v u : Numbered) (x : Variable) → ((k : ℕ) → k < length names → v k ≡ u k) → truth_at names v x ≡ truth_at names u x
agreed_truth names v u x agree = same_truth names v u x (λ k lt not. agree k lt)

-- What is none of these variables is read as false.
pub none_truth : (names : List Variable) (v : Numbered) (x : Variable) → ((y : Variable) → Contains names y → same_variable y x ≡ false)
    → truth_at names v x ≡ false
unfolding truth_at
none_truth [] v x none = refl
none_truth (y ∷ ys) v x none = (λ i. cond (none y (0, omega arith, refl) i) (v 0) (truth_at ys (λ k. v (suc k)) x))
    ∙ none_truth ys (λ k. v (suc k)) x (λ z w. none z (in_tail y ys z w))

-- A state bit is read at its own variable, next copies left out.
pub state_truth : (bits rest : List Variable) (v : Numbered) (x : Variable) → ((y : Variable) → Contains rest y → same_variable y x ≡ false)
    → truth_at (with_copies bits ++ rest) v x ≡ truth_at bits (λ i. v (2 * i)) x
unfolding truth_at
state_truth [] rest v x none = none_truth rest v x none
state_truth (y ∷ ys) rest v x none =
    let later = state_truth ys rest (λ k. v (suc (suc k))) x none in
    let doubled : (i : ℕ) → suc (suc (2 * i)) ≡ 2 * suc i = λ i. omega arith in
    (λ t. cond (same_variable y x) (v 0) (cond (unnamed x t) (v 1) (later t)))
    ∙ (λ t. cond (same_variable y x) (v 0) (truth_at ys (λ i. v (doubled i t)) x))

-- the number of a tick that is there
pub tick_found : (ts : List (Option Sites)) (t : Option Sites) → Contains ts t
    → (tick_index ts t < length ts) × (slice_index_or ts (tick_index ts t) Nothing ≡ t)
unfolding tick_index
tick_found [] t w = nothing_in t w
tick_found (u ∷ us) t w = by (same_flow u t) refl (tick_found us t)
  where
    by : (b : Bool) → same_flow u t ≡ b → (Contains us t → (tick_index us t < length us) × (slice_index_or us (tick_index us t) Nothing ≡ t))
        → (cond b 0 (suc (tick_index us t)) < length (u ∷ us)) × (slice_index_or (u ∷ us) (cond b 0 (suc (tick_index us t))) Nothing ≡ t)
    by true e later = (omega arith, flow_told u t e)
    by false e later = elim (cons_cases u us t w) [
      | inl same ↦ no_flag (sym e ∙ subst (λ z. same_flow z t ≡ true) (sym same) (flow_itself t))
      | inr rest ↦ let r = later rest in (omega (arith, r.0), r.1)
    ]

-- Where all is false, so is each variable by its name.
pub false_truth : (names : List Variable) (v : Numbered) (x : Variable) → ((k : ℕ) → v k ≡ false) → truth_at names v x ≡ false
unfolding truth_at
false_truth [] v x none = refl
false_truth (y ∷ ys) v x none = by (same_variable y x) (none 0) (false_truth ys (λ k. v (suc k)) x (λ k. none (suc k)))
  where
    by : (b : Bool) → v 0 ≡ false → truth_at ys (λ k. v (suc k)) x ≡ false → cond b (v 0) (truth_at ys (λ k. v (suc k)) x) ≡ false
    by true e later = e
    by false e later = later

-- What a function says of a variable that is listed, read by its name.
pub found_by : (F : Variable → Bool) (names : List Variable) (x : Variable) → same_variable x x ≡ true → Contains names x
    → truth_at names (λ k. F (slice_index_or names k Next)) x ≡ F x
unfolding truth_at
found_by F [] x is c = nothing_in x c
found_by F (y ∷ ys) x is c = by (same_variable y x) refl (found_by F ys x is)
  where
    by : (b : Bool) → same_variable y x ≡ b → (Contains ys x → truth_at ys (λ k. F (slice_index_or ys k Next)) x ≡ F x)
        → cond b (F y) (truth_at ys (λ k. F (slice_index_or ys k Next)) x) ≡ F x
    by true e later = ap F (variable_told y x e)
    by false e later = elim (cons_cases y ys x c) [ inl same ↦ no_flag (sym e ∙ subst (λ z. same_variable z x ≡ true) (sym same) is) | inr rest ↦ later rest ]
