-- The values of a trace that fits are values of the flat system: of its types, and within the range.
use Rattle.std.proofs.Common.{◌≡◌, ◌<◌, ◌^◌, ℕ, zero, suc, true, false, List, [], ◌∷◌, length, map, get_or, refl, sym, subst, arith}
use Rattle.std.proofs.{lemmas.Bool.lt-ltb, lemmas.Bool.ltb-true, lemmas.Int.ints}
use Rattle.std.specs.{Prelude.◌≤ℤ◌, Prelude.◌<ℤ◌, Prelude.◌-ℤ◌, Prelude.ℤ, Prelude.pos, Prelude.Some, Prelude.slice_get, List.All, List.AllByRecursion}
use Rattle.rv_base.specs.declared.value.Value.TheVariants.{Flag, Label, Whole}
use Rattle.rv_base.specs.{declared.value.Trace.Trace, declared.value.Value.Value}
use Rattle.rv_types.specs.declared.typed.Kind.{Kind}
use Rattle.rv_types.specs.declared.typed.Kind.TheVariants as kind
use Rattle.rv_agreement.specs.Checks.{constant_fits}
use Rattle.rv_flat.specs.{declared.flat.Flat.Flat, Steps.AreValues, Steps.IsInRange, Steps.input_kinds, Steps.memory_kinds}
use Rattle.rv_invfile.specs.{Texts.HasKind, Texts.Labels, Texts.greatest, Texts.least, Traces.Fits, Traces.HaveKinds, Traces.IsTraceOf}
use Rattle.rv_invfile.proofs.Adding.{kinds-length}

length-at : (labels : Labels) (e : ℕ) → get_or (map (λ (ls : List (List ℕ)). length ls) labels) e 0 ≡ length (get_or labels e [])
length-at [] e = refl
length-at (l ∷ ls) zero = refl
length-at (l ∷ ls) (suc e) = length-at ls e

low : (z : ℤ) → least ≤ℤ z → (pos 0 -ℤ pos (2 ^ 63)) ≤ℤ z
low z h = omega (arith, ints)

high : (z : ℤ) → z ≤ℤ greatest → z <ℤ pos (2 ^ 63)
high z h = omega (arith, ints)

low-back : (z : ℤ) → (pos 0 -ℤ pos (2 ^ 63)) ≤ℤ z → least ≤ℤ z
low-back z h = omega (arith, ints)

high-back : (z : ℤ) → z <ℤ pos (2 ^ 63) → z ≤ℤ greatest
high-back z h = omega (arith, ints)

-- ---- One value.
typed : (labels : Labels) (k : Kind) (v : Value) → HasKind labels k v → (constant_fits (map (λ (ls : List (List ℕ)). length ls) labels) k v ≡ true)
    × IsInRange v
typed labels kind.Bool (Flag b) h = (refl, tt)
typed labels kind.Bool (Label n) h = absurd h
typed labels kind.Bool (Whole z) h = absurd h
typed labels kind.Int (Flag b) h = absurd h
typed labels kind.Int (Label n) h = absurd h
typed labels kind.Int (Whole z) h = (refl, (low z h.0, high z h.1))
typed labels (kind.Labels e) (Flag b) h = absurd h
typed labels (kind.Labels e) (Label n) h = (
  lt-ltb n (get_or (map (λ (ls : List (List ℕ)). length ls) labels) e 0)
      (subst (λ m. n < m) (sym (length-at labels e)) h),
  tt,
)
typed labels (kind.Labels e) (Whole z) h = absurd h

back : (labels : Labels) (k : Kind) (v : Value) → constant_fits (map (λ (ls : List (List ℕ)). length ls) labels) k v ≡ true → IsInRange v → HasKind labels k v
back labels kind.Bool (Flag b) h r = tt
back labels kind.Bool (Label n) h r = cc
back labels kind.Bool (Whole z) h r = cc
back labels kind.Int (Flag b) h r = cc
back labels kind.Int (Label n) h r = cc
back labels kind.Int (Whole z) h r = (low-back z r.0, high-back z r.1)
back labels (kind.Labels e) (Flag b) h r = cc
back labels (kind.Labels e) (Label n) h r = subst (λ m. n < m) (length-at labels e) (ltb-true n (get_or (map (λ (ls : List (List ℕ)). length ls) labels) e 0) h)
back labels (kind.Labels e) (Whole z) h r = cc

-- ---- Lists of values.
same-kind : (x j : Kind) → Some x ≡ Some j → x ≡ j
same-kind x j e = cc

kind-at : (labels : Labels) (ks : List Kind) (vs : List Value) → HaveKinds labels ks vs → (k : ℕ) (j : Kind) → slice_get ks k ≡ Some j
    → HasKind labels j (get_or vs k (Flag false))
kind-at labels [] [] h k j e = cc
kind-at labels [] (v ∷ vs) h k j e = absurd h
kind-at labels (x ∷ ks) [] h k j e = absurd h
kind-at labels (x ∷ ks) (v ∷ vs) h zero j e = subst (λ y. HasKind labels y v) (same-kind x j e) h.0
kind-at labels (x ∷ ks) (v ∷ vs) h (suc k) j e = kind-at labels ks vs h.1 k j e

range-at : (labels : Labels) (ks : List Kind) (vs : List Value) → HaveKinds labels ks vs → (k : ℕ) → k < length vs → IsInRange (get_or vs k (Flag false))
range-at labels [] [] h k lt = absurd (omega (arith, lt))
range-at labels [] (v ∷ vs) h k lt = absurd h
range-at labels (x ∷ ks) [] h k lt = absurd h
range-at labels (x ∷ ks) (v ∷ vs) h zero lt = (typed labels x v h.0).1
range-at labels (x ∷ ks) (v ∷ vs) h (suc k) lt = range-at labels ks vs h.1 k (omega (arith, lt))

are-values : (f : Flat) (ks : List Kind) (vs : List Value) → HaveKinds f.labels ks vs → AreValues f ks vs
are-values f ks vs h = record {
  size = kinds-length f.labels ks vs h;
  typed = λ k j lt e. (typed f.labels j (get_or vs k (Flag false)) (kind-at f.labels ks vs h k j e)).0;
  within = λ k lt. range-at f.labels ks vs h k lt;
}

have-kinds : (labels : Labels) (ks : List Kind) (vs : List Value) → length vs ≡ length ks
    → ((k : ℕ) (j : Kind) → k < length ks → slice_get ks k ≡ Some j → constant_fits (map (λ (ls : List (List ℕ)). length ls) labels) j
    (get_or vs k (Flag false)) ≡ true)
    → ((k : ℕ) → k < length vs → IsInRange (get_or vs k (Flag false))) → HaveKinds labels ks vs
have-kinds labels [] [] s t w = tt
have-kinds labels [] (v ∷ vs) s t w = absurd (omega (arith, s))
have-kinds labels (k ∷ ks) [] s t w = absurd (omega (arith, s))
have-kinds labels (k ∷ ks) (v ∷ vs) s t w = (
  back labels k v (t 0 k (omega arith) refl) (w 0 (omega arith)),
  have-kinds labels ks vs (omega (arith, s)) (λ i j lt e. t (suc i) j (omega (arith, lt)) e)
      (λ i lt. w (suc i) (omega (arith, lt))),
)

all-of : {X : Type 0} (P Q : X → Type 0) → ((x : X) → P x → Q x) → (xs : List X) → AllByRecursion P xs → All Q xs
all-of P Q g [] h k d lt = absurd (omega (arith, lt))
all-of P Q g (x ∷ xs) h zero d lt = g x h.0
all-of P Q g (x ∷ xs) h (suc k) d lt = all-of P Q g xs h.1 k d (omega (arith, lt))

each-of : {X : Type 0} (P Q : X → Type 0) → ((x : X) → P x → Q x) → (xs : List X) → All P xs → AllByRecursion Q xs
each-of P Q g [] h = tt
each-of P Q g (x ∷ xs) h = (g x (h 0 x (omega arith)), each-of P Q g xs (λ k d lt. h (suc k) d (omega (arith, lt))))

-- ---- Traces.
pub fits-values : (f : Flat) (t : Trace) → Fits f t → IsTraceOf f t
fits-values f t h = record {
  starts = are-values f (memory_kinds f) t.starts h.starts;
  count = h.count;
  instants = all-of (HaveKinds f.labels (input_kinds f)) (AreValues f (input_kinds f)) (are-values f (input_kinds f)) t.instants h.instants;
}

pub values-fit : (f : Flat) (t : Trace) → IsTraceOf f t → Fits f t
values-fit f t h = record {
  starts = have-kinds f.labels (memory_kinds f) t.starts h.starts.size h.starts.typed h.starts.within;
  count = h.count;
  instants = each-of (AreValues f (input_kinds f)) (HaveKinds f.labels (input_kinds f)) (λ vs a. have-kinds f.labels (input_kinds f) vs a.size a.typed a.within)
      t.instants h.instants;
}
