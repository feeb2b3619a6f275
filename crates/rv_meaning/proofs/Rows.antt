-- Places as keys of a row, and what a row has after one more place is written.
use Rattle.std.proofs.Common.{◌≡◌, Bool, true, false, cond, refl, sym, ◌∙◌, ap, arith, ◌⊎◌, inl, inr, Option, Some, Ordering, Equal}
use Rattle.std.proofs.{lemmas.Bool.false_from_ne_true, lemmas.Cmp.nat_list_cmp_total, lemmas.Cmp.tied_itself}
use Rattle.std.specs.{Ordering.is_eq, Ordering.eq_by_cmp, Ordering.nat_cmp, Cmp.Lexicographic.slice_cmp, FinMap.slice_cmp-IsAntisymmetric}
use Rattle.std.specs.{FinMap.nat_cmp-IsAntisymmetric, FinMap.get-insert}
use Rattle.std.specs.FinMap as map
use Rattle.rv_base.specs.declared.value.Value.{Value}
use Rattle.rv_tree.specs.Places.{Sites}
use Rattle.rv_meaning.specs.Runs.{Instant}

-- places in a map
pub only_equal : (r : Ordering) → is_eq r ≡ true → r ≡ Equal
only_equal Equal e = refl
only_equal _ e = grind arith

-- the order of places cannot tell them apart
abbrev pub ties : Sites → Sites → Bool
ties q p = eq_by_cmp (slice_cmp nat_cmp) q p

-- then they are equal
pub same_place : (q p : Sites) → ties q p ≡ true → q ≡ p
same_place q p e = slice_cmp-IsAntisymmetric nat_cmp-IsAntisymmetric q p (only_equal (slice_cmp nat_cmp q p) e)

-- a place ties with itself
pub ties_itself : (p : Sites) → ties p p ≡ true
ties_itself p = ap is_eq (tied_itself nat_list_cmp_total p)

-- what is written is read
pub get_same : (m : Instant) (p : Sites) (v : Option Value) → map.get (map.insert m p v) p ≡ Some v
get_same m p v = get-insert nat_list_cmp_total m p v p ∙ ap (λ b. cond b (Some v) (map.get m p)) (ties_itself p)

-- and nothing else is changed
pub get_other : (m : Instant) (p q : Sites) (v : Option Value) → (q ≡ p → ⊥) → map.get (map.insert m p v) q ≡ map.get m q
get_other m p q v n = get-insert nat_list_cmp_total m p v q
    ∙ ap (λ b. cond b (Some v) (map.get m q)) (false_from_ne_true (ties q p) (λ e. n (same_place q p e)))

-- false is not true
pub no_flag : false ≡ true → ⊥
no_flag e = grind arith

-- two places are equal or not
pub one_or_other : (q p : Sites) → (q ≡ p) ⊎ (q ≡ p → ⊥)
one_or_other q p = elim (ties q p) as (λ b. ties q p ≡ b → (q ≡ p) ⊎ (q ≡ p → ⊥))
    [ true ↦ λ e. inl (same_place q p e) | false ↦ λ e. inr (λ is. no_flag (sym e ∙ ap (λ r. ties r p) is ∙ ties_itself p)) ] refl
