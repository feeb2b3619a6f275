-- The computed symbolic instant is the symbolic instant.
use Rattle.std.proofs.Common.{◌≡◌, ℕ, zero, suc, ◌+◌, ◌<◌, ◌≤◌, not, cond, List, [], ◌∷◌, ◌++◌, length, refl, sym, ◌∙◌, subst, ap, arith, length-append, inl}
use Rattle.std.proofs.Common.{inr, Option, None as Nothing, Some}
use Rattle.std.proofs.{lemmas.List.get_or_append_left, lemmas.List.get_or_push, Math.Nat.eq-or-lt_of_le}
use Rattle.std.specs.Prelude.{nat_le}
use Rattle.rv_tree.specs.Places.{Sites}
use Rattle.rv_types.specs.declared.typed.Kind.{Kind}
use Rattle.rv_types.specs.declared.typed.Kind.TheVariants as kind
use Rattle.rv_agreement.specs.Trees.{FlatTree, Node, TreeForm, FlatTrees, Flow, Not, Binary, Scale, If, AtMostOne, When, Current, None, More, Item, nth_item}
use Rattle.rv_agreement.specs.Trees.{System, kind_at}
use Rattle.rv_agreement.specs.Evaluation.{Reads, Found, nth, is_on, held, is_there, value, form_value, trues, item_value}
use Rattle.rv_agreement.specs.Agreement.{Fits, FormFits, AllFit, ItemFits, IsNamed, IsWell}
use Rattle.rv_agreement.specs.Valuations.{Valuation, Reading, IsSymbolic, reads_at, found_at}
use Rattle.rv_control.specs.Symbolic.{first_readings, symbolic}

module _ (V : Type 0) (r : Reads V) (s : System) (found : Found V) (row other : List (Option V)) (n : ℕ)
    (agree : (k : ℕ) → k < n → nth V r row k ≡ nth V r other k) where
  -- two rows that agree on the first flows, as many as are said
  same_clock : (k : Option ℕ) → IsNamed n k → is_there V r row k ≡ is_there V r other k
  same_clock Nothing fit = refl
  same_clock (Some k) fit = ap (is_on V r) (agree k fit)

  mutual
    same_value : (k : Option ℕ) (j : Kind) (e : FlatTree) → Fits s n k j e → value V r found row e ≡ value V r found other e
    same_value k j (Node at form) fit = same_form k j at form fit

    same_form : (k : Option ℕ) (j : Kind) (at : Sites) (form : TreeForm) → FormFits s n k j at form
        → form_value V r found row at form ≡ form_value V r found other at form
    same_form k j at (Flow c) fit = ap (held V r) (agree c fit.0)
    same_form k j at (Not e) fit = ap (λ v. r.flag (not (r.truth v))) (same_value k kind.Bool e fit.1)
    same_form k j at (Binary o a b) fit = λ t. r.operate at o (same_value k fit.0 a fit.3 t) (same_value k fit.0 b fit.4 t)
    same_form k j at (Scale z e) fit = ap (r.scale z) (same_value k kind.Int e fit.1)
    same_form k j at (If c a b) fit = λ t. cond (r.truth (same_value k kind.Bool c fit.0 t)) (same_value k j a fit.1 t) (same_value k j b fit.2 t)
    same_form k j at (AtMostOne es) fit = ap (λ c. r.flag (nat_le c 1)) (same_trues k es fit.1)
    same_form k j at (When c e) fit = same_value (nth_item s.flows c).clock j e fit.2
    same_form k j at (Current m i e) fit = λ t. cond (same_clock i fit.3 t) (same_value i j e fit.4 t) (found.kept m)
    same_form k j at _ fit = refl

    same_trues : (k : Option ℕ) (es : FlatTrees) → AllFit s n k es → trues V r found row es ≡ trues V r found other es
    same_trues k None fit = refl
    same_trues k (More e es) fit = λ t. cond (r.truth (same_value k kind.Bool e fit.0 t)) 1 0 + same_trues k es fit.1 t

  same_item : (j : Kind) (x : Item) → ItemFits s n j x → item_value V r found row x ≡ item_value V r found other x
  same_item j x fit = λ t. cond (same_clock x.clock fit.0 t) (Some (same_value x.clock j x.body fit.1 t)) Nothing

module _ (s : System) (w : Valuation) (well : IsWell s) where
  abbrev item_at : List (Option Reading) → ℕ → Option Reading
  item_at row k = item_value Reading (reads_at s w) (found_at s w) row (nth_item s.flows k)

  -- the first flows, as many as are said
  record IsFilled (n : ℕ) (row : List (Option Reading)) : Type 0 where
    flows : length row ≡ n
    holds : (k : ℕ) → k < n → nth Reading (reads_at s w) row k ≡ item_at row k

  -- one flow more
  one_filled : (n : ℕ) (row : List (Option Reading)) → n < length s.flows → IsFilled n row → IsFilled (suc n) (row ++ item_at row n ∷ [])
  one_filled n row lt filled =
      let x = item_at row n in
      let agree : (k : ℕ) → k < n → nth Reading (reads_at s w) row k ≡ nth Reading (reads_at s w) (row ++ x ∷ []) k = λ k less. sym
      (get_or_append_left row (x ∷ []) Nothing k (omega (arith, filled.flows))) in
      record {
        flows = omega (arith, length-append row (x ∷ []), filled.flows);
        holds = λ k less. elim (eq-or-lt_of_le {n = k} {m = n} (omega arith)) [
          | inl at_end ↦ subst (λ j. nth Reading (reads_at s w) (row ++ x ∷ []) j ≡ item_at (row ++ x ∷ []) j) (sym at_end)
              (get_or_push row x Nothing n filled.flows ∙ same_item Reading (reads_at s w) s (found_at s w) row (row ++ x ∷ []) n agree (kind_at s.kinds n)
              (nth_item s.flows n) (well.flows n lt))
          | inr below ↦ sym (agree k below) ∙ filled.holds k below
              ∙ same_item Reading (reads_at s w) s (found_at s w) row (row ++ x ∷ []) k (λ j under. agree j (omega arith)) (kind_at s.kinds k)
              (nth_item s.flows k) (well.flows k (omega arith))
        ];
      }

  filled_row : (n : ℕ) → n ≤ length s.flows → IsFilled n (first_readings s w n)
  unfolding first_readings
  filled_row zero le = record { flows = refl; holds = λ k lt. absurd (omega arith) }
  filled_row (suc n) le = one_filled n (first_readings s w n) (omega arith) (filled_row n (omega arith))

  pub is_symbolic : IsSymbolic s w (symbolic s w)
  unfolding symbolic
  is_symbolic = let filled = filled_row (length s.flows) (omega arith) in record { flows = filled.flows; holds = filled.holds }
