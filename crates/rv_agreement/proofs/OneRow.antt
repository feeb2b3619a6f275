-- A flat system has exactly one row for what an instant finds, whatever its expressions are read as.
use Rattle.std.proofs.Common.{◌≡◌, ℕ, zero, suc, ◌+◌, ◌<◌, ◌≤◌, not, cond, List, [], ◌∷◌, ◌++◌, length, refl, sym, ◌∙◌, subst, ap, arith, length-append, inl}
use Rattle.std.proofs.Common.{inr, Option, None as Nothing, Some}
use Rattle.std.proofs.{lemmas.List.get_or_append_left, lemmas.List.get_or_push, lemmas.List.ext_get_or, Math.Nat.eq-or-lt_of_le}
use Rattle.std.specs.Prelude.{nat_le}
use Rattle.rv_tree.specs.Places.{Sites}
use Rattle.rv_types.specs.declared.typed.Kind.{Kind}
use Rattle.rv_types.specs.declared.typed.Kind.TheVariants as kind
use Rattle.rv_agreement.specs.Trees.{FlatTree, Node, TreeForm, FlatTrees, Flow, Not, Binary, Scale, If, AtMostOne, When, Current, None, More, Item, nth_item}
use Rattle.rv_agreement.specs.Trees.{System, kind_at}
use Rattle.rv_agreement.specs.Evaluation.{Reads, Found, IsInstant, nth, is_on, held, is_there, value, form_value, trues, item_value}
use Rattle.rv_meaning.proofs.Below.{each_below}
use Rattle.rv_agreement.specs.Agreement.{Fits, FormFits, AllFit, ItemFits, IsNamed, IsWell}

module _ (V : Type 0) (r : Reads V) (s : System) (found : Found V) where
  -- two rows that agree on the first flows, as many as are said
  module _ (row other : List (Option V)) (n : ℕ) (agree : (k : ℕ) → k < n → nth V r row k ≡ nth V r other k) where
    same_clock : (k : Option ℕ) → IsNamed n k → is_there V r row k ≡ is_there V r other k
    same_clock Nothing fit = refl
    same_clock (Some k) fit = ap (is_on V r) (agree k fit)

    mutual
      same_value : (k : Option ℕ) (j : Kind) (e : FlatTree) → Fits s n k j e → value V r found row e ≡ value V r found other e
      same_value k j (Node at form) fit = same_form k j at form fit

      same_form : (k : Option ℕ) (j : Kind) (at : Sites) (form : TreeForm) → FormFits s n k j at form
          → form_value V r found row at form ≡ form_value V r found other at form
      same_form k j at (Flow c) fit = ap (held V r) (agree c fit.0)
      same_form k j at (Not e) fit = ap (λ v. r.flag (not (r.truth v))) (same_value k kind.Bool e fit.1)
      same_form k j at (Binary o a b) fit = λ t. r.operate at o (same_value k fit.0 a fit.3 t) (same_value k fit.0 b fit.4 t)
      same_form k j at (Scale z e) fit = ap (r.scale z) (same_value k kind.Int e fit.1)
      same_form k j at (If c a b) fit = λ t. cond (r.truth (same_value k kind.Bool c fit.0 t)) (same_value k j a fit.1 t) (same_value k j b fit.2 t)
      same_form k j at (AtMostOne es) fit = ap (λ c. r.flag (nat_le c 1)) (same_trues k es fit.1)
      same_form k j at (When c e) fit = same_value (nth_item s.flows c).clock j e fit.2
      same_form k j at (Current m i e) fit = λ t. cond (same_clock i fit.3 t) (same_value i j e fit.4 t) (found.kept m)
      same_form k j at _ fit = refl

      same_trues : (k : Option ℕ) (es : FlatTrees) → AllFit s n k es → trues V r found row es ≡ trues V r found other es
      same_trues k None fit = refl
      same_trues k (More e es) fit = λ t. cond (r.truth (same_value k kind.Bool e fit.0 t)) 1 0 + same_trues k es fit.1 t

    same_item : (j : Kind) (x : Item) → ItemFits s n j x → item_value V r found row x ≡ item_value V r found other x
    same_item j x fit = λ t. cond (same_clock x.clock fit.0 t) (Some (same_value x.clock j x.body fit.1 t)) Nothing

  -- the first flows, as many as are said
  record IsFilled (n : ℕ) (row : List (Option V)) : Type 0 where
    flows : length row ≡ n
    holds : (k : ℕ) → k < n → nth V r row k ≡ item_value V r found row (nth_item s.flows k)

  module _ (well : IsWell s) where
    -- one flow more
    one_filled : (n : ℕ) (row : List (Option V)) (x : Option V) → n < length s.flows → x ≡ item_value V r found row (nth_item s.flows n)
        → IsFilled n row → IsFilled (n + 1) (row ++ x ∷ [])
    one_filled n row x lt is filled =
        let agree : (k : ℕ) → k < n → nth V r row k ≡ nth V r (row ++ x ∷ []) k = λ k less. sym
        (get_or_append_left row (x ∷ []) Nothing k (omega (arith, filled.flows))) in
        record {
          flows = omega (arith, length-append row (x ∷ []), filled.flows);
          holds = λ k less. elim (eq-or-lt_of_le {n = k} {m = n} (omega arith)) [
            | inl at_end ↦ subst (λ j. nth V r (row ++ x ∷ []) j ≡ item_value V r found (row ++ x ∷ []) (nth_item s.flows j)) (sym at_end)
                (get_or_push row x Nothing n filled.flows ∙ is ∙ same_item row (row ++ x ∷ []) n agree (kind_at s.kinds n) (nth_item s.flows n)
                (well.flows n lt))
            | inr below ↦ sym (agree k below) ∙ filled.holds k below
                ∙ same_item row (row ++ x ∷ []) k (λ j under. agree j (omega arith)) (kind_at s.kinds k) (nth_item s.flows k) (well.flows k (omega arith))
          ];
        }

    filled_row : (n : ℕ) → n ≤ length s.flows → (row : List (Option V)) × IsFilled n row
    filled_row zero le = ([], record { flows = refl; holds = λ k lt. absurd (omega arith) })
    filled_row (suc n) le =
        let before = filled_row n (omega arith) in
        let next = item_value V r found before.0 (nth_item s.flows n) in
        let more = before.0 ++ next ∷ [] in
        (more, subst (λ k. IsFilled k more) (let e : n + 1 ≡ suc n = omega arith in e) (one_filled n before.0 next (omega arith) refl before.1))

    -- two instants agree
    only_row : (row other : List (Option V)) → IsInstant V r s found row → IsInstant V r s found other → other ≡ row
    only_row row other a b = ext_get_or Nothing other row (b.flows ∙ sym a.flows) (λ k lt.
        each_below (λ k. nth V r other k ≡ nth V r row k) (length s.flows) (λ n less before.
        b.holds n less ∙ same_item other row n before (kind_at s.kinds n) (nth_item s.flows n) (well.flows n less) ∙ sym (a.holds n less))
        k (omega (arith, b.flows)))

    pub one_row : (row : List (Option V)) × IsInstant V r s found row × ((other : List (Option V)) → IsInstant V r s found other → other ≡ row)
    one_row =
        let filled = filled_row (length s.flows) (omega arith) in
        let instant : IsInstant V r s found filled.0 = record { flows = filled.1.flows; holds = filled.1.holds } in
        (filled.0, instant, λ other is. only_row filled.0 other instant is)
