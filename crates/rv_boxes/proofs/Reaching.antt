-- Lists of multipliers and of entries that grow along a loop.
use Rattle.std.proofs.Common.{◌≡◌, ℕ, ◌+◌, List, [], ◌∷◌, ◌++◌, length, Some, slice_get, arith, sym, ap, ◌∙◌, subst, ◌⊎◌, inl, inr}
use Rattle.std.proofs.lemmas.Option.{same_Some, slice_get_within}
use Rattle.std.proofs.lemmas.List.{length_push}
use Rattle.rv_diagram.specs.declared.frozen.Frozen.{Frozen}
use Rattle.rv_rows.specs.{declared.linear.Row.Row, declared.linear.Form.Form, declared.farkas.Multipliers.Multipliers}
use Rattle.rv_proofs.specs.{Systems.System, Boxes.BoxClaim, declared.certificate.Entry.Entry, declared.report.Case.Case}
use Rattle.rv_boxes.specs.{Built.IsReached, Certifying.AreReached, Certifying.IsEntryOf, Certifying.AreEntriesOf}
use Rattle.rv_base.proofs.Lists.{push_cases}

pub reached_more : (width : ℕ) (premises : List Row) (forms : List Form) (wanted : List Row) (n : ℕ) (reach : List Multipliers) (m : Multipliers) (r : Row)
    → AreReached width premises forms wanted n reach → slice_get wanted n ≡ Some r → IsReached width premises forms r m
    → AreReached width premises forms wanted (n + 1) (reach ++ m ∷ [])
reached_more width premises forms wanted n reach m r are at here = record {
  size = let s = are.size in omega (arith, s, length_push reach m);
  each = λ k w x w_at x_at. go k w x w_at (push_cases reach m x k x_at);
}
  where
    go : (k : ℕ) (w : Row) (x : Multipliers) → slice_get wanted k ≡ Some w → (slice_get reach k ≡ Some x) ⊎ ((k ≡ length reach) × (m ≡ x))
        → IsReached width premises forms w x
    go k w x w_at (inl x_at) = are.each k w x w_at x_at
    go k w x w_at (inr (e, same)) =
        let s = are.size in
        let q : r ≡ w = same_Some r w (sym at ∙ ap (slice_get wanted) (sym (e ∙ s)) ∙ w_at) in
        subst (λ (y : Row). IsReached width premises forms y x) q (subst (λ (y : Multipliers). IsReached width premises forms r y) same here)

module _ (s : System) (c : BoxClaim) (from : Frozen) (given wanted : List Row) where
  -- one entry more, for one case more
  pub entries_more : (cases : List Case) (es : List Entry) (x : Case) (e : Entry) → AreEntriesOf s c from given wanted cases (length cases) es
      → IsEntryOf s c from given wanted x e → AreEntriesOf s c from given wanted (cases ++ x ∷ []) (length (cases ++ x ∷ [])) (es ++ e ∷ [])
  entries_more cases es x e are here = record {
    size = let n = are.size in omega (arith, n, length_push cases x, length_push es e);
    each = λ j y z y_at z_at. go j y z (push_cases cases x y j y_at) (push_cases es e z j z_at);
  }
    where
      clash : (j : ℕ) (y : Case) → slice_get cases j ≡ Some y → j ≡ length es → IsEntryOf s c from given wanted y e
      clash j y at q = let n = are.size in let l = slice_get_within cases j y at in absurd (omega (arith, n, l, q))

      go : (j : ℕ) (y : Case) (z : Entry) → (slice_get cases j ≡ Some y) ⊎ ((j ≡ length cases) × (x ≡ y)) → (slice_get es j ≡ Some z)
          ⊎ ((j ≡ length es) × (e ≡ z))
          → IsEntryOf s c from given wanted y z
      go j y z (inl y_at) (inl z_at) = are.each j y z y_at z_at
      go j y z (inl y_at) (inr (q, same)) = subst (λ (u : Entry). IsEntryOf s c from given wanted y u) same (clash j y y_at q)
      go j y z (inr (q, same)) (inl z_at) = let n = are.size in let l = slice_get_within es j z z_at in absurd (omega (arith, n, l, q))
      go j y z (inr (q, same)) (inr (p, also)) = subst (λ (u : Case). IsEntryOf s c from given wanted u z) same
          (subst (λ (u : Entry). IsEntryOf s c from given wanted x u) also here)
