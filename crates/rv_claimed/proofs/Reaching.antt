-- Lists of multipliers and of entries that grow along a loop.
use Rattle.std.proofs.Common.{◌≡◌, ℕ, ◌+◌, List, [], ◌∷◌, ◌++◌, length, Some, slice_get, arith, sym, ap, ◌∙◌, subst, ◌⊎◌, inl, inr}
use Rattle.std.proofs.{lemmas.Option.same_Some, lemmas.Option.slice_get_within, lemmas.List.length_push}
use Rattle.rv_rows.specs.{declared.linear.Row.Row, declared.farkas.Multipliers.Multipliers}
use Rattle.rv_proofs.specs.{Systems.System, RowClaims.RowClaim, declared.certificate.Entry.Entry, declared.report.Case.Case}
use Rattle.rv_claimed.specs.Certifying.{IsReached, AreReached, IsEntryOf, AreEntriesOf}
use Rattle.rv_base.proofs.Lists.{push_cases}

pub reached_more : (many : ℕ) (given : List Row) (c : Case) (wanted : List Row) (n : ℕ) (reach : List Multipliers) (m : Multipliers) (r : Row)
    → AreReached many given c wanted n reach → slice_get wanted n ≡ Some r → IsReached many given c r m
    → AreReached many given c wanted (n + 1) (reach ++ m ∷ [])
reached_more many given c wanted n reach m r are at here = record {
  size = let s = are.size in omega (arith, s, length_push reach m);
  each = λ k w x w_at x_at. go k w x w_at (push_cases reach m x k x_at);
}
  where
    go : (k : ℕ) (w : Row) (x : Multipliers) → slice_get wanted k ≡ Some w → (slice_get reach k ≡ Some x) ⊎ ((k ≡ length reach) × (m ≡ x))
        → IsReached many given c w x
    go k w x w_at (inl x_at) = are.each k w x w_at x_at
    go k w x w_at (inr (e, same)) =
        let s = are.size in
        let q : r ≡ w = same_Some r w (sym at ∙ ap (slice_get wanted) (sym (e ∙ s)) ∙ w_at) in
        subst (λ (y : Row). IsReached many given c y x) q (subst (λ (y : Multipliers). IsReached many given c r y) same here)

-- one entry more, for one case more
pub entries_more : (s : System) (c : RowClaim) (given : List Row) (cases : List Case) (es : List Entry) (x : Case) (e : Entry)
    → AreEntriesOf s c given cases es → IsEntryOf s c given x e → AreEntriesOf s c given (cases ++ x ∷ []) (es ++ e ∷ [])
entries_more s c given cases es x e are here = record {
  size = let n = are.size in omega (arith, n, length_push cases x, length_push es e);
  each = λ j y z y_at z_at. go j y z (push_cases cases x y j y_at) (push_cases es e z j z_at);
}
  where
    clash : (j : ℕ) (y : Case) → slice_get cases j ≡ Some y → j ≡ length es → IsEntryOf s c given y e
    clash j y at q = let n = are.size in let l = slice_get_within cases j y at in absurd (omega (arith, n, l, q))

    go : (j : ℕ) (y : Case) (z : Entry) → (slice_get cases j ≡ Some y) ⊎ ((j ≡ length cases) × (x ≡ y)) → (slice_get es j ≡ Some z)
        ⊎ ((j ≡ length es) × (e ≡ z))
        → IsEntryOf s c given y z
    go j y z (inl y_at) (inl z_at) = are.each j y z y_at z_at
    go j y z (inl y_at) (inr (q, same)) = subst (λ (u : Entry). IsEntryOf s c given y u) same (clash j y y_at q)
    go j y z (inr (q, same)) (inl z_at) = let n = are.size in let l = slice_get_within es j z z_at in absurd (omega (arith, n, l, q))
    go j y z (inr (q, same)) (inr (p, also)) = subst (λ (u : Case). IsEntryOf s c given u z) same
        (subst (λ (u : Entry). IsEntryOf s c given x u) also here)
