-- Operands and the types that are wanted of them, one after the other.
use Rattle.std.proofs.Common.{◌≡◌, ℕ, ◌≤◌, zero, suc, ◌&&◌, nat_le, List, [], ◌∷◌, map, drop, length, Option, Some, is_some, refl, ap, ◌∙◌, arith}
use Rattle.std.proofs.Common.{None as Nothing}
use Rattle.std.proofs.{lemmas.Bool.Decides.nat_tests, lemmas.List.drop_all}
use Rattle.rv_tree.specs.{declared.tree.Expr.Expr, Tree.tree_of, Tree.trees}
use Rattle.rv_types.specs.{declared.typed.Kind.Kind, Types.all_typed, Types.fit, Tables.suits_at}

pub typed_more : (k : Option Kind) (ks : List (Option Kind)) → all_typed (k ∷ ks) ≡ (is_some k && all_typed ks)
typed_more Nothing ks = refl
typed_more (Some k) ks = refl

pub fit_more : (ws : List Kind) (n : ℕ) (k : Option Kind) (ks : List (Option Kind)) → fit (drop n ws) (k ∷ ks) ≡ (suits_at ws n k && fit (drop (suc n) ws) ks)
fit_more [] zero k ks = refl
fit_more [] (suc n) k ks = refl
fit_more (w ∷ ws) zero k ks = refl
fit_more (w ∷ ws) (suc n) k ks = fit_more ws n k ks

pub fit_end : (ws : List Kind) (n : ℕ) → fit (drop n ws) [] ≡ nat_le (length ws) n
fit_end [] zero = refl
fit_end [] (suc n) = grind (arith, nat_tests)
fit_end (w ∷ ws) zero = grind (arith, nat_tests)
fit_end (w ∷ ws) (suc n) = fit_end ws n ∙ (let f : nat_le (length ws) n ≡ nat_le (suc (length ws)) (suc n) = grind (arith, nat_tests) in f)

pub none_left : {A : Type 0} (xs : List A) (n : ℕ) → length xs ≤ n → drop n xs ≡ []
none_left xs n h = drop_all n xs h

pub nothing_left : (es : List Expr) (n : ℕ) → length es ≤ n → trees (map tree_of (drop n es)) ≡ trees []
nothing_left es n h = ap (λ l. trees (map tree_of l)) (none_left es n h)
