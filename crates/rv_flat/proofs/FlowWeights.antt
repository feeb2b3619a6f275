-- The weight of each flow is that of its expression.
use Rattle.std.proofs.Common.{◌≡◌, ℕ, zero, suc, ◌+◌, ◌*◌, ◌<◌, max, true, nat_abs, List, [], ◌∷◌, ◌++◌, length, get_or, refl, sym, ◌∙◌, ap, subst, arith}
use Rattle.std.proofs.Common.{length-append}
use Rattle.std.proofs.lemmas.List.{get_or_append_left, get_or_push}
use Rattle.rv_agreement.specs.Checks.{clock_fits, fits, item_fits, flows_fit}
use Rattle.rv_agreement.specs.Trees.{FlatTree, Node, TreeForm, Flow, Binary, Scale, If, When, Current, Item, System, kind_at, nth_item}
use Rattle.rv_flat.specs.Facts.{weight_under, flat_weight, form_flat_weight, is_light, weights_after, items_light}
use Rattle.rv_flat.specs.Tame.{IsOver, FormIsOver}
use Rattle.rv_flat.proofs.NamedTicks.{over}
use Rattle.rv_base.proofs.Truths.{both_of}

-- a weight depends on those of the flows that are named
module _ (ws vs : List ℕ) (n : ℕ) (agree : (k : ℕ) → k < n → get_or ws k 0 ≡ get_or vs k 0) where
  mutual
    pub same_weight : (e : FlatTree) → IsOver n e → flat_weight ws e ≡ flat_weight vs e
    same_weight (Node at form) is = same_form form is

    same_form : (form : TreeForm) → FormIsOver n form → form_flat_weight ws form ≡ form_flat_weight vs form
    same_form (Flow k) is = agree k is
    same_form (Binary o a b) is = λ i. weight_under o (same_weight a is.0 i) (same_weight b is.1 i)
    same_form (Scale z e) is = ap (λ w. nat_abs z * w) (same_weight e is)
    same_form (If c a b) is = λ i. max (same_weight a is.1.0 i) (same_weight b is.1.1 i)
    same_form (When c e) is = same_weight e is
    same_form (Current m k e) is = ap (λ w. max w 1) (same_weight e is.1)
    same_form _ is = refl

-- the weights of earlier flows stay
weights_kept : (ws : List ℕ) (xs : List Item) (i : ℕ) → i < length ws → get_or (weights_after ws xs) i 0 ≡ get_or ws i 0
weights_kept ws [] i lt = refl
weights_kept ws (x ∷ xs) i lt =
    let w = flat_weight ws x.body in
    weights_kept (ws ++ w ∷ []) xs i (omega (arith, length-append ws (w ∷ []))) ∙ get_or_append_left ws (w ∷ []) 0 i lt

-- the k-th flow weighs what its expression does, where all flows have their weights
pub weight_kth : (s : System) (ws : List ℕ) (xs : List Item) (k : ℕ) → flows_fit s (length ws) xs ≡ true → k < length xs
    → get_or (weights_after ws xs) (length ws + k) 0 ≡ flat_weight (weights_after ws xs) (nth_item xs k).body
weight_kth s ws [] k e lt = absurd (omega arith)
weight_kth s ws (x ∷ xs) zero e lt =
    let w = flat_weight ws x.body in
    let here = both_of (item_fits s (length ws) (kind_at s.kinds (length ws)) x) (flows_fit s (length ws + 1) xs) e in
    let parts = both_of (clock_fits s (length ws) x.clock) (fits s (length ws) x.clock (kind_at s.kinds (length ws)) x.body) here.0 in
    ap (λ i. get_or (weights_after (ws ++ w ∷ []) xs) i 0) (let is : length ws + 0 ≡ length ws = omega arith in is)
    ∙ weights_kept (ws ++ w ∷ []) xs (length ws) (omega (arith, length-append ws (w ∷ [])))
    ∙ get_or_push ws w 0 (length ws) refl
    ∙ same_weight ws (weights_after (ws ++ w ∷ []) xs) (length ws) (λ i less. sym (weights_kept ws (x ∷ xs) i less)) x.body
    (over s (length ws) x.clock (kind_at s.kinds (length ws)) x.body parts.1)
weight_kth s ws (x ∷ xs) (suc k) e lt =
    let w = flat_weight ws x.body in
    let here = both_of (item_fits s (length ws) (kind_at s.kinds (length ws)) x) (flows_fit s (length ws + 1) xs) e in
    let longer : length (ws ++ w ∷ []) ≡ length ws + 1 = omega (arith, length-append ws (w ∷ [])) in
    ap (λ i. get_or (weights_after (ws ++ w ∷ []) xs) i 0) (let is : length ws + suc k ≡ length (ws ++ w ∷ []) + k = omega (arith, longer) in is)
    ∙ weight_kth s (ws ++ w ∷ []) xs k (subst (λ n. flows_fit s n xs ≡ true) (sym longer) here.1) (omega arith)

-- each flow, memory and assertion is light
pub item_light : (ws : List ℕ) (xs : List Item) (k : ℕ) → items_light ws xs ≡ true → k < length xs → is_light ws (nth_item xs k).body ≡ true
item_light ws [] k e lt = absurd (omega arith)
item_light ws (x ∷ xs) zero e lt = (both_of (is_light ws x.body) (items_light ws xs) e).0
item_light ws (x ∷ xs) (suc k) e lt = item_light ws xs k (both_of (is_light ws x.body) (items_light ws xs) e).1 (omega arith)
