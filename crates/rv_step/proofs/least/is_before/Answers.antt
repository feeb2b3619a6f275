use Rattle.std.proofs.Common.{◌≡◌, ℕ, List, [], ◌∷◌, ◌++◌, length, take, ◌-◌, sym, ◌∙◌, ap}
use Rattle.std.specs.{Ordering.nat_cmp, Ordering.is_lt, Cmp.Lexicographic.slice_cmp}
use Rattle.rv_step.proofs.SameFronts.{by_last}
use Rattle.rv_step.proofs.least.is_before.Goals as goal

pub returns-in-Some-Some : goal.returns-in-Some-Some
returns-in-Some-Some c =
    let a = c.args.a.now.sites in
    let b = c.args.b.now.sites in
    let f = take (length a - 1) a in
    let one : a ≡ f ++ c.in-Some-Some.one ∷ [] = c.in-Some-Some.ensures.some in
    let other : b ≡ take (length b - 1) b ++ c.in-Some-Some.other ∷ [] = c.in-Some-Some.ensures'.some in
    let same : f ≡ take (length b - 1) b = c.are_together.ensures c.if-are_together.true in
    sym ((λ i. is_lt (slice_cmp nat_cmp (one i) (other i)))
    ∙ ap (λ (l : List ℕ). is_lt (slice_cmp nat_cmp (f ++ c.in-Some-Some.one ∷ []) (l ++ c.in-Some-Some.other ∷ []))) (sym same)
    ∙ by_last f c.in-Some-Some.one c.in-Some-Some.other)
