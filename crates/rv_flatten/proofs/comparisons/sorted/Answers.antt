use Rattle.std.proofs.{Common.◌∙◌, Common.rules, lemmas.Fn.dedup_same, lemmas.List.Sorted.answers_always, lemmas.List.Sorted.ranks_by}
use Rattle.std.specs.Ordering.{is_lt}
use Rattle.rv_flatten.specs.declared.kept.Comparison.{Comparison}
use Rattle.rv_flatten.proofs.SortedPlaces.{same_by, order_by, order_total, are_sorted}
use Rattle.rv_flatten.proofs.comparisons.sorted.Goals as goal

pub returns : goal.returns
returns c =
    let place = λ (k : Comparison). k.place.sites in
    let items = c.sort_unstable_by.new.self.items in
    let up = c.sort_unstable_by.ensures.sorted (λ (q r : Comparison). is_lt (order_by place q r)) (ranks_by (order_total place) (λ (q : Comparison). q))
    (answers_always _ _ _ (λ f a r f' k. search rules)) in
    let kept = dedup_same _ (same_by place) _ (λ x y b f' x' y' k. search rules) items c.dedup_by.new.self.items c.dedup_by.ensures.filtered in
    are_sorted place c.args.found c.into_vec-found.result.items items c.from_vec.result c.into_vec-found.ensures c.sort_unstable_by.ensures.permutation up
    (c.from_vec.ensures ∙ kept)
