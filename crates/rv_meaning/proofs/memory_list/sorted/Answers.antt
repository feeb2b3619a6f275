use Rattle.std.proofs.{Common.◌∙◌, Common.rules, lemmas.List.Filters.dedup_is, lemmas.List.Sorted.answers_always, lemmas.List.Sorted.ranks_by}
use Rattle.std.specs.Ordering.{is_lt}
use Rattle.rv_base.specs.declared.value.Place.{Place}
use Rattle.rv_meaning.proofs.Sorting.{same, order, order_total, are_sorted}
use Rattle.rv_meaning.proofs.memory_list.sorted.Goals as goal

pub returns : goal.returns
returns c =
    let items = c.sort_unstable_by.new.self.items in
    let up = c.sort_unstable_by.ensures.sorted (λ (q r : Place). is_lt (order q r)) (ranks_by order_total (λ (q : Place). q))
    (answers_always _ _ _ (λ f a r f' k. search rules)) in
    let kept = dedup_is same items c.dedup.new.self.items c.dedup.ensures.filtered in
    are_sorted c.args.places c.into_vec-places.result.items items c.from_vec.result c.into_vec-places.ensures c.sort_unstable_by.ensures.permutation up
    (c.from_vec.ensures ∙ kept)
