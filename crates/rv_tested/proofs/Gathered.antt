-- The comparisons of flows, memories and assertions are those of the system.
use Rattle.std.proofs.Common.{◌≡◌, List, [], ◌++◌, map, flat_map, sym, ◌∙◌, ap, append_assoc}
use Rattle.std.proofs.lemmas.Grind.{flat_map-append}
use Rattle.rv_agreement.specs.{Trees.Item, Trees.memory_items, Valuations.Comparison, Valuations.item_comparisons, Valuations.all_comparisons}
use Rattle.rv_flat.specs.{declared.flat.Flat.Flat, FlatInstants.system_of, Systems.assertion_item, Systems.flow_item, Systems.memory_item}
use Rattle.rv_flat.proofs.Inlining.{items_kept}

pub gathered : (f : Flat) (a b c d : List Comparison) → a ≡ []
    → b ≡ a ++ flat_map (item_comparisons (system_of f).flows) (map (flow_item f.memories) f.flows)
    → c ≡ b ++ flat_map (item_comparisons (system_of f).flows) (map (memory_item f.memories) f.memories)
    → d ≡ c ++ flat_map (item_comparisons (system_of f).flows) (map (assertion_item f.memories) f.assertions)
    → d ≡ all_comparisons (system_of f)
gathered f a b c d none flows memories assertions =
    let g = item_comparisons (system_of f).flows in
    let xs : List Item = map (flow_item f.memories) f.flows in
    let ys : List Item = map (memory_item f.memories) f.memories in
    let zs : List Item = map (assertion_item f.memories) f.assertions in
    let first : b ≡ flat_map g xs = flows ∙ ap (λ l. l ++ flat_map g xs) none in
    let last : memory_items (system_of f) ≡ ys = items_kept f.memories f.memories in
    assertions ∙ ap (λ l. l ++ flat_map g zs) (memories ∙ ap (λ l. l ++ flat_map g ys) first)
    ∙ append_assoc (flat_map g xs) (flat_map g ys) (flat_map g zs)
    ∙ ap (λ l. flat_map g xs ++ l) (sym (flat_map-append g ys zs))
    ∙ sym (flat_map-append g xs (ys ++ zs))
    ∙ ap (λ l. flat_map g (xs ++ (l ++ zs))) (sym last)
