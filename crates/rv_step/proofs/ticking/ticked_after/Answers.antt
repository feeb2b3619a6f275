use Rattle.std.proofs.Common.{◌≡◌, ◌∷◌, ◌++◌, [], true, false, length, map, get_or, Some, sym, ◌∙◌, ap}
use Rattle.std.proofs.lemmas.Simd.{map-map}
use Rattle.rv_tree.specs.Places.{index_of}
use Rattle.rv_flat.specs.{Facts.numbers_among, Filling.ticks_from, FlatInstants.places, Lists.tick_places}
use Rattle.rv_meaning.proofs.NameLemmas.{same_text}
use Rattle.rv_base.proofs.Truths.{or_true}
use Rattle.rv_step.proofs.ticking.ticked_after.Goals as goal

pub returns : goal.returns
returns c =
    let f = c.args.flat.now in
    let row = c.args.row.now in
    let had = c.args.now.now.ticked in
    let known : f.tick_flows ≡ numbers_among (places f) (tick_places f.variables) = same_text f.tick_flows (numbers_among (places f) (tick_places f.variables))
    f.tick_numbers in
    let first = c.in_ok-push.ensures.ok ∙ ap (λ l. l ++ true ∷ []) c.new-ticked.ensures in
    c.in_ok-push_ticks.ensures
    ∙ (λ i. first i ++ ticks_from row had (length (first i)) (map (λ k. Some k) (c.as_slice.ensures i)))
    ∙ ap (λ ks. true ∷ ticks_from row had 1 (map (λ k. Some k) ks)) known
    ∙ ap (λ ks. true ∷ ticks_from row had 1 ks) (map-map (λ k. Some k) (index_of (places f)) (tick_places f.variables))
    ∙ ap (λ b. b ∷ ticks_from row had 1 (map (λ p. Some (index_of (places f) p)) (tick_places f.variables))) (sym (or_true (get_or had 0 false)))
