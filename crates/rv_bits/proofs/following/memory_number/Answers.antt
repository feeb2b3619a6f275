use Rattle.std.proofs.Common.{◌≡◌, ◌∙◌, ◌+◌, ◌∷◌, ◌<◌, suc, true, false, cond, [], length, drop, ap, sym, arith}
use Rattle.std.proofs.{lemmas.List.length-map, lemmas.List.get_or-map, Math.Seq.drop-cons}
use Rattle.std.specs.Prelude.{slice_index_or}
use Rattle.rv_tree.specs.Places.{is_same, index_of}
use Rattle.rv_flat.specs.{declared.parts.FlatMemory.FlatMemory, Systems.memory_places_of}
use Rattle.rv_bits.proofs.Nexting.{index_step}
use Rattle.rv_bits.proofs.following.memory_number.Goals as goal

pub returns-then-is_place : goal.returns-then-is_place
returns-then-is_place c =
    let ms = c.args.memories.now in
    let ps = memory_places_of ms in
    let i = c.loop-number.number in
    let item = c.index-memories-number.result in
    let p = c.args.place.now.sites in
    let low : i < length ps = omega (arith, length-map ms (λ (m : FlatMemory). m.place.sites)) in
    let here : slice_index_or ps i [] ≡ item.place.sites = get_or-map (λ (m : FlatMemory). m.place.sites) ms i item [] c.loop-number-test.true
    ∙ ap (λ (m : FlatMemory). m.place.sites) (sym c.index-memories-number.is) in
    let left : drop i ps ≡ item.place.sites ∷ drop (i + 1) ps = drop-cons ps i [] low ∙ (λ k. here k ∷ drop (let z : suc i ≡ i + 1 = omega arith in z k) ps) in
    let is : is_same item.place.sites p ≡ true = sym c.is_place.ensures ∙ c.if-is_place.true in
    let none : index_of (drop i ps) p ≡ 0 = index_step ps i item.place.sites p left ∙ ap (λ b. cond b 0 (index_of (drop (i + 1) ps) p + 1)) is in
    omega (arith, none, c.loop-number.invariant.counted)

pub loop-number-preserved : goal.loop-number-preserved
loop-number-preserved c =
    let ms = c.args.memories.now in
    let ps = memory_places_of ms in
    let i = c.loop-number.number in
    let item = c.index-memories-number.result in
    let p = c.args.place.now.sites in
    let low : i < length ps = omega (arith, length-map ms (λ (m : FlatMemory). m.place.sites)) in
    let here : slice_index_or ps i [] ≡ item.place.sites = get_or-map (λ (m : FlatMemory). m.place.sites) ms i item [] c.loop-number-test.true
    ∙ ap (λ (m : FlatMemory). m.place.sites) (sym c.index-memories-number.is) in
    let left : drop i ps ≡ item.place.sites ∷ drop (i + 1) ps = drop-cons ps i [] low ∙ (λ k. here k ∷ drop (let z : suc i ≡ i + 1 = omega arith in z k) ps) in
    let is : is_same item.place.sites p ≡ false = sym c.is_place.ensures ∙ c.if-is_place.false in
    let more : index_of (drop i ps) p ≡ index_of (drop (i + 1) ps) p + 1 = index_step ps i item.place.sites p left
    ∙ ap (λ b. cond b 0 (index_of (drop (i + 1) ps) p + 1)) is in
    record { counted = omega (arith, more, c.loop-number.invariant.counted) }
