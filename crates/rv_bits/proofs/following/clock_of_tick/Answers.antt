use Rattle.std.proofs.Common.{◌≡◌, ◌∙◌, ◌-◌, ℕ, suc, List, map, ap, subst, sym, arith, Some, None as Nothing}
use Rattle.std.specs.Prelude.{slice_get, slice_index_or}
use Rattle.rv_tree.specs.Places.{Sites, index_of}
use Rattle.rv_flat.specs.{Facts.numbers_among, Lists.tick_places, Systems.places_of, Systems.tick_clocks_of}
use Rattle.rv_bits.proofs.Nexting.{numbers_told, clock_some, clock_none}
use Rattle.rv_bits.proofs.following.clock_of_tick.Goals as goal

pub returns-in-Some : goal.returns-in-Some
returns-in-Some c =
    let f = c.args.flat.now in
    let m = c.args.number - 1 in
    let g : Sites → ℕ = index_of (places_of f.flows) in
    let same : f.tick_flows ≡ map g (tick_places f.variables) = numbers_told f.tick_flows (numbers_among (places_of f.flows) (tick_places f.variables))
    f.tick_numbers in
    let next : suc (c.args.number - 1) ≡ c.args.number = omega arith in
    subst (λ n. Some c.in-Some.flow.now ≡ slice_index_or (tick_clocks_of f.flows f.variables) n Nothing) next
    (sym (clock_some g (tick_places f.variables) m c.in-Some.flow.now (ap (λ (l : List ℕ). slice_get l m) (sym same) ∙ sym c.in-Some.ensures.value)))

pub returns-in-None : goal.returns-in-None
returns-in-None c =
    let f = c.args.flat.now in
    let m = c.args.number - 1 in
    let g : Sites → ℕ = index_of (places_of f.flows) in
    let same : f.tick_flows ≡ map g (tick_places f.variables) = numbers_told f.tick_flows (numbers_among (places_of f.flows) (tick_places f.variables))
    f.tick_numbers in
    let next : suc (c.args.number - 1) ≡ c.args.number = omega arith in
    subst (λ n. Nothing ≡ slice_index_or (tick_clocks_of f.flows f.variables) n Nothing) next
    (sym (clock_none g (tick_places f.variables) m (ap (λ (l : List ℕ). slice_get l m) (sym same) ∙ sym c.in-None.ensures.value)))
