use Rattle.std.proofs.{Common.ℕ, Common.◌<◌, Common.List, Common.length, Common.sym, Common.◌∙◌, Common.ap, Common.subst, lemmas.List.length-map}
use Rattle.std.specs.List.{Contains}
use Rattle.rv_instances.specs.{Expanded.program_of, Flowing.all_flows, Flowing.flow_sites}
use Rattle.rv_flatten.proofs.found.tick_places.Goals as goal

pub places_of-requires-clause-numbers : goal.places_of-requires-clause-numbers
places_of-requires-clause-numbers c k w =
    let x = c.args.expanded.now in
    subst (λ (n : ℕ). k < n) (length-map (all_flows (program_of x) x.instances.now) (flow_sites x.instances.now) ∙ ap length (sym c.in_ok-flows.ensures.flows))
    (c.requires.within k (subst (λ (l : List ℕ). Contains l k) c.as_slice.ensures w))
