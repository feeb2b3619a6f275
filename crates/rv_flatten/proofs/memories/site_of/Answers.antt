use Rattle.std.proofs.Common.{◌-◌, length, take, sym, ◌∙◌}
use Rattle.rv_instances.proofs.FlowPlaces.{snoc_parts}
use Rattle.rv_flatten.proofs.memories.site_of.Goals as goal

pub returns-in-Some : goal.returns-in-Some
returns-in-Some c path s is =
    let q = c.args.memory.now.place.sites in
    (snoc_parts (take (length q - 1) q) path c.in-Some.site s (sym c.in-Some.ensures.some ∙ is)).1
