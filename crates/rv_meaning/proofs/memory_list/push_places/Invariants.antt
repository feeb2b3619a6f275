use Rattle.std.proofs.Common.{◌≡◌, ◌++◌, ◌∷◌, [], map, drop}
use Rattle.rv_types.specs.Lists.{sites_of}
use Rattle.rv_meaning.proofs.memory_list.push_places.Given as goal

abbrev pub invariant-loop-site : goal.invariant-loop-site
invariant-loop-site l =
    sites_of l.places ++ map (λ s. l.path ++ s ∷ []) (drop l.site-index l.sites) ≡ sites_of l.initial.places ++ map (λ s. l.path ++ s ∷ []) l.sites
