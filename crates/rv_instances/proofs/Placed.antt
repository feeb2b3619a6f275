-- The places of flows that are listed.
use Rattle.std.proofs.Common.{◌≡◌, ℕ, ◌+◌, ◌<◌, List, [], ◌∷◌, ◌++◌, map, length, get_or, take, sym, ◌∙◌, ap, slice_get, Some}
use Rattle.std.proofs.{lemmas.List.map-append, lemmas.List.take_more, lemmas.Option.get_or_from_slice_get}
use Rattle.rv_base.specs.declared.value.Place.{Place}
use Rattle.rv_tree.specs.Places.{Sites}
use Rattle.rv_instances.specs.Flowing.{place_at, flow_sites, flow_places}
use Rattle.rv_instances.specs.{declared.answer.Instance.Instance as Numbered, declared.flows.Flow.Flow}
use Rattle.rv_types.specs.Lists.{sites_of}
use Rattle.rv_instances.proofs.Known.{map_at}

-- one more place
pub placed_more : (f : ℕ → Sites) (numbers : List ℕ) (old new : List Place) (i : ℕ) (place : Place) → i < length numbers → sites_of old ≡ map f (take i numbers)
    → new ≡ old ++ place ∷ [] → place.sites ≡ f (get_or numbers i 0) → sites_of new ≡ map f (take (i + 1) numbers)
placed_more f numbers old new i place lt inv is at =
    ap sites_of is ∙ map-append (λ (q : Place). q.sites) old (place ∷ []) ∙ ap (λ l. l ++ place.sites ∷ []) inv ∙ ap (λ q. map f (take i numbers) ++ q ∷ []) at
    ∙ sym (map-append f (take i numbers) (get_or numbers i 0 ∷ [])) ∙ ap (map f) (sym (take_more numbers i 0 lt))

pub placed_at : (instances : List Numbered) (flows : List Flow) (k : ℕ) (flow : Flow) → slice_get flows k ≡ Some flow → k < length flows
    → flow_sites instances flow ≡ place_at (flow_places instances flows) k
placed_at instances flows k flow is lt =
    ap (flow_sites instances) (sym (get_or_from_slice_get flows k flow flow is)) ∙ sym (map_at (flow_sites instances) flows k [] flow lt)
