use Rattle.std.proofs.Common.{◌≡◌, ◌∙◌, ◌++◌, ◌∷◌, [], ℕ, List, ap}
use Rattle.std.proofs.lemmas.List.{get_or_default}
use Rattle.std.specs.Prelude.{slice_set}
use Rattle.rv_pairs.specs.Keys.{places_at}
use Rattle.rv_pairs.proofs.indexed.note_place.Goals as goal

pub returns : goal.returns
returns c =
    let is : c.index_mut-same.result.now ≡ places_at c.args.places.now.items c.args.key =
    c.index_mut-same.ensures.value ∙ get_or_default c.args.places.now.items c.args.key c.index_mut-same.result.now [] c.requires.key in
    ap (λ (ps : List ℕ). slice_set c.args.places.now.items c.args.key ps)
    (c.in_ok-push.ensures.ok ∙ ap (λ (ps : List ℕ). ps ++ c.args.place ∷ []) is)
