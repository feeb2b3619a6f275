use Rattle.std.proofs.Common.{◌≡◌, ◌∙◌, ◌<◌, [], Some, List, ℕ, length, slice_get, arith, ap, sym, subst}
use Rattle.std.proofs.lemmas.List.{get_or_default}
use Rattle.std.proofs.lemmas.Option.{slice_get-get_or, slice_get_within}
use Rattle.std.specs.List.{Contains}
use Rattle.rv_pairs.specs.declared.labels.Labelled.{Labelled}
use Rattle.rv_pairs.specs.Keys.{IsKey, places_at}
use Rattle.rv_pairs.proofs.{Keying.fold_sum, Pairing.no_label}
use Rattle.rv_pairs.proofs.indexed.LabelledRows.others.Goals as goal

pub key_of_rest-rest-requires-clause-part : goal.key_of_rest-rest-requires-clause-part
key_of_rest-rest-requires-clause-part c =
    let keys = c.self.invariant.0 in
    let low : c.args.place < length c.self.inside.list = omega (arith, c.requires.place, ap length c.self.view_is) in
    (keys.each c.args.place c.at-here.result.now _ c.at-here.ensures.value (slice_get-get_or c.self.inside.list c.args.place no_label low)).below

pub returns : goal.returns
returns c numbers i one other is at there sum =
    let keys = c.self.invariant.0 in
    let indexed = c.self.invariant.1 in
    let first : slice_get c.self.inside.list i ≡ Some one = subst (λ (ls : List Labelled). slice_get ls i ≡ Some one) (sym c.self.view_is) at in
    let second : slice_get c.self.inside.list c.args.place ≡ Some other = subst (λ (ls : List Labelled). slice_get ls c.args.place ≡ Some other)
    (sym c.self.view_is) there in
    let here : IsKey other.row.coefficients c.at-here.result.now = keys.each c.args.place c.at-here.result.now other c.at-here.ensures.value second in
    let rest : IsKey one.row.coefficients c.key_of_rest-rest.result = c.key_of_rest-rest.ensures.key numbers other.row.coefficients one.row.coefficients is here
    (fold_sum numbers one.row other.row sum) in
    let found : Contains (places_at c.self.inside.places.items c.key_of_rest-rest.result) i =
    indexed.complete i c.key_of_rest-rest.result one (slice_get_within c.self.inside.list i one first) first rest in
    let list : c.index.result.now ≡ places_at c.self.inside.places.items c.key_of_rest-rest.result =
    c.index.ensures ∙ get_or_default c.self.inside.places.items c.key_of_rest-rest.result c.index.result.now []
    (let s = indexed.size in omega (arith, s, c.key_of_rest-rest.ensures.below)) in
    subst (λ (ps : List ℕ). Contains ps i) (sym list) found
