use Rattle.std.proofs.Common.{◌≡◌, List, ℕ, [], ◌∷◌, ◌++◌, set, sym, ◌∙◌, ap, subst}
use Rattle.std.proofs.lemmas.List.{get_or_default}
use Rattle.rv_calls.specs.{Graphs.edges, Components.IsTurned}
use Rattle.rv_calls.proofs.Turned.{turned_one}
use Rattle.rv_calls.proofs.components.turn.Goals as goal

pub returns : goal.returns
returns c =
    let found = c.index_mut-found.result.now in let h = c.args.turned.now.items in
    let put : c.push.new.self ≡ edges h c.args.from ++ c.args.to ∷ [] =
    c.in_ok-push.ensures.ok ∙ ap (λ (es : List ℕ). es ++ c.args.to ∷ []) (c.index_mut-found.ensures.value ∙ get_or_default h c.args.from found [] c.requires) in
    subst (λ (es : List ℕ). IsTurned (c.args.from ∷ []) c.args.to h (set h c.args.from es)) (sym put) (turned_one c.args.from c.args.to h c.requires)
