use Rattle.std.proofs.Common.{List, ℕ, ◌∷◌, ◌++◌, [], sym, subst, ◌≡◌, ◌∙◌, Some, None as Nothing}
use Rattle.std.proofs.lemmas.Option.{get_or_from_slice_get}
use Rattle.rv_calls.specs.Components.{Marks, mark_of, IsSpread}
use Rattle.rv_calls.proofs.Searches.{only_one, spread_not, spread_one}
use Rattle.rv_calls.proofs.reach.mark.Goals as goal

pub returns-in_ok-push : goal.returns-in_ok-push
returns-in_ok-push c =
    let a = get_or_from_slice_get c.args.allowed.now c.args.v c.at-own.result.now Nothing c.at-own.ensures.value in
    let b = get_or_from_slice_get c.args.marks.now c.args.v c.at-mark.result.now Nothing c.at-mark.ensures.value in
    let new = c.is_new.ensures.yes c.if-is_new.true in
    subst (λ (w : List ℕ). IsSpread c.args.allowed.now c.args.wanted c.args.from (c.args.v ∷ []) c.args.marks.now c.args.waiting.now c.set.new.self w)
    (sym c.in_ok-push.ensures.ok)
    (subst (λ (m : Marks). IsSpread c.args.allowed.now c.args.wanted c.args.from (c.args.v ∷ []) c.args.marks.now c.args.waiting.now m
    (c.args.waiting.now ++ c.args.v ∷ [])) (sym c.set.ensures)
    (spread_one c.args.allowed.now c.args.wanted c.args.from c.args.v c.args.marks.now c.args.waiting.now c.requires.marks (a ∙ new.0)
    (λ e. new.1 (sym b ∙ e))))

pub returns-else-is_new : goal.returns-else-is_new
returns-else-is_new c =
    let a = get_or_from_slice_get c.args.allowed.now c.args.v c.at-own.result.now Nothing c.at-own.ensures.value in
    let b = get_or_from_slice_get c.args.marks.now c.args.v c.at-mark.result.now Nothing c.at-mark.ensures.value in
    let old = c.is_new.ensures.not c.if-is_new.false in
    spread_not c.args.allowed.now c.args.wanted c.args.from (c.args.v ∷ []) c.args.marks.now c.args.waiting.now
    (λ k w e. let same = only_one c.args.v k w in subst (λ u. mark_of c.args.marks.now u ≡ Some c.args.from) same
    (b ∙ old (sym a ∙ subst (λ u. mark_of c.args.allowed.now u ≡ c.args.wanted) (sym same) e)))
