use Rattle.std.proofs.Common.{◌+◌, ◌∙◌, ℕ, [], ap, sym, length, slice_get}
use Rattle.std.proofs.lemmas.Option.{get_or_from_slice_get}
use Rattle.rv_pairs.proofs.moving.answers_of.Goals as goal

pub returns : goal.returns
returns c = sym (get_or_from_slice_get c.args.questions.now.questions (length c.args.questions.now.rows + c.args.column) c.at.result.now []
    (ap (λ (n : ℕ). slice_get c.args.questions.now.questions (n + c.args.column)) (sym c.len.ensures) ∙ c.at.ensures.value))
