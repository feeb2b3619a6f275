use Rattle.std.proofs.Common.{[], sym}
use Rattle.std.proofs.lemmas.Option.{get_or_from_slice_get}
use Rattle.rv_pairs.proofs.moving.forms_of.Goals as goal

pub returns : goal.returns
returns c = sym (get_or_from_slice_get c.args.questions.now.forms c.args.column c.at.result.now [] c.at.ensures.value)
