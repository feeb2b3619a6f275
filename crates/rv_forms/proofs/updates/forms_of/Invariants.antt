use Rattle.std.proofs.Common.{◌≡◌, take}
use Rattle.rv_forms.specs.Choices.{forms_in}
use Rattle.rv_forms.proofs.updates.forms_of.Given as goal

abbrev pub invariant-loop-part : goal.invariant-loop-part
invariant-loop-part l = l.forms ≡ take l.part-index (forms_in l.term.parts)
