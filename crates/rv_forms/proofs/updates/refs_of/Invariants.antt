use Rattle.std.proofs.Common.{◌≡◌, take}
use Rattle.rv_forms.specs.Choices.{refs_in}
use Rattle.rv_forms.proofs.updates.refs_of.Given as goal

abbrev pub invariant-loop-part : goal.invariant-loop-part
invariant-loop-part l = l.refs ≡ take l.part-index (refs_in l.term.parts)
