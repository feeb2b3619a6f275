use Rattle.std.proofs.Common.{◌≡◌, take}
use Rattle.rv_forms.proofs.constants.copied.Given as goal

abbrev pub invariant-loop-part : goal.invariant-loop-part
invariant-loop-part l = l.parts ≡ take l.part-index l.term.parts
