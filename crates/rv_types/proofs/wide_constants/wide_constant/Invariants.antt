use Rattle.std.proofs.Common.{◌≡◌, take, reverse}
use Rattle.rv_tree.specs.Tree.{program_tree}
use Rattle.rv_types.specs.WideConstants.{first_wide_constant}
use Rattle.rv_types.proofs.wide_constants.wide_constant.Given as goal

abbrev pub invariant-loop-number : goal.invariant-loop-number
invariant-loop-number l = l.first ≡ first_wide_constant (program_tree l.p) (reverse (take l.number (program_tree l.p).constants))
