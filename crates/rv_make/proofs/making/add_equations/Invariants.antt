use Rattle.std.proofs.Common.{◌≡◌, ◌++◌}
use Rattle.std.specs.String.{string_bytes}
use Rattle.rv_make.specs.Made.{link_equations}
use Rattle.rv_make.proofs.making.add_equations.Given as goal

-- the equations of the calls so far have been added
abbrev pub invariant-loop-call : goal.invariant-loop-call
invariant-loop-call l = string_bytes l.text ≡ string_bytes l.initial.text ++ link_equations l.call
