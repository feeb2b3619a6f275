use Rattle.std.proofs.Common.{◌≡◌, ◌++◌}
use Rattle.std.specs.{Prelude.codes, String.string_bytes}
use Rattle.rv_make.specs.Made.{declared_links}
use Rattle.rv_make.proofs.making.add_declarations.Given as goal

-- the declarations of the calls so far have been added
abbrev pub invariant-loop-before : goal.invariant-loop-before
invariant-loop-before l = string_bytes l.text ≡ string_bytes l.fn.text ++ (codes "var seen" ++ declared_links l.before)
