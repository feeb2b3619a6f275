-- The order tests of operators, by the heads of their left operands.
use Rattle.std.specs.Prelude.{ℕ, cond}
use Rattle.rv_types.specs.{Heads.head_kind, Types.Scope, Variables.is_integer, Variables.tests_of}
use Rattle.rv_instances.specs.Timed.{ToldOperator}

-- those of an operator, where the head of its left operand tells its type
abbrev pub tests_told : Scope → ToldOperator → ℕ
tests_told s o = cond (is_integer (head_kind s o.left)) (tests_of o.operator) 0
