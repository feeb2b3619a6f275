-- The order tests of the system of a flat system, by their numbers, and its comparisons at a valuation.
use Rattle.std.specs.Prelude.{ℕ, ◌+◌, ◌-◌, length, slice_index_or}
use Rattle.rv_types.specs.Lists.{Variable, Next}
use Rattle.rv_agreement.specs.Valuations.{Comparison, Tested, tested}
use Rattle.rv_diagram.specs.Nodes.{Valuation}
use Rattle.rv_flat.specs.{declared.flat.Flat.Flat, FlatInstants.system_of}
use Rattle.rv_control.specs.{Control.order_tests, Named.named, Named.variables_of, Symbolic.symbolic}

-- the variable of the test with a number; the tests stand last
abbrev pub test_variable : Flat → ℕ → Variable
test_variable f j = slice_index_or (variables_of f) (length (variables_of f) - order_tests (variables_of f) + j) Next

-- a comparison at a valuation: whether its clock is there, and what its operands have
abbrev pub tested_at : Flat → Valuation → Comparison → Tested
tested_at f v c = tested (system_of f) (named f v) (symbolic (system_of f) (named f v)) c
