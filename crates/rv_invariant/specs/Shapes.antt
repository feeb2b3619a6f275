-- The numbers of a system by which the ranges of its certificates go.
use Rattle.std.specs.Prelude.{◌*◌, ◌%◌, ◌&&◌, ◌||◌, ℕ, Bool, true, false, cond, nat_eq, nat_le, nat_lt}
use Rattle.rv_proofs.specs.Systems.{System}
use Rattle.rv_flat.specs.{declared.flat.Flat.Flat, declared.parts.Bit.Bit}
use Rattle.rv_flat.specs.declared.parts.Bit.TheVariants as bit
use Rattle.rv_control.specs.Control.{control_of}
use Rattle.rv_invariant.specs.declared.counts.Shape.{Shape}

abbrev pub is_next : Bit → Bool
is_next bit.Next = true
is_next _ = false

abbrev pub is_test : Bit → Bool
is_test (bit.Test p s) = true
is_test _ = false

abbrev pub shape_of : System → Shape
shape_of s = record { states = s.states; variables = s.variables; memories = s.memories; tests = s.tests }

abbrev pub shape : Flat → Shape
shape f = shape_of (control_of f)

-- State bit i is variable 2i, and its next copy is variable 2i + 1; inputs and tests come after them.
abbrev pub is_state : Shape → ℕ → Bool
is_state s x = nat_lt x (2 * s.states) && nat_eq (x % 2) 0

-- no next copy
abbrev pub is_read : Shape → ℕ → Bool
is_read s x = nat_le (2 * s.states) x || nat_eq (x % 2) 0

-- what a diagram may read: state bits alone, or every variable that is no next copy
abbrev pub may_stand : Shape → Bool → ℕ → Bool
may_stand s states x = cond states (is_state s x) (is_read s x)
