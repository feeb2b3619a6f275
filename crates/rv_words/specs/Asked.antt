-- What words ask for, as plain values.
use Rattle.std.specs.Prelude.{ℕ, Bool, List}

-- A command with its texts as bytes, its numbers, and whether loops are accelerated.
pub data Asked : Type 0 where
  prove : (file node : List ℕ) (nodes locations : ℕ) (accelerate : Bool) → Asked
  check : (file node invariant : List ℕ) (nodes : ℕ) → Asked
  replay : (file node trace : List ℕ) → Asked
  make : (count : ℕ) → Asked
  tour : (count : ℕ) → Asked
