-- The bits of memories and inputs, by the declarations of types, and the column of one of them.
use Rattle.std.specs.Prelude.{ℕ, ◌+◌, cond, List, [], ◌∷◌, ◌++◌, flat_map}
use Rattle.rv_tree.specs.declared.tree.TypeDecl.{TypeDecl}
use Rattle.rv_types.specs.{declared.typed.Kind.Kind, Lists.MemoryAt, Lists.Variable, Lists.Kept, Lists.Input, Lists.Column, Lists.bits, Variables.is_integer}
use Rattle.rv_instances.specs.Bits.{bits_of}

-- the bits of memories
abbrev pub kept_variables : List TypeDecl → List MemoryAt → List Variable
kept_variables types ms = flat_map (λ m. bits (Kept m.place) (bits_of types m.kind)) ms

-- the bits of the inputs from a number on
abbrev pub given_variables : List TypeDecl → ℕ → List Kind → List Variable
given_variables types j [] = []
given_variables types j (k ∷ ks) = bits (Input j) (bits_of types k) ++ given_variables types (j + 1) ks

-- the column of what is of a type, if that is of integers
abbrev pub own_columns : Column → Kind → List Column
own_columns column k = cond (is_integer k) (column ∷ []) []
