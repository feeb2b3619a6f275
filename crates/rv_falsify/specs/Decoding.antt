-- Where the bits of memories and inputs stand among the diagram variables.
use Rattle.std.specs.Prelude.{ℕ, zero, suc, ◌+◌, ◌*◌, Bool, false, List, [], ◌∷◌, slice_index_or}
use Rattle.rv_types.specs.declared.typed.Kind.{Kind}
use Rattle.rv_agreement.specs.Agreement.{bit_count}

-- how many bits the first of some types have together, as many types as are said
abbrev pub bits_before : List ℕ → List Kind → ℕ → ℕ
bits_before labels ks zero = 0
bits_before labels [] (suc m) = 0
bits_before labels (k ∷ ks) (suc m) = bit_count labels k + bits_before labels ks m

-- a bit of a word that lies so many steps behind a position
abbrev pub bit_behind : List Bool → ℕ → ℕ → ℕ → Bool
bit_behind word first step b = slice_index_or word (first + step * b) false

-- The bits of some types one after the other: those of the first begin at a position, and each bit lies one step behind the one before.
abbrev pub bits_along : List ℕ → List Kind → List Bool → ℕ → ℕ → ℕ → ℕ → Bool
bits_along labels ks word first step m b = bit_behind word first step (bits_before labels ks m + b)
