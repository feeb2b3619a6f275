-- The bits of types, by the declarations of types.
use Rattle.std.specs.Prelude.{ℕ, List}
use Rattle.rv_tree.specs.declared.tree.TypeDecl.{TypeDecl}
use Rattle.rv_types.specs.{declared.typed.Kind.Kind, Variables.total, Variables.bits_for, Values.labels_at}
use Rattle.rv_types.specs.declared.typed.Kind.TheVariants as kind

-- the bits of a control memory or input of a type
abbrev pub bits_of : List TypeDecl → Kind → ℕ
bits_of types kind.Bool = 1
bits_of types kind.Int = 0
bits_of types (kind.Labels i) = bits_for (labels_at types i)

-- and of several
abbrev pub bits_of_all : List TypeDecl → List Kind → ℕ
bits_of_all types ks = total (bits_of types) ks
