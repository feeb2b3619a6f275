-- The values of a type, and the types of expressions.
use Rattle.std.specs.Prelude.{ℕ, zero, suc, ◌<◌, List, [], ◌∷◌, length, unwrap_or}
use Rattle.rv_base.specs.declared.value.Value.{Value}
use Rattle.rv_base.specs.declared.value.Value.TheVariants.{Flag, Label, Whole}
use Rattle.rv_tree.specs.{declared.tree.TypeDecl.TypeDecl, Tree.Tree, Tree.NodeTree, Tree.ProgramTree}
use Rattle.rv_types.specs.{declared.typed.Kind.Kind, Names.labels_of, Types.kind_of, Scopes.node_scope}
use Rattle.rv_types.specs.declared.typed.Kind.TheVariants as kind

-- the number of labels of a type, 0 where it is an alias
abbrev pub label_count : TypeDecl → ℕ
label_count d = length (labels_of d)

-- the number of labels of the enumeration with a number
abbrev pub labels_at : List TypeDecl → ℕ → ℕ
labels_at [] i = 0
labels_at (d ∷ ds) zero = label_count d
labels_at (d ∷ ds) (suc i) = labels_at ds i

-- Booleans, whole numbers of any size, and the labels of the enumeration.
abbrev pub HasKind : ProgramTree → Kind → Value → Type 0
HasKind p kind.Bool (Flag b) = Unit {0}
HasKind p kind.Int (Whole z) = Unit {0}
HasKind p (kind.Labels i) (Label l) = l < labels_at p.types i
HasKind p _ _ = ⊥

-- the type of an expression of a node; in a program that keeps the rules each has one
abbrev pub operand_kind : ProgramTree → NodeTree → Tree → Kind
operand_kind p n e = unwrap_or (kind_of (node_scope p n) e) kind.Bool
