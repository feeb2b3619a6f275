-- What declarations name: types, labels and nodes.
use Rattle.std.specs.Prelude.{ℕ, cond, List, [], ◌∷◌, ◌+◌, map, length, reverse, unwrap_or, Option, Some, slice_get, None as Nothing}
use Rattle.rv_tree.specs.{declared.tree.Name.Name, declared.tree.TypeName.TypeName, declared.tree.TypeBody.TypeBody, declared.tree.TypeDecl.TypeDecl}
use Rattle.rv_tree.specs.{declared.tree.Decl.Decl, Tree.NodeTree, Tree.ProgramTree, Places.Identifier, Places.is_same, Places.site_of}
use Rattle.rv_tree.specs.declared.tree.TypeName.TheVariants as written
use Rattle.rv_tree.specs.declared.tree.TypeBody.TheVariants as body
use Rattle.rv_types.specs.declared.typed.Kind.TheVariants.{Bool, Int, Labels}
use Rattle.rv_types.specs.{declared.typed.Kind.Kind, Names.decls, Names.labels_of}

-- What a written type is, where names of types mean these. No rule of names leaves one without a meaning; `Bool`
-- stands for such a one here.
abbrev pub written_kind : (Identifier → Option Kind) → TypeName → Kind
written_kind named written.Bool = Bool
written_kind named written.Int = Int
written_kind named (written.Named t) = unwrap_or (named t.text) Bool

-- An alias is the type that it names; an enumeration is a type of its own, by the number of its declaration.
abbrev pub declared_kind : (Identifier → Option Kind) → ℕ → TypeBody → Kind
declared_kind named i (body.Alias t) = written_kind named t
declared_kind named i (body.Labels xs) = Labels i

-- What the name of a type means after some declarations, the last of them first.
abbrev pub kind_after : List TypeDecl → Identifier → Option Kind
kind_after [] t = Nothing
kind_after (d ∷ before) t = cond (is_same d.name.text t) (Some (declared_kind (kind_after before) (length before) d.body)) (kind_after before t)

-- what a type that is written anywhere in the program is
abbrev pub kind_in_program : ProgramTree → TypeName → Kind
kind_in_program p t = written_kind (kind_after (reverse p.types)) t

-- the types of some flows
abbrev pub decl_kinds : ProgramTree → List Decl → List Kind
decl_kinds p ds = map (λ d. kind_in_program p d.kind) ds

-- the types of the flows of a node, in the order of their sites
abbrev pub flow_kinds : ProgramTree → NodeTree → List Kind
flow_kinds p n = decl_kinds p (decls n)

-- the type of the flow of a name
abbrev pub flow_kind : ProgramTree → NodeTree → Identifier → Option Kind
flow_kind p n x = slice_get (flow_kinds p n) (site_of n x)

-- A label, by the number of its type's declaration and its own number in that.
pub record LabelPlace : Type 0 where
  pub declaration : ℕ
  pub number : ℕ

-- the number of a name among those from a number on
abbrev pub number_from : ℕ → List Name → Identifier → Option ℕ
number_from k [] x = Nothing
number_from k (y ∷ ys) x = cond (is_same y.text x) (Some k) (number_from (k + 1) ys x)

-- the label of a name among the declarations from a number on
abbrev pub label_from : ℕ → List TypeDecl → Identifier → Option LabelPlace
label_from i [] x = Nothing
label_from i (d ∷ ds) x = elim (number_from 0 (labels_of d) x) as (λ _. Option LabelPlace)
    [ Nothing ↦ label_from (i + 1) ds x | Some k ↦ Some (record { declaration = i; number = k }) ]

-- the label of a name
abbrev pub label_of : ProgramTree → Identifier → Option LabelPlace
label_of p x = label_from 0 p.types x

-- the first node of a name
abbrev pub node_among : List NodeTree → Identifier → Option NodeTree
node_among [] f = Nothing
node_among (n ∷ ns) f = cond (is_same n.name.text f) (Some n) (node_among ns f)

abbrev pub node_named : ProgramTree → Identifier → Option NodeTree
node_named p f = node_among p.nodes f
