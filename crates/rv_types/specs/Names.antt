-- The rules of names. Nodes, types, and constants together with labels have three spaces of names for the whole
-- program; flows have a space for each node. The uses and declarations that break a rule are listed.
-- (Halbwachs, Caspi, Raymond and Pilaud 1991 for the declarations of the language.)
use Rattle.std.specs.Prelude.{ℕ, Bool, true, false, ◌||◌, cond, nat_lt, List, [], ◌∷◌, ◌++◌, map, flat_map, Some, None as Nothing}
use Rattle.rv_tree.specs.declared.tree.TypeBody.TheVariants.{Alias, Labels}
use Rattle.rv_tree.specs.Tree.{Tree, Node, Named, When, Call, EquationTree, AssertionTree, ConstantTree, NodeTree, ProgramTree}
use Rattle.rv_tree.specs.Places.{Identifier, is_same, is_among, is_flow}
use Rattle.rv_tree.specs.{declared.tree.Name.Name, declared.tree.TypeName.TypeName, declared.tree.TypeDecl.TypeDecl, declared.tree.Decl.Decl}
use Rattle.rv_tree.specs.declared.tree.TypeName.TheVariants as written
use Rattle.rv_types.specs.declared.fault.NameFault.TheVariants.{UnknownName, DefinedTwice, Undefined}
use Rattle.rv_types.specs.{declared.fault.NameFault.NameFault, Parts.faults}

abbrev pub texts : List Name → List Identifier
texts xs = map (λ x. x.text) xs

-- whether a name is declared by one of these
abbrev pub is_declared : List Name → Identifier → Bool
is_declared xs x = is_among (texts xs) x

-- whether it is, and the first of these that declares it stands before an offset
abbrev pub stands_before : ℕ → List Name → Identifier → Bool
stands_before at [] x = false
stands_before at (y ∷ ys) x = cond (is_same y.text x) (nat_lt y.at at) (stands_before at ys x)

-- The spaces.

abbrev pub labels_of : TypeDecl → List Name
labels_of d = elim d.body as (λ _. List Name) [ Alias t ↦ [] | Labels xs ↦ xs ]

abbrev pub type_names : ProgramTree → List Name
type_names p = map (λ d. d.name) p.types

abbrev pub constant_names : ProgramTree → List Name
constant_names p = map (λ c. c.name) p.constants

abbrev pub label_names : ProgramTree → List Name
label_names p = flat_map labels_of p.types

abbrev pub node_names : ProgramTree → List Name
node_names p = map (λ n. n.name) p.nodes

-- the flows of a node in the order of their sites
abbrev pub decls : NodeTree → List Decl
decls n = (n.inputs ++ n.outputs) ++ n.locals

abbrev pub decl_names : List Decl → List Name
decl_names ds = map (λ d. d.name) ds

-- the left sides of a node's equations, in order
abbrev pub lefts : NodeTree → List Name
lefts n = flat_map (λ q. q.lefts) n.equations

-- Second declarations.

-- those of some names that stand after others, or after one of the same name among themselves
abbrev pub repeated : List Name → List Name → List NameFault
repeated before [] = []
repeated before (x ∷ xs) = cond (is_declared before x.text) (DefinedTwice x.at ∷ []) [] ++ repeated (x ∷ before) xs

-- those of some names after one among others
abbrev pub repeated_after : List Name → Name → List NameFault
repeated_after others x = cond (stands_before x.at others x.text) (DefinedTwice x.at ∷ []) []

-- in the space of constants and labels
abbrev pub repeated_values : ProgramTree → List NameFault
repeated_values p = (repeated [] (constant_names p) ++ repeated [] (label_names p))
    ++ (flat_map (repeated_after (label_names p)) (constant_names p) ++ flat_map (repeated_after (constant_names p)) (label_names p))

-- Uses.

-- a use at an offset of a name that is known or is not
abbrev pub use_at : ℕ → Bool → List NameFault
use_at at known = cond known [] (UnknownName at ∷ [])

abbrev pub use_of : (Identifier → Bool) → Name → List NameFault
use_of knows x = use_at x.at (knows x.text)

abbrev pub type_use : (Identifier → Bool) → TypeName → List NameFault
type_use knows written.Bool = []
type_use knows written.Int = []
type_use knows (written.Named t) = use_of knows t

-- an alias refers to a type that stands before it
abbrev pub alias_use : ProgramTree → TypeDecl → List NameFault
alias_use p d = elim d.body as (λ _. List NameFault) [ Alias t ↦ type_use (stands_before d.name.at (type_names p)) t | Labels xs ↦ [] ]

-- a flow has any type of the program
abbrev pub flow_use : ProgramTree → Decl → List NameFault
flow_use p d = type_use (is_declared (type_names p)) d.kind

-- The names that an expression itself uses: of a value, of a clock, of a node. A use has the offset of its name.
module _ (values clocks nodes : Identifier → Bool) where
  abbrev pub own_uses : Tree → List NameFault
  own_uses (Node at site (Named x)) = use_at at (values x)
  own_uses (Node at site (When e c)) = use_of clocks c
  own_uses (Node at site (Call f es)) = use_at at (nodes f)
  own_uses _ = []

  -- and its parts
  abbrev pub uses : Tree → List NameFault
  uses = faults own_uses

-- a constant or label that stands before an offset
abbrev pub is_value_before : ProgramTree → ℕ → Identifier → Bool
is_value_before p at x = stands_before at (constant_names p) x || stands_before at (label_names p) x

abbrev pub is_clock_anyhow : Identifier → Bool
is_clock_anyhow x = true

-- A constant refers to constants, types and labels that stand before it. The name of a `when`, which cannot stand
-- in a constant, is not looked up.
abbrev pub constant_uses : ProgramTree → ConstantTree → List NameFault
constant_uses p c = elim c.kind as (λ _. List NameFault) [ Nothing ↦ [] | Some t ↦ type_use (stands_before c.name.at (type_names p)) t ]
    ++ uses (is_value_before p c.name.at) is_clock_anyhow (is_declared (node_names p)) c.body

-- a flow of the node, or any constant or label
abbrev pub is_value : ProgramTree → NodeTree → Identifier → Bool
is_value p n x = is_flow n x || (is_declared (constant_names p) x || is_declared (label_names p) x)

-- the uses in an expression of a node
abbrev pub node_uses : ProgramTree → NodeTree → Tree → List NameFault
node_uses p n e = uses (is_value p n) (is_flow n) (is_declared (node_names p)) e

abbrev pub equation_uses : ProgramTree → NodeTree → EquationTree → List NameFault
equation_uses p n q = flat_map (use_of (is_flow n)) q.lefts ++ node_uses p n q.right

abbrev pub assertion_uses : ProgramTree → NodeTree → AssertionTree → List NameFault
assertion_uses p n a = node_uses p n a.body

-- a declared clock is a flow of the node
abbrev pub clock_use : NodeTree → Decl → List NameFault
clock_use n d = elim d.clock as (λ _. List NameFault) [ Nothing ↦ [] | Some c ↦ use_of (is_flow n) c ]

-- Outputs and locals without an equation.
abbrev pub undefined_unless : List Name → Name → List NameFault
undefined_unless ls x = cond (is_declared ls x.text) [] (Undefined x.at ∷ [])

-- What breaks a rule of names in a node. A left side that is an input is defined twice, as is a second one. (Where
-- such a left side is no flow, it is unknown at the same offset, which comes first.)
abbrev pub names_in_node : ProgramTree → NodeTree → List NameFault
names_in_node p n = (repeated [] (decl_names (decls n)) ++ repeated (decl_names n.inputs) (lefts n))
    ++ (flat_map (undefined_unless (lefts n)) (decl_names (n.outputs ++ n.locals))
    ++ ((flat_map (flow_use p) (decls n) ++ flat_map (clock_use n) n.locals)
    ++ (flat_map (equation_uses p n) n.equations ++ flat_map (assertion_uses p n) n.assertions)))

-- What breaks a rule of names in a program.
abbrev pub name_faults : ProgramTree → List NameFault
name_faults p = (repeated [] (node_names p) ++ (repeated [] (type_names p) ++ repeated_values p))
    ++ ((flat_map (alias_use p) p.types ++ flat_map (constant_uses p) p.constants)
    ++ flat_map (names_in_node p) p.nodes)
