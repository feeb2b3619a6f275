-- What names stand for in constants and in nodes, and what breaks a rule of types there.
use Rattle.std.specs.Prelude.{ℕ, Bool, true, false, not, ◌&&◌, cond, List, [], ◌∷◌, ◌++◌, map, flat_map, reverse, Option, Some, is_some, None as Nothing}
use Rattle.std.specs.Option.{option_map}
use Rattle.rv_base.specs.{declared.value.Value.Value, declared.value.Value.TheVariants.Flag, declared.value.Value.TheVariants.Label}
use Rattle.rv_tree.specs.Tree.{Tree, Node, Call, EquationTree, AssertionTree, ConstantTree, NodeTree, ProgramTree}
use Rattle.rv_tree.specs.{declared.tree.Name.Name, declared.tree.TypeName.TypeName, declared.tree.Decl.Decl, Places.Identifier, Places.is_same, Places.is_flow}
use Rattle.rv_types.specs.Kinds.{kind_in_program, decl_kinds, flow_kind, label_of, node_named}
use Rattle.rv_types.specs.Types.{Signature, Scope, same_kind, suits, all_typed, fit, kind_of, kinds_of_all, expression_types, own_type_fault}
use Rattle.rv_types.specs.{declared.typed.Kind.Kind, declared.typed.Kind.TheVariants.Bool as Boolean, declared.typed.Kind.TheVariants.Labels}
use Rattle.rv_types.specs.{declared.fault.NameFault.NameFault, declared.fault.NameFault.TheVariants.TypeClash, declared.fault.NameFault.TheVariants.NotObserver}
use Rattle.rv_types.specs.{Parts.offset_of, Parts.faults_of_all, Constants.value_of}

-- the type and the value of a label
abbrev pub label_kind : ProgramTree → Identifier → Option Kind
label_kind p x = elim (label_of p x) as (λ _. Option Kind) [ Nothing ↦ Nothing | Some l ↦ Some (Labels l.declaration) ]

abbrev pub label_value : ProgramTree → Identifier → Value
label_value p x = elim (label_of p x) as (λ _. Value) [ Nothing ↦ Flag false | Some l ↦ Label l.number ]

abbrev pub all_fixed : Identifier → Bool
all_fixed x = true

abbrev pub no_clock : Identifier → Option Kind
no_clock x = Nothing

abbrev pub no_callee : Identifier → Option Signature
no_callee f = Nothing

-- the scope of a constant's body, of the types of the constants and labels that it may name
abbrev pub constant_scope : (Identifier → Option Kind) → Scope
constant_scope known = record { kind = known; clock = no_clock; callee = no_callee; fixed = all_fixed; moves = false }

-- a type where it is the declared one, or none is declared
abbrev pub as_declared : ProgramTree → Option TypeName → Option Kind → Option Kind
as_declared p Nothing k = k
as_declared p (Some t) Nothing = Nothing
as_declared p (Some t) (Some k) = cond (same_kind k (kind_in_program p t)) (Some k) Nothing

module _ (p : ProgramTree) where
  -- What a name means after some constants, the last of them first: the type of a constant, or of a label. A constant
  -- whose declared type is not that of its body has none.
  abbrev pub constant_kind_after : List ConstantTree → Identifier → Option Kind
  constant_kind_after [] x = label_kind p x
  constant_kind_after (c ∷ before) x = cond (is_same c.name.text x)
      (as_declared p c.kind (kind_of (constant_scope (constant_kind_after before)) c.body))
      (constant_kind_after before x)

  -- and the value
  abbrev pub constant_value_after : List ConstantTree → Identifier → Value
  constant_value_after [] x = label_value p x
  constant_value_after (c ∷ before) x = cond (is_same c.name.text x)
      (value_of (constant_value_after before) c.body)
      (constant_value_after before x)

  -- the types of the constants of a list, the last of them first, in the order of the text
  abbrev pub constant_kinds_of : List ConstantTree → List (Option Kind)
  constant_kinds_of [] = []
  constant_kinds_of (c ∷ before) = constant_kinds_of before
      ++ as_declared p c.kind (kind_of (constant_scope (constant_kind_after before)) c.body) ∷ []

  -- and their values
  abbrev pub constant_values_of : List ConstantTree → List Value
  constant_values_of [] = []
  constant_values_of (c ∷ before) = constant_values_of before ++ value_of (constant_value_after before) c.body ∷ []

-- what a constant or label of the program is
abbrev pub constant_kind : ProgramTree → Identifier → Option Kind
constant_kind p = constant_kind_after p (reverse p.constants)

abbrev pub constant_value : ProgramTree → Identifier → Value
constant_value p = constant_value_after p (reverse p.constants)

-- the values of all constants, in order
abbrev pub constant_values : ProgramTree → List Value
constant_values p = constant_values_of p (reverse p.constants)

-- In a node a flow hides a constant or label of its name.
abbrev pub value_kind : ProgramTree → NodeTree → Identifier → Option Kind
value_kind p n x = cond (is_flow n x) (flow_kind p n x) (constant_kind p x)

abbrev pub is_fixed : NodeTree → Identifier → Bool
is_fixed n x = not (is_flow n x)

abbrev pub signature_of : ProgramTree → NodeTree → Signature
signature_of p m = record { takes = decl_kinds p m.inputs; gives = decl_kinds p m.outputs }

abbrev pub signature_named : ProgramTree → Identifier → Option Signature
signature_named p f = option_map (signature_of p) (node_named p f)

abbrev pub node_scope : ProgramTree → NodeTree → Scope
node_scope p n = record { kind = value_kind p n; clock = flow_kind p n; callee = signature_named p; fixed = is_fixed n; moves = true }

-- where a type is wanted, and another is found
abbrev pub clash_unless : ℕ → Kind → Option Kind → List NameFault
clash_unless at wanted k = cond (suits wanted k) [] (TypeClash at ∷ [])

-- A constant: its body, and its declared type.
abbrev pub constant_types_after : ProgramTree → List ConstantTree → ConstantTree → List NameFault
constant_types_after p before c = let s = constant_scope (constant_kind_after p before) in
    expression_types s c.body
    ++ elim c.kind as (λ _. List NameFault) [ Nothing ↦ [] | Some t ↦ clash_unless (offset_of c.body) (kind_in_program p t) (kind_of s c.body) ]

-- The constants of a list, the last of them first.
abbrev pub constant_types : ProgramTree → List ConstantTree → List NameFault
constant_types p [] = []
constant_types p (c ∷ before) = constant_types p before ++ constant_types_after p before c

-- the types of left sides
abbrev pub left_kinds : ProgramTree → NodeTree → List Name → List (Option Kind)
left_kinds p n xs = map (λ x. flow_kind p n x.text) xs

-- The two sides of an equation with one left side have equal types.
abbrev pub sides_clash : ℕ → Option Kind → Option Kind → List NameFault
sides_clash at Nothing right = []
sides_clash at (Some left) right = clash_unless at left right

-- A call whose outputs several left sides are: as many arguments as inputs and as many left sides as outputs, of
-- their types.
abbrev pub several_clash : ℕ → Option Signature → List (Option Kind) → List (Option Kind) → List NameFault
several_clash at Nothing left args = []
several_clash at (Some g) left args = cond (all_typed args && not (fit g.takes args && fit g.gives left)) (TypeClash at ∷ []) []

-- An equation with several left sides has a call as its right side; any other that has a type clashes.
abbrev pub several_types : Scope → List (Option Kind) → Tree → List NameFault
several_types s left (Node at site (Call f es)) = faults_of_all (own_type_fault s) es ++ several_clash at (s.callee f) left (kinds_of_all s es)
several_types s left e = expression_types s e ++ cond (is_some (kind_of s e)) (TypeClash (offset_of e) ∷ []) []

abbrev pub sides_types : ProgramTree → NodeTree → List Name → Tree → List NameFault
sides_types p n (x ∷ []) e = expression_types (node_scope p n) e
    ++ sides_clash (offset_of e) (flow_kind p n x.text) (kind_of (node_scope p n) e)
sides_types p n xs e = several_types (node_scope p n) (left_kinds p n xs) e

abbrev pub equation_types : ProgramTree → NodeTree → EquationTree → List NameFault
equation_types p n q = sides_types p n q.lefts q.right

-- An assertion is Boolean.
abbrev pub assertion_types : ProgramTree → NodeTree → AssertionTree → List NameFault
assertion_types p n a = expression_types (node_scope p n) a.body
    ++ clash_unless (offset_of a.body) Boolean (kind_of (node_scope p n) a.body)

-- The flow of a declared clock is Boolean.
abbrev pub clock_types : ProgramTree → NodeTree → Decl → List NameFault
clock_types p n d = elim d.clock as (λ _. List NameFault) [ Nothing ↦ [] | Some c ↦ clash_unless c.at Boolean (flow_kind p n c.text) ]

abbrev pub types_in_node : ProgramTree → NodeTree → List NameFault
types_in_node p n = flat_map (clock_types p n) n.locals
    ++ (flat_map (equation_types p n) n.equations ++ flat_map (assertion_types p n) n.assertions)

-- What breaks a rule of types in a program.
abbrev pub type_faults : ProgramTree → List NameFault
type_faults p = constant_types p (reverse p.constants) ++ flat_map (types_in_node p) p.nodes

-- one output, which is Boolean
abbrev pub is_observer : List Kind → Bool
is_observer [] = false
is_observer (k ∷ []) = same_kind k Boolean
is_observer (k ∷ _) = false

-- The main node has one output, which is Boolean.
abbrev pub observer_faults : ProgramTree → Identifier → List NameFault
observer_faults p main = elim (node_named p main) as (λ _. List NameFault)
    [ Nothing ↦ [] | Some m ↦ cond (is_observer (decl_kinds p m.outputs)) [] (NotObserver m.name.at ∷ []) ]
