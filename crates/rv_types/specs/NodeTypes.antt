-- What breaks a rule of types in the equations, assertions and clocks of a node, by the scope of its expressions.
use Rattle.std.specs.Prelude.{ℕ, Bool, cond, List, [], ◌∷◌, ◌++◌, map, flat_map, Option, Some, is_some, None as Nothing}
use Rattle.rv_tree.specs.Tree.{Tree, Trees, EquationTree, AssertionTree, NodeTree, ProgramTree}
use Rattle.rv_tree.specs.{declared.tree.Name.Name, declared.tree.Decl.Decl, Places.Identifier}
use Rattle.rv_types.specs.{declared.typed.Kind.Kind, declared.typed.Kind.TheVariants.Bool as Boolean, declared.fault.NameFault.NameFault}
use Rattle.rv_types.specs.{declared.fault.NameFault.TheVariants.TypeClash, declared.fault.NameFault.TheVariants.NotObserver, Parts.offset_of}
use Rattle.rv_types.specs.{Parts.faults_of_all, Types.Scope, Types.kind_of, Types.kinds_of_all, Types.expression_types, Types.own_type_fault}
use Rattle.rv_types.specs.{Scopes.clash_unless, Scopes.sides_clash, Scopes.several_clash, Scopes.several_types, Scopes.is_observer, Kinds.decl_kinds}

-- where a rule is not met
abbrev pub clash_where : ℕ → Bool → List NameFault
clash_where at broken = cond broken (TypeClash at ∷ []) []

-- the types of left sides
abbrev pub lefts_by : Scope → List Name → List (Option Kind)
lefts_by s xs = map (λ x. s.clock x.text) xs

abbrev pub sides_by : Scope → List Name → Tree → List NameFault
sides_by s (x ∷ []) e = expression_types s e ++ sides_clash (offset_of e) (s.clock x.text) (kind_of s e)
sides_by s xs e = several_types s (lefts_by s xs) e

abbrev pub equation_by : Scope → EquationTree → List NameFault
equation_by s q = sides_by s q.lefts q.right

abbrev pub assertion_by : Scope → AssertionTree → List NameFault
assertion_by s a = expression_types s a.body ++ clash_unless (offset_of a.body) Boolean (kind_of s a.body)

abbrev pub local_by : Scope → Decl → List NameFault
local_by s d = elim d.clock as (λ _. List NameFault) [ Nothing ↦ [] | Some c ↦ clash_unless c.at Boolean (s.clock c.text) ]

abbrev pub types_by : Scope → NodeTree → List NameFault
types_by s n = flat_map (local_by s) n.locals ++ (flat_map (equation_by s) n.equations ++ flat_map (assertion_by s) n.assertions)

-- the right side of an equation with several left sides, where it is a call
abbrev pub called_types : Scope → List (Option Kind) → ℕ → Identifier → Trees → List NameFault
called_types s left at f es = faults_of_all (own_type_fault s) es ++ several_clash at (s.callee f) left (kinds_of_all s es)

-- and where it is none
abbrev pub plain_types : Scope → Tree → List NameFault
plain_types s e = expression_types s e ++ clash_where (offset_of e) (is_some (kind_of s e))

-- a node that is no observer
abbrev pub observer_fault_of : ProgramTree → NodeTree → List NameFault
observer_fault_of p m = cond (is_observer (decl_kinds p m.outputs)) [] (NotObserver m.name.at ∷ [])
