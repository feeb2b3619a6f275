-- The spaces of names of a program, and what is wrong of the declarations in them and of the uses, by these spaces.
use Rattle.std.specs.Prelude.{ℕ, Bool, true, ◌||◌, List, [], ◌++◌, flat_map, Option, Some, None as Nothing}
use Rattle.rv_tree.specs.declared.tree.TypeBody.TheVariants.{Alias, Labels}
use Rattle.rv_tree.specs.Tree.{Tree, Trees, EquationTree, AssertionTree, ConstantTree, NodeTree, ProgramTree}
use Rattle.rv_tree.specs.{declared.tree.Name.Name, declared.tree.TypeName.TypeName, declared.tree.TypeDecl.TypeDecl, declared.tree.Decl.Decl, Places.Identifier}
use Rattle.rv_types.specs.declared.uses.Reach.TheVariants.{Before, Everywhere}
use Rattle.rv_types.specs.Names.{is_declared, stands_before, type_names, constant_names, label_names, node_names, decls, decl_names, lefts, repeated}
use Rattle.rv_types.specs.Names.{repeated_values, undefined_unless, type_use, use_of, own_uses, uses}
use Rattle.rv_types.specs.{Parts.faults_of_all, declared.fault.NameFault.NameFault, declared.spaces.Spaces.Spaces, declared.uses.Reach.Reach, Firsts.firsts}

abbrev pub first_spaces : ProgramTree → Spaces
first_spaces p = record {
  types = firsts (type_names p);
  constants = firsts (constant_names p);
  labels = firsts (label_names p);
  nodes = firsts (node_names p);
}

-- the second declarations of nodes, of types, and of constants and labels
abbrev pub second_declarations : ProgramTree → List NameFault
second_declarations p = repeated [] (node_names p) ++ (repeated [] (type_names p) ++ repeated_values p)

-- How far a use reaches: in a constant to what stands before an offset, and in a node to its flows and to all
-- constants and labels.
abbrev pub knows_value : Spaces → List Name → Reach → Identifier → Bool
knows_value s flows (Before at) x = stands_before at s.constants x || stands_before at s.labels x
knows_value s flows Everywhere x = is_declared flows x || (is_declared s.constants x || is_declared s.labels x)

-- and the name of a clock
abbrev pub knows_clock : List Name → Reach → Identifier → Bool
knows_clock flows (Before at) x = true
knows_clock flows Everywhere x = is_declared flows x

-- the unknown names of an expression
abbrev pub unknown_in : Spaces → List Name → Reach → Tree → List NameFault
unknown_in s flows r e = uses (knows_value s flows r) (knows_clock flows r) (is_declared s.nodes) e

-- and of several
abbrev pub unknown_in_all : Spaces → List Name → Reach → Trees → List NameFault
unknown_in_all s flows r es = faults_of_all (own_uses (knows_value s flows r) (knows_clock flows r) (is_declared s.nodes)) es

-- What is unknown in declarations, equations and assertions.

abbrev pub alias_use_in : List Name → TypeDecl → List NameFault
alias_use_in types d = elim d.body as (λ _. List NameFault) [ Alias t ↦ type_use (stands_before d.name.at types) t | Labels xs ↦ [] ]

abbrev pub type_use_before : List Name → ℕ → Option TypeName → List NameFault
type_use_before types at Nothing = []
type_use_before types at (Some t) = type_use (stands_before at types) t

-- a constant, which has no flows
abbrev pub constant_use_in : Spaces → List Name → ConstantTree → List NameFault
constant_use_in s flows c = type_use_before s.types c.name.at c.kind ++ unknown_in s flows (Before c.name.at) c.body

abbrev pub flow_use_in : List Name → Decl → List NameFault
flow_use_in types d = type_use (is_declared types) d.kind

abbrev pub clock_use_in : List Name → Decl → List NameFault
clock_use_in flows d = elim d.clock as (λ _. List NameFault) [ Nothing ↦ [] | Some c ↦ use_of (is_declared flows) c ]

abbrev pub equation_use_in : Spaces → List Name → EquationTree → List NameFault
equation_use_in s flows q = flat_map (use_of (is_declared flows)) q.lefts ++ unknown_in s flows Everywhere q.right

abbrev pub assertion_use_in : Spaces → List Name → AssertionTree → List NameFault
assertion_use_in s flows a = unknown_in s flows Everywhere a.body

-- the flows of a node
abbrev pub flow_names : NodeTree → List Name
flow_names n = decl_names (decls n)

-- what is wrong of the declarations of a node, of its left sides and its uses
abbrev pub declarations_in : NodeTree → List NameFault
declarations_in n = repeated [] (flow_names n) ++ repeated (decl_names n.inputs) (lefts n)

abbrev pub undefined_in : NodeTree → List NameFault
undefined_in n = flat_map (undefined_unless (firsts (lefts n))) (decl_names (n.outputs ++ n.locals))

abbrev pub uses_in : Spaces → List Name → NodeTree → List NameFault
uses_in s flows n = (flat_map (flow_use_in s.types) (decls n) ++ flat_map (clock_use_in flows) n.locals)
    ++ (flat_map (equation_use_in s flows) n.equations ++ flat_map (assertion_use_in s flows) n.assertions)

abbrev pub names_in : Spaces → NodeTree → List NameFault
names_in s n = declarations_in n ++ (undefined_in n ++ uses_in s (firsts (flow_names n)) n)
