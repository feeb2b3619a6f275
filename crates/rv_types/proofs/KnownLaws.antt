-- What is wrong by the spaces of a program is what breaks a rule of names.
use Rattle.std.proofs.Common.{◌≡◌, ℕ, cond, ◌||◌, List, [], ◌∷◌, ◌++◌, flat_map, Option, Some, refl, ap, ◌∙◌, None as Nothing}
use Rattle.std.proofs.lemmas.List.{map-append}
use Rattle.rv_tree.specs.Places.{names, flows, is_among, is_flow}
use Rattle.rv_tree.specs.{declared.tree.Name.Name, declared.tree.Decl.Decl, declared.tree.TypeName.TypeName, declared.tree.TypeBody.TheVariants.Alias}
use Rattle.rv_tree.specs.{declared.tree.TypeBody.TheVariants.Labels, Tree.NodeTree, Tree.ProgramTree}
use Rattle.rv_types.specs.declared.uses.Reach.TheVariants.{Before, Everywhere}
use Rattle.rv_types.specs.Names.{texts, is_declared, stands_before, type_names, constant_names, label_names, node_names, decls, decl_names, lefts, repeated}
use Rattle.rv_types.specs.Names.{type_use, use_of, uses, undefined_unless, alias_use, flow_use, is_value_before, is_clock_anyhow, constant_uses, is_value}
use Rattle.rv_types.specs.Names.{node_uses, equation_uses, assertion_uses, clock_use, names_in_node, name_faults}
use Rattle.rv_types.specs.Known.{first_spaces, second_declarations, knows_value, unknown_in, alias_use_in, type_use_before, constant_use_in, flow_names}
use Rattle.rv_types.specs.Known.{undefined_in, uses_in, names_in}
use Rattle.rv_types.specs.{declared.fault.NameFault.NameFault, declared.fault.NameFault.TheVariants.Undefined, Firsts.firsts}
use Rattle.rv_types.proofs.FirstNames.{declared_firsts, before_firsts}

pub texts_of : (ds : List Decl) → texts (decl_names ds) ≡ names ds
texts_of [] = refl
texts_of (d ∷ ds) = ap (λ l. d.name.text ∷ l) (texts_of ds)

-- the names of flows, by their bytes
pub flows_are : (n : NodeTree) → texts (flow_names n) ≡ flows n
flows_are n = texts_of (decls n) ∙ map-append (λ d. d.name.text) (n.inputs ++ n.outputs) n.locals
    ∙ ap (λ l. l ++ names n.locals) (map-append (λ d. d.name.text) n.inputs n.outputs)

declared_all : (xs : List Name) → is_declared (firsts xs) ≡ is_declared xs
declared_all xs = λ i x. declared_firsts xs x i

before_all : (at : ℕ) (xs : List Name) → stands_before at (firsts xs) ≡ stands_before at xs
before_all at xs = λ i x. before_firsts at xs x i

-- the flows of a node are the declared names
flow_known : (n : NodeTree) → is_declared (firsts (flow_names n)) ≡ is_flow n
flow_known n = declared_all (flow_names n) ∙ (λ i x. is_among (flows_are n i) x)

alias_same : (p : ProgramTree) → alias_use_in (first_spaces p).types ≡ alias_use p
alias_same p = λ i d. elim d.body as (λ _. List NameFault) [ Alias t ↦ type_use (before_all d.name.at (type_names p) i) t | Labels xs ↦ [] ]

before_known : (p : ProgramTree) (flows : List Name) (at : ℕ) → knows_value (first_spaces p) flows (Before at) ≡ is_value_before p at
before_known p flows at = λ i x. before_firsts at (constant_names p) x i || before_firsts at (label_names p) x i

type_same : (p : ProgramTree) (at : ℕ) (k : Option TypeName) → type_use_before (first_spaces p).types at k
    ≡ elim k as (λ _. List NameFault) [ Nothing ↦ [] | Some t ↦ type_use (stands_before at (type_names p)) t ]
type_same p at Nothing = refl
type_same p at (Some t) = λ i. type_use (before_all at (type_names p) i) t

constant_same : (p : ProgramTree) (flows : List Name) → constant_use_in (first_spaces p) flows ≡ constant_uses p
constant_same p flows = λ i c. type_same p c.name.at c.kind i ++ uses (before_known p flows c.name.at i) is_clock_anyhow (declared_all (node_names p) i) c.body

everywhere_known : (p : ProgramTree) (n : NodeTree) → knows_value (first_spaces p) (firsts (flow_names n)) Everywhere ≡ is_value p n
everywhere_known p n = λ i x. flow_known n i x || (declared_firsts (constant_names p) x i || declared_firsts (label_names p) x i)

node_same : (p : ProgramTree) (n : NodeTree) → unknown_in (first_spaces p) (firsts (flow_names n)) Everywhere ≡ node_uses p n
node_same p n = λ i e. uses (everywhere_known p n i) (flow_known n i) (declared_all (node_names p) i) e

uses_same : (p : ProgramTree) (n : NodeTree) → uses_in (first_spaces p)
    (firsts (flow_names n)) n ≡ (flat_map (flow_use p) (decls n) ++ flat_map (clock_use n) n.locals)
    ++ (flat_map (equation_uses p n) n.equations ++ flat_map (assertion_uses p n) n.assertions)
uses_same p n = λ i.
    (flat_map (λ d. type_use (declared_all (type_names p) i) d.kind) (decls n)
    ++ flat_map (λ d. elim d.clock as (λ _. List NameFault) [ Nothing ↦ [] | Some c ↦ use_of (flow_known n i) c ]) n.locals)
    ++ (flat_map (λ q. flat_map (use_of (flow_known n i)) q.lefts ++ node_same p n i q.right) n.equations
    ++ flat_map (λ a. node_same p n i a.body) n.assertions)

undefined_same : (n : NodeTree) → undefined_in n ≡ flat_map (undefined_unless (lefts n)) (decl_names (n.outputs ++ n.locals))
undefined_same n = λ i. flat_map (λ x. cond (declared_firsts (lefts n) x.text i) [] (Undefined x.at ∷ [])) (decl_names (n.outputs ++ n.locals))

names_same : (p : ProgramTree) → names_in (first_spaces p) ≡ names_in_node p
names_same p = λ i n. (repeated [] (decl_names (decls n)) ++ repeated (decl_names n.inputs) (lefts n)) ++ (undefined_same n i ++ uses_same p n i)

-- all that is wrong of names
pub all_names : (p : ProgramTree) (flows : List Name) → second_declarations p
    ++ ((flat_map (alias_use_in (first_spaces p).types) p.types ++ flat_map (constant_use_in (first_spaces p) flows) p.constants)
    ++ flat_map (names_in (first_spaces p)) p.nodes) ≡ name_faults p
all_names p flows = λ i. second_declarations p ++ ((flat_map (alias_same p i) p.types ++ flat_map (constant_same p flows i) p.constants)
    ++ flat_map (names_same p i) p.nodes)
