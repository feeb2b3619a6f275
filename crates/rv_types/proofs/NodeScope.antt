-- The scope that the tables of a node stand for.
use Rattle.std.proofs.Common.{◌≡◌, ℕ, ◌+◌, ◌<◌, true, false, not, ◌||◌, cond, List, [], ◌∷◌, ◌++◌, map, flat_map, reverse, length, get_or, Option, Some, refl}
use Rattle.std.proofs.Common.{sym, ap, ◌∙◌, arith, slice_get, append-nil, take, add-one}
use Rattle.std.proofs.{lemmas.List.reverse-reverse, lemmas.List.length-map, lemmas.List.map-append, Math.Seq.take-suc}
use Rattle.rv_tree.specs.Places.{Identifier, is_same, is_among, is_flow, index_of}
use Rattle.rv_tree.specs.{declared.tree.Node.Node, Tree.node_tree, Tree.Tree, Tree.NodeTree, Tree.ProgramTree, declared.tree.Name.Name}
use Rattle.rv_types.specs.Scopes.{constant_kind, value_kind, is_fixed, signature_of, signature_named, node_scope, types_in_node, sides_types}
use Rattle.rv_types.specs.{Earliest.first, Earliest.sooner, declared.typed.Kind.Kind, declared.view.Label.Label, declared.fault.NameFault.NameFault}
use Rattle.rv_types.specs.{Names.is_declared, Names.decls, Names.repeated, Names.names_in_node, Firsts.firsts, Known.flow_names, Kinds.flow_kinds}
use Rattle.rv_types.specs.{Kinds.flow_kind, Types.Signature, Tables.entry_in, Tables.flow_or, Tables.value_in, Tables.scope_of, TypeTables.flow_kinds_by}
use Rattle.rv_types.specs.{NodeTypes.types_by, NodeTypes.local_by, NodeTypes.assertion_by, NodeTypes.sides_by, ConstantTables.AreTablesOf}
use Rattle.rv_types.specs.{ConstantTables.AreNodeTablesOf}
use Rattle.rv_types.proofs.{Joined.mapped_step, FirstNames.all_first, KnownLaws.flows_are, Entries.found_in, Entries.entry_found, Entries.node_found}
use Rattle.rv_types.proofs.{Entries.at_number, ConstantMeanings.types_named, ConstantMeanings.kinds_tabled, NodeFlows.none_of, NodeFlows.mapped_there}

-- where each flow has an entry, the rest is only for other names
found_or : (names : List Name) (kinds : List Kind) (x : Identifier) (other : Option Kind) → length kinds ≡ length names
    → flow_or (found_in names kinds x) other ≡ cond (is_declared names x) (found_in names kinds x) other
found_or [] kinds x other h = refl
found_or (n ∷ names) [] x other h = absurd (omega (arith, h))
found_or (n ∷ names) (k ∷ kinds) x other h = elim (is_same n.text x) as
    (λ b. flow_or (cond b (Some k) (found_in names kinds x)) other ≡ cond (b || is_declared names x) (cond b (Some k) (found_in names kinds x)) other)
    [ true ↦ refl | false ↦ found_or names kinds x other (omega (arith, h)) ]

entry_or : (names : List Name) (kinds : List Kind) (x : Identifier) (other : Option Kind) → length kinds ≡ length names
    → flow_or (entry_in names kinds x) other ≡ cond (is_declared names x) (entry_in names kinds x) other
entry_or names kinds x other h =
    ap (λ o. flow_or o other) (entry_found names kinds x) ∙ found_or names kinds x other h
    ∙ ap (λ o. cond (is_declared names x) o other) (sym (entry_found names kinds x))

kinds_long : (p : ProgramTree) (n : NodeTree) → length (flow_kinds p n) ≡ length (flow_names n)
kinds_long p n = length-map (decls n) _ ∙ sym (length-map (decls n) _)

clock_is : (p : ProgramTree) (n : NodeTree) (x : Identifier) → entry_in (flow_names n) (flow_kinds p n) x ≡ flow_kind p n x
clock_is p n x = sym (at_number (flow_names n) (flow_kinds p n) x (kinds_long p n)) ∙ ap (λ fs. slice_get (flow_kinds p n) (index_of fs x)) (flows_are n)

declared_is : (n : NodeTree) (x : Identifier) → is_declared (flow_names n) x ≡ is_flow n x
declared_is n x = ap (λ fs. is_among fs x) (flows_are n)

kind_is : (p : ProgramTree) (n : NodeTree) (x : Identifier) → flow_or (entry_in (flow_names n) (flow_kinds p n) x) (constant_kind p x) ≡ value_kind p n x
kind_is p n x = entry_or (flow_names n) (flow_kinds p n) x (constant_kind p x) (kinds_long p n)
    ∙ (λ i. cond (declared_is n x i) (clock_is p n x i) (constant_kind p x))

pub all_before : (p : ProgramTree) → p.constants ≡ reverse (reverse p.constants) ++ []
all_before p = sym (append-nil (reverse (reverse p.constants)) ∙ reverse-reverse p.constants)

pub scope_is : (p : ProgramTree) (n : NodeTree) (types : List Name) (kinds : List Kind) (constants labels : List Name) (places : List Label)
    (constant_kinds : List (Option Kind)) (nodes : List Name) (signatures : List Signature) (known : List Name) (own : List Kind)
    → AreTablesOf p types kinds constants labels places → AreNodeTablesOf p constant_kinds nodes signatures → repeated [] (flow_names n) ≡ []
    → known ≡ firsts (flow_names n) → own ≡ flow_kinds_by (entry_in types kinds) n → scope_of (record {
      flows = known;
      flow_kinds = own;
      constants = constants;
      constant_kinds = constant_kinds;
      labels = labels;
      places = places;
      nodes = nodes;
      signatures = signatures;
      moves = true;
    })
    ≡ node_scope p n
scope_is p n types kinds constants labels places constant_kinds nodes signatures known own t s different f k =
    let flows_full : known ≡ flow_names n = f ∙ all_first (flow_names n) different in
    let own_full : own ≡ flow_kinds p n = k ∙ (λ i. flow_kinds_by (types_named p _ _ _ _ _ t i) n) in
    let values = kinds_tabled p _ _ _ _ _ t (reverse p.constants) [] (all_before p) constant_kinds s.constant_kind_table in
    let kind : (x : Identifier) → flow_or (entry_in known own x) (value_in constants constant_kinds labels places x) ≡ value_kind p n x =
    λ x. (λ i. flow_or (entry_in (flows_full i) (own_full i) x) (values i x)) ∙ kind_is p n x in
    let clock : (x : Identifier) → entry_in known own x ≡ flow_kind p n x = λ x. (λ i. entry_in (flows_full i) (own_full i) x) ∙ clock_is p n x in
    let callee : (x : Identifier) → entry_in nodes signatures x ≡ signature_named p x =
    λ x. (λ i. entry_in (s.node_table i) (s.signature_table i) x) ∙ sym (node_found (signature_of p) p.nodes x) in
    let fixed : (x : Identifier) → not (is_declared known x) ≡ is_fixed n x = λ x. (λ i. not (is_declared (flows_full i) x)) ∙ ap not (declared_is n x) in
    λ i. record { kind = λ x. kind x i; clock = λ x. clock x i; callee = λ x. callee x i; fixed = λ x. fixed x i; moves = true }

-- What breaks a rule of types in a node.

sides_same : (p : ProgramTree) (n : NodeTree) (xs : List Name) (e : Tree) → sides_by (node_scope p n) xs e ≡ sides_types p n xs e
sides_same p n (x ∷ []) e = refl
sides_same p n _ e = refl

pub types_are : (p : ProgramTree) (n : NodeTree) → types_by (node_scope p n) n ≡ types_in_node p n
types_are p n = λ i. flat_map (local_by (node_scope p n)) n.locals ++ (flat_map (λ q. sides_same p n q.lefts q.right i) n.equations
    ++ flat_map (assertion_by (node_scope p n)) n.assertions)

-- One node more.

taken : (xs : List Node) (k : ℕ) (x : Node) → k < length xs → x ≡ get_or xs k x
    → map node_tree (take (k + 1) xs) ≡ map node_tree (take k xs) ++ node_tree x ∷ []
taken xs k x h e = rw (add-one k) (ap (map node_tree) (take-suc xs k x h ∙ ap (λ y. take k xs ++ y ∷ []) (sym e)) ∙ map-append node_tree (take k xs) (x ∷ []))

pub one_node : {B : Type 0} (f : NodeTree → B) (xs : List Node) (k : ℕ) (x : Node) (ys : List B) (y : B) → ys ≡ map f (map node_tree (take k xs))
    → y ≡ f (node_tree x) → k < length xs → x ≡ get_or xs k x → ys ++ y ∷ [] ≡ map f (map node_tree (take (k + 1) xs))
one_node f xs k x ys y so_far is h e = (λ i. so_far i ++ is i ∷ []) ∙ sym (map-append f (map node_tree (take k xs)) (node_tree x ∷ []))
    ∙ ap (map f) (sym (taken xs k x h e))

pub one_fault_more : (f : NodeTree → List NameFault) (xs : List Node) (k : ℕ) (x : Node) (o q : Option NameFault)
    → o ≡ first (flat_map f (map node_tree (take k xs))) → q ≡ first (f (node_tree x)) → k < length xs → x ≡ get_or xs k x
    → sooner o q ≡ first (flat_map f (map node_tree (take (k + 1) xs)))
one_fault_more f xs k x o q so_far is h e = mapped_step f node_tree xs k x o q (sooner o q) h e so_far is refl

-- what holds of all nodes holds of one
pub node_here : (p : ProgramTree) (xs ns : List Node) (k : ℕ) (x : Node) → flat_map (names_in_node p) (map node_tree ns) ≡ [] → xs ≡ ns → k < length xs
    → x ≡ get_or xs k x → names_in_node p (node_tree x) ≡ []
node_here p xs ns k x none all h e =
    none_of (names_in_node p) (map node_tree xs) (node_tree x) (ap (λ l. flat_map (names_in_node p) (map node_tree l)) all ∙ none)
    (mapped_there node_tree xs k x h e)
