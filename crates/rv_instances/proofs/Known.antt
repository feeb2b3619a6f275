-- What the rules of names give for the nodes of a program.
use Rattle.std.proofs.Common.{◌≡◌, ℕ, zero, suc, ◌+◌, ◌<◌, inl, inr, Bool, true, false, cond, ◌||◌, List, [], ◌∷◌, ◌++◌, map, length, get_or, refl, sym}
use Rattle.std.proofs.Common.{◌∙◌, ap, subst, arith, add-one, Option, Some, None as Nothing, unwrap_or}
use Rattle.std.proofs.{lemmas.List.get_or-map, lemmas.List.Elements.Contains-append_cases, lemmas.List.Elements.Contains-get_or}
use Rattle.std.specs.List.{Contains, flat_map}
use Rattle.rv_tree.specs.Tree.{Tree, Node, Form, Not, Minus, Pre, Current, When, Binary, If, AtMostOne, Call, Trees, None, More}
use Rattle.rv_tree.specs.Tree.{AssertionTree, NodeTree, ProgramTree}
use Rattle.rv_tree.specs.{declared.tree.Name.Name, Places.Identifier, Places.is_same, Places.is_among, Places.is_flow, Places.index_of}
use Rattle.rv_types.specs.Names.{texts, is_declared, node_names, repeated, names_in_node, name_faults, decl_names, decls, clock_use, equation_uses}
use Rattle.rv_types.specs.Names.{assertion_uses, is_value, use_at, uses, own_uses, flow_use, lefts, undefined_unless}
use Rattle.rv_types.specs.Instances.{CallTree, calls, calls_in, form_calls, calls_in_all, calls_in_equations, calls_in_assertions, no_node, node_of}
use Rattle.rv_types.specs.{Parts.faults_of_all, Kinds.node_among}
use Rattle.rv_instances.specs.AllInstances.{names_of}
use Rattle.rv_instances.proofs.Lists.{length_map}
use Rattle.rv_types.proofs.Members.{among_from, at_head, cons_cases, in_tail, index_there, nothing_in, one_number}
use Rattle.rv_types.proofs.{RightNames.all_different, RightNames.both_empty, RightNames.flows_different, CallsWithin.of_right}

pub each_nil : {X Y : Type 0} (f : X → List Y) (xs : List X) → flat_map f xs ≡ [] → (x : X) → Contains xs x → f x ≡ []
each_nil f [] e x w = nothing_in x w
each_nil f (y ∷ ys) e x w = elim (cons_cases y ys x w) [
  | inl same ↦ ap f (sym same) ∙ (both_empty _ _ e).0
  | inr rest ↦ each_nil f ys (both_empty _ _ e).1 x rest
]

pub map_at : {X Y : Type 0} (f : X → Y) (xs : List X) (k : ℕ) (d : Y) (e : X) → k < length xs → get_or (map f xs) k d ≡ f (get_or xs k e)
map_at f xs k d e lt = get_or-map f xs k e d lt

-- Names.

-- where none stands twice a name has its own number
pub index_itself : (xs : List Name) → repeated [] xs ≡ [] → (k : ℕ) → k < length (texts xs) → index_of (texts xs) (get_or (texts xs) k []) ≡ k
index_itself xs e k lt =
    let x = get_or (texts xs) k [] in
    let there = index_there (texts xs) x (among_from (texts xs) x (Contains-get_or (texts xs) k [] lt)) in
    one_number [] xs e (index_of (texts xs) x) k there.0 lt there.1

-- Nodes by their names.

abbrev texts_of_nodes : List NodeTree → List Identifier
texts_of_nodes ns = texts (map (λ (n : NodeTree). n.name) ns)

node_by_name : (ns : List NodeTree) (f : Identifier)
    → node_among ns f ≡ cond (is_among (texts_of_nodes ns) f) (Some (get_or ns (index_of (texts_of_nodes ns) f) no_node)) Nothing
node_by_name [] f = refl
node_by_name (n ∷ ns) f = elim (is_same n.name.text f) as (λ b. cond b (Some n) (node_among ns f)
    ≡ cond (b || is_among (texts_of_nodes ns) f) (Some (get_or (n ∷ ns) (cond b 0 (index_of (texts_of_nodes ns) f + 1)) no_node)) Nothing) [
      | true ↦ refl
      | false ↦ node_by_name ns f
          ∙ ap (λ k. cond (is_among (texts_of_nodes ns) f) (Some (get_or (n ∷ ns) k no_node)) Nothing) (sym (add-one (index_of (texts_of_nodes ns) f)))
    ]

pub node_missing : (ns : List NodeTree) (f : Identifier) → is_among (texts (map (λ (n : NodeTree). n.name) ns)) f ≡ false → node_among ns f ≡ Nothing
node_missing ns f e = node_by_name ns f ∙ ap (λ b. cond b (Some (get_or ns (index_of (texts_of_nodes ns) f) no_node)) Nothing) e

pub text_at : (ns : List NodeTree) (k : ℕ) → k < length ns → get_or (texts (map (λ (n : NodeTree). n.name) ns)) k [] ≡ (get_or ns k no_node).name.text
text_at [] k lt = absurd (omega (arith, lt))
text_at (n ∷ ns) zero lt = refl
text_at (n ∷ ns) (suc k) lt = text_at ns k (omega (arith, lt))

-- a name whose use is no fault is known
pub use_known : (at : ℕ) (b : Bool) → use_at at b ≡ [] → b ≡ true
use_known at true e = refl
use_known at false e = cc

-- A call of an expression of which every name is known names a node, and every name in its arguments is known.
module _ (values clocks nodes : Identifier → Bool) where
  abbrev pub IsKnownCall : CallTree → Type 0
  IsKnownCall c = (nodes c.name ≡ true) × (faults_of_all (own_uses values clocks nodes) c.args ≡ [])

  mutual
    calls_known : (e : Tree) → uses values clocks nodes e ≡ [] → (c : CallTree) → Contains (calls_in e) c → IsKnownCall c
    calls_known (Node at site form) e c w = form_known at site form e c w

    form_known : (at : ℕ) (site : Option ℕ) (form : Form) → uses values clocks nodes (Node at site form) ≡ [] → (c : CallTree)
        → Contains (form_calls at site form) c → IsKnownCall c
    form_known at site (Not t) e c w = calls_known t e c w
    form_known at site (Minus t) e c w = calls_known t e c w
    form_known at site (Pre t) e c w = calls_known t e c w
    form_known at site (Current t) e c w = calls_known t e c w
    form_known at site (When t x) e c w = calls_known t (both_empty _ _ e).1 c w
    form_known at site (Binary o a b) e c w =
        let s = both_empty _ _ e in
        elim (Contains-append_cases (calls_in a) (calls_in b) c w) [ inl v ↦ calls_known a s.0 c v | inr v ↦ calls_known b s.1 c v ]
    form_known at site (If i a b) e c w =
        let s = both_empty _ _ e in
        let t = both_empty _ _ s.1 in
        elim (Contains-append_cases (calls_in i) (calls_in a ++ calls_in b) c w) [
          | inl v ↦ calls_known i s.0 c v
          | inr v ↦ elim (Contains-append_cases (calls_in a) (calls_in b) c v) [ inl u ↦ calls_known a t.0 c u | inr u ↦ calls_known b t.1 c u ]
        ]
    form_known at site (AtMostOne es) e c w = all_known es e c w
    form_known at site (Call f es) e c w =
        let s = both_empty _ _ e in
        elim (cons_cases (record { at = at; site = unwrap_or site 0; name = f; args = es }) (calls_in_all es) c w) [
          | inl same ↦ subst IsKnownCall same (use_known at (nodes f) s.0, s.1)
          | inr v ↦ all_known es s.1 c v
        ]
    form_known at site _ e c w = nothing_in c w

    all_known : (es : Trees) → faults_of_all (own_uses values clocks nodes) es ≡ [] → (c : CallTree) → Contains (calls_in_all es) c → IsKnownCall c
    all_known None e c w = nothing_in c w
    all_known (More t ts) e c w =
        let s = both_empty _ _ e in
        elim (Contains-append_cases (calls_in t) (calls_in_all ts) c w) [ inl v ↦ calls_known t s.0 c v | inr v ↦ all_known ts s.1 c v ]

pub of_body : (qs : List AssertionTree) (d : CallTree) → Contains (calls_in_assertions qs) d
    → (q : AssertionTree) × Contains qs q × Contains (calls_in q.body) d
of_body [] d w = nothing_in d w
of_body (r ∷ rs) d w = elim (Contains-append_cases (calls_in r.body) (calls_in_assertions rs) d w) [
  | inl here ↦ (r, at_head r rs, here)
  | inr rest ↦ let v = of_body rs d rest in (v.0, in_tail r rs v.0 v.1, v.2)
]

module _ (p : ProgramTree) (named : name_faults p ≡ []) where
  node_named : (n : NodeTree) → Contains p.nodes n → names_in_node p n ≡ []
  node_named n w = each_nil (names_in_node p) p.nodes (all_different p named).in_nodes n w

  -- no two flows of a node have one name
  pub flows_once : (n : NodeTree) → Contains p.nodes n → repeated [] (decl_names (decls n)) ≡ []
  flows_once n w = flows_different p n (node_named n w)

  -- the names of declared clocks and those in equations and assertions are known
  pub uses_of : (n : NodeTree) → Contains p.nodes n → (flat_map (clock_use n) n.locals ≡ []) × (flat_map (equation_uses p n) n.equations ≡ [])
      × (flat_map (assertion_uses p n) n.assertions ≡ [])
  uses_of n w =
      let uses = both_empty _ _ (both_empty (flat_map (undefined_unless (lefts n)) (decl_names (n.outputs ++ n.locals))) _
      (both_empty (repeated [] (decl_names (decls n)) ++ repeated (decl_names n.inputs) (lefts n)) _ (node_named n w)).1).1 in
      let sides = both_empty _ _ uses.1 in ((both_empty (flat_map (flow_use p) (decls n)) _ uses.0).1, sides.0, sides.1)

  pub call_is_known : (n : NodeTree) (c : CallTree) → Contains p.nodes n → Contains (calls n) c
      → IsKnownCall (is_value p n) (is_flow n) (is_declared (node_names p)) c
  call_is_known n c w v = elim (Contains-append_cases (calls_in_equations n.equations) (calls_in_assertions n.assertions) c v) [
    | inl u ↦
        let q = of_right n.equations c u in
        calls_known (is_value p n) (is_flow n) (is_declared (node_names p)) q.0.right
        (both_empty _ _ (each_nil (equation_uses p n) n.equations (uses_of n w).1 q.0 q.1)).1 c q.2
    | inr u ↦
        let q = of_body n.assertions c u in
        calls_known (is_value p n) (is_flow n) (is_declared (node_names p)) q.0.body
        (each_nil (assertion_uses p n) n.assertions (uses_of n w).2 q.0 q.1) c q.2
  ]

  -- each call is of a node of the program
  pub calls_declared : (n : NodeTree) (c : CallTree) → Contains p.nodes n → Contains (calls n) c → is_among (names_of p) c.name ≡ true
  calls_declared n c w v = (call_is_known n c w v).0

  pub nodes_named : length (names_of p) ≡ length p.nodes
  nodes_named = length_map (λ (x : Name). x.text) (node_names p) ∙ length_map (λ (n : NodeTree). n.name) p.nodes

  name_within : (k : ℕ) → k < length p.nodes → k < length (names_of p)
  name_within k lt = omega (arith, nodes_named, lt)

  -- the number of a node's name is the node's
  pub number_of_node : (k : ℕ) → k < length p.nodes → index_of (names_of p) (get_or p.nodes k no_node).name.text ≡ k
  number_of_node k lt =
      subst (λ x. index_of (names_of p) x ≡ k) (text_at p.nodes k lt) (index_itself (node_names p) (all_different p named).nodes k (name_within k lt))

  -- a node is declared by its name
  pub name_declared : (k : ℕ) → k < length p.nodes → is_among (names_of p) (get_or p.nodes k no_node).name.text ≡ true
  name_declared k lt = subst (λ x. is_among (names_of p) x ≡ true) (text_at p.nodes k lt)
      (among_from (names_of p) (get_or (names_of p) k []) (Contains-get_or (names_of p) k [] (name_within k lt)))

  -- the node that a call names
  pub called : (f : Identifier) → is_among (names_of p) f ≡ true → (index_of (names_of p) f < length p.nodes)
      × (node_of p f ≡ get_or p.nodes (index_of (names_of p) f) no_node) × ((get_or p.nodes (index_of (names_of p) f) no_node).name.text ≡ f)
  called f e =
      let there = index_there (names_of p) f e in
      let within : index_of (names_of p) f < length p.nodes = omega (arith, nodes_named, there.0) in
      let node : node_among p.nodes f ≡ Some (get_or p.nodes (index_of (names_of p) f) no_node) =
      node_by_name p.nodes f ∙ ap (λ b. cond b (Some (get_or p.nodes (index_of (names_of p) f) no_node)) Nothing) e in
      (within, ap (λ o. unwrap_or o no_node) node, sym (text_at p.nodes (index_of (names_of p) f) within) ∙ there.1)

  -- and the node of a node's name is that node
  pub node_of_number : (k : ℕ) → k < length p.nodes → node_of p (get_or p.nodes k no_node).name.text ≡ get_or p.nodes k no_node
  node_of_number k lt = (called (get_or p.nodes k no_node).name.text (name_declared k lt)).1 ∙ ap (λ i. get_or p.nodes i no_node) (number_of_node k lt)
