-- Paths lead to instances: each to the node of the instance with the path, and to nothing else.
use Rattle.std.proofs.Common.{◌≡◌, ℕ, ◌+◌, true, false, cond, unwrap_or, List, [], ◌∷◌, ◌++◌, map, refl, sym, ◌∙◌, ap, subst, Option, Some, IsTrue, get_or}
use Rattle.std.proofs.Common.{add-one, None as Nothing}
use Rattle.std.proofs.{Math.ListN.get_or-map, lemmas.List.append_assoc, lemmas.List.append-nil, lemmas.Option.none-some, lemmas.Option.same_Some}
use Rattle.std.specs.{List.Contains, Option.option_map}
use Rattle.rv_tree.specs.{Tree.NodeTree, Tree.ProgramTree, Places.Identifier, Places.Sites, Places.is_same, Places.index_of, Places.is_among}
use Rattle.rv_types.specs.Instances.{CallTree, calls, Instance, no_node, node_of, callee, IsInstance, is_main, is_callee, IsNode, name_at}
use Rattle.rv_types.specs.{declared.typed.Typed.Typed, Names.texts, Kinds.node_among, Settled.IsSettled, Settled.IsAnswer, WellFormed.AreWell}
use Rattle.rv_meaning.specs.Leading.{callee_in_node, node_texts, numbered, callee_at, led_by}
use Rattle.rv_meaning.proofs.{Acceptable.formed, NameLemmas.index_at, Calling.callee_there, Calling.callee_found}
use Rattle.rv_types.proofs.Members.{among_contains}

-- the node of a name is that of its number
pub node_is : (ns : List NodeTree) (f : Identifier) → unwrap_or (node_among ns f) no_node ≡ numbered ns (index_of (node_texts ns) f)
node_is [] f = refl
node_is (n ∷ ns) f = elim (is_same n.name.text f)
    as (λ b. unwrap_or (cond b (Some n) (node_among ns f)) no_node ≡ numbered (n ∷ ns) (cond b 0 (index_of (node_texts ns) f + 1)))
    [ true ↦ refl | false ↦ node_is ns f ∙ ap (numbered (n ∷ ns)) (sym (add-one (index_of (node_texts ns) f))) ]

-- the names of the nodes
pub names_are : (ns : List NodeTree) → texts (map (λ n. n.name) ns) ≡ node_texts ns
names_are [] = refl
names_are (n ∷ ns) = ap (λ l. n.name.text ∷ l) (names_are ns)

-- What is known of an answer of the rules: its main node.
module _ (p : ProgramTree) (t : Typed) (answer : IsAnswer p t) where
  -- the number of the main node is that of its name
  main_is : t.main ≡ index_of (node_texts p.nodes) answer.0
  main_is = answer.1.main_number ∙ ap (λ l. index_of l answer.0) (names_are p.nodes)

  -- some node has the name
  has_main : IsNode p answer.0
  has_main = subst (λ l. IsTrue (is_among l answer.0)) (names_are p.nodes) answer.1.has_main

  -- the name of the main node
  name_is : name_at p t.main ≡ answer.0
  name_is =
      sym (get_or-map (λ n. n.name.text) p.nodes t.main no_node)
      ∙ ap (λ k. get_or (node_texts p.nodes) k []) main_is
      ∙ (index_at (node_texts p.nodes) answer.0 (among_contains (node_texts p.nodes) answer.0 has_main)).1

  -- some node has it
  pub is_node : IsNode p (name_at p t.main)
  is_node = subst (λ x. IsNode p x) (sym name_is) has_main

  -- the rules hold with it
  pub settled : IsSettled p (name_at p t.main) t
  settled = subst (λ x. IsSettled p x t) (sym name_is) answer.1

  -- the node with the number is the main node
  pub main_node : numbered p.nodes t.main ≡ node_of p (name_at p t.main)
  main_node = ap (numbered p.nodes) main_is ∙ sym (node_is p.nodes answer.0) ∙ ap (node_of p) (sym name_is)

-- where a path leads from a node that may be there
abbrev onward : (ℕ → ℕ → Option ℕ) → Sites → Option ℕ → Option ℕ
onward next path o = elim o as (λ _. Option ℕ) [ Nothing ↦ Nothing | Some k ↦ led_by next k path ]

-- where a path leads, one step more leads by that step
one_more : (next : ℕ → ℕ → Option ℕ) (path : Sites) (k m s : ℕ) → led_by next k path ≡ Some m → led_by next k (path ++ s ∷ []) ≡ next m s
one_more next [] k m s e = (elim (next k s) as (λ o. onward next [] o ≡ o) [ Nothing ↦ refl | Some j ↦ refl ]) ∙ ap (λ j. next j s) (same_Some k m e)
one_more next (r ∷ rs) k m s e = elim (next k r) as (λ o. onward next rs o ≡ Some m → onward next (rs ++ s ∷ []) o ≡ next m s)
    [ Nothing ↦ λ none. absurd (none-some m none) | Some j ↦ λ there. one_more next rs j m s there ] e

-- steps that agree lead to the same
pub led_alike : (f g : ℕ → ℕ → Option ℕ) → ((k s : ℕ) → f k s ≡ g k s) → (path : Sites) (k : ℕ) → led_by f k path ≡ led_by g k path
led_alike f g same [] k = refl
led_alike f g same (s ∷ ss) k =
    ap (onward f ss) (same k s) ∙ (elim (g k s) as (λ o. onward f ss o ≡ onward g ss o) [ Nothing ↦ refl | Some j ↦ led_alike f g same ss j ])

module _ (p : ProgramTree) (main : Identifier) where
  -- A path leads to the node with this number.
  pub record LeadsTo (start : ℕ) (i : Instance) : Type 0 where
    pub number : ℕ
    pub leads : led_by (callee_at p.nodes) start i.path ≡ Some number
    pub node : numbered p.nodes number ≡ i.node

  -- The instance to which a path leads from another.
  pub record IsLed (j : Instance) (path : Sites) (number : ℕ) : Type 0 where
    pub instance : Instance
    pub is : IsInstance p main instance
    pub path_is : instance.path ≡ j.path ++ path
    pub node_is : instance.node ≡ numbered p.nodes number

  module _ (well : AreWell p) (is_node : IsNode p main) (start : ℕ) (start_is : numbered p.nodes start ≡ node_of p main) where
    -- the path of each instance leads to its node
    pub leads_to : (i : Instance) → IsInstance p main i → LeadsTo start i
    leads_to _ is_main = record { number = start; leads = refl; node = start_is }
    leads_to _ (is_callee {i = i} c q w) =
        let up = leads_to i q in
        let f = callee_found i.node c w in
        let same : f.0 ≡ c = (formed p main well is_node i q).sites f.0 c f.2 w f.3 in
        record {
          number = index_of (node_texts p.nodes) c.name;
          leads = one_more (callee_at p.nodes) i.path start up.number c.site up.leads
              ∙ ap (λ n. option_map (index_of (node_texts p.nodes)) (callee_in_node n c.site)) up.node
              ∙ ap (option_map (index_of (node_texts p.nodes))) f.1
              ∙ ap (λ (d : CallTree). Some (index_of (node_texts p.nodes) d.name)) same;
          node = sym (node_is p.nodes c.name);
        }

  -- a path that leads to a node is that of an instance
  pub led_to : (path : Sites) (k m : ℕ) (j : Instance) → IsInstance p main j → numbered p.nodes k ≡ j.node → led_by (callee_at p.nodes) k path ≡ Some m
      → IsLed j path m
  led_to [] k m j inst here e =
      record { instance = j; is = inst; path_is = sym (append-nil j.path); node_is = sym here ∙ ap (numbered p.nodes) (same_Some k m e) }
  led_to (s ∷ ss) k m j inst here e = tested (callee_in_node (numbered p.nodes k) s) refl (λ k j inst here e. led_to ss k m j inst here e) e
    where
      tested : (o : Option Identifier) → callee_in_node (numbered p.nodes k) s ≡ o
          → ((k : ℕ) (j : Instance) → IsInstance p main j → numbered p.nodes k ≡ j.node → led_by (callee_at p.nodes) k ss ≡ Some m → IsLed j ss m)
          → elim (option_map (index_of (node_texts p.nodes)) o) as (λ _. Option ℕ) [ Nothing ↦ Nothing | Some q ↦ led_by (callee_at p.nodes) q ss ] ≡ Some m
          → IsLed j (s ∷ ss) m
      tested Nothing is again e = absurd (none-some m e)
      tested (Some f) is again e =
          let r = callee_there (numbered p.nodes k) s f is in
          let c = r.0 in
          let w : Contains (calls j.node) c = subst (λ n. Contains (calls n) c) here r.1 in
          let there : numbered p.nodes (index_of (node_texts p.nodes) f) ≡ (callee p j c).node = sym (node_is p.nodes f) ∙ ap (node_of p) (sym r.3) in
          let rest = again (index_of (node_texts p.nodes) f) (callee p j c) (is_callee c inst w) there e in
          record {
            instance = rest.instance;
            is = rest.is;
            path_is = rest.path_is ∙ append_assoc j.path (c.site ∷ []) ss ∙ ap (λ q. j.path ++ q ∷ ss) r.2;
            node_is = rest.node_is;
          }
