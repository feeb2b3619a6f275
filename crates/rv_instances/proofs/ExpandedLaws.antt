-- What holds of a program of which all instances are known.
use Rattle.std.proofs.Common.{◌≡◌, ℕ, ◌<◌, ◌≤◌, inl, inr, List, [], ◌∷◌, ◌++◌, length, get_or, sym, ◌∙◌, ap, subst, arith}
use Rattle.std.proofs.{lemmas.List.Elements.Contains-get_or, lemmas.Bool.cases_eq}
use Rattle.std.specs.List.{Contains}
use Rattle.rv_tree.specs.{Tree.NodeTree, Tree.ProgramTree, Bounded.most, Places.Identifier, Places.Sites, Places.flows, Places.index_of}
use Rattle.rv_types.specs.Instances.{Instance, no_node, main_instance, IsInstance, is_main, is_callee}
use Rattle.rv_types.specs.{Needs.IsBefore}
use Rattle.rv_instances.specs.{declared.answer.Instance.Instance as Numbered, AllInstances.names_of, AllInstances.numbered, Expanded.IsExpanded}
use Rattle.rv_instances.specs.{Expanded.no_instance, Flowing.AreOfNodes, Layouts.node_at, Layouts.path_at, Layouts.ArePaths}
use Rattle.rv_instances.proofs.FlowPlaces.{not_empty, snoc_parts, same_instance, numbered_node}
use Rattle.rv_types.proofs.Members.{stands_at}
use Rattle.rv_instances.proofs.{Lists.one_number, Known.number_of_node, Flowing.instance_node}

module _ (p : ProgramTree) (main : Identifier) (instances : List Numbered) (known : IsExpanded p main instances) where
  -- the node of an instance is one of the program
  pub node_in : (i : Instance) → IsInstance p main i → Contains p.nodes i.node
  node_in i is = instance_node p known.named main known.declared i is

  -- the instance with a number
  pub instance_at : (m : ℕ) → m < length instances → (i : Instance) × IsInstance p main i × (get_or instances m no_instance ≡ numbered p i)
  instance_at m lt = known.all.only (get_or instances m no_instance) (Contains-get_or instances m no_instance lt)

  -- the number of an instance
  pub number_at : (i : Instance) → IsInstance p main i → (m : ℕ) × (m < length instances) × (get_or instances m no_instance ≡ numbered p i)
  number_at i is = let w = known.all.all i is in (w.0, w.1, stands_at instances (numbered p i) no_instance w)

  -- its node
  pub node_is : (m : ℕ) (i : Instance) → IsInstance p main i → get_or instances m no_instance ≡ numbered p i → node_at p instances m ≡ i.node
  node_is m i is e = ap (λ (x : Numbered). get_or p.nodes x.node no_node) e ∙ numbered_node p main known.named known.declared known.sited i is

  pub path_is : (m : ℕ) (i : Instance) → get_or instances m no_instance ≡ numbered p i → path_at instances m ≡ i.path
  path_is m i e = ap (λ (x : Numbered). x.path) e

  -- two numbers of one path are one
  pub same_number : (m k : ℕ) → m < length instances → k < length instances → path_at instances m ≡ path_at instances k → m ≡ k
  same_number = one_number (path_at instances) (length instances) (λ j k less lt. known.all.rising j k no_instance less lt)

  pub same : (i a : Instance) → IsInstance p main i → IsInstance p main a → i.path ≡ a.path → i ≡ a
  same = same_instance p main known.named known.declared known.sited

  -- two instances of one number are one
  pub same_at : (m : ℕ) (i a : Instance) → IsInstance p main i → IsInstance p main a → get_or instances m no_instance ≡ numbered p i
      → get_or instances m no_instance ≡ numbered p a → i ≡ a
  same_at m i a is js e f = same i a is js (sym (path_is m i e) ∙ path_is m a f)

  pub of_nodes : AreOfNodes p instances
  of_nodes x w =
      let v = known.all.only x w in
      let n = node_in v.0 v.1 in
      let there = stands_at p.nodes v.0.node no_node n in
      let is : x.node ≡ n.0 = ap (λ (y : Numbered). y.node) v.2 ∙ ap (λ (m : NodeTree). index_of (names_of p) m.name.text) (sym there)
      ∙ number_of_node p known.named n.0 n.1 in
      omega (arith, is, n.1)

  -- the node of the instance with a number is one of the program
  pub node_there : (m : ℕ) → m < length instances → Contains p.nodes (node_at p instances m)
  node_there m lt = Contains-get_or p.nodes (get_or instances m no_instance).node no_node
      (of_nodes (get_or instances m no_instance) (Contains-get_or instances m no_instance lt))

  -- and its flows are few
  pub node_few : (m : ℕ) → m < length instances → length (flows (node_at p instances m)) ≤ most
  node_few m lt = known.bounded.node_flows (node_at p instances m) (node_there m lt)

  -- with each instance stands that which calls it
  pub are_paths : ArePaths instances
  are_paths = record {
    rising = λ j k less lt. known.all.rising j k no_instance less lt;
    closed = λ k s q lt e. let v = instance_at k lt in caller v.0 v.1 q s (sym (path_is k v.0 v.2) ∙ e);
  }
    where
      caller : (i : Instance) → IsInstance p main i → (q : Sites) (s : ℕ) → i.path ≡ q ++ s ∷ [] → (j : ℕ) × (j < length instances) × (path_at instances j ≡ q)
      caller _ is_main q s e = absurd (not_empty q s [] e)
      caller _ (is_callee {i = j} d is w) q s e =
          let parts = snoc_parts j.path q d.site s e in let n = number_at j is in (n.0, n.1, path_is n.0 j n.2 ∙ parts.0)

  -- the first instance is that of main
  pub main_at : (0 < length instances) × (get_or instances 0 no_instance ≡ numbered p (main_instance p main))
  main_at =
      let root = number_at (main_instance p main) is_main in
      let lt = root.1 in
      elim (cases_eq root.0 0) [
        | inl here ↦ (omega (arith, lt), ap (λ k. get_or instances k no_instance) (sym here) ∙ root.2)
        | inr other ↦ absurd (subst (IsBefore (path_at instances 0)) (path_is root.0 (main_instance p main) root.2)
            (known.all.rising 0 root.0 no_instance (omega (arith, other)) lt))
      ]
