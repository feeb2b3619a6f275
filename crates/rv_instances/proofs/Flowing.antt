-- What has a giver is a flow of an instance.
use Rattle.std.proofs.Common.{◌≡◌, ℕ, ◌<◌, true, List, [], ◌∷◌, ◌++◌, length, get_or, sym, ◌∙◌, ap, subst, arith}
use Rattle.std.proofs.{lemmas.List.append_assoc, lemmas.List.get_or_default, lemmas.List.Elements.Contains-get_or}
use Rattle.std.specs.List.{Contains}
use Rattle.rv_tree.specs.Places.{Identifier, Sites, flows, site_of, is_among, is_flow, index_of}
use Rattle.rv_tree.specs.{declared.tree.Name.Name, Tree.EquationTree, Tree.NodeTree, Tree.ProgramTree}
use Rattle.rv_types.specs.Names.{texts, decls, decl_names, name_faults, equation_uses, use_of}
use Rattle.rv_types.specs.Instances.{Right, IsRight, alone, in_order, Instance, no_node, callee, main_instance, IsInstance, is_main, is_callee, IsFlow}
use Rattle.rv_types.specs.Needs.{Giver, Gives, given, by_equation, by_call}
use Rattle.rv_instances.specs.AllInstances.{names_of, AreFed}
use Rattle.rv_instances.proofs.Known.{each_nil, use_known, index_itself, called, calls_declared, uses_of, flows_once}
use Rattle.rv_instances.proofs.{LaidFlows.inputs_among, Lists.length_map}
use Rattle.rv_types.proofs.{Members.among_contains, Members.among_from, Members.at_head, Members.index_there, RightNames.both_empty, KnownLaws.flows_are}
use Rattle.rv_base.proofs.Lists.{from_map}

-- a flow stands at its site
pub site_there : (n : NodeTree) (x : Identifier) → Contains (flows n) x → (site_of n x < length (flows n)) × (get_or (flows n) (site_of n x) [] ≡ x)
site_there n x w = index_there (flows n) x (among_from (flows n) x w)

module _ (p : ProgramTree) (named : name_faults p ≡ []) where
  -- the site of the flow with a number is that number
  pub site_itself : (n : NodeTree) → Contains p.nodes n → (k : ℕ) → k < length (flows n) → site_of n (get_or (flows n) k []) ≡ k
  site_itself n w k lt =
      subst (λ (l : List Identifier). k < length l → index_of l (get_or l k []) ≡ k) (flows_are n)
      (index_itself (decl_names (decls n)) (flows_once p named n w) k) lt

  pub known_left : (n : NodeTree) (q : EquationTree) (x : Identifier) → Contains p.nodes n → Contains n.equations q → Contains (texts q.lefts) x
      → is_flow n x ≡ true
  known_left n q x w v u =
      let lefts = (both_empty _ _ (each_nil (equation_uses p n) n.equations (uses_of p named n w).1 q v)).0 in
      let y = from_map (λ (y : Name). y.text) q.lefts x u in
      subst (λ z. is_flow n z ≡ true) y.2 (use_known y.0.at (is_flow n y.0.text) (each_nil (use_of (is_flow n)) q.lefts lefts y.0 y.1))

  -- a left side is a flow
  pub left_flow : (n : NodeTree) (x : Identifier) (r : Right) → Contains p.nodes n → IsRight n x r → Contains (flows n) x
  left_flow n x _ w (alone q v e) = among_contains (flows n) x (known_left n q x w v (subst (λ (l : List Identifier). Contains l x) (sym e) (at_head x [])))
  left_flow n x _ w (in_order q at site f args j v right more lt e) =
      let s = length_map (λ (y : Name). y.text) q.lefts in
      let less : j < length (texts q.lefts) = omega (arith, s, lt) in
      among_contains (flows n) x (known_left n q x w v (j, less, get_or_default (texts q.lefts) j x [] less ∙ e))

  module _ (main : Identifier) (declared : is_among (names_of p) main ≡ true) where
    -- the node of an instance is one of the program
    pub instance_node : (i : Instance) → IsInstance p main i → Contains p.nodes i.node
    instance_node _ is_main =
        let to = called p named main declared in
        subst (Contains p.nodes) (sym to.1) (Contains-get_or p.nodes (index_of (names_of p) main) no_node to.0)
    instance_node _ (is_callee {i} c is w) =
        let to = called p named c.name (calls_declared p named i.node c (instance_node i is) w) in
        subst (Contains p.nodes) (sym to.1) (Contains-get_or p.nodes (index_of (names_of p) c.name) no_node to.0)

    input_flow : (i : Instance) (j : ℕ) → IsInstance p main i → j < length i.node.inputs → IsFlow p main (i.path ++ j ∷ [])
    input_flow i j is lt =
        let less : j < length (flows i.node) = omega (arith, inputs_among i.node, lt) in (
          i,
          get_or (flows i.node) j [],
          is,
          Contains-get_or (flows i.node) j [] less,
          ap (λ k. i.path ++ k ∷ []) (sym (site_itself i.node (instance_node i is) j less)),
        )

    pub flow_of_giver : AreFed p → (at : Sites) (g : Giver) → Gives p main at g → IsFlow p main at
    flow_of_giver fed at _ (given j lt same) = subst (IsFlow p main) same (input_flow (main_instance p main) j is_main lt)
    flow_of_giver fed at _ (by_equation i x r is right e) = (i, x, is, left_flow i.node x r (instance_node i is) right, sym e)
    flow_of_giver fed at _ (by_call i c j e is w arg same) =
        subst (IsFlow p main) (append_assoc i.path (c.site ∷ []) (j ∷ []) ∙ same)
        (input_flow (callee p i c) j (is_callee c is w) (fed i.node c j e (instance_node i is) w arg))
