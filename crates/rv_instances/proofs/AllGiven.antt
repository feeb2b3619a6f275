-- Of all flows it is told what gives them their values.
use Rattle.std.proofs.Common.{◌≡◌, ℕ, ◌+◌, ◌<◌, List, map, length, get_or, Option, Some, sym, ◌∙◌, ap, subst, arith, None as Nothing}
use Rattle.std.specs.List.{Contains}
use Rattle.rv_tree.specs.{Tree.Tree, Tree.NodeTree, Tree.ProgramTree, Places.Identifier, Places.site_of}
use Rattle.rv_types.specs.Instances.{CallTree, calls, Right, IsRight, IsArgument, node_of, main_instance, is_main}
use Rattle.rv_types.specs.Needs.{Giver, Gives, by_equation, by_call, given as by_input}
use Rattle.rv_instances.specs.Giving.{AreGiven, IsGiven, first_of, number_at}
use Rattle.rv_instances.specs.Layouts.{AreCallees, callee_or_main, node_at, all_places}
use Rattle.rv_instances.specs.{declared.answer.Instance.Instance as Numbered, declared.givers.Giver.Giver as Told, declared.givers.Giver.TheVariants.Input}
use Rattle.rv_instances.specs.{Expanded.IsExpanded, Flowing.AreFlowPlaces, Flowing.place_at, Givers.AreGivers, Givers.StandsFor}
use Rattle.rv_instances.proofs.ExpandedLaws.{number_at as instance_number, main_at, node_in, node_is}
use Rattle.rv_instances.proofs.{BaseClocks.site_placed, BaseClocks.argument_input_placed, FlowPlaces.are_flow_places, GivenFlows.input_placed}
use Rattle.rv_instances.proofs.{Flowing.site_there, GiverLaws.flow_giver, GiverLaws.one_giver, Known.map_at, Lists.length_map, Lists.one_number}

module _ (p : ProgramTree) (main : Identifier) (instances : List Numbered) (known : IsExpanded p main instances) where
  pub flow_places : AreFlowPlaces p main (all_places p instances)
  flow_places = are_flow_places p main known.named known.declared known.sited instances known.all

  -- two numbers of one place are one
  pub one_place : (j k : ℕ) → j < length (all_places p instances) → k < length (all_places p instances)
      → place_at (all_places p instances) j ≡ place_at (all_places p instances) k → j ≡ k
  one_place = one_number (place_at (all_places p instances)) (length (all_places p instances)) flow_places.rising

  module _ (table : List ((ℕ × ℕ) × ℕ)) (callees : AreCallees instances table) (found : List (Option Told))
      (inputs : (j : ℕ) → j < length (node_of p main).inputs → IsGiven found j)
      (rights : (m : ℕ) (x : Identifier) (r : Right) → m < length instances → IsRight (node_at p instances m) x r → IsGiven found (number_at p instances m x))
      (arguments : (m : ℕ) (c : CallTree) (j : ℕ) (e : Tree) → m < length instances → Contains (calls (node_at p instances m)) c → IsArgument c.args j e
      → IsGiven found (first_of p instances (callee_or_main table m c.site) + j)) where
    -- what has a giver, by its number
    given_at : (k : ℕ) (f : Giver) → k < length (all_places p instances) → Gives p main (place_at (all_places p instances) k) f → IsGiven found k
    given_at k _ lt (by_input j within e) =
        let root = node_is p main instances known 0 (main_instance p main) is_main (main_at p main instances known).1 in
        let at = input_placed p main instances known j (subst (λ (n : NodeTree). j < length n.inputs) (sym root) within) in
        subst (IsGiven found) (one_place j k at.0 lt (at.1 ∙ e)) (inputs j within)
    given_at k _ lt (by_equation i x r is right e) =
        let m = instance_number p main instances known i is in
        let node = node_is p main instances known m.0 i is m.2 in
        let flow = ((known.well.formed i.node (node_in p main instances known i is)).left x r right).0 in
        let at = site_placed p main instances known m.0 i (site_of i.node x) m.1 is m.2 (site_there i.node x flow).0 in
        let number : number_at p instances m.0 x ≡ first_of p instances m.0 + site_of i.node x = ap (λ (n : NodeTree). first_of p instances m.0 + site_of n x)
        node in
        subst (IsGiven found) (number ∙ one_place (first_of p instances m.0 + site_of i.node x) k at.0 lt (at.1 ∙ e))
        (rights m.0 x r m.1 (subst (λ (n : NodeTree). IsRight n x r) (sym node) right))
    given_at k _ lt (by_call i c j e is w arg at_place) =
        let m = instance_number p main instances known i is in
        let node = node_is p main instances known m.0 i is m.2 in
        let at = argument_input_placed p main instances known table callees m.0 i c j e m.1 is m.2 w arg in
        subst (IsGiven found) (one_place (first_of p instances (callee_or_main table m.0 c.site) + j) k at.0 lt (at.1 ∙ at_place))
        (arguments m.0 c j e m.1 (subst (λ (n : NodeTree). Contains (calls n) c) (sym node) w) arg)

    pub all_given : (k : ℕ) → k < length (all_places p instances) → IsGiven found k
    all_given k lt = let f = flow_giver p main instances known (place_at (all_places p instances) k) (flow_places.only k lt) in given_at k f.0 lt f.1

  -- and nothing else gives them
  pub are_givers : (found : List (Option Told)) (givers : List Told) → AreGiven p main instances found → map Some givers ≡ found
      → AreGivers p main instances givers
  are_givers found givers so_far is = record {
    size = size;
    each = λ k lt. flow_giver p main instances known (place_at (all_places p instances) k) (flow_places.only k (within k lt));
    one = λ k f lt gives.
        let g = get_or givers k (Input 0) in
        let told = so_far.sound k g (ap (λ (l : List (Option Told)). get_or l k Nothing) (sym is) ∙ map_at Some givers k Nothing (Input 0) lt) in
        subst (StandsFor p instances g) (one_giver p main instances known (place_at (all_places p instances) k) told.0 f told.1 gives) told.2;
  }
    where
      size : length givers ≡ length (all_places p instances)
      size = sym (length_map {X = Told} {Y = Option Told} Some givers) ∙ ap length is ∙ so_far.size

      within : (k : ℕ) → k < length givers → k < length (all_places p instances)
      within k lt = omega (arith, size, lt)
