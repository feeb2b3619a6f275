-- The numbers of what flows need are a graph of all flows.
use Rattle.std.proofs.Common.{◌≡◌, ℕ, ◌<◌, List, [], map, length, get_or, sym, ◌∙◌, ap, subst, arith}
use Rattle.std.proofs.{lemmas.List.get_or_default, lemmas.List.Elements.Contains-get_or}
use Rattle.std.specs.List.{Contains, All}
use Rattle.rv_tree.specs.{Tree.ProgramTree, Places.Identifier, Places.Sites}
use Rattle.rv_types.specs.Needs.{Giver, Gives, needs_of}
use Rattle.rv_instances.specs.{declared.answer.Instance.Instance as Numbered, declared.givers.Giver.Giver as Told, declared.givers.Giver.TheVariants.Input}
use Rattle.rv_instances.specs.{declared.layout.Layout.Layout, Expanded.IsExpanded, Flowing.place_at, Givers.AreGivers, Givers.StandsFor, Layouts.IsLayout}
use Rattle.rv_instances.specs.{Layouts.IsPlaced, Layouts.all_places, NumberedNeeds.giver_numbers, NumberedNeeds.IsGiver}
use Rattle.rv_sequence.specs.{FlowGraphs.IsFlowGraph, Needed.giver_needed}
use Rattle.rv_calls.specs.Graphs.{Graph, IsGraph, edges}
use Rattle.rv_instances.proofs.{AllGiven.flow_places, Known.map_at, Lists.length_map}
use Rattle.rv_sequence.proofs.NumbersNeeded.{AreAt, at_place, at_number}
use Rattle.rv_sequence.proofs.{GiverNeeds.giver_needs, Needed.needed_found, Needed.found_needed}

pub all_from : {X : Type 0} (P : X → Type 0) (xs : List X) → ((x : X) → Contains xs x → P x) → All P xs
all_from P xs each k d lt = each (get_or xs k d) (Contains-get_or xs k d lt)

module _ (p : ProgramTree) (main : Identifier) (instances : List Numbered) (known : IsExpanded p main instances) (l : Layout)
    (laid_out : IsLayout p main instances l) (givers : List Told) (are : AreGivers p main instances givers) where
  -- each is told to give some flow its value
  pub is_giver : (k : ℕ) (g : Told) → k < length givers → g ≡ get_or givers k g → IsGiver p main instances g
  is_giver k g lt is =
      let f = are.each k lt in
      let stands = subst (λ (t : Told). StandsFor p instances t f.0) (sym (is ∙ sym (get_or_default givers k (Input 0) g lt))) (are.one k f.0 lt f.1) in
      (place_at (all_places p instances) k, f.0, f.1, stands)

  module _ (graph : Graph) (is : graph ≡ map (giver_needed p instances l) givers) where
    size : length graph ≡ length (all_places p instances)
    size = ap length is ∙ length_map (giver_needed p instances l) givers ∙ are.size

    within : (k : ℕ) → k < length (all_places p instances) → k < length givers
    within k lt = omega (arith, are.size, lt)

    edges_are : (k : ℕ) → k < length (all_places p instances) → edges graph k ≡ giver_needed p instances l (get_or givers k (Input 0))
    edges_are k lt = ap (λ (g : Graph). edges g k) is ∙ map_at (giver_needed p instances l) givers k [] (Input 0) (within k lt)

    at : (k : ℕ) (f : Giver) → k < length (all_places p instances) → Gives p main (place_at (all_places p instances) k) f
        → AreAt (all_places p instances) (giver_numbers p instances l (get_or givers k (Input 0))) (needs_of p f)
    at k f lt gives = giver_needs p main instances known l laid_out (place_at (all_places p instances) k) (get_or givers k (Input 0)) f gives
        (are.one k f (within k lt) gives)

    -- a place that is needed has the number of an edge
    edge_to : (k : ℕ) (f : Giver) (q : Sites) → k < length (all_places p instances) → Gives p main (place_at (all_places p instances) k) f
        → Contains (needs_of p f) q → (j : ℕ) × Contains (edges graph k) j × IsPlaced (all_places p instances) j q
    edge_to k f q lt gives w =
        let g = get_or givers k (Input 0) in
        let v = at_place (all_places p instances) (giver_numbers p instances l g) (needs_of p f) q (at k f lt gives) w in
        (v.0, subst (λ (js : List ℕ). Contains js v.0) (sym (edges_are k lt)) (needed_found p instances l g v.0 v.1), v.2)

    -- and an edge leads to the number of a place that is needed
    edge_from : (k j : ℕ) (f : Giver) → k < length (all_places p instances) → Gives p main (place_at (all_places p instances) k) f → Contains (edges graph k) j
        → (q : Sites) × Contains (needs_of p f) q × IsPlaced (all_places p instances) j q
    edge_from k j f lt gives w =
        let g = get_or givers k (Input 0) in
        at_number (all_places p instances) (giver_numbers p instances l g) (needs_of p f) j (at k f lt gives)
        (found_needed p instances l g j (subst (λ (js : List ℕ). Contains js j) (edges_are k lt) w))

    pub is_flow_graph : IsFlowGraph p main (all_places p instances) graph
    is_flow_graph = record {
      size = size;
      placed = flow_places p main instances known;
      whole = λ k f lt gives.
          all_from (λ q. (j : ℕ) × Contains (edges graph k) j × (place_at (all_places p instances) j ≡ q)) (needs_of p f)
          (λ q w. let v = edge_to k f q lt gives w in (v.0, v.1, v.2.1));
      sound = λ k j lt w.
          let f = are.each k (within k lt) in
          let v = edge_from k j f.0 lt f.1 w in
          (f.0, f.1, subst (Contains (needs_of p f.0)) (sym v.2.1) v.1);
    }

    pub is_graph : IsGraph graph
    is_graph k j lt less =
        let inside : k < length (all_places p instances) = omega (arith, size, lt) in
        let f = are.each k (within k inside) in
        let v = edge_from k (get_or (edges graph k) j 0) f.0 inside f.1 (Contains-get_or (edges graph k) j 0 less) in
        omega (arith, size, v.2.0)
