-- The weights of flows in a table by numbers.
use Rattle.std.proofs.Common.{◌≡◌, ℕ, ◌+◌, ◌<◌, ◌≤◌, inl, inr, List, [], map, length, get_or, set, refl, sym, ◌∙◌, ap, subst, arith, Some, slice_get}
use Rattle.std.proofs.lemmas.List.{get_or_default, get_or-set_same, get_or-set_other, length-set}
use Rattle.std.proofs.{lemmas.Bool.cases_eq, lemmas.Option.get_or_from_slice_get}
use Rattle.rv_tree.specs.{Tree.Tree, Tree.NodeTree, Tree.ProgramTree, Tree.tree_of, Places.Identifier, Places.Sites, Places.flows, Places.site_of}
use Rattle.rv_types.specs.Instances.{Body, Output, Instance, callee, node_of, IsInstance, is_callee}
use Rattle.rv_types.specs.Needs.{Giver, Given, Of, Gives, needs_of, IsAmongFirst}
use Rattle.rv_types.specs.{Scopes.constant_value, Scopes.is_fixed, ValueTables.NamedTables, ValueTables.value_by}
use Rattle.rv_instances.specs.{Layouts.IsPlaced, Layouts.IsLayout, Layouts.IsNumberOf, Layouts.here_of, Layouts.all_places, Weights.weight}
use Rattle.rv_instances.specs.{Weights.weight_of_giver, Weights.AreWeights, declared.answer.Instance.Instance as Numbered, declared.givers.Giver.Giver as Told}
use Rattle.rv_instances.specs.{declared.layout.Layout.Layout, Expanded.IsExpanded, Flowing.place_at, Flowing.AreFlowPlaces, Givers.StandsFor, Givers.AreGivers}
use Rattle.rv_instances.specs.declared.givers.Giver.TheVariants as told
use Rattle.rv_sequence.specs.WeightTables.{weighing_at, site_in, told_weight, IsToldWithin, IsNumbered, counted_weight, AreFlowWeights, AreFirstWeights}
use Rattle.rv_sequence.specs.Weighing.{weight_in}
use Rattle.rv_instances.proofs.{ExpandedLaws.node_in, ExpandedLaws.node_is, FlowPlaces.are_flow_places, Known.map_at, LayoutLaws.is_here, Lists.length_map}
use Rattle.rv_sequence.proofs.WeightFlows.{giver_output, instance_of, ReadsGiver, giver_reads, giver_flows}
use Rattle.rv_sequence.proofs.{Sequences.one_number, WeightReads.Reads, WeightReads.capped_weight}
use Rattle.rv_types.proofs.{Members.index_there, NamePlaces.output_within}

module _ (p : ProgramTree) (main : Identifier) (instances : List Numbered) (known : IsExpanded p main instances) where
  placed : AreFlowPlaces p main (all_places p instances)
  placed = are_flow_places p main known.named known.declared known.sited instances known.all

  -- what is told of a giver is within its ranges
  pub told_within : (q : Sites) (t : Told) (f : Giver) → Gives p main q f → StandsFor p instances t f → IsToldWithin (length instances) t
  told_within q (told.Input j) f gives s = tt
  told_within q (told.Body b) (Of i k (Body e)) gives s = s.0.0
  told_within q (told.Output o) (Of i k (Output c j)) gives s =
      let less = giver_output p main instances known q (Of i k (Output c j)) gives in
      let there = (giver_flows p main instances known q (Of i k (Output c j)) gives).0 in
      let is = instance_of p main instances known q i k (Output c j) gives in
      let few = known.bounded.node_flows (node_of p c.name) (node_in p main instances known (callee p i c) (is_callee c is there)) in
      omega (arith, output_within (node_of p c.name) j less, few, s.3)
  told_within q _ _ gives s = absurd s

  pub given_within : (givers : List Told) → AreGivers p main instances givers → (number : ℕ) (t : Told) → number < length (all_places p instances)
      → slice_get givers number ≡ Some t → IsToldWithin (length instances) t
  given_within givers given number t lt there =
      let within : number < length givers = omega (arith, lt, given.size) in
      let v = given.each number within in
      told_within (place_at (all_places p instances) number) t v.0 v.1
      (subst (λ u. StandsFor p instances u v.0) (get_or_from_slice_get givers number t (told.Input 0) there) (given.one number v.0 within v.1))

  module _ (l : Layout) (laid : IsLayout p main instances l) (values : NamedTables) (named : value_by values ≡ constant_value p) (weights : List ℕ)
      (flows_of : Sites → ℕ) where
    -- the table has the weight of a place
    abbrev pub HasWeight : Sites → Type 0
    HasWeight q = (k : ℕ) → IsPlaced (all_places p instances) k q → counted_weight (get_or weights k 0) ≡ counted_weight (flows_of q)

    -- the weight of an expression that reads such places
    pub part_weight : (m : ℕ) (i : Instance) (e : Tree) → IsNumberOf p instances m i → IsInstance p main i → Reads p i HasWeight e
        → counted_weight (weight_in (weighing_at p instances values l weights m) e) ≡ counted_weight (weight p flows_of i e)
    part_weight m i e at is reads =
        let node = node_is p main instances known m i is at.1 in
        let here = is_here p main instances known l laid m i at.0 is at.1 in
        capped_weight p i HasWeight flows_of (weighing_at p instances values l weights m) (λ x. ap (λ (n : NodeTree). is_fixed n x) node) named
        (λ x in_flows has.
        let there = index_there (flows i.node) x in_flows in
        ap (λ (n : NodeTree). counted_weight (get_or weights ((here_of l m).offset + site_of n x) 0)) node
        ∙ has ((here_of l m).offset + site_of i.node x) (here.flow (site_of i.node x) there.0))
        (λ c there one has.
        let within = output_within (node_of p c.name) 0 (omega (arith, one)) in
        let k : (here_of l m).output c.site ≡ (here_of l m).callee c.site + (length (node_of p c.name).inputs + 0) = omega (arith, here.output c there) in
        ap (λ j. counted_weight (get_or weights j 0)) k ∙ has ((here_of l m).callee c.site + (length (node_of p c.name).inputs + 0))
        (here.callee c (length (node_of p c.name).inputs + 0) there within))
        e reads

    -- the weight that is told of a giver
    pub giver_weight : (q : Sites) (t : Told) (f : Giver) → Gives p main q f → StandsFor p instances t f → ReadsGiver p main instances known HasWeight f
        → counted_weight (told_weight p instances values l weights t) ≡ counted_weight (weight_of_giver p flows_of f)
    giver_weight q (told.Input j) (Given k) gives s reads = refl
    giver_weight q (told.Body b) (Of i k (Body e)) gives s reads =
        ap (λ (t : Tree). counted_weight (weight_in (weighing_at p instances values l weights b.instance) t)) s.2
        ∙ part_weight b.instance i e s.0 (instance_of p main instances known q i k (Body e) gives) reads
    giver_weight q (told.Output o) (Of i k (Output c j)) gives s reads =
        let is = instance_of p main instances known q i k (Output c j) gives in
        let here = is_here p main instances known l laid o.instance i s.0.0 is s.0.1 in
        let within = output_within (node_of p c.name) j (giver_output p main instances known q (Of i k (Output c j)) gives) in
        let site : site_in (tree_of o.call.now) ≡ c.site = ap site_in s.2 in
        let number : (here_of l o.instance).output c.site + o.output ≡ (here_of l o.instance).callee c.site + (length (node_of p c.name).inputs + j) =
        omega (arith, here.output c reads.0, s.3) in
        ap (λ n. counted_weight (get_or weights ((here_of l o.instance).output n + o.output) 0)) site
        ∙ ap (λ n. counted_weight (get_or weights n 0)) number
        ∙ reads.1 ((here_of l o.instance).callee c.site + (length (node_of p c.name).inputs + j))
        (here.callee c (length (node_of p c.name).inputs + j) reads.0 within)
    giver_weight q _ _ gives s reads = absurd s

module _ (p : ProgramTree) (main : Identifier) (instances : List Numbered) (known : IsExpanded p main instances) (sequence : List ℕ)
    (numbers : IsNumbered p main instances sequence) where
  abbrev places : List Sites
  places = all_places p instances

  nth : (k : ℕ) → k < length sequence → get_or (map (place_at places) sequence) k [] ≡ place_at places (get_or sequence k 0)
  nth k lt = map_at (place_at places) sequence k [] 0 lt

  long : length (map (place_at places) sequence) ≡ length sequence
  long = length_map (place_at places) sequence

  -- the first flows of the sequence have their weights in a table of these
  first_has : (weights : List ℕ) (flows_of : Sites → ℕ) (done : ℕ) → done ≤ length sequence → AreFirstWeights p main instances sequence done weights
      → AreWeights p main flows_of → (q : Sites) → IsAmongFirst p main (map (place_at places) sequence) done q → (k : ℕ) → IsPlaced places k q
      → counted_weight (get_or weights k 0) ≡ counted_weight (flows_of q)
  first_has weights flows_of done le first are q w k at =
      let lt : w.0 < length sequence = omega (arith, w.1, le) in
      let there : place_at places (get_or sequence w.0 0) ≡ q = sym (nth w.0 lt) ∙ w.2 in
      let number = one_number p main places (placed p main instances known) (get_or sequence w.0 0) k (numbers.within w.0 lt) at.0 (there ∙ sym at.1) in
      ap (λ n. counted_weight (get_or weights n 0)) (sym number)
      ∙ first.each flows_of w.0 are w.1
      ∙ ap (λ r. counted_weight (flows_of r)) there

  -- one flow more
  pub weights_more : (l : Layout) (laid : IsLayout p main instances l) (values : NamedTables) (named : value_by values ≡ constant_value p) (givers : List Told)
      (given : AreGivers p main instances givers) (old new : List ℕ) (done weight number : ℕ) (t : Told)
      → done < length sequence → number ≡ get_or sequence done 0 → slice_get givers number ≡ Some t → AreFirstWeights p main instances sequence done old
      → weight ≡ counted_weight (told_weight p instances values l old t) → new ≡ set old number weight
      → AreFirstWeights p main instances sequence (done + 1) new
  weights_more l laid values named givers given old new done weight number t lt at there first is write = record {
    size = ap length write ∙ length-set old number weight ∙ first.size;
    each = λ flows_of j are less. elim (cases_eq j done) [
      | inr other ↦
          let before : j < done = omega (arith, less, other) in
          ap (λ ws. counted_weight (get_or ws (get_or sequence j 0) 0)) write
          ∙ ap counted_weight (get_or-set_other old number (get_or sequence j 0) weight 0 (λ e. apart j before (e ∙ at)))
          ∙ first.each flows_of j are before
      | inl same ↦
          let within : number < length old = omega (arith, at, numbers.within done lt, first.size) in
          let here : get_or sequence j 0 ≡ number = ap (λ k. get_or sequence k 0) same ∙ sym at in
          ap (λ ws. counted_weight (get_or ws (get_or sequence j 0) 0)) write
          ∙ ap (λ k. counted_weight (get_or (set old number weight) k 0)) here
          ∙ ap counted_weight (get_or-set_same old number weight 0 within ∙ is)
          ∙ twice (told_weight p instances values l old t)
          ∙ told_is flows_of are
          ∙ ap (λ k. counted_weight (flows_of (place_at places k))) (sym here)
    ];
  }
    where
      twice : (n : ℕ) → counted_weight (counted_weight n) ≡ counted_weight n
      twice n = omega arith

      apart : (j : ℕ) → j < done → get_or sequence j 0 ≡ get_or sequence done 0 → ⊥
      apart j before e = numbers.ordered.once j done before (omega (arith, long, lt))
          (nth j (omega (arith, before, lt)) ∙ ap (place_at places) e ∙ sym (nth done lt))

      told_is : (flows_of : Sites → ℕ) → AreWeights p main flows_of → counted_weight (told_weight p instances values l old t) ≡ counted_weight
          (flows_of (place_at places number))
      told_is flows_of are =
          let within : number < length givers = omega (arith, at, numbers.within done lt, given.size) in
          let v = given.each number within in
          let stands : StandsFor p instances t v.0 = subst (λ u. StandsFor p instances u v.0) (get_or_from_slice_get givers number t (told.Input 0) there)
          (given.one number v.0 within v.1) in
          let placed_at : get_or (map (place_at places) sequence) done [] ≡ place_at places number = nth done lt ∙ ap (place_at places) (sym at) in
          let gives : Gives p main (get_or (map (place_at places) sequence) done []) v.0 = subst (λ q. Gives p main q v.0) (sym placed_at) v.1 in
          let after = numbers.ordered.after done v.0 (omega (arith, long, lt)) gives in
          let reads = giver_reads p main instances known (HasWeight p main instances known l laid values named old flows_of) (place_at places number) v.0 v.1
          (λ i d less. first_has old flows_of done (omega (arith, lt)) first are (get_or (needs_of p v.0) i d) (after i d less)) in
          giver_weight p main instances known l laid values named old flows_of (place_at places number) t v.0 v.1 stands reads
          ∙ ap counted_weight (sym (are (place_at places number) v.0 v.1))

  -- all flows
  pub all_weights : (weights : List ℕ) (done : ℕ) → length sequence ≤ done → done ≤ length sequence → AreFirstWeights p main instances sequence done weights
      → AreFlowWeights p main instances weights
  all_weights weights done ge le first = record {
    size = first.size;
    each = λ flows_of k are lt.
        let within : k < length places = omega (arith, lt, first.size) in
        let w = numbers.ordered.flows (place_at places k) ((placed p main instances known).only k within) in
        let at = get_or_default (map (place_at places) sequence) w.0 [] (place_at places k) w.1 ∙ w.2 in
        first_has weights flows_of done le first are (place_at places k) (w.0, omega (arith, w.1, long, ge), at) k (within, refl);
  }
