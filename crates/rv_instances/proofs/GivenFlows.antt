-- What is told of the flows of instances.
use Rattle.std.proofs.Common.{◌≡◌, ℕ, zero, suc, ◌+◌, ◌<◌, inl, inr, true, List, [], ◌∷◌, ◌++◌, map, length, get_or, set, replicate, Option, Some, slice_get}
use Rattle.std.proofs.Common.{refl, sym, ◌∙◌, ap, subst, arith, zero-add, None as Nothing}
use Rattle.std.proofs.lemmas.List.{get_or-set_other, get_or-set_same, length-set}
use Rattle.std.proofs.{lemmas.List.Elements.Contains-get_or, lemmas.Bool.cases_eq, lemmas.Option.get_or_from_slice_get, lemmas.Option.same_Some}
use Rattle.std.specs.List.{Contains}
use Rattle.rv_base.specs.Limits.{source_limit}
use Rattle.rv_tree.specs.{declared.tree.Equation.Equation, declared.tree.Expr.Expr, declared.tree.Name.Name, Tree.Tree, Tree.EquationTree, Tree.NodeTree}
use Rattle.rv_tree.specs.{Tree.ProgramTree, Tree.equation_tree, Tree.tree_of, Tree.trees, Places.Identifier, Places.flows, Places.site_of, Places.is_flow}
use Rattle.rv_types.specs.Instances.{Right, IsRight, alone, in_order, IsArgument, head, tail, Instance, place, clock_of, clock_of_arguments}
use Rattle.rv_types.specs.Instances.{main_instance, node_of, IsInstance, is_main}
use Rattle.rv_types.specs.{Names.texts, Needs.Giver, Needs.Given, Needs.Of, Needs.Gives, Needs.given as by_input, Needs.by_equation, Needs.by_call}
use Rattle.rv_types.specs.Instances as right
use Rattle.rv_instances.specs.Giving.{AreGiven, IsGiven, KeepsGiven, IsGiving, IsBodyOf, IsRightOf, first_of, number_at}
use Rattle.rv_instances.specs.Layouts.{AreCallees, IsPlaced, IsNumberOf, callee_or_main, node_at, all_places}
use Rattle.rv_instances.specs.{declared.answer.Instance.Instance as Numbered, declared.timed.ClockedCall.ClockedCall, declared.givers.Giver.Giver as Told}
use Rattle.rv_instances.specs.{declared.givers.Giver.TheVariants.Input, declared.givers.Giver.TheVariants.Body, declared.givers.Giver.TheVariants.Output}
use Rattle.rv_instances.specs.{AllInstances.numbered, Expanded.IsExpanded, Expanded.IsCallOf, Expanded.no_instance, Flowing.place_at, Givers.StandsFor}
use Rattle.rv_instances.proofs.ExpandedLaws.{instance_at, main_at, node_there, node_is, node_few}
use Rattle.rv_instances.proofs.{BaseClocks.callee_number, BaseClocks.site_placed, BaseClocks.argument_input_placed, Flowing.known_left, Known.map_at}
use Rattle.rv_instances.proofs.{LaidFlows.inputs_among, Lists.equal_at, Lists.length_map}
use Rattle.rv_types.proofs.Members.{index_there}
use Rattle.rv_base.proofs.Lists.{from_map}

one_text : (xs : List Name) (j : ℕ) → j < length xs → length xs ≡ 1 → texts xs ≡ get_or (texts xs) j [] ∷ []
one_text [] j lt e = absurd (omega (arith, lt))
one_text (x ∷ []) zero lt e = refl
one_text (x ∷ []) (suc j) lt e = absurd (omega (arith, lt))
one_text (x ∷ y ∷ ys) j lt e = absurd (omega (arith, e))

module _ (p : ProgramTree) (main : Identifier) (instances : List Numbered) where
  -- at first nothing is told
  pub nothing_given : (found : List (Option Told)) (n : ℕ) → found ≡ replicate {A = Option Told} n Nothing → length found ≡ length (all_places p instances)
      → AreGiven p main instances found
  nothing_given found n is size = record {
    size = size;
    sound = λ k g e.
        let none : get_or found k Nothing ≡ Nothing = ap (λ (l : List (Option Told)). get_or l k Nothing) is ∙ equal_at n k Nothing in
        absurd (let no : ⊥ = cc in no);
  }

  -- and then of one flow more
  pub record IsMore (found new : List (Option Told)) (k : ℕ) : Type 0 where
    pub given : AreGiven p main instances new
    pub kept : KeepsGiven found new
    pub told : IsGiven new k

  pub set_given : (found new : List (Option Told)) (k : ℕ) (g : Told) (f : Giver) → AreGiven p main instances found → new ≡ set found k (Some g)
      → k < length (all_places p instances) → Gives p main (place_at (all_places p instances) k) f → StandsFor p instances g f → IsMore found new k
  set_given found new k g f given is lt gives stands = record {
    given = record {
      size = ap length is ∙ length-set found k (Some g) ∙ given.size;
      sound = λ j h e. elim (cases_eq j k) [
        | inl here ↦
            let same : g ≡ h = same_Some g h (sym now ∙ ap (λ n. get_or new n Nothing) (sym here) ∙ e) in
            (f, subst (λ n. Gives p main (place_at (all_places p instances) n) f) (sym here) gives, subst (λ (t : Told). StandsFor p instances t f) same stands)
        | inr other ↦ given.sound j h (sym (still j other) ∙ e)
      ];
    };
    kept = λ j v. elim (cases_eq j k) [ inl here ↦ (g, ap (λ n. get_or new n Nothing) here ∙ now) | inr other ↦ (v.0, still j other ∙ v.1) ];
    told = (g, now);
  }
    where
      now : get_or new k Nothing ≡ Some g
      now = ap (λ (l : List (Option Told)). get_or l k Nothing) is ∙ get_or-set_same found k (Some g) Nothing (omega (arith, lt, given.size))

      still : (j : ℕ) → (j ≡ k → ⊥) → get_or new j Nothing ≡ get_or found j Nothing
      still j other = ap (λ (l : List (Option Told)). get_or l j Nothing) is ∙ get_or-set_other found k j (Some g) Nothing other

module _ (p : ProgramTree) (main : Identifier) (instances : List Numbered) (known : IsExpanded p main instances) where
  module _ (m : ℕ) (lt : m < length instances) (q : Equation) (there : Contains (node_at p instances m).equations (equation_tree q)) (j : ℕ)
      (within : j < length q.lefts) where
    in_texts : Contains (texts q.lefts) (get_or (texts q.lefts) j [])
    in_texts = Contains-get_or (texts q.lefts) j [] (let s = length_map (λ (x : Name). x.text) q.lefts in omega (arith, s, within))

    pub instance : Instance
    instance = (instance_at p main instances known m lt).0

    is_instance : IsInstance p main instance
    unfolding instance
    is_instance = (instance_at p main instances known m lt).1

    number_is : get_or instances m no_instance ≡ numbered p instance
    unfolding instance
    number_is = (instance_at p main instances known m lt).2

    node : node_at p instances m ≡ instance.node
    node = node_is p main instances known m instance is_instance number_is

    there_in : Contains instance.node.equations (equation_tree q)
    there_in = subst (λ (n : NodeTree). Contains n.equations (equation_tree q)) node there

    -- a left side is a flow
    pub left_is_flow : is_flow (node_at p instances m) (get_or (texts q.lefts) j []) ≡ true
    left_is_flow =
        known_left p known.named (node_at p instances m) (equation_tree q) (get_or (texts q.lefts) j []) (node_there p main instances known m lt) there in_texts

    -- its number is that of its place
    pub left_placed : IsPlaced (all_places p instances) (number_at p instances m (get_or (texts q.lefts) j [])) (place instance (get_or (texts q.lefts) j []))
    left_placed =
        let x = get_or (texts q.lefts) j [] in
        let flow : is_flow instance.node x ≡ true = subst (λ (n : NodeTree). is_flow n x ≡ true) node left_is_flow in
        subst (λ (n : NodeTree). IsPlaced (all_places p instances) (first_of p instances m + site_of n x) (place instance x)) (sym node)
        (site_placed p main instances known m instance (site_of instance.node x) lt is_instance number_is (index_there (flows instance.node) x flow).0)

    -- what gives it its value
    pub left_stands : (g : Told) → IsGiving (equation_tree q) → IsRightOf m (clock_of (node_at p instances m) (get_or (texts q.lefts) j [])) q j g
        → (f : Giver) × Gives p main (place_at (all_places p instances) (number_at p instances m (get_or (texts q.lefts) j []))) f × StandsFor p instances g f
    left_stands (Input n) giving told = absurd told
    left_stands (Body b) giving told =
        let x = get_or (texts q.lefts) j [] in
        let sole : texts q.lefts ≡ x ∷ [] = one_text q.lefts j within told.0 in (
          Of instance (clock_of instance.node x) (right.Body (tree_of q.right)),
          by_equation instance x (right.Body (tree_of q.right)) is_instance (alone (equation_tree q) there_in sole) (sym left_placed.1),
          (subst (λ n. IsNumberOf p instances n instance) (sym told.1) (lt, number_is), told.2 ∙ ap (λ (n : NodeTree). clock_of n x) node, ap tree_of told.3),
        )
    left_stands (Output o) giving told = elim giving [
      | inl one ↦ absurd (told.0 one)
      | inr call ↦
          let x = get_or (texts q.lefts) j [] in
          let body = right.Output (record { at = call.0; site = call.1; name = call.2; args = call.3 }) j in (
            Of instance (clock_of instance.node x) body,
            by_equation instance x body is_instance (in_order (equation_tree q) call.0 call.1 call.2 call.3 j there_in call.4 (omega (arith, within, told.0))
                within refl) (sym left_placed.1),
            (
              subst (λ n. IsNumberOf p instances n instance) (sym told.1) (lt, number_is),
              told.2 ∙ ap (λ (n : NodeTree). clock_of n x) node,
              ap tree_of told.3 ∙ call.4,
              told.4,
            ),
          )
    ]

-- the name of a left side
pub name_there : (xs : List Name) (j : ℕ) (x : Name) → j < length xs → slice_get xs j ≡ Some x → get_or (texts xs) j [] ≡ x.text
name_there xs j x lt is = map_at (λ (y : Name). y.text) xs j [] x lt ∙ ap (λ (y : Name). y.text) (get_or_from_slice_get xs j x x is)

-- the number of a flow, as it is reckoned
pub number_found : (p : ProgramTree) (instances : List Numbered) (m first site : ℕ) (n : NodeTree) (x y : Identifier) → first ≡ first_of p instances m
    → n ≡ node_at p instances m → x ≡ y → site ≡ site_of n y → first + site ≡ number_at p instances m x
number_found p instances m first site n x y first_is node name site_is =
    let same : site ≡ site_of (node_at p instances m) x = site_is ∙ ap (site_of n) (sym name) ∙ ap (λ (k : NodeTree). site_of k x) node in
    λ t. first_is t + same t

listed_at : (items : List Equation) (qs : List EquationTree) → map equation_tree items ≡ qs → (q : EquationTree) → Contains qs q
    → (k : ℕ) × (d : Equation) × (k < length items) × (equation_tree (get_or items k d) ≡ q)
listed_at items qs are q w =
    let v = from_map equation_tree items q (subst (λ (l : List EquationTree). Contains l q) (sym are) w) in
    (v.1.0, v.0, v.1.1, ap equation_tree v.1.2 ∙ v.2)

-- what gives a flow its value stands in one of the equations
pub right_listed : (n : NodeTree) (items : List Equation) → map equation_tree items ≡ n.equations → (x : Identifier) (r : Right) → IsRight n x r
    → (k j : ℕ) × (q : Equation) × (k < length items) × (j < length (get_or items k q).lefts) × IsGiving (equation_tree (get_or items k q))
    × (get_or (texts (get_or items k q).lefts) j [] ≡ x)
right_listed n items are x _ (alone q w e) =
    let v = listed_at items n.equations are q w in
    let texts_are : texts (get_or items v.0 v.1).lefts ≡ x ∷ [] = ap (λ (t : EquationTree). texts t.lefts) v.3 ∙ e in
    let one : length (get_or items v.0 v.1).lefts ≡ 1 = sym (length_map (λ (y : Name). y.text) (get_or items v.0 v.1).lefts) ∙ ap length texts_are in
    (v.0, 0, v.1, v.2, omega (arith, one), inl one, ap (λ l. get_or l 0 []) texts_are)
right_listed n items are x _ (in_order q at site f args j w right more lt e) =
    let v = listed_at items n.equations are q w in
    let many = ap (λ (t : EquationTree). length t.lefts) v.3 in (
      v.0,
      j,
      v.1,
      v.2,
      omega (arith, many, lt),
      inr (at, site, f, args, ap (λ (t : EquationTree). t.right) v.3 ∙ right),
      ap (λ (t : EquationTree). get_or (texts t.lefts) j []) v.3 ∙ e,
    )

-- an argument as it is written
pub argument_at : (es : List Expr) (j : ℕ) (e : Expr) → j < length es → IsArgument (trees (map tree_of es)) j (tree_of (get_or es j e))
argument_at [] j e lt = absurd (omega (arith, lt))
argument_at (x ∷ xs) zero e lt = head
argument_at (x ∷ xs) (suc j) e lt = tail (argument_at xs j e (omega (arith, lt)))

pub argument_there : (es : List Expr) (j : ℕ) (e : Tree) → IsArgument (trees (map tree_of es)) j e → j < length es
argument_there [] j e a = elim a [ ]
argument_there (x ∷ xs) _ e head = omega arith
argument_there (x ∷ xs) _ e (tail {j = j} rest) = omega (arith, argument_there xs j e rest)

module _ (p : ProgramTree) (main : Identifier) (instances : List Numbered) (known : IsExpanded p main instances) (table : List ((ℕ × ℕ) × ℕ))
    (callees : AreCallees instances table)
    (m : ℕ) (lt : m < length instances) (x : ClockedCall) (here : IsCallOf p main instances m x) where
  pub callee_there : callee_or_main table m x.site < length instances
  callee_there =
      subst (λ s. callee_or_main table m s < length instances) (sym here.site)
      (callee_number p main instances known table callees m here.i here.call lt here.is here.at here.there).0

  module _ (j : ℕ) (body : Expr) (within : j < length x.arguments.now) (is : body ≡ get_or x.arguments.now j body) where
    argument : IsArgument here.call.args j (tree_of body)
    argument =
        subst (λ (e : Expr). IsArgument here.call.args j (tree_of e)) (sym is)
        (subst (λ es. IsArgument es j (tree_of (get_or x.arguments.now j body))) here.arguments (argument_at x.arguments.now j body within))

    -- the number of the input of an argument is that of its place
    pub argument_placed : IsPlaced (all_places p instances) (first_of p instances (callee_or_main table m x.site) + j) (here.i.path ++ here.call.site ∷ j ∷ [])
    argument_placed =
        subst (λ s. IsPlaced (all_places p instances) (first_of p instances (callee_or_main table m s) + j) (here.i.path ++ here.call.site ∷ j ∷ []))
        (sym here.site) (argument_input_placed p main instances known table callees m here.i here.call j (tree_of body) lt here.is here.at here.there argument)

    -- and gives it its value
    pub argument_stands : (g : Told) → IsBodyOf m x.clock body g
        → (f : Giver) × Gives p main (place_at (all_places p instances) (first_of p instances (callee_or_main table m x.site) + j)) f
        × StandsFor p instances g f
    argument_stands (Body b) told = (
      Of here.i (clock_of_arguments here.i here.call.args) (right.Body (tree_of body)),
      by_call here.i here.call j (tree_of body) here.is here.there argument (sym argument_placed.1),
      (subst (λ n. IsNumberOf p instances n here.i) (sym told.0) (lt, here.at), told.1 ∙ here.clock, ap tree_of told.2),
    )
    argument_stands _ told = absurd told

module _ (p : ProgramTree) (main : Identifier) (instances : List Numbered) (known : IsExpanded p main instances) (j : ℕ)
    (lt : j < length (node_at p instances 0).inputs) where
  root : node_at p instances 0 ≡ node_of p main
  root = node_is p main instances known 0 (main_instance p main) is_main (main_at p main instances known).1

  within_main : j < length (node_of p main).inputs
  within_main = subst (λ (n : NodeTree). j < length n.inputs) root lt

  -- an input of main, by its number
  pub input_placed : IsPlaced (all_places p instances) j (j ∷ [])
  input_placed =
      let at = main_at p main instances known in
      subst (λ k. IsPlaced (all_places p instances) k (j ∷ [])) (zero-add j)
      (site_placed p main instances known 0 (main_instance p main) j at.0 is_main at.1 (omega (arith, inputs_among (node_of p main), within_main)))

  pub input_few : j < source_limit
  input_few =
      let at = main_at p main instances known in
      omega (arith, node_few p main instances known 0 at.0, inputs_among (node_at p instances 0), lt)

  pub input_stands : (f : Giver) × Gives p main (place_at (all_places p instances) j) f × StandsFor p instances (Input j) f
  input_stands = (Given j, by_input j within_main (sym input_placed.1), refl)

  pub input_more : (found new : List (Option Told)) → AreGiven p main instances found → new ≡ set found j (Some (Input j)) → IsMore p main instances found new j
  input_more found new so_far is = let f = input_stands in set_given p main instances found new j (Input j) f.0 so_far is input_placed.0 f.1 f.2
