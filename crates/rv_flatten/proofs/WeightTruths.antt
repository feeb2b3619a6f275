-- Where it is a truth that no expression is too wide, there are weights by which none is: those that all weights of the flows agree on.
use Rattle.std.proofs.Common.{◌≡◌, ℕ, zero, suc, ◌<◌, ◌≤◌, ◌*◌, inl, inr, max, Bool, true, false, cond, nat_lt, nat_abs, List, [], ◌∷◌, length, get_or, refl}
use Rattle.std.proofs.Common.{sym, ◌∙◌, ap}
use Rattle.std.proofs.Common.{subst, arith, unwrap_or, Option, ◌+◌, ◌++◌}
use Rattle.std.proofs.{Math.Logic.∥∥₁_elim, Props.props, lemmas.Nat.mul-le, lemmas.List.get_or_default, lemmas.Bool.Decides.nat_tests}
use Rattle.std.proofs.lemmas.List.Elements.{All-contains, Contains-append_cases, Contains-append_left, Contains-append_right}
use Rattle.std.specs.List.{Contains}
use mathlib.Core.HLevel.{Σ_prop_path}
use Rattle.rv_base.specs.Limits.{heaviest}
use Rattle.rv_tree.specs.Places.{Identifier, Sites, is_among, is_flow}
use Rattle.rv_tree.specs.{declared.tree.Op.Op, Tree.Tree, Tree.Node, Tree.Named, Tree.Minus, Tree.Current, Tree.When, Tree.Binary, Tree.If, Tree.Call}
use Rattle.rv_tree.specs.{Tree.ProgramTree}
use Rattle.rv_tree.specs.declared.tree.Op.TheVariants as op
use Rattle.rv_types.specs.Instances.{Body, Output, Instance, place, absolute, clock_of, clock_taken, clock_of_arguments, output_place, IsNode}
use Rattle.rv_types.specs.Needs.{flow_of, needs, form_needs, needs_of, Giver, Given, Of, Gives, IsAmongFirst, IsSequence}
use Rattle.rv_types.specs.{declared.typed.Clock.Clock, declared.typed.Clock.TheVariants.Base, Constants.whole_in, Scopes.constant_value, Scopes.node_scope}
use Rattle.rv_types.specs.{Types.is_constant}
use Rattle.rv_types.specs.WellFormed.{AreWell}
use Rattle.rv_instances.specs.{declared.answer.Instance.Instance as Numbered, Expanded.IsExpanded}
use Rattle.rv_instances.specs.Weights.{constant_size, weight, form_weight, weighed, weight_of_giver, too_wide, AreWeights, IsTooWide, AreLight}
use Rattle.rv_types.proofs.Members.{among_contains, among_from, at_head, nothing_in, stands_at}
use Rattle.rv_instances.proofs.GiverLaws.{flow_giver}
use Rattle.rv_meaning.proofs.Defined.{flow_of_giver}
use Rattle.rv_types.proofs.ChainLaws.{no_flag}
use Rattle.rv_flatten.proofs.Searches.{refuted}

-- An expression weighs the same where the flows that it needs do.
module _ (p : ProgramTree) (i : Instance) (f g : Sites → ℕ) where
  abbrev AreAlike : List Sites → Type 0
  AreAlike qs = (q : Sites) → Contains qs q → f q ≡ g q

  name_alike : (c : Clock) (site : Option ℕ) (x : Identifier) (b : Bool) → is_flow i.node x ≡ b
      → AreAlike (flow_of (absolute i c) ++ form_needs p i c site (Named x))
      → cond b (f (place i x)) (nat_abs (whole_in (constant_value p x))) ≡ cond b (g (place i x)) (nat_abs (whole_in (constant_value p x)))
  name_alike c site x true is alike =
      let q : Sites = place i x in
      alike q (Contains-append_right (flow_of (absolute i c)) (form_needs p i c site (Named x)) q
      (subst (λ b. Contains (cond b (q ∷ []) []) q) (sym is) (at_head q [])))
  name_alike c site x false is alike = refl

  operator_alike : (site : Option ℕ) (o : Op) (a b : Tree) → weight p f i a ≡ weight p g i a → weight p f i b ≡ weight p g i b
      → form_weight p f i site (Binary o a b) ≡ form_weight p g i site (Binary o a b)
  operator_alike site op.Times a b u v = λ j. cond (is_constant (node_scope p i.node) a) (constant_size p a * v j) (constant_size p b * u j)
  operator_alike site op.Plus a b u v = λ j. u j + v j
  operator_alike site op.Minus a b u v = λ j. u j + v j
  operator_alike site op.Arrow a b u v = λ j. max (u j) (v j)
  operator_alike site _ a b u v = refl

  weighs_alike : (c : Clock) (e : Tree) → AreAlike (needs p i c e) → weight p f i e ≡ weight p g i e
  weighs_alike c (Node at site (Named x)) alike = name_alike c site x (is_flow i.node x) refl alike
  weighs_alike c (Node at site (Minus e)) alike =
      weighs_alike c e (λ q w. alike q (Contains-append_right (flow_of (absolute i c)) (needs p i c e) q w))
  weighs_alike c (Node at site (Current e)) alike =
      ap (max 1) (weighs_alike (clock_taken i Base e) e
      (λ q w. alike q (Contains-append_right (flow_of (absolute i c)) (needs p i (clock_taken i Base e) e) q w)))
  weighs_alike c (Node at site (When e x)) alike =
      weighs_alike (clock_of i.node x.text) e (λ q w. alike q (Contains-append_right (flow_of (absolute i c)) (needs p i (clock_of i.node x.text) e) q w))
  weighs_alike c (Node at site (Binary o a b)) alike =
      let inside = λ (q : Sites) (w : Contains (needs p i c a ++ needs p i c b) q). alike q (Contains-append_right (flow_of (absolute i c))
      (needs p i c a ++ needs p i c b) q w) in
      operator_alike site o a b (weighs_alike c a (λ q w. inside q (Contains-append_left (needs p i c a) (needs p i c b) q w)))
      (weighs_alike c b (λ q w. inside q (Contains-append_right (needs p i c a) (needs p i c b) q w)))
  weighs_alike c (Node at site (If a b d)) alike =
      let last = needs p i c b ++ needs p i c d in
      let inside = λ (q : Sites) (w : Contains last q). alike q (Contains-append_right (flow_of (absolute i c)) (needs p i c a ++ last) q
      (Contains-append_right (needs p i c a) last q w)) in
      let u = weighs_alike c b (λ q w. inside q (Contains-append_left (needs p i c b) (needs p i c d) q w)) in
      let v = weighs_alike c d (λ q w. inside q (Contains-append_right (needs p i c b) (needs p i c d) q w)) in
      λ j. max (u j) (v j)
  weighs_alike c (Node at site (Call h es)) alike =
      let q : Sites = output_place p i (unwrap_or site 0) h 0 in
      alike q (Contains-append_right (flow_of (absolute i c)) (q ∷ []) q (at_head q []))
  weighs_alike c (Node at site _) alike = refl

-- what gives a flow gives it the same weight
giver_alike : (p : ProgramTree) (f g : Sites → ℕ) (h : Giver) → ((q : Sites) → Contains (needs_of p h) q → f q ≡ g q)
    → weight_of_giver p f h ≡ weight_of_giver p g h
giver_alike p f g (Given j) alike = refl
giver_alike p f g (Of i k (Body e)) alike = weighs_alike p i f g (clock_taken i k e) e alike
giver_alike p f g (Of i k (Output c j)) alike =
    let q : Sites = output_place p i c.site c.name j in
    alike q (Contains-append_right (flow_of (absolute i (clock_of_arguments i c.args))) (q ∷ []) q (at_head q []))

-- Where flows weigh less, so do expressions, and none is too wide that was not.
module _ (p : ProgramTree) (f g : Sites → ℕ) (less : (q : Sites) → g q ≤ f q) where
  module _ (i : Instance) where
    name_less : (x : Identifier) (b : Bool) → cond b (g (place i x)) (nat_abs (whole_in (constant_value p x))) ≤ cond b (f (place i x))
        (nat_abs (whole_in (constant_value p x)))
    name_less x true = less (place i x)
    name_less x false = omega arith

    product_less : (b : Bool) (k m u v x y : ℕ) → u ≤ v → x ≤ y → cond b (k * x) (m * u) ≤ cond b (k * y) (m * v)
    product_less true k m u v x y a b = mul-le k x k y (omega arith) b
    product_less false k m u v x y a b = mul-le m u m v (omega arith) a

    operator_less : (site : Option ℕ) (o : Op) (a b : Tree) → weight p g i a ≤ weight p f i a → weight p g i b ≤ weight p f i b
        → form_weight p g i site (Binary o a b) ≤ form_weight p f i site (Binary o a b)
    operator_less site op.Times a b u v =
        product_less (is_constant (node_scope p i.node) a) (constant_size p a) (constant_size p b) (weight p g i a) (weight p f i a) (weight p g i b)
        (weight p f i b) u v
    operator_less site op.Plus a b u v = omega (arith, u, v)
    operator_less site op.Minus a b u v = omega (arith, u, v)
    operator_less site op.Arrow a b u v = omega (arith, u, v)
    operator_less site _ a b u v = omega arith

    weighs_less : (e : Tree) → weight p g i e ≤ weight p f i e
    weighs_less (Node at site (Named x)) = name_less x (is_flow i.node x)
    weighs_less (Node at site (Minus e)) = weighs_less e
    weighs_less (Node at site (Current e)) = let u = weighs_less e in omega (arith, u)
    weighs_less (Node at site (When e x)) = weighs_less e
    weighs_less (Node at site (Binary o a b)) = operator_less site o a b (weighs_less a) (weighs_less b)
    weighs_less (Node at site (If a b d)) = let u = weighs_less b in let v = weighs_less d in omega (arith, u, v)
    weighs_less (Node at site (Call h es)) = less (output_place p i (unwrap_or site 0) h 0)
    weighs_less (Node at site _) = omega arith

  one_wide : (a v w : ℕ) → v ≤ w → (x y : Bool) → nat_lt heaviest v ≡ x → nat_lt heaviest w ≡ y → (at : ℕ) → Contains (cond x (a ∷ []) []) at
      → Contains (cond y (a ∷ []) []) at
  one_wide a v w le true true e f at there = there
  one_wide a v w le true false e f at there = absurd (let bad : ⊥ = grind (arith, nat_tests) in bad)
  one_wide a v w le false y e f at there = nothing_in at there

  more_wide : (v w : Tree → ℕ) → ((e : Tree) → v e ≤ w e) → (es : List Tree) (at : ℕ) → Contains (too_wide v es) at → Contains (too_wide w es) at
  more_wide v w le [] at there = there
  more_wide v w le (Node a site form ∷ es) at there =
      let e : Tree = Node a site form in
      let old : List ℕ = cond (nat_lt heaviest (v e)) (a ∷ []) [] in
      let new : List ℕ = cond (nat_lt heaviest (w e)) (a ∷ []) [] in
      elim (Contains-append_cases old (too_wide v es) at there) [
        | inl here ↦ Contains-append_left new (too_wide w es) at
            (one_wide a (v e) (w e) (le e) (nat_lt heaviest (v e)) (nat_lt heaviest (w e)) refl refl at here)
        | inr rest ↦ Contains-append_right new (too_wide w es) at (more_wide v w le es at rest)
      ]

  wide_still : (main : Identifier) (at : ℕ) → IsTooWide p main g at → IsTooWide p main f at
  wide_still main at (inl constant) = inl constant
  wide_still main at (inr (i, inst, w)) = inr (i, inst, more_wide (weight p g i) (weight p f i) (weighs_less i) (weighed i.node) at w)

module _ (p : ProgramTree) (main : Identifier) (well : AreWell p) (named : IsNode p main) (instances : List Numbered) (known : IsExpanded p main instances)
    (sequence : List Sites) (ordered : IsSequence p main sequence) where
  -- All weights of the flows agree.
  module _ (f g : Sites → ℕ) (of_f : AreWeights p main f) (of_g : AreWeights p main g) where
    first_agree : (n k : ℕ) → k < n → k < length sequence → f (get_or sequence k []) ≡ g (get_or sequence k [])
    first_agree zero k lt within = absurd (omega (arith, lt))
    first_agree (suc n) k lt within =
        let q : Sites = get_or sequence k [] in
        let h = flow_giver p main instances known q (ordered.only k within) in
        of_f q h.0 h.1
        ∙ giver_alike p f g h.0 (λ r w.
        let at = All-contains (IsAmongFirst p main sequence k) (needs_of p h.0) r (ordered.after k h.0 within h.1) w in
        subst (λ u. f u ≡ g u) at.2 (first_agree n at.0 (let less = at.1 in omega (arith, less, lt)) (let less = at.1 in omega (arith, less, within))))
        ∙ sym (of_g q h.0 h.1)

    agree : (q : Sites) → Contains sequence q → f q ≡ g q
    agree q w = subst (λ u. f u ≡ g u) (stands_at sequence q [] w) (first_agree (length sequence) w.0 w.1 w.1)

  module _ (truth : ∥ AreLight p main ∥₁) where
    -- the weight of a flow
    abbrev WeightOf : Sites → Type 0
    WeightOf q = (n : ℕ) × ((f : Sites → ℕ) → AreWeights p main f → f q ≡ n)

    one_weight : (q : Sites) → IsProp (WeightOf q)
    one_weight q x y =
        let equal : x.0 ≡ y.0 = ∥∥₁_elim truth (hlevel props) (λ light. sym (x.1 light.0 light.1) ∙ y.1 light.0 light.1) in
        Σ_prop_path (λ n. hlevel props) equal

    weight_of : (q : Sites) → Contains sequence q → WeightOf q
    weight_of q w = ∥∥₁_elim truth (one_weight q) (λ light. (light.0 q, λ f are. agree f light.0 are light.1 q w))

    abbrev chosen : (q : Sites) (b : Bool) → is_among sequence q ≡ b → ℕ
    chosen q true e = (weight_of q (among_contains sequence q e)).0
    chosen q false e = 0

    -- the weights: those of the flows, and 0 of all else
    abbrev weights : Sites → ℕ
    weights q = chosen q (is_among sequence q) refl

    module _ (f : Sites → ℕ) (are : AreWeights p main f) where
      chosen_is : (q : Sites) (b : Bool) (e : is_among sequence q ≡ b) → Contains sequence q → f q ≡ chosen q b e
      chosen_is q true e w = (weight_of q (among_contains sequence q e)).1 f are
      chosen_is q false e w = no_flag (sym e ∙ among_from sequence q w)

      weight_is : (q : Sites) → Contains sequence q → f q ≡ weights q
      weight_is q w = chosen_is q (is_among sequence q) refl w

      chosen_less : (q : Sites) (b : Bool) (e : is_among sequence q ≡ b) → chosen q b e ≤ f q
      chosen_less q true e = let is = (weight_of q (among_contains sequence q e)).1 f are in omega (arith, is)
      chosen_less q false e = omega arith

      weight_less : (q : Sites) → weights q ≤ f q
      weight_less q = chosen_less q (is_among sequence q) refl

    are_weights : AreWeights p main weights
    are_weights q h gives = ∥∥₁_elim truth (hlevel props) (λ light.
        let w = ordered.flows q (flow_of_giver p main well named q h gives) in
        let here : Gives p main (get_or sequence w.0 []) h = subst (λ u. Gives p main u h) (sym (stands_at sequence q [] w)) gives in
        sym (weight_is light.0 light.1 q w) ∙ light.1 q h gives
        ∙ giver_alike p light.0 weights h (λ r v.
        let at = All-contains (IsAmongFirst p main sequence w.0) (needs_of p h) r (ordered.after w.0 h w.1 here) v in
        let less = at.1 in
        let below = w.1 in
        let within : at.0 < length sequence = omega (arith, less, below) in
        weight_is light.0 light.1 r (at.0, within, get_or_default sequence at.0 r [] within ∙ at.2)))

    -- so it is no truth alone
    pub light_again : AreLight p main
    light_again = (weights, are_weights, λ at wide. refuted truth (λ light. light.2 at
        (wide_still p light.0 weights (weight_less light.0 light.1) main at wide)))
