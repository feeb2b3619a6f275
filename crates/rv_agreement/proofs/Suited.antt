-- Each comparison is on the clock that it is given: its expression is on that clock, or is free and takes it.
use Rattle.std.proofs.Common.{◌≡◌, ◌⊎◌, inl, inr, ℕ, Bool, true, false, cond, nat_eq, List, ◌++◌, length, refl, subst, Option}
use Rattle.std.proofs.lemmas.List.Elements.{Contains-append_cases}
use Rattle.std.specs.List.{Contains}
use Rattle.rv_tree.specs.{declared.tree.Op.Op, Tree.Tree, Tree.Form, Tree.Trees, Tree.ProgramTree, Places.Sites, Places.site_of}
use Rattle.rv_tree.specs.declared.tree.Op.TheVariants as op
use Rattle.rv_tree.specs.Tree as tree
use Rattle.rv_types.specs.Clocks.{seen, meet, pace, form_pace, pace_of_all}
use Rattle.rv_types.specs.{declared.typed.Clock.Clock, Types.is_constant, Scopes.node_scope, Lists.sides_of, Instances.Instance}
use Rattle.rv_types.specs.{Instances.absolute, Instances.clock_of, WellFormed.Suits}
use Rattle.rv_agreement.specs.Valuations.{is_placed}
use Rattle.rv_agreement.specs.Programs.{operator_place, operation, Compared, own_compared, compared, form_compared, compared_all}
use Rattle.rv_agreement.proofs.Matching.{in_own, of_two, of_three}
use Rattle.rv_types.proofs.Suiting.{suits_both, suits_parts, suits_seen, suits_operands, suits_when}
use Rattle.rv_types.proofs.Members.{nothing_in}

pub one_of : {X : Type 0} (o : Op) (xs ys zs : List X) (c : X) → Contains (operation o xs ys zs) c → Contains xs c ⊎ (Contains ys c ⊎ Contains zs c)
one_of op.Arrow xs ys zs c w = inl w
one_of op.Times xs ys zs c w = inr (inl w)
one_of _ xs ys zs c w = inr (inr w)

pub either_of : {X : Type 0} (b : Bool) (xs ys : List X) (c : X) → Contains (cond b xs ys) c → Contains xs c ⊎ Contains ys c
either_of true xs ys c w = inl w
either_of false xs ys c w = inr w

module _ (program : ProgramTree) (i : Instance) where
  abbrev pub IsSuited : Compared → Type 0
  IsSuited c = (k : Clock) × (c.clock ≡ absolute i k) × Suits k (form_pace i.node (tree.Binary c.operator c.left c.right))

  -- where a comparison of an operator stands
  pub stands : (k : Option Sites) (site : Option ℕ) (o : Op) (a b : Tree) (c : Compared) → Contains (form_compared program i k site (tree.Binary o a b)) c
      → (record { at = operator_place program i site o a; clock = k; operator = o; within = i; left = a; right = b } ≡ c)
      ⊎ (Contains (compared program i k a) c ⊎ Contains (compared program i k b) c)
  stands k site o a b c w =
      let y : Compared = record { at = operator_place program i site o a; clock = k; operator = o; within = i; left = a; right = b } in
      let lefts = compared program i k a in
      let rights = compared program i k b in
      elim (one_of o (rights ++ lefts) (cond (is_constant (node_scope program i.node) a) rights lefts) (own_compared o y ++ (lefts ++ rights)) c w) [
        | inl choice ↦ elim (Contains-append_cases rights lefts c choice) [ inl u ↦ inr (inr u) | inr u ↦ inr (inl u) ]
        | inr other ↦ elim other [
          | inl product ↦ elim (either_of (is_constant (node_scope program i.node) a) rights lefts c product) [ inl u ↦ inr (inr u) | inr u ↦ inr (inl u) ]
          | inr plain ↦ elim (Contains-append_cases (own_compared o y) (lefts ++ rights) c plain) [
            | inl u ↦ inl (in_own (is_placed y.at) (nat_eq (length (sides_of o)) 0) y c u)
            | inr u ↦ inr (Contains-append_cases lefts rights c u)
          ]
        ]
      ]

  mutual
    pub suited : (k : Clock) (e : Tree) → Suits k (pace i.node e) → (c : Compared) → Contains (compared program i (absolute i k) e) c → IsSuited c
    suited k (tree.Node at site form) h c w = form_suited k site form h c w

    form_suited : (k : Clock) (site : Option ℕ) (form : Form) → Suits k (form_pace i.node form) → (c : Compared)
        → Contains (form_compared program i (absolute i k) site form) c → IsSuited c
    form_suited k site (tree.Not e) h c w = suited k e (suits_seen k (pace i.node e) h) c w
    form_suited k site (tree.Minus e) h c w = suited k e (suits_seen k (pace i.node e) h) c w
    form_suited k site (tree.When e x) h c w = suited (clock_of i.node x.text) e (suits_when i.node k (pace i.node e) (site_of i.node x.text) h).0 c w
    form_suited k site (tree.Binary o a b) h c w =
        let parts = suits_operands k o (pace i.node a) (pace i.node b) h in
        elim (stands (absolute i k) site o a b c w) [
          | inl own ↦ subst IsSuited own (k, refl, h)
          | inr rest ↦ elim rest [
            | inl u ↦ suited k a parts.0 c u
            | inr u ↦ suited k b parts.1 c u
          ]
        ]
    form_suited k site (tree.If a b d) h c w =
        let outer = suits_both k (seen (pace i.node a)) (meet (seen (pace i.node b)) (seen (pace i.node d))) h in
        let parts = suits_parts k (pace i.node b) (pace i.node d) outer.1 in
        of_three _ _ _ c w (suited k a (suits_seen k (pace i.node a) outer.0) c) (suited k b parts.0 c)
        (suited k d parts.1 c)
    form_suited k site (tree.AtMostOne es) h c w = all_suited k es h c w
    form_suited k site _ h c w = nothing_in c w

    all_suited : (k : Clock) (es : Trees) → Suits k (pace_of_all i.node es) → (c : Compared) → Contains (compared_all program i (absolute i k) es) c
        → IsSuited c
    all_suited k tree.None h c w = nothing_in c w
    all_suited k (tree.More e es) h c w =
        let parts = suits_both k (seen (pace i.node e)) (pace_of_all i.node es) h in
        of_two _ _ c w (suited k e (suits_seen k (pace i.node e) parts.0) c) (all_suited k es parts.1 c)
