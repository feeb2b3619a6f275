-- Boolean expressions weigh next to nothing, so none of a made program is too wide.
use Rattle.std.proofs.Common.{◌≡◌, ℕ, zero, suc, ◌+◌, ◌^◌, ◌<◌, ◌≤◌, inl, inr, cond, List, [], ◌∷◌, ◌++◌, refl, sym, ◌∙◌, ap, subst, arith}
use Rattle.std.specs.{Prelude.codes, Prelude.nat_abs, Prelude.nat_lt, List.Contains, List.flat_map}
use Rattle.rv_base.specs.Limits.{heaviest}
use Rattle.rv_tree.specs.{Tree.Tree, Tree.Node, Tree.EquationTree, Tree.NodeTree, Tree.ProgramTree, Places.Identifier, Places.Sites, Places.site_of}
use Rattle.rv_types.specs.Instances.{CallTree, calls, Right, Body, IsRight, IsArgument, Instance, place, IsInstance}
use Rattle.rv_types.specs.{Constants.whole_in, Scopes.constant_value, Needs.given, Needs.by_equation, Needs.by_call}
use Rattle.rv_instances.specs.Weights.{weight, weight_of_right, too_wide, weighed_under, weighed, AreWeights, AreLight}
use Rattle.rv_make.specs.{Made.link_name, Chains.Offsets, Chains.flow_read, Chains.main_node, Chains.chain_program}
use Rattle.rv_made_order.proofs.Program.{link_site, each_equation, flow_there, flow_site}
use Rattle.rv_made_order.proofs.Instances.{link_call, each_call, main_copy, link_copy, made}
use Rattle.rv_made_order.proofs.{Lists.both_none, Ranked.each_right, Ranked.link_right, Ranked.sole_argument}
use Rattle.rv_types.proofs.{Members.in_tail, Members.nothing_in, RightNames.both_empty}

-- the weights of the flows of the main node, by their sites, and of the others
abbrev pub site_weight : ℕ → ℕ
site_weight zero = 1
site_weight (suc zero) = 0
site_weight (suc (suc zero)) = 0
site_weight (suc (suc (suc i))) = 1

abbrev pub flow_weight : Sites → ℕ
flow_weight (s ∷ []) = site_weight s
flow_weight _ = 1

wide_append : (w : Tree → ℕ) (xs ys : List Tree) → too_wide w xs ≡ [] → too_wide w ys ≡ [] → too_wide w (xs ++ ys) ≡ []
wide_append w [] ys first rest = rest
wide_append w (Node at site form ∷ xs) ys first rest =
    let here = cond (nat_lt heaviest (w (Node at site form))) (at ∷ []) [] in
    let s = both_empty here (too_wide w xs) first in
    both_none here (too_wide w (xs ++ ys)) s.0 (wide_append w xs ys s.1 rest)

wide_flat : {X : Type 0} (w : Tree → ℕ) (f : X → List Tree) (xs : List X) → ((x : X) → Contains xs x → too_wide w (f x) ≡ []) → too_wide w (flat_map f xs) ≡ []
wide_flat w f [] each = refl
wide_flat w f (x ∷ xs) each = wide_append w (f x) (flat_map f xs) (each x (0, omega arith, refl)) (wide_flat w f xs (λ y v. each y (in_tail x xs y v)))

module _ (o : Offsets) (n : ℕ) (few : n < 2 ^ 64) where
  -- the made program with n calls
  abbrev p : ProgramTree
  p = chain_program o n

  -- its main node
  abbrev main : NodeTree
  main = main_node o n

  -- the instance of the main node
  abbrev copy : Instance
  copy = main_copy o n

  link_weight : (i : ℕ) → site_weight (link_site i) ≡ 1
  link_weight zero = refl
  link_weight (suc i) = refl

  -- the flow that a call takes or gives
  named_weight : (at i : ℕ) → i ≤ n → weight p flow_weight copy (flow_read at (link_name i)) ≡ 1
  named_weight at i le =
      ap (λ b. cond b (site_weight (site_of main (link_name i))) (nat_abs (whole_in (constant_value p (link_name i))))) (flow_there o n i le)
      ∙ ap site_weight (flow_site o n few i le) ∙ link_weight i

  -- a flow has the weight of its right side in an instance
  abbrev Weighs : Sites → Instance → Right → Type 0
  Weighs q i r = flow_weight q ≡ weight_of_right p flow_weight i r

  main_weight : (x : Identifier) (r : Right) → IsRight main x r → Weighs (place copy x) copy r
  main_weight = each_right o n few (λ x r. Weighs (place copy x) copy r) refl
      (λ i lt. ap site_weight (flow_site o n few (suc i) lt)) refl

  call_weight : (c : CallTree) → Contains (calls main) c → (j : ℕ) (e : Tree) → IsArgument c.args j e → Weighs ([] ++ c.site ∷ j ∷ []) copy (Body e)
  call_weight = each_call o n (λ c. (j : ℕ) (e : Tree) → IsArgument c.args j e → Weighs ([] ++ c.site ∷ j ∷ []) copy (Body e))
      (λ k lt j e w.
      let is = sole_argument (link_call o n k).args j e (flow_read (o.argument k) (link_name k)) w refl in
      subst (λ e. Weighs (((n + 4) + k) ∷ j ∷ []) copy (Body e)) (sym is.1) (sym (named_weight (o.argument k) k (omega (arith, lt)))))

  right_weight : (i : Instance) → IsInstance p (codes "main") i → (x : Identifier) (r : Right) → IsRight i.node x r → Weighs (place i x) i r
  right_weight i is x r w = elim (made o n i is) [
    | inl e ↦ subst (λ (i : Instance). IsRight i.node x r → Weighs (place i x) i r) (sym e) (main_weight x r) w
    | inr l ↦ subst (λ (i : Instance). IsRight i.node x r → Weighs (place i x) i r) (sym l.2)
        (link_right o n few (λ r. Weighs (place (link_copy o n l.0) x) (link_copy o n l.0) r) refl x r) w
  ]

  argument_weight : (i : Instance) → IsInstance p (codes "main") i → (c : CallTree) (j : ℕ) (e : Tree) → Contains (calls i.node) c → IsArgument c.args j e
      → Weighs (i.path ++ c.site ∷ j ∷ []) i (Body e)
  argument_weight i is c j e w arg = elim (made o n i is) [
    | inl same ↦ subst (λ (i : Instance). Contains (calls i.node) c → Weighs (i.path ++ c.site ∷ j ∷ []) i (Body e)) (sym same) (λ v. call_weight c v j e arg) w
    | inr l ↦ nothing_in c (subst (λ (i : Instance). Contains (calls i.node) c) l.2 w)
  ]

  are_weights : AreWeights p (codes "main") flow_weight
  are_weights q _ (given j lt at) = subst (λ q. flow_weight q ≡ 1) at (ap site_weight (let z : j ≡ 0 = omega (arith, lt) in z))
  are_weights q _ (by_equation i x r is w at) = subst (λ q. Weighs q i r) at (right_weight i is x r w)
  are_weights q _ (by_call i c j e is w arg at) = subst (λ q. Weighs q i (Body e)) at (argument_weight i is c j e w arg)

  main_light : too_wide (weight p flow_weight copy) (weighed main) ≡ []
  main_light = wide_append (weight p flow_weight copy) (flat_map (λ (q : EquationTree). weighed_under q.lefts q.right) main.equations) []
      (wide_flat (weight p flow_weight copy) (λ (q : EquationTree). weighed_under q.lefts q.right) main.equations
      (each_equation o n (λ q. too_wide (weight p flow_weight copy) (weighed_under q.lefts q.right) ≡ []) refl
      (λ i lt. ap (λ v. cond (nat_lt heaviest v) (o.argument i ∷ []) [] ++ []) (named_weight (o.argument i) i (omega (arith, lt))))
      (ap (λ v. cond (nat_lt heaviest v) (o.main 14 ∷ []) [] ++ []) (named_weight (o.main 14) n (omega arith)))))
      refl

  light : (i : Instance) → IsInstance p (codes "main") i → too_wide (weight p flow_weight i) (weighed i.node) ≡ []
  light i is = elim (made o n i is) [
    | inl e ↦ ap (λ (i : Instance). too_wide (weight p flow_weight i) (weighed i.node)) e ∙ main_light
    | inr l ↦ ap (λ (i : Instance). too_wide (weight p flow_weight i) (weighed i.node)) l.2
  ]

  pub are_light : AreLight p (codes "main")
  are_light = (
    flow_weight,
    are_weights,
    λ at wide. elim wide [
      | inl w ↦ nothing_in at w
      | inr r ↦ nothing_in at (subst (λ xs. Contains xs at) (light r.0 r.1) r.2)
    ],
  )
