-- The parts of the main node of a made program: its flows, its equations and its calls.
use Rattle.std.proofs.Common.{◌≡◌, ℕ, zero, suc, ◌+◌, ◌^◌, ◌<◌, ◌≤◌, inl, inr, true, [], ◌∷◌, ◌++◌, length, refl, ◌∙◌, ap, subst, arith, Some, None as Nothing}
use Rattle.std.proofs.{lemmas.List.Elements.Contains-push_cases, lemmas.List.length_push}
use Rattle.std.specs.{Prelude.codes, List.Contains}
use Rattle.rv_tree.specs.Tree.{Node, Not, Binary, Call, None, More, EquationTree}
use Rattle.rv_tree.specs.{declared.tree.Decl.Decl, Places.Identifier, Places.names, Places.is_among, Places.is_flow, Places.index_of, Places.site_of}
use Rattle.rv_tree.specs.declared.tree.Op.TheVariants as op
use Rattle.rv_make.specs.Made.{link_name}
use Rattle.rv_make.specs.Chains.{Offsets, boolean, flow_read, equation, link_flows, link_calls, seen_equation, ok_equation, main_node}
use Rattle.rv_made_order.proofs.Links.{flow_links, among_links, index_links}
use Rattle.rv_types.proofs.Members.{cons_cases, nothing_in}

-- the equation of the call with this number, where the first call has this site
abbrev pub call_equation : Offsets → ℕ → ℕ → EquationTree
call_equation o first i = equation (o.left i) (link_name (suc i))
    (Node (o.call i) (Some (first + i)) (Call (codes "link") (More (flow_read (o.argument i) (link_name i)) None)))

-- the equation of the observer, over some flow
abbrev pub ok_equation_of : (ℕ → ℕ) → Identifier → EquationTree
ok_equation_of at x = equation (at 11) (codes "ok")
    (Node (at 12) Nothing (Binary op.Or (Node (at 13) Nothing (Not (flow_read (at 14) x))) (flow_read (at 15) (codes "seen"))))

-- what stands among the equations of the first n calls, and among the declarations of their flows
pub of_calls : (o : Offsets) (first n : ℕ) (q : EquationTree) → Contains (link_calls o first n) q → (i : ℕ) × (i < n) × (call_equation o first i ≡ q)
of_calls o first zero q w = nothing_in q w
of_calls o first (suc n) q w = elim (Contains-push_cases (link_calls o first n) (call_equation o first n) q w) [
  | inl v ↦ let r = of_calls o first n q v in (r.0, (let lt = r.1 in omega (arith, lt)), r.2)
  | inr e ↦ (n, omega arith, e)
]

pub of_flows : (at : ℕ → ℕ) (n : ℕ) (d : Decl) → Contains (link_flows at n) d → (i : ℕ) × (i < n) × (boolean (at i) (link_name (suc i)) ≡ d)
of_flows at zero d w = nothing_in d w
of_flows at (suc n) d w = elim (Contains-push_cases (link_flows at n) (boolean (at n) (link_name (suc n))) d w) [
  | inl v ↦ let r = of_flows at n d v in (r.0, (let lt = r.1 in omega (arith, lt)), r.2)
  | inr e ↦ (n, omega arith, e)
]

-- the site of the flow that the call with this number takes
abbrev pub link_site : ℕ → ℕ
link_site zero = 0
link_site (suc i) = suc (suc (suc i))

module _ (o : Offsets) (n : ℕ) where
  -- what holds of each equation of the main node, and of each but the first
  pub each_later : (P : EquationTree → Type 0) → ((i : ℕ) → i < n → P (call_equation o (n + 4) i)) → P (ok_equation o.main n)
      → (q : EquationTree) → Contains (link_calls o (n + 4) n ++ ok_equation o.main n ∷ []) q → P q
  each_later P call ok q w = elim (Contains-push_cases (link_calls o (n + 4) n) (ok_equation o.main n) q w) [
    | inl u ↦ let r = of_calls o (n + 4) n q u in subst P r.2 (call r.0 r.1)
    | inr e ↦ subst P e ok
  ]

  pub each_equation : (P : EquationTree → Type 0) → P (seen_equation o.main (n + 3)) → ((i : ℕ) → i < n → P (call_equation o (n + 4) i))
      → P (ok_equation o.main n)
      → (q : EquationTree) → Contains (main_node o n).equations q → P q
  each_equation P seen call ok q w =
      elim (cons_cases (seen_equation o.main (n + 3)) (link_calls o (n + 4) n ++ ok_equation o.main n ∷ []) q w) [
        | inl e ↦ subst P e seen
        | inr v ↦ each_later P call ok q v
      ]

  -- of each flow of a call
  pub each_flow : (P : Decl → Type 0) → ((i : ℕ) → i < n → P (boolean (o.declared i) (link_name (suc i)))) → (d : Decl)
      → Contains (link_flows o.declared n) d → P d
  each_flow P link d w = let r = of_flows o.declared n d w in subst P r.2 (link r.0 r.1)

  -- The flow that a call takes or gives is one of the node, and has its site.
  pub flow_there : (i : ℕ) → i ≤ n → is_flow (main_node o n) (link_name i) ≡ true
  flow_there zero le = refl
  flow_there (suc i) le = ap (λ xs. is_among xs (link_name (suc i))) (flow_links o.declared n) ∙ among_links n i le

  pub flow_site : n < 2 ^ 64 → (i : ℕ) → i ≤ n → site_of (main_node o n) (link_name i) ≡ link_site i
  flow_site few zero le = refl
  flow_site few (suc i) le =
      let same = ap (λ xs. index_of xs (link_name (suc i))) (flow_links o.declared n) in
      let h : index_of (names (link_flows o.declared n)) (link_name (suc i)) ≡ i = same ∙ index_links n i few le in
      omega (arith, h)

-- how many flows the calls give
pub length_flows : (at : ℕ → ℕ) (n : ℕ) → length (link_flows at n) ≡ n
length_flows at zero = refl
length_flows at (suc n) =
    let e = length_push (link_flows at n) (boolean (at n) (link_name (suc n))) in
    let h = length_flows at n in
    omega (arith, e, h)
