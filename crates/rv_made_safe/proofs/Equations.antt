-- The equations of the main node: which they are, and that each is there.
use Rattle.std.proofs.Common.{◌≡◌, ℕ, zero, suc, ◌+◌, ◌<◌, inl, inr, [], ◌∷◌, refl, subst, arith}
use Rattle.std.proofs.lemmas.Bool.{cases_lt}
use Rattle.std.proofs.lemmas.List.Elements.{Contains-append_left, Contains-push, Contains-push_cases}
use Rattle.std.specs.{Prelude.codes, Prelude.Some, List.Contains}
use Rattle.rv_tree.specs.Tree.{Tree, Node, Call, None, More, EquationTree}
use Rattle.rv_types.specs.Instances.{IsRight, alone, Body}
use Rattle.rv_meaning.proofs.NameLemmas.{none_in}
use Rattle.rv_make.specs.Made.{link_name}
use Rattle.rv_make.specs.Chains.{Offsets, flow_read, equation, delayed, link_node, link_calls, seen_equation, ok_equation, main_node}
use Rattle.rv_types.proofs.Members.{at_head, cons_cases, in_tail}

-- the call after this many, where the first has this site
abbrev pub call_tree : Offsets → ℕ → ℕ → Tree
call_tree o first i = Node (o.call i) (Some (first + i)) (Call (codes "link") (More (flow_read (o.argument i) (link_name i)) None))

-- and its equation
abbrev pub call_equation : Offsets → ℕ → ℕ → EquationTree
call_equation o first i = equation (o.left i) (link_name (suc i)) (call_tree o first i)

-- each equation of a call is there
call_there : (o : Offsets) (first n i : ℕ) → i < n → Contains (link_calls o first n) (call_equation o first i)
call_there o first zero i h = absurd (omega (arith, h))
call_there o first (suc n) i h = elim (cases_lt i n) [
  | inl before ↦ Contains-append_left (link_calls o first n) (call_equation o first n ∷ []) (call_equation o first i) (call_there o first n i before)
  | inr least ↦
      let last : n ≡ i = omega arith in
      subst (λ k. Contains (link_calls o first (suc n)) (call_equation o first k)) last (Contains-push (link_calls o first n) (call_equation o first n))
]

-- and there are no others
call_is : (o : Offsets) (first n : ℕ) (q : EquationTree) → Contains (link_calls o first n) q → (i : ℕ) × (call_equation o first i ≡ q)
call_is o first zero q w = absurd (none_in q w)
call_is o first (suc n) q w = elim (Contains-push_cases (link_calls o first n) (call_equation o first n) q w) [
  | inl before ↦ call_is o first n q before
  | inr last ↦ (n, last)
]

-- an equation of the main node: that of `seen`, that of a call, or that of the observer
pub data IsMainEquation (o : Offsets) (n : ℕ) : EquationTree → Type 0 where
  sees : IsMainEquation o n (seen_equation o.main (n + 3))
  calls : (i : ℕ) → IsMainEquation o n (call_equation o (n + 4) i)
  tells : IsMainEquation o n (ok_equation o.main n)

module _ (o : Offsets) (n : ℕ) where
  pub seen_in_main : Contains (main_node o n).equations (seen_equation o.main (n + 3))
  seen_in_main = at_head (seen_equation o.main (n + 3)) _

  pub call_in_main : (i : ℕ) → i < n → Contains (main_node o n).equations (call_equation o (n + 4) i)
  call_in_main i h = in_tail (seen_equation o.main (n + 3)) _ (call_equation o (n + 4) i)
      (Contains-append_left (link_calls o (n + 4) n) (ok_equation o.main n ∷ []) (call_equation o (n + 4) i) (call_there o (n + 4) n i h))

  pub ok_in_main : Contains (main_node o n).equations (ok_equation o.main n)
  ok_in_main = in_tail (seen_equation o.main (n + 3)) _ (ok_equation o.main n) (Contains-push (link_calls o (n + 4) n) (ok_equation o.main n))

  -- there are no others
  pub main_equation : (q : EquationTree) → Contains (main_node o n).equations q → IsMainEquation o n q
  main_equation q w = elim (cons_cases (seen_equation o.main (n + 3)) _ q w) [
    | inl is ↦ subst (IsMainEquation o n) is sees
    | inr later ↦ elim (Contains-push_cases (link_calls o (n + 4) n) (ok_equation o.main n) q later) [
      | inl call ↦ let r = call_is o (n + 4) n q call in subst (IsMainEquation o n) r.1 (calls r.0)
      | inr is ↦ subst (IsMainEquation o n) is tells
    ]
  ]

module _ (o : Offsets) (n : ℕ) where
  -- what each equation of the main node gives its left side
  pub seen_right : IsRight (main_node o n) (codes "seen") (Body (seen_equation o.main (n + 3)).right)
  seen_right = alone (seen_equation o.main (n + 3)) (seen_in_main o n) refl

  pub call_right : (i : ℕ) → i < n → IsRight (main_node o n) (link_name (suc i)) (Body (call_tree o (n + 4) i))
  call_right i h = alone (call_equation o (n + 4) i) (call_in_main o n i h) refl

  pub ok_right : IsRight (main_node o n) (codes "ok") (Body (ok_equation o.main n).right)
  ok_right = alone (ok_equation o.main n) (ok_in_main o n) refl

-- and what that of the node `link` does
pub link_right : (at : ℕ → ℕ) → IsRight (link_node at) (codes "b") (Body (delayed at 4 2 (codes "a")))
link_right at =
    let sole = equation (at 3) (codes "b") (delayed at 4 2 (codes "a")) in
    alone sole (at_head sole []) refl
