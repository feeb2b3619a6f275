-- A history brings a state to each instant, where each `pre` and `current` of a node has a site of its own. Without that
-- two memories with different values could have one place, and no state would hold both.
use Rattle.std.proofs.Common.{◌≡◌, ℕ, ◌<◌, Bool, true, false, cond, nat_eq, List, [], ◌∷◌, length, get_or, refl, sym, ◌∙◌, ap, arith, ◌⊎◌, inl, inr, Option}
use Rattle.std.proofs.Common.{Some, unwrap_or, None as Nothing}
use Rattle.std.specs.List.{Contains}
use Rattle.rv_tree.specs.Places.{Identifier, flows, site_of, is_flow, memory_site}
use Rattle.rv_tree.specs.{Tree.Tree, Tree.Node, Tree.Named, Tree.NodeTree, Delays.Delay, Delays.node_delays, Delays.IsNumbered}
use Rattle.rv_types.proofs.Members.{at_head, cons_cases, in_tail, index_there, nothing_in}

module _ {X : Type 0} (key : X → ℕ) where
  -- the first of some that has a number
  abbrev pub first_with : List X → ℕ → Option X
  first_with [] s = Nothing
  first_with (x ∷ xs) s = cond (nat_eq (key x) s) (Some x) (first_with xs s)

  -- it is found where one has the number
  pub found : (xs : List X) (x : X) → Contains xs x → (y : X) × (first_with xs (key x) ≡ Some y) × Contains xs y × (key y ≡ key x)
  found [] x w = nothing_in x w
  found (z ∷ xs) x w = tested (nat_eq (key z) (key x)) refl (found xs x)
    where
      tested : (b : Bool) → nat_eq (key z) (key x) ≡ b → (Contains xs x → (y : X) × (first_with xs (key x) ≡ Some y) × Contains xs y × (key y ≡ key x))
          → (y : X) × (cond b (Some z) (first_with xs (key x)) ≡ Some y) × Contains (z ∷ xs) y × (key y ≡ key x)
      tested true e again = (z, refl, at_head z xs, grind arith)
      tested false e again = elim (cons_cases z xs x w) [
        | inl is ↦ absurd (let same : key z ≡ key x = ap key is in grind arith)
        | inr later ↦ let r = again later in (r.0, r.1, in_tail z xs r.0 r.2, r.3)
      ]

-- the operand is a flow of this name
abbrev pub IsName : NodeTree → Tree → Identifier → Type 0
IsName n e x = (at : ℕ) × (s : Option ℕ) × (e ≡ Node at s (Named x)) × (is_flow n x ≡ true)

-- a memory has the site of its flow or its own
memory_of_either : (n : NodeTree) (site : Option ℕ) (e : Tree) → ((x : Identifier) × IsName n e x × (memory_site n site e ≡ site_of n x))
    ⊎ (memory_site n site e ≡ unwrap_or site 0)
memory_of_either n site (Node at s (Named x)) = tested (is_flow n x) refl
  where
    tested : (b : Bool) → is_flow n x ≡ b → ((y : Identifier) × IsName n (Node at s (Named x)) y × (cond b (site_of n x) (unwrap_or site 0) ≡ site_of n y))
        ⊎ (cond b (site_of n x) (unwrap_or site 0) ≡ unwrap_or site 0)
    tested true is = inl (x, (at, s, refl, is), refl)
    tested false is = inr refl
memory_of_either n site (Node at s _) = inr refl

module _ (n : NodeTree) (numbered : IsNumbered n) where
  -- the site of a flow is one of the first
  flow_site : (x : Identifier) → is_flow n x ≡ true → site_of n x < length (flows n)
  flow_site x is = (index_there (flows n) x is).0

  -- and that of no other
  same_flow_site : (x y : Identifier) → is_flow n x ≡ true → is_flow n y ≡ true → site_of n x ≡ site_of n y → x ≡ y
  same_flow_site x y p q e = sym (index_there (flows n) x p).1 ∙ ap (λ k. get_or (flows n) k []) e ∙ (index_there (flows n) y q).1

  -- no memory with a site of its own has that of a flow
  own_beyond : (d : Delay) → Contains (node_delays n) d → (x : Identifier) → is_flow n x ≡ true → site_of n x ≡ unwrap_or d.site 0 → ⊥
  own_beyond d w x is e =
      let s = numbered.beyond d w in
      let low = flow_site x is in let own : unwrap_or d.site 0 ≡ s.0 = ap (λ o. unwrap_or o 0) s.1 in omega (arith, s.2)

  -- a site of its own belongs to one memory
  same_own : (d e : Delay) → Contains (node_delays n) d → Contains (node_delays n) e → unwrap_or d.site 0 ≡ unwrap_or e.site 0 → d ≡ e
  same_own d e w v is =
      let s = numbered.beyond d w in
      let r = numbered.beyond e v in
      let same : s.0 ≡ r.0 = sym (ap (λ o. unwrap_or o 0) s.1) ∙ is ∙ ap (λ o. unwrap_or o 0) r.1 in
      numbered.own d e w v (s.1 ∙ ap Some same ∙ sym r.1)

  -- so what belongs to memories of one site is the same, where that of a flow's name goes by the name
  pub same_memory : {A : Type 0} (of : Delay → A) (of_name : Identifier → ℕ → A)
      → ((d : Delay) (x : Identifier) → IsName n d.operand x → of d ≡ of_name x (memory_site n d.site d.operand))
      → (d e : Delay) → Contains (node_delays n) d → Contains (node_delays n) e → memory_site n d.site d.operand ≡ memory_site n e.site e.operand
      → of d ≡ of e
  same_memory of of_name named d e w v is = elim (memory_of_either n d.site d.operand) [
    | inl a ↦ elim (memory_of_either n e.site e.operand) [
      | inl b ↦
          let x : a.0 ≡ b.0 = same_flow_site a.0 b.0 a.1.3 b.1.3 (sym a.2 ∙ is ∙ b.2) in
          named d a.0 a.1 ∙ (λ j. of_name (x j) (is j)) ∙ sym (named e b.0 b.1)
      | inr b ↦ absurd (own_beyond e v a.0 a.1.3 (sym a.2 ∙ is ∙ b))
    ]
    | inr a ↦ elim (memory_of_either n e.site e.operand) [
      | inl b ↦ absurd (own_beyond d w b.0 b.1.3 (sym b.2 ∙ sym is ∙ a))
      | inr b ↦ ap of (same_own d e w v (sym a ∙ is ∙ b))
    ]
  ]
