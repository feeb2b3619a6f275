-- The numbers of what is needed are those of the places that are.
use Rattle.std.proofs.Common.{◌≡◌, ℕ, ◌+◌, ◌<◌, inl, inr, Bool, true, false, cond, List, [], ◌∷◌, ◌++◌, length, unwrap_or, Option, Some, refl, subst, arith}
use Rattle.std.proofs.Common.{add-zero, None as Nothing}
use Rattle.std.proofs.lemmas.List.Elements.{Contains-append_left, Contains-append_right}
use Rattle.std.specs.List.{Contains}
use Rattle.rv_tree.specs.Tree.{Tree, Node, Form, Named, Not, Minus, Current, When, Binary, If, AtMostOne, Call, Trees, None, More, ProgramTree}
use Rattle.rv_tree.specs.Places.{Identifier, Sites, flows, is_flow, site_of}
use Rattle.rv_types.specs.Names.{is_declared, node_names, is_value, own_uses, node_uses}
use Rattle.rv_types.specs.Instances.{CallTree, calls, calls_in, form_calls, calls_in_all, Instance, place, absolute, clock_of, node_of}
use Rattle.rv_types.specs.{declared.typed.Clock.Clock, declared.typed.Clock.TheVariants.Base, declared.typed.Clock.TheVariants.On, Clocks.clock_at, Clocks.pace}
use Rattle.rv_types.specs.{Parts.faults_of_all, Needs.flow_of, Needs.needs, Needs.form_needs, Needs.needs_all}
use Rattle.rv_instances.specs.NumberedNeeds.{listed, clock_number, clock_of_expression, numbers_needed, form_numbers, numbers_of_all}
use Rattle.rv_instances.specs.{Flowing.IsKnownClock, Layouts.Here, Layouts.IsPlaced, Layouts.IsClockPlaced, Layouts.IsHere}
use Rattle.rv_instances.proofs.{ArgumentClocks.taken_known, ClockFlows.pace_known}
use Rattle.rv_types.proofs.{Members.cons_cases, Members.index_there, Members.nothing_in, RightNames.both_empty, NamePlaces.output_within}

-- one number after the other is that of a place
abbrev pub AreAt : List Sites → List ℕ → List Sites → Type 0
AreAt places [] [] = Unit {0}
AreAt places (j ∷ js) (q ∷ qs) = IsPlaced places j q × AreAt places js qs
AreAt places _ _ = ⊥

pub at_append : (places : List Sites) (js ks : List ℕ) (qs rs : List Sites) → AreAt places js qs → AreAt places ks rs → AreAt places (js ++ ks) (qs ++ rs)
at_append places [] ks [] rs h v = v
at_append places (j ∷ js) ks (q ∷ qs) rs h v = (h.0, at_append places js ks qs rs h.1 v)
at_append places _ ks _ rs h v = absurd h

-- a place that is needed has one of the numbers
pub at_place : (places : List Sites) (js : List ℕ) (qs : List Sites) (q : Sites) → AreAt places js qs → Contains qs q
    → (j : ℕ) × Contains js j × IsPlaced places j q
at_place places [] [] q h w = nothing_in q w
at_place places (k ∷ js) (r ∷ qs) q h w = elim (cons_cases r qs q w) [
  | inl same ↦ (k, (0, omega arith, refl), subst (IsPlaced places k) same h.0)
  | inr rest ↦ let v = at_place places js qs q h.1 rest in (v.0, Contains-append_right (k ∷ []) js v.0 v.1, v.2)
]
at_place places _ _ q h w = absurd h

-- and the place of a number is needed
pub at_number : (places : List Sites) (js : List ℕ) (qs : List Sites) (j : ℕ) → AreAt places js qs → Contains js j
    → (q : Sites) × Contains qs q × IsPlaced places j q
at_number places [] [] j h w = nothing_in j w
at_number places (k ∷ js) (r ∷ qs) j h w = elim (cons_cases k js j w) [
  | inl same ↦ (r, (0, omega arith, refl), subst (λ n. IsPlaced places n r) same h.0)
  | inr rest ↦ let v = at_number places js qs j h.1 rest in (v.0, Contains-append_right (r ∷ []) qs v.0 v.1, v.2)
]
at_number places _ _ j h w = absurd h

module _ (p : ProgramTree) (i : Instance) (places : List Sites) (h : Here) (here : IsHere p places i h) where
  base_at : (a : Option ℕ) (b : Option Sites) → IsClockPlaced places a b → AreAt places (listed a) (flow_of b)
  base_at Nothing Nothing v = tt
  base_at (Some k) (Some q) v = (v, tt)
  base_at _ _ v = absurd v

  -- the flow of a clock
  pub clock_flow : (k : Clock) → IsKnownClock i.node k → AreAt places (listed (clock_number h k)) (flow_of (absolute i k))
  clock_flow Base v = base_at h.base i.base here.base
  clock_flow (On s) v = (here.flow s v, tt)

  -- the output of a call
  pub output_flow : (c : CallTree) (j : ℕ) → Contains (calls i.node) c → j < length (node_of p c.name).outputs
      → IsPlaced places (h.output c.site + j) (i.path ++ c.site ∷ (length (node_of p c.name).inputs + j) ∷ [])
  output_flow c j w lt =
      let at = here.callee c (length (node_of p c.name).inputs + j) w (output_within (node_of p c.name) j lt) in
      let number : h.callee c.site + (length (node_of p c.name).inputs + j) ≡ h.output c.site + j = omega (arith, here.output c w) in
      subst (λ k. IsPlaced places k (i.path ++ c.site ∷ (length (node_of p c.name).inputs + j) ∷ [])) number at

  name_flow : (x : Identifier) (b : Bool) → is_flow i.node x ≡ b → AreAt places (listed (cond b (Some (h.offset + site_of i.node x)) Nothing))
      (cond b (place i x ∷ []) [])
  name_flow x true is = (here.flow (site_of i.node x) (index_there (flows i.node) x is).0, tt)
  name_flow x false is = tt

  module _ (declared : (s : ℕ) → IsKnownClock i.node (clock_at i.node s)) where
    -- the clock of an operand
    operand_clock : (e : Tree) → node_uses p i.node e ≡ [] → IsKnownClock i.node (clock_of_expression i.node e)
    operand_clock e known = taken_known i.node Base (pace i.node e) tt (pace_known i.node (is_value p i.node) (is_declared (node_names p)) declared e known)

    -- each call of an expression is one of the node, and has an output
    abbrev pub AreGood : List CallTree → Type 0
    AreGood cs = (c : CallTree) → Contains cs c → Contains (calls i.node) c × (0 < length (node_of p c.name).outputs)

    good_left : (xs ys : List CallTree) → AreGood (xs ++ ys) → AreGood xs
    good_left xs ys good c w = good c (Contains-append_left xs ys c w)

    good_right : (xs ys : List CallTree) → AreGood (xs ++ ys) → AreGood ys
    good_right xs ys good c w = good c (Contains-append_right xs ys c w)

    mutual
      pub needs_at : (k : Clock) (e : Tree) → IsKnownClock i.node k → node_uses p i.node e ≡ [] → AreGood (calls_in e)
          → AreAt places (numbers_needed i.node h (clock_number h k) e) (needs p i k e)
      needs_at k (Node at site form) v known good =
          at_append places (listed (clock_number h k)) (form_numbers i.node h (clock_number h k) site form) (flow_of (absolute i k))
          (form_needs p i k site form) (clock_flow k v) (form_at k at site form v known good)

      form_at : (k : Clock) (at : ℕ) (site : Option ℕ) (form : Form) → IsKnownClock i.node k → node_uses p i.node (Node at site form) ≡ []
          → AreGood (form_calls at site form) → AreAt places (form_numbers i.node h (clock_number h k) site form) (form_needs p i k site form)
      form_at k at site (Named x) v known good = name_flow x (is_flow i.node x) refl
      form_at k at site (Not e) v known good = needs_at k e v known good
      form_at k at site (Minus e) v known good = needs_at k e v known good
      form_at k at site (Current e) v known good = needs_at (clock_of_expression i.node e) e (operand_clock e known) known good
      form_at k at site (When e x) v known good =
          needs_at (clock_of i.node x.text) e (declared (site_of i.node x.text))
          (both_empty (own_uses (is_value p i.node) (is_flow i.node) (is_declared (node_names p)) (Node at site (When e x))) (node_uses p i.node e) known).1
          good
      form_at k at site (Binary o a b) v known good =
          let s = both_empty (node_uses p i.node a) (node_uses p i.node b) known in
          at_append places (numbers_needed i.node h (clock_number h k) a) (numbers_needed i.node h (clock_number h k) b) (needs p i k a) (needs p i k b)
          (needs_at k a v s.0 (good_left (calls_in a) (calls_in b) good)) (needs_at k b v s.1 (good_right (calls_in a) (calls_in b) good))
      form_at k at site (If a b c) v known good =
          let s = both_empty (node_uses p i.node a) (node_uses p i.node b ++ node_uses p i.node c) known in
          let t = both_empty (node_uses p i.node b) (node_uses p i.node c) s.1 in
          let rest = good_right (calls_in a) (calls_in b ++ calls_in c) good in
          at_append places (numbers_needed i.node h (clock_number h k) a)
          (numbers_needed i.node h (clock_number h k) b ++ numbers_needed i.node h (clock_number h k) c) (needs p i k a) (needs p i k b ++ needs p i k c)
          (needs_at k a v s.0 (good_left (calls_in a) (calls_in b ++ calls_in c) good))
          (at_append places (numbers_needed i.node h (clock_number h k) b) (numbers_needed i.node h (clock_number h k) c) (needs p i k b) (needs p i k c)
          (needs_at k b v t.0 (good_left (calls_in b) (calls_in c) rest)) (needs_at k c v t.1 (good_right (calls_in b) (calls_in c) rest)))
      form_at k at site (AtMostOne es) v known good = all_at k es v known good
      form_at k at site (Call f args) v known good =
          let call : CallTree = record { at = at; site = unwrap_or site 0; name = f; args = args } in
          let g = good call (0, omega arith, refl) in (
            subst (λ n. IsPlaced places n (i.path ++ call.site ∷ (length (node_of p f).inputs + 0) ∷ [])) (add-zero (h.output call.site))
                (output_flow call 0 g.0 g.1),
            tt,
          )
      form_at k at site _ v known good = tt

      all_at : (k : Clock) (es : Trees) → IsKnownClock i.node k
          → faults_of_all (own_uses (is_value p i.node) (is_flow i.node) (is_declared (node_names p))) es ≡ [] → AreGood (calls_in_all es)
          → AreAt places (numbers_of_all i.node h (clock_number h k) es) (needs_all p i k es)
      all_at k None v known good = tt
      all_at k (More e es) v known good =
          let s = both_empty (node_uses p i.node e) (faults_of_all (own_uses (is_value p i.node) (is_flow i.node) (is_declared (node_names p))) es) known in
          at_append places (numbers_needed i.node h (clock_number h k) e) (numbers_of_all i.node h (clock_number h k) es) (needs p i k e) (needs_all p i k es)
          (needs_at k e v s.0 (good_left (calls_in e) (calls_in_all es) good)) (all_at k es v s.1 (good_right (calls_in e) (calls_in_all es) good))
