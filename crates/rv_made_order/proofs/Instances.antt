-- The instances of a made program: the main node, and the node that delays for each call, all on the clock of the main node.
use Rattle.std.proofs.Common.{◌≡◌, ℕ, zero, suc, ◌+◌, ◌*◌, ◌<◌, ◌≤◌, ◌⊎◌, inl, inr, List, [], ◌∷◌, ◌++◌, refl, sym, ◌∙◌, ap, subst, arith, Option}
use Rattle.std.proofs.Common.{None as Nothing}
use Rattle.std.proofs.{lemmas.List.append_assoc, lemmas.List.append-nil, lemmas.List.Concat.flat_map-append, lemmas.List.Elements.Contains-push_cases}
use Rattle.std.specs.{Prelude.codes, List.Contains, List.flat_map}
use Rattle.rv_tree.specs.{Tree.None, Tree.More, Tree.EquationTree, Tree.NodeTree, Tree.ProgramTree, Places.Sites}
use Rattle.rv_types.specs.Instances.{CallTree, calls_in, calls_in_equations, calls, Instance, absolute, taken, callee, main_instance, IsInstance, is_main}
use Rattle.rv_types.specs.Instances.{is_callee, unrolled, all_instances}
use Rattle.rv_types.specs.{declared.typed.Clock.TheVariants.Base, declared.fault.Pace.Pace, declared.fault.Pace.TheVariants.Free, Clocks.seen, Clocks.meet}
use Rattle.rv_types.specs.{Variables.total, Variables.over_instances}
use Rattle.rv_make.specs.Made.{link_name}
use Rattle.rv_make.specs.Chains.{Offsets, flow_read, link_calls, ok_equation, link_node, main_node, chain_program}
use Rattle.rv_made_order.proofs.{Lists.only_one, Program.call_equation, Paced.link_pace}
use Rattle.rv_types.proofs.{Members.cons_cases, Members.nothing_in, Members.of_flat_map, DifferentPlaces.total_append}

calls_append : (xs ys : List EquationTree) → calls_in_equations (xs ++ ys) ≡ calls_in_equations xs ++ calls_in_equations ys
calls_append [] ys = refl
calls_append (x ∷ xs) ys =
    ap (λ cs. calls_in x.right ++ cs) (calls_append xs ys)
    ∙ sym (append_assoc (calls_in x.right) (calls_in_equations xs) (calls_in_equations ys))

module _ (o : Offsets) (n : ℕ) where
  -- the made program with n calls
  abbrev p : ProgramTree
  p = chain_program o n

  -- the call with this number
  abbrev pub link_call : ℕ → CallTree
  link_call k = record { at = o.call k; site = (n + 4) + k; name = codes "link"; args = More (flow_read (o.argument k) (link_name k)) None }

  -- the calls of the main node up to a number
  abbrev pub first_calls : ℕ → List CallTree
  first_calls zero = []
  first_calls (suc k) = first_calls k ++ link_call k ∷ []

  calls_first : (k : ℕ) → calls_in_equations (link_calls o (n + 4) k) ≡ first_calls k
  calls_first zero = refl
  calls_first (suc k) = calls_append (link_calls o (n + 4) k) (call_equation o (n + 4) k ∷ []) ∙ ap (λ cs. cs ++ link_call k ∷ []) (calls_first k)

  pub main_calls : calls (main_node o n) ≡ first_calls n
  main_calls =
      append-nil (calls_in_equations (link_calls o (n + 4) n ++ ok_equation o.main n ∷ []))
      ∙ calls_append (link_calls o (n + 4) n) (ok_equation o.main n ∷ [])
      ∙ append-nil (calls_in_equations (link_calls o (n + 4) n)) ∙ calls_first n

  pub of_first : (k : ℕ) (c : CallTree) → Contains (first_calls k) c → (i : ℕ) × (i < k) × (link_call i ≡ c)
  of_first zero c w = nothing_in c w
  of_first (suc k) c w = elim (Contains-push_cases (first_calls k) (link_call k) c w) [
    | inl v ↦ let r = of_first k c v in (r.0, (let lt = r.1 in omega (arith, lt)), r.2)
    | inr e ↦ (k, omega arith, e)
  ]

  pub each_call : (P : CallTree → Type 0) → ((i : ℕ) → i < n → P (link_call i)) → (c : CallTree) → Contains (calls (main_node o n)) c → P c
  each_call P link c w = let r = of_first n c (subst (λ cs. Contains cs c) main_calls w) in subst P r.2 (link r.0 r.1)

  -- The instance of the main node, and that of a call.
  abbrev pub main_copy : Instance
  main_copy = main_instance p (codes "main")

  abbrev pub link_copy : ℕ → Instance
  link_copy k = record { path = ((n + 4) + k) ∷ []; node = link_node o.link; base = Nothing }

  -- the instance of a call on any clock
  copy_on : ℕ → Option Sites → Instance
  copy_on k base = record { path = ((n + 4) + k) ∷ []; node = link_node o.link; base = base }

  pub callee_copy : (k : ℕ) → k ≤ n → callee p main_copy (link_call k) ≡ link_copy k
  unfolding copy_on
  callee_copy k le = ap (λ (q : Pace). copy_on k (absolute main_copy (taken Base (meet (seen q) Free)))) (link_pace o n k le)

  -- There are no others.
  abbrev pub IsMade : Instance → Type 0
  IsMade i = (i ≡ main_copy) ⊎ ((k : ℕ) × (k < n) × (i ≡ link_copy k))

  callee_made : (i : Instance) (c : CallTree) → IsMade i → Contains (calls i.node) c → IsMade (callee p i c)
  callee_made i c (inl e) w = subst (λ (j : Instance). Contains (calls j.node) c → IsMade (callee p j c)) (sym e)
      (each_call (λ d. IsMade (callee p main_copy d)) (λ k lt. inr (k, lt, callee_copy k (omega (arith, lt)))) c) w
  callee_made i c (inr l) w = nothing_in c (subst (λ (j : Instance). Contains (calls j.node) c) l.2 w)

  pub made : (i : Instance) → IsInstance p (codes "main") i → IsMade i
  made _ is_main = inl refl
  made _ (is_callee {i = i} c is w) = callee_made i c (made i is) w

  -- what a call gives with all below it
  abbrev below : CallTree → List Instance
  below c = unrolled p 1 (callee p main_copy c)

  -- those that are counted are such too
  pub listed_made : (i : Instance) → Contains (all_instances p (codes "main")) i → IsMade i
  listed_made i w = elim (cons_cases main_copy (flat_map below (calls (main_node o n))) i w) [
    | inl e ↦ inl (sym e)
    | inr v ↦
        let r = of_flat_map below (calls (main_node o n)) i v in
        each_call (λ c. Contains (below c) i → IsMade i)
        (λ k lt h. inr (k, lt, sym (only_one (callee p main_copy (link_call k)) i h) ∙ callee_copy k (omega (arith, lt)))) r.0 r.1 r.2
  ]

  -- The sum over all instances: what the main node has, and n times what the other has.
  below_total : (f : NodeTree → ℕ) (k : ℕ) → total (λ (i : Instance). f i.node) (flat_map below (first_calls k)) ≡ k * f (link_node o.link)
  below_total f zero = omega arith
  below_total f (suc k) =
      let h = below_total f k in
      let e = ap (total (λ (i : Instance). f i.node)) (flat_map-append below (first_calls k) (link_call k ∷ [])) in
      let t = total_append (λ (i : Instance). f i.node) (flat_map below (first_calls k)) (callee p main_copy (link_call k) ∷ []) in
      e ∙ t ∙ summed k (f (link_node o.link)) (total (λ (i : Instance). f i.node) (flat_map below (first_calls k))) h
    where
      summed : (k x y : ℕ) → y ≡ k * x → y + (x + 0) ≡ suc k * x
      summed k x y e = omega (arith, e)

  pub over_all : (f : NodeTree → ℕ) → over_instances p (codes "main") f ≡ f (main_node o n) + n * f (link_node o.link)
  over_all f =
      ap (λ cs. f (main_node o n) + total (λ (i : Instance). f i.node) (flat_map below cs)) main_calls
      ∙ ap (λ k. f (main_node o n) + k) (below_total f n)
