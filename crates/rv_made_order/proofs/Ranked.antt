-- Each flow of a made program needs only flows of lower rank at the same instant, so none needs itself.
use Rattle.std.proofs.Common.{◌≡◌, ℕ, zero, suc, ◌+◌, ◌-◌, ◌*◌, ◌^◌, ◌<◌, ◌≤◌, inl, inr, cond, List, [], ◌∷◌, ◌++◌, length, refl, sym, ◌∙◌, ap, subst, arith}
use Rattle.std.specs.{Prelude.codes, List.Contains}
use Rattle.rv_tree.specs.Tree.{Tree, Trees, None, More, EquationTree, NodeTree, ProgramTree}
use Rattle.rv_tree.specs.Places.{Identifier, Sites, site_of}
use Rattle.rv_types.specs.Instances.{CallTree, calls, Right, Body, IsRight, alone, in_order, IsArgument, head, tail, Instance, place, taken, clock_of}
use Rattle.rv_types.specs.Instances.{clock_of_arguments, IsInstance}
use Rattle.rv_types.specs.Needs.{needs, needs_of_right, Giver, needs_of, Gives, given, by_equation, by_call, Leads, IsCycle}
use Rattle.rv_types.specs.{declared.typed.Clock.Clock, declared.typed.Clock.TheVariants.Base, declared.fault.Pace.Pace, declared.fault.Pace.TheVariants.Free}
use Rattle.rv_types.specs.{declared.fault.Pace.TheVariants.At, Clocks.seen, Clocks.meet, Clocks.grounded, Names.texts}
use Rattle.rv_make.specs.Made.{link_name}
use Rattle.rv_make.specs.Chains.{Offsets, flow_read, delayed, equation, seen_equation, ok_equation, link_node, main_node, chain_program}
use Rattle.rv_made_order.proofs.{Lists.only_one, Program.call_equation, Program.link_site, Program.each_equation, Program.flow_there, Program.flow_site}
use Rattle.rv_made_order.proofs.{Paced.link_pace, Instances.link_call, Instances.each_call, Instances.main_copy, Instances.link_copy, Instances.made}
use Rattle.rv_types.proofs.Members.{cons_cases, nothing_in}

-- an argument of a call that has one
no_argument : (es : Trees) (j : ℕ) (e : Tree) → IsArgument es j e → es ≡ None → ⊥
no_argument _ _ _ head same = cc
no_argument _ _ _ (tail w) same = cc

pub sole_argument : (es : Trees) (j : ℕ) (e d : Tree) → IsArgument es j e → es ≡ More d None → (j ≡ 0) × (e ≡ d)
sole_argument _ _ _ d head same = (refl, cc)
sole_argument _ _ _ d (tail {a = a} {es = es} {j = j} w) same = absurd (no_argument es j a w cc)

-- The rank of a flow of the main node, by its site, and of a flow of the node of a call.
abbrev pub site_rank : ℕ → ℕ → ℕ
site_rank n zero = 0
site_rank n (suc zero) = 3 * n + 4
site_rank n (suc (suc zero)) = 1
site_rank n (suc (suc (suc i))) = 3 * i + 3

abbrev pub rank : ℕ → Sites → ℕ
rank n [] = 0
rank n (s ∷ []) = site_rank n s
rank n (s ∷ j ∷ rest) = 3 * (s - (n + 4)) + 1 + j

module _ (o : Offsets) (n : ℕ) (few : n < 2 ^ 64) where
  -- the made program with n calls
  abbrev p : ProgramTree
  p = chain_program o n

  -- its main node
  abbrev main : NodeTree
  main = main_node o n

  -- what holds of each right side of the main node
  pub each_right : (P : Identifier → Right → Type 0) → P (codes "seen") (Body (seen_equation o.main (n + 3)).right)
      → ((i : ℕ) → i < n → P (link_name (suc i)) (Body (call_equation o (n + 4) i).right)) → P (codes "ok") (Body (ok_equation o.main n).right)
      → (x : Identifier) (r : Right) → IsRight main x r → P x r
  each_right P first call last x _ (alone q w e) = each_equation o n (λ q. texts q.lefts ≡ x ∷ [] → P x (Body q.right))
      (λ e. subst (λ y. P y (Body (seen_equation o.main (n + 3)).right)) (sole_name (codes "seen") x e) first)
      (λ i lt e. subst (λ y. P y (Body (call_equation o (n + 4) i).right)) (sole_name (link_name (suc i)) x e) (call i lt))
      (λ e. subst (λ y. P y (Body (ok_equation o.main n).right)) (sole_name (codes "ok") x e) last) q w e
    where
      sole_name : (x y : Identifier) → x ∷ [] ≡ y ∷ [] → x ≡ y
      sole_name x y e = cc
  each_right P first call last x _ (in_order q at site f args j w e several lt is) =
      absurd (each_equation o n (λ q. 1 < length q.lefts → ⊥) (λ h. omega (arith, h)) (λ i lt h. omega (arith, h)) (λ h. omega (arith, h)) q w several)

  -- and of that of the node of a call
  pub link_right : (P : Right → Type 0) → P (Body (delayed o.link 4 2 (codes "a"))) → (x : Identifier) (r : Right) → IsRight (link_node o.link) x r → P r
  link_right P only x _ (alone q w e) = subst (λ (q : EquationTree). P (Body q.right))
      (only_one (equation (o.link 3) (codes "b") (delayed o.link 4 2 (codes "a"))) q w) only
  link_right P only x _ (in_order q at site f args j w e several lt is) =
      absurd (subst (λ (q : EquationTree). 1 < length q.lefts → ⊥) (only_one (equation (o.link 3) (codes "b") (delayed o.link 4 2 (codes "a"))) q w)
      (λ h. omega (arith, h)) several)

  -- the instance of the main node
  abbrev pub copy : Instance
  copy = main_copy o n

  -- the needs of an expression of the main node, on a clock
  abbrev main_needs : Clock → Tree → List Sites
  main_needs k e = needs p copy k e

  -- What the right sides of the main node need: the flow that a call takes or gives is there, and on the base clock.
  named_needs : (at i : ℕ) → i ≤ n → main_needs Base (flow_read at (link_name i)) ≡ (link_site i ∷ []) ∷ []
  named_needs at i le =
      ap (λ b. cond b ((site_of main (link_name i) ∷ []) ∷ []) []) (flow_there o n i le)
      ∙ ap (λ (s : ℕ). (s ∷ []) ∷ []) (flow_site o n few i le)

  pub seen_needs : (k : Clock) → needs_of_right p copy k (Body (seen_equation o.main (n + 3)).right) ≡ (0 ∷ []) ∷ []
  seen_needs k = refl

  pub call_needs : (i : ℕ) → i < n → (k : Clock) → needs_of_right p copy k (Body (call_equation o (n + 4) i).right) ≡ (((n + 4) + i) ∷ 1 ∷ []) ∷ []
  call_needs i lt k = ap (λ (q : Pace). main_needs (taken k (grounded (meet (seen q) Free))) (call_equation o (n + 4) i).right)
      (link_pace o n i (omega (arith, lt)))

  pub ok_needs : (k : Clock) → needs_of_right p copy k (Body (ok_equation o.main n).right) ≡ (link_site n ∷ []) ∷ (2 ∷ []) ∷ []
  ok_needs k =
      ap (λ (q : Pace). main_needs (taken k (meet (seen (seen q)) (At Base))) (ok_equation o.main n).right) (link_pace o n n (omega arith))
      ∙ ap (λ (ps : List Sites). ps ++ (2 ∷ []) ∷ []) (named_needs (o.main 14) n (omega arith))

  pub argument_needs : (k : ℕ) → k < n
      → needs_of_right p copy (clock_of_arguments copy (link_call o n k).args) (Body (flow_read (o.argument k) (link_name k))) ≡ (link_site k ∷ []) ∷ []
  argument_needs k lt =
      let le : k ≤ n = omega (arith, lt) in
      ap (λ (q : Pace). main_needs (taken (taken Base (meet (seen q) Free)) q) (flow_read (o.argument k) (link_name k))) (link_pace o n k le)
      ∙ named_needs (o.argument k) k le

  pub link_needs : (i : ℕ) (k : Clock) → needs_of_right p (link_copy o n i) k (Body (delayed o.link 4 2 (codes "a"))) ≡ []
  link_needs i k = refl

  -- the ranks of what a call takes and gives
  low_link : (i : ℕ) → site_rank n (link_site i) < 3 * i + 1
  low_link zero = omega arith
  low_link (suc i) = omega arith

  -- all of these places have lower ranks
  abbrev Lowers : Sites → List Sites → Type 0
  Lowers a bs = (b : Sites) → Contains bs b → rank n b < rank n a

  one_lower : (a c : Sites) (bs : List Sites) → bs ≡ c ∷ [] → rank n c < rank n a → Lowers a bs
  one_lower a c bs e lt b w = subst (λ d. rank n d < rank n a) (only_one c b (subst (λ cs. Contains cs b) e w)) lt

  two_lower : (a c d : Sites) (bs : List Sites) → bs ≡ c ∷ d ∷ [] → rank n c < rank n a → rank n d < rank n a → Lowers a bs
  two_lower a c d bs e first second b w = elim (cons_cases c (d ∷ []) b (subst (λ cs. Contains cs b) e w)) [
    | inl is ↦ subst (λ d. rank n d < rank n a) is first
    | inr v ↦ subst (λ d. rank n d < rank n a) (only_one d b v) second
  ]

  -- what the equations of the main node need, by the place of the flow
  main_lower : (x : Identifier) (r : Right) → IsRight main x r → (k : Clock) → Lowers (place copy x) (needs_of_right p copy k r)
  main_lower = each_right (λ x r. (k : Clock) → Lowers (place copy x) (needs_of_right p copy k r))
      (λ k. one_lower (2 ∷ []) (0 ∷ []) (needs_of_right p copy k (Body (seen_equation o.main (n + 3)).right)) (seen_needs k) (omega arith))
      (λ i lt k. subst (λ s. Lowers (s ∷ []) (needs_of_right p copy k (Body (call_equation o (n + 4) i).right))) (sym (flow_site o n few (suc i) lt))
      (one_lower (suc (suc (suc i)) ∷ []) (((n + 4) + i) ∷ 1 ∷ []) (needs_of_right p copy k (Body (call_equation o (n + 4) i).right)) (call_needs i lt k)
      (omega arith)))
      (λ k. two_lower (1 ∷ []) (link_site n ∷ []) (2 ∷ []) (needs_of_right p copy k (Body (ok_equation o.main n).right)) (ok_needs k)
      (let low = low_link n in omega (arith, low)) (omega arith))

  link_lower : (a : Sites) (i : ℕ) (x : Identifier) (r : Right) → IsRight (link_node o.link) x r → (k : Clock)
      → Lowers a (needs_of_right p (link_copy o n i) k r)
  link_lower a i = link_right (λ r. (k : Clock) → Lowers a (needs_of_right p (link_copy o n i) k r)) (λ k b w. nothing_in b w)

  -- what the arguments of its calls need
  call_lower : (c : CallTree) → Contains (calls main) c → (j : ℕ) (e : Tree) → IsArgument c.args j e
      → Lowers ([] ++ c.site ∷ j ∷ []) (needs_of_right p copy (clock_of_arguments copy c.args) (Body e))
  call_lower = each_call o n
      (λ c. (j : ℕ) (e : Tree) → IsArgument c.args j e → Lowers ([] ++ c.site ∷ j ∷ []) (needs_of_right p copy (clock_of_arguments copy c.args) (Body e)))
      (λ k lt j e w.
      let is = sole_argument (link_call o n k).args j e (flow_read (o.argument k) (link_name k)) w refl in
      subst (λ j. Lowers (((n + 4) + k) ∷ j ∷ []) (needs_of_right p copy (clock_of_arguments copy (link_call o n k).args) (Body e))) (sym is.0)
      (subst (λ e. Lowers (((n + 4) + k) ∷ 0 ∷ []) (needs_of_right p copy (clock_of_arguments copy (link_call o n k).args) (Body e))) (sym is.1)
      (one_lower (((n + 4) + k) ∷ 0 ∷ []) (link_site k ∷ [])
      (needs_of_right p copy (clock_of_arguments copy (link_call o n k).args) (Body (flow_read (o.argument k) (link_name k))))
      (argument_needs k lt) (let low = low_link k in omega (arith, low)))))

  -- The same of each instance.
  right_lower : (i : Instance) → IsInstance p (codes "main") i → (x : Identifier) (r : Right) → IsRight i.node x r
      → Lowers (place i x) (needs_of_right p i (clock_of i.node x) r)
  right_lower i is x r w = elim (made o n i is) [
    | inl e ↦ subst (λ (i : Instance). IsRight i.node x r → Lowers (place i x) (needs_of_right p i (clock_of i.node x) r)) (sym e)
        (λ v. main_lower x r v (clock_of main x)) w
    | inr l ↦ subst (λ (i : Instance). IsRight i.node x r → Lowers (place i x) (needs_of_right p i (clock_of i.node x) r)) (sym l.2)
        (λ v. link_lower (place (link_copy o n l.0) x) l.0 x r v (clock_of (link_node o.link) x)) w
  ]

  argument_lower : (i : Instance) → IsInstance p (codes "main") i → (c : CallTree) (j : ℕ) (e : Tree) → Contains (calls i.node) c → IsArgument c.args j e
      → Lowers (i.path ++ c.site ∷ j ∷ []) (needs_of_right p i (clock_of_arguments i c.args) (Body e))
  argument_lower i is c j e w arg = elim (made o n i is) [
    | inl same ↦ subst (λ (i : Instance). Contains (calls i.node) c → Lowers (i.path ++ c.site ∷ j ∷ [])
        (needs_of_right p i (clock_of_arguments i c.args) (Body e))) (sym same)
        (λ v. call_lower c v j e arg) w
    | inr l ↦ nothing_in c (subst (λ (i : Instance). Contains (calls i.node) c) l.2 w)
  ]

  lowers : (a : Sites) (g : Giver) → Gives p (codes "main") a g → Lowers a (needs_of p g)
  lowers a _ (given j lt at) = λ b w. nothing_in b w
  lowers a _ (by_equation i x r is w at) = subst (λ a. Lowers a (needs_of_right p i (clock_of i.node x) r)) at (right_lower i is x r w)
  lowers a _ (by_call i c j e is w arg at) = subst (λ a. Lowers a (needs_of_right p i (clock_of_arguments i c.args) (Body e))) at
      (argument_lower i is c j e w arg)

  leads_down : (ps : List Sites) (a b : Sites) → Leads p (codes "main") a ps b → rank n b < rank n a
  leads_down [] a b w = lowers a w.0 w.1 b w.2
  leads_down (r ∷ rs) a b w =
      let first = lowers a w.0.0 w.0.1 r w.0.2 in
      let rest = leads_down rs r b w.1 in
      omega (arith, first, rest)

  pub no_cycle : (ps : List Sites) → IsCycle p (codes "main") ps → ⊥
  no_cycle [] cycle = cycle
  no_cycle (a ∷ ps) cycle = let down = leads_down ps a a cycle in omega (arith, down)
