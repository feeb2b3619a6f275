-- Each quantity of a made program is within its limit.
use Rattle.std.proofs.Common.{◌≡◌, ℕ, zero, suc, ◌+◌, ◌*◌, ◌≤◌, inl, inr, Bool, true, false, cond, List, [], ◌∷◌, ◌++◌, length, refl, ◌∙◌, ap, arith, Some}
use Rattle.std.proofs.Common.{None as Nothing}
use Rattle.std.proofs.lemmas.List.{append-nil}
use Rattle.std.specs.{Prelude.codes, List.Contains, List.flat_map}
use Rattle.rv_tree.specs.Tree.{Tree, Node, Not, EquationTree, NodeTree, ProgramTree}
use Rattle.rv_tree.specs.{Places.Sites, Delays.Delay, Delays.delays, Delays.delays_in_equations, Delays.node_delays}
use Rattle.rv_types.specs.Variables.{total, is_integer, memories_beside, kind_bits, memory_bits, order_tests, own_tests, parts, node_parts, arrow_clocks}
use Rattle.rv_types.specs.Variables.{is_arrow, different, ticks, over_instances, variable_count}
use Rattle.rv_types.specs.{declared.typed.Clock.TheVariants.Base, Values.operand_kind, Instances.Instance, Instances.clock_in, Instances.all_instances}
use Rattle.rv_instances.specs.Counts.{size, node_size, integer_memories, instance_count, expanded}
use Rattle.rv_sizes.specs.Sizes.{measures, AreWithin}
use Rattle.rv_make.specs.Made.{link_name}
use Rattle.rv_make.specs.Chains.{Offsets, flow_read, seen_equation, ok_equation, link_calls, main_node, chain_program}
use Rattle.rv_made_order.proofs.{Lists.both_none, Lists.none_of_each, Lists.total_flat, Lists.length_total, Program.call_equation, Program.each_later}
use Rattle.rv_made_order.proofs.{Program.each_equation, Instances.main_copy, Instances.over_all, Instances.listed_made}
use Rattle.rv_types.proofs.{Members.in_tail, RightNames.both_empty, DifferentPlaces.total_append}

delays_none : (qs : List EquationTree) → ((q : EquationTree) → Contains qs q → delays q.right ≡ []) → delays_in_equations qs ≡ []
delays_none qs each = joined qs ∙ none_of_each (λ (q : EquationTree). delays q.right) qs each
  where
    joined : (qs : List EquationTree) → delays_in_equations qs ≡ flat_map (λ (q : EquationTree). delays q.right) qs
    joined [] = refl
    joined (q ∷ qs) = ap (λ ds. delays q.right ++ ds) (joined qs)

-- the flow of the clock of an expression that is a `->`
abbrev own_arrow : Instance → Tree → List Sites
own_arrow i e = cond (is_arrow e) (elim (clock_in i Base e) as (λ _. List Sites) [ Nothing ↦ [] | Some p ↦ p ∷ [] ]) []

arrows_append : (i : Instance) (xs ys : List Tree) → arrow_clocks i xs ≡ [] → arrow_clocks i ys ≡ [] → arrow_clocks i (xs ++ ys) ≡ []
arrows_append i [] ys first rest = rest
arrows_append i (x ∷ xs) ys first rest =
    let s = both_empty (own_arrow i x) (arrow_clocks i xs) first in
    both_none (own_arrow i x) (arrow_clocks i (xs ++ ys)) s.0 (arrows_append i xs ys s.1 rest)

arrows_flat : {X : Type 0} (i : Instance) (f : X → List Tree) (xs : List X) → ((x : X) → Contains xs x → arrow_clocks i (f x) ≡ [])
    → arrow_clocks i (flat_map f xs) ≡ []
arrows_flat i f [] each = refl
arrows_flat i f (x ∷ xs) each = arrows_append i (f x) (flat_map f xs) (each x (0, omega arith, refl)) (arrows_flat i f xs (λ y w. each y (in_tail x xs y w)))

module _ (o : Offsets) (n : ℕ) where
  -- the made program with n calls
  abbrev p : ProgramTree
  p = chain_program o n

  -- its main node
  abbrev main : NodeTree
  main = main_node o n

  -- The one memory of each node is that of its `pre`.
  main_delays : node_delays main ≡ delays (seen_equation o.main (n + 3)).right
  main_delays =
      append-nil (delays_in_equations main.equations)
      ∙ ap (λ ds. delays (seen_equation o.main (n + 3)).right ++ ds)
      (delays_none (link_calls o (n + 4) n ++ ok_equation o.main n ∷ []) (each_later o n (λ q. delays q.right ≡ []) (λ i lt. refl) refl))

  main_memory_bits : memory_bits p main ≡ 1
  main_memory_bits = ap (λ ds. total (λ (d : Delay). kind_bits p (operand_kind p main d.operand)) (memories_beside main [] ds)) main_delays

  main_integers : integer_memories p main ≡ 0
  main_integers = ap (λ ds. total (λ (d : Delay). cond (is_integer (operand_kind p main d.operand)) 1 0) (memories_beside main [] ds)) main_delays

  -- Nothing is compared.
  main_tests : order_tests p main ≡ 0
  main_tests =
      ap (total (own_tests p main)) (append-nil (flat_map (λ (q : EquationTree). parts q.right) main.equations))
      ∙ total_flat (own_tests p main) (λ (q : EquationTree). parts q.right) main.equations
      (each_equation o n (λ q. total (own_tests p main) (parts q.right) ≡ 0) refl (λ i lt. refl)
      (either (is_integer (operand_kind p main (Node (o.main 13) Nothing (Not (flow_read (o.main 14) (link_name n))))))))
    where
      either : (b : Bool) → cond b 0 0 + 0 ≡ 0
      either true = refl
      either false = refl

  -- the expressions of the calls
  calls_size : (first k : ℕ) → total (λ (q : EquationTree). size q.right) (link_calls o first k) ≡ 2 * k
  calls_size first zero = refl
  calls_size first (suc k) =
      let h = calls_size first k in
      let t = total_append (λ (q : EquationTree). size q.right) (link_calls o first k) (call_equation o first k ∷ []) in
      omega (arith, h, t)

  main_size : node_size main ≡ 2 * n + 10
  main_size =
      let h = calls_size (n + 4) n in
      let t = total_append (λ (q : EquationTree). size q.right) (link_calls o (n + 4) n) (ok_equation o.main n ∷ []) in
      omega (arith, h, t)

  -- Every `->` stands on the clock of the main node.
  main_arrows : arrow_clocks (main_copy o n) (node_parts main) ≡ []
  main_arrows =
      arrows_append (main_copy o n) (flat_map (λ (q : EquationTree). parts q.right) main.equations) []
      (arrows_flat (main_copy o n) (λ (q : EquationTree). parts q.right) main.equations
      (each_equation o n (λ q. arrow_clocks (main_copy o n) (parts q.right) ≡ []) refl (λ i lt. refl) refl)) refl

  no_ticks : ticks p (codes "main") ≡ []
  no_ticks = ap different
      (none_of_each (λ (i : Instance). arrow_clocks i (node_parts i.node)) (all_instances p (codes "main")) (λ i w. elim (listed_made o n i w) [
        | inl e ↦ ap (λ (i : Instance). arrow_clocks i (node_parts i.node)) e ∙ main_arrows
        | inr l ↦ ap (λ (i : Instance). arrow_clocks i (node_parts i.node)) l.2
      ]))

  instances : instance_count p (codes "main") ≡ n + 1
  instances = let l = length_total (all_instances p (codes "main")) in let h = over_all o n (λ m. 1) in omega (arith, l, h)

  expressions : expanded p (codes "main") ≡ 6 * n + 10
  expressions = let h = over_all o n node_size in let s = main_size in omega (arith, h, s)

  integers : over_instances p (codes "main") (integer_memories p) ≡ 0
  integers = let h = over_all o n (integer_memories p) in let z = main_integers in omega (arith, h, z)

  bits : over_instances p (codes "main") (memory_bits p) ≡ n + 1
  bits = let h = over_all o n (memory_bits p) in let one = main_memory_bits in omega (arith, h, one)

  tests : over_instances p (codes "main") (order_tests p) ≡ 0
  tests = let h = over_all o n (order_tests p) in let z = main_tests in omega (arith, h, z)

  variables : variable_count p (codes "main") ≡ 2 * n + 5
  variables = let t = ap length no_ticks in let b = bits in let z = tests in omega (arith, t, b, z)

  pub within : n ≤ 2000 → AreWithin (measures p (codes "main"))
  within few = (
    let h = instances in omega (arith, h, few),
    (
      let h = expressions in omega (arith, h, few),
      (
        let h = integers in omega (arith, h),
        (
          omega arith,
          (
            omega arith,
            (let h = variables in omega (arith, h, few), tt),
          ),
        ),
      ),
    ),
  )
