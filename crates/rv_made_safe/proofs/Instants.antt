-- What the flows have at the instants of a run.
use Rattle.std.proofs.Common.{arith, ◌≡◌, ℕ, suc, ◌+◌, ◌<◌, ◌≤◌, [], ◌∷◌, ◌∙◌, ap, subst, Bool, false, cond, not, ◌||◌}
use Rattle.std.specs.{Prelude.codes, Prelude.Some, Prelude.Option, Prelude.None as Nothing, List.Contains}
use Rattle.rv_base.specs.{declared.value.Value.Value, declared.value.Value.TheVariants.Flag}
use Rattle.rv_tree.specs.{Tree.Tree, Tree.More, Tree.None, Tree.ProgramTree, Places.Sites, Places.site_of}
use Rattle.rv_types.specs.Instances.{CallTree, calls, Body, head, clock_of, clock_in, clock_of_arguments, absolute, taken, Instance, place, callee}
use Rattle.rv_types.specs.Instances.{main_instance, is_main, is_callee}
use Rattle.rv_types.specs.{declared.fault.Pace.TheVariants.Free, declared.fault.Pace.TheVariants.At, Clocks.clock_at, Clocks.name_pace, Clocks.meet}
use Rattle.rv_types.specs.{Clocks.seen, Clocks.grounded, declared.typed.Clock.Clock, declared.typed.Clock.TheVariants.Base, Scopes.constant_value}
use Rattle.rv_meaning.specs.Meaning.{Cells, is_true, held, is_there, content, value, right_value}
use Rattle.rv_meaning.specs.Runs.{History, cells, IsRun}
use Rattle.rv_meaning.proofs.CallParts.{call_of_equation}
use Rattle.rv_make.specs.Made.{link_name}
use Rattle.rv_make.specs.Chains.{Offsets, flow_read, delayed, link_node, main_node, seen_equation, ok_equation, chain_program}
use Rattle.rv_made_safe.proofs.Equations.{call_tree, call_equation, call_in_main, seen_right, call_right, ok_right, link_right}
use Rattle.rv_made_safe.proofs.Flows.{is_flow-link_name, clock_at-main}
use Rattle.rv_types.proofs.Members.{at_head}

-- whether a flow has true
abbrev pub truth : Cells → ℕ → Sites → Bool
truth h t p = is_true (held (h t p))

-- the instance of the main node
abbrev pub main_of : Offsets → ℕ → Instance
main_of o n = main_instance (chain_program o n) (codes "main")

-- the place of the flow that the call with this number gives, and of the input for number 0
abbrev pub link_place : Offsets → ℕ → ℕ → Sites
link_place o n i = place (main_of o n) (link_name i)

-- the place of what has been seen
abbrev pub seen_place : Offsets → ℕ → Sites
seen_place o n = place (main_of o n) (codes "seen")

-- the call after this many
abbrev call_after : Offsets → ℕ → ℕ → CallTree
call_after o n i = record { at = o.call i; site = n + 4 + i; name = codes "link"; args = More (flow_read (o.argument i) (link_name i)) None }

-- its instance, with this base clock
abbrev link_of : Offsets → ℕ → ℕ → Option Sites → Instance
link_of o n i base = record { path = (n + 4 + i) ∷ []; node = link_node o.link; base = base }

-- the places of its input and its output
abbrev input_place : ℕ → ℕ → Sites
input_place n i = (n + 4 + i) ∷ 0 ∷ []

abbrev output_place : ℕ → ℕ → Sites
output_place n i = (n + 4 + i) ∷ 1 ∷ []

-- what the equation of the node `link` gives
abbrev link_form : Offsets → Tree
link_form o = delayed o.link 4 2 (codes "a")

module _ (o : Offsets) (n : ℕ) where
  -- the flows of the calls are on the base clock
  pace_of_link : (i : ℕ) → i ≤ n → name_pace (main_node o n) (link_name i) ≡ At Base
  pace_of_link i h =
      let s = site_of (main_node o n) (link_name i) in
      ap (λ b. cond b (At (clock_at (main_node o n) s)) Free) (is_flow-link_name o n i h) ∙ ap At (clock_at-main o n s)

  -- so is the instance of each call
  base_of_call : (i : ℕ) → i ≤ n → absolute (main_of o n) (clock_of_arguments (main_of o n) (call_after o n i).args) ≡ Nothing
  base_of_call i h = ap (λ p. absolute (main_of o n) (taken Base (meet (seen p) Free))) (pace_of_link i h)

  -- each call stands in the main node
  call_known : (i : ℕ) → i < n → Contains (calls (main_node o n)) (call_after o n i)
  call_known i h =
      call_of_equation (main_node o n) (call_equation o (n + 4) i) (call_after o n i) (call_in_main o n i h) (at_head (call_after o n i) [])

-- what an expression has that is on main's base clock
on_base : (program : ProgramTree) (starts : Sites → Value) (h : Cells) (i : Instance) (k : Clock) (e : Tree) (t : ℕ)
    → clock_in i k e ≡ Nothing → value program starts h i k e t ≡ Some (content program starts h i e t)
on_base program starts h i k e t is = ap (λ q. cond (is_there h q t) (Some (content program starts h i e t)) Nothing) is

module _ (o : Offsets) (n : ℕ) (starts : Sites → Value) (inputs : ℕ → ℕ → Value) (count : ℕ) (h : History)
    (run : IsRun (chain_program o n) (codes "main") starts inputs count h) where
  -- At the first instant the input has been true where it is,
  pub seen_first : 0 < count → truth (cells h) 0 (seen_place o n) ≡ (truth (cells h) 0 (link_place o n 0) || false)
  seen_first within =
      let e = (seen_equation o.main (n + 3)).right in
      ap (λ v. is_true (held v)) (run.equations 0 (main_of o n) (codes "seen") (Body e) within is_main (seen_right o n))

  -- and later where it is, or has been before.
  pub seen_later : (t : ℕ) → suc t < count
      → truth (cells h) (suc t) (seen_place o n) ≡ (truth (cells h) (suc t) (link_place o n 0) || truth (cells h) t (seen_place o n))
  seen_later t within =
      let e = (seen_equation o.main (n + 3)).right in
      ap (λ v. is_true (held v)) (run.equations (suc t) (main_of o n) (codes "seen") (Body e) within is_main (seen_right o n))

  -- what the observer has
  pub observer_at : (t : ℕ) → t < count
      → cells h t (place (main_of o n) (codes "ok")) ≡ Some (Flag (not (truth (cells h) t (link_place o n n)) || truth (cells h) t (seen_place o n)))
  observer_at t within =
      let e = (ok_equation o.main n).right in
      let last = held (cells h t (link_place o n n)) in
      let been = truth (cells h) t (seen_place o n) in
      let clock = ap (λ p. absolute (main_of o n) (taken Base (meet (seen (seen p)) (At Base)))) (pace_of_link o n n (omega arith)) in
      run.equations t (main_of o n) (codes "ok") (Body e) within is_main (ok_right o n)
      ∙ on_base (chain_program o n) starts (cells h) (main_of o n) (clock_of (main_node o n) (codes "ok")) e t clock
      ∙ ap (λ b. Some (Flag (not (is_true (cond b last (constant_value (chain_program o n) (link_name n)))) || been))) (is_flow-link_name o n n (omega arith))

  -- the input of a call
  input_at : (i t : ℕ) → i < n → t < count → cells h t (input_place n i) ≡ Some (held (cells h t (link_place o n i)))
  input_at i t less within =
      let e = flow_read (o.argument i) (link_name i) in
      let k = clock_of_arguments (main_of o n) (call_after o n i).args in
      let before = held (cells h t (link_place o n i)) in
      let clock = ap (λ p. absolute (main_of o n) (taken k p)) (pace_of_link o n i (omega arith)) in
      run.arguments t (main_of o n) (call_after o n i) 0 e within is_main (call_known o n i less) head
      ∙ on_base (chain_program o n) starts (cells h) (main_of o n) k e t clock
      ∙ ap (λ b. Some (cond b before (constant_value (chain_program o n) (link_name i)))) (is_flow-link_name o n i (omega arith))

  -- its output, by the equation of the node `link`
  output_at : (i t : ℕ) → i < n → t < count
      → cells h t (output_place n i) ≡ right_value (chain_program o n) starts (cells h) (link_of o n i Nothing) Base (Body (link_form o)) t
  output_at i t less within =
      let called = callee (chain_program o n) (main_of o n) (call_after o n i) in
      let inside = is_callee (call_after o n i) is_main (call_known o n i less) in
      let equation = run.equations t called (codes "b") (Body (link_form o)) within inside (link_right o.link) in
      subst (λ base. cells h t (output_place n i) ≡ right_value (chain_program o n) starts (cells h) (link_of o n i base) Base (Body (link_form o)) t)
      (base_of_call o n i (omega arith)) equation

  -- what it gives is its output
  given_at : (i t : ℕ) → i < n → t < count → cells h t (link_place o n (suc i)) ≡ Some (held (cells h t (output_place n i)))
  given_at i t less within =
      let e = call_tree o (n + 4) i in
      let k = clock_of (main_node o n) (link_name (suc i)) in
      let clock = ap (λ p. absolute (main_of o n) (taken k (grounded (meet (seen p) Free)))) (pace_of_link o n i (omega arith)) in
      run.equations t (main_of o n) (link_name (suc i)) (Body e) within is_main (call_right o n i less)
      ∙ on_base (chain_program o n) starts (cells h) (main_of o n) k e t clock

  -- At the first instant a call gives false,
  pub link_first : (i : ℕ) → i < n → 0 < count → truth (cells h) 0 (link_place o n (suc i)) ≡ false
  link_first i less within = ap (λ v. is_true (held v)) (given_at i 0 less within) ∙ ap (λ v. is_true (held v)) (output_at i 0 less within)

  -- and later what it was given at the instant before.
  pub link_later : (i t : ℕ) → i < n → suc t < count → truth (cells h) (suc t) (link_place o n (suc i)) ≡ truth (cells h) t (link_place o n i)
  link_later i t less within = ap (λ v. is_true (held v)) (given_at i (suc t) less within)
      ∙ ap (λ v. is_true (held v)) (output_at i (suc t) less within)
      ∙ ap (λ v. is_true (held v)) (input_at i t less (omega arith))
