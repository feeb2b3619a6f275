-- The memories of the states of a run have values of their types.
use Rattle.std.proofs.Common.{◌≡◌, ℕ, zero, suc, ◌+◌, ◌≤◌, List, get_or, sym, subst, arith}
use Rattle.std.specs.FinMap as map
use Rattle.rv_base.specs.declared.value.Value.{Value}
use Rattle.rv_tree.specs.{Tree.ProgramTree, Places.Identifier, Places.Sites}
use Rattle.rv_types.specs.{Values.HasKind, Values.operand_kind, Instances.IsNode, Needs.IsSequence, WellFormed.AreWell}
use Rattle.rv_meaning.specs.{Runs.History, Runs.cells, Runs.AreStarts, Runs.IsRun, Instants.State, Following.IsStateAt}
use Rattle.rv_meaning.proofs.{Acceptable.formed, Following.instant_of_run, Steps.next_state, Brought.state_at, Brought.is_state_at, TypedFlows.typed_next}

module _ (program : ProgramTree) (main : Identifier) (well : AreWell program) (is_node : IsNode program main) (sequence : List Sites)
    (ordered : IsSequence program main sequence) (starts : Sites → Value) (inputs : ℕ → ℕ → Value) (n : ℕ) (h : History)
    (run : IsRun program main starts inputs n h) where
  -- at the first instant they are the start values, and at each later one each memory has a value of its type
  pub typed_at : (t : ℕ) → t ≤ n → (state : State) → IsStateAt program main starts (cells h) t state → AreStarts program main state.kept
  typed_at zero le state at = λ i d inst w.
      subst (HasKind program (operand_kind program i.node d.operand)) (sym (at.memories i d inst w)) (run.starts_typed i d inst w)
  typed_at (suc t) le state at =
      let before : State = state_at program starts (cells h) t main well is_node in
      let is_before = is_state_at program starts (cells h) t main well is_node well.numbered in
      let next : suc t ≡ t + 1 = omega arith in
      let after = next_state program main starts h t before state is_before (subst (λ u. IsStateAt program main starts (cells h) u state) next at) in
      typed_next program main well is_node before (inputs t) (get_or h t map.empty) (typed_at t (omega arith) before is_before)
      (λ j k is. run.inputs_typed t j k (omega arith) is) (instant_of_run program main starts inputs h t before is_before n run (omega arith))
      sequence ordered (λ i d inst w. (formed program main well is_node i inst).delay_clock d w) state after
