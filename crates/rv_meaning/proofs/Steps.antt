-- The states of a run, and rows that are instants at these states.
use Rattle.std.proofs.Common.{◌≡◌, ℕ, zero, suc, ◌+◌, ◌<◌, ◌≤◌, ◌↔◌, ◌||◌, cond, sym, ◌∙◌, subst, arith, get_or, add-one, length}
use Rattle.std.proofs.Math.Bool.{or_comm}
use Rattle.std.specs.FinMap.{empty}
use Rattle.rv_base.specs.declared.value.Value.{Value}
use Rattle.rv_tree.specs.{Tree.ProgramTree, Places.Identifier, Places.Sites}
use Rattle.rv_types.specs.{declared.typed.Clock.TheVariants.Base, Instances.absolute, Instances.clock_in, Instances.clock_of, Instances.clock_of_arguments}
use Rattle.rv_meaning.specs.{Meaning.is_there, Meaning.was_there, Runs.History, Runs.cells, Runs.AreStarts, Runs.AreInputs, Runs.IsRun, Instants.State}
use Rattle.rv_meaning.specs.{Instants.IsInstant, Instants.IsNext, Instants.IsStart, Following.IsStateAt, Following.AreSteps}
use Rattle.rv_meaning.proofs.Following.{followed, value_followed, right_followed}
use Rattle.rv_meaning.proofs.{OneInstant.on_there, Standing.argument_stands, Standing.operand_stands}

module _ (program : ProgramTree) (main : Identifier) (starts : Sites → Value) (h : History) where
  -- the state at the first instant is the start
  pub start_state : (state : State) → IsStateAt program main starts (cells h) 0 state ↔ IsStart program main starts state
  start_state state = (λ f. record { ticks = f.ticks; memories = f.memories }, λ s. record { ticks = s.ticks; memories = s.memories })

  module _ (t : ℕ) (state next : State) where
    -- of the states at an instant and at the one after it, the second is the next of the first
    after : IsStateAt program main starts (cells h) t state → IsStateAt program main starts (cells h) (suc t) next
        → IsNext program main state (get_or h t empty) next
    after f g = record {
      ticks = λ k. g.ticks k ∙ or_comm (is_there (cells h) k t) (was_there (cells h) k t) ∙ (λ j. sym (f.ticks k) j || on_there h t k j);
      memories = λ i d inst at.
          let mine = sym (f.memories i d inst at) in
          let is = followed program starts state h t f.ticks i d.operand (λ e inner. f.memories i e inst ((operand_stands i.node d at).delays e inner)) in
          g.memories i d inst at ∙ (λ j. cond (on_there h t (clock_in i Base d.operand) j) (is j) (mine j));
    }

    -- at the instant that is numbered as a sum
    pub next_state : IsStateAt program main starts (cells h) t state → IsStateAt program main starts (cells h) (t + 1) next
        → IsNext program main state (get_or h t empty) next
    next_state f g = after f (subst (λ s. IsStateAt program main starts (cells h) s next) (add-one t) g)

    -- and the next of a state of the history is its state at the next instant
    pub state_after : IsStateAt program main starts (cells h) t state → IsNext program main state (get_or h t empty) next
        → IsStateAt program main starts (cells h) (suc t) next
    state_after f g = record {
      ticks = λ k. g.ticks k ∙ (λ j. f.ticks k j || sym (on_there h t k) j) ∙ or_comm (was_there (cells h) k t) (is_there (cells h) k t);
      memories = λ i d inst at.
          let is = followed program starts state h t f.ticks i d.operand (λ e inner. f.memories i e inst ((operand_stands i.node d at).delays e inner)) in
          g.memories i d inst at ∙ (λ j. cond (sym (on_there h t (clock_in i Base d.operand)) j) (sym is j) (f.memories i d inst at j));
    }

module _ (program : ProgramTree) (main : Identifier) (starts : Sites → Value) (inputs : ℕ → ℕ → Value) (n : ℕ) (rows : History) (states : ℕ → State) where
  -- rows that are instants at the states of their history are a run
  pub run_of_instants : AreStarts program main starts → AreInputs program main n inputs → length rows ≡ n
      → ((t : ℕ) → t < n → IsStateAt program main starts (cells rows) t (states t))
      → ((t : ℕ) → t < n → IsInstant program main (states t) (inputs t) (get_or rows t empty))
      → IsRun program main starts inputs n rows
  run_of_instants starts_typed inputs_typed long at_states at_rows = record {
    starts_typed = starts_typed;
    inputs_typed = inputs_typed;
    history = record { instants = long; places = λ t p lt. (at_rows t lt).places p };
    given = λ t j lt less. (at_rows t lt).given j less;
    equations = λ t i x r lt inst right. let f = at_states t lt in
        (at_rows t lt).equations i x r inst right
        ∙ sym (right_followed program starts (states t) rows t f.ticks i x (clock_of i.node x) r right (λ d w. f.memories i d inst w));
    arguments = λ t i c j e lt inst at arg. let f = at_states t lt in
        (at_rows t lt).arguments i c j e inst at arg
        ∙ sym (value_followed program starts (states t) rows t f.ticks i (clock_of_arguments i c.args) e
        (λ d inner. f.memories i d inst ((argument_stands i.node c j e at arg).delays d inner)));
    clocks = λ t i x lt inst at.
        let there = (at_rows t lt).clocks i x inst at in
        let on = on_there rows t (absolute i (clock_of i.node x)) in (λ some. on ∙ there.0 some, λ yes. there.1 (sym on ∙ yes));
  }

  -- steps have the states of their history, that after the last row too
  pub states_of_steps : AreSteps program main starts inputs n states rows → (t : ℕ) → t ≤ n → IsStateAt program main starts (cells rows) t (states t)
  states_of_steps s zero le = (start_state program main starts rows (states 0)).1 s.start
  states_of_steps s (suc t) le =
      let next : IsNext program main (states t) (get_or rows t empty) (states (suc t)) =
      subst (λ u. IsNext program main (states t) (get_or rows t empty) (states u)) (add-one t) (s.next t (omega arith)) in
      state_after program main starts rows t (states t) (states (suc t)) (states_of_steps s t (omega arith)) next

  -- and are a run
  pub run_of_steps : AreStarts program main starts → AreInputs program main n inputs → AreSteps program main starts inputs n states rows
      → IsRun program main starts inputs n rows
  run_of_steps starts_typed inputs_typed s = run_of_instants starts_typed inputs_typed s.instants (λ t lt. states_of_steps s t (omega arith)) s.instant
