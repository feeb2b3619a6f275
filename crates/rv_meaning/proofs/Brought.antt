-- A history brings a state to each instant, where each `pre` and `current` of a node has a site of its own. Without that
-- two memories with different values could have one place, and no state would hold both. There is a state after each row.
use Rattle.std.proofs.Common.{◌≡◌, ℕ, cond, refl, ap, ◌||◌, None as Nothing}
use Rattle.std.specs.List.{Contains}
use Rattle.rv_base.specs.declared.value.Value.{Value}
use Rattle.rv_tree.specs.{Tree.Node, Tree.Named, Tree.NodeTree, Tree.ProgramTree, Places.Identifier, Places.Sites, Delays.Delay, Delays.IsNumbered}
use Rattle.rv_types.specs.Instances.{Instance, clock_in, main_instance, IsNode}
use Rattle.rv_types.specs.{declared.typed.Clock.TheVariants.Base, WellFormed.AreWell}
use Rattle.rv_meaning.specs.Meaning.{Cells, was_there, last_before, kept_place, content}
use Rattle.rv_meaning.specs.{Runs.Instant, Instants.State, Instants.is_on_in, Instants.now, Instants.IsNext, Following.held_before, Following.IsStateAt}
use Rattle.rv_meaning.proofs.{States.IsName, Holding.held_at, Holding.holds}

module _ (program : ProgramTree) (starts : Sites → Value) (h : Cells) (t : ℕ) where
  -- what the memory at a place of a flow's name holds
  abbrev of_name : Instance → Identifier → Sites → Value
  of_name i x p = last_before h (clock_in i Base (Node 0 Nothing (Named x))) (content program starts h i (Node 0 Nothing (Named x))) (starts p) t

  abbrev held : Instance → Delay → Value
  held i d = held_before program starts h i d t

  -- it is what a `pre` or `current` of the flow holds
  pub is_of_name : (i : Instance) (d : Delay) (x : Identifier) → IsName i.node d.operand x → held i d ≡ of_name i x (kept_place i d.site d.operand)
  is_of_name i d x w = ap (λ e. last_before h (clock_in i Base e) (content program starts h i e) (starts (kept_place i d.site d.operand)) t) w.2

  module _ (main : Identifier) (well : AreWell program) (named : IsNode program main) where
    -- what a history brings to the instant
    abbrev pub state_at : State
    state_at = record { ticked = λ k. was_there h k t; kept = λ p. held_at program held of_name is_of_name p (main_instance program main) }

    -- is a state of it, where the sites are numbered
    pub is_state_at : ((n : NodeTree) → Contains program.nodes n → IsNumbered n) → IsStateAt program main starts h t state_at
    is_state_at numbered = record { ticks = λ k. refl; memories = λ i d inst w. holds program held of_name is_of_name main well named numbered i d inst w }

module _ (program : ProgramTree) (main : Identifier) (state : State) (row : Instant) where
  -- what a memory takes after the row
  abbrev taken_after : Instance → Delay → Value
  taken_after i d = cond (is_on_in row (clock_in i Base d.operand)) (now program state row i d.operand) (state.kept (kept_place i d.site d.operand))

  abbrev taken_of_name : Instance → Identifier → Sites → Value
  taken_of_name i x p = cond (is_on_in row (clock_in i Base (Node 0 Nothing (Named x)))) (now program state row i (Node 0 Nothing (Named x))) (state.kept p)

  pub is_taken_of_name : (i : Instance) (d : Delay) (x : Identifier) → IsName i.node d.operand x
      → taken_after i d ≡ taken_of_name i x (kept_place i d.site d.operand)
  is_taken_of_name i d x w = ap (λ e. cond (is_on_in row (clock_in i Base e)) (now program state row i e) (state.kept (kept_place i d.site d.operand))) w.2

  -- There is a state after each row.
  pub a_next : AreWell program → IsNode program main → (next : State) × IsNext program main state row next
  a_next well named = (
    record {
      ticked = λ k. state.ticked k || is_on_in row k;
      kept = λ p. held_at program taken_after taken_of_name is_taken_of_name p (main_instance program main);
    },
    record {
      ticks = λ k. refl;
      memories = λ i d inst w. holds program taken_after taken_of_name is_taken_of_name main well named well.numbered i d inst w;
    },
  )
