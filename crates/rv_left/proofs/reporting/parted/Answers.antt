use Rattle.std.proofs.Common.{◌≡◌, ◌<◌, ◌*◌, ◌∙◌, ℕ, List, length, get_or, sym, subst, arith}
use Rattle.rv_proofs.specs.Systems.{System}
use Rattle.rv_split.specs.Partitions.{AreBelow, IsStateSet}
use Rattle.rv_left.specs.Reports.{IsStateList}
use Rattle.rv_left.proofs.Bridging.{states_rise, states_below, set_of_control, parted_made}
use Rattle.rv_left.proofs.reporting.parted.Goals as goal

list_of : (s : System) (state : List ℕ) (bits : ℕ) → bits ≡ s.states → length state ≡ bits → ((i : ℕ) → i < bits → get_or state i 0 ≡ 2 * i)
    → IsStateList s state
list_of s state bits is size each = record { size = size ∙ is; each = λ i low. each i (omega (arith, low, is)) }

pub state_bits-bits-requires : goal.state_bits-bits-requires
state_bits-bits-requires c = (c.requires.given.0, c.args.store.now, c.requires.given.1)

pub state_variables-requires : goal.state_variables-requires
state_variables-requires c =
    omega (arith, c.state_bits-bits.ensures, c.requires.given.1.laid_out.refs.copies, c.requires.given.1.laid_out.few)

pub by_modes-requires-clause-rising : goal.by_modes-requires-clause-rising
by_modes-requires-clause-rising c =
    states_rise c.requires.given.0 c.in_ok-state.state (list_of c.requires.given.0 c.in_ok-state.state c.state_bits-bits.result
    (c.state_bits-bits.ensures ∙ c.requires.given.1.parts.states) c.in_ok-state.ensures.size c.in_ok-state.ensures.each)

pub by_modes-requires-clause-below : goal.by_modes-requires-clause-below
by_modes-requires-clause-below c =
    subst (λ (m : ℕ). AreBelow m c.in_ok-state.state) (sym c.requires.given.1.parts.variables)
    (states_below c.requires.given.0 c.in_ok-state.state (list_of c.requires.given.0 c.in_ok-state.state c.state_bits-bits.result
    (c.state_bits-bits.ensures ∙ c.requires.given.1.parts.states) c.in_ok-state.ensures.size c.in_ok-state.ensures.each)
    c.requires.given.1.system)

pub by_modes-requires-clause-reached : goal.by_modes-requires-clause-reached
by_modes-requires-clause-reached c =
    subst (λ (m : ℕ). IsStateSet m c.in_ok-state.state c.args.reached.now) (sym c.requires.given.1.parts.variables)
    (set_of_control c.requires.given.0 c.in_ok-state.state (list_of c.requires.given.0 c.in_ok-state.state c.state_bits-bits.result
    (c.state_bits-bits.ensures ∙ c.requires.given.1.parts.states) c.in_ok-state.ensures.size c.in_ok-state.ensures.each)
    c.args.reached.now c.requires.given.2)

pub returns-clause-parted : goal.returns-clause-parted
returns-clause-parted c s is control =
    parted_made s c.args.limit c.args.store.now.variables c.args.reached.now c.in_ok-state.state c.in_ok-partition.partition is.parts.variables
    (list_of s c.in_ok-state.state c.state_bits-bits.result (c.state_bits-bits.ensures ∙ is.parts.states) c.in_ok-state.ensures.size
    c.in_ok-state.ensures.each)
    c.in_ok-partition.ensures.partition c.in_ok-partition.ensures.union c.in_ok-partition.ensures.state c.in_ok-partition.ensures.limit
