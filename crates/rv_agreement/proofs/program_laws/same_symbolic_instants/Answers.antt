use Rattle.std.proofs.Common.{map}
use Rattle.rv_agreement.proofs.ProgramAgreed.{agreeing, symbolic_at, symbolic_flat, one_of, agrees_places, agrees_flat, allowed_same, updated_same, leads_same}
use Rattle.rv_agreement.proofs.program_laws.same_symbolic_instants.Goals as goal

pub returns-clause-from_program : goal.returns-clause-from_program
returns-clause-from_program c = λ program main numbers s v cells well node system symbolic. (
  symbolic_flat program main numbers s system (c.defined_flows.ensures program main well node) v cells
      (agreeing program main numbers s system (c.defined_flows.ensures program main well node) cells symbolic.1) symbolic.0,
  (agreeing program main numbers s system (c.defined_flows.ensures program main well node) cells symbolic.1),
)

pub returns-clause-from_system : goal.returns-clause-from_system
returns-clause-from_system c = λ program main numbers s v row well node system instant.
    symbolic_at program main numbers s system (c.defined_flows.ensures program main well node) v row instant

pub returns-clause-one : goal.returns-clause-one
returns-clause-one c = λ program main numbers s v first second q well node system one other.
    one_of program main numbers s system (c.defined_flows.ensures program main well node) v first second one other q

pub returns-clause-points : goal.returns-clause-points
returns-clause-points c = λ program main numbers s v cells x well node system symbolic. (
  agrees_flat program main numbers s system (c.defined_flows.ensures program main well node) v (map cells numbers.flows) cells
      (agreeing program main numbers s system (c.defined_flows.ensures program main well node) cells symbolic.1) x,
  agrees_places program main numbers s system (c.defined_flows.ensures program main well node) v (map cells numbers.flows) cells
      (agreeing program main numbers s system (c.defined_flows.ensures program main well node) cells symbolic.1) x,
)

pub returns-clause-allowed : goal.returns-clause-allowed
returns-clause-allowed c = λ program main numbers s v cells well node system symbolic.
    allowed_same program main numbers s system (c.defined_flows.ensures program main well node) v (map cells numbers.flows) cells
    (agreeing program main numbers s system (c.defined_flows.ensures program main well node) cells symbolic.1)

pub returns-clause-updates : goal.returns-clause-updates
returns-clause-updates c = λ program main numbers s v cells i d well node system symbolic is.
    updated_same program main numbers s system (c.defined_flows.ensures program main well node) v (map cells numbers.flows) cells
    (agreeing program main numbers s system (c.defined_flows.ensures program main well node) cells symbolic.1) i d is

pub returns-clause-leads : goal.returns-clause-leads
returns-clause-leads c = λ program main numbers s v w cells well node system symbolic.
    leads_same program main numbers s system (c.defined_flows.ensures program main well node) v (map cells numbers.flows) cells
    (agreeing program main numbers s system (c.defined_flows.ensures program main well node) cells symbolic.1) w
