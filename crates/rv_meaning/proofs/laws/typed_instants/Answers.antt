use Rattle.rv_meaning.proofs.{Acceptable.formed, TypedFlows.typed_instant, TypedFlows.typed_next}
use Rattle.rv_meaning.proofs.laws.typed_instants.Goals as goal

pub returns-clause-flows : goal.returns-clause-flows
returns-clause-flows c program main sequence state inputs row well is_node ordered starts given instant =
    typed_instant program main well is_node state inputs row starts given instant sequence ordered

pub returns-clause-memories : goal.returns-clause-memories
returns-clause-memories c program main sequence state next inputs row well is_node ordered starts given instant after =
    typed_next program main well is_node state inputs row starts given instant sequence ordered
    (λ i d inst w. (formed program main well is_node i inst).delay_clock d w) next after
