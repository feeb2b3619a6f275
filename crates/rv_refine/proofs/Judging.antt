-- What is given of a system in a store that has grown.
use Rattle.rv_diagram.specs.{Nodes.Diagrams, Growing.Extends}
use Rattle.rv_proofs.specs.Systems.{System}
use Rattle.rv_symbolic.specs.declared.relation.Relation.{Relation}
use Rattle.rv_symbolic.proofs.Scheduling.{relation_after}
use Rattle.rv_cases.specs.declared.asking.Questions.{Questions}
use Rattle.rv_cases.proofs.Keeping.{questions_later}
use Rattle.rv_rise.specs.{Rounds.IsGiven}

-- what is given in a store that has grown
pub given_after : (s : System) (a b : Diagrams) (r : Relation) (q : Questions) → Extends a b → IsGiven s a r q → IsGiven s b r q
given_after s a b r q e given = record { relation = relation_after s a b r e given.relation; questions = questions_later s a b q e given.questions }
