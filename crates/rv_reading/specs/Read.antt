-- When a reading is one of its flat system.
use Rattle.std.specs.Prelude.{◌≡◌, length}
use Rattle.rv_diagram.specs.Nodes.{Diagrams}
use Rattle.rv_proofs.specs.Systems.{System}
use Rattle.rv_flat.specs.declared.flat.Flat.{Flat}
use Rattle.rv_control.specs.Control.{control_of}
use Rattle.rv_symbolic.specs.{Represented.IsRelationOf, declared.relation.Relation.Relation}
use Rattle.rv_cases.specs.{declared.asking.Questions.Questions, Questions.AreQuestions, Questions.AreDistinct}
use Rattle.rv_reading.specs.declared.reading.Reading.{Reading}

-- the flat system of a reading, what it is at a valuation, its relation in the store, the store, and its questions
abbrev pub flat_of : Reading → Flat
flat_of r = r.flat.now

abbrev pub system_read : Reading → System
system_read r = control_of (flat_of r)

abbrev pub relation_of : Reading → Relation
relation_of r = r.relation

abbrev pub diagrams_of : Reading → Diagrams
diagrams_of r = r.store

abbrev pub questions_of : Reading → Questions
questions_of r = r.questions

-- The references of the reading have in its store the meanings of its flat system, and the answers to its questions what order tests,
-- integer memories and the observer are, no row and no form in two answers to one question. The flat system lists as many columns
-- as its system has.
pub record IsRead (r : Reading) : Type 0 where
  pub relation : IsRelationOf (system_read r) (diagrams_of r) (relation_of r)
  pub questions : AreQuestions (system_read r) (diagrams_of r) (questions_of r)
  pub distinct : AreDistinct (questions_of r)
  pub wide : length (flat_of r).columns ≡ (system_read r).columns
