-- What a search for a candidate is given, and the shape and the range of what it finds.
use Rattle.std.specs.Prelude.{◌≡◌, ℕ, ◌-◌, ◌<◌, ◌^◌, List, length, All, Some, slice_get}
use Rattle.rv_diagram.specs.{Nodes.Diagrams, declared.frozen.Frozen.Frozen}
use Rattle.rv_proofs.specs.{Systems.System, Ranges.IsControlSet}
use Rattle.rv_symbolic.specs.{declared.relation.Relation.Relation, Represented.IsRelationOf}
use Rattle.rv_cases.specs.{declared.asking.Questions.Questions, Questions.AreQuestions}
use Rattle.rv_poly.specs.Whole.{IsInReplay}
use Rattle.rv_paths.specs.declared.trace.Candidate.{Candidate}

-- The relation and the questions are those of the system in the store, and the system has so many columns.
pub record IsSearchOf (s : System) (d : Diagrams) (r : Relation) (q : Questions) (columns : ℕ) : Type 0 where
  pub relation : IsRelationOf s d r
  pub questions : AreQuestions s d q
  pub wide : s.columns ≡ columns

-- Each is a set of control states.
abbrev pub AreControlSets : System → List Frozen → Type 0
AreControlSets s sets = (t : ℕ) (set : Frozen) → slice_get sets t ≡ Some set → IsControlSet s set

-- There is a word for each of one or more instants, fewer than 2^32, with a truth value for each variable; a start value for each integer
-- memory; and for each instant a number for each integer input.
pub record HasShape (variables memories further : ℕ) (c : Candidate) : Type 0 where
  pub some : 0 < length c.words
  pub few : length c.words < 2 ^ 32
  pub words : All (λ w. length w ≡ variables) c.words
  pub starts : length c.starts ≡ memories
  pub instants : length c.inputs ≡ length c.words
  pub inputs : All (λ numbers. length numbers ≡ further) c.inputs

-- The candidate has the shape of a run of the system. The columns of a system are its integer memories and then its integer inputs.
abbrev pub IsCandidateOf : System → Candidate → Type 0
IsCandidateOf s c = HasShape s.variables s.memories (s.columns - s.memories) c

-- All numbers are those that a trace may have: from -2^63 to 2^63 - 1.
pub record IsInRange (c : Candidate) : Type 0 where
  pub starts : All IsInReplay c.starts
  pub inputs : All (All IsInReplay) c.inputs
