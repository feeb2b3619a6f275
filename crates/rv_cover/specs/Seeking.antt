-- What is sought, and by what.
use Rattle.std.specs.Prelude.{◌≡◌, ℕ, ◌+◌, ◌<◌, ◌^◌, List, [], ◌∷◌, length}
use Rattle.rv_diagram.specs.{Nodes.Diagrams, Nodes.IsRef, Nodes.valuation_of, declared.frozen.Frozen.Frozen}
use Rattle.rv_rows.specs.declared.linear.Row.{Row}
use Rattle.rv_proofs.specs.{Systems.System, Systems.IsSystem, Ranges.AreKept, Ranges.IsControlSet, Ranges.IsInRange, Counts.HasCounts, Counts.HasFree}
use Rattle.rv_proofs.specs.{declared.certificate.Certificate.Certificate, declared.certificate.Location.Location, declared.certificate.Entry.Entry}
use Rattle.rv_symbolic.specs.{declared.relation.Parts.Parts, Represented.HaveRefs, Represented.AreParts, Variables.AreAllBut}
use Rattle.rv_walk.specs.Plain.{ArePlain}
use Rattle.rv_cases.specs.{declared.asking.Questions.Questions, Questions.AreQuestions}
use Rattle.rv_boxes.specs.Certifying.{IsLocationOf}
use Rattle.rv_cover.specs.{declared.frame.Frame.Frame, declared.frame.By.By, declared.frame.By.TheVariants.Boxes, declared.frame.By.TheVariants.Rows}
use Rattle.rv_cover.specs.Entries.{AreShortEntries}

-- Boxes have the columns of the system.
abbrev pub IsWay : System → By → Type 0
IsWay s (Boxes columns) = s.columns ≡ columns
IsWay s Rows = Unit {0}

-- A system with its questions and references in a store, control sets of it, what a claim takes, and rows of its memories, which have
-- numbers in a document.
pub record IsSought (s : System) (d : Diagrams) (p : Parts) (q : Questions) (by : By) (first rest : Frozen) (taken : ℕ) (reached : Frozen)
    (given : List Row) : Type 0 where
  pub system : IsSystem s
  pub questions : AreQuestions s d q
  pub refs : HaveRefs d p
  pub parts : AreParts s d p
  pub way : IsWay s by
  pub first_set : IsControlSet s first
  pub rest_set : IsControlSet s rest
  pub reached_set : IsControlSet s reached
  pub taken_found : IsRef d.nodes taken
  pub kept : AreKept s given
  pub few : length given + s.tests < 2 ^ 32

-- The certificate has the counts and ranges of a document, and no loop.
pub record IsDocument (s : System) (c : Certificate) : Type 0 where
  pub range : IsInRange s c
  pub free : HasFree c
  pub plain : ArePlain c

-- A system with its questions in a store, and rows that are premises.
pub record IsSearched (s : System) (d : Diagrams) (q : Questions) (f : Frame) (given : List Row) : Type 0 where
  pub system : IsSystem s
  pub questions : AreQuestions s d q
  pub way : IsWay s f.by
  pub few : length given + s.tests < 2 ^ 32

-- The frame proves rows in this way, and lets a condition read all of so many variables but the next copies of the first state bits.
pub record IsFrameFor (variables bits : ℕ) (by : By) (f : Frame) : Type 0 where
  pub by_is : f.by ≡ by
  pub variables_are : f.variables ≡ variables
  pub read : AreAllBut variables bits 1 (valuation_of f.read)

-- The certificate has two locations with these control states, rows and entries, and as many multipliers as rows to prove.
pub record IsAssembled (first rest : Frozen) (rows : List Row) (initial others : List Entry) (c : Certificate) : Type 0 where
  pub one : Location
  pub two : Location
  pub locations : c.locations ≡ one ∷ two ∷ []
  pub one_is : IsLocationOf first [] initial one
  pub two_is : IsLocationOf rest rows others two
  pub counts : HasCounts c

-- It is assembled of entries in the ranges of a document.
pub record IsPlausible (f : Frame) (tests : ℕ) (first rest : Frozen) (rows : List Row) (c : Certificate) : Type 0 where
  pub initial : List Entry
  pub others : List Entry
  pub assembled : IsAssembled first rest rows initial others c
  pub initial_short : AreShortEntries f tests initial
  pub others_short : AreShortEntries f (length rows + tests) others
