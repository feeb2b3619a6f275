-- The parts of a partition as the locations of a certificate.
use Rattle.std.specs.Prelude.{◌≡◌, ◌+◌, ◌<◌, ◌^◌, List, length, All}
use Rattle.rv_diagram.specs.{declared.Triple.Triple, Nodes.IsRef}
use Rattle.rv_rows.specs.declared.linear.Row.{Row}
use Rattle.rv_proofs.specs.{Systems.System, Ranges.AreKept}
use Rattle.rv_cases.specs.declared.asking.Questions.{Questions}
use Rattle.rv_refine.specs.{declared.frames.Frame.Frame, declared.covering.Plan.Plan, declared.covering.Here.Here, Sides.AreLeftSides}

-- The frame has left sides over the memories of the system, and there is a question for each test of it.
pub record IsPlanned (s : System) (q : Questions) (f : Frame) : Type 0 where
  pub sides : AreLeftSides s.memories f.sides
  pub tests : length q.rows ≡ s.tests

-- Rows of a location, which with a row for each test are as many premises as a document has numbers for.
pub record ArePremises (s : System) (rows : List Row) : Type 0 where
  pub sides : AreLeftSides s.memories rows
  pub kept : AreKept s rows
  pub few : length rows + s.tests < 2 ^ 32

-- There are as many numbers, flags and lists of rows as sets.
pub record IsPlan (s : System) (f : Frame) (p : Plan) : Type 0 where
  pub numbers : length p.numbers ≡ length f.sets
  pub reached : length p.reached ≡ length f.sets
  pub rows : length p.rows ≡ length f.sets
  pub each : All (ArePremises s) p.rows

-- Both references are of the store.
pub record IsHere (nodes : List Triple) (h : Here) : Type 0 where
  pub scope : IsRef nodes h.scope
  pub taken : IsRef nodes h.taken
