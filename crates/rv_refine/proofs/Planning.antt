-- Rows of parts are premises of locations, a frame is planned, and what is searched for entries of a part.
use Rattle.std.proofs.Common.{◌≡◌, ℕ, ◌+◌, ◌≤◌, ◌<◌, ◌^◌, List, length, sym, subst}
use Rattle.std.proofs.lemmas.List.Elements.{All-weaker}
use Rattle.rv_diagram.specs.{Nodes.Diagrams}
use Rattle.rv_rows.specs.{declared.linear.Row.Row, Tight.Fits}
use Rattle.rv_proofs.specs.Systems.{System}
use Rattle.rv_cases.specs.declared.asking.Questions.{Questions}
use Rattle.rv_cover.specs.{Seeking.IsSearched, declared.frame.Frame.Frame as Within}
use Rattle.rv_cover.specs.Seeking.{IsFrameFor, IsWay}
use Rattle.rv_cover.specs.declared.frame.By.TheVariants.{Rows}
use Rattle.rv_refine.specs.{declared.frames.Frame.Frame, Frames.IsFrame, Sides.IsLeftSide, Sides.AreLeftSides, Plans.ArePremises, Plans.IsPlanned}
use Rattle.rv_refine.proofs.Framing.{side_fits}

-- few left sides are the rows of a location
pub premises_are : (s : System) (rows : List Row) → AreLeftSides s.memories rows → length rows ≤ 1024 → length rows + s.tests < 2 ^ 32 → ArePremises s rows
premises_are s rows sides few less = record {
  sides = sides;
  kept = (
    All-weaker (IsLeftSide s.memories) (λ r. (length r.coefficients ≡ s.memories) × Fits r) (λ r is. (is.size, side_fits s.memories r is)) rows sides,
    few,
  );
  few = less;
}

-- a frame is planned
pub planned_of : (s : System) (d : Diagrams) (q : Questions) (f : Frame) → IsFrame s d q f → IsPlanned s q f
planned_of s d q f is = record { sides = is.sides; tests = let asked = is.questions in asked.many_tests }

-- what is searched for entries of a part
pub searched_by : (s : System) (d : Diagrams) (q : Questions) (f : Frame) (variables bits : ℕ) (w : Within) (given : List Row) → IsFrame s d q f
    → length given + s.tests < 2 ^ 32 → IsFrameFor variables bits Rows w → IsSearched s d q w given
searched_by s d q f variables bits w given is few for = record {
  system = is.system;
  questions = is.questions;
  way = subst (IsWay s) (sym for.by_is) tt;
  few = few;
}
