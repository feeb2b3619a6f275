-- What is the same throughout a search, and the parts as they are known.
use Rattle.std.specs.Prelude.{◌≡◌, ◌≤◌, ◌^◌, List, length, All, true}
use Rattle.std.specs.Int.RustNames.{unsigned_abs}
use Rattle.rv_diagram.specs.{declared.Triple.Triple, Nodes.Diagrams, Nodes.Valuation, Nodes.IsRef, Nodes.IsOrderedOver, Nodes.value_of}
use Rattle.rv_proofs.specs.Systems.{System, IsSystem}
use Rattle.rv_cases.specs.{declared.asking.Questions.Questions, Questions.AreQuestions}
use Rattle.rv_pairs.specs.Labels.{AreLabels}
use Rattle.rv_refine.specs.{declared.frames.Frame.Frame, declared.frames.Known.Known, declared.rising.Taken.Taken, declared.rising.Path.Path}
use Rattle.rv_refine.specs.Sides.{AreLeftSides, AreLimits}

-- The references are those of the store, the sets are ordered diagrams of its variables, and there are as many references into sets as sets.
pub record IsHeld (d : Diagrams) (f : Frame) : Type 0 where
  pub thresholds : All (λ t. unsigned_abs t ≤ 2 ^ 41) f.thresholds
  pub labels : AreLabels d.nodes f.labels
  pub allowed : IsRef d.nodes f.allowed
  pub sets : All (IsOrderedOver d.variables) f.sets
  pub into : All (IsRef d.nodes) f.into
  pub many : length f.into ≡ length f.sets

-- A system with its questions in a store, and a frame for it.
pub record IsFrame (s : System) (d : Diagrams) (q : Questions) (f : Frame) : Type 0 where
  pub system : IsSystem s
  pub questions : AreQuestions s d q
  pub columns : f.columns ≡ s.columns
  pub sides : AreLeftSides s.memories f.sides
  pub held : IsHeld d f

-- There are as many flags and lists of limits as sets, and as many limits in each list as left sides.
pub record IsKnown (f : Frame) (k : Known) : Type 0 where
  pub reached : length k.reached ≡ length f.sets
  pub dirty : length k.dirty ≡ length f.sets
  pub limits : length k.limits ≡ length f.sets
  pub each : All (AreLimits (length f.sides)) k.limits

-- The reference and those of the labels are of the store.
pub record IsTaken (nodes : List Triple) (t : Taken) : Type 0 where
  pub here : IsRef nodes t.here
  pub labels : AreLabels nodes t.labels

-- Both references are of the store, and the second is true wherever the first is.
pub record IsPath (nodes : List Triple) (p : Path) : Type 0 where
  pub here : IsRef nodes p.here
  pub sure : IsRef nodes p.sure
  pub within : (v : Valuation) → value_of nodes p.here v ≡ true → value_of nodes p.sure v ≡ true
