-- Where a claim takes a valuation, in a store.
use Rattle.std.specs.Prelude.{◌≡◌, ◌↔◌, ℕ, ◌<◌, ℤ, List, length, true, Option}
use Rattle.rv_diagram.specs.{Nodes.Valuation, Nodes.Diagrams, Nodes.IsRef, Nodes.IsMeant, Nodes.value_of, declared.frozen.Frozen.Frozen}
use Rattle.rv_proofs.specs.{Systems.System, Systems.IsSystem, Scopes.IsIn, Ranges.IsControlSet, Boxes.BoxClaim, Boxes.IsTaken}
use Rattle.rv_cases.specs.{declared.asking.Questions.Questions, Questions.AreQuestions}
use Rattle.rv_ends.specs.Claiming.{AreSmall}

-- The reference is true exactly where the claim takes the valuation.
pub record IsTakenAt (s : System) (d : Diagrams) (c : BoxClaim) (r : ℕ) : Type 0 where
  pub found : IsRef d.nodes r
  pub exact : (v : Valuation) → (value_of d.nodes r v ≡ true) ↔ IsTaken s c v

-- A system with its questions and its allowed valuations in a store.
pub record IsAsked (s : System) (d : Diagrams) (q : Questions) (r : ℕ) : Type 0 where
  pub system : IsSystem s
  pub questions : AreQuestions s d q
  pub allowed : IsMeant d.nodes s.allowed r

-- A set of control states, and limits of the integer memories and of their opposites: one for each memory, or none.
pub record IsLimited (s : System) (reached : Frozen) (upper lower : List (Option ℤ)) : Type 0 where
  pub control : IsControlSet s reached
  pub states : (v : Valuation) → IsIn reached v → 0 < s.states
  pub uppers : length upper ≡ s.memories
  pub lowers : length lower ≡ s.memories
  pub upper_small : AreSmall upper
  pub lower_small : AreSmall lower
