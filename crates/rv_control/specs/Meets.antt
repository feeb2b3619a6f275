-- A run of a program and the abstract run that it is.
use Rattle.std.specs.Prelude.{◌≡◌, ◌↔◌, ℕ, ◌<◌, ℤ, true, List, Some, IsTrue}
use Rattle.rv_base.specs.{declared.value.Value.Value, declared.value.Value.TheVariants.Flag}
use Rattle.rv_tree.specs.{Tree.ProgramTree, Places.Identifier, Places.Sites}
use Rattle.rv_meaning.specs.Runs.{History, AssertionsHold, observed}
use Rattle.rv_diagram.specs.Nodes.{Valuation}
use Rattle.rv_proofs.specs.Runs.{IsAbstractRun}
use Rattle.rv_flat.specs.declared.flat.Flat.{Flat}
use Rattle.rv_control.specs.Control.{control_of}

-- The valuations and points are an abstract run, and at each instant the observer is true where it is in the history, and the
-- valuation is allowed where the assertions hold.
pub record IsAbstractOf (program : ProgramTree) (main : Identifier) (f : Flat) (starts : Sites → Value) (n : ℕ) (h : History) (vs : ℕ → Valuation)
    (points : ℕ → List ℤ) : Type 0 where
  pub run : IsAbstractRun (control_of f) n vs points
  pub observer : (t : ℕ) → t < n → (observed program main h t ≡ Some (Flag true)) ↔ IsTrue ((control_of f).observer (vs t))
  pub assertions : (t : ℕ) → t < n → AssertionsHold program main starts h t ↔ IsTrue ((control_of f).allowed (vs t))
