-- Histories in which each flow has at each instant what its giver makes of the history. Runs and single instants are
-- both such solutions.
use Rattle.std.proofs.Common.{◌≡◌, ℕ, ◌<◌, Option}
use Rattle.std.specs.List.{All}
use Rattle.rv_base.specs.declared.value.Value.{Value}
use Rattle.rv_tree.specs.{Tree.ProgramTree, Places.Identifier, Places.Sites}
use Rattle.rv_meaning.specs.Runs.{History, cells, IsHistory}
use Rattle.rv_types.specs.Needs.{Giver, Gives, needs_of}
use Rattle.rv_meaning.proofs.Local.{AreAlike, IsAlike}

-- what a giver makes of a history at an instant
abbrev pub Rule : Type 0
Rule = Giver → History → ℕ → Option Value

-- It looks at no more than the earlier instants and what the giver needs.
abbrev pub IsLocal : ProgramTree → Rule → Type 0
IsLocal program made = (g h : History) (w : Giver) (t : ℕ) → AreAlike (cells g) (cells h) t → All (IsAlike (cells g) (cells h) t) (needs_of program w)
    → made w g t ≡ made w h t

-- a history of n instants in which each flow has what its giver makes
pub record IsSolution (program : ProgramTree) (main : Identifier) (made : Rule) (n : ℕ) (h : History) : Type 0 where
  pub history : IsHistory program main n h
  pub has : (t : ℕ) (p : Sites) (w : Giver) → t < n → Gives program main p w → cells h t p ≡ made w h t
