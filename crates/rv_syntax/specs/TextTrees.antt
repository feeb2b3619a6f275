-- The trees of sources.
use Rattle.std.specs.Prelude.{◌≤◌, ℕ, List, length}
use Rattle.rv_base.specs.Limits.{source_limit}
use Rattle.rv_tree.specs.Tree.{ProgramTree}
use Rattle.rv_syntax.specs.ProgramText.{IsTextOf}

-- the tree of some source within the limit
abbrev pub IsTreeOfText : ProgramTree → Type 0
IsTreeOfText t = (bytes : List ℕ) × (length bytes ≤ source_limit) × IsTextOf bytes t
