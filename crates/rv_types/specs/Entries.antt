-- A name from its entry in a table: its text, and the offset of its first declaration.
use Rattle.std.specs.Prelude.{ℕ, List}
use Rattle.rv_tree.specs.declared.tree.Name.{Name}

abbrev pub named : (List ℕ × ℕ) → Name
named e = record { text = e.0; at = e.1 }
