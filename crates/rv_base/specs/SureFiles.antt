-- Files in memory that never fail, as their callers see them.
use Rattle.std.specs.Prelude.{ℕ}
use Rattle.rv_base.specs.{Shelf.Shelf, Entries.shelf_of, declared.sure_files.SureFiles.SureFiles}

-- What the files hold.
abbrev pub held_by : SureFiles → Shelf
held_by files = shelf_of files.entries.items

-- How many loads there were, those that ended for want of memory not counted.
abbrev pub loads_of : SureFiles → ℕ
loads_of files = files.loads
