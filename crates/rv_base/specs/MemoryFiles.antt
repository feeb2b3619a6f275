-- Files in memory as their callers see them.
use Rattle.std.specs.Prelude.{ℕ, List}
use Rattle.rv_base.specs.{Shelf.Shelf, Entries.shelf_of, declared.memory_files.MemoryFiles.MemoryFiles}

-- What the files hold.
abbrev pub held_by : MemoryFiles → Shelf
held_by files = shelf_of files.entries.items

-- The numbers of the loads that fail.
abbrev pub failing_calls : MemoryFiles → List ℕ
failing_calls files = files.failing.items

-- How many loads there were, those that ended for want of memory not counted: the number of the next one.
abbrev pub calls_of : MemoryFiles → ℕ
calls_of files = files.calls

-- How many loads have failed.
abbrev pub faults_of : MemoryFiles → ℕ
faults_of files = files.faults
