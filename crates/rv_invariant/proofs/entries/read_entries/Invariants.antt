use Rattle.std.proofs.Common.{◌≡◌, ◌-◌, [], List, length}
use Rattle.rv_proofs.specs.declared.certificate.Entry.{Entry}
use Rattle.rv_invfile.specs.Readers.{run}
use Rattle.rv_invariant.specs.{Certificates.entries_rule, Continues.Then, Continues.AllWait}
use Rattle.rv_invariant.proofs.entries.read_entries.Given as goal

abbrev pub invariant-loop-done : goal.invariant-loop-done
invariant-loop-done l = record {
  size : length l.known ≡ length l.fn.known;
  kept : (next : Then (List Entry)) → AllWait next
      → run (entries_rule l.fn.shape (length l.fn.known) l.fn.outline l.fn.needed l.fn.count [] next l.fn.known) l.fn.records
      ≡ run (entries_rule l.shape (length l.fn.known) l.outline l.still (l.count - l.done) l.entries next l.known) l.records;
}
