use Rattle.std.proofs.Common.{◌≡◌, ◌-◌, [], length}
use Rattle.std.specs.Prelude.{replicate, None}
use Rattle.rv_invfile.specs.Readers.{run}
use Rattle.rv_invariant.specs.Certificates.{locations_rule}
use Rattle.rv_invariant.proofs.locations.read_locations.Given as goal

abbrev pub invariant-loop-index : goal.invariant-loop-index
invariant-loop-index l = record {
  size : length l.locations ≡ l.index;
  known : length l.known ≡ l.count;
  kept : run (locations_rule l.shape l.count (l.count - l.index) l.locations l.known) l.records ≡ run
      (locations_rule l.fn.shape l.fn.count l.fn.count [] (replicate l.fn.count None)) l.fn.records;
}
