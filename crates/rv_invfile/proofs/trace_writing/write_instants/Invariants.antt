use Rattle.std.proofs.Common.{◌≡◌, ◌++◌, List, drop, map}
use Rattle.std.specs.Prelude.{Some}
use Rattle.rv_invfile.specs.{Rules.Fields, Traces.instant_record, Writes.Adds}
use Rattle.rv_invfile.proofs.trace_writing.write_instants.Given as goal

abbrev pub invariant-loop-values : goal.invariant-loop-values
invariant-loop-values l =
    (done : List Fields) × Adds (λ v. Some v.items) l.fn.writer l.writer done
    × (done ++ map (instant_record l.flat) (drop l.values-index l.instants) ≡ map (instant_record l.flat) l.instants)
