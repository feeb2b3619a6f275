use Rattle.std.proofs.Common.{◌+◌, ◌^◌, List, subst}
use Rattle.rv_rows.specs.declared.farkas.Multipliers.{Multipliers}
use Rattle.rv_invfile.specs.{Readers.Reads, Readers.run, Parts.times}
use Rattle.rv_invariant.specs.Pieces.{a_proof}
use Rattle.rv_invariant.proofs.turns.read_part.Goals as goal

pub returns : goal.returns
returns c =
    subst (λ t. Reads (λ (ms : List Multipliers). ms) (run (times c.args.count (a_proof (2 ^ 30) (c.args.rows + t))) c.args.records.now) c.read_proofs.result
    c.read_proofs.new.records) c.from.ensures c.read_proofs.ensures
