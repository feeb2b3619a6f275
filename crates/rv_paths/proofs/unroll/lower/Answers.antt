use Rattle.std.proofs.lemmas.List.Elements.{All-set}
use Rattle.rv_paths.specs.Joining.{IsJoinedRow}
use Rattle.rv_paths.proofs.unroll.lower.Goals as goal

pub returns : goal.returns
returns c = rw c.set.ensures (All-set (IsJoinedRow c.args.width) c.args.rows.now c.args.place c.args.row c.requires.row c.requires.rows)
