use Rattle.std.proofs.Common.{◌∷◌, [], map}
use Rattle.std.specs.Prelude.{Some, decimal}
use Rattle.rv_invariant.proofs.Adding.{put-made}
use Rattle.rv_invariant.proofs.lines.write_numbers.Goals as goal

pub returns : goal.returns
returns c =
    let word = c.args.word.now in
    put-made (λ v. Some v.items) c.args.writer.now c.put_row.new.writer c.add_numbers.new.row (word ∷ map decimal c.args.numbers.now) c.put_row.result
    (c.in_ok-add_numbers.ensures (word ∷ []) c.in_ok-row.ensures) c.put_row.ensures
