use Rattle.std.proofs.Common.{◌∷◌, []}
use Rattle.std.specs.Prelude.{Some}
use Rattle.rv_invariant.proofs.Adding.{put-made}
use Rattle.rv_invariant.proofs.lines.write_texts.Goals as goal

pub returns : goal.returns
returns c =
    let word = c.args.word.now in
    put-made (λ v. Some v.items) c.args.writer.now c.put_row.new.writer c.add_texts.new.row (word ∷ c.args.texts.now) c.put_row.result
    (c.in_ok-add_texts.ensures (word ∷ []) c.in_ok-row.ensures) c.put_row.ensures
