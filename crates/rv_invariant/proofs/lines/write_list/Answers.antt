use Rattle.std.proofs.Common.{◌+◌, ◌++◌, ◌∷◌, [], ℕ, length, map, take, ap, subst, arith}
use Rattle.std.specs.Prelude.{Some, decimal}
use Rattle.rv_invfile.specs.{Rules.Fields, Writes.Adds}
use Rattle.rv_invfile.proofs.Adding.{adds-then}
use Rattle.rv_invariant.specs.Pieces.{row_record}
use Rattle.rv_invariant.proofs.Adding.{adds-same, map-more, map-taken}
use Rattle.rv_invariant.proofs.lines.write_list.Goals as goal

pub loop-index-init : goal.loop-index-init
loop-index-init c =
    subst (λ (n : ℕ). Adds (λ v. Some v.items) c.args.writer.now c.put_count.new.writer ((c.args.word.now ∷ decimal n ∷ []) ∷ [])) c.len.ensures
    c.in_ok-put_count.ensures

pub loop-index-preserved : goal.loop-index-preserved
loop-index-preserved c =
    let i = c.loop-index.index in
    let rows = c.args.rows.now in
    let r = c.at.result.now in
    let count : Fields = c.args.word.now ∷ decimal (length rows) ∷ [] in
    adds-same (λ v. Some v.items) c.args.writer.now c.write_row.new.writer (count ∷ (map row_record (take i rows) ++ row_record r ∷ []))
    (count ∷ map row_record (take (i + 1) rows)) (ap (λ l. count ∷ l) (map-more row_record rows i r c.at.ensures.value))
    (adds-then (λ v. Some v.items) c.args.writer.now c.loop-index.writer c.write_row.new.writer (count ∷ map row_record (take i rows)) (row_record r ∷ [])
    c.loop-index.invariant c.in_ok-write_row.ensures)

pub returns : goal.returns
returns c =
    let rows = c.args.rows.now in
    let count : Fields = c.args.word.now ∷ decimal (length rows) ∷ [] in
    adds-same (λ v. Some v.items) c.args.writer.now c.loop-index.writer (count ∷ map row_record (take c.loop-index.index rows)) (count ∷ map row_record rows)
    (ap (λ l. count ∷ l) (map-taken row_record rows c.loop-index.index (omega (arith, c.loop-index-test.false, c.len-index-end.ensures))))
    c.loop-index.invariant
