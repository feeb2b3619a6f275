use Rattle.std.proofs.Common.{◌+◌, ◌++◌, ◌∷◌, [], map, take, arith}
use Rattle.std.specs.Prelude.{Some}
use Rattle.rv_invfile.proofs.Adding.{adds-none, adds-then}
use Rattle.rv_invariant.specs.Pieces.{by_record}
use Rattle.rv_invariant.proofs.Adding.{adds-same, map-more, map-taken}
use Rattle.rv_invariant.proofs.lines.write_proofs.Goals as goal

pub loop-index-init : goal.loop-index-init
loop-index-init c = adds-none (λ v. Some v.items) c.args.writer.now

pub loop-index-preserved : goal.loop-index-preserved
loop-index-preserved c =
    let i = c.loop-index.index in
    let ms = c.args.proofs.now in
    let m = c.at.result.now in
    adds-same (λ v. Some v.items) c.args.writer.now c.write_proof.new.writer (map by_record (take i ms) ++ by_record m ∷ []) (map by_record (take (i + 1) ms))
    (map-more by_record ms i m c.at.ensures.value)
    (adds-then (λ v. Some v.items) c.args.writer.now c.loop-index.writer c.write_proof.new.writer (map by_record (take i ms)) (by_record m ∷ [])
    c.loop-index.invariant c.in_ok-write_proof.ensures)

pub returns : goal.returns
returns c =
    let ms = c.args.proofs.now in
    adds-same (λ v. Some v.items) c.args.writer.now c.loop-index.writer (map by_record (take c.loop-index.index ms)) (map by_record ms)
    (map-taken by_record ms c.loop-index.index (omega (arith, c.loop-index-test.false, c.len-index-end.ensures))) c.loop-index.invariant
