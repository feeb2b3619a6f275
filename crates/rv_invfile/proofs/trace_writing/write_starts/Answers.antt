use Rattle.std.proofs.Common.{◌++◌, ◌∷◌, [], List, refl, ap, ◌∙◌, subst, arith}
use Rattle.std.specs.Prelude.{Some, codes}
use Rattle.rv_invfile.specs.{Rules.Fields, Texts.dotted, Traces.start_record, Traces.start_records, Writes.Adds}
use Rattle.rv_invfile.proofs.Adding.{adds-then, adds-none, starts-more, starts-none}
use Rattle.rv_invfile.proofs.trace_writing.write_starts.Goals as goal

pub loop-index-init : goal.loop-index-init
loop-index-init c = ([], adds-none (λ v. Some v.items) c.args.writer.now, refl)

pub loop-index-preserved : goal.loop-index-preserved
loop-index-preserved c =
    let f = c.args.flat.now in
    let i = c.loop-index.index in
    let m = c.at-memory.result.now in
    let v = c.at.result.now in
    let inv = c.loop-index.invariant in
    let place = c.as_bytes.ensures.value ∙ c.in_ok-place.ensures in
    let text = c.as_bytes-in-loop-index.ensures.value ∙ c.in_ok-text.ensures in
    let row = ap (λ p. codes "start" ∷ p ∷ c.as_bytes-in-loop-index.result.now ∷ []) place ∙ ap (λ t. codes "start" ∷ dotted m.place.sites ∷ t ∷ []) text in
    let added = subst (λ (r : Fields). Adds (λ v. Some v.items) c.loop-index.writer c.put.new.writer (r ∷ [])) row c.in_ok-put.ensures in (
      inv.0 ++ start_record f.labels m v ∷ [],
      adds-then (λ v. Some v.items) c.args.writer.now c.loop-index.writer c.put.new.writer inv.0 (start_record f.labels m v ∷ []) inv.1 added,
      starts-more f.labels f.memories c.args.values.now i m v inv.0 (start_records f.labels f.memories c.args.values.now) c.at-memory.ensures.value
          c.at.ensures.value inv.2,
    )

pub returns : goal.returns
returns c =
    let f = c.args.flat.now in
    let inv = c.loop-index.invariant in
    subst (λ (rows : List Fields). Adds (λ v. Some v.items) c.args.writer.now c.loop-index.writer rows)
    (starts-none f.labels f.memories c.args.values.now c.loop-index.index inv.0 (start_records f.labels f.memories c.args.values.now)
    (omega (arith, c.loop-index-test.false, c.len-index-end.ensures)) inv.2) inv.1
