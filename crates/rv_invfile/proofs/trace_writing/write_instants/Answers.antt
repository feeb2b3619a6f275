use Rattle.std.proofs.{Common.◌∙◌, Common.◌++◌, Common.◌∷◌, Common.[], Common.List, Common.map, Common.refl, Common.subst, lemmas.List.length-map}
use Rattle.std.specs.Prelude.{Some}
use Rattle.rv_flat.specs.declared.parts.FlatInput.{FlatInput}
use Rattle.rv_invfile.specs.{Rules.Fields, Traces.HaveKinds, Traces.input_kinds, Traces.instant_record, Writes.Adds}
use Rattle.rv_invfile.proofs.Adding.{adds-none, adds-then, all-at, each-more, each-none, kinds-length}
use Rattle.rv_invfile.proofs.trace_writing.write_instants.Goals as goal

pub loop-values-init : goal.loop-values-init
loop-values-init c = ([], adds-none (λ v. Some v.items) c.args.writer.now, refl)

pub write_instant-requires : goal.write_instant-requires
write_instant-requires c =
    let f = c.args.flat.now in
    let vs = c.values-item.result in
    kinds-length f.labels (input_kinds f) vs (all-at (HaveKinds f.labels (input_kinds f)) c.args.instants.now c.loop-values.values-index vs c.requires
    c.loop-values-test.true c.values-item.is)
    ∙ length-map f.inputs (λ (i : FlatInput). i.kind)

pub loop-values-preserved : goal.loop-values-preserved
loop-values-preserved c =
    let f = c.args.flat.now in
    let vs = c.values-item.result in
    let inv = c.loop-values.invariant in (
      inv.0 ++ instant_record f vs ∷ [],
      adds-then (λ v. Some v.items) c.args.writer.now c.loop-values.writer c.write_instant.new.writer inv.0 (instant_record f vs ∷ []) inv.1
          c.in_ok-write_instant.ensures,
      each-more (instant_record f) c.args.instants.now c.loop-values.values-index vs inv.0 (map (instant_record f) c.args.instants.now) c.loop-values-test.true
          c.values-item.is inv.2,
    )

pub returns : goal.returns
returns c =
    let f = c.args.flat.now in
    let inv = c.loop-values.invariant in
    subst (λ (rows : List Fields). Adds (λ v. Some v.items) c.args.writer.now c.loop-values.writer rows)
    (each-none (instant_record f) c.args.instants.now c.loop-values.values-index inv.0 (map (instant_record f) c.args.instants.now) c.loop-values-test.false
    inv.2) inv.1
