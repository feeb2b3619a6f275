use Rattle.std.proofs.Common.{◌≡◌, ◌∙◌, ◌+◌, ◌++◌, ◌∷◌, [], map, drop, ap}
use Rattle.csv.specs.Records.{fields_of}
use Rattle.rv_flat.specs.declared.parts.FlatInput.{FlatInput}
use Rattle.rv_invfile.specs.{Texts.value_text, Traces.input_kinds, Traces.value_texts}
use Rattle.rv_invfile.proofs.Adding.{texts-more}
use Rattle.rv_invfile.proofs.trace_writing.add_values.Goals as goal

pub loop-index-preserved : goal.loop-index-preserved
loop-index-preserved c =
    let f = c.args.flat.now in
    let i = c.loop-index.index in
    let x = c.at-input.result.now in
    let v = c.at.result.now in
    let inv = c.loop-index.invariant in
    let old = fields_of c.loop-index.row in
    let fields : fields_of c.push_field.new.self ≡ old ++ value_text f.labels x.kind v ∷ [] =
    c.in_ok-push_field.ensures.fields ∙ ap (λ p. old ++ (p ++ c.as_bytes.result.now) ∷ []) inv.0
    ∙ ap (λ t. old ++ t ∷ []) (c.as_bytes.ensures.value ∙ c.in_ok-text.ensures) in (
      c.in_ok-push_field.ensures.partial,
      ap (λ l. l ++ value_texts f.labels (map (λ (y : FlatInput). y.kind) (drop (i + 1) f.inputs)) (drop (i + 1) c.args.values.now)) fields
          ∙ texts-more f.labels f.inputs c.args.values.now i x v old (fields_of c.args.row.now ++ value_texts f.labels (input_kinds f) c.args.values.now)
          c.at-input.ensures.value c.at.ensures.value inv.1,
    )
