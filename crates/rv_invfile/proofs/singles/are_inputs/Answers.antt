use Rattle.std.proofs.Common.{arith, sym, ap, ◌∙◌, below_more}
use Rattle.rv_invfile.specs.{Ahead.here, Forms.word_of}
use Rattle.rv_flat.specs.declared.parts.FlatInput.{FlatInput}
use Rattle.rv_invfile.proofs.{Decimals.bytes-same, SameFields.later-differ, SameFields.later-same, SameFields.text-at}
use Rattle.rv_meaning.proofs.Rows.{no_flag}
use Rattle.rv_invfile.proofs.singles.are_inputs.Goals as goal

pub returns-then-not-is_same : goal.returns-then-not-is_same
returns-then-not-is_same c =
    sym (later-differ (λ (i : FlatInput). i.name) (here c.args.records.now) c.args.word.now c.args.inputs.now c.loop-index.index c.index-inputs-index.result
    c.loop-index-test.true c.index-inputs-index.is
    (λ e. no_flag (sym c.if-not-is_same.true ∙ c.is_same.ensures.1 (c.field.ensures ∙ e ∙ ap (λ (i : FlatInput). i.name) c.index-inputs-index.is
    ∙ sym c.as_str.ensures ∙ sym c.as_bytes.ensures.value))))

pub loop-index-preserved : goal.loop-index-preserved
loop-index-preserved c =
    below_more _ _ c.loop-index.invariant
    (sym c.field.ensures ∙ c.is_same.ensures.0 c.if-not-is_same.false ∙ c.as_bytes.ensures.value ∙ c.as_str.ensures
    ∙ sym (ap (λ (i : FlatInput). i.name) c.index-inputs-index.is) ∙ sym
    (text-at (λ (i : FlatInput). i.name) c.args.inputs.now c.loop-index.index c.index-inputs-index.result c.loop-index-test.true c.index-inputs-index.is))

pub returns : goal.returns
returns c =
    sym (later-same (λ (i : FlatInput). i.name) (here c.args.records.now) c.args.word.now c.args.inputs.now (omega arith)
    (bytes-same (word_of (here c.args.records.now)) c.args.word.now (sym c.is_word.ensures ∙ c.if-not-is_word.false))
    (λ k h. c.loop-index.invariant k (omega arith)))
