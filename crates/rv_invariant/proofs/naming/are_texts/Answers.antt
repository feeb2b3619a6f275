use Rattle.std.proofs.{Common.ℕ, Common.List, Common.◌∷◌, Common.arith, Common.sym, Common.ap, Common.◌∙◌, Common.below_more, lemmas.List.map-id}
use Rattle.rv_invfile.specs.{Ahead.here, Forms.word_of, Texts.same_fields}
use Rattle.rv_invfile.proofs.{Decimals.bytes-same, SameFields.later-differ, SameFields.later-same, SameFields.text-at}
use Rattle.rv_meaning.proofs.Rows.{no_flag}
use Rattle.rv_invariant.proofs.naming.are_texts.Goals as goal

pub returns-then-not-is_same : goal.returns-then-not-is_same
returns-then-not-is_same c =
    sym (ap (λ l. same_fields (here c.args.records.now) (c.args.word.now ∷ l)) (sym (map-id c.args.names.now))
    ∙ later-differ (λ (t : List ℕ). t) (here c.args.records.now) c.args.word.now c.args.names.now c.loop-index.index c.index-names-index.result
    c.loop-index-test.true c.index-names-index.is
    (λ e. no_flag (sym c.if-not-is_same.true ∙ c.is_same.ensures.1 (c.field.ensures ∙ e ∙ sym c.as_str.ensures ∙ sym c.as_bytes.ensures.value))))

pub loop-index-preserved : goal.loop-index-preserved
loop-index-preserved c =
    below_more _ _ c.loop-index.invariant
    (sym c.field.ensures ∙ c.is_same.ensures.0 c.if-not-is_same.false ∙ c.as_bytes.ensures.value ∙ c.as_str.ensures
    ∙ sym (text-at (λ (t : List ℕ). t) c.args.names.now c.loop-index.index c.index-names-index.result c.loop-index-test.true c.index-names-index.is))

pub returns : goal.returns
returns c =
    sym (ap (λ l. same_fields (here c.args.records.now) (c.args.word.now ∷ l)) (sym (map-id c.args.names.now))
    ∙ later-same (λ (t : List ℕ). t) (here c.args.records.now) c.args.word.now c.args.names.now (omega arith)
    (bytes-same (word_of (here c.args.records.now)) c.args.word.now (sym c.is_word.ensures ∙ c.if-not-is_word.false))
    (λ k h. c.loop-index.invariant k (omega arith)))
