use Rattle.std.proofs.Common.{[], ℕ, List, map, arith, sym, ◌∙◌, below_more}
use Rattle.std.specs.Borrow.{Bor}
use Rattle.rv_invfile.specs.Ahead.{here}
use Rattle.rv_invfile.proofs.SameFields.{other-field, texts-same, text-get}
use Rattle.rv_meaning.proofs.Rows.{no_flag}
use Rattle.rv_invfile.proofs.singles.is_row.Goals as goal

pub returns : goal.returns
returns c = sym (texts-same (λ (f : Bor (List ℕ)). f.now) (here c.args.records.now) c.args.fields.now (omega arith)
    (λ k h. c.loop-index.invariant k (omega arith)))

pub returns-then-not-is_same : goal.returns-then-not-is_same
returns-then-not-is_same c =
    sym (other-field (here c.args.records.now) (map (λ (f : Bor (List ℕ)). f.now) c.args.fields.now) c.loop-index.index
    (λ e. no_flag (sym c.if-not-is_same.true ∙ c.is_same.ensures.1 (c.field.ensures ∙ e
    ∙ text-get (λ (f : Bor (List ℕ)). f.now) c.args.fields.now c.loop-index.index (record { ref_ptr = (0, 0); now = [] }) c.loop-index-test.true))))

pub loop-index-preserved : goal.loop-index-preserved
loop-index-preserved c =
    below_more _ _ c.loop-index.invariant
    (sym c.field.ensures ∙ c.is_same.ensures.0 c.if-not-is_same.false ∙ sym
    (text-get (λ (f : Bor (List ℕ)). f.now) c.args.fields.now c.loop-index.index (record { ref_ptr = (0, 0); now = [] }) c.loop-index-test.true))
