use Rattle.std.proofs.Common.{◌+◌, arith, sym, ap, ◌∙◌, length, below_more}
use Rattle.std.specs.Prelude.{is_some}
use Rattle.rv_invfile.specs.{Ahead.here, Texts.value_of, Traces.given, Traces.read_values, Traces.input_kinds, Traces.tail_of}
use Rattle.rv_invfile.proofs.Instants.{one-bad, none-bad, field-allowed, values-more, values-end}
use Rattle.rv_invfile.proofs.traces.read_values.Goals as goal

pub returns-in_default : goal.returns-in_default
returns-in_default c =
    let f = c.args.flat.now in
    let r = here c.args.records.now in
    let i = c.loop-index.index in
    let wrong = field-allowed f r i c.at.result.now c.at.ensures.value ∙ ap (λ t. is_some (value_of f.labels c.at.result.now.kind t)) (sym c.field.ensures)
    ∙ ap is_some (sym c.value_of.ensures ∙ c.in_default.is) in (
      c.number.ensures,
      one-bad ((given f).allows r) 0 (length r) (i + 1) (omega arith)
          (omega (arith, c.requires.many, c.loop-index-test.true, c.len-index-end.ensures)) c.loop-index.invariant.right wrong,
    )

pub loop-index-preserved : goal.loop-index-preserved
loop-index-preserved c =
    let f = c.args.flat.now in
    let r = here c.args.records.now in
    let i = c.loop-index.index in
    let is = sym c.in-Some.is ∙ c.value_of.ensures ∙ ap (λ t. value_of f.labels c.at.result.now.kind t) c.field.ensures in
    let right = field-allowed f r i c.at.result.now c.at.ensures.value ∙ ap is_some (sym is) in
    record {
      read = values-more f r i c.at.result.now c.in-Some.value c.loop-index.values c.push.new.self (read_values f.labels (input_kinds f) (tail_of r))
          c.at.ensures.value (omega (arith, c.requires.many, c.loop-index-test.true, c.len-index-end.ensures)) is c.in_ok-push.ensures.ok
          c.loop-index.invariant.read;
      right = below_more _ _ c.loop-index.invariant.right right;
    }

pub returns : goal.returns
returns c = (
  values-end c.args.flat.now (here c.args.records.now) c.loop-index.index c.loop-index.values
      (read_values c.args.flat.now.labels (input_kinds c.args.flat.now) (tail_of (here c.args.records.now)))
      (omega (arith, c.loop-index-test.false, c.len-index-end.ensures)) c.loop-index.invariant.read,
  none-bad ((given c.args.flat.now).allows (here c.args.records.now)) 0 (length (here c.args.records.now))
      (λ k l. c.loop-index.invariant.right k (omega (arith, c.requires.many, c.loop-index-test.false, c.len-index-end.ensures))),
)
