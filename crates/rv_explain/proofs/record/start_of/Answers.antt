use Rattle.std.proofs.Common.{sym, length-take-le, arith}
use Rattle.rv_explain.proofs.record.start_of.Goals as goal

pub slice_bounds-result-end : goal.slice_bounds-result-end
slice_bounds-result-end c = sym (length-take-le 1048576 c.args.line.now (omega (arith, c.if-line-gt-MOST_BYTES.true)))

pub returns-then-line-gt-MOST_BYTES : goal.returns-then-line-gt-MOST_BYTES
returns-then-line-gt-MOST_BYTES c =
    let is = length-take-le 1048576 c.args.line.now (omega (arith, c.if-line-gt-MOST_BYTES.true)) in
    omega (arith, is)
