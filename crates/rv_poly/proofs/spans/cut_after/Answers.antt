use Rattle.std.proofs.{Common.◌<◌, Common.◌≤◌, Common.◌^◌, Common.ℤ, Common.◌-ℤ◌, Common.FitsSigned, Common.arith, Common.subst, lemmas.Int.to_z-of_z}
use Rattle.std.specs.{Int.w128, Int.RustNames.unsigned_abs}
use Rattle.rv_poly.specs.Whole.{IsSpanCut}
use Rattle.rv_poly.proofs.WholeLemmas.{le-itself, far-not-zero, rest-small, rest-fits, rest-same}
use Rattle.rv_poly.proofs.spans.cut_after.Goals as goal

pub returns-then-unsigned_abs-gt-FAR-clause-low : goal.returns-then-unsigned_abs-gt-FAR-clause-low
returns-then-unsigned_abs-gt-FAR-clause-low c = le-itself c.args.span.low

pub returns-then-unsigned_abs-gt-FAR-clause-high : goal.returns-then-unsigned_abs-gt-FAR-clause-high
returns-then-unsigned_abs-gt-FAR-clause-high c = le-itself c.args.span.high

pub returns-then-unsigned_abs-gt-FAR-clause-cut : goal.returns-then-unsigned_abs-gt-FAR-clause-cut
returns-then-unsigned_abs-gt-FAR-clause-cut c e =
    let sum_fits = c.ranges.sum in
    let v = simp to_z-of_z at c.unsigned_abs.ensures.value in
    let far : 0 < c.unsigned_abs.result = (let t = c.if-unsigned_abs-gt-FAR.true in omega arith) in
    absurd (far-not-zero c.args.sum c.unsigned_abs.result e v far)

pub overflow_sub-bound : goal.overflow_sub-bound
overflow_sub-bound c =
    let bound_fits = c.ranges.bound in
    let sum_fits = c.ranges.sum in
    let v = simp to_z-of_z at c.unsigned_abs.ensures.value in
    let near : unsigned_abs c.args.sum ≤ 2 ^ 100 = (let t = c.if-unsigned_abs-gt-FAR.false in omega arith) in
    simp to_z-of_z (rest-fits c.args.bound c.args.sum c.requires.bound near)

pub cut_span-requires-clause-by : goal.cut_span-requires-clause-by
cut_span-requires-clause-by c =
    let by_fits = c.ranges.by in
    simp to_z-of_z c.requires.by

pub cut_span-requires-clause-rest : goal.cut_span-requires-clause-rest
cut_span-requires-clause-rest c =
    let bound_fits = c.ranges.bound in
    let sum_fits = c.ranges.sum in
    let v = simp to_z-of_z at c.unsigned_abs.ensures.value in
    let near : unsigned_abs c.args.sum ≤ 2 ^ 100 = (let t = c.if-unsigned_abs-gt-FAR.false in omega arith) in
    let rest_fits : FitsSigned w128 (c.args.bound -ℤ c.args.sum) = rest-fits c.args.bound c.args.sum c.requires.bound near in
    simp to_z-of_z (rest-small c.args.bound c.args.sum c.requires.bound near)

pub returns-clause-low : goal.returns-clause-low
returns-clause-low c = c.cut_span.ensures.low

pub returns-clause-high : goal.returns-clause-high
returns-clause-high c = c.cut_span.ensures.high

pub returns-clause-cut : goal.returns-clause-cut
returns-clause-cut c e =
    let by_fits = c.ranges.by in
    let bound_fits = c.ranges.bound in
    let sum_fits = c.ranges.sum in
    let v = simp to_z-of_z at c.unsigned_abs.ensures.value in
    let near : unsigned_abs c.args.sum ≤ 2 ^ 100 = (let t = c.if-unsigned_abs-gt-FAR.false in omega arith) in
    let rest_fits : FitsSigned w128 (c.args.bound -ℤ c.args.sum) = rest-fits c.args.bound c.args.sum c.requires.bound near in
    let cut : IsSpanCut c.args.by (c.args.bound -ℤ c.args.sum) c.args.span c.cut_span.result = simp to_z-of_z at c.cut_span.ensures in
    let P : ℤ → Type 0 = λ z. IsSpanCut c.args.by z c.args.span c.cut_span.result in
    subst P (rest-same c.args.bound c.args.sum e) cut
