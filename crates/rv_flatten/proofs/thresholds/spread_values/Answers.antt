use Rattle.std.proofs.Common.{◌<◌, ◌++◌, get_or, length, flat_map, false, refl, arith}
use Rattle.std.proofs.lemmas.List.{get_or_default}
use Rattle.rv_base.specs.{declared.value.Value.Value, declared.value.Value.TheVariants.Flag}
use Rattle.rv_flatten.specs.Literals.{around_value}
use Rattle.rv_flatten.proofs.Gathered.{gathered_more, gathered_all}
use Rattle.rv_flatten.proofs.thresholds.spread_values.Goals as goal

pub each-preserved : goal.each-preserved
each-preserved c =
    let all = c.args.values.now in
    let v : Value = get_or all c.each.value-index (Flag false) in
    let lt : c.each.value-index < length all = omega arith in
    gathered_more around_value (flat_map around_value) (λ x xs. refl) all c.each.value-index v c.each.spread c.spread_value.new.spread
    (c.args.spread.now ++ flat_map around_value all) lt (get_or_default all c.each.value-index (Flag false) v lt) c.in_ok-spread_value.ensures c.each.invariant

pub returns : goal.returns
returns c =
    let all = c.args.values.now in
    gathered_all (flat_map around_value) refl all c.each.value-index c.each.spread (c.args.spread.now ++ flat_map around_value all)
    (omega arith) c.each.invariant
