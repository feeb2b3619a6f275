use Rattle.std.proofs.Common.{◌≡◌, ℕ, length, arith, subst}
use Rattle.rv_pairs.specs.Keys.{AreKeys, AreIndexed}
use Rattle.rv_pairs.proofs.Placing.{indexed_none, keys_none}
use Rattle.rv_pairs.proofs.indexed.LabelledRows.new.Goals as goal

pub loop-place-init : goal.loop-place-init
loop-place-init c = record {
  keys = keys_none c.args.list c.new-keys.result c.new-keys.ensures;
  places = indexed_none c.args.list c.in_ok-places.places.items c.in_ok-places.ensures;
}

pub invariant_of-result : goal.invariant_of-result
invariant_of-result c =
    let e : c.loop-place.place ≡ length c.args.list = omega (arith, c.loop-place-test.false, c.loop-place.auto, c.len-place-end.ensures) in (
      subst (λ (n : ℕ). AreKeys c.args.list n c.loop-place.keys) e c.loop-place.invariant.keys,
      subst (λ (n : ℕ). AreIndexed c.args.list n c.loop-place.places.items) e c.loop-place.invariant.places,
    )
