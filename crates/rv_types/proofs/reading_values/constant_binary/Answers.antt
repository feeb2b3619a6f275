use Rattle.std.proofs.Common.{◌≡◌, ◌&&◌, min, nat_abs, Some, subst, arith, ◌∙◌}
use Rattle.rv_types.specs.Constants.{whole_in, value_under, weight_under, weight_of}
use Rattle.rv_types.specs.ConstantParts.{IsKnownBound, constant_part}
use Rattle.rv_base.specs.Limits.{too_heavy}
use Rattle.rv_tree.specs.Tree.{Binary}
use Rattle.rv_types.proofs.{ConstantValues.is_part, ConstantValues.makes_form, ConstantValues.not_arrow, Weights.capped}
use Rattle.rv_types.proofs.reading_values.constant_binary.Goals as goal

pub returns-in-Some-b : goal.returns-in-Some-b
returns-in-Some-b c = record {
  bound = record {
    value = c.of_operator.ensures.bound;
    weight =
        let a = subst IsKnownBound c.in-Some.is c.requires.a in
        let b = subst IsKnownBound c.in-Some-b.is c.requires.b in
        let e = c.of_operator.ensures.weight _ _ (capped _ a.weight) (capped _ b.weight) in
        omega (arith, e);
  };
  value = λ s known x y a b.
      let o = c.args.op in
      let pa = is_part s known x c.in-Some.a (let e : Some c.in-Some.a ≡ constant_part s known x = cc in e) in
      let pb = is_part s known y c.in-Some-b.b (let e : Some c.in-Some-b.b ≡ constant_part s known y = cc in e) in
      makes_form s known (Binary o x y) c.of_operator.result
      (not_arrow s o x y c.in_default.not-Arrow ∙ (λ i. pa.constant i && pb.constant i))
      (c.of_operator.ensures.value (weight_of known x) (weight_of known y) pa.weight pb.weight
      ∙ (λ i. value_under (weight_under o (nat_abs (whole_in (pa.value i))) (weight_of known x) (weight_of known y)) o (pa.value i) (pb.value i)))
      (c.of_operator.ensures.weight (weight_of known x) (weight_of known y) pa.weight pb.weight
      ∙ (λ i. min (weight_under o (nat_abs (whole_in (pa.value i))) (weight_of known x) (weight_of known y)) too_heavy));
}
