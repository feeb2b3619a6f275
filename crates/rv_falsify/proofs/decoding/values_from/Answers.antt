use Rattle.std.proofs.Common.{◌≡◌, ◌*◌, ◌∙◌, ◌∷◌, [], ℕ, List, pos, length, length-append, map, ap, arith}
use Rattle.rv_agreement.specs.Trees.{kind_at}
use Rattle.rv_control.specs.Spelled.{value_at}
use Rattle.rv_falsify.specs.Decoding.{bits_before, bits_along}
use Rattle.rv_falsify.proofs.{Counted.step_more, Counted.steps_within, Spelling.along_same, Spelling.decoded_all, Spelling.each_more}
use Rattle.rv_falsify.proofs.decoding.values_from.Goals as goal

pub value_from-requires-clause-end : goal.value_from-requires-clause-end
value_from-requires-clause-end c =
    omega (
      arith,
      c.loop-kind.invariant.at,
      c.requires.end,
      steps_within (map (λ ls. length ls) c.args.labels.now) c.args.kinds.now c.args.first c.args.step c.loop-kind.kind-index c.loop-kind-test.true,
    )

pub overflow_add-at : goal.overflow_add-at
overflow_add-at c =
    omega (
      arith,
      c.loop-kind.invariant.at,
      c.requires.end,
      ap (λ n. c.args.step * n) c.bits_of_kind.ensures,
      steps_within (map (λ ls. length ls) c.args.labels.now) c.args.kinds.now c.args.first c.args.step c.loop-kind.kind-index c.loop-kind-test.true,
    )

pub loop-kind-preserved : goal.loop-kind-preserved
loop-kind-preserved c =
    let labels : List ℕ = map (λ ls. length ls) c.args.labels.now in
    let ks = c.args.kinds.now in
    let n = c.loop-kind.kind-index in
    let step = c.args.step in
    record {
      at = omega (
        arith,
        c.loop-kind.invariant.at,
        ap (λ n. c.args.step * n) c.bits_of_kind.ensures,
        step_more labels ks c.args.first step n c.loop-kind-test.true,
      );
      size = omega (arith, c.loop-kind.invariant.size, ap length c.in_ok-push.ensures.ok, length-append c.loop-kind.values (c.value_from.result ∷ []));
      each = each_more c.loop-kind.values c.value_from.result n
          (λ m. value_at labels (kind_at ks m) (bits_along labels ks c.args.word.now c.args.first step m) (pos 0))
          c.push.new.self c.in_ok-push.ensures.ok c.loop-kind.invariant.size
          (c.value_from.ensures
          ∙ (λ i. value_at labels (kind_at ks n) (λ b. along_same c.args.word.now c.loop-kind.at c.args.first step (bits_before labels ks n)
          c.loop-kind.invariant.at b i) (pos 0)))
          c.loop-kind.invariant.each;
    }

pub returns : goal.returns
returns c =
    let labels : List ℕ = map (λ ls. length ls) c.args.labels.now in
    let ks = c.args.kinds.now in
    let many : c.loop-kind.kind-index ≡ length ks = omega arith in
    decoded_all labels ks (bits_along labels ks c.args.word.now c.args.first c.args.step) c.loop-kind.values (c.loop-kind.invariant.size ∙ many)
    (λ m lt. c.loop-kind.invariant.each m (omega (arith, many, lt)))
