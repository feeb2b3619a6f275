use Rattle.std.proofs.Common.{rules, ◌≡◌, ℤ, pos, ◌+ℤ◌, ◌-ℤ◌, neg_ℤ, ap, ◌∙◌, SFits, to_z, of_z}
use Rattle.std.proofs.{lemmas.Int.to_z-of_z, lemmas.Result.on_ok_weaker}
use Rattle.std.specs.Int.{w128}
use Rattle.rv_flatten.proofs.Gathered.{six_more}
use Rattle.rv_flatten.proofs.thresholds.add_around.Goals as goal

pub returns : goal.returns
returns c =
    let n : ℤ = c.args.number in
    let fits_before : SFits w128 c.one_less-before.result = search rules in
    let fits_after : SFits w128 c.one_more-after.result = search rules in
    let fits : SFits w128 n = search rules in
    let fits_4 : SFits w128 c.negative.result = search rules in
    let fits_5 : SFits w128 c.negative-2.result = search rules in
    let fits_6 : SFits w128 c.negative-3.result = search rules in
    let same : to_z w128 (of_z w128 n) ≡ n = to_z-of_z w128 n fits in
    let before : to_z w128 (of_z w128 c.one_less-before.result) ≡ n -ℤ pos 1 = to_z-of_z w128 c.one_less-before.result fits_before ∙ c.one_less-before.ensures
    ∙ ap (λ z. z -ℤ pos 1) same in
    let after : to_z w128 (of_z w128 c.one_more-after.result) ≡ n +ℤ pos 1 = to_z-of_z w128 c.one_more-after.result fits_after ∙ c.one_more-after.ensures
    ∙ ap (λ z. z +ℤ pos 1) same in
    on_ok_weaker c.push-6.result
    (λ last. six_more c.args.spread.now c.push.new.self c.push-2.new.self c.push-3.new.self c.push-4.new.self c.push-5.new.self c.push-6.new.self
    (n -ℤ pos 1) n (n +ℤ pos 1) (neg_ℤ (n -ℤ pos 1)) (neg_ℤ n) (neg_ℤ (n +ℤ pos 1)) _ _ _ _ _ _
    c.in_ok-push.ensures.ok c.in_ok-push-2.ensures.ok c.in_ok-push-3.ensures.ok c.in_ok-push-4.ensures.ok c.in_ok-push-5.ensures.ok last before same after
    (to_z-of_z w128 c.negative.result fits_4 ∙ c.negative.ensures ∙ ap neg_ℤ before)
    (to_z-of_z w128 c.negative-2.result fits_5 ∙ c.negative-2.ensures ∙ ap neg_ℤ same)
    (to_z-of_z w128 c.negative-3.result fits_6 ∙ c.negative-3.ensures ∙ ap neg_ℤ after)) c.push-6.ensures.ok
