use Rattle.std.proofs.{Common.◌+◌, Common.◌-◌, Common.◌*◌, Common.◌/◌, Common.◌∙◌, Common.length, Common.ap, Common.sym, lemmas.Result.err_from_is_err_and}
use Rattle.std.specs.Prelude.{codes, pos}
use Rattle.rv_invfile.specs.{Ahead.here, Texts.is_natural, Texts.natural}
use Rattle.rv_invariant.specs.{Groups.upto, Pieces.is_divisor, Pieces.is_pair_field, Pieces.multipliers_of, Pieces.weight_at}
use Rattle.rv_invariant.proofs.Grouping.{grouped-is, groups-stop, none-wrong, two}
use Rattle.rv_invariant.proofs.multipliers.read_pairs.Goals as goal

pub returns-in_err-weights : goal.returns-in_err-weights
returns-in_err-weights c =
    let r = here c.args.records.now in
    let n = (c.len-fields.result - 2) / 2 in
    let k = grouped-is (codes "by") 2 r c.requires in
    let size = two.counted (length r) k.1 k.2 ∙ ap (λ l. 2 + 2 * ((l - 2) / 2)) (sym c.len-fields.ensures.exact) in
    let factor = ap (is_natural 1 c.args.greatest) (sym c.field.ensures) ∙ c.in-Some.ensures.0 in
    let p = err_from_is_err_and c.from_residual.result c.from_residual.ensures.1 in
    rw (p.1, p.2) (groups-stop 2 two (is_divisor c.args.greatest) (is_pair_field c.args.premises) (codes "by") c.args.records.now n (upto weight_at r n)
    (multipliers_of r) c.in_err-weights.field-0.0 size factor c.in_err-weights.ensures)

pub returns : goal.returns
returns c =
    let r = here c.args.records.now in
    let n = (c.len-fields.result - 2) / 2 in
    let k = grouped-is (codes "by") 2 r c.requires in
    let size = two.counted (length r) k.1 k.2 ∙ ap (λ l. 2 + 2 * ((l - 2) / 2)) (sym c.len-fields.ensures.exact) in
    let factor = ap (is_natural 1 c.args.greatest) (sym c.field.ensures) ∙ c.in-Some.ensures.0 in
    let weights = c.in_ok-weights.ensures.0 ∙ ap (λ l. upto weight_at r ((l - 2) / 2)) c.len-fields.ensures.exact in
    let told = c.in-Some.ensures.1 ∙ ap natural c.field.ensures in (
      c.multipliers_of.ensures ∙ (λ i. record { divisor = pos (told i); weights = weights i }),
      none-wrong 2 two (is_divisor c.args.greatest)
          (is_pair_field c.args.premises) r n size factor c.in_ok-weights.ensures.1,
    )
