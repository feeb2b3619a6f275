use Rattle.std.proofs.{Common.refl, lemmas.Result.err_from_is_err_and}
use Rattle.rv_invfile.specs.Ahead.{here}
use Rattle.rv_invariant.specs.Pieces.{by_form, multipliers_of}
use Rattle.rv_invariant.proofs.Grouping.{fields-stop}
use Rattle.rv_invariant.proofs.multipliers.read_proof.Goals as goal

pub returns-in_err-multipliers : goal.returns-in_err-multipliers
returns-in_err-multipliers c =
    let s = c.args.records.now in
    let p = err_from_is_err_and c.from_residual-in_err-multipliers.result c.from_residual-in_err-multipliers.ensures.1 in
    rw (p.1, p.2) (fields-stop (by_form c.args.greatest c.args.premises) multipliers_of s (multipliers_of (here s)) c.in_err-multipliers.field-0.0 s
    c.in_ok-expect_groups.ensures refl c.in_err-multipliers.ensures)
