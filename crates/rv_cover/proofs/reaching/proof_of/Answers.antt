use Rattle.std.proofs.{Common.arith, Common.length, lemmas.Option.IfSome_then}
use Rattle.rv_boxes.specs.Boxed.{IsGreatest}
use Rattle.rv_cover.proofs.Rowing.{record_greatest}
use Rattle.rv_cover.proofs.reaching.proof_of.Goals as goal

pub returns-in-Some : goal.returns-in-Some
returns-in-Some c =
    let great : IsGreatest (length c.args.ends.now) c.args.premises.now c.args.row.now.coefficients c.in-Some.peak = rw c.in-Some.is at
    c.in_ok-peak.ensures.some in
    let wide = c.requires.width in
    let few = c.requires.ends.few in
    IfSome_then c.proved_by.result c.proved_by.ensures (λ m e. record_greatest (length c.args.ends.now) c.args.premises.now c.args.row.now.coefficients
    c.in-Some.peak m (omega (arith, wide, few)) great e)
