use Rattle.std.proofs.{Common.◌<◌, Common.◌^◌, Common.replicate, Common.sym, Common.◌∙◌, Common.ap, Common.subst, lemmas.Result.IfOk-weaker}
use Rattle.rv_flatten.specs.Positions.{told}
use Rattle.rv_flatten.proofs.Standings.{ticks_stand}
use Rattle.rv_flatten.proofs.ticks.tick_numbers.Goals as goal

pub returns : goal.returns
returns c places size rising ordered within =
    let ticks = c.args.ticks.now in
    IfOk-weaker c.standing.result _ _ (λ made is k lt w. ticks_stand places ticks made rising (subst (λ n. n < 2 ^ 32) (sym size) c.requires) ordered
    (λ j v. subst (λ n. j < n) (sym size) (within j v)) (is ∙ ap (λ n. told (replicate n 0) 1 ticks) (sym size)) k (subst (λ n. k < n) (sym size) lt) w)
    c.standing.ensures
