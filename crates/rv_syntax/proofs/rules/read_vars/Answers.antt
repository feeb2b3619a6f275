use Rattle.std.proofs.{Common.◌++◌, Common.sym, Common.ap, Common.◌∙◌, Common.append_assoc, lemmas.List.append-nil, lemmas.Result.err_from_is_err_and}
use Rattle.std.specs.Prelude.{Ok}
use Rattle.rv_syntax.specs.{ProgramText.joined, Reading.var}
use Rattle.rv_syntax.proofs.Loop.{vars-loop, goes-on, ends, made-of, front-stops}
use Rattle.rv_syntax.proofs.rules.read_vars.Goals as goal

pub returns-in_err-found : goal.returns-in_err-found
returns-in_err-found c =
    let p = err_from_is_err_and c.from_residual.result c.from_residual.ensures.1 in
    rw (p.1, p.2) (front-stops _ _ _ _ (sym c.more-test.true ∙ c.sees.ensures) c.more.invariant c.in_err-found.ensures)

pub more-smaller : goal.more-smaller
more-smaller c =
    let m = made-of (var c.more.parser.rest) c.in_ok-found.ensures in
    vars-loop.less c.more.parser.rest c.read_var.new.parser.rest m.0 m.1

pub more-preserved : goal.more-preserved
more-preserved c =
    let m = made-of (var c.more.parser.rest) c.in_ok-found.ensures in
    goes-on vars-loop _ (sym c.more-test.true ∙ c.sees.ensures) m.1 c.more.invariant
    (λ more. sym (append_assoc c.more.found m.0 (joined more)) ∙ ap (λ l. l ++ joined more) m.2)

pub returns : goal.returns
returns c =
    ends vars-loop _ (sym c.more-test.false ∙ c.sees.ensures) c.more.invariant
    ∙ ap (λ l. Ok (l, c.more.parser.rest)) (append-nil c.more.found)
