use Rattle.std.proofs.Common.{◌++◌, sym, ap, ◌∙◌, append_assoc, List}
use Rattle.std.proofs.{lemmas.List.append-nil, lemmas.Result.err_from_is_err_and}
use Rattle.std.specs.Prelude.{Ok}
use Rattle.rv_syntax.specs.{ProgramText.joined, Reading.flows, declared.rules.Local.Local, Reads.same}
use Rattle.rv_tree.specs.declared.tree.Decl.{Decl}
use Rattle.rv_syntax.proofs.Loop.{locals-loop, goes-on, ends, stops-with}
use Rattle.rv_syntax.proofs.rules.read_next_locals.Goals as goal

pub returns-in_err-local : goal.returns-in_err-local
returns-in_err-local c =
    let p = err_from_is_err_and c.from_residual.result c.from_residual.ensures.1 in
    rw (p.1, p.2) (stops-with {X = List Decl} {Y = Local} locals-loop _ same flows _ _ _
    (sym c.more-test.true ∙ c.sees_local.ensures) c.more.invariant c.in_err-local.ensures)

pub more-smaller : goal.more-smaller
more-smaller c = locals-loop.less c.more.parser.rest c.read_local.new.parser.rest (flows c.in_ok-local.local) c.in_ok-local.ensures

pub more-preserved : goal.more-preserved
more-preserved c =
    goes-on locals-loop _ (sym c.more-test.true ∙ c.sees_local.ensures) c.in_ok-local.ensures c.more.invariant
    (λ more. sym (append_assoc c.more.found (flows c.in_ok-local.local) (joined more)) ∙ ap (λ l. l ++ joined more) (sym c.in_ok-found.ensures))

pub returns : goal.returns
returns c =
    ends locals-loop _ (sym c.more-test.false ∙ c.sees_local.ensures) c.more.invariant
    ∙ ap (λ l. Ok (l, c.more.parser.rest)) (append-nil c.more.found)
