use Rattle.std.proofs.{Common.sym, Common.ap, Common.◌∙◌, lemmas.Result.err_from_is_err_and}
use Rattle.std.specs.Prelude.{Ok, Option}
use Rattle.rv_syntax.specs.{Reading.some_group}
use Rattle.std.proofs.Common.{List}
use Rattle.rv_syntax.specs.declared.rules.Group as written
use Rattle.rv_tree.specs.declared.tree.Decl.{Decl}
use Rattle.rv_syntax.specs.Reads.{same}
use Rattle.rv_syntax.proofs.Loop.{groups-go-on, groups-last, groups-end, groups-stop, groups-loop}
use Rattle.rv_syntax.proofs.rules.read_next_groups.Goals as goal

pub returns-in_err-group : goal.returns-in_err-group
returns-in_err-group c =
    let p = err_from_is_err_and c.from_residual.result c.from_residual.ensures.1 in
    rw (p.1, p.2) (groups-stop _ _ c.more.invariant {X = List Decl} {Y = Option written.Group} same some_group _ _
    (sym c.more-test.true ∙ c.sees.ensures) c.in_err-group.ensures)

pub more-smaller : goal.more-smaller
more-smaller c = groups-loop.less c.more.parser.rest c.read_next_group.new.parser.rest (some_group c.in_ok-group.field-0) c.in_ok-group.ensures

pub more-preserved : goal.more-preserved
more-preserved c =
    groups-go-on _ c.in_ok-found-in-Some.ensures _ (sym c.more-test.true ∙ c.sees.ensures)
    (c.in_ok-group.ensures ∙ ap (λ o. Ok (some_group o, c.read_next_group.new.parser.rest)) c.in-Some.is) c.more.invariant

pub returns-in-None : goal.returns-in-None
returns-in-None c =
    groups-last _ _ c.more.invariant (sym c.more-test.true ∙ c.sees.ensures)
    (c.in_ok-group.ensures ∙ ap (λ o. Ok (some_group o, c.read_next_group.new.parser.rest)) c.in-None.is)

pub returns : goal.returns
returns c = groups-end _ _ c.more.invariant (sym c.more-test.false ∙ c.sees.ensures)
