use Rattle.std.specs.Prelude.{Ok}
use Rattle.std.proofs.Common.{sym, ap, ◌∙◌, List}
use Rattle.std.proofs.{lemmas.List.append-nil, lemmas.Result.err_from_is_err_and}
use Rattle.rv_tree.specs.declared.tree.Name.{Name}
use Rattle.rv_syntax.specs.Reads.{same}
use Rattle.rv_syntax.proofs.Loop.{names-loop, goes-on, pushed, ends, stops-with}
use Rattle.rv_syntax.proofs.rules.read_next_names.Goals as goal

pub returns-in_err-read_next_name : goal.returns-in_err-read_next_name
returns-in_err-read_next_name c =
    let p = err_from_is_err_and c.from_residual.result c.from_residual.ensures.1 in
    rw (p.1, p.2) (stops-with {X = List Name} {Y = Name} names-loop _ same same _ _ _
    (sym c.more-test.true ∙ c.sees.ensures) c.more.invariant c.in_err-read_next_name.ensures)

pub more-smaller : goal.more-smaller
more-smaller c = names-loop.less c.more.parser.rest c.read_next_name.new.parser.rest c.in_ok-read_next_name.field-0 c.in_ok-read_next_name.ensures

pub more-preserved : goal.more-preserved
more-preserved c =
    goes-on names-loop _ (sym c.more-test.true ∙ c.sees.ensures) c.in_ok-read_next_name.ensures c.more.invariant (pushed _ _ c.in_ok-push.ensures.ok)

pub returns : goal.returns
returns c =
    ends names-loop _ (sym c.more-test.false ∙ c.sees.ensures) c.more.invariant
    ∙ ap (λ l. Ok (l, c.more.parser.rest)) (append-nil c.more.found)
