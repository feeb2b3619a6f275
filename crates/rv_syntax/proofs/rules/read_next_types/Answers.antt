use Rattle.std.specs.Prelude.{Ok}
use Rattle.std.proofs.Common.{sym, ap, ◌∙◌, List}
use Rattle.std.proofs.{lemmas.List.append-nil, lemmas.Result.err_from_is_err_and}
use Rattle.rv_tree.specs.declared.tree.TypeDecl.{TypeDecl}
use Rattle.rv_syntax.specs.Reads.{same}
use Rattle.rv_syntax.proofs.Loop.{types-loop, goes-on, pushed, ends, stops-with}
use Rattle.rv_syntax.proofs.rules.read_next_types.Goals as goal

pub returns-in_err-read_type : goal.returns-in_err-read_type
returns-in_err-read_type c =
    let p = err_from_is_err_and c.from_residual.result c.from_residual.ensures.1 in
    rw (p.1, p.2) (stops-with {X = List TypeDecl} {Y = TypeDecl} types-loop _ same same _ _ _
    (sym c.more-test.true ∙ c.sees_name.ensures) c.more.invariant c.in_err-read_type.ensures)

pub more-smaller : goal.more-smaller
more-smaller c = types-loop.less c.more.parser.rest c.read_type.new.parser.rest c.in_ok-read_type.field-0 c.in_ok-read_type.ensures

pub more-preserved : goal.more-preserved
more-preserved c =
    goes-on types-loop _ (sym c.more-test.true ∙ c.sees_name.ensures) c.in_ok-read_type.ensures c.more.invariant (pushed _ _ c.in_ok-push.ensures.ok)

pub returns : goal.returns
returns c =
    ends types-loop _ (sym c.more-test.false ∙ c.sees_name.ensures) c.more.invariant
    ∙ ap (λ l. Ok (l, c.more.parser.rest)) (append-nil c.more.found)
