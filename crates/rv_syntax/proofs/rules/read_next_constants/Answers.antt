use Rattle.std.specs.Prelude.{Ok}
use Rattle.std.proofs.Common.{map, sym, ap, ◌∙◌, List}
use Rattle.std.proofs.{lemmas.List.append-nil, lemmas.List.map_push, lemmas.Result.err_from_is_err_and}
use Rattle.rv_tree.specs.{Tree.constant_tree}
use Rattle.rv_tree.specs.declared.tree.ConstDecl.{ConstDecl}
use Rattle.rv_syntax.proofs.Loop.{constants-loop, goes-on, pushed, ends, stops-with}
use Rattle.rv_syntax.proofs.rules.read_next_constants.Goals as goal

pub returns-in_err-read_constant : goal.returns-in_err-read_constant
returns-in_err-read_constant c =
    let p = err_from_is_err_and c.from_residual.result c.from_residual.ensures.1 in
    rw (p.1, p.2) (stops-with {X = List ConstDecl} {Y = ConstDecl} constants-loop _ (map constant_tree) constant_tree _ _ _
    (sym c.more-test.true ∙ c.sees_name.ensures) c.more.invariant c.in_err-read_constant.ensures)

pub more-smaller : goal.more-smaller
more-smaller c = constants-loop.less c.more.parser.rest c.read_constant.new.parser.rest (constant_tree c.in_ok-read_constant.field-0)
    c.in_ok-read_constant.ensures

pub more-preserved : goal.more-preserved
more-preserved c =
    goes-on constants-loop _ (sym c.more-test.true ∙ c.sees_name.ensures) c.in_ok-read_constant.ensures c.more.invariant
    (pushed _ _ (ap (map constant_tree) c.in_ok-push.ensures.ok ∙ map_push constant_tree c.more.found c.in_ok-read_constant.field-0))

pub returns : goal.returns
returns c =
    ends constants-loop _ (sym c.more-test.false ∙ c.sees_name.ensures) c.more.invariant
    ∙ ap (λ l. Ok (l, c.more.parser.rest)) (append-nil (map constant_tree c.more.found))
