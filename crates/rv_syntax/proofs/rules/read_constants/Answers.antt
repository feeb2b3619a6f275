use Rattle.std.proofs.{Common.List, Common.map, Common.subst, Common.ap, Common.◌∙◌, lemmas.List.map_push}
use Rattle.rv_tree.specs.{declared.tree.ConstDecl.ConstDecl, Tree.constant_tree}
use Rattle.rv_syntax.specs.Reads.{Reads}
use Rattle.rv_syntax.proofs.Loop.{from-constants}
use Rattle.rv_syntax.proofs.rules.read_constants.Goals as goal

pub returns : goal.returns
returns c =
    let e = ap (map constant_tree) c.in_ok-push.ensures.ok ∙ map_push constant_tree c.args.found c.in_ok-read_constant.field-0 in
    subst (λ r. Reads {X = List ConstDecl} (map constant_tree) r c.read_next_constants.result c.read_next_constants.new.parser.rest)
    (from-constants _ _ c.in_ok-expect.ensures c.in_ok-read_constant.ensures e) c.read_next_constants.ensures
