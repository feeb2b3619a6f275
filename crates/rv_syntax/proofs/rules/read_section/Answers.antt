use Rattle.std.proofs.{Common.◌++◌, Common.◌∷◌, Common.[], Common.map, Common.sym, Common.ap, Common.◌∙◌, Common.List, lemmas.List.map_push}
use Rattle.std.specs.Prelude.{Ok}
use Rattle.rv_tree.specs.{Tree.NodeTree, Tree.ConstantTree, Tree.node_tree, Tree.program_tree, declared.tree.TypeDecl.TypeDecl}
use Rattle.rv_syntax.specs.Reading.{mapped}
use Rattle.rv_syntax.proofs.Loop.{made-program, section-types, section-constants, section-node}
use Rattle.rv_syntax.proofs.rules.read_section.Goals.{then-sees+in_ok-found, else-sees+then-sees-2+in_ok-found-2}
use Rattle.rv_syntax.proofs.rules.read_section.Goals.{else-sees+else-sees-2+in_ok-read_node+in_ok-push}
use Rattle.rv_syntax.proofs.rules.read_section.Goals as goal

pub returns : goal.returns
returns c =
    let p = program_tree c.args.found in
    let ts = c.args.parser.now.rest in
    elim c.if-sees.branch [
      | then-sees+in_ok-found w ↦
          section-types p ts (sym w.if-sees.true ∙ c.sees.ensures)
          ∙ ap (mapped (λ (l : List TypeDecl). made-program l p.constants p.nodes)) w.in_ok-found.ensures
          ∙ ap (λ q. Ok (program_tree q, w.read_types.new.parser.rest)) (sym w.found-is)
          ∙ ap (λ q. Ok (program_tree c.if-sees.found, q.rest)) (sym w.parser-is)
      | else-sees+then-sees-2+in_ok-found-2 w ↦
          section-constants p ts (sym w.if-sees.false ∙ c.sees.ensures) (sym w.if-sees-2.true ∙ w.sees-else-sees.ensures)
          ∙ ap (mapped (λ (l : List ConstantTree). made-program p.types l p.nodes)) w.in_ok-found-2.ensures
          ∙ ap (λ q. Ok (program_tree q, w.read_constants.new.parser.rest)) (sym w.found-is)
          ∙ ap (λ q. Ok (program_tree c.if-sees.found, q.rest)) (sym w.parser-is)
      | else-sees+else-sees-2+in_ok-read_node+in_ok-push w ↦
          let pushed = ap (map node_tree) w.in_ok-push.ensures.ok ∙ map_push node_tree c.args.found.nodes w.in_ok-read_node.field-0 in
          section-node p ts (sym w.if-sees.false ∙ c.sees.ensures) (sym w.if-sees-2.false ∙ w.sees-else-sees.ensures)
          ∙ ap (mapped (λ (n : NodeTree). made-program p.types p.constants (p.nodes ++ n ∷ []))) w.in_ok-read_node.ensures
          ∙ ap (λ l. Ok (made-program p.types p.constants l, w.read_node.new.parser.rest)) (sym pushed)
          ∙ ap (λ q. Ok (program_tree q, w.read_node.new.parser.rest)) (sym w.found-is)
          ∙ ap (λ q. Ok (program_tree c.if-sees.found, q.rest)) (sym w.parser-is)
    ]
