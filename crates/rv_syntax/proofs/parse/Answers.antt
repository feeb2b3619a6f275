use Rattle.std.proofs.{Common.ap, Common.◌∙◌, Common.subst, lemmas.Result.err_from_is_err_and}
use Rattle.std.specs.Prelude.{Ok, Err}
use Rattle.rv_syntax.specs.{ProgramText.IsProgram, Reading.program}
use Rattle.rv_tree.specs.Tree.{program_tree}
use Rattle.rv_syntax.proofs.FirstFault.{Answered, whole, answers, refuses, only-tree, only-fault}
use Rattle.rv_syntax.proofs.Bounds.{program-fits}
use Rattle.rv_syntax.proofs.parse.Goals as goal

refused : (c : goal.After-drop-tokens) → Answered c.args.bytes.now c.from_residual-in_err-program.result
refused c =
    let p = err_from_is_err_and c.from_residual-in_err-program.result c.from_residual-in_err-program.ensures.1 in
    refuses c.args.bytes.now c.deref.result.now c.in_err-program.field-0.0 c.from_residual-in_err-program.result
    (c.deref.ensures.value ∙ c.in_ok-tokens.ensures) c.in_err-program.ensures.refused (p.1 ∙ ap Err p.2)

pub returns-in_err-program-clause-offending : goal.returns-in_err-program-clause-offending
returns-in_err-program-clause-offending c = (refused c).told

pub returns-in_err-program-clause-only : goal.returns-in_err-program-clause-only
returns-in_err-program-clause-only c = only-tree c.args.bytes.now c.from_residual-in_err-program.result (refused c)

pub returns-in_err-program-clause-only_offending : goal.returns-in_err-program-clause-only_offending
returns-in_err-program-clause-only_offending c = only-fault c.args.bytes.now c.from_residual-in_err-program.result (refused c)

pub with_program_sites-requires : goal.with_program_sites-requires
with_program_sites-requires c =
    let p = program_tree c.in_ok-program.program in
    let w = whole c.deref.result.now p c.in_ok-program.ensures.found in
    program-fits c.args.bytes.now p c.requires (subst (IsProgram p) (c.deref.ensures.value ∙ c.in_ok-tokens.ensures) w.program)

answered : (c : goal.After-drop-tokens-2) → Answered c.args.bytes.now (Ok c.in_ok-sited.sited)
answered c =
    answers c.args.bytes.now c.deref.result.now (program_tree c.in_ok-program.program) c.in_ok-sited.sited
    (c.deref.ensures.value ∙ c.in_ok-tokens.ensures) c.in_ok-program.ensures.found c.in_ok-sited.ensures

pub returns-clause-found : goal.returns-clause-found
returns-clause-found c = (answered c).tree

pub returns-clause-only : goal.returns-clause-only
returns-clause-only c = only-tree c.args.bytes.now (Ok c.in_ok-sited.sited) (answered c)

pub returns-clause-only_offending : goal.returns-clause-only_offending
returns-clause-only_offending c = only-fault c.args.bytes.now (Ok c.in_ok-sited.sited) (answered c)

pub returns-clause-tree : goal.returns-clause-tree
returns-clause-tree c = c.source_trees.ensures (program_tree c.in_ok-sited.sited) (c.args.bytes.now, c.requires, (answered c).tree)
