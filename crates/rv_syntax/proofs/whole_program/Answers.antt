use Rattle.std.proofs.Common.{sym, ap, ◌∙◌, arith}
use Rattle.std.specs.Prelude.{Ok}
use Rattle.rv_syntax.specs.{Reading.program, Stopped.shortfall, Stopped.fault_at}
use Rattle.rv_tree.specs.Tree.{program_tree}
use Rattle.rv_syntax.proofs.FirstFault.{left-within, told}
use Rattle.rv_syntax.proofs.whole_program.Goals as goal

pub fault_of-requires : goal.fault_of-requires
fault_of-requires c =
    let e = rw c.in-Err-Token.field-0-is at c.in-Err-Token.ensures.reads in
    let short = ap (λ r. shortfall (program r)) (sym c.new-parser.ensures) ∙ ap shortfall e.1 in
    let h = left-within c.args.tokens.now c.in-Err-Token.why c.read_program.new.parser.rest short in
    omega (arith, e.0, c.in-Err-Token.left-is, h)

pub returns-in-Ok-clause-found : goal.returns-in-Ok-clause-found
returns-in-Ok-clause-found c = ap program (sym c.new-parser.ensures) ∙ c.in-Ok.ensures.reads
    ∙ ap (λ rest. Ok (program_tree c.in-Ok.program, rest)) c.in-Ok.ensures.whole

pub returns-in-Err-Token-clause-refused : goal.returns-in-Err-Token-clause-refused
returns-in-Err-Token-clause-refused c =
    let rest = c.read_program.new.parser.rest in
    let e = rw c.in-Err-Token.field-0-is at c.in-Err-Token.ensures.reads in
    let short = ap (λ r. shortfall (program r)) (sym c.new-parser.ensures) ∙ ap shortfall e.1 in
    told c.args.tokens.now c.args.len c.in-Err-Token.why rest c.fault_of.result short
    (λ front after spelled n. c.fault_of.ensures front after spelled (n ∙ sym e.0 ∙ sym c.in-Err-Token.left-is)
    ∙ ap (λ w. fault_at front after w c.args.len) c.in-Err-Token.why-is)
