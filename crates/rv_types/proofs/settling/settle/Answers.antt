use Rattle.std.proofs.Common.{◌≡◌, subst, rules, IfOk, IfErr}
use Rattle.rv_tree.specs.Tree.{program_tree}
use Rattle.rv_types.specs.Settled.{IsSettled, HasCause}
use Rattle.rv_types.proofs.Answered.{only_answer, only_refusal}
use Rattle.rv_types.proofs.settling.settle.Goals as goal

pub returns-clause-only : goal.returns-clause-only
returns-clause-only c =
    let p = program_tree c.args.p.now in
    let name : c.in_ok-main.main ≡ c.args.main.now = search rules in
    only_answer p c.args.main.now c.settled.result
    (subst (λ x. IfOk c.settled.result (λ t. IsSettled p x t)) name c.settled.ensures.found)
    (subst (λ x. IfErr c.settled.result (HasCause p x)) name c.settled.ensures.refused)

pub returns-clause-only_refused : goal.returns-clause-only_refused
returns-clause-only_refused c =
    let p = program_tree c.args.p.now in
    let name : c.in_ok-main.main ≡ c.args.main.now = search rules in
    only_refusal p c.args.main.now c.settled.result
    (subst (λ x. IfOk c.settled.result (λ t. IsSettled p x t)) name c.settled.ensures.found)
    (subst (λ x. IfErr c.settled.result (HasCause p x)) name c.settled.ensures.refused)

pub settled-requires : goal.settled-requires
settled-requires c = c.requires.bounded
