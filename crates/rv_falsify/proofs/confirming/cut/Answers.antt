use Rattle.rv_tree.specs.Tree.{program_tree}
use Rattle.rv_types.specs.Instances.{name_at}
use Rattle.rv_falsify.proofs.Cutting.{cut_falsifies}
use Rattle.rv_falsify.proofs.confirming.cut.Goals as goal

pub returns-in-Some-clause-falsifies : goal.returns-in-Some-clause-falsifies
returns-in-Some-clause-falsifies c = λ t e.
    let s = c.args.source.now in
    let p = program_tree s.program in
    cut_falsifies p (name_at p s.typed.main) c.args.trace c.in-Some.last c.requires.trace (c.in_ok-last.ensures.found c.in-Some.last (cc)) c.truncate.new.self
    c.truncate.ensures t (cc)

pub returns-in-None-clause-missing : goal.returns-in-None-clause-missing
returns-in-None-clause-missing c = λ e k is. c.in_ok-last.ensures.never k (cc) is
