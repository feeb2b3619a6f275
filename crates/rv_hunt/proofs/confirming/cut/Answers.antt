use Rattle.rv_tree.specs.Tree.{program_tree}
use Rattle.rv_types.specs.Instances.{name_at}
use Rattle.rv_hunt.proofs.Cutting.{cut_falsifies}
use Rattle.rv_hunt.proofs.confirming.cut.Goals as goal

pub returns-in-Some : goal.returns-in-Some
returns-in-Some c = record {
  falsifies = λ t e.
      let s = c.args.source.now in
      let p = program_tree s.program in
      cut_falsifies p (name_at p s.typed.main) c.args.trace c.in-Some.last c.requires.trace (c.in_ok-last.ensures.found c.in-Some.last (cc)) c.truncate.new.self
      c.truncate.ensures t (cc);
}
