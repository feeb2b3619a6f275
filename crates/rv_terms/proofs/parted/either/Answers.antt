use Rattle.std.proofs.{Common.refl, lemmas.Result.on_ok_weaker}
use Rattle.rv_diagram.specs.Nodes.{value_of}
use Rattle.rv_diagram.proofs.Counting.{joined_fewest, joined_needs}
use Rattle.rv_terms.proofs.parted.either.Goals as goal

pub returns-clause-few : goal.returns-clause-few
returns-clause-few c = on_ok_weaker c.or.result
    (joined_fewest c.args.store.now.variables c.args.store.now.nodes c.or.new.self.nodes (value_of c.args.store.now.nodes c.args.a)
    (value_of c.args.store.now.nodes c.args.b) c.mark-count.ensures.reduced
    (c.mark-count.ensures.reads c.args.a c.requires.a) (c.mark-count.ensures.reads c.args.b c.requires.b) (c.args.a, c.requires.a, λ v. refl))
    c.or.ensures.fewest

pub returns-clause-needs : goal.returns-clause-needs
returns-clause-needs c h = joined_needs c.args.store.now.variables c.args.store.now.nodes c.args.store.now.limit (value_of c.args.store.now.nodes c.args.a)
    (value_of c.args.store.now.nodes c.args.b) c.mark-count.ensures.reduced
    (c.mark-count.ensures.reads c.args.a c.requires.a) (c.mark-count.ensures.reads c.args.b c.requires.b) (c.args.a, c.requires.a, λ v. refl)
    (c.or.ensures.nodes h)
