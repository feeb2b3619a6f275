use Rattle.std.proofs.lemmas.Result.{on_ok_weaker}
use Rattle.rv_diagram.specs.Nodes.{choice}
use Rattle.rv_terms.proofs.Classes.{choice_reads}
use Rattle.rv_diagram.proofs.Counting.{fewest_few, needs_few}
use Rattle.rv_terms.proofs.calls.fewest.Goals as goal

pub returns-clause-few : goal.returns-clause-few
returns-clause-few c = on_ok_weaker c.ite.result
    (fewest_few c.args.store.now.variables c.args.store.now.nodes c.ite.new.self.nodes (choice c.args.store.now.nodes c.args.test c.args.yes c.args.no)
    c.mark-count.ensures.reduced
    (choice_reads c.args.store.now.nodes c.args.store.now.variables c.args.test c.args.yes c.args.no c.mark-count.ensures.reads c.requires.test
    c.requires.yes c.requires.no))
    c.ite.ensures.fewest

pub returns-clause-room : goal.returns-clause-room
returns-clause-room c h =
    needs_few c.args.store.now.variables c.args.store.now.nodes c.args.store.now.limit (choice c.args.store.now.nodes c.args.test c.args.yes c.args.no)
    c.mark-count.ensures.reduced
    (choice_reads c.args.store.now.nodes c.args.store.now.variables c.args.test c.args.yes c.args.no c.mark-count.ensures.reads c.requires.test
    c.requires.yes c.requires.no)
    (c.ite.ensures.nodes h)
