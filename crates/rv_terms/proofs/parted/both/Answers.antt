use Rattle.std.proofs.{Common.◌&&◌, Common.arith, lemmas.Result.on_ok_weaker}
use Rattle.rv_diagram.specs.Nodes.{choice, value_of}
use Rattle.rv_diagram.proofs.Calls.{all_answers_same, fewest_same, needs_same, choice-and}
use Rattle.rv_diagram.proofs.Counting.{fewest_few, needs_few, both_reads}
use Rattle.rv_terms.proofs.parted.both.Goals as goal

pub returns-clause-ok : goal.returns-clause-ok
returns-clause-ok c = all_answers_same c.args.store.now c.ite.new.self (choice c.args.store.now.nodes c.args.a c.args.b 0)
    (λ v. value_of c.args.store.now.nodes c.args.a v && value_of c.args.store.now.nodes c.args.b v)
    c.ite.result (choice-and c.args.store.now.nodes c.args.a c.args.b) c.ite.ensures.ok

pub returns-clause-room : goal.returns-clause-room
returns-clause-room c h = record { nodes = omega (arith, c.ite.ensures.room h) }

pub returns-clause-few : goal.returns-clause-few
returns-clause-few c = on_ok_weaker c.ite.result
    (λ h. fewest_few c.args.store.now.variables c.args.store.now.nodes c.ite.new.self.nodes
    (λ v. value_of c.args.store.now.nodes c.args.a v && value_of c.args.store.now.nodes c.args.b v)
    c.mark-count.ensures.reduced (both_reads c.args.store.now.nodes c.args.store.now.variables c.args.a c.args.b c.mark-count.ensures.reads c.requires.a
    c.requires.b)
    (fewest_same c.args.store.now.nodes c.ite.new.self.nodes (choice c.args.store.now.nodes c.args.a c.args.b 0)
    (λ v. value_of c.args.store.now.nodes c.args.a v && value_of c.args.store.now.nodes c.args.b v)
    (choice-and c.args.store.now.nodes c.args.a c.args.b) h))
    c.ite.ensures.fewest

pub returns-clause-needs : goal.returns-clause-needs
returns-clause-needs c h = needs_few c.args.store.now.variables c.args.store.now.nodes c.args.store.now.limit
    (λ v. value_of c.args.store.now.nodes c.args.a v && value_of c.args.store.now.nodes c.args.b v)
    c.mark-count.ensures.reduced (both_reads c.args.store.now.nodes c.args.store.now.variables c.args.a c.args.b c.mark-count.ensures.reads c.requires.a
    c.requires.b)
    (needs_same c.args.store.now.nodes c.args.store.now.limit (choice c.args.store.now.nodes c.args.a c.args.b 0)
    (λ v. value_of c.args.store.now.nodes c.args.a v && value_of c.args.store.now.nodes c.args.b v)
    (choice-and c.args.store.now.nodes c.args.a c.args.b) (c.ite.ensures.nodes h))
