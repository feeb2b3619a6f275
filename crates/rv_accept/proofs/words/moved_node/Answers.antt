use Rattle.rv_diagram.proofs.Growing.{call_extends}
use Rattle.rv_accept.proofs.Moving.{child_found, chosen_means}
use Rattle.rv_accept.proofs.words.moved_node.Goals as goal

pub ite-requires : goal.ite-requires
ite-requires c = record {
  when = c.requires.next (_) c.requires.var;
  yes = child_found c.args.store.now c.args.moved.now c.args.node.hi c.moved_child-hi.result c.requires.moved c.requires.hi
      c.moved_child-hi.ensures.constant c.moved_child-hi.ensures.node;
  no = child_found c.args.store.now c.args.moved.now c.args.node.lo c.moved_child-lo.result c.requires.moved c.requires.lo
      c.moved_child-lo.ensures.constant c.moved_child-lo.ensures.node;
}

pub returns-clause-extends : goal.returns-clause-extends
returns-clause-extends c = call_extends c.args.store.now c.ite.new.self _ c.ite.result c.ite.ensures.ok c.ite.ensures.err

pub returns-clause-means : goal.returns-clause-means
returns-clause-means c = chosen_means c.ite.result c.args.store.now c.ite.new.self c.args.next.now c.args.moved.now c.args.node c.moved_child-hi.result
    c.moved_child-lo.result
    c.mark-count.ensures.expanded c.requires.hi c.requires.lo c.moved_child-hi.ensures.constant c.moved_child-hi.ensures.node
    c.moved_child-lo.ensures.constant c.moved_child-lo.ensures.node c.ite.ensures.ok
