use Rattle.rv_refine.proofs.directions.add_pair.Goals as goal

pub returns : goal.returns
returns c = c.add_new-2.ensures c.args.memories (c.in_ok-add_new.ensures c.args.memories c.requires.sides c.in_ok-plus.ensures) c.in_ok-minus.ensures
