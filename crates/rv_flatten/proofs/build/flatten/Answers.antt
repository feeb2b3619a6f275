use Rattle.rv_flatten.proofs.build.flatten.Goals as goal

pub flat_of-requires : goal.flat_of-requires
flat_of-requires c = c.fitting_sources.ensures c.args.source.now
