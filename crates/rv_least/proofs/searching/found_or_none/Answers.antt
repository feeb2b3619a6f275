use Rattle.rv_least.proofs.searching.found_or_none.Goals as goal

pub found-requires : goal.found-requires
found-requires c = c.requires
