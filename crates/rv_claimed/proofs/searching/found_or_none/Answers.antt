use Rattle.rv_claimed.proofs.searching.found_or_none.Goals as goal

pub found_apart-requires : goal.found_apart-requires
found_apart-requires c = c.requires
