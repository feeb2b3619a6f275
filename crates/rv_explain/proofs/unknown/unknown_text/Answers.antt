use Rattle.rv_explain.proofs.unknown.unknown_text.Goals as goal

pub left_text-requires : goal.left_text-requires
left_text-requires c = c.in_ok-flat.ensures.flat.system.well
