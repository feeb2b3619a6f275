use Rattle.rv_cover.proofs.needing.mark_provers.Goals as goal

pub steps_of-requires-clause-searched : goal.steps_of-requires-clause-searched
steps_of-requires-clause-searched c = let (s, is, kept) = c.requires.searched in (s, is, c.in_ok-wanted.ensures.kept s kept)
