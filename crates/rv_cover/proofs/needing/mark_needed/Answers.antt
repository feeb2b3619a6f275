use Rattle.rv_cover.proofs.needing.mark_needed.Goals as goal

pub entries_of-requires-clause-searched : goal.entries_of-requires-clause-searched
entries_of-requires-clause-searched c = let (s, is, kept) = c.requires.searched in (s, is, c.in_ok-wanted.ensures.kept s kept)
