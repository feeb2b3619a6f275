use Rattle.rv_reading.proofs.candidates.candidate_or_none.Goals as goal

pub candidate-requires : goal.candidate-requires
candidate-requires c = c.requires
