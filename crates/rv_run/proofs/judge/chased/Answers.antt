use Rattle.rv_run.proofs.judge.chased.Goals as goal

pub returns : goal.returns
returns c = record {
  falsifies = λ t is.
      let found = c.hunt.ensures.falsifies t is in
      let at = found.1 in
      record { trace = found.0; last = at.0; count = at.1; falsified = at.2 };
}
