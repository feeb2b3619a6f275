use Rattle.rv_symbolic.proofs.Extending.{map_ok}
use Rattle.rv_claimed.proofs.Giving.{some_of, none_of}
use Rattle.rv_claimed.proofs.building.certify.Goals as goal

pub returns-clause-accepted : goal.returns-clause-accepted
returns-clause-accepted c s thresholds given kept closed small =
    map_ok c.proved.result _ _ (λ o h. some_of _ o _ _ (λ x p. p.accepted) h) (c.proved.ensures.proof s thresholds given kept closed)

pub returns-clause-plain : goal.returns-clause-plain
returns-clause-plain c s thresholds given kept closed small =
    map_ok c.proved.result _ _ (λ o h. some_of _ o _ _ (λ x p. p.plain) h) (c.proved.ensures.proof s thresholds given kept closed)

pub returns-clause-good : goal.returns-clause-good
returns-clause-good c s thresholds given kept closed small =
    map_ok c.proved.result _ _ (λ o h. some_of _ o _ _ (λ x p. p.good) h) (c.proved.ensures.proof s thresholds given kept closed)

pub returns-clause-bad : goal.returns-clause-bad
returns-clause-bad c s thresholds given kept closed small =
    map_ok c.proved.result _ _ (λ o h. none_of _ o _ h) (c.proved.ensures.proof s thresholds given kept closed)
