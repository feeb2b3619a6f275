use Rattle.std.proofs.Common.{List, ℕ, MatchOption}
use Rattle.rv_proofs.specs.Systems.{System}
use Rattle.rv_symbolic.proofs.Extending.{map_ok}
use Rattle.rv_accept.specs.{Passing.IsGiven, Judging.IsMarked}
use Rattle.rv_accept.proofs.Judgment.{left_when, accepted_when, only_when}
use Rattle.rv_accept.proofs.judging.judge.Goals as goal

pub returns-clause-left : goal.returns-clause-left
returns-clause-left c = map_ok c.judgment.result (λ o. (s : System) → IsGiven s c.args.store.now c.args.parts.now c.args.questions.now c.args.certificate.now
    → MatchOption o ((left : List ℕ) → IsMarked s c.args.certificate.now left → ⊥) (IsMarked s c.args.certificate.now)) _
    (λ o h s g. left_when s c.args.certificate.now o (h s g)) c.judgment.ensures.exact

pub returns-clause-accepted : goal.returns-clause-accepted
returns-clause-accepted c = map_ok c.judgment.result (λ o. (s : System)
    → IsGiven s c.args.store.now c.args.parts.now c.args.questions.now c.args.certificate.now
    → MatchOption o ((left : List ℕ) → IsMarked s c.args.certificate.now left → ⊥) (IsMarked s c.args.certificate.now)) _
    (λ o h s g. accepted_when s c.args.certificate.now o (h s g)) c.judgment.ensures.exact

pub returns-clause-only : goal.returns-clause-only
returns-clause-only c = map_ok c.judgment.result (λ o. (s : System) → IsGiven s c.args.store.now c.args.parts.now c.args.questions.now c.args.certificate.now
    → MatchOption o ((left : List ℕ) → IsMarked s c.args.certificate.now left → ⊥) (IsMarked s c.args.certificate.now)) _
    (λ o h s g. only_when s c.args.certificate.now o (h s g)) c.judgment.ensures.exact
