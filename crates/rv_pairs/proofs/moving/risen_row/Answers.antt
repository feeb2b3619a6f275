use Rattle.std.proofs.Common.{◌≡◌, ◌<◌, ◌∙◌, Some, length, ap, rules, FitsSigned}
use Rattle.std.proofs.{lemmas.Int.to_z-of_z, lemmas.Result.IfOk-weaker}
use Rattle.std.specs.Int.{w128}
use Rattle.rv_rows.specs.declared.linear.Form.{Form}
use Rattle.rv_proofs.specs.Systems.{System, IsSystem}
use Rattle.rv_cases.specs.Questions.{AreQuestions}
use Rattle.rv_ends.specs.Risen.{IsRisen}
use Rattle.rv_pairs.specs.Moves.{IsMovedIn, HoldsAfter, HoldsWhere}
use Rattle.rv_ends.proofs.Risen.{risen_as}
use Rattle.rv_pairs.proofs.Following.{moved_none, zeros_long, zeros_within}
use Rattle.rv_pairs.proofs.moving.risen_row.Goals as goal

pub risen_from-answer-requires-clause-asked : goal.risen_from-answer-requires-clause-asked
risen_from-answer-requires-clause-asked c = (
  c.requires.asked.0,
  c.requires.asked.1,
  c.requires.asked.2,
  c.requires.asked.3,
  ap (λ (f : Form). length f.coefficients) c.in_ok-form.ensures ∙ zeros_long c.args.columns ∙ c.requires.asked.4,
)

pub risen_from-answer-requires-clause-form : goal.risen_from-answer-requires-clause-form
risen_from-answer-requires-clause-form c = zeros_within c.args.columns c.in_ok-form.form c.in_ok-form.ensures

pub returns-clause-risen : goal.returns-clause-risen
returns-clause-risen c =
    let limit_fits : FitsSigned w128 c.args.limit = search rules in
    let risen = simp to_z-of_z at c.risen_from-answer.ensures.risen in
    IfOk-weaker c.risen_from-answer.result
    (λ o. (s : System) → IsSystem s → AreQuestions s c.args.store.now c.args.questions.now → length c.args.side.now ≡ s.memories → 0 < s.memories
    → IsMovedIn s c.args.store.now.nodes c.constant-all.result c.args.side.now 0 c.in_ok-form.form
    → IsRisen c.args.thresholds.now (HoldsAfter s c.args.store.now.nodes c.args.labels.now c.args.taken c.constant-all.result c.args.side.now)
    (Some c.args.limit) o)
    (λ o. (s : System) → IsSystem s → AreQuestions s c.args.store.now c.args.questions.now → length c.args.side.now ≡ s.memories
    → c.args.columns ≡ s.columns → 0 < s.memories
    → IsRisen c.args.thresholds.now (HoldsWhere s c.args.store.now.nodes c.args.labels.now c.args.taken c.args.side.now) (Some c.args.limit) o)
    (λ o h s system asked many wide some. risen_as c.args.thresholds.now
    (HoldsAfter s c.args.store.now.nodes c.args.labels.now c.args.taken c.constant-all.result c.args.side.now)
    (HoldsWhere s c.args.store.now.nodes c.args.labels.now c.args.taken c.args.side.now) (Some c.args.limit) o
    (λ b k v on. k v on (c.constant-all.ensures.means v)) (λ b k v on here. k v on)
    (h s system asked many some (λ v on. moved_none s v c.args.side.now c.args.columns c.in_ok-form.form c.in_ok-form.ensures wide)))
    risen
