use Rattle.std.proofs.Common.{◌↔◌, ◌⊎◌, ℤ, arith}
use Rattle.std.proofs.lemmas.Result.{IfOk-weaker}
use Rattle.rv_diagram.specs.Nodes.{Valuation}
use Rattle.rv_seek.specs.Least.{bounded}
use Rattle.rv_pairs.specs.{Hints.IsHinted, Shown.BothShow, Shown.ShowsBefore}
use Rattle.rv_pairs.proofs.{Counting.label_at, Placing.before_none, Placing.before_one}
use Rattle.rv_pairs.proofs.hints.with_one.Goals as goal

pub with_both-requires-clause-one : goal.with_both-requires-clause-one
with_both-requires-clause-one c = label_at c.args.store.now.nodes c.args.labels.now c.args.earlier c.at.result.now c.at.ensures.value c.requires.labels

pub returns-then-earlier-place-clause-exact : goal.returns-then-earlier-place-clause-exact
returns-then-earlier-place-clause-exact c v z =
    before_none c.args.store.now.nodes v c.args.labels.now (IsHinted c.args.store.now.nodes c.args.hints v z) c.args.earlier c.args.place c.args.label.now
    (bounded c.args.numbers.now z) (omega (arith, c.if-earlier-place.true))

pub returns-clause-exact : goal.returns-clause-exact
returns-clause-exact c =
    IfOk-weaker c.with_both.result
    (λ h. (v : Valuation) (z : ℤ) → IsHinted c.args.store.now.nodes h v z ↔ (IsHinted c.args.store.now.nodes c.args.hints v z
    ⊎ BothShow c.args.store.now.nodes v c.at.result.now c.args.label.now (bounded c.args.numbers.now z)))
    (λ h. (v : Valuation) (z : ℤ) → IsHinted c.args.store.now.nodes h v z ↔ (IsHinted c.args.store.now.nodes c.args.hints v z
    ⊎ ShowsBefore c.args.store.now.nodes v c.args.labels.now c.args.earlier c.args.place c.args.label.now (bounded c.args.numbers.now z)))
    (λ h exact v z. before_one c.args.store.now.nodes v c.args.labels.now (IsHinted c.args.store.now.nodes c.args.hints v z)
    (IsHinted c.args.store.now.nodes h v z) c.args.earlier c.args.place c.at.result.now c.args.label.now (bounded c.args.numbers.now z)
    (omega (arith, c.if-earlier-place.false)) c.at.ensures.value (exact v z))
    c.with_both.ensures.exact
