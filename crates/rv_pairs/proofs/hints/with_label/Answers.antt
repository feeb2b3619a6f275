use Rattle.std.proofs.Common.{◌↔◌, ◌⊎◌, ◌+◌, ℤ, take}
use Rattle.std.proofs.lemmas.Result.{IfOk-weaker}
use Rattle.rv_diagram.specs.Nodes.{Valuation}
use Rattle.rv_seek.specs.Least.{bounded}
use Rattle.rv_pairs.specs.{Hints.IsHinted, Hints.AreHintsOf, Shown.ShowsWith}
use Rattle.rv_pairs.proofs.{Counting.label_at, Pairing.row_more}
use Rattle.rv_pairs.proofs.hints.with_label.Goals as goal

pub with_alone-requires-clause-one : goal.with_alone-requires-clause-one
with_alone-requires-clause-one c = label_at c.args.store.now.nodes c.args.labels.now c.args.place c.at-label.result.now c.at-label.ensures.value
    c.requires.labels

pub with_alone-requires-clause-here : goal.with_alone-requires-clause-here
with_alone-requires-clause-here c = c.key_at-here.ensures c.at-label.result.now c.at-label.ensures.value

pub returns-clause-shown : goal.returns-clause-shown
returns-clause-shown c =
    IfOk-weaker c.with_earlier.result
    (λ h. (v : Valuation) (z : ℤ) → IsHinted c.args.store.now.nodes h v z ↔ (IsHinted c.args.store.now.nodes c.in_ok-alone.alone v z
    ⊎ ShowsWith c.args.store.now.nodes v c.args.labels.now c.args.place c.at-label.result.now (bounded c.args.numbers.now z)))
    (λ h. AreHintsOf c.args.store.now.nodes (take c.args.place c.args.labels.now) c.args.numbers.now c.args.hints
    → AreHintsOf c.args.store.now.nodes (take (c.args.place + 1) c.args.labels.now) c.args.numbers.now h)
    (λ h exact before v z. row_more c.args.store.now.nodes v c.args.labels.now c.args.place c.at-label.result.now c.args.zero.now
    (bounded c.args.numbers.now z) c.at-label.ensures.value c.requires.nothing (c.requires.counts v)
    (IsHinted c.args.store.now.nodes c.args.hints v z) (IsHinted c.args.store.now.nodes c.in_ok-alone.alone v z)
    (IsHinted c.args.store.now.nodes h v z) (before v z) (c.in_ok-alone.ensures.exact v z) (exact v z))
    c.with_earlier.ensures.exact
