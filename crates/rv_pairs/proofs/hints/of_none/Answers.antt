use Rattle.std.proofs.Common.{◌↔◌, ◌⊎◌, ℤ, [], sym, subst}
use Rattle.std.proofs.lemmas.Result.{IfOk-weaker}
use Rattle.std.proofs.lemmas.List.Elements.{All-nil}
use Rattle.rv_diagram.specs.Nodes.{Valuation, IsRef}
use Rattle.rv_seek.specs.Least.{bounded}
use Rattle.rv_pairs.specs.{declared.hints.Hint.Hint, Hints.AreHints, Hints.IsHinted, Hints.AreHintsOf, Shown.BothShow}
use Rattle.rv_pairs.proofs.Pairing.{hints_none, hinted_none}
use Rattle.rv_pairs.proofs.hints.of_none.Goals as goal

pub with_both-requires-clause-hints : goal.with_both-requires-clause-hints
with_both-requires-clause-hints c = subst (AreHints c.args.store.now.nodes) (sym c.new-empty.ensures)
    (All-nil (λ (h : Hint). IsRef c.args.store.now.nodes h.one × IsRef c.args.store.now.nodes h.other))

pub returns-clause-shown : goal.returns-clause-shown
returns-clause-shown c =
    IfOk-weaker c.with_both.result
    (λ h. (v : Valuation) (z : ℤ) → IsHinted c.args.store.now.nodes h v z ↔ (IsHinted c.args.store.now.nodes c.new-empty.result v z
    ⊎ BothShow c.args.store.now.nodes v c.args.zero.now c.args.zero.now (bounded c.args.numbers.now z)))
    (AreHintsOf c.args.store.now.nodes [] c.args.numbers.now)
    (λ h exact v z. hints_none c.args.store.now.nodes v c.args.zero.now c.args.zero.now c.args.numbers.now z
    (IsHinted c.args.store.now.nodes c.new-empty.result v z) (IsHinted c.args.store.now.nodes h v z)
    (hinted_none c.args.store.now.nodes c.new-empty.result v z c.new-empty.ensures) c.requires.nothing c.requires.nothing
    (c.requires.counts v) (c.requires.counts v) (exact v z))
    c.with_both.ensures.exact
