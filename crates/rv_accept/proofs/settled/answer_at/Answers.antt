use Rattle.std.proofs.Common.{◌≡◌, ◌∙◌, ℕ, sym, ap, arith, ⊎_elim}
use Rattle.std.proofs.{lemmas.Bool.cases_lt, lemmas.Option.get_or_from_slice_get}
use Rattle.rv_diagram.specs.Nodes.{value_of, valuation_of}
use Rattle.rv_cases.specs.Conditions.{is_in}
use Rattle.rv_base.proofs.Truths.{clash}
use Rattle.rv_accept.proofs.settled.answer_at.Goals as goal

pub value_at-requires-clause-found : goal.value_at-requires-clause-found
value_at-requires-clause-found c =
    let e = get_or_from_slice_get c.args.answers.now c.loop-b.b c.at.result.now 0 c.at.ensures.value in
    let found = c.requires.answers.found c.loop-b.b (omega (arith, c.loop-b-test.true, c.len-b-end.ensures)) in
    rw e at found

pub returns-then-value_at-clause-met : goal.returns-then-value_at-clause-met
returns-then-value_at-clause-met c =
    ap (λ (n : ℕ). value_of c.args.store.now.nodes n (valuation_of c.args.point.now))
    (get_or_from_slice_get c.args.answers.now c.loop-b.b c.at.result.now 0 c.at.ensures.value)
    ∙ sym c.value_at.ensures ∙ c.if-value_at.true

pub loop-b-preserved : goal.loop-b-preserved
loop-b-preserved c = λ k low. ⊎_elim (λ less. c.loop-b.invariant k less)
    (λ ge. let e : k ≡ c.loop-b.b = omega (arith, low) in
    ap (λ (n : ℕ). is_in c.args.store.now.nodes c.args.answers.now n (valuation_of c.args.point.now)) e
    ∙ ap (λ (n : ℕ). value_of c.args.store.now.nodes n (valuation_of c.args.point.now))
    (get_or_from_slice_get c.args.answers.now c.loop-b.b c.at.result.now 0 c.at.ensures.value)
    ∙ sym c.value_at.ensures ∙ c.if-value_at.false)
    (cases_lt k c.loop-b.b)

pub returns-clause-known : goal.returns-clause-known
returns-clause-known c = let (b, low, on) = c.requires.answers.covered (valuation_of c.args.point.now) in
    absurd (clash (is_in c.args.store.now.nodes c.args.answers.now b (valuation_of c.args.point.now)) on (c.loop-b.invariant b (omega
    (arith, low, c.len-b-end.ensures))))

pub returns-clause-met : goal.returns-clause-met
returns-clause-met c = let (b, low, on) = c.requires.answers.covered (valuation_of c.args.point.now) in
    absurd (clash (is_in c.args.store.now.nodes c.args.answers.now b (valuation_of c.args.point.now)) on (c.loop-b.invariant b (omega
    (arith, low, c.len-b-end.ensures))))
