use Rattle.std.proofs.{Common.◌≡◌, Common.◌∙◌, Common.◌+◌, Common.◌∷◌, Common.suc, Common.drop, Common.sym, Common.arith, Math.Seq.drop-cons}
use Rattle.rv_bits.proofs.Nexting.{copies_more, copies_done, copies_few}
use Rattle.rv_bits.proofs.following.count_states.Goals as goal

pub loop-variable-preserved : goal.loop-variable-preserved
loop-variable-preserved c =
    let vs = c.args.variables.now in
    let i = c.loop-variable.variable-index in
    let x = c.variable-item.result in
    let left : drop i vs ≡ x ∷ drop (i + 1) vs = drop-cons vs i x c.loop-variable-test.true
    ∙ (λ k. sym c.variable-item.is k ∷ drop (let z : suc i ≡ i + 1 = omega arith in z k) vs) in
    let more = copies_more vs i x left in
    let few = copies_few x in
    record { within = omega (arith, c.one_copy-count.ensures); counted = omega (arith, c.one_copy-count.ensures, more, c.loop-variable.invariant.counted) }

pub returns-clause-is : goal.returns-clause-is
returns-clause-is c =
    let none = copies_done c.args.variables.now c.loop-variable.variable-index (omega arith) in
    omega (arith, none, c.loop-variable.invariant.counted)
