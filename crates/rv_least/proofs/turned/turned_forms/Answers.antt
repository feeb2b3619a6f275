use Rattle.std.proofs.Common.{◌≡◌, ◌+◌, List, length, arith, sym, ap, subst}
use Rattle.rv_rows.specs.declared.linear.Form.{Form}
use Rattle.rv_least.specs.Turned.{sign_of, AreTurned}
use Rattle.rv_least.proofs.Turning.{turned_more}
use Rattle.rv_least.proofs.turned.turned_forms.Goals as goal

pub loop-place-init : goal.loop-place-init
loop-place-init c = λ s k given. record { size = ap length c.new-list.ensures; each = λ i l. absurd (omega (arith, l)) }

pub bounds-answers-place : goal.bounds-answers-place
bounds-answers-place c = omega (arith, c.requires.many, c.loop-place-test.true, c.len-place-end.ensures)

pub turned_form-requires-clause-found : goal.turned_form-requires-clause-found
turned_form-requires-clause-found c = c.requires.found c.loop-place.place (omega (arith, c.requires.many, c.loop-place-test.true, c.len-place-end.ensures))

pub turned_form-requires-clause-update : goal.turned_form-requires-clause-update
turned_form-requires-clause-update c = let (s, k, given) = c.requires.update in (s, k, given c.loop-place.place c.at.result.now c.at.ensures.value)

pub loop-place-preserved : goal.loop-place-preserved
loop-place-preserved c = λ s k given.
    subst (λ (l : List Form). AreTurned s c.args.store.now.nodes k (sign_of c.args.sign) c.args.answers.now (c.loop-place.place + 1) l)
    (sym c.in_ok-push.ensures.ok)
    (turned_more s c.args.store.now.nodes k (sign_of c.args.sign) c.args.answers.now c.loop-place.place c.loop-place.list c.in_ok-form.form
    (c.loop-place.invariant s k given) (c.in_ok-form.ensures s k (given c.loop-place.place c.at.result.now c.at.ensures.value)))

pub returns : goal.returns
returns c = λ s k given.
    let e : c.loop-place.place ≡ length c.args.answers.now = omega (
      arith,
      c.loop-place-test.false,
      c.loop-place.auto,
      c.len-place-end.ensures,
      c.requires.many,
    ) in
    subst (λ n. AreTurned s c.args.store.now.nodes k (sign_of c.args.sign) c.args.answers.now n c.loop-place.list) e (c.loop-place.invariant s k given)
