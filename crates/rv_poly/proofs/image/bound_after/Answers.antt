use Rattle.std.proofs.Common.{FitsSigned, rules}
use Rattle.std.specs.Int.{w128}
use Rattle.rv_poly.proofs.ImageLemmas.{can-substitute, before-small, form-within, after-sound-some, after-shown}
use Rattle.rv_poly.proofs.image.bound_after.Goals as goal

pub substitute-requires : goal.substitute-requires
substitute-requires c = rw c.in_ok-copy.ensures (can-substitute c.args.updates.now c.args.side.now c.requires.updates c.requires.width c.requires.side)

pub form_of-form-requires : goal.form_of-form-requires
form_of-form-requires c =
    let fits : FitsSigned w128 c.in_ok-before.before.bound = search rules in
    let s = rw c.in_ok-copy.ensures at c.in_ok-before.ensures.exact in
    let small = before-small c.args.updates.now c.args.side.now c.requires.updates c.requires.width c.requires.side c.in_ok-before.before s in
    small

pub form_bound-requires : goal.form_bound-requires
form_bound-requires c =
    let s = rw c.in_ok-copy.ensures at c.in_ok-before.ensures.exact in
    record {
      form = form-within c.args.updates.now c.args.side.now c.requires.updates c.requires.width c.requires.side c.in_ok-before.before s c.form_of-form.result
          c.form_of-form.ensures.coefficients c.form_of-form.ensures.constant;
    }

pub returns-clause-sound : goal.returns-clause-sound
returns-clause-sound c =
    let s = rw c.in_ok-copy.ensures at c.in_ok-before.ensures.exact in
    after-sound-some c.args.updates.now c.args.side.now c.requires.updates c.requires.width c.requires.side c.in_ok-before.before s c.form_of-form.result
    c.form_of-form.ensures.coefficients c.form_of-form.ensures.constant c.args.rows.now c.in_ok-found.found c.in_ok-found.ensures.sound

pub returns-clause-shown : goal.returns-clause-shown
returns-clause-shown c x small shows =
    let s = rw c.in_ok-copy.ensures at c.in_ok-before.ensures.exact in
    c.in_ok-found.ensures.shown x small
    (after-shown c.args.updates.now c.args.side.now c.requires.updates c.requires.width c.requires.side c.in_ok-before.before s c.form_of-form.result
    c.form_of-form.ensures.coefficients c.form_of-form.ensures.constant c.args.rows.now x shows)
