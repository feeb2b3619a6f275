use Rattle.std.proofs.{Common.◌∙◌, Common.sym, Common.subst, lemmas.Option.same_Some}
use Rattle.rv_proofs.specs.{Scopes.IsInScope, Accepted.IsEntry, declared.certificate.Entry.Entry}
use Rattle.rv_accept.specs.{Held.IsScope, Held.AreLedInto, Passing.IsGiven, Passing.Passes}
use Rattle.rv_diagram.proofs.Growing.{extends_trans, equal_extends}
use Rattle.rv_accept.proofs.Later.{given_later, led_later, true_later, scope_made, condition_ordered}
use Rattle.rv_accept.proofs.Firsts.{first_unsettled, first_observer, first_target, first_multipliers}
use Rattle.rv_accept.proofs.entry.entry_fault_in.Goals as goal

pub both-requires-clause-set : goal.both-requires-clause-set
both-requires-clause-set c = let (s, g, w, li) = c.requires.given in condition_ordered s c.args.store.now c.args.parts.now c.args.certificate.now c.args.k
    c.args.j c.args.location.now c.at-entry.result.now g.held g.range c.requires.at c.at-entry.ensures.value

pub entry_facts-requires-clause-given : goal.entry_facts-requires-clause-given
entry_facts-requires-clause-given c = let (s, g, w, li) = c.requires.given in
    let gb : IsGiven s c.both.new.store c.args.parts.now c.args.questions.now c.args.certificate.now = given_later c.args.store.now c.both.new.store
    c.both.ensures.extends s c.args.parts.now c.args.questions.now c.args.certificate.now g in
    (s, g.held.system, gb.questions, g.range)

pub entry_facts-requires-clause-entry : goal.entry_facts-requires-clause-entry
entry_facts-requires-clause-entry c = (c.args.k, c.args.j, record { location = c.requires.at; entry = c.at-entry.ensures.value })

pub step_misses-requires-clause-given : goal.step_misses-requires-clause-given
step_misses-requires-clause-given c = let (s, g, w, li) = c.requires.given in (
  s,
  g.held.system,
  g.range,
  led_later c.args.store.now c.step_unobserved.new.store (extends_trans c.args.store.now c.entry_facts.new.store c.step_unobserved.new.store
      (extends_trans c.args.store.now c.both.new.store c.entry_facts.new.store c.both.ensures.extends
      (equal_extends c.both.new.store c.entry_facts.new.store c.entry_facts.ensures.same))
      c.step_unobserved.ensures.extends) s c.args.certificate.now c.args.led.now li,
)

pub step_misses-requires-clause-entry : goal.step_misses-requires-clause-entry
step_misses-requires-clause-entry c = (c.args.j, record { location = c.requires.at; entry = c.at-entry.ensures.value })

pub first_unimplied-requires-clause-entry : goal.first_unimplied-requires-clause-entry
first_unimplied-requires-clause-entry c = (c.args.k, c.args.j, record { location = c.requires.at; entry = c.at-entry.ensures.value })

pub first_unimplied-requires-clause-given : goal.first_unimplied-requires-clause-given
first_unimplied-requires-clause-given c = let (s, g, w, li) = c.requires.given in
    let is : IsEntry c.args.certificate.now c.args.k c.args.j c.args.location.now c.at-entry.result.now = record {
      location = c.requires.at;
      entry = c.at-entry.ensures.value;
    } in
    let sc : IsScope s c.args.location.now c.at-entry.result.now c.both.new.store c.in_ok-scope.scope = scope_made s c.args.location.now
    c.at-entry.result.now c.args.store.now c.both.new.store c.args.within c.in_ok-scope.scope w c.in_ok-scope.ensures.found c.in_ok-scope.ensures.means in
    let gb : IsGiven s c.both.new.store c.args.parts.now c.args.questions.now c.args.certificate.now = given_later c.args.store.now c.both.new.store
    c.both.ensures.extends s c.args.parts.now c.args.questions.now c.args.certificate.now g in
    let f = rw c.in-Some.is at (c.in_ok-facts.ensures.exact s g.held.system gb.questions g.range sc) in
    (s, g.held.system, g.range, f.1)

pub returns-in_default-clause-exact : goal.returns-in_default-clause-exact
returns-in_default-clause-exact c = λ s g w li e at before.
    let is : IsEntry c.args.certificate.now c.args.k c.args.j c.args.location.now c.at-entry.result.now = record {
      location = c.requires.at;
      entry = c.at-entry.ensures.value;
    } in
    let sc : IsScope s c.args.location.now c.at-entry.result.now c.both.new.store c.in_ok-scope.scope = scope_made s c.args.location.now
    c.at-entry.result.now c.args.store.now c.both.new.store c.args.within c.in_ok-scope.scope w c.in_ok-scope.ensures.found c.in_ok-scope.ensures.means in
    let gb : IsGiven s c.both.new.store c.args.parts.now c.args.questions.now c.args.certificate.now = given_later c.args.store.now c.both.new.store
    c.both.ensures.extends s c.args.parts.now c.args.questions.now c.args.certificate.now g in
    first_unsettled s c.args.certificate.now c.args.k c.args.j c.args.location.now c.at-entry.result.now is before (rw c.in_default.is at
    (c.in_ok-facts.ensures.exact s g.held.system gb.questions g.range sc))

pub returns-in-Some-2-clause-exact : goal.returns-in-Some-2-clause-exact
returns-in-Some-2-clause-exact c = λ s g w li e at before.
    let is : IsEntry c.args.certificate.now c.args.k c.args.j c.args.location.now c.at-entry.result.now = record {
      location = c.requires.at;
      entry = c.at-entry.ensures.value;
    } in
    let sc : IsScope s c.args.location.now c.at-entry.result.now c.both.new.store c.in_ok-scope.scope = scope_made s c.args.location.now
    c.at-entry.result.now c.args.store.now c.both.new.store c.args.within c.in_ok-scope.scope w c.in_ok-scope.ensures.found c.in_ok-scope.ensures.means in
    let gb : IsGiven s c.both.new.store c.args.parts.now c.args.questions.now c.args.certificate.now = given_later c.args.store.now c.both.new.store
    c.both.ensures.extends s c.args.parts.now c.args.questions.now c.args.certificate.now g in
    let f = rw c.in-Some.is at (c.in_ok-facts.ensures.exact s g.held.system gb.questions g.range sc) in
    let gd : IsGiven s c.entry_facts.new.store c.args.parts.now c.args.questions.now c.args.certificate.now = given_later c.args.store.now
    c.entry_facts.new.store (extends_trans c.args.store.now c.both.new.store c.entry_facts.new.store c.both.ensures.extends
    (equal_extends c.both.new.store c.entry_facts.new.store c.entry_facts.ensures.same)) s c.args.parts.now c.args.questions.now c.args.certificate.now g in
    let sd : IsScope s c.args.location.now c.at-entry.result.now c.entry_facts.new.store c.in_ok-scope.scope = true_later c.both.new.store
    c.entry_facts.new.store (equal_extends c.both.new.store c.entry_facts.new.store c.entry_facts.ensures.same)
    (IsInScope s c.args.location.now c.at-entry.result.now) c.in_ok-scope.scope sc in
    first_observer s c.args.certificate.now c.args.k c.args.j c.args.location.now c.at-entry.result.now is before c.in-Some-2.word f.0 (rw c.in-Some-2.is at
    (c.in_ok-word.ensures.exact s c.args.certificate.now c.args.k c.args.j c.args.location.now gd.held g.range is sd))

pub returns-in-Some-3-clause-exact : goal.returns-in-Some-3-clause-exact
returns-in-Some-3-clause-exact c = λ s g w li e at before.
    let is : IsEntry c.args.certificate.now c.args.k c.args.j c.args.location.now c.at-entry.result.now = record {
      location = c.requires.at;
      entry = c.at-entry.ensures.value;
    } in
    let sc : IsScope s c.args.location.now c.at-entry.result.now c.both.new.store c.in_ok-scope.scope = scope_made s c.args.location.now
    c.at-entry.result.now c.args.store.now c.both.new.store c.args.within c.in_ok-scope.scope w c.in_ok-scope.ensures.found c.in_ok-scope.ensures.means in
    let gb : IsGiven s c.both.new.store c.args.parts.now c.args.questions.now c.args.certificate.now = given_later c.args.store.now c.both.new.store
    c.both.ensures.extends s c.args.parts.now c.args.questions.now c.args.certificate.now g in
    let f = rw c.in-Some.is at (c.in_ok-facts.ensures.exact s g.held.system gb.questions g.range sc) in
    let gd : IsGiven s c.entry_facts.new.store c.args.parts.now c.args.questions.now c.args.certificate.now = given_later c.args.store.now
    c.entry_facts.new.store (extends_trans c.args.store.now c.both.new.store c.entry_facts.new.store c.both.ensures.extends
    (equal_extends c.both.new.store c.entry_facts.new.store c.entry_facts.ensures.same)) s c.args.parts.now c.args.questions.now c.args.certificate.now g in
    let sd : IsScope s c.args.location.now c.at-entry.result.now c.entry_facts.new.store c.in_ok-scope.scope = true_later c.both.new.store
    c.entry_facts.new.store (equal_extends c.both.new.store c.entry_facts.new.store c.entry_facts.ensures.same)
    (IsInScope s c.args.location.now c.at-entry.result.now) c.in_ok-scope.scope sc in
    let o = rw c.in_default-2.is at (c.in_ok-word.ensures.exact s c.args.certificate.now c.args.k c.args.j c.args.location.now gd.held g.range is sd) in
    let gu : IsGiven s c.step_unobserved.new.store c.args.parts.now c.args.questions.now c.args.certificate.now = given_later c.args.store.now
    c.step_unobserved.new.store (extends_trans c.args.store.now c.entry_facts.new.store c.step_unobserved.new.store
    (extends_trans c.args.store.now c.both.new.store c.entry_facts.new.store c.both.ensures.extends
    (equal_extends c.both.new.store c.entry_facts.new.store c.entry_facts.ensures.same)) c.step_unobserved.ensures.extends) s c.args.parts.now
    c.args.questions.now c.args.certificate.now g in
    let su : IsScope s c.args.location.now c.at-entry.result.now c.step_unobserved.new.store c.in_ok-scope.scope = true_later c.entry_facts.new.store
    c.step_unobserved.new.store c.step_unobserved.ensures.extends (IsInScope s c.args.location.now c.at-entry.result.now) c.in_ok-scope.scope sd in
    let lu : AreLedInto s c.args.certificate.now c.step_unobserved.new.store c.args.led.now = led_later c.args.store.now c.step_unobserved.new.store
    (extends_trans c.args.store.now c.entry_facts.new.store c.step_unobserved.new.store
    (extends_trans c.args.store.now c.both.new.store c.entry_facts.new.store c.both.ensures.extends
    (equal_extends c.both.new.store c.entry_facts.new.store c.entry_facts.ensures.same)) c.step_unobserved.ensures.extends) s c.args.certificate.now
    c.args.led.now li in
    first_target s c.args.certificate.now c.args.k c.args.j c.args.location.now c.at-entry.result.now is before c.in-Some-3.word f.0 o (rw c.in-Some-3.is at
    (c.in_ok-word-2.ensures.exact s g.held.system gu.held.means.variables g.range lu su))

pub returns-in-Some-4-clause-exact : goal.returns-in-Some-4-clause-exact
returns-in-Some-4-clause-exact c = λ s g w li e at before.
    let is : IsEntry c.args.certificate.now c.args.k c.args.j c.args.location.now c.at-entry.result.now = record {
      location = c.requires.at;
      entry = c.at-entry.ensures.value;
    } in
    let sc : IsScope s c.args.location.now c.at-entry.result.now c.both.new.store c.in_ok-scope.scope = scope_made s c.args.location.now
    c.at-entry.result.now c.args.store.now c.both.new.store c.args.within c.in_ok-scope.scope w c.in_ok-scope.ensures.found c.in_ok-scope.ensures.means in
    let gb : IsGiven s c.both.new.store c.args.parts.now c.args.questions.now c.args.certificate.now = given_later c.args.store.now c.both.new.store
    c.both.ensures.extends s c.args.parts.now c.args.questions.now c.args.certificate.now g in
    let f = rw c.in-Some.is at (c.in_ok-facts.ensures.exact s g.held.system gb.questions g.range sc) in
    let gd : IsGiven s c.entry_facts.new.store c.args.parts.now c.args.questions.now c.args.certificate.now = given_later c.args.store.now
    c.entry_facts.new.store (extends_trans c.args.store.now c.both.new.store c.entry_facts.new.store c.both.ensures.extends
    (equal_extends c.both.new.store c.entry_facts.new.store c.entry_facts.ensures.same)) s c.args.parts.now c.args.questions.now c.args.certificate.now g in
    let sd : IsScope s c.args.location.now c.at-entry.result.now c.entry_facts.new.store c.in_ok-scope.scope = true_later c.both.new.store
    c.entry_facts.new.store (equal_extends c.both.new.store c.entry_facts.new.store c.entry_facts.ensures.same)
    (IsInScope s c.args.location.now c.at-entry.result.now) c.in_ok-scope.scope sc in
    let o = rw c.in_default-2.is at (c.in_ok-word.ensures.exact s c.args.certificate.now c.args.k c.args.j c.args.location.now gd.held g.range is sd) in
    let gu : IsGiven s c.step_unobserved.new.store c.args.parts.now c.args.questions.now c.args.certificate.now = given_later c.args.store.now
    c.step_unobserved.new.store (extends_trans c.args.store.now c.entry_facts.new.store c.step_unobserved.new.store
    (extends_trans c.args.store.now c.both.new.store c.entry_facts.new.store c.both.ensures.extends
    (equal_extends c.both.new.store c.entry_facts.new.store c.entry_facts.ensures.same)) c.step_unobserved.ensures.extends) s c.args.parts.now
    c.args.questions.now c.args.certificate.now g in
    let su : IsScope s c.args.location.now c.at-entry.result.now c.step_unobserved.new.store c.in_ok-scope.scope = true_later c.entry_facts.new.store
    c.step_unobserved.new.store c.step_unobserved.ensures.extends (IsInScope s c.args.location.now c.at-entry.result.now) c.in_ok-scope.scope sd in
    let lu : AreLedInto s c.args.certificate.now c.step_unobserved.new.store c.args.led.now = led_later c.args.store.now c.step_unobserved.new.store
    (extends_trans c.args.store.now c.entry_facts.new.store c.step_unobserved.new.store
    (extends_trans c.args.store.now c.both.new.store c.entry_facts.new.store c.both.ensures.extends
    (equal_extends c.both.new.store c.entry_facts.new.store c.entry_facts.ensures.same)) c.step_unobserved.ensures.extends) s c.args.certificate.now
    c.args.led.now li in
    let t = rw c.in_default-3.is at (c.in_ok-word-2.ensures.exact s g.held.system gu.held.means.variables g.range lu su) in
    let m = rw c.in-Some-4.is at (c.in_ok-n.ensures s g.held.system g.range f.1) in
    first_multipliers s c.args.certificate.now c.args.k c.args.j c.args.location.now c.at-entry.result.now is before c.in-Some-4.n m.implication f.0 o t
    m.at m.fails m.first

pub returns-clause-exact : goal.returns-clause-exact
returns-clause-exact c = λ s g w li e at.
    let is : IsEntry c.args.certificate.now c.args.k c.args.j c.args.location.now c.at-entry.result.now = record {
      location = c.requires.at;
      entry = c.at-entry.ensures.value;
    } in
    let sc : IsScope s c.args.location.now c.at-entry.result.now c.both.new.store c.in_ok-scope.scope = scope_made s c.args.location.now
    c.at-entry.result.now c.args.store.now c.both.new.store c.args.within c.in_ok-scope.scope w c.in_ok-scope.ensures.found c.in_ok-scope.ensures.means in
    let gb : IsGiven s c.both.new.store c.args.parts.now c.args.questions.now c.args.certificate.now = given_later c.args.store.now c.both.new.store
    c.both.ensures.extends s c.args.parts.now c.args.questions.now c.args.certificate.now g in
    let f = rw c.in-Some.is at (c.in_ok-facts.ensures.exact s g.held.system gb.questions g.range sc) in
    let gd : IsGiven s c.entry_facts.new.store c.args.parts.now c.args.questions.now c.args.certificate.now = given_later c.args.store.now
    c.entry_facts.new.store (extends_trans c.args.store.now c.both.new.store c.entry_facts.new.store c.both.ensures.extends
    (equal_extends c.both.new.store c.entry_facts.new.store c.entry_facts.ensures.same)) s c.args.parts.now c.args.questions.now c.args.certificate.now g in
    let sd : IsScope s c.args.location.now c.at-entry.result.now c.entry_facts.new.store c.in_ok-scope.scope = true_later c.both.new.store
    c.entry_facts.new.store (equal_extends c.both.new.store c.entry_facts.new.store c.entry_facts.ensures.same)
    (IsInScope s c.args.location.now c.at-entry.result.now) c.in_ok-scope.scope sc in
    let o = rw c.in_default-2.is at (c.in_ok-word.ensures.exact s c.args.certificate.now c.args.k c.args.j c.args.location.now gd.held g.range is sd) in
    let gu : IsGiven s c.step_unobserved.new.store c.args.parts.now c.args.questions.now c.args.certificate.now = given_later c.args.store.now
    c.step_unobserved.new.store (extends_trans c.args.store.now c.entry_facts.new.store c.step_unobserved.new.store
    (extends_trans c.args.store.now c.both.new.store c.entry_facts.new.store c.both.ensures.extends
    (equal_extends c.both.new.store c.entry_facts.new.store c.entry_facts.ensures.same)) c.step_unobserved.ensures.extends) s c.args.parts.now
    c.args.questions.now c.args.certificate.now g in
    let su : IsScope s c.args.location.now c.at-entry.result.now c.step_unobserved.new.store c.in_ok-scope.scope = true_later c.entry_facts.new.store
    c.step_unobserved.new.store c.step_unobserved.ensures.extends (IsInScope s c.args.location.now c.at-entry.result.now) c.in_ok-scope.scope sd in
    let lu : AreLedInto s c.args.certificate.now c.step_unobserved.new.store c.args.led.now = led_later c.args.store.now c.step_unobserved.new.store
    (extends_trans c.args.store.now c.entry_facts.new.store c.step_unobserved.new.store
    (extends_trans c.args.store.now c.both.new.store c.entry_facts.new.store c.both.ensures.extends
    (equal_extends c.both.new.store c.entry_facts.new.store c.entry_facts.ensures.same)) c.step_unobserved.ensures.extends) s c.args.certificate.now
    c.args.led.now li in
    let t = rw c.in_default-3.is at (c.in_ok-word-2.ensures.exact s g.held.system gu.held.means.variables g.range lu su) in
    let i = rw c.in_default-4.is at (c.in_ok-n.ensures s g.held.system g.range f.1) in
    let pass : Passes s c.args.certificate.now c.args.location.now c.at-entry.result.now = record { settled = f.0; observed = o; leads = t; implied = i } in
    subst (λ (x : Entry). Passes s c.args.certificate.now c.args.location.now x) (same_Some c.at-entry.result.now e (sym c.at-entry.ensures.value ∙ at)) pass

pub returns-in_err-word-clause-extends : goal.returns-in_err-word-clause-extends
returns-in_err-word-clause-extends c = (extends_trans c.args.store.now c.entry_facts.new.store c.step_unobserved.new.store
    (extends_trans c.args.store.now c.both.new.store c.entry_facts.new.store c.both.ensures.extends
    (equal_extends c.both.new.store c.entry_facts.new.store c.entry_facts.ensures.same)) c.step_unobserved.ensures.extends)

pub returns-in-Some-2-clause-extends : goal.returns-in-Some-2-clause-extends
returns-in-Some-2-clause-extends c = (extends_trans c.args.store.now c.entry_facts.new.store c.step_unobserved.new.store
    (extends_trans c.args.store.now c.both.new.store c.entry_facts.new.store c.both.ensures.extends
    (equal_extends c.both.new.store c.entry_facts.new.store c.entry_facts.ensures.same)) c.step_unobserved.ensures.extends)

pub returns-in_err-word-2-clause-extends : goal.returns-in_err-word-2-clause-extends
returns-in_err-word-2-clause-extends c = (extends_trans c.args.store.now c.step_unobserved.new.store c.step_misses.new.store
    (extends_trans c.args.store.now c.entry_facts.new.store c.step_unobserved.new.store
    (extends_trans c.args.store.now c.both.new.store c.entry_facts.new.store c.both.ensures.extends
    (equal_extends c.both.new.store c.entry_facts.new.store c.entry_facts.ensures.same)) c.step_unobserved.ensures.extends) c.step_misses.ensures.extends)

pub returns-in-Some-3-clause-extends : goal.returns-in-Some-3-clause-extends
returns-in-Some-3-clause-extends c = (extends_trans c.args.store.now c.step_unobserved.new.store c.step_misses.new.store
    (extends_trans c.args.store.now c.entry_facts.new.store c.step_unobserved.new.store
    (extends_trans c.args.store.now c.both.new.store c.entry_facts.new.store c.both.ensures.extends
    (equal_extends c.both.new.store c.entry_facts.new.store c.entry_facts.ensures.same)) c.step_unobserved.ensures.extends) c.step_misses.ensures.extends)

pub returns-in_err-n-clause-extends : goal.returns-in_err-n-clause-extends
returns-in_err-n-clause-extends c = (extends_trans c.args.store.now c.step_unobserved.new.store c.step_misses.new.store
    (extends_trans c.args.store.now c.entry_facts.new.store c.step_unobserved.new.store
    (extends_trans c.args.store.now c.both.new.store c.entry_facts.new.store c.both.ensures.extends
    (equal_extends c.both.new.store c.entry_facts.new.store c.entry_facts.ensures.same)) c.step_unobserved.ensures.extends) c.step_misses.ensures.extends)

pub returns-in-Some-4-clause-extends : goal.returns-in-Some-4-clause-extends
returns-in-Some-4-clause-extends c = (extends_trans c.args.store.now c.step_unobserved.new.store c.step_misses.new.store
    (extends_trans c.args.store.now c.entry_facts.new.store c.step_unobserved.new.store
    (extends_trans c.args.store.now c.both.new.store c.entry_facts.new.store c.both.ensures.extends
    (equal_extends c.both.new.store c.entry_facts.new.store c.entry_facts.ensures.same)) c.step_unobserved.ensures.extends) c.step_misses.ensures.extends)

pub returns-clause-extends : goal.returns-clause-extends
returns-clause-extends c = (extends_trans c.args.store.now c.step_unobserved.new.store c.step_misses.new.store
    (extends_trans c.args.store.now c.entry_facts.new.store c.step_unobserved.new.store
    (extends_trans c.args.store.now c.both.new.store c.entry_facts.new.store c.both.ensures.extends
    (equal_extends c.both.new.store c.entry_facts.new.store c.entry_facts.ensures.same)) c.step_unobserved.ensures.extends) c.step_misses.ensures.extends)
