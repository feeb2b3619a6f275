use Rattle.std.proofs.{Common.◌≡◌, Common.◌∙◌, Common.sym, Common.subst, Common.Some, Common.slice_get, lemmas.Option.same_Some}
use Rattle.rv_proofs.specs.{Systems.System, declared.certificate.Entry.Entry}
use Rattle.rv_symbolic.proofs.Extending.{map_ok}
use Rattle.rv_accept.specs.{Held.IsScope, Held.IsWithin, Held.AreLedInto, Passing.IsGiven, Judging.Stands}
use Rattle.rv_accept.proofs.Later.{given_later, led_later, scope_made, condition_ordered}
use Rattle.rv_accept.proofs.judging.entry_standing_in.Goals as goal

pub both-requires-clause-set : goal.both-requires-clause-set
both-requires-clause-set c = let (s, g, w, li) = c.requires.given in condition_ordered s c.args.store.now c.args.parts.now c.args.certificate.now c.args.k
    c.args.j c.args.location.now c.at-entry.result.now g.held g.range c.requires.at c.at-entry.ensures.value

pub scope_standing-requires-clause-given : goal.scope_standing-requires-clause-given
scope_standing-requires-clause-given c = let (s, g, w, li) = c.requires.given in (
  s,
  given_later c.args.store.now c.both.new.store c.both.ensures.extends s c.args.parts.now c.args.questions.now c.args.certificate.now g,
  scope_made s c.args.location.now c.at-entry.result.now c.args.store.now c.both.new.store c.args.within c.in_ok-scope.scope w c.in_ok-scope.ensures.found
      c.in_ok-scope.ensures.means,
  led_later c.args.store.now c.both.new.store c.both.ensures.extends s c.args.certificate.now c.args.led.now li,
)

pub scope_standing-requires-clause-entry : goal.scope_standing-requires-clause-entry
scope_standing-requires-clause-entry c = (c.args.j, record { location = c.requires.at; entry = c.at-entry.ensures.value })

pub returns-clause-exact : goal.returns-clause-exact
returns-clause-exact c =
    map_ok c.scope_standing.result (λ st. (s : System) → IsGiven s c.both.new.store c.args.parts.now c.args.questions.now c.args.certificate.now
    → IsScope s c.args.location.now c.at-entry.result.now c.both.new.store c.in_ok-scope.scope
    → AreLedInto s c.args.certificate.now c.both.new.store c.args.led.now → Stands s c.args.certificate.now c.args.location.now c.at-entry.result.now st)
    (λ st. (s : System) → IsGiven s c.args.store.now c.args.parts.now c.args.questions.now c.args.certificate.now
    → IsWithin s c.args.location.now c.args.store.now c.args.within
    → AreLedInto s c.args.certificate.now c.args.store.now c.args.led.now → (e : Entry) → slice_get c.args.location.now.entries c.args.j ≡ Some e
    → Stands s c.args.certificate.now c.args.location.now e st)
    (λ st h s g w li e at. subst (λ (x : Entry). Stands s c.args.certificate.now c.args.location.now x st)
    (same_Some c.at-entry.result.now e (sym c.at-entry.ensures.value ∙ at))
    (h s (given_later c.args.store.now c.both.new.store c.both.ensures.extends s c.args.parts.now c.args.questions.now c.args.certificate.now g)
    (scope_made s c.args.location.now c.at-entry.result.now c.args.store.now c.both.new.store c.args.within c.in_ok-scope.scope w
    c.in_ok-scope.ensures.found c.in_ok-scope.ensures.means)
    (led_later c.args.store.now c.both.new.store c.both.ensures.extends s c.args.certificate.now c.args.led.now li)))
    c.scope_standing.ensures.exact
