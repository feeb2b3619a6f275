use Rattle.std.proofs.Common.{◌≡◌, ℕ, List, sym, subst, Some, slice_get, Option, MatchOption}
use Rattle.rv_proofs.specs.{Systems.System, Accepted.IsInitial, Verdicts.IsFirst, declared.certificate.Location.Location, declared.verdict.Reason.Reason}
use Rattle.rv_diagram.proofs.Growing.{extends_trans, equal_extends}
use Rattle.rv_symbolic.proofs.Extending.{map_ok}
use Rattle.rv_accept.specs.{Held.AreLedInto, Passing.IsGiven, Passing.AllPass}
use Rattle.rv_accept.proofs.Later.{given_later}
use Rattle.rv_accept.proofs.checker.later_fault_in.Goals as goal

pub locations_fault-requires : goal.locations_fault-requires
locations_fault-requires c = let (s, g) = c.requires.given in record {
  given = (
    s,
    given_later c.args.store.now c.led_into_each.new.store c.led_into_each.ensures.extends s c.args.parts.now c.args.questions.now c.args.certificate.now g,
    subst (λ (l : List ℕ). AreLedInto s c.args.certificate.now c.led_into_each.new.store l) (sym c.as_slice.ensures.value)
        (c.in_ok-led.ensures.exact s g.held g.range),
  );
}

pub returns-clause-extends : goal.returns-clause-extends
returns-clause-extends c = extends_trans c.args.store.now c.led_into_each.new.store c.locations_fault.new.store c.led_into_each.ensures.extends
    (equal_extends c.led_into_each.new.store c.locations_fault.new.store c.locations_fault.ensures.same)

pub returns-clause-exact : goal.returns-clause-exact
returns-clause-exact c = map_ok c.locations_fault.result
    (λ (o : Option Reason). (s : System) → IsGiven s c.led_into_each.new.store c.args.parts.now c.args.questions.now c.args.certificate.now
    → AreLedInto s c.args.certificate.now c.led_into_each.new.store c.as_slice.result.now → MatchOption o ((k : ℕ) (l : Location)
    → slice_get c.args.certificate.now.locations k ≡ Some l → AllPass s c.args.certificate.now l)
    (λ r. IsInitial s c.args.certificate.now → IsFirst s c.args.certificate.now r))
    (λ (o : Option Reason). (s : System) → IsGiven s c.args.store.now c.args.parts.now c.args.questions.now c.args.certificate.now
    → MatchOption o ((k : ℕ) (l : Location) → slice_get c.args.certificate.now.locations k ≡ Some l → AllPass s c.args.certificate.now l)
    (λ r. IsInitial s c.args.certificate.now → IsFirst s c.args.certificate.now r))
    (λ o h s g. h s
    (given_later c.args.store.now c.led_into_each.new.store c.led_into_each.ensures.extends s c.args.parts.now c.args.questions.now c.args.certificate.now g)
    (subst (λ (l : List ℕ). AreLedInto s c.args.certificate.now c.led_into_each.new.store l) (sym c.as_slice.ensures.value)
    (c.in_ok-led.ensures.exact s g.held g.range)))
    c.locations_fault.ensures.exact
