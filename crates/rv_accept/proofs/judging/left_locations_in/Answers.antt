use Rattle.std.proofs.Common.{◌≡◌, ℕ, List, sym, subst, length, Some, slice_get, Option, MatchOption}
use Rattle.std.proofs.Common.{None as Nothing}
use Rattle.rv_proofs.specs.{Systems.System, declared.certificate.Location.Location}
use Rattle.rv_diagram.proofs.Growing.{extends_trans, equal_extends}
use Rattle.rv_symbolic.proofs.Extending.{map_ok}
use Rattle.rv_accept.specs.{Held.AreLedInto, Passing.IsGiven, Judging.IsLocated, Judging.AreLocated}
use Rattle.rv_accept.proofs.Later.{given_later}
use Rattle.rv_accept.proofs.judging.left_locations_in.Goals as goal

pub left_among-requires : goal.left_among-requires
left_among-requires c = let (s, g) = c.requires.given in record {
  given = (
    s,
    given_later c.args.store.now c.led_into_each.new.store c.led_into_each.ensures.extends s c.args.parts.now c.args.questions.now c.args.certificate.now g,
    subst (λ (l : List ℕ). AreLedInto s c.args.certificate.now c.led_into_each.new.store l) (sym c.as_slice.ensures.value)
        (c.in_ok-led.ensures.exact s g.held g.range),
  );
}

pub returns-clause-extends : goal.returns-clause-extends
returns-clause-extends c = extends_trans c.args.store.now c.led_into_each.new.store c.left_among.new.store c.led_into_each.ensures.extends
    (equal_extends c.led_into_each.new.store c.left_among.new.store c.left_among.ensures.same)

pub returns-clause-exact : goal.returns-clause-exact
returns-clause-exact c = map_ok c.left_among.result _
    (λ (o : Option (List ℕ)). (s : System) → IsGiven s c.args.store.now c.args.parts.now c.args.questions.now c.args.certificate.now
    → MatchOption o ((k : ℕ) × (l : Location) × (slice_get c.args.certificate.now.locations k ≡ Some l)
    × IsLocated s c.args.certificate.now l Nothing)
    (AreLocated s c.args.certificate.now (length c.args.certificate.now.locations)))
    (λ o h s g. h s
    (given_later c.args.store.now c.led_into_each.new.store c.led_into_each.ensures.extends s c.args.parts.now c.args.questions.now c.args.certificate.now g)
    (subst (λ (l : List ℕ). AreLedInto s c.args.certificate.now c.led_into_each.new.store l) (sym c.as_slice.ensures.value)
    (c.in_ok-led.ensures.exact s g.held g.range)))
    c.left_among.ensures.exact
