use Rattle.std.proofs.Common.{◌∙◌, sym, subst, Option, Bool}
use Rattle.rv_diagram.specs.Nodes.{Diagrams}
use Rattle.rv_proofs.specs.Systems.{System}
use Rattle.rv_accept.specs.{Held.IsWithin, Held.AreLedInto, Passing.IsGiven, Judging.IsLocated}
use Rattle.rv_accept.proofs.Later.{given_later, led_later, within_made}
use Rattle.rv_accept.proofs.Judgment.{not_included, not_covered, located_not_included, located_uncovered, located_all}
use Rattle.rv_accept.proofs.judging.location_standing_in.Goals as goal

pub first_not_included-requires-clause-range : goal.first_not_included-requires-clause-range
first_not_included-requires-clause-range c = let (s, g, li) = c.requires.given in
    (s, c.args.certificate.now, g.range.locations c.args.k c.args.location.now c.requires.at, g.range.counts c.args.k c.args.location.now c.requires.at)

pub returns-in-Some-clause-exact : goal.returns-in-Some-clause-exact
returns-in-Some-clause-exact c = λ s g li. located_not_included s c.args.certificate.now c.args.location.now (not_included c.args.location.now
    c.in-Some.field-0 c.in-Some.ensures.fails)

pub returns-in-Some-uncovered-clause-exact : goal.returns-in-Some-uncovered-clause-exact
returns-in-Some-uncovered-clause-exact c = λ s g li.
    let w : IsWithin s c.args.location.now c.both.new.store c.in_ok-within.within = within_made s c.args.location.now c.args.store.now c.both.new.store
    c.args.parts.now c.in_ok-within.within g.held c.in_ok-within.ensures.found c.in_ok-within.ensures.means in
    let h = rw c.in-Some-uncovered.is at (c.in_ok-uncovered.ensures.exact s g.held.system (c.both.ensures.extends.variables
    ∙ g.held.means.variables) (g.range.locations c.args.k c.args.location.now c.requires.at).control
    (λ j e there. ((g.range.locations c.args.k c.args.location.now c.requires.at).entries j e there).condition) w) in
    located_uncovered s c.args.certificate.now c.args.location.now (not_covered s c.args.location.now c.in-Some-uncovered.field-0 h)

pub entries_standing-requires-clause-given : goal.entries_standing-requires-clause-given
entries_standing-requires-clause-given c = let (s, g, li) = c.requires.given in
    subst (λ (d : Diagrams). (x : System) × IsGiven x d c.args.parts.now c.args.questions.now c.args.certificate.now
    × IsWithin x c.args.location.now d c.in_ok-within.within × AreLedInto x c.args.certificate.now d c.args.led.now) (sym c.cover_word.ensures.same) (
      s,
      given_later c.args.store.now c.both.new.store c.both.ensures.extends s c.args.parts.now c.args.questions.now c.args.certificate.now g,
      within_made s c.args.location.now c.args.store.now c.both.new.store c.args.parts.now c.in_ok-within.within g.held c.in_ok-within.ensures.found
          c.in_ok-within.ensures.means,
      led_later c.args.store.now c.both.new.store c.both.ensures.extends s c.args.certificate.now c.args.led.now li,
    )

pub returns-clause-exact : goal.returns-clause-exact
returns-clause-exact c = λ s g li.
    let w : IsWithin s c.args.location.now c.both.new.store c.in_ok-within.within = within_made s c.args.location.now c.args.store.now c.both.new.store
    c.args.parts.now c.in_ok-within.within g.held c.in_ok-within.ensures.found c.in_ok-within.ensures.means in
    let covers = rw c.in_default-uncovered.is at (c.in_ok-uncovered.ensures.exact s g.held.system (c.both.ensures.extends.variables
    ∙ g.held.means.variables) (g.range.locations c.args.k c.args.location.now c.requires.at).control
    (λ j e there. ((g.range.locations c.args.k c.args.location.now c.requires.at).entries j e there).condition) w) in
    let standing = c.in_ok-worst.ensures.exact s (subst (λ
    (d : Diagrams). IsGiven s d c.args.parts.now c.args.questions.now c.args.certificate.now) (sym c.cover_word.ensures.same)
    (given_later c.args.store.now c.both.new.store c.both.ensures.extends s c.args.parts.now c.args.questions.now c.args.certificate.now g))
    (subst (λ (d : Diagrams). IsWithin s c.args.location.now d c.in_ok-within.within) (sym c.cover_word.ensures.same) w)
    (subst (λ (d : Diagrams). AreLedInto s c.args.certificate.now d c.args.led.now) (sym c.cover_word.ensures.same)
    (led_later c.args.store.now c.both.new.store c.both.ensures.extends s c.args.certificate.now c.args.led.now li)) in
    subst (λ (o : Option Bool). IsLocated s c.args.certificate.now c.args.location.now o) (sym c.located.ensures)
    (located_all s c.args.certificate.now c.args.location.now c.in_ok-worst.worst c.in_default.ensures covers standing)
