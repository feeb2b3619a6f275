use Rattle.std.proofs.Common.{◌∙◌, sym, subst}
use Rattle.rv_diagram.specs.Nodes.{Diagrams}
use Rattle.rv_proofs.specs.Systems.{System}
use Rattle.rv_accept.specs.{Held.IsWithin, Held.AreLedInto, Passing.IsGiven}
use Rattle.rv_accept.proofs.{Later.given_later, Later.led_later, Later.within_made, Later.location_whole, Firsts.first_inclusion, Firsts.first_uncovered}
use Rattle.rv_accept.proofs.checker.location_fault_in.Goals as goal

pub first_not_included-requires-clause-range : goal.first_not_included-requires-clause-range
first_not_included-requires-clause-range c = let (s, g, li) = c.requires.given in
    (s, c.args.certificate.now, g.range.locations c.args.k c.args.location.now c.requires.at, g.range.counts c.args.k c.args.location.now c.requires.at)

pub returns-in-Some-clause-exact : goal.returns-in-Some-clause-exact
returns-in-Some-clause-exact c = λ s g li before. first_inclusion s c.args.certificate.now c.args.k c.args.location.now c.requires.at before c.in-Some.row
    c.in-Some.ensures.fails c.in-Some.ensures.first

pub returns-in-Some-2-clause-exact : goal.returns-in-Some-2-clause-exact
returns-in-Some-2-clause-exact c = λ s g li before.
    let w : IsWithin s c.args.location.now c.both.new.store c.in_ok-within.within = within_made s c.args.location.now c.args.store.now c.both.new.store
    c.args.parts.now c.in_ok-within.within g.held c.in_ok-within.ensures.found c.in_ok-within.ensures.means in
    let h = rw c.in-Some-2.is at (c.in_ok-word.ensures.exact s g.held.system (c.both.ensures.extends.variables
    ∙ g.held.means.variables) (g.range.locations c.args.k c.args.location.now c.requires.at).control
    (λ j e there. ((g.range.locations c.args.k c.args.location.now c.requires.at).entries j e there).condition) w) in
    first_uncovered s c.args.certificate.now c.args.k c.args.location.now c.requires.at before c.in-Some-2.word c.in_default.ensures h

pub entries_fault-requires-clause-given : goal.entries_fault-requires-clause-given
entries_fault-requires-clause-given c = let (s, g, li) = c.requires.given in
    subst (λ (d : Diagrams). (x : System) × IsGiven x d c.args.parts.now c.args.questions.now c.args.certificate.now
    × IsWithin x c.args.location.now d c.in_ok-within.within × AreLedInto x c.args.certificate.now d c.args.led.now) (sym c.cover_word.ensures.same) (
      s,
      given_later c.args.store.now c.both.new.store c.both.ensures.extends s c.args.parts.now c.args.questions.now c.args.certificate.now g,
      within_made s c.args.location.now c.args.store.now c.both.new.store c.args.parts.now c.in_ok-within.within g.held c.in_ok-within.ensures.found
          c.in_ok-within.ensures.means,
      led_later c.args.store.now c.both.new.store c.both.ensures.extends s c.args.certificate.now c.args.led.now li,
    )

pub returns-clause-exact : goal.returns-clause-exact
returns-clause-exact c = location_whole c.entries_fault.result c.args.store.now c.cover_word.new.store c.args.parts.now c.args.questions.now
    c.args.certificate.now c.args.k c.args.location.now c.in_ok-within.within c.args.led.now c.in_default.ensures
    (λ s g li.
    let w : IsWithin s c.args.location.now c.both.new.store c.in_ok-within.within = within_made s c.args.location.now c.args.store.now c.both.new.store
    c.args.parts.now c.in_ok-within.within g.held c.in_ok-within.ensures.found c.in_ok-within.ensures.means in
    let h = rw c.in_default-2.is at (c.in_ok-word.ensures.exact s g.held.system (c.both.ensures.extends.variables
    ∙ g.held.means.variables) (g.range.locations c.args.k c.args.location.now c.requires.at).control
    (λ j e there. ((g.range.locations c.args.k c.args.location.now c.requires.at).entries j e there).condition) w) in (
      subst (λ (d : Diagrams). IsGiven s d c.args.parts.now c.args.questions.now c.args.certificate.now) (sym c.cover_word.ensures.same)
          (given_later c.args.store.now c.both.new.store c.both.ensures.extends s c.args.parts.now c.args.questions.now c.args.certificate.now g),
      subst (λ (d : Diagrams). IsWithin s c.args.location.now d c.in_ok-within.within) (sym c.cover_word.ensures.same) w,
      subst (λ (d : Diagrams). AreLedInto s c.args.certificate.now d c.args.led.now) (sym c.cover_word.ensures.same)
          (led_later c.args.store.now c.both.new.store c.both.ensures.extends s c.args.certificate.now c.args.led.now li),
      h,
    ))
    c.entries_fault.ensures.exact
