use Rattle.std.proofs.Common.{◌∙◌, ap, sym, subst}
use Rattle.rv_diagram.specs.Nodes.{Diagrams, IsRef}
use Rattle.rv_proofs.specs.Systems.{System}
use Rattle.rv_symbolic.proofs.Extending.{map_ok}
use Rattle.rv_accept.specs.{Held.IsHeld, Held.IsScope, Held.AreLedInto, Passing.IsGiven, Judging.Stands}
use Rattle.rv_accept.proofs.Judgment.{fails_unsettled}
use Rattle.rv_accept.proofs.judging.scope_standing.Goals as goal

pub implied-requires-clause-given : goal.implied-requires-clause-given
implied-requires-clause-given c = let (s, g, sc, li) = c.requires.given in (s, g.held.system, g.questions, g.range, sc)

pub is_led-requires-clause-given : goal.is_led-requires-clause-given
is_led-requires-clause-given c = let (s, g, sc, li) = c.requires.given in
    (s, g.held.system, g.range, subst (λ (d : Diagrams). AreLedInto s c.args.certificate.now d c.args.led.now) (sym c.implied.ensures.same) li)

pub implied_standing-requires-clause-observer : goal.implied_standing-requires-clause-observer
implied_standing-requires-clause-observer c = let (s, g, sc, li) = c.requires.given in
    subst (λ (d : Diagrams). IsRef d.nodes c.args.parts.now.observer) (sym (c.is_led.ensures.same ∙ c.implied.ensures.same)) g.held.refs.observer

pub unimplied_standing-requires-clause-observer : goal.unimplied_standing-requires-clause-observer
unimplied_standing-requires-clause-observer c = let (s, g, sc, li) = c.requires.given in
    subst (λ (d : Diagrams). IsRef d.nodes c.args.parts.now.observer) (sym (c.is_led.ensures.same ∙ c.implied.ensures.same)) g.held.refs.observer

pub returns-in_default-clause-exact : goal.returns-in_default-clause-exact
returns-in_default-clause-exact c = λ s g sc li. fails_unsettled s c.args.certificate.now c.args.location.now c.args.entry.now
    (rw c.in_default.is at (c.in_ok-found.ensures.exact s g.held.system g.questions g.range sc))

pub returns-then-not-leads-clause-exact : goal.returns-then-not-leads-clause-exact
returns-then-not-leads-clause-exact c = λ s g sc li len.
    let not = rw c.if-not-leads.true at (c.in_ok-leads.ensures.exact s g.held.system (ap (λ (d : Diagrams). d.variables) c.implied.ensures.same
    ∙ g.held.means.variables) g.range (subst (λ (d : Diagrams). AreLedInto s c.args.certificate.now d c.args.led.now) (sym c.implied.ensures.same) li)
    (subst (λ (d : Diagrams). IsScope s c.args.location.now c.args.entry.now d c.args.scope) (sym c.implied.ensures.same) sc)) in
    not len.leads

pub returns-then-holds-clause-exact : goal.returns-then-holds-clause-exact
returns-then-holds-clause-exact c = let (j, is) = c.requires.entry in
    map_ok c.implied_standing.result _ (λ st. (s : System) → IsGiven s c.args.store.now c.args.parts.now c.args.questions.now c.args.certificate.now
    → IsScope s c.args.location.now c.args.entry.now c.args.store.now c.args.scope → AreLedInto s c.args.certificate.now c.args.store.now c.args.led.now
    → Stands s c.args.certificate.now c.args.location.now c.args.entry.now st)
    (λ st h s g sc li.
    let f = rw c.in-Some.is at (c.in_ok-found.ensures.exact s g.held.system g.questions g.range sc) in
    let all = rw c.if-holds.true at f.1 in
    let leads = rw c.if-not-leads.false at (c.in_ok-leads.ensures.exact s g.held.system (ap (λ (d : Diagrams). d.variables) c.implied.ensures.same
    ∙ g.held.means.variables) g.range (subst (λ (d : Diagrams). AreLedInto s c.args.certificate.now d c.args.led.now) (sym c.implied.ensures.same) li)
    (subst (λ (d : Diagrams). IsScope s c.args.location.now c.args.entry.now d c.args.scope) (sym c.implied.ensures.same) sc)) in
    h s c.args.certificate.now c.args.k j c.args.location.now (subst (λ (d : Diagrams). IsHeld s d c.args.parts.now)
    (sym (c.is_led.ensures.same ∙ c.implied.ensures.same)) g.held) g.range is (subst (λ
    (d : Diagrams). IsScope s c.args.location.now c.args.entry.now d c.args.scope) (sym (c.is_led.ensures.same ∙ c.implied.ensures.same)) sc) f.0 leads all)
    c.implied_standing.ensures.exact

pub returns-else-holds-clause-exact : goal.returns-else-holds-clause-exact
returns-else-holds-clause-exact c =
    map_ok c.unimplied_standing.result _ (λ st. (s : System) → IsGiven s c.args.store.now c.args.parts.now c.args.questions.now c.args.certificate.now
    → IsScope s c.args.location.now c.args.entry.now c.args.store.now c.args.scope → AreLedInto s c.args.certificate.now c.args.store.now c.args.led.now
    → Stands s c.args.certificate.now c.args.location.now c.args.entry.now st)
    (λ st h s g sc li.
    let f = rw c.in-Some.is at (c.in_ok-found.ensures.exact s g.held.system g.questions g.range sc) in
    let lacks = rw c.if-holds.false at f.1 in
    let leads = rw c.if-not-leads.false at (c.in_ok-leads.ensures.exact s g.held.system (ap (λ (d : Diagrams). d.variables) c.implied.ensures.same
    ∙ g.held.means.variables) g.range (subst (λ (d : Diagrams). AreLedInto s c.args.certificate.now d c.args.led.now) (sym c.implied.ensures.same) li)
    (subst (λ (d : Diagrams). IsScope s c.args.location.now c.args.entry.now d c.args.scope) (sym c.implied.ensures.same) sc)) in
    h s c.args.certificate.now c.args.location.now (subst (λ (d : Diagrams). IsHeld s d c.args.parts.now)
    (sym (c.is_led.ensures.same ∙ c.implied.ensures.same)) g.held) (subst (λ (d : Diagrams). IsScope s c.args.location.now c.args.entry.now d c.args.scope)
    (sym (c.is_led.ensures.same ∙ c.implied.ensures.same)) sc) f.0 leads lacks)
    c.unimplied_standing.ensures.exact
