use Rattle.std.proofs.Common.{◌≡◌, ◌∙◌, ◌&&◌, ℕ, List, ap, sym, subst, arith}
use Rattle.rv_diagram.specs.{Nodes.Diagrams, Nodes.Answers, Nodes.IsRef, Nodes.IsOrderedOver, Nodes.value_of}
use Rattle.rv_diagram.proofs.Growing.{extends_trans, grows_extends}
use Rattle.rv_diagram.specs.Growing.{Extends}
use Rattle.rv_symbolic.specs.{declared.relation.Parts.Parts, Stepped.AreNextStates, Linked.AreRefs}
use Rattle.rv_symbolic.proofs.Extending.{refs_after}
use Rattle.rv_walk.specs.Ends.{has}
use Rattle.rv_left.specs.{Becoming.AreBecoming}
use Rattle.rv_left.proofs.Aiming.{source_made}
use Rattle.rv_left.proofs.entering.source_of.Goals as goal

pub next_states-requires : goal.next_states-requires
next_states-requires c = (c.requires.0, c.requires.1, c.requires.2)

pub thaw-requires : goal.thaw-requires
thaw-requires c =
    subst (λ (d : Diagrams). IsOrderedOver d.variables c.in_ok-next.next.set) (sym c.next_states.ensures.same)
    (subst (λ (m : ℕ). IsOrderedOver m c.in_ok-next.next.set) (sym c.requires.1.parts.variables)
    (c.in_ok-next.ensures.exact c.requires.0 c.requires.1 c.requires.2).control.ordered)

pub and-requires-clause-a : goal.and-requires-clause-a
and-requires-clause-a c =
    let parts : c.parts-parts.result.now ≡ c.args.relation.now.parts = c.parts-parts.ensures in
    let thawed : Answers c.args.store.now c.thaw.new.self (has c.in_ok-next.next.set) c.in_ok-image.image =
    subst (λ (d : Diagrams). Answers d c.thaw.new.self (has c.in_ok-next.next.set) c.in_ok-image.image) c.next_states.ensures.same
    c.in_ok-image.ensures.ok in
    subst (λ (p : Parts). IsRef c.thaw.new.self.nodes p.allowed) (sym parts)
    (let found : IsRef c.args.store.now.nodes c.args.relation.now.parts.allowed = c.requires.1.laid_out.refs.allowed in
    omega (arith, found, thawed.grows.longer))

pub and-requires-clause-b : goal.and-requires-clause-b
and-requires-clause-b c =
    let thawed : Answers c.args.store.now c.thaw.new.self (has c.in_ok-next.next.set) c.in_ok-image.image =
    subst (λ (d : Diagrams). Answers d c.thaw.new.self (has c.in_ok-next.next.set) c.in_ok-image.image) c.next_states.ensures.same
    c.in_ok-image.ensures.ok in
    let found : IsRef c.args.store.now.nodes c.args.whole = c.requires.3 in omega (arith, found, thawed.grows.longer)

pub replacements-requires-clause-next : goal.replacements-requires-clause-next
replacements-requires-clause-next c =
    let parts : c.parts-parts.result.now ≡ c.args.relation.now.parts = c.parts-parts.ensures in
    let list : c.as_slice.result.now ≡ c.args.relation.now.parts.next = c.as_slice.ensures ∙ ap (λ (p : Parts). p.next) parts in
    let thawed : Answers c.args.store.now c.thaw.new.self (has c.in_ok-next.next.set) c.in_ok-image.image =
    subst (λ (d : Diagrams). Answers d c.thaw.new.self (has c.in_ok-next.next.set) c.in_ok-image.image) c.next_states.ensures.same
    c.in_ok-image.ensures.ok in
    let grown : Extends c.args.store.now c.and.new.self = extends_trans c.args.store.now c.thaw.new.self c.and.new.self
    (grows_extends c.args.store.now c.thaw.new.self thawed.grows) (grows_extends c.thaw.new.self c.and.new.self c.in_ok-within.ensures.ok.grows) in
    subst (λ (l : List ℕ). AreRefs c.and.new.self.nodes l) (sym list)
    (refs_after c.args.store.now c.and.new.self c.args.relation.now.parts.next grown c.requires.1.laid_out.refs.next)

pub replacements-requires-clause-within : goal.replacements-requires-clause-within
replacements-requires-clause-within c = c.in_ok-within.ensures.ok.found

pub returns-clause-source : goal.returns-clause-source
returns-clause-source c s is control =
    let parts : c.parts-parts.result.now ≡ c.args.relation.now.parts = c.parts-parts.ensures in
    let list : c.as_slice.result.now ≡ c.args.relation.now.parts.next = c.as_slice.ensures ∙ ap (λ (p : Parts). p.next) parts in
    let thawed : Answers c.args.store.now c.thaw.new.self (has c.in_ok-next.next.set) c.in_ok-image.image =
    subst (λ (d : Diagrams). Answers d c.thaw.new.self (has c.in_ok-next.next.set) c.in_ok-image.image) c.next_states.ensures.same
    c.in_ok-image.ensures.ok in
    let st : AreNextStates s c.args.part.now c.in_ok-next.next = c.in_ok-next.ensures.exact s is control in
    source_made s c.args.store.now c.thaw.new.self c.and.new.self c.replacements.new.store c.args.relation.now is c.args.part.now c.in_ok-next.next st
    c.args.whole c.requires.3 c.requires.4 (record { image = c.in_ok-image.image; within = c.in_ok-within.within; by = c.in_ok-by.by }) thawed
    (subst (λ (p : Parts). Answers c.thaw.new.self c.and.new.self (λ v. value_of c.thaw.new.self.nodes p.allowed v
    && value_of c.thaw.new.self.nodes c.args.whole v) c.in_ok-within.within) parts c.in_ok-within.ensures.ok)
    (subst (λ (l : List ℕ). AreBecoming c.and.new.self c.replacements.new.store l c.in_ok-within.within c.and.new.self.variables c.in_ok-by.by.items)
    list c.in_ok-by.ensures.becomes)

pub returns-in_err-by-clause-extends : goal.returns-in_err-by-clause-extends
returns-in_err-by-clause-extends c =
    let thawed : Answers c.args.store.now c.thaw.new.self (has c.in_ok-next.next.set) c.in_ok-image.image =
    subst (λ (d : Diagrams). Answers d c.thaw.new.self (has c.in_ok-next.next.set) c.in_ok-image.image) c.next_states.ensures.same
    c.in_ok-image.ensures.ok in
    extends_trans c.args.store.now c.and.new.self c.replacements.new.store (extends_trans c.args.store.now c.thaw.new.self c.and.new.self
    (grows_extends c.args.store.now c.thaw.new.self thawed.grows) (grows_extends c.thaw.new.self c.and.new.self c.in_ok-within.ensures.ok.grows))
    c.replacements.ensures.extends

pub returns-clause-extends : goal.returns-clause-extends
returns-clause-extends c =
    let thawed : Answers c.args.store.now c.thaw.new.self (has c.in_ok-next.next.set) c.in_ok-image.image =
    subst (λ (d : Diagrams). Answers d c.thaw.new.self (has c.in_ok-next.next.set) c.in_ok-image.image) c.next_states.ensures.same
    c.in_ok-image.ensures.ok in
    extends_trans c.args.store.now c.and.new.self c.replacements.new.store (extends_trans c.args.store.now c.thaw.new.self c.and.new.self
    (grows_extends c.args.store.now c.thaw.new.self thawed.grows) (grows_extends c.thaw.new.self c.and.new.self c.in_ok-within.ensures.ok.grows))
    c.replacements.ensures.extends
