use Rattle.std.proofs.Common.{◌≡◌, ◌<◌, ℕ, false, sym, subst}
use Rattle.rv_diagram.specs.{Nodes.Valuation, Nodes.Diagrams, Nodes.IsOrderedOver}
use Rattle.rv_proofs.specs.{Systems.System}
use Rattle.rv_symbolic.specs.{Stepped.AreNextStates}
use Rattle.rv_walk.specs.{Ends.has, Extended.fresh_of, Extended.IsExtended, Walks.missing}
use Rattle.rv_left.proofs.Rounds.{front_closed, front_more, front_less}
use Rattle.rv_left.proofs.reaching.advance.Goals as goal

pub next_states-requires : goal.next_states-requires
next_states-requires c = (c.requires.0, c.requires.1, c.requires.2.fresh_control)

pub extend-requires-clause-reached : goal.extend-requires-clause-reached
extend-requires-clause-reached c =
    subst (λ (d : Diagrams). IsOrderedOver d.variables c.args.front.now.all) (sym c.next_states.ensures.same)
    (subst (λ (m : ℕ). IsOrderedOver m c.args.front.now.all) (sym c.requires.1.parts.variables) c.requires.2.all_control.ordered)

pub extend-requires-clause-next : goal.extend-requires-clause-next
extend-requires-clause-next c =
    subst (λ (d : Diagrams). IsOrderedOver d.variables c.in_ok-next.next.set) (sym c.next_states.ensures.same)
    (subst (λ (m : ℕ). IsOrderedOver m c.in_ok-next.next.set) (sym c.requires.1.parts.variables)
    (c.in_ok-next.ensures.exact c.requires.0 c.requires.1 c.requires.2.fresh_control).control.ordered)

pub returns-in_default-clause-ok : goal.returns-in_default-clause-ok
returns-in_default-clause-ok c s is f =
    let st : AreNextStates s c.args.front.now.fresh c.in_ok-next.next = c.in_ok-next.ensures.exact s is f.fresh_control in
    let none : (v : Valuation) → fresh_of c.args.front.now.all c.in_ok-next.next.set v ≡ false = rw c.in_default.is at c.in_ok-found.ensures.exact in
    front_closed s c.args.front.now.fresh c.args.front.now.all f c.in_ok-next.next st none

pub returns-clause-ok : goal.returns-clause-ok
returns-clause-ok c s is f =
    let st : AreNextStates s c.args.front.now.fresh c.in_ok-next.next = c.in_ok-next.ensures.exact s is f.fresh_control in
    let variables : c.next_states.new.store.variables ≡ s.variables =
    subst (λ (d : Diagrams). d.variables ≡ s.variables) (sym c.next_states.ensures.same) is.parts.variables in
    let x : IsExtended c.next_states.new.store.variables c.args.front.now.all c.in_ok-next.next.set c.in-Some.more =
    rw c.in-Some.is at c.in_ok-found.ensures.exact in
    front_more s c.args.front.now.fresh c.args.front.now.all f c.in_ok-next.next st c.in-Some.more
    (subst (λ (m : ℕ). IsExtended m c.args.front.now.all c.in_ok-next.next.set c.in-Some.more) variables x)
    (c.in_ok-found.ensures.control s variables f.all_control st.control c.in-Some.more c.in-Some.is)

pub returns-clause-less : goal.returns-clause-less
returns-clause-less c _ v =
    let s : System = c.requires.0 in
    let is = c.requires.1 in
    let f = c.requires.2 in
    let st : AreNextStates s c.args.front.now.fresh c.in_ok-next.next = c.in_ok-next.ensures.exact s is f.fresh_control in
    let variables : c.next_states.new.store.variables ≡ s.variables =
    subst (λ (d : Diagrams). d.variables ≡ s.variables) (sym c.next_states.ensures.same) is.parts.variables in
    let x : IsExtended c.next_states.new.store.variables c.args.front.now.all c.in_ok-next.next.set c.in-Some.more =
    rw c.in-Some.is at c.in_ok-found.ensures.exact in
    subst (λ (n : ℕ). missing n (has c.in-Some.more.all) v < missing n (has c.args.front.now.all) v) (sym is.parts.states)
    (front_less s c.args.front.now.fresh c.args.front.now.all f c.in_ok-next.next st c.in-Some.more
    (subst (λ (m : ℕ). IsExtended m c.args.front.now.all c.in_ok-next.next.set c.in-Some.more) variables x)
    (c.in_ok-found.ensures.control s variables f.all_control st.control c.in-Some.more c.in-Some.is) v)
