use Rattle.std.proofs.Common.{◌≡◌, ℕ, ap, sym, subst}
use Rattle.rv_diagram.specs.{Nodes.Diagrams, Nodes.Valuation, Nodes.IsRef, Nodes.value_of, Growing.Extends}
use Rattle.rv_symbolic.specs.declared.relation.Parts.{Parts}
use Rattle.rv_least.specs.Rounds.{IsGoodAt}
use Rattle.rv_least.proofs.Nexting.{taken_from, next_made}
use Rattle.rv_least.proofs.next.next_of.Goals as goal

pub leaving-requires : goal.leaving-requires
leaving-requires c =
    let (s, f, r, frame, kept, taken) = c.requires in
    (s, r, kept.control, taken_from s r.system f frame c.args.claim.now kept c.args.store.now c.args.taken taken)

pub is_good-requires-clause-taken : goal.is_good-requires-clause-taken
is_good-requires-clause-taken c =
    let (s, f, r, frame, kept, taken) = c.requires in subst (λ (d : Diagrams). IsRef d.nodes c.args.taken) (sym c.leaving.ensures.same) taken.found

pub is_good-requires-clause-observer : goal.is_good-requires-clause-observer
is_good-requires-clause-observer c =
    let (s, f, r, frame, kept, taken) = c.requires in
    let out = r.laid_out in
    let refs = out.refs in
    subst (λ (d : Diagrams). IsRef d.nodes c.parts.result.now.observer) (sym c.leaving.ensures.same)
    (subst (λ (p : Parts). IsRef c.args.store.now.nodes p.observer) (sym c.parts.ensures) refs.observer)

pub returns-clause-extends : goal.returns-clause-extends
returns-clause-extends c = subst (λ (d : Diagrams). Extends d c.is_good.new.store) c.leaving.ensures.same c.is_good.ensures.extends

pub returns-clause-next : goal.returns-clause-next
returns-clause-next c s f r frame kept taken =
    let parts = r.parts in
    let means : (v : Valuation) → value_of c.args.store.now.nodes c.parts.result.now.observer v ≡ s.observer v = subst
    (λ (p : Parts). (v : Valuation) → value_of c.args.store.now.nodes p.observer v ≡ s.observer v) (sym c.parts.ensures) parts.observer in
    let good : IsGoodAt c.args.store.now.nodes c.args.taken c.parts.result.now.observer c.in_ok-good.good = subst
    (λ (d : Diagrams). IsGoodAt d.nodes c.args.taken c.parts.result.now.observer c.in_ok-good.good) c.leaving.ensures.same c.in_ok-good.ensures.good in
    next_made s c.args.store.now c.args.claim.now c.args.taken c.parts.result.now.observer c.in_ok-set.set c.in_ok-good.good taken means
    (c.in_ok-set.ensures.left s r kept.control (taken_from s r.system f frame c.args.claim.now kept c.args.store.now c.args.taken taken)) good
