use Rattle.std.proofs.Common.{subst}
use Rattle.rv_diagram.specs.Nodes.{value_of}
use Rattle.rv_symbolic.specs.{declared.relation.Parts.Parts, Represented.IsRelationOf}
use Rattle.rv_symbolic.proofs.Extending.{map_ok}
use Rattle.rv_boxes.specs.{Claiming.claim_of, Layering.IsNarrowedTo, Layering.ArePartsWith, Narrowed.narrowed}
use Rattle.rv_boxes.proofs.{Narrowing.narrowed_system, Relating.parts_refs, Relating.parts_narrowed, Rounding.kept_claim}
use Rattle.rv_least.proofs.narrowed.relation_in.Goals as goal

pub new-requires : goal.new-requires
new-requires c =
    let (s, r) = c.requires.relation in
    let out = r.laid_out in
    let w : ArePartsWith c.args.relation.now.parts c.args.taken c.in_ok-parts.parts = subst
    (λ (x : Parts). ArePartsWith x c.args.taken c.in_ok-parts.parts) c.parts.ensures c.in_ok-parts.ensures in
    parts_refs c.args.store.now c.args.relation.now.parts c.in_ok-parts.parts c.args.taken out.refs c.requires.taken w

pub returns-clause-narrowed : goal.returns-clause-narrowed
returns-clause-narrowed c s f d r frame kept taken =
    let w : ArePartsWith c.args.relation.now.parts c.args.taken c.in_ok-parts.parts = subst
    (λ (x : Parts). ArePartsWith x c.args.taken c.in_ok-parts.parts) c.parts.ensures c.in_ok-parts.ensures in
    let open_at = value_of c.args.store.now.nodes c.args.taken in
    let small = narrowed_system s r.system f.thresholds (claim_of d) (kept_claim s f frame d kept) kept.states open_at taken.exact in
    map_ok c.new.result (IsRelationOf (narrowed s open_at) c.new.new.store) (IsNarrowedTo s c.new.new.store (claim_of d))
    (λ x m. record { taken = open_at; exact = taken.exact; relation = m })
    (c.new.ensures.means (narrowed s open_at) small (parts_narrowed s c.args.store.now c.args.relation.now.parts c.in_ok-parts.parts
    c.args.taken r.parts w))
