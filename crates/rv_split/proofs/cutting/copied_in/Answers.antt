use Rattle.std.proofs.Common.{ℕ, subst, arith, rules}
use Rattle.rv_diagram.specs.Nodes.{IsOrderedOver}
use Rattle.rv_split.proofs.Sets.{copied_state}
use Rattle.rv_split.proofs.Rooms.{room_one}
use Rattle.rv_split.proofs.cutting.copied_in.Goals as goal

pub returns-clause-states : goal.returns-clause-states
returns-clause-states c state s = copied_state c.args.store.now.variables state c.thaw.new.self.nodes c.args.set.now c.in_ok-freeze.field-0 c.in_ok-r.r s
    c.in_ok-r.ensures.ok.means (subst (λ (m : ℕ). IsOrderedOver m c.in_ok-freeze.field-0) c.in_ok-r.ensures.ok.grows.variables
    c.in_ok-freeze.ensures.ordered) c.in_ok-freeze.ensures.needed

pub returns-in_err-r-clause-room : goal.returns-in_err-r-clause-room
returns-in_err-r-clause-room c h = room_one c.args.store.now c.thaw.new.self c.in_err-r.ensures.err
    (c.in_err-r.ensures.short (first_of (search rules, grind (arith, h), cc)))
