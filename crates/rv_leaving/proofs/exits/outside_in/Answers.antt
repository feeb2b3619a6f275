use Rattle.std.proofs.Common.{◌≡◌, ℕ, List, ap, ◌∙◌, subst}
use Rattle.rv_symbolic.specs.declared.relation.Parts.{Parts}
use Rattle.rv_symbolic.proofs.Extending.{map_ok}
use Rattle.rv_leaving.specs.{Led.IsLedBy, Exits.IsApart, Exits.AreOutside}
use Rattle.rv_leaving.proofs.Away.{outside_made}
use Rattle.rv_leaving.proofs.exits.outside_in.Goals as goal

pub returns-clause-outside : goal.returns-clause-outside
returns-clause-outside c s is control are =
    let list : c.as_slice.result.now ≡ c.args.relation.now.parts.next = c.as_slice.ensures ∙ ap (λ (p : Parts). p.next) c.parts-parts.ensures in
    let led : IsLedBy c.args.store.now c.led.new.store c.args.relation.now.parts.next c.args.from.now c.in_ok-inside.inside = subst
    (λ (l : List ℕ). IsLedBy c.args.store.now c.led.new.store l c.args.from.now c.in_ok-inside.inside) list c.in_ok-inside.ensures.led in
    map_ok c.apart.result (IsApart c.led.new.store c.args.taken c.in_ok-inside.inside)
    (AreOutside s c.args.store.now.nodes c.args.from.now c.args.taken)
    (λ f a. outside_made s c.args.store.now c.led.new.store c.args.relation.now is c.args.from.now control c.args.taken are c.led.ensures.extends
    c.in_ok-inside.inside led f a)
    c.apart.ensures.apart
