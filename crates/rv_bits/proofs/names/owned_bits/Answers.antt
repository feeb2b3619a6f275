use Rattle.std.proofs.Common.{◌≡◌, ◌∙◌, ◌&&◌, ◌≤◌, ℕ, Bool, false, nat_lt, map, ap, sym, arith}
use Rattle.std.proofs.lemmas.Bool.{lt-ltb, le-ltb}
use Rattle.rv_diagram.specs.Nodes.{Valuation}
use Rattle.rv_flat.specs.Lists.{variable_of}
use Rattle.rv_control.specs.Named.{truth_at}
use Rattle.rv_bits.specs.Names.{owned}
use Rattle.rv_bits.proofs.Making.{spells_all}
use Rattle.rv_bits.proofs.names.owned_bits.Goals as goal

pub returns-clause-ok : goal.returns-clause-ok
returns-clause-ok c =
    let truth : ℕ → Valuation → Bool = λ b v. truth_at (map variable_of c.args.variables.now) v (owned c.args.owner.now b) in
    let is : c.loop-number.number ≡ c.args.count = omega arith in
    spells_all c.args.store.now c.loop-number.store c.loop-number.refs c.args.count (λ b v. nat_lt b c.args.count && truth b v)
    (c.loop-number.invariant.size ∙ is) c.loop-number.invariant.extends c.loop-number.invariant.found
    (λ b v lt. c.loop-number.invariant.means b v (omega arith) ∙ sym (ap (λ t. t && truth b v) (lt-ltb b c.args.count lt)))
    (λ b v le. ap (λ t. t && truth b v) (not_below b c.args.count le))
  where
    not_below : (b n : ℕ) → n ≤ b → nat_lt b n ≡ false
    not_below b n le = le-ltb b n le
