use Rattle.std.proofs.Common.{ℕ, ◌+◌, ◌<◌, List, length, sym, subst, arith}
use Rattle.rv_diagram.specs.{Nodes.Answers, Several.AreReplacements, Several.ref_at, Several.replaced}
use Rattle.rv_symbolic.proofs.Extending.{map_ok}
use Rattle.rv_leaving.specs.Led.{IsLedBy}
use Rattle.rv_leaving.proofs.Away.{led_made}
use Rattle.rv_leaving.proofs.inside.led.Goals as goal

pub compose_each-requires-clause-by : goal.compose_each-requires-clause-by
compose_each-requires-clause-by c =
    subst (λ (l : List ℕ). AreReplacements c.thaw.new.self.nodes c.thaw.new.self.variables l) (sym c.as_slice.ensures.value) (record {
      all = omega (arith, c.in_ok-by.ensures.size, c.variables-variables.ensures.is, c.in_ok-target.ensures.ok.grows.variables);
      refs = λ x.
          let h : ref_at c.in_ok-by.by.items x < length c.args.store.now.nodes + 2 = c.in_ok-by.ensures.found c.args.store.now.nodes c.requires.next x in
          omega (arith, h, c.in_ok-target.ensures.ok.grows.longer);
    })

pub returns-clause-led : goal.returns-clause-led
returns-clause-led c =
    map_ok c.compose_each.result
    (Answers c.thaw.new.self c.compose_each.new.self (replaced c.thaw.new.self.nodes c.in_ok-target.target c.as_slice.result.now))
    (IsLedBy c.args.store.now c.compose_each.new.self c.args.next.now c.args.to.now)
    (λ r p. led_made c.args.store.now c.thaw.new.self c.compose_each.new.self c.args.next.now c.in_ok-by.by.items c.args.to.now
    c.in_ok-target.target r c.in_ok-by.ensures.bits (c.in_ok-by.ensures.found c.args.store.now.nodes c.requires.next) c.in_ok-target.ensures.ok
    (subst (λ (l : List ℕ). Answers c.thaw.new.self c.compose_each.new.self (replaced c.thaw.new.self.nodes c.in_ok-target.target l) r)
    c.as_slice.ensures.value p))
    c.compose_each.ensures.ok
