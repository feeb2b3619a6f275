use Rattle.std.proofs.Common.{◌∙◌, ap, sym, cond, ◌&&◌, nat_eq, Some, Option, ℕ}
use Rattle.rv_instances.specs.Callees.{callee_in}
use Rattle.rv_instances.proofs.CalleeTables.{looked_up}
use Rattle.rv_instances.proofs.callees.Callees.tell.Goals as goal

pub returns : goal.returns
returns c i s =
    sym (looked_up c.insert.new.self.entries i s) ∙ c.in_ok-insert.ensures.updates.0 (i, s)
    ∙ ap (λ (o : Option ℕ). cond (nat_eq c.args.instance i && nat_eq c.args.site s) (Some c.args.callee) o)
    (looked_up c.self.inside.numbers.entries i s ∙ ap (λ es. callee_in es i s) c.self.view_is)
