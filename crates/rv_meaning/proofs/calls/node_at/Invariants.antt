use Rattle.std.proofs.Common.{◌≡◌, drop}
use Rattle.rv_meaning.specs.{Callings.callee_in, Leading.led_by}
use Rattle.rv_meaning.proofs.calls.node_at.Given as goal

abbrev pub invariant-loop-site : goal.invariant-loop-site
invariant-loop-site l = led_by (callee_in l.callees) l.number (drop l.site-index l.path) ≡ led_by (callee_in l.callees) l.from l.path
