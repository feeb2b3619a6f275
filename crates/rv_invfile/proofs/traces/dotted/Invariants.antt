use Rattle.std.proofs.Common.{◌≡◌, take}
use Rattle.std.specs.{Prelude.flat_map, String.string_bytes}
use Rattle.rv_invfile.proofs.Joined.{pointed}
use Rattle.rv_invfile.proofs.traces.dotted.Given as goal

abbrev pub invariant-loop-site : goal.invariant-loop-site
invariant-loop-site l = string_bytes l.text ≡ flat_map pointed (take l.site-index l.site-items)
