use Rattle.std.proofs.Common.{◌≡◌, ◌++◌, take}
use Rattle.std.specs.{Prelude.flat_map, String.string_bytes}
use Rattle.rv_run.proofs.Joined.{pointed}
use Rattle.rv_run.proofs.report.add_sites.Given as goal

abbrev pub invariant-loop-site : goal.invariant-loop-site
invariant-loop-site l = string_bytes l.text ≡ string_bytes l.initial.text ++ flat_map pointed (take l.site-index l.site-items)
