use Rattle.std.proofs.Common.{◌≡◌, ◌++◌, take}
use Rattle.std.specs.{Prelude.codes, String.string_bytes}
use Rattle.rv_run.specs.Printed.{listed}
use Rattle.rv_run.proofs.report.cycle_text.Given as goal

abbrev pub invariant-loop-place : goal.invariant-loop-place
invariant-loop-place l = string_bytes l.text ≡ codes "reaver,refused,13,cycle" ++ listed (take l.place-index l.places)
