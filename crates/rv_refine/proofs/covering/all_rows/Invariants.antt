use Rattle.std.proofs.Common.{◌≡◌, All, length}
use Rattle.rv_proofs.specs.Systems.{System}
use Rattle.rv_refine.specs.Plans.{ArePremises, IsPlanned}
use Rattle.rv_refine.proofs.covering.all_rows.Given as goal

abbrev pub invariant-loop-place : goal.invariant-loop-place
invariant-loop-place l = record {
  many : length l.all ≡ l.place;
  rows : (s : System) → IsPlanned s l.questions l.frame → All (ArePremises s) l.all;
}
