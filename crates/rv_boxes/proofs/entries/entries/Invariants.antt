use Rattle.std.proofs.Common.{◌≡◌, ◌++◌, length}
use Rattle.rv_diagram.specs.declared.frozen.Frozen.{Frozen}
use Rattle.rv_proofs.specs.{Systems.System, Boxes.BoxClaim}
use Rattle.rv_boxes.specs.{Rounds.IsSetting, Certifying.IsJudgeable, Certifying.AreCasesIn, Certifying.AreEntriesOf}
use Rattle.rv_boxes.proofs.entries.entries.Given as goal

abbrev pub invariant-loop-case : goal.invariant-loop-case
invariant-loop-case l = record {
  all : l.fn.cases ≡ l.yielded ++ l.case-iterator.rest.items;
  entries : (s : System) (c : BoxClaim) (from : Frozen) → IsJudgeable s l.frame c l.wanted → IsSetting s c from l.given → AreCasesIn s from l.fn.cases
      → AreEntriesOf s c from l.given l.wanted l.yielded (length l.yielded) l.list;
}
