use Rattle.std.proofs.Common.{◌≡◌, ◌++◌}
use Rattle.rv_diagram.specs.declared.frozen.Frozen.{Frozen}
use Rattle.rv_proofs.specs.Systems.{System}
use Rattle.rv_claims.specs.Claiming.{claim_of}
use Rattle.rv_claimed.specs.Certifying.{IsJudgeable, IsSetting, AreCasesIn, AreEntriesOf}
use Rattle.rv_claimed.proofs.entries.entries.Given as goal

abbrev pub invariant-loop-case : goal.invariant-loop-case
invariant-loop-case l = record {
  all : l.fn.cases ≡ l.yielded ++ l.case-iterator.rest.items;
  listed : (s : System) (from : Frozen) → IsJudgeable s l.many l.claim → IsSetting s (claim_of l.claim) from l.given → AreCasesIn s from l.fn.cases
      → AreEntriesOf s (claim_of l.claim) l.given l.yielded l.entries;
}
