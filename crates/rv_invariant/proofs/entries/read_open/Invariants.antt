use Rattle.std.proofs.Common.{◌≡◌, ◌-◌, ◌^◌, ◌++◌, [], List, length}
use Rattle.rv_rows.specs.declared.farkas.Multipliers.{Multipliers}
use Rattle.rv_invfile.specs.{Readers.run, Parts.turns}
use Rattle.rv_invariant.specs.{Continues.Then, Continues.AllWait, Pieces.a_proof}
use Rattle.rv_invariant.proofs.entries.read_open.Given as goal

abbrev pub invariant-loop-turn : goal.invariant-loop-turn
invariant-loop-turn l = record {
  size : length l.found ≡ l.turn;
  kept : (next : Then (List Multipliers)) → AllWait next
      → run (turns 1024 (a_proof (2 ^ 30) l.fn.premises) (λ reach. next reach [])) l.fn.records
      ≡ run (turns (1024 - l.turn) (a_proof (2 ^ 30) l.premises) (λ more. next (l.found ++ more) [])) l.records;
}
