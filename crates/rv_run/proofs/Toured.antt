-- The source that is made is accepted, safe and without integers, so that the proof of it is told.
use Rattle.std.proofs.Common.{◌≡◌, ◌⊎◌, inl, inr, ℕ, ◌≤◌, ◌<◌, ◌^◌, subst, arith}
use Rattle.std.specs.Prelude.{codes}
use Rattle.rv_make.specs.{Made.made_text, Chains.Offsets, Chains.chain_program}
use Rattle.rv_syntax.specs.ProgramText.{IsTextOf}
use Rattle.rv_types.specs.{Settled.IsSettled, declared.typed.Typed.Typed}
use Rattle.rv_causality.specs.Causes.{IsAccepted}
use Rattle.rv_meaning.specs.{Runs.IsSafe, Integers.IsControl}
use Rattle.rv_proofs.specs.declared.certificate.Certificate.{Certificate}
use Rattle.rv_run.specs.Answers.{IsNodesReport, IsOnSource, IsSafeUnlessCutOff}
use Rattle.rv_run.specs.declared.report.Report.TheVariants.{Memory, ReadFault, Safe, Toured}
use Rattle.rv_run.specs.{Programs.IsSafeControl, Programs.OnProgram, declared.report.Report.Report}

pub made_is_safe : (n : ℕ) (made : (o : Offsets) × IsTextOf (made_text n) (chain_program o n))
    → ((t : Typed) × IsSettled (chain_program made.0 n) (codes "main") t)
    → IsAccepted (chain_program made.0 n) (codes "main")
    → IsSafe (chain_program made.0 n) (codes "main")
    → IsControl (chain_program made.0 n) (codes "main")
    → OnProgram IsSafeControl (made_text n) (codes "main")
made_is_safe n made settled accepted safe control = record {
  program = chain_program made.0 n;
  typed = settled.0;
  source = record { text = made.1; settled = settled.1; accepted = accepted };
  holds = (control, safe);
}

-- a report on a safe source that is not Safe
pub left_over : (r : Report) → IsOnSource r → IsSafeUnlessCutOff r → ((c : Certificate) → r ≡ Safe c → ⊥) → IsNodesReport r ⊎ (r ≡ Memory)
left_over r on (inl (c, is)) other = absurd (other c is)
left_over r on (inr (inl nodes)) other = inl nodes
left_over r on (inr (inr (inl fault))) other = absurd (let bad : IsOnSource ReadFault = subst IsOnSource fault on in bad)
left_over r on (inr (inr (inr memory))) other = inr memory

pub same_certificate : (m n a b : ℕ) (c d : Certificate) → Toured m a c ≡ Toured n b d → c ≡ d
same_certificate m n a b c d e = cc

pub below : (n : ℕ) → n ≤ 2000 → n < 2 ^ 64
below n within = omega (arith, within)
