-- What the report on a verdict says of the program, and that no other comes.
use Rattle.std.proofs.Common.{◌≡◌, inl, inr, ℕ, ◌+◌, true, false, refl, sym, ◌∙◌, arith, subst, Some}
use Rattle.std.specs.Prelude.{Result, Ok, Err, IfOk, IsErrOf}
use Rattle.rv_base.specs.{declared.value.Trace.Trace, declared.value.Value.TheVariants.Flag}
use Rattle.rv_tree.specs.{Tree.ProgramTree, Places.Identifier}
use Rattle.rv_meaning.specs.Runs.{IsSafe}
use Rattle.rv_source.specs.declared.fault.SourceFault.{SourceFault}
use Rattle.rv_diagram.specs.declared.store.StoreFault.{StoreFault}
use Rattle.rv_diagram.specs.declared.store.StoreFault.TheVariants as fault
use Rattle.rv_proofs.specs.{declared.certificate.Certificate.Certificate, declared.report.LeftReport.LeftReport}
use Rattle.rv_walk.specs.Plain.{ArePlain}
use Rattle.rv_falsify.specs.Falsifying.{IsFalsifying}
use Rattle.rv_probe.specs.Probes.{probe_of}
use Rattle.rv_replay.specs.Replays.{IsFalsifiedAt}
use Rattle.rv_run.specs.Answers.{IsOnSource, IsJudgedUnlessLimited, IsSafeUnlessCutOff, IsViolatedUnlessCutOff, IsViolatedUnlessUnread}
use Rattle.rv_run.specs.Programs.{IsSafeControl, IsUnsafeControl, IsCertified, HasGoodClaim, HasManyVariables, HasProbe, IsUnknown, LacksGoodClaim, LacksProbe}
use Rattle.rv_run.specs.Verdicts.{IsViolated, IsDocumentOf, IsInvariantOf, IsLeftOf, IsPlainVerdict, IsTraced, IsVerdictOf, verdict_report, verdict_document}
use Rattle.rv_run.specs.declared.verdict.Verdict.{Verdict}
use Rattle.rv_run.specs.declared.verdict.Verdict.TheVariants.{Safe, Violated, Undecided}
use Rattle.rv_run.specs.declared.report.Report.TheVariants as report

pub verdict-on_source : (nodes : ℕ) (r : Result Verdict StoreFault) → IsOnSource (verdict_report nodes r)
verdict-on_source nodes (Ok (Safe c text)) = tt
verdict-on_source nodes (Ok (Violated t text)) = tt
verdict-on_source nodes (Ok (Undecided l text)) = tt
verdict-on_source nodes (Err fault.Nodes) = tt
verdict-on_source nodes (Err fault.Memory) = tt

pub verdict-not_refused : (nodes : ℕ) (r : Result Verdict StoreFault) (e : SourceFault) → verdict_report nodes r ≡ report.Refused e → ⊥
verdict-not_refused nodes (Ok (Safe c text)) e is = cc
verdict-not_refused nodes (Ok (Violated t text)) e is = cc
verdict-not_refused nodes (Ok (Undecided l text)) e is = cc
verdict-not_refused nodes (Err fault.Nodes) e is = cc
verdict-not_refused nodes (Err fault.Memory) e is = cc

-- the certificate that is told is that of the verdict
pub said_plain : (nodes : ℕ) (r : Result Verdict StoreFault) (c : Certificate) → IfOk r IsPlainVerdict → verdict_report nodes r ≡ report.Safe c → ArePlain c
said_plain nodes (Ok (Safe d text)) c plain is = subst ArePlain (same d c is) plain
  where
    same : (d c : Certificate) → report.Safe d ≡ report.Safe c → d ≡ c
    same d c e = cc
said_plain nodes (Ok (Violated t text)) c plain is = absurd (let different : ⊥ = cc in different)
said_plain nodes (Ok (Undecided l text)) c plain is = absurd (let different : ⊥ = cc in different)
said_plain nodes (Err fault.Nodes) c plain is = absurd (let different : ⊥ = cc in different)
said_plain nodes (Err fault.Memory) c plain is = absurd (let different : ⊥ = cc in different)

-- each verdict is told
pub must_judged : (nodes : ℕ) (r : Result Verdict StoreFault) → IsJudgedUnlessLimited (verdict_report nodes r)
must_judged nodes (Ok (Safe c text)) = inl (inl (c, refl))
must_judged nodes (Ok (Violated t text)) = inl (inr (inl (t, refl)))
must_judged nodes (Ok (Undecided l text)) = inl (inr (inr (l, refl)))
must_judged nodes (Err fault.Nodes) = inr (inl (nodes, refl))
must_judged nodes (Err fault.Memory) = inr (inr (inr refl))

module _ (nodes limit : ℕ) (p : ProgramTree) (m : Identifier) where
  -- a program that a trace falsifies is not safe
  falsified-unsafe : (t : Trace) (k : ℕ) → IsFalsifiedAt p m t k → IsSafe p m → ⊥
  falsified-unsafe t k at safe =
      let run = at.falsifies in
      let held = safe (k + 1) k at.starts at.inputs run.0 run.1 (omega arith) run.2 in
      let both : Some (Flag false) ≡ Some (Flag true) = sym run.3 ∙ held in
      different both
    where
      different : Some (Flag false) ≡ Some (Flag true) → ⊥
      different e = cc

  pub falsifying-unsafe : (t : Trace) → IsFalsifying p m t → IsSafe p m → ⊥
  falsifying-unsafe t is safe = falsified-unsafe t is.last is.falsified safe

  pub probe-unsafe : HasProbe p m → IsSafe p m → ⊥
  probe-unsafe (f, flat, (b, c, k, at)) safe = falsified-unsafe (probe_of f b c) k at.falsified safe

  -- a trace that is shown is the verdict
  pub traced-verdict : (t : Trace) → IsViolated nodes t p m → LacksGoodClaim p m → (r : Result Verdict StoreFault) → IfOk r (IsTraced t p m)
      → IfOk r (λ v. IsVerdictOf nodes limit v p m)
  traced-verdict t is lacks (Ok (Violated u text)) (same, shown) =
      (subst (λ (x : Trace). IsViolated nodes x p m) (sym same) is, subst (λ (x : Trace). IsDocumentOf x text.items p m) (sym same) shown, lacks)
  traced-verdict t is lacks (Ok (Safe c text)) bad = absurd bad
  traced-verdict t is lacks (Ok (Undecided l text)) bad = absurd bad
  traced-verdict t is lacks (Err e) told = told

  pub said_safe : (r : Result Verdict StoreFault) (c : Certificate) → IfOk r (λ v. IsVerdictOf nodes limit v p m) → verdict_report nodes r ≡ report.Safe c
      → IsSafe p m × IsCertified c p m × IsInvariantOf c (verdict_document r) p m
  said_safe (Ok (Safe d text)) c judged is =
      subst (λ (e : Certificate). IsSafe p m × IsCertified e p m × IsInvariantOf e text.items p m) (same d c is) judged
    where
      same : (d c : Certificate) → report.Safe d ≡ report.Safe c → d ≡ c
      same d c e = cc
  said_safe (Ok (Violated t text)) c judged is = absurd (let different : ⊥ = cc in different)
  said_safe (Ok (Undecided l text)) c judged is = absurd (let different : ⊥ = cc in different)
  said_safe (Err fault.Nodes) c judged is = absurd (let different : ⊥ = cc in different)
  said_safe (Err fault.Memory) c judged is = absurd (let different : ⊥ = cc in different)

  pub said_violated : (r : Result Verdict StoreFault) (t : Trace) → IfOk r (λ v. IsVerdictOf nodes limit v p m) → verdict_report nodes r ≡ report.Violated t
      → IsViolated nodes t p m × IsDocumentOf t (verdict_document r) p m × LacksGoodClaim p m
  said_violated (Ok (Violated u text)) t judged is = subst (λ (e : Trace). IsViolated nodes e p m × IsDocumentOf e text.items p m × LacksGoodClaim p m)
      (same u t is) judged
    where
      same : (u t : Trace) → report.Violated u ≡ report.Violated t → u ≡ t
      same u t e = cc
  said_violated (Ok (Safe d text)) t judged is = absurd (let different : ⊥ = cc in different)
  said_violated (Ok (Undecided l text)) t judged is = absurd (let different : ⊥ = cc in different)
  said_violated (Err fault.Nodes) t judged is = absurd (let different : ⊥ = cc in different)
  said_violated (Err fault.Memory) t judged is = absurd (let different : ⊥ = cc in different)

  pub said_unknown : (r : Result Verdict StoreFault) (l : LeftReport) → IfOk r (λ v. IsVerdictOf nodes limit v p m) → verdict_report nodes r ≡ report.Unknown l
      → IsUnknown limit l p m × IsLeftOf limit l (verdict_document r) p m
  said_unknown (Ok (Undecided k text)) l judged is = subst (λ (x : LeftReport). IsUnknown limit x p m × IsLeftOf limit x text.items p m) (same k l is) judged
    where
      same : (k l : LeftReport) → report.Unknown k ≡ report.Unknown l → k ≡ l
      same k l e = cc
  said_unknown (Ok (Safe d text)) l judged is = absurd (let different : ⊥ = cc in different)
  said_unknown (Ok (Violated t text)) l judged is = absurd (let different : ⊥ = cc in different)
  said_unknown (Err fault.Nodes) l judged is = absurd (let different : ⊥ = cc in different)
  said_unknown (Err fault.Memory) l judged is = absurd (let different : ⊥ = cc in different)

  pub said_nodes : (r : Result Verdict StoreFault) (n : ℕ) → (IsErrOf r fault.Nodes → HasManyVariables nodes p m) → verdict_report nodes r ≡ report.Nodes n
      → (n ≡ nodes) × HasManyVariables nodes p m
  said_nodes (Err fault.Nodes) n wide is = (same n is, wide refl)
    where
      same : (n : ℕ) → report.Nodes nodes ≡ report.Nodes n → n ≡ nodes
      same n e = cc
  said_nodes (Ok (Safe d text)) n wide is = absurd (let different : ⊥ = cc in different)
  said_nodes (Ok (Violated t text)) n wide is = absurd (let different : ⊥ = cc in different)
  said_nodes (Ok (Undecided l text)) n wide is = absurd (let different : ⊥ = cc in different)
  said_nodes (Err fault.Memory) n wide is = absurd (let different : ⊥ = cc in different)

  -- no other report comes
  pub must_safe : (r : Result Verdict StoreFault) → IfOk r (λ v. IsVerdictOf nodes limit v p m) → IsSafeControl p m → IsSafeUnlessCutOff (verdict_report nodes r)
  must_safe (Ok (Safe c text)) judged is = inl (c, refl)
  must_safe (Ok (Violated t text)) judged is = absurd (falsifying-unsafe t judged.0.falsifying is.1)
  must_safe (Ok (Undecided l text)) judged is = absurd (judged.0.0.0 is.0)
  must_safe (Err fault.Nodes) judged is = inr (inl (nodes, refl))
  must_safe (Err fault.Memory) judged is = inr (inr (inr refl))

  pub must_violated : (r : Result Verdict StoreFault) → IfOk r (λ v. IsVerdictOf nodes limit v p m) → IsUnsafeControl p m
      → IsViolatedUnlessCutOff (verdict_report nodes r)
  must_violated (Ok (Safe c text)) judged is = absurd (is.1 judged.0)
  must_violated (Ok (Violated t text)) judged is = inl (t, refl)
  must_violated (Ok (Undecided l text)) judged is = absurd (judged.0.0.0 is.0)
  must_violated (Err fault.Nodes) judged is = inr (inl (nodes, refl))
  must_violated (Err fault.Memory) judged is = inr (inr (inr refl))

  pub must_claim : (r : Result Verdict StoreFault) → (HasGoodClaim p m → LacksGoodClaim p m → ⊥) → IfOk r (λ v. IsVerdictOf nodes limit v p m) → HasGoodClaim p m
      → IsSafeUnlessCutOff (verdict_report nodes r)
  must_claim (Ok (Safe c text)) one judged is = inl (c, refl)
  must_claim (Ok (Violated t text)) one judged is = absurd (one is judged.2)
  must_claim (Ok (Undecided l text)) one judged is = absurd (one is judged.0.0.1)
  must_claim (Err fault.Nodes) one judged is = inr (inl (nodes, refl))
  must_claim (Err fault.Memory) one judged is = inr (inr (inr refl))

  pub must_probe : (r : Result Verdict StoreFault) → (HasProbe p m → LacksProbe p m → ⊥) → (IsErrOf r fault.Nodes → LacksProbe p m)
      → IfOk r (λ v. IsVerdictOf nodes limit v p m) → HasProbe p m
      → IsViolatedUnlessUnread (verdict_report nodes r)
  must_probe (Ok (Safe c text)) probe lacks judged is = absurd (probe-unsafe is judged.0)
  must_probe (Ok (Violated t text)) probe lacks judged is = inl (t, refl)
  must_probe (Ok (Undecided l text)) probe lacks judged is = absurd (probe is judged.0.0.2)
  must_probe (Err fault.Nodes) probe lacks judged is = absurd (probe is (lacks refl))
  must_probe (Err fault.Memory) probe lacks judged is = inr (inr refl)

  pub said_unprobed : (r : Result Verdict StoreFault) (n : ℕ) → (IsErrOf r fault.Nodes → LacksProbe p m) → verdict_report nodes r ≡ report.Nodes n
      → LacksProbe p m
  said_unprobed (Err fault.Nodes) n lacks is = lacks refl
  said_unprobed (Ok (Safe d text)) n lacks is = absurd (let different : ⊥ = cc in different)
  said_unprobed (Ok (Violated t text)) n lacks is = absurd (let different : ⊥ = cc in different)
  said_unprobed (Ok (Undecided l text)) n lacks is = absurd (let different : ⊥ = cc in different)
  said_unprobed (Err fault.Memory) n lacks is = absurd (let different : ⊥ = cc in different)
