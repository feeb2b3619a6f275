-- What the report on an invariant file says of it, and that no other comes.
use Rattle.std.proofs.Common.{◌≡◌, ◌⊎◌, inl, inr, ℕ, List, refl, sym, ◌∙◌, ap, subst}
use Rattle.std.specs.Prelude.{Result, Ok, Err, IfOk, IsErrOf}
use Rattle.rv_tree.specs.{Tree.ProgramTree, Places.Identifier}
use Rattle.rv_diagram.specs.declared.store.StoreFault.{StoreFault}
use Rattle.rv_diagram.specs.declared.store.StoreFault.TheVariants as store
use Rattle.rv_flat.specs.{declared.flat.Flat.Flat, FlatOf.IsFlatOf}
use Rattle.rv_control.specs.Control.{control_of}
use Rattle.rv_invfile.specs.declared.fault.FileFault.TheVariants.{NotRecords, WrongKind, WrongProgram, BadNumber, Ends, Memory as NoMemory}
use Rattle.rv_invfile.specs.{Csv.records_of, Rules.Rule, Rules.done, Rules.IsDocument, Faults.IsFirstFault, Tells.Explains, declared.fault.FileFault.FileFault}
use Rattle.rv_invariant.specs.Certificates.{certificate_rule}
use Rattle.rv_proofs.specs.{Systems.System, Accepted.IsAccepted, Runs.IsSafeSystem, Verdicts.IsVerdict, declared.certificate.Certificate.Certificate}
use Rattle.rv_proofs.specs.{declared.verdict.Verdict.Verdict}
use Rattle.rv_proofs.specs.declared.verdict.Verdict.TheVariants as verdict
use Rattle.rv_run.specs.declared.report.Report.TheVariants.{Accepted, Rejected, BadFile, Nodes}
use Rattle.rv_run.specs.Checked.{IsAnswerOf, IsInvariantReport, IsLimit, IsUnlessLimit, SaysOfInvariant}
use Rattle.rv_run.specs.{declared.report.Report.Report, declared.words.Task.TheVariants.Check, Loaded.accepted_report, Loaded.file_report}

-- What is so of every flat system of the program.
abbrev IsSureOfInvariant : Report → List ℕ → ProgramTree → Identifier → Type 0
IsSureOfInvariant Accepted document program main =
    (f : Flat) → IsFlatOf program main f → (c : Certificate) × IsDocument (certificate_rule f) (records_of document) c × IsAccepted (control_of f) c
IsSureOfInvariant (Rejected reason) document program main =
    (f : Flat) → IsFlatOf program main f → (c : Certificate) × IsDocument (certificate_rule f) (records_of document) c
    × IsVerdict (control_of f) c (verdict.Rejected reason)
IsSureOfInvariant (BadFile fault) document program main =
    (f : Flat) → IsFlatOf program main f → IsFirstFault (certificate_rule f) (records_of document) fault
IsSureOfInvariant report document program main = ⊥

-- All flat systems of a program are one system of valuations with one rule of documents, so what is so of one is so of every one.
sure : (bytes : List ℕ) (p : ProgramTree) (main : Identifier) → ((f g : Flat) → IsFlatOf p main f → IsFlatOf p main g → control_of f ≡ control_of g)
    → ((f g : Flat) → IsFlatOf p main f → IsFlatOf p main g → certificate_rule f ≡ certificate_rule g)
    → (x : Report) → SaysOfInvariant x bytes p main → IsSureOfInvariant x bytes p main
sure bytes p main systems rules Accepted (f, c, flat, is, right) = λ g other. (
  c,
  subst (λ (r : Rule Certificate). IsDocument r (records_of bytes) c) (rules f g flat other) is,
  subst (λ (s : System). IsAccepted s c) (systems f g flat other) right,
)
sure bytes p main systems rules (Rejected reason) (f, c, flat, is, right) = λ g other. (
  c,
  subst (λ (r : Rule Certificate). IsDocument r (records_of bytes) c) (rules f g flat other) is,
  subst (λ (s : System). IsVerdict s c (verdict.Rejected reason)) (systems f g flat other) right,
)
sure bytes p main systems rules (BadFile fault) (f, flat, first) = λ g other. subst (λ (r : Rule Certificate). IsFirstFault r (records_of bytes) fault)
    (rules f g flat other) first
sure bytes p main systems rules x says = absurd says

pub verdict-answers : (nodes : ℕ) (j : Result Verdict StoreFault) → IsAnswerOf Check (accepted_report nodes j)
verdict-answers nodes (Ok verdict.Accepted) = inl tt
verdict-answers nodes (Ok (verdict.Rejected reason)) = inl tt
verdict-answers nodes (Err store.Nodes) = inr tt
verdict-answers nodes (Err store.Memory) = inr tt

pub fault-answers_check : (e : FileFault) → IsAnswerOf Check (file_report e)
fault-answers_check NoMemory = inr tt
fault-answers_check (NotRecords n) = inl tt
fault-answers_check (WrongKind n) = inl tt
fault-answers_check (WrongProgram n) = inl tt
fault-answers_check (BadNumber n i) = inl tt
fault-answers_check (Ends n) = inl tt

-- the report Nodes comes of its fault alone
pub was_nodes : (nodes : ℕ) (j : Result Verdict StoreFault) (n : ℕ) → accepted_report nodes j ≡ Nodes n → (n ≡ nodes) × (j ≡ Err store.Nodes)
was_nodes nodes (Err store.Nodes) n e = (same n e, refl)
  where
    same : (n : ℕ) → Nodes nodes ≡ Nodes n → n ≡ nodes
    same n e = cc
was_nodes nodes (Ok verdict.Accepted) n e = absurd (let bad : ⊥ = cc in bad)
was_nodes nodes (Ok (verdict.Rejected reason)) n e = absurd (let bad : ⊥ = cc in bad)
was_nodes nodes (Err store.Memory) n e = absurd (let bad : ⊥ = cc in bad)

pub fault-not_accepted : (e : FileFault) → file_report e ≡ Accepted → ⊥
fault-not_accepted NoMemory h = cc
fault-not_accepted (NotRecords n) h = cc
fault-not_accepted (WrongKind n) h = cc
fault-not_accepted (WrongProgram n) h = cc
fault-not_accepted (BadNumber n i) h = cc
fault-not_accepted (Ends n) h = cc

pub fault-not_nodes : (e : FileFault) (n : ℕ) → file_report e ≡ Nodes n → ⊥
fault-not_nodes NoMemory n h = cc
fault-not_nodes (NotRecords m) n h = cc
fault-not_nodes (WrongKind m) n h = cc
fault-not_nodes (WrongProgram m) n h = cc
fault-not_nodes (BadNumber m i) n h = cc
fault-not_nodes (Ends m) n h = cc

-- what the verdict Accepted makes of a system, and its fault of what is many
pub verdict_safe : (nodes : ℕ) (f : Flat) (c : Certificate) (j : Result Verdict StoreFault) → IfOk j (λ v. IsVerdict (control_of f) c v)
    → accepted_report nodes j ≡ Accepted
    → ((s : System) (d : Certificate) → IsAccepted s d → IsSafeSystem s) → {P : Type 0} → (IsSafeSystem (control_of f) → P) → P
verdict_safe nodes f c (Ok verdict.Accepted) right e safe to = to (safe (control_of f) c right)
verdict_safe nodes f c (Ok (verdict.Rejected reason)) right e safe to = absurd (let bad : ⊥ = cc in bad)
verdict_safe nodes f c (Err store.Nodes) right e safe to = absurd (let bad : ⊥ = cc in bad)
verdict_safe nodes f c (Err store.Memory) right e safe to = absurd (let bad : ⊥ = cc in bad)

pub verdict_wide : (nodes : ℕ) (j : Result Verdict StoreFault) (n : ℕ) → accepted_report nodes j ≡ Nodes n → {P : Type 0} → (IsErrOf j store.Nodes → P)
    → (n ≡ nodes) × P
verdict_wide nodes j n e to = let both = was_nodes nodes j n e in (
  both.0,
  to (subst (λ (r : Result Verdict StoreFault). IsErrOf r store.Nodes) (sym both.1) refl),
)

module _ (nodes : ℕ) (bytes : List ℕ) (p : ProgramTree) (main : Identifier) (f : Flat) (flat : IsFlatOf p main f)
    (systems : (f g : Flat) → IsFlatOf p main f → IsFlatOf p main g → control_of f ≡ control_of g)
    (rules : (f g : Flat) → IsFlatOf p main f → IsFlatOf p main g → certificate_rule f ≡ certificate_rule g) where
  -- The bytes are the document of a certificate, on which the verdict is right.
  module _ (c : Certificate) (is : IsDocument (certificate_rule f) (records_of bytes) c) where
    said_by : (j : Result Verdict StoreFault) → IfOk j (λ v. IsVerdict (control_of f) c v) → IsInvariantReport (accepted_report nodes j)
        → SaysOfInvariant (accepted_report nodes j) bytes p main
    said_by (Ok verdict.Accepted) right answer = (f, c, flat, is, right)
    said_by (Ok (verdict.Rejected reason)) right answer = (f, c, flat, is, right)
    said_by (Err store.Nodes) right answer = absurd answer
    said_by (Err store.Memory) right answer = absurd answer

    pub verdict_says : (j : Result Verdict StoreFault) → IfOk j (λ v. IsVerdict (control_of f) c v) → (x : Report) → IsInvariantReport x
        → accepted_report nodes j ≡ x → SaysOfInvariant x bytes p main
    verdict_says j right x answer e = subst (λ (y : Report). SaysOfInvariant y bytes p main) e (said_by j right (subst IsInvariantReport (sym e) answer))

    same_certificate : (d : Certificate) → IsDocument (certificate_rule f) (records_of bytes) d → d ≡ c
    same_certificate d doc = same (sym doc.1 ∙ is.1)
      where
        same : done d ≡ done c → d ≡ c
        same e = cc

    module _ (one : (s : System) (c : Certificate) (u v : Verdict) → IsVerdict s c u → IsVerdict s c v → u ≡ v)
        (no_fault : (e : FileFault) → IsFirstFault (certificate_rule f) (records_of bytes) e → ⊥) where
      sure_of : (v : Verdict) → IsVerdict (control_of f) c v → (x : Report) → IsSureOfInvariant x bytes p main
          → IsUnlessLimit Check x (accepted_report nodes (Ok v))
      sure_of v right Accepted is =
          let here = is f flat in
          let accepted : IsVerdict (control_of f) c verdict.Accepted = subst (λ (d : Certificate). IsVerdict (control_of f) d verdict.Accepted)
          (same_certificate here.0 here.1) here.2 in
          inl (ap (λ (u : Verdict). accepted_report nodes (Ok u)) (one (control_of f) c v verdict.Accepted right accepted))
      sure_of v right (Rejected reason) is =
          let here = is f flat in
          let rejected : IsVerdict (control_of f) c (verdict.Rejected reason) =
          subst (λ (d : Certificate). IsVerdict (control_of f) d (verdict.Rejected reason)) (same_certificate here.0 here.1) here.2 in
          inl (ap (λ (u : Verdict). accepted_report nodes (Ok u)) (one (control_of f) c v (verdict.Rejected reason) right rejected))
      sure_of v right (BadFile e) is = absurd (no_fault e (is f flat))
      sure_of v right x is = absurd is

      pub verdict_tells : (j : Result Verdict StoreFault) → IfOk j (λ v. IsVerdict (control_of f) c v) → (x : Report) → SaysOfInvariant x bytes p main
          → IsUnlessLimit Check x (accepted_report nodes j)
      verdict_tells (Ok v) right x says = sure_of v right x (sure bytes p main systems rules x says)
      verdict_tells (Err store.Nodes) right (BadFile e) says = absurd (no_fault e (sure bytes p main systems rules (BadFile e) says f flat))
      verdict_tells (Err store.Memory) right (BadFile e) says = inr refl
      verdict_tells (Err store.Nodes) right x says = inr tt
      verdict_tells (Err store.Memory) right x says = inr tt

  -- They are that of none.
  module _ (e : FileFault) where
    first_of : (e : FileFault) → Explains (certificate_rule f) (records_of bytes) e → IsInvariantReport (file_report e)
        → SaysOfInvariant (file_report e) bytes p main
    first_of NoMemory h is = absurd is
    first_of (NotRecords n) (inl none) is = absurd (let bad : ⊥ = cc in bad)
    first_of (NotRecords n) (inr first) is = (f, flat, first)
    first_of (WrongKind n) (inl none) is = absurd (let bad : ⊥ = cc in bad)
    first_of (WrongKind n) (inr first) is = (f, flat, first)
    first_of (WrongProgram n) (inl none) is = absurd (let bad : ⊥ = cc in bad)
    first_of (WrongProgram n) (inr first) is = (f, flat, first)
    first_of (BadNumber n i) (inl none) is = absurd (let bad : ⊥ = cc in bad)
    first_of (BadNumber n i) (inr first) is = (f, flat, first)
    first_of (Ends n) (inl none) is = absurd (let bad : ⊥ = cc in bad)
    first_of (Ends n) (inr first) is = (f, flat, first)

    pub bad_says : Explains (certificate_rule f) (records_of bytes) e → (x : Report) → IsInvariantReport x → file_report e ≡ x → SaysOfInvariant x bytes p main
    bad_says h x answer is = subst (λ (y : Report). SaysOfInvariant y bytes p main) is (first_of e h (subst IsInvariantReport (sym is) answer))

    reported : (fault : FileFault) → IsFirstFault (certificate_rule f) (records_of bytes) fault → file_report fault ≡ BadFile fault
    reported NoMemory first = absurd first
    reported (NotRecords n) first = refl
    reported (WrongKind n) first = refl
    reported (WrongProgram n) first = refl
    reported (BadNumber n i) first = refl
    reported (Ends n) first = refl

    none_left : e ≡ NoMemory → (x : Report) → IsUnlessLimit Check x (file_report e)
    none_left none (BadFile fault) = inr (ap file_report none)
    none_left none x = inr (subst (λ (y : FileFault). IsLimit Check (file_report y)) (sym none) tt)

    module _ (only : (d : Certificate) → IsDocument (certificate_rule f) (records_of bytes) d → e ≡ NoMemory)
        (refuses : (fault : FileFault) → IsFirstFault (certificate_rule f) (records_of bytes) fault → (e ≡ NoMemory) ⊎ (e ≡ fault)) where
      sure_tells : (x : Report) → IsSureOfInvariant x bytes p main → IsUnlessLimit Check x (file_report e)
      sure_tells Accepted is = let here = is f flat in none_left (only here.0 here.1) Accepted
      sure_tells (Rejected reason) is = let here = is f flat in none_left (only here.0 here.1) (Rejected reason)
      sure_tells (BadFile fault) is = by (is f flat)
        where
          by : IsFirstFault (certificate_rule f) (records_of bytes) fault → IsUnlessLimit Check (BadFile fault) (file_report e)
          by here = elim (refuses fault here) [
            | inl none ↦ none_left none (BadFile fault)
            | inr same ↦ inl (ap file_report same ∙ reported fault here)
          ]
      sure_tells x is = absurd is

      pub bad_tells : (x : Report) → SaysOfInvariant x bytes p main → IsUnlessLimit Check x (file_report e)
      bad_tells x says = sure_tells x (sure bytes p main systems rules x says)
