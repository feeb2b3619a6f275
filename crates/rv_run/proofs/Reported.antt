-- What a report says of the bytes of a source, and that no other comes.
use Rattle.std.proofs.Common.{◌≡◌, ◌⊎◌, inl, inr, ℕ, List, refl, sym, ◌∙◌, ap, subst}
use Rattle.rv_base.specs.{declared.value.Place.Place, declared.value.Trace.Trace}
use Rattle.rv_invfile.specs.declared.fault.FileFault.{FileFault}
use Rattle.rv_proofs.specs.{declared.verdict.Reason.Reason, declared.certificate.Certificate.Certificate, declared.report.LeftReport.LeftReport}
use Rattle.rv_tree.specs.{Tree.ProgramTree, Tree.program_tree, Places.Identifier}
use Rattle.rv_syntax.specs.ProgramText.{IsTextOf}
use Rattle.rv_types.specs.{declared.typed.Typed.Typed, Instances.name_at}
use Rattle.rv_instances.specs.declared.source.Source.{Source}
use Rattle.rv_source.specs.declared.fault.SourceFault.{SourceFault}
use Rattle.rv_source.specs.declared.fault.SourceFault.TheVariants.{Text, Names, Cause, Memory as NoMemory}
use Rattle.rv_source.specs.Sources.{IsSource, IsSourceOf, HasSourceCause, AreSame}
use Rattle.rv_run.specs.Checked.{IsAnswerOf, IsDocumentAnswer, IsDocumentReport, IsLimit, IsReportOf, IsUnlessCut, IsUnlessLimit}
use Rattle.rv_run.specs.declared.report.Report.TheVariants.{Safe, Violated, Unknown, Nodes, Accepted, Rejected, Falsified, AssertionFails, NeverFalse, Outgrown}
use Rattle.rv_run.specs.declared.report.Report.TheVariants.{Made, Toured, Refused, BadFile, TooLong, ReadFault, Usage, Memory}
use Rattle.rv_run.specs.Answers.{IsOnSource, IsRefusalUnlessCutOff, IsUnlessCutOff, IsUnlessLimited, IsVerdict}
use Rattle.rv_run.specs.{declared.words.Task.Task, declared.words.Task.TheVariants.Replay}
use Rattle.rv_run.specs.{declared.words.Task.TheVariants.Check, Programs.OnProgram, Programs.IsRefusedFor, Refusals.refusal_of, declared.report.Report.Report}
use Rattle.rv_run.specs.{Traced.IsTraceAnswer, Traced.IsTraceReport, Traced.IsUnlessNoMemory}
use Rattle.rv_run.proofs.MainNode.{main_named}

-- a refusal is no verdict
pub refusal-not_safe : (e : SourceFault) (c : Certificate) → refusal_of e ≡ Safe c → ⊥
refusal-not_safe NoMemory c h = cc
refusal-not_safe (Text f) c h = cc
refusal-not_safe (Names f) c h = cc
refusal-not_safe (Cause f) c h = cc

pub refusal-not_violated : (e : SourceFault) (t : Trace) → refusal_of e ≡ Violated t → ⊥
refusal-not_violated NoMemory t h = cc
refusal-not_violated (Text f) t h = cc
refusal-not_violated (Names f) t h = cc
refusal-not_violated (Cause f) t h = cc

pub refusal-not_nodes : (e : SourceFault) (n : ℕ) → refusal_of e ≡ Nodes n → ⊥
refusal-not_nodes NoMemory n h = cc
refusal-not_nodes (Text f) n h = cc
refusal-not_nodes (Names f) n h = cc
refusal-not_nodes (Cause f) n h = cc

pub refusal-not_unknown : (e : SourceFault) (l : LeftReport) → refusal_of e ≡ Unknown l → ⊥
refusal-not_unknown NoMemory l h = cc
refusal-not_unknown (Text f) l h = cc
refusal-not_unknown (Names f) l h = cc
refusal-not_unknown (Cause f) l h = cc

pub refusal-on_source : (e : SourceFault) → IsOnSource (refusal_of e)
refusal-on_source NoMemory = tt
refusal-on_source (Text f) = tt
refusal-on_source (Names f) = tt
refusal-on_source (Cause f) = tt

-- nor one on a document, nor on a file
pub refusal-not_document : (e : SourceFault) (x : Report) → IsDocumentAnswer x → refusal_of e ≡ x → ⊥
refusal-not_document e x is h = by e (subst IsDocumentAnswer (sym h) is)
  where
    by : (e : SourceFault) → IsDocumentAnswer (refusal_of e) → ⊥
    by NoMemory is = is
    by (Text f) is = is
    by (Names f) is = is
    by (Cause f) is = is

pub refusal-not_accepted : (e : SourceFault) → refusal_of e ≡ Accepted → ⊥
refusal-not_accepted NoMemory h = cc
refusal-not_accepted (Text f) h = cc
refusal-not_accepted (Names f) h = cc
refusal-not_accepted (Cause f) h = cc

pub refusal-not_long : (e : SourceFault) (n : ℕ) → refusal_of e ≡ TooLong n → ⊥
refusal-not_long NoMemory n h = cc
refusal-not_long (Text f) n h = cc
refusal-not_long (Names f) n h = cc
refusal-not_long (Cause f) n h = cc

pub refusal-not_read_fault : (e : SourceFault) → refusal_of e ≡ ReadFault → ⊥
refusal-not_read_fault NoMemory h = cc
refusal-not_read_fault (Text f) h = cc
refusal-not_read_fault (Names f) h = cc
refusal-not_read_fault (Cause f) h = cc

pub refusal-of_document : (e : SourceFault) → IsDocumentReport (refusal_of e)
refusal-of_document NoMemory = tt
refusal-of_document (Text f) = tt
refusal-of_document (Names f) = tt
refusal-of_document (Cause f) = tt

-- ---- Reports on documents, on sources and of commands with a document are of different kinds.
-- What is neither a report on the bytes of a document nor one of want of memory or of the limit of diagrams.
pub answer-is : (P : Report → Type 0) (task : Task) (x : Report) → P Memory → ((n : ℕ) → P (Nodes n)) → P Accepted → ((r : Reason) → P (Rejected r))
    → ((k : ℕ) → P (Falsified k))
    → ((k : ℕ) (at : Place) → P (AssertionFails k at)) → P NeverFalse → ((k : ℕ) (at : Place) → P (Outgrown k at)) → ((e : FileFault) → P (BadFile e))
    → IsAnswerOf task x → P x
answer-is P Replay (Falsified k) m n a r f s v o b (inl is) = f k
answer-is P Replay (AssertionFails k at) m n a r f s v o b (inl is) = s k at
answer-is P Replay NeverFalse m n a r f s v o b (inl is) = v
answer-is P Replay (Outgrown k at) m n a r f s v o b (inl is) = o k at
answer-is P Replay (BadFile e) m n a r f s v o b (inl is) = b e
answer-is P Replay x m n a r f s v o b (inl is) = absurd is
answer-is P Check Accepted m n a r f s v o b (inl is) = a
answer-is P Check (Rejected reason) m n a r f s v o b (inl is) = r reason
answer-is P Check (BadFile e) m n a r f s v o b (inl is) = b e
answer-is P Check x m n a r f s v o b (inl is) = absurd is
answer-is P Check (Nodes k) m n a r f s v o b (inr is) = n k
answer-is P task Memory m n a r f s v o b (inr is) = m
answer-is P task x m n a r f s v o b (inr is) = absurd is

pub answer-of_document : (task : Task) (x : Report) → IsAnswerOf task x → IsDocumentReport x
answer-of_document Replay (Falsified k) is = tt
answer-of_document Replay (AssertionFails k at) is = tt
answer-of_document Replay NeverFalse is = tt
answer-of_document Replay (Outgrown k at) is = tt
answer-of_document Replay (BadFile e) is = tt
answer-of_document Replay Memory is = tt
answer-of_document Replay (Safe c) (inl is) = is
answer-of_document Replay (Safe c) (inr is) = is
answer-of_document Replay (Violated t) (inl is) = is
answer-of_document Replay (Violated t) (inr is) = is
answer-of_document Replay (Unknown l) (inl is) = is
answer-of_document Replay (Unknown l) (inr is) = is
answer-of_document Replay Usage (inl is) = is
answer-of_document Replay Usage (inr is) = is
answer-of_document Replay (Made source) (inl is) = is
answer-of_document Replay (Made source) (inr is) = is
answer-of_document Replay (Toured n size c) (inl is) = is
answer-of_document Replay (Toured n size c) (inr is) = is
answer-of_document Replay x is = tt
answer-of_document Check (Safe c) (inl is) = is
answer-of_document Check (Safe c) (inr is) = is
answer-of_document Check (Violated t) (inl is) = is
answer-of_document Check (Violated t) (inr is) = is
answer-of_document Check (Unknown l) (inl is) = is
answer-of_document Check (Unknown l) (inr is) = is
answer-of_document Check Usage (inl is) = is
answer-of_document Check Usage (inr is) = is
answer-of_document Check (Made source) (inl is) = is
answer-of_document Check (Made source) (inr is) = is
answer-of_document Check (Toured n size c) (inl is) = is
answer-of_document Check (Toured n size c) (inr is) = is
answer-of_document Check x is = tt

different : (x y : Report) → (P : Report → Type 0) → P x → (P y → ⊥) → x ≡ y → ⊥
different x y P is never e = never (subst P e is)

abbrev not_refused : Report → Type 0
not_refused (Refused fault) = ⊥
not_refused x = Unit {0}

abbrev not_long : Report → Type 0
not_long (TooLong n) = ⊥
not_long x = Unit {0}

abbrev not_read_fault : Report → Type 0
not_read_fault ReadFault = ⊥
not_read_fault x = Unit {0}

pub document-not_refused : (task : Task) (x : Report) (fault : SourceFault) → IsAnswerOf task x → x ≡ Refused fault → ⊥
document-not_refused task x fault is h =
    different x (Refused fault) not_refused (answer-is not_refused task x tt (λ n. tt) tt (λ r. tt) (λ k. tt) (λ k at. tt) tt (λ k at. tt) (λ e. tt) is)
    (λ impossible. impossible) h

pub document-not_long : (task : Task) (x : Report) (n : ℕ) → IsAnswerOf task x → x ≡ TooLong n → ⊥
document-not_long task x n is h =
    different x (TooLong n) not_long (answer-is not_long task x tt (λ n. tt) tt (λ r. tt) (λ k. tt) (λ k at. tt) tt (λ k at. tt) (λ e. tt) is)
    (λ impossible. impossible) h

pub document-not_read_fault : (task : Task) (x : Report) → IsAnswerOf task x → x ≡ ReadFault → ⊥
document-not_read_fault task x is h =
    different x ReadFault not_read_fault (answer-is not_read_fault task x tt (λ n. tt) tt (λ r. tt) (λ k. tt) (λ k at. tt) tt (λ k at. tt) (λ e. tt) is)
    (λ impossible. impossible) h

-- a report on a document that an answer of a command is, is one of that command
pub answer-reports : (task : Task) (x : Report) → IsAnswerOf task x → IsDocumentAnswer x → IsReportOf task x
answer-reports task x (inl is) answer = is
answer-reports task x (inr limit) answer = absurd (by task x limit answer)
  where
    by : (task : Task) (x : Report) → IsLimit task x → IsDocumentAnswer x → ⊥
    by Replay Memory limit answer = answer
    by Check Memory limit answer = answer
    by Check (Nodes n) limit answer = answer
    by task x limit answer = absurd limit

-- a report that is none on a document
pub other-not_document : (x y : Report) → (IsDocumentAnswer x → ⊥) → IsDocumentAnswer y → x ≡ y → ⊥
other-not_document x y other is e = other (subst IsDocumentAnswer (sym e) is)

pub source-not_document : (x : Report) → IsOnSource x → IsDocumentAnswer x → ⊥
source-not_document Accepted on is = on
source-not_document (Rejected r) on is = on
source-not_document (Falsified k) on is = on
source-not_document (AssertionFails k at) on is = on
source-not_document NeverFalse on is = on
source-not_document (Outgrown k at) on is = on
source-not_document (BadFile fault) on is = on
source-not_document (Made source) on is = on
source-not_document (Toured n size c) on is = on
source-not_document x on is = is

-- the report of a command with a document is no verdict
pub document-not_safe : (x : Report) (c : Certificate) → IsDocumentReport x → x ≡ Safe c → ⊥
document-not_safe x c is h = let bad : IsDocumentReport (Safe c) = subst IsDocumentReport h is in bad

pub document-not_violated : (x : Report) (t : Trace) → IsDocumentReport x → x ≡ Violated t → ⊥
document-not_violated x t is h = let bad : IsDocumentReport (Violated t) = subst IsDocumentReport h is in bad

pub document-not_unknown : (x : Report) (l : LeftReport) → IsDocumentReport x → x ≡ Unknown l → ⊥
document-not_unknown x l is h = let bad : IsDocumentReport (Unknown l) = subst IsDocumentReport h is in bad

pub document-not_made : (x : Report) (source : List ℕ) → IsDocumentReport x → x ≡ Made source → ⊥
document-not_made x source is h = let bad : IsDocumentReport (Made source) = subst IsDocumentReport h is in bad

pub document-not_toured : (x : Report) (n size : ℕ) (c : Certificate) → IsDocumentReport x → x ≡ Toured n size c → ⊥
document-not_toured x n size c is h = let bad : IsDocumentReport (Toured n size c) = subst IsDocumentReport h is in bad

pub document-not_usage : (x : Report) → IsDocumentReport x → x ≡ Usage → ⊥
document-not_usage x is h = let bad : IsDocumentReport Usage = subst IsDocumentReport h is in bad

pub document-not_verdict : (x : Report) → IsDocumentReport x → IsVerdict x → ⊥
document-not_verdict x is (inl (c, h)) = document-not_safe x c is h
document-not_verdict x is (inr (inl (t, h))) = document-not_violated x t is h
document-not_verdict x is (inr (inr (l, h))) = document-not_unknown x l is h

replay_limit : (expected x : Report) → IsLimit Replay x → IsUnlessCutOff expected x
replay_limit expected Memory limit = inr (inr refl)
replay_limit expected x limit = absurd limit

check_limit : (expected x : Report) → IsLimit Check x → IsUnlessLimited expected x
check_limit expected Memory limit = inr (inr (inr refl))
check_limit expected (Nodes n) limit = inr (inl (n, refl))
check_limit expected x limit = absurd limit

pub cut_off : (task : Task) (expected x : Report) → IsUnlessLimit task expected x → IsUnlessCut task expected x
cut_off Replay expected x (inl is) = inl is
cut_off Replay (BadFile fault) x (inr none) = inr (inr none)
cut_off Replay expected x (inr limit) = replay_limit expected x limit
cut_off Check (BadFile fault) x (inl is) = inl is
cut_off Check (BadFile fault) x (inr none) = inr (inr none)
cut_off Check expected x (inl is) = inl is
cut_off Check expected x (inr limit) = check_limit expected x limit

pub cut_memory : (task : Task) (expected x : Report) → x ≡ Memory → IsUnlessCut task expected x
cut_memory Replay expected x none = inr (inr none)
cut_memory Check (BadFile fault) x none = inr (inr none)
cut_memory Check expected x none = inr (inr (inr none))

pub cut_read_fault : (task : Task) (expected : Report) → IsUnlessCut task expected ReadFault
cut_read_fault Replay expected = inr (inl refl)
cut_read_fault Check (BadFile fault) = inr (inl refl)
cut_read_fault Check expected = inr (inr (inl refl))

-- a report on a file that is too long is no other
pub long-not_accepted : (n : ℕ) → TooLong n ≡ Accepted → ⊥
long-not_accepted n h = cc

pub long-not_nodes : (n m : ℕ) → TooLong n ≡ Nodes m → ⊥
long-not_nodes n m h = cc

pub long-not_refused : (n : ℕ) (fault : SourceFault) → TooLong n ≡ Refused fault → ⊥
long-not_refused n fault h = cc

pub long-not_read_fault : (n : ℕ) → TooLong n ≡ ReadFault → ⊥
long-not_read_fault n h = cc

-- what is said of a trace
pub trace-answers : (x : Report) → IsTraceAnswer x → IsAnswerOf Replay x
trace-answers x (inl is) = inl is
trace-answers x (inr none) = inr (subst (IsLimit Replay) (sym none) tt)

pub trace-not_accepted : (x : Report) → IsTraceAnswer x → x ≡ Accepted → ⊥
trace-not_accepted x (inl is) h = let bad : IsTraceReport Accepted = subst IsTraceReport h is in bad
trace-not_accepted x (inr none) h = memory-not_accepted (sym none ∙ h)
  where
    memory-not_accepted : Memory ≡ Accepted → ⊥
    memory-not_accepted e = cc

pub trace-not_nodes : (x : Report) (n : ℕ) → IsTraceAnswer x → x ≡ Nodes n → ⊥
trace-not_nodes x n (inl is) h = let bad : IsTraceReport (Nodes n) = subst IsTraceReport h is in bad
trace-not_nodes x n (inr none) h = memory-not_nodes (sym none ∙ h)
  where
    memory-not_nodes : Memory ≡ Nodes n → ⊥
    memory-not_nodes e = cc

pub trace-unless : (expected x : Report) → IsUnlessNoMemory expected x → IsUnlessLimit Replay expected x
trace-unless expected x (inl is) = inl is
trace-unless (BadFile fault) x (inr none) = inr none
trace-unless expected x (inr none) = inr (subst (IsLimit Replay) (sym none) tt)

inner : (f g : SourceFault) → Refused f ≡ Refused g → f ≡ g
inner f g h = cc

module _ (bytes : List ℕ) (node : Identifier) where
  -- a fault is told as it is
  pub refusal-refused : (e fault : SourceFault) → HasSourceCause bytes node e → refusal_of e ≡ Refused fault → IsRefusedFor fault bytes node
  refusal-refused NoMemory fault cause h = absurd (let different : ⊥ = cc in different)
  refusal-refused (Text f) fault cause h = subst (λ (g : SourceFault). IsRefusedFor g bytes node) (inner (Text f) fault h) cause
  refusal-refused (Names f) fault cause h = subst (λ (g : SourceFault). IsRefusedFor g bytes node) (inner (Names f) fault h) cause
  refusal-refused (Cause f) fault cause h = subst (λ (g : SourceFault). IsRefusedFor g bytes node) (inner (Cause f) fault h) cause

  -- where it is refused, an accepted source is none but for want of memory
  pub refused_accepted : (P : ProgramTree → Identifier → Type 0) (e : SourceFault) → ((p : ProgramTree) (t : Typed) → IsSource bytes node p t → e ≡ NoMemory)
      → OnProgram P bytes node → refusal_of e ≡ Memory
  refused_accepted P e only on = ap refusal_of (only on.program on.typed on.source)

  pub refused_same : (e fault : SourceFault) → (e ≡ NoMemory) ⊎ AreSame fault e → IsRefusalUnlessCutOff fault (refusal_of e)
  refused_same e fault (inl none) = inr (inr (ap refusal_of none))
  refused_same NoMemory fault (inr same) = inr (inr refl)
  refused_same (Text f) fault (inr same) = inl (Text f, refl, same)
  refused_same (Names f) fault (inr same) = inl (Names f, refl, same)
  refused_same (Cause f) fault (inr same) = inl (Cause f, refl, same)

  -- An accepted source, which is the one of its bytes.
  module _ (s : Source) (source : IsSourceOf bytes node s) where
    pub named : name_at (program_tree s.program) s.typed.main ≡ node
    named = main_named (program_tree s.program) node s.typed source.settled

    -- what is told of it
    pub told : (P : ProgramTree → Identifier → Type 0) → P (program_tree s.program) (name_at (program_tree s.program) s.typed.main) → OnProgram P bytes node
    told P holds = record {
      program = program_tree s.program;
      typed = s.typed;
      source = record { text = source.text; settled = source.settled; accepted = source.ordered.accepted };
      holds = subst (P (program_tree s.program)) named holds;
    }

    -- and what is told of the bytes is true of it
    pub told_back : ((t u : ProgramTree) → IsTextOf bytes t → IsTextOf bytes u → t ≡ u) → (P : ProgramTree → Identifier → Type 0) → OnProgram P bytes node
        → P (program_tree s.program) node
    told_back one P on = subst (λ (p : ProgramTree). P p node) (one on.program (program_tree s.program) on.source.text source.text) on.holds
