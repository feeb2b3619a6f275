-- What the report on a trace says of it, and that no other comes.
use Rattle.std.proofs.Common.{◌≡◌, ◌⊎◌, inl, inr, ℕ, ◌<◌, ◌^◌, List, [], length, map, refl, sym, ◌∙◌, ap, subst, arith}
use Rattle.std.proofs.lemmas.List.{length-map}
use Rattle.std.specs.Prelude.{Result, Ok, Err}
use Rattle.rv_base.specs.{declared.value.Place.Place, declared.value.Trace.Trace}
use Rattle.rv_tree.specs.{Tree.ProgramTree, Places.Identifier}
use Rattle.rv_types.specs.{declared.typed.Typed.Typed, Instances.name_at}
use Rattle.rv_instances.specs.{declared.answer.Order.Order, Fitting.Fits}
use Rattle.rv_flat.specs.{declared.flat.Flat.Flat, FlatOf.IsFlatOf, Systems.memory_of}
use Rattle.rv_flatten.proofs.FewMemories as few
use Rattle.rv_invfile.specs.Rules.{Rule, done, IsDocument}
use Rattle.rv_invfile.specs.declared.fault.FileFault.TheVariants.{NotRecords, WrongKind, WrongProgram, BadNumber, Ends, Memory as NoMemory}
use Rattle.rv_invfile.specs.{Csv.records_of, Faults.IsFirstFault, Tells.Explains, Traces.trace_rule, declared.fault.FileFault.FileFault}
use Rattle.rv_invfile.specs.Traces as document
use Rattle.rv_replay.specs.Replays.{FailsAt, IsFalsifiedAt, IsReplay, IsUnlessMemory, NeverEnds, OutgrowsAt}
use Rattle.rv_replay.specs.{declared.replayed.Replayed.Replayed, declared.replayed.ReplayFault.ReplayFault, Traces.IsFlatTrace}
use Rattle.rv_replay.specs.declared.replayed.Replayed.TheVariants as replayed
use Rattle.rv_replay.specs.declared.replayed.ReplayFault.TheVariants as replay_fault
use Rattle.rv_run.specs.declared.report.Report.TheVariants.{Falsified, AssertionFails, NeverFalse, Outgrown, BadFile}
use Rattle.rv_run.specs.Traced.{IsTraceAnswer, IsTraceDocument, IsTraceReport, IsUnlessNoMemory, SaysOfTrace}
use Rattle.rv_run.specs.{declared.report.Report.Report, Loaded.file_report, Loaded.replay_report}

-- The memories of the program of an accepted source can be counted.
pub few_memories : (p : ProgramTree) (t : Typed) (o : Order) (f : Flat) → Fits p t o → IsFlatOf p (name_at p t.main) f → length f.memories < 2 ^ 64
few_memories p t o f fits flat =
    let bound = few.few_memories p (name_at p t.main) (map memory_of f.memories) fits.counted.all flat.memories fits.few.expressions in
    let long = length-map f.memories memory_of in
    omega (arith, bound, long)

-- A trace that fits its document is one of the flat system.
pub of_document : (f : Flat) (t : Trace) → document.IsTraceOf f t → IsFlatTrace f t
of_document f t is = record {
  starts = is.starts;
  instants = λ k lt. is.instants k [] lt;
  count = let bound = is.count in omega (arith, bound);
}

-- ---- How a replay ended.
module _ (p : ProgramTree) (main : Identifier) (t : Trace) (r : Result Replayed ReplayFault) where
  -- what the clauses of a replay say, as one
  pub all_said : ((k : ℕ) → r ≡ Ok (replayed.Falsified k) → IsFalsifiedAt p main t k)
      → ((k : ℕ) (at : Place) → r ≡ Ok (replayed.AssertionFails k at) → FailsAt p main t k at)
      → (r ≡ Ok replayed.NeverFalse → NeverEnds p main t) → ((k : ℕ) (at : Place) → r ≡ Err (replay_fault.Outgrown k at) → OutgrowsAt p main t k at)
      → (a : Result Replayed ReplayFault) → r ≡ a → (a ≡ Err replay_fault.Memory → ⊥) → IsReplay p main t a
  all_said falsified fails never outgrown (Ok (replayed.Falsified k)) is other = falsified k is
  all_said falsified fails never outgrown (Ok (replayed.AssertionFails k at)) is other = fails k at is
  all_said falsified fails never outgrown (Ok replayed.NeverFalse) is other = never is
  all_said falsified fails never outgrown (Err (replay_fault.Outgrown k at)) is other = outgrown k at is
  all_said falsified fails never outgrown (Err replay_fault.Memory) is other = absurd (other refl)

  pub all_told : ((k : ℕ) → IsFalsifiedAt p main t k → IsUnlessMemory (Ok (replayed.Falsified k)) r)
      → ((k : ℕ) (at : Place) → FailsAt p main t k at → IsUnlessMemory (Ok (replayed.AssertionFails k at)) r)
      → (NeverEnds p main t → IsUnlessMemory (Ok replayed.NeverFalse) r)
      → ((k : ℕ) (at : Place) → OutgrowsAt p main t k at → IsUnlessMemory (Err (replay_fault.Outgrown k at)) r)
      → (a : Result Replayed ReplayFault) → IsReplay p main t a → IsUnlessMemory a r
  all_told falsified fails never outgrown (Ok (replayed.Falsified k)) is = falsified k is
  all_told falsified fails never outgrown (Ok (replayed.AssertionFails k at)) is = fails k at is
  all_told falsified fails never outgrown (Ok replayed.NeverFalse) is = never is
  all_told falsified fails never outgrown (Err (replay_fault.Outgrown k at)) is = outgrown k at is
  all_told falsified fails never outgrown (Err replay_fault.Memory) is = absurd is

pub replay-answers : (r : Result Replayed ReplayFault) → IsTraceAnswer (replay_report r)
replay-answers (Ok (replayed.Falsified k)) = inl tt
replay-answers (Ok (replayed.AssertionFails k at)) = inl tt
replay-answers (Ok replayed.NeverFalse) = inl tt
replay-answers (Err (replay_fault.Outgrown k at)) = inl tt
replay-answers (Err replay_fault.Memory) = inr refl

pub fault-answers : (e : FileFault) → IsTraceAnswer (file_report e)
fault-answers NoMemory = inr refl
fault-answers (NotRecords n) = inl tt
fault-answers (WrongKind n) = inl tt
fault-answers (WrongProgram n) = inl tt
fault-answers (BadNumber n i) = inl tt
fault-answers (Ends n) = inl tt

-- what is none of want of memory is told
is_told : (r : Result Replayed ReplayFault) → IsTraceReport (replay_report r) → r ≡ Err replay_fault.Memory → ⊥
is_told (Ok end) is e = cc
is_told (Err (replay_fault.Outgrown k at)) is e = cc
is_told (Err replay_fault.Memory) is e = is

told_as : (a r : Result Replayed ReplayFault) → IsUnlessMemory a r → IsUnlessNoMemory (replay_report a) (replay_report r)
told_as a r (inl is) = inl (ap replay_report is)
told_as a r (inr none) = inr (ap replay_report none)

-- Over a flat system of the program, by which every other reads the same.
module _ (bytes : List ℕ) (p : ProgramTree) (main : Identifier) (f : Flat) (flat : IsFlatOf p main f) where
  -- the bytes are the document of a trace
  module _ (t : Trace) (is : IsDocument (trace_rule f) (records_of bytes) t) (r : Result Replayed ReplayFault) where
    said_at : (a : Result Replayed ReplayFault) → (a ≡ Err replay_fault.Memory → ⊥) → IsReplay p main t a → SaysOfTrace (replay_report a) bytes p main
    said_at (Ok (replayed.Falsified k)) other h = (t, (f, flat, is), h)
    said_at (Ok (replayed.AssertionFails k at)) other h = (t, (f, flat, is), h)
    said_at (Ok replayed.NeverFalse) other h = (t, (f, flat, is), h)
    said_at (Err (replay_fault.Outgrown k at)) other h = (t, (f, flat, is), h)
    said_at (Err replay_fault.Memory) other h = absurd (other refl)

    pub trace_says : ((a : Result Replayed ReplayFault) → r ≡ a → (a ≡ Err replay_fault.Memory → ⊥) → IsReplay p main t a)
        → (x : Report) → IsTraceReport x → replay_report r ≡ x → SaysOfTrace x bytes p main
    trace_says says x answer e =
        let other : r ≡ Err replay_fault.Memory → ⊥ = is_told r (subst IsTraceReport (sym e) answer) in
        subst (λ (y : Report). SaysOfTrace y bytes p main) e (said_at r other (says r refl other))

    module _ (one : (g h : Flat) → IsFlatOf p main g → IsFlatOf p main h → trace_rule g ≡ trace_rule h) where
      one_trace : (u : Trace) → IsTraceDocument u bytes p main → u ≡ t
      one_trace u (g, other, doc) =
          let here : IsDocument (trace_rule f) (records_of bytes) u = subst (λ (rule : Rule Trace). IsDocument rule (records_of bytes) u)
          (one g f other flat) doc in
          same (sym here.1 ∙ is.1)
        where
          same : done u ≡ done t → u ≡ t
          same e = cc

      pub trace_tells : ((a : Result Replayed ReplayFault) → IsReplay p main t a → IsUnlessMemory a r)
          → ((e : FileFault) → IsFirstFault (trace_rule f) (records_of bytes) e → ⊥)
          → (x : Report) → SaysOfTrace x bytes p main → IsUnlessNoMemory x (replay_report r)
      trace_tells tells none (Falsified k) (u, doc, h) =
          told_as (Ok (replayed.Falsified k)) r (tells (Ok (replayed.Falsified k)) (subst (λ (v : Trace). IsFalsifiedAt p main v k) (one_trace u doc) h))
      trace_tells tells none (AssertionFails k at) (u, doc, h) =
          told_as (Ok (replayed.AssertionFails k at)) r (tells (Ok (replayed.AssertionFails k at))
          (subst (λ (v : Trace). FailsAt p main v k at) (one_trace u doc) h))
      trace_tells tells none NeverFalse (u, doc, h) =
          told_as (Ok replayed.NeverFalse) r (tells (Ok replayed.NeverFalse) (subst (λ (v : Trace). NeverEnds p main v) (one_trace u doc) h))
      trace_tells tells none (Outgrown k at) (u, doc, h) =
          told_as (Err (replay_fault.Outgrown k at)) r (tells (Err (replay_fault.Outgrown k at))
          (subst (λ (v : Trace). OutgrowsAt p main v k at) (one_trace u doc) h))
      trace_tells tells none (BadFile fault) (g, other, first) =
          absurd (none fault (subst (λ (rule : Rule Trace). IsFirstFault rule (records_of bytes) fault) (one g f other flat) first))
      trace_tells tells none x h = absurd h

  -- they are that of none
  module _ (e : FileFault) where
    first_of : (e : FileFault) → Explains (trace_rule f) (records_of bytes) e → IsTraceReport (file_report e) → SaysOfTrace (file_report e) bytes p main
    first_of NoMemory h is = absurd is
    first_of (NotRecords n) (inl none) is = absurd (let bad : ⊥ = cc in bad)
    first_of (NotRecords n) (inr first) is = (f, flat, first)
    first_of (WrongKind n) (inl none) is = absurd (let bad : ⊥ = cc in bad)
    first_of (WrongKind n) (inr first) is = (f, flat, first)
    first_of (WrongProgram n) (inl none) is = absurd (let bad : ⊥ = cc in bad)
    first_of (WrongProgram n) (inr first) is = (f, flat, first)
    first_of (BadNumber n i) (inl none) is = absurd (let bad : ⊥ = cc in bad)
    first_of (BadNumber n i) (inr first) is = (f, flat, first)
    first_of (Ends n) (inl none) is = absurd (let bad : ⊥ = cc in bad)
    first_of (Ends n) (inr first) is = (f, flat, first)

    pub fault_says : Explains (trace_rule f) (records_of bytes) e → (x : Report) → IsTraceReport x → file_report e ≡ x → SaysOfTrace x bytes p main
    fault_says h x answer is = subst (λ (y : Report). SaysOfTrace y bytes p main) is (first_of e h (subst IsTraceReport (sym is) answer))

    reported : (fault : FileFault) → IsFirstFault (trace_rule f) (records_of bytes) fault → file_report fault ≡ BadFile fault
    reported NoMemory first = absurd first
    reported (NotRecords n) first = refl
    reported (WrongKind n) first = refl
    reported (WrongProgram n) first = refl
    reported (BadNumber n i) first = refl
    reported (Ends n) first = refl

    module _ (one : (g h : Flat) → IsFlatOf p main g → IsFlatOf p main h → trace_rule g ≡ trace_rule h)
        (only : (u : Trace) → IsDocument (trace_rule f) (records_of bytes) u → e ≡ NoMemory)
        (refuses : (fault : FileFault) → IsFirstFault (trace_rule f) (records_of bytes) fault → (e ≡ NoMemory) ⊎ (e ≡ fault)) where
      none_read : (x : Report) (u : Trace) → IsTraceDocument u bytes p main → IsUnlessNoMemory x (file_report e)
      none_read x u (g, other, doc) =
          inr (ap file_report (only u (subst (λ (rule : Rule Trace). IsDocument rule (records_of bytes) u) (one g f other flat) doc)))

      pub fault_tells : (x : Report) → SaysOfTrace x bytes p main → IsUnlessNoMemory x (file_report e)
      fault_tells (Falsified k) (u, doc, h) = none_read (Falsified k) u doc
      fault_tells (AssertionFails k at) (u, doc, h) = none_read (AssertionFails k at) u doc
      fault_tells NeverFalse (u, doc, h) = none_read NeverFalse u doc
      fault_tells (Outgrown k at) (u, doc, h) = none_read (Outgrown k at) u doc
      fault_tells (BadFile fault) (g, other, first) = by (subst (λ (rule : Rule Trace). IsFirstFault rule (records_of bytes) fault) (one g f other flat) first)
        where
          by : IsFirstFault (trace_rule f) (records_of bytes) fault → IsUnlessNoMemory (BadFile fault) (file_report e)
          by here = elim (refuses fault here) [
            | inl none ↦ inr (ap file_report none)
            | inr same ↦ inl (ap file_report same ∙ reported fault here)
          ]
      fault_tells x h = absurd h
