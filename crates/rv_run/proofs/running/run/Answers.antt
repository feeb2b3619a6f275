use Rattle.std.proofs.Common.{◌≤◌, ◌<◌, ◌+◌, ◌⊎◌, ℕ, false, List, length, ap, subst, sym, ◌≡◌, None, Some}
use Rattle.std.specs.{Prelude.String, Global.Global}
use Rattle.rv_replay.specs.Replays.{FailsAt, IsFalsifiedAt, NeverEnds, OutgrowsAt}
use Rattle.rv_make.specs.Made.{made_text}
use Rattle.rv_base.specs.Limits.{source_limit}
use Rattle.rv_run.specs.declared.report.Report.TheVariants.{Accepted, Rejected, Falsified, AssertionFails, NeverFalse, Outgrown, Made, BadFile, TooLong, Memory}
use Rattle.rv_run.specs.Answers.{IsTold, IsToldDocument, IsRefusalUnlessCutOff, IsUnlessCutOff, IsJudgedUnlessLimited, IsUnlessLimited, IsNodesReport}
use Rattle.rv_run.specs.Answers.{IsTouredReport, OnFile, OnDocument, OnSource, IsShown, IsSafeUnlessCutOff, IsViolatedUnlessCutOff, IsViolatedUnlessUnread}
use Rattle.rv_run.specs.Programs.{HasGoodClaim, HasManyVariables, HasProbe, IsCertified, IsRefusedFor, IsSafeControl, IsProgram, IsUnknown, LacksProbe}
use Rattle.rv_run.specs.Programs.{IsUnsafeControl, OnProgram, WithRuns}
use Rattle.rv_run.specs.Traced.{IsFileFault, IsLongDocument, IsUnlessNoMemory, OnAccepted, OnTrace, file_limit}
use Rattle.rv_run.specs.{declared.words.Task.Task, declared.words.Task.TheVariants.Replay, declared.words.Task.TheVariants.Check, Words.wanted}
use Rattle.rv_run.specs.{Checked.HasAccepted, Checked.HasRejected, Checked.IsInvariantFault, Printed.shown_of, Verdicts.HasOrigin, Verdicts.IsViolated}
use Rattle.rv_meaning.specs.Runs.{IsSafe}
use Rattle.rv_words.specs.Words.{texts, command}
use Rattle.rv_falsify.specs.Falsifying.{IsFalsifying}
use Rattle.rv_run.proofs.More.{file_more, is_shown, of_check, of_either, of_replay, runs_more}
use Rattle.rv_run.proofs.Loading.{same_words}
use Rattle.rv_run.proofs.running.run.Goals as goal

pub returns-clause-not_too_long : goal.returns-clause-not_too_long
returns-clause-not_too_long g c = λ verdict.
    subst (λ (ws : List (String Global)). OnSource (g.F.Files.held c.args.files.now) (wanted (texts ws)) (λ bytes node. length bytes ≤ source_limit))
    c.as_slice.ensures.value (c.report_on-answer.ensures.replies.not_too_long verdict)

pub returns-clause-falsified : goal.returns-clause-falsified
returns-clause-falsified g c = λ k h.
    subst (λ (ws : List (String Global)). OnDocument (g.F.Files.held c.args.files.now) (wanted (texts ws)) Replay
    (OnAccepted (OnTrace (λ p m t. IsFalsifiedAt p m t k))))
    c.as_slice.ensures.value (of_replay (g.F.Files.held c.args.files.now) (wanted (texts c.as_slice.result.now)) (Falsified k) (λ is. is)
    (c.report_on-answer.ensures.replies.told (Falsified k) tt h))

pub returns-clause-fails : goal.returns-clause-fails
returns-clause-fails g c = λ k at h.
    subst (λ (ws : List (String Global)). OnDocument (g.F.Files.held c.args.files.now) (wanted (texts ws)) Replay
    (OnAccepted (OnTrace (λ p m t. FailsAt p m t k at))))
    c.as_slice.ensures.value (of_replay (g.F.Files.held c.args.files.now) (wanted (texts c.as_slice.result.now)) (AssertionFails k at) (λ is. is)
    (c.report_on-answer.ensures.replies.told (AssertionFails k at) tt h))

pub returns-clause-never : goal.returns-clause-never
returns-clause-never g c = λ h.
    subst (λ (ws : List (String Global)). OnDocument (g.F.Files.held c.args.files.now) (wanted (texts ws)) Replay
    (OnAccepted (OnTrace (λ p m t. NeverEnds p m t))))
    c.as_slice.ensures.value (of_replay (g.F.Files.held c.args.files.now) (wanted (texts c.as_slice.result.now)) NeverFalse (λ is. is)
    (c.report_on-answer.ensures.replies.told NeverFalse tt h))

pub returns-clause-outgrown : goal.returns-clause-outgrown
returns-clause-outgrown g c = λ k at h.
    subst (λ (ws : List (String Global)). OnDocument (g.F.Files.held c.args.files.now) (wanted (texts ws)) Replay
    (OnAccepted (OnTrace (λ p m t. OutgrowsAt p m t k at))))
    c.as_slice.ensures.value (of_replay (g.F.Files.held c.args.files.now) (wanted (texts c.as_slice.result.now)) (Outgrown k at) (λ is. is)
    (c.report_on-answer.ensures.replies.told (Outgrown k at) tt h))

pub returns-clause-bad_file : goal.returns-clause-bad_file
returns-clause-bad_file g c = λ fault h.
    subst (λ (ws : List (String Global)). OnDocument (g.F.Files.held c.args.files.now) (wanted (texts ws)) Replay (OnAccepted (IsFileFault fault))
    ⊎ OnDocument (g.F.Files.held c.args.files.now) (wanted (texts ws)) Check (OnAccepted (IsInvariantFault fault)))
    c.as_slice.ensures.value (of_either (g.F.Files.held c.args.files.now) (wanted (texts c.as_slice.result.now)) fault
    (c.report_on-answer.ensures.replies.told (BadFile fault) tt h))

pub returns-clause-accepted : goal.returns-clause-accepted
returns-clause-accepted g c = λ h.
    subst (λ (ws : List (String Global)). OnDocument (g.F.Files.held c.args.files.now) (wanted (texts ws)) Check (OnAccepted HasAccepted))
    c.as_slice.ensures.value (of_check (g.F.Files.held c.args.files.now) (wanted (texts c.as_slice.result.now)) Accepted (λ is. is)
    (c.report_on-answer.ensures.replies.told Accepted tt h))

pub returns-clause-rejected : goal.returns-clause-rejected
returns-clause-rejected g c = λ reason h.
    subst (λ (ws : List (String Global)). OnDocument (g.F.Files.held c.args.files.now) (wanted (texts ws)) Check (OnAccepted (HasRejected reason)))
    c.as_slice.ensures.value
    (of_check (g.F.Files.held c.args.files.now) (wanted (texts c.as_slice.result.now)) (Rejected reason) (λ is. is)
    (c.report_on-answer.ensures.replies.told (Rejected reason) tt h))

pub returns-clause-only_accepted : goal.returns-clause-only_accepted
returns-clause-only_accepted g c =
    subst (λ (ws : List (String Global)). IsToldDocument (g.F.Files.held c.args.files.now) (wanted (texts ws)) Check (OnAccepted HasAccepted)
    → IsUnlessLimited Accepted c.report_on-answer.result.report)
    c.as_slice.ensures.value (c.report_on-answer.ensures.replies.only_told Check Accepted)

pub returns-clause-only_rejected : goal.returns-clause-only_rejected
returns-clause-only_rejected g c = λ reason.
    subst (λ (ws : List (String Global)). IsToldDocument (g.F.Files.held c.args.files.now) (wanted (texts ws)) Check (OnAccepted (HasRejected reason))
    → IsUnlessLimited (Rejected reason) c.report_on-answer.result.report)
    c.as_slice.ensures.value (c.report_on-answer.ensures.replies.only_told Check (Rejected reason))

pub returns-clause-only_bad_invariant : goal.returns-clause-only_bad_invariant
returns-clause-only_bad_invariant g c = λ fault.
    subst (λ (ws : List (String Global)). IsToldDocument (g.F.Files.held c.args.files.now) (wanted (texts ws)) Check (OnAccepted (IsInvariantFault fault))
    → IsUnlessCutOff (BadFile fault) c.report_on-answer.result.report)
    c.as_slice.ensures.value (c.report_on-answer.ensures.replies.only_told Check (BadFile fault))

pub returns-clause-too_long : goal.returns-clause-too_long
returns-clause-too_long g c = λ n.
    subst (λ (ws : List (String Global)). c.report_on-answer.result.report ≡ TooLong n
    → ((n ≡ source_limit + 1) × OnFile (g.F.Files.held c.args.files.now) (wanted (texts ws)) (λ bytes node. source_limit < length bytes))
    ⊎ ((n ≡ file_limit + 1) × (task : Task) × OnDocument (g.F.Files.held c.args.files.now) (wanted (texts ws)) task IsLongDocument))
    c.as_slice.ensures.value (c.report_on-answer.ensures.replies.too_long n)

pub returns-clause-only_long_document : goal.returns-clause-only_long_document
returns-clause-only_long_document g c = λ task.
    subst (λ (ws : List (String Global)). IsToldDocument (g.F.Files.held c.args.files.now) (wanted (texts ws)) task IsLongDocument
    → IsUnlessCutOff (TooLong (file_limit + 1)) c.report_on-answer.result.report)
    c.as_slice.ensures.value (c.report_on-answer.ensures.replies.only_long_document task)

pub returns-clause-only_falsified : goal.returns-clause-only_falsified
returns-clause-only_falsified g c = λ k.
    subst (λ (ws : List (String Global)). IsToldDocument (g.F.Files.held c.args.files.now) (wanted (texts ws)) Replay
    (OnAccepted (OnTrace (λ p m t. IsFalsifiedAt p m t k))) → IsUnlessCutOff (Falsified k) c.report_on-answer.result.report)
    c.as_slice.ensures.value (c.report_on-answer.ensures.replies.only_told Replay (Falsified k))

pub returns-clause-only_fails : goal.returns-clause-only_fails
returns-clause-only_fails g c = λ k at.
    subst (λ (ws : List (String Global)). IsToldDocument (g.F.Files.held c.args.files.now) (wanted (texts ws)) Replay
    (OnAccepted (OnTrace (λ p m t. FailsAt p m t k at))) → IsUnlessCutOff (AssertionFails k at) c.report_on-answer.result.report)
    c.as_slice.ensures.value (c.report_on-answer.ensures.replies.only_told Replay (AssertionFails k at))

pub returns-clause-only_never : goal.returns-clause-only_never
returns-clause-only_never g c =
    subst (λ (ws : List (String Global)). IsToldDocument (g.F.Files.held c.args.files.now) (wanted (texts ws)) Replay
    (OnAccepted (OnTrace (λ p m t. NeverEnds p m t))) → IsUnlessCutOff NeverFalse c.report_on-answer.result.report)
    c.as_slice.ensures.value (c.report_on-answer.ensures.replies.only_told Replay NeverFalse)

pub returns-clause-only_outgrown : goal.returns-clause-only_outgrown
returns-clause-only_outgrown g c = λ k at.
    subst (λ (ws : List (String Global)). IsToldDocument (g.F.Files.held c.args.files.now) (wanted (texts ws)) Replay
    (OnAccepted (OnTrace (λ p m t. OutgrowsAt p m t k at))) → IsUnlessCutOff (Outgrown k at) c.report_on-answer.result.report)
    c.as_slice.ensures.value (c.report_on-answer.ensures.replies.only_told Replay (Outgrown k at))

pub returns-clause-only_bad_file : goal.returns-clause-only_bad_file
returns-clause-only_bad_file g c = λ fault.
    subst (λ (ws : List (String Global)). IsToldDocument (g.F.Files.held c.args.files.now) (wanted (texts ws)) Replay (OnAccepted (IsFileFault fault))
    → IsUnlessCutOff (BadFile fault) c.report_on-answer.result.report)
    c.as_slice.ensures.value (c.report_on-answer.ensures.replies.only_told Replay (BadFile fault))

pub returns-clause-only_refused : goal.returns-clause-only_refused
returns-clause-only_refused g c = λ fault.
    subst (λ (ws : List (String Global)). IsTold (g.F.Files.held c.args.files.now) (wanted (texts ws))
    (λ bytes node. (length bytes ≤ source_limit) × IsRefusedFor fault bytes node) → IsRefusalUnlessCutOff fault c.report_on-answer.result.report)
    c.as_slice.ensures.value (c.report_on-answer.ensures.replies.only_refused fault)

pub returns-clause-violated : goal.returns-clause-violated
returns-clause-violated g c = λ t h.
    let w = wanted (texts c.as_slice.result.now) in
    subst (λ (ws : List (String Global)). OnFile (g.F.Files.held c.args.files.now) (wanted (texts ws)) (OnProgram (WithRuns (λ p m. IsFalsifying p m t))))
    c.as_slice.ensures.value
    (file_more (g.F.Files.held c.args.files.now) w (WithRuns (IsViolated w.nodes t)) (WithRuns (λ p m. IsFalsifying p m t))
    (λ p m. runs_more (IsViolated w.nodes t) (λ q n. IsFalsifying q n t) p m (λ is. is.falsifying)) (c.report_on-answer.ensures.replies.violated t h))

pub returns-clause-origin : goal.returns-clause-origin
returns-clause-origin g c = λ t h.
    let w = wanted (texts c.as_slice.result.now) in
    subst (λ (ws : List (String Global)). OnFile (g.F.Files.held c.args.files.now) (wanted (texts ws)) (OnProgram (HasOrigin (wanted (texts ws)).nodes t)))
    c.as_slice.ensures.value
    (file_more (g.F.Files.held c.args.files.now) w (WithRuns (IsViolated w.nodes t)) (HasOrigin w.nodes t)
    (λ p m is. is.holds.origin) (c.report_on-answer.ensures.replies.violated t h))

pub returns-clause-unprobed : goal.returns-clause-unprobed
returns-clause-unprobed g c = λ alone n h.
    subst (λ (ws : List (String Global)). (wanted (texts ws)).beside ≡ None
    → OnSource (g.F.Files.held c.args.files.now) (wanted (texts ws)) (OnProgram LacksProbe))
    c.as_slice.ensures.value (λ none. c.report_on-answer.ensures.replies.unprobed none n h) alone

pub returns-clause-only_probed : goal.returns-clause-only_probed
returns-clause-only_probed g c =
    subst (λ (ws : List (String Global)). (wanted (texts ws)).beside ≡ None → IsTold (g.F.Files.held c.args.files.now) (wanted (texts ws))
    (λ bytes node. (length bytes ≤ source_limit) × OnProgram HasProbe bytes node) → IsViolatedUnlessUnread c.report_on-answer.result.report)
    c.as_slice.ensures.value c.report_on-answer.ensures.replies.only_probed

pub returns-clause-shown_whole : goal.returns-clause-shown_whole
returns-clause-shown_whole g c = λ h.
    let answer = c.report_on-answer.result in (
      shown_of answer.report answer.document.items,
      subst (λ (ws : List (String Global)). IsShown (g.F.Files.held c.args.files.now) (wanted (texts ws)) answer.report
          (shown_of answer.report answer.document.items))
          c.as_slice.ensures.value
          (is_shown (g.F.Files.held c.args.files.now) (wanted (texts c.as_slice.result.now)) answer.report answer.document.items
          c.report_on-answer.ensures.replies.invariant c.report_on-answer.ensures.replies.document_of c.report_on-answer.ensures.replies.left),
      c.show-sent.ensures.whole h,
    )

pub returns-clause-shown_prefix : goal.returns-clause-shown_prefix
returns-clause-shown_prefix g c = λ h.
    let answer = c.report_on-answer.result in (
      shown_of answer.report answer.document.items,
      subst (λ (ws : List (String Global)). IsShown (g.F.Files.held c.args.files.now) (wanted (texts ws)) answer.report
          (shown_of answer.report answer.document.items))
          c.as_slice.ensures.value
          (is_shown (g.F.Files.held c.args.files.now) (wanted (texts c.as_slice.result.now)) answer.report answer.document.items
          c.report_on-answer.ensures.replies.invariant c.report_on-answer.ensures.replies.document_of c.report_on-answer.ensures.replies.left),
      c.show-sent.ensures.failed h,
    )

pub returns-clause-proved : goal.returns-clause-proved
returns-clause-proved g c = λ verdict.
    subst (λ (ws : List (String Global)). (wanted (texts ws)).beside ≡ None) c.as_slice.ensures.value (c.report_on-answer.ensures.replies.proved verdict)

pub returns-clause-only_safe : goal.returns-clause-only_safe
returns-clause-only_safe g c =
    subst (λ (ws : List (String Global)). (wanted (texts ws)).beside ≡ None → IsTold (g.F.Files.held c.args.files.now) (wanted (texts ws))
    (λ bytes node. (length bytes ≤ source_limit) × OnProgram IsSafeControl bytes node) → IsSafeUnlessCutOff c.report_on-answer.result.report)
    c.as_slice.ensures.value c.report_on-answer.ensures.replies.only_safe

pub returns-clause-only_violated : goal.returns-clause-only_violated
returns-clause-only_violated g c =
    subst (λ (ws : List (String Global)). (wanted (texts ws)).beside ≡ None → IsTold (g.F.Files.held c.args.files.now) (wanted (texts ws))
    (λ bytes node. (length bytes ≤ source_limit) × OnProgram IsUnsafeControl bytes node) → IsViolatedUnlessCutOff c.report_on-answer.result.report)
    c.as_slice.ensures.value c.report_on-answer.ensures.replies.only_violated

pub returns-clause-only_judged : goal.returns-clause-only_judged
returns-clause-only_judged g c =
    subst (λ (ws : List (String Global)). (wanted (texts ws)).beside ≡ None → IsTold (g.F.Files.held c.args.files.now) (wanted (texts ws))
    (λ bytes node. (length bytes ≤ source_limit) × OnProgram IsProgram bytes node) → IsJudgedUnlessLimited c.report_on-answer.result.report)
    c.as_slice.ensures.value c.report_on-answer.ensures.replies.only_judged

pub returns-clause-only_claimed : goal.returns-clause-only_claimed
returns-clause-only_claimed g c =
    subst (λ (ws : List (String Global)). (wanted (texts ws)).beside ≡ None → IsTold (g.F.Files.held c.args.files.now) (wanted (texts ws))
    (λ bytes node. (length bytes ≤ source_limit) × OnProgram HasGoodClaim bytes node) → IsSafeUnlessCutOff c.report_on-answer.result.report)
    c.as_slice.ensures.value c.report_on-answer.ensures.replies.only_claimed

pub returns-clause-safe : goal.returns-clause-safe
returns-clause-safe g c = λ d h.
    subst (λ (ws : List (String Global)). OnFile (g.F.Files.held c.args.files.now) (wanted (texts ws)) (OnProgram (WithRuns IsSafe)))
    c.as_slice.ensures.value (c.report_on-answer.ensures.replies.safe d h)

pub returns-clause-plain : goal.returns-clause-plain
returns-clause-plain g c = λ asked d h.
    c.report_on-answer.ensures.replies.plain d h (subst (λ (ws : List (String Global)). (wanted (texts ws)).accelerate ≡ false) (sym c.as_slice.ensures.value)
    asked)

pub returns-clause-certified : goal.returns-clause-certified
returns-clause-certified g c = λ d h.
    subst (λ (ws : List (String Global)). OnFile (g.F.Files.held c.args.files.now) (wanted (texts ws)) (OnProgram (IsCertified d)))
    c.as_slice.ensures.value (c.report_on-answer.ensures.replies.certified d h)

pub returns-clause-unknown : goal.returns-clause-unknown
returns-clause-unknown g c = λ l h.
    subst (λ (ws : List (String Global)). OnFile (g.F.Files.held c.args.files.now) (wanted (texts ws))
    (OnProgram (WithRuns (IsUnknown (wanted (texts ws)).locations l))))
    c.as_slice.ensures.value (c.report_on-answer.ensures.replies.unknown l h)

pub returns-clause-nodes : goal.returns-clause-nodes
returns-clause-nodes g c = λ n h.
    subst (λ (ws : List (String Global)). (n ≡ (wanted (texts ws)).nodes) × OnSource (g.F.Files.held c.args.files.now) (wanted (texts ws))
    (OnProgram (HasManyVariables n)))
    c.as_slice.ensures.value (c.report_on-answer.ensures.replies.nodes n h)

pub returns-clause-checked_safe : goal.returns-clause-checked_safe
returns-clause-checked_safe g c = λ h.
    subst (λ (ws : List (String Global)). OnFile (g.F.Files.held c.args.files.now) (wanted (texts ws)) (OnProgram (WithRuns IsSafe)))
    c.as_slice.ensures.value (c.report_on-answer.ensures.replies.checked_safe h)

pub returns-clause-refused : goal.returns-clause-refused
returns-clause-refused g c = λ fault h.
    subst (λ (ws : List (String Global)). OnFile (g.F.Files.held c.args.files.now) (wanted (texts ws))
    (λ bytes node. (length bytes ≤ source_limit) × IsRefusedFor fault bytes node))
    c.as_slice.ensures.value (c.report_on-answer.ensures.replies.refused fault h)

pub returns-clause-read_fault : goal.returns-clause-read_fault
returns-clause-read_fault g c = c.report_on-answer.ensures.read_fault

pub returns-clause-usage : goal.returns-clause-usage
returns-clause-usage g c = λ h.
    subst (λ (ws : List (String Global)). command (texts ws) ≡ None) c.as_slice.ensures.value (c.report_on-answer.ensures.usage h)

pub returns-clause-only_usage : goal.returns-clause-only_usage
returns-clause-only_usage g c = λ none.
    c.report_on-answer.ensures.only_usage (subst (λ (ws : List (String Global)). command (texts ws) ≡ None) (sym c.as_slice.ensures.value) none)

pub returns-clause-made : goal.returns-clause-made
returns-clause-made g c = λ source h.
    subst (λ (ws : List (String Global)). (n : ℕ) × ((wanted (texts ws)).made ≡ Some n) × (source ≡ made_text n)) c.as_slice.ensures.value
    (c.report_on-answer.ensures.replies.made source h)

pub returns-clause-toured : goal.returns-clause-toured
returns-clause-toured g c = λ n size d h.
    let all = c.report_on-answer.ensures.replies.toured n size d h in
    (subst (λ (ws : List (String Global)). (wanted (texts ws)).toured ≡ Some n) c.as_slice.ensures.value all.0, all.1)

pub returns-clause-toured_safe : goal.returns-clause-toured_safe
returns-clause-toured_safe g c = λ n size d h. let all = c.report_on-answer.ensures.replies.toured n size d h in all.2

pub returns-clause-toured_certified : goal.returns-clause-toured_certified
returns-clause-toured_certified g c = λ n size d h. let all = c.report_on-answer.ensures.replies.toured n size d h in all.3

pub returns-clause-only_made : goal.returns-clause-only_made
returns-clause-only_made g c = λ n.
    subst (λ (ws : List (String Global)). (wanted (texts ws)).made ≡ Some n → IsUnlessNoMemory (Made (made_text n)) c.report_on-answer.result.report)
    c.as_slice.ensures.value (c.report_on-answer.ensures.replies.only_made n)

pub returns-clause-only_toured : goal.returns-clause-only_toured
returns-clause-only_toured g c = λ n.
    subst (λ (ws : List (String Global)). (wanted (texts ws)).toured ≡ Some n
    → IsTouredReport c.report_on-answer.result.report ⊎ (IsNodesReport c.report_on-answer.result.report ⊎ (c.report_on-answer.result.report ≡ Memory)))
    c.as_slice.ensures.value (c.report_on-answer.ensures.replies.only_toured n)

pub returns-clause-only_too_long : goal.returns-clause-only_too_long
returns-clause-only_too_long g c =
    subst (λ (ws : List (String Global)). IsTold (g.F.Files.held c.args.files.now) (wanted (texts ws)) (λ bytes node. source_limit < length bytes)
    → IsUnlessCutOff (TooLong (source_limit + 1)) c.report_on-answer.result.report)
    c.as_slice.ensures.value c.report_on-answer.ensures.replies.only_too_long

pub returns-clause-same_held : goal.returns-clause-same_held
returns-clause-same_held g c = c.report_on-answer.ensures.same_held

pub returns-clause-same_serves : goal.returns-clause-same_serves
returns-clause-same_serves g c = c.report_on-answer.ensures.same_serves

pub returns-clause-read_fault_load : goal.returns-clause-read_fault_load
returns-clause-read_fault_load g c =
    let loads = same_words (g.F.Files.held c.args.files.now) (wanted (texts c.as_slice.result.now)) _ _ _ _
    (ap (λ (ws : List (String Global)). wanted (texts ws)) c.as_slice.ensures.value) c.report_on-answer.ensures.loads in loads.read_fault

pub returns-clause-no_load : goal.returns-clause-no_load
returns-clause-no_load g c =
    let loads = same_words (g.F.Files.held c.args.files.now) (wanted (texts c.as_slice.result.now)) _ _ _ _
    (ap (λ (ws : List (String Global)). wanted (texts ws)) c.as_slice.ensures.value) c.report_on-answer.ensures.loads in loads.unnamed

pub returns-clause-one_load : goal.returns-clause-one_load
returns-clause-one_load g c =
    let loads = same_words (g.F.Files.held c.args.files.now) (wanted (texts c.as_slice.result.now)) _ _ _ _
    (ap (λ (ws : List (String Global)). wanted (texts ws)) c.as_slice.ensures.value) c.report_on-answer.ensures.loads in loads.alone

pub returns-clause-only_refused_load : goal.returns-clause-only_refused_load
returns-clause-only_refused_load g c =
    let loads = same_words (g.F.Files.held c.args.files.now) (wanted (texts c.as_slice.result.now)) _ _ _ _
    (ap (λ (ws : List (String Global)). wanted (texts ws)) c.as_slice.ensures.value) c.report_on-answer.ensures.loads in loads.told_refused

pub returns-clause-only_too_long_load : goal.returns-clause-only_too_long_load
returns-clause-only_too_long_load g c =
    let loads = same_words (g.F.Files.held c.args.files.now) (wanted (texts c.as_slice.result.now)) _ _ _ _
    (ap (λ (ws : List (String Global)). wanted (texts ws)) c.as_slice.ensures.value) c.report_on-answer.ensures.loads in loads.told_too_long

pub returns-clause-refused_load : goal.returns-clause-refused_load
returns-clause-refused_load g c = c.report_on-answer.ensures.loads.refused

pub returns-clause-too_long_load : goal.returns-clause-too_long_load
returns-clause-too_long_load g c = c.report_on-answer.ensures.loads.too_long

pub returns-clause-two_loads : goal.returns-clause-two_loads
returns-clause-two_loads g c =
    let loads = same_words (g.F.Files.held c.args.files.now) (wanted (texts c.as_slice.result.now)) _ _ _ _
    (ap (λ (ws : List (String Global)). wanted (texts ws)) c.as_slice.ensures.value) c.report_on-answer.ensures.loads in loads.most
