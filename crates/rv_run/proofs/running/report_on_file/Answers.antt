use Rattle.std.proofs.Common.{◌≡◌, ℕ, ◌+◌, ◌≤◌, ◌<◌, inl, inr, Bool, List, length, IsTrue, Option, Some, None, refl, sym, ◌∙◌, ap, subst, arith}
use Rattle.std.specs.Prelude.{option_map}
use Rattle.rv_base.specs.{Limits.source_limit, Shelf.Shelf, Shelf.HoldsUnder}
use Rattle.rv_meaning.specs.Runs.{IsSafe}
use Rattle.rv_run.specs.declared.report.Report.TheVariants.{Accepted, Made, ReadFault, Toured, TooLong, Usage}
use Rattle.rv_run.specs.Answers.{IsOnSource, IsTold, IsToldDocument, OnDocument, OnFile, Tells}
use Rattle.rv_run.specs.Programs.{HasGoodClaim, HasManyVariables, HasProbe, LacksProbe, IsCertified, IsRefusedFor, IsSafeControl, IsProgram, IsUnknown}
use Rattle.rv_run.specs.Programs.{IsUnsafeControl, OnProgram, WithRuns}
use Rattle.rv_run.specs.{Words.wanted_on_file, declared.words.Task.Task, declared.words.Beside.Beside, Checked.IsUnlessCut, Checked.SaysOf}
use Rattle.rv_run.specs.{Traced.IsLongDocument, Traced.OnAccepted, Verdicts.IsDocumentOf, Verdicts.IsInvariantOf, Verdicts.IsLeftOf}
use Rattle.rv_run.specs.Verdicts.{IsViolated}
use Rattle.rv_run.proofs.Named.{no_document, on_document, on_file, told_of, told_of_document}
use Rattle.rv_run.proofs.Reported.{document-not_made, document-not_safe, document-not_toured, document-not_unknown, document-not_usage, document-not_verdict}
use Rattle.rv_run.proofs.Reported.{document-not_violated, source-not_document}
use Rattle.rv_base.proofs.Options.{some_none}
use Rattle.rv_run.specs.Loading.{IsAcceptedSource, IsRefusedSource}
use Rattle.rv_run.proofs.Loading.{behind_source, loaded_once, one_more, source-no_document}
use Rattle.rv_run.proofs.running.report_on_file.Goals as goal

pub load_whole-requires : goal.load_whole-requires
load_whole-requires g c = c.requires.served c.args.command.file.now (inl (c.args.command.node.now, refl))

pub report_on_document-requires-clause-served : goal.report_on_document-requires-clause-served
report_on_document-requires-clause-served g c =
    let other = c.in-Some.other in
    let with_other : (wanted_on_file c.args.command).beside ≡ Some (other.task, other.file.now) =
    ap (option_map (λ (b : Beside). (b.task, b.file.now))) c.in-Some.is in
    subst (λ (serves : List ℕ → Bool). IsTrue (serves other.file.now)) (sym c.load_whole.ensures.same_serves)
    (c.requires.served other.file.now (inr (other.task, with_other)))

none_some : (n : ℕ) → (let o : Option ℕ = None in o) ≡ Some n → ⊥
none_some n e = cc

-- The node is proved.
pub returns-in-None : goal.returns-in-None
returns-in-None g c =
    let held = g.F.Files.held c.args.files.now in
    let w = wanted_on_file c.args.command in
    let file = c.args.command.file.now in
    let node = c.args.command.node.now in
    let named : w.named ≡ Some (file, node) = refl in
    let loaded = c.in-Ok.source.items in
    let given = c.deref.result.now in
    let whole = c.in-Ok.ensures.whole in
    let same = c.deref.ensures.value in
    let fits : length given ≤ source_limit = subst (λ (bytes : List ℕ). length bytes ≤ source_limit) (sym same) c.in-Ok.ensures.fits in
    let answer = c.report_on_source.ensures in
    let r = c.report_on_source.result.report in
    let none : w.beside ≡ None = ap (option_map (λ (b : Beside). (b.task, b.file.now))) c.in-None.is in
    let lift : (P : List ℕ → List ℕ → Type 0) → P given node → OnFile held w P = λ P holds. on_file held w (file, node) loaded given source_limit P named whole
    same holds in
    let back : (P : List ℕ → List ℕ → Type 0) → IsTold held w P → P given node = λ P told. told_of held w (file, node) loaded given source_limit P named whole
    same told in
    record {
      replies = record {
        safe = λ d h. lift (OnProgram (WithRuns IsSafe)) (answer.safe d h);
        certified = λ d h. lift (OnProgram (IsCertified d)) (answer.certified d h);
        invariant = λ d h. lift (OnProgram (IsInvariantOf d c.report_on_source.result.document.items)) (answer.invariant d h);
        plain = λ d h asked. answer.plain d h asked;
        violated = λ t h. lift (OnProgram (WithRuns (IsViolated c.args.command.nodes t))) (answer.violated t h);
        document_of = λ t h. lift (OnProgram (IsDocumentOf t c.report_on_source.result.document.items)) (answer.document t h);
        unknown = λ l h. lift (OnProgram (WithRuns (IsUnknown c.args.command.locations l))) (answer.unknown l h);
        left = λ l h. lift (OnProgram (IsLeftOf c.args.command.locations l c.report_on_source.result.document.items)) (answer.left l h);
        nodes = λ n h. let two = answer.nodes n h in (
          two.0,
          inl (subst (λ (k : ℕ). OnFile held w (OnProgram (HasManyVariables k))) (sym two.0)
              (lift (OnProgram (HasManyVariables c.args.command.nodes)) two.1)),
        );
        unprobed = λ alone n h. inl (lift (OnProgram LacksProbe) (answer.unprobed n h));
        checked_safe = λ h. absurd (let bad : IsOnSource Accepted = subst IsOnSource h answer.only in bad);
        not_too_long = λ verdict. inl (lift (λ bytes node. length bytes ≤ source_limit) fits);
        proved = λ verdict. none;
        told = λ x is e. absurd (source-not_document x (subst IsOnSource e answer.only) is);
        refused = λ fault h. lift (λ bytes node. (length bytes ≤ source_limit) × IsRefusedFor fault bytes node) (fits, answer.refused fault h);
        too_long = λ n h. absurd (let bad : IsOnSource (TooLong n) = subst IsOnSource h answer.only in bad);
        only_safe = λ alone told. answer.only_safe (back (λ bytes node. (length bytes ≤ source_limit) × OnProgram IsSafeControl bytes node) told).1;
        only_probed = λ alone told. answer.only_probed (back (λ bytes node. (length bytes ≤ source_limit) × OnProgram HasProbe bytes node) told).1;
        only_claimed = λ alone told. answer.only_claimed (back (λ bytes node. (length bytes ≤ source_limit) × OnProgram HasGoodClaim bytes node) told).1;
        only_violated = λ alone told. answer.only_violated (back (λ bytes node. (length bytes ≤ source_limit) × OnProgram IsUnsafeControl bytes node) told).1;
        only_judged = λ alone told. answer.only_judged (back (λ bytes node. (length bytes ≤ source_limit) × OnProgram IsProgram bytes node) told).1;
        only_told = λ task x told. absurd (no_document held w task (OnAccepted (SaysOf task x)) none told);
        only_refused = λ fault told. answer.only_refused fault (back (λ bytes node. (length bytes ≤ source_limit) × IsRefusedFor fault bytes node) told).1;
        only_too_long = λ told. let over = back (λ bytes node. source_limit < length bytes) told in absurd (omega (arith, over, fits));
        only_long_document = λ task told. absurd (no_document held w task IsLongDocument none told);
        made = λ source h. absurd (let bad : IsOnSource (Made source) = subst IsOnSource h answer.only in bad);
        toured = λ n size d h. absurd (let bad : IsOnSource (Toured n size d) = subst IsOnSource h answer.only in bad);
        only_made = λ n is. absurd (none_some n is);
        only_toured = λ n is. absurd (none_some n is);
      };
      read_fault = λ h. absurd (let bad : IsOnSource ReadFault = subst IsOnSource h answer.only in bad);
      loads = loaded_once held w (file, node) r _ _ named c.in-Ok.ensures.counted;
      usage = λ h. absurd (let bad : IsOnSource Usage = subst IsOnSource h answer.only in bad);
      same_held = c.load_whole.ensures.same_held;
      same_serves = c.load_whole.ensures.same_serves;
    }

-- Something is done with a document.
pub returns : goal.returns
returns g c =
    let held = g.F.Files.held c.args.files.now in
    let w = wanted_on_file c.args.command in
    let file = c.args.command.file.now in
    let node = c.args.command.node.now in
    let other = c.in-Some.other in
    let named : w.named ≡ Some (file, node) = refl in
    let with_other : w.beside ≡ Some (other.task, other.file.now) = ap (option_map (λ (b : Beside). (b.task, b.file.now))) c.in-Some.is in
    let loaded = c.in-Ok.source.items in
    let given = c.deref-in-Some.result.now in
    let whole = c.in-Ok.ensures.whole in
    let same = c.deref-in-Some.ensures.value in
    let fits : length given ≤ source_limit = subst (λ (bytes : List ℕ). length bytes ≤ source_limit) (sym same) c.in-Ok.ensures.fits in
    let answer = c.report_on_document.ensures in
    let r = c.report_on_document.result in
    let kept = c.load_whole.ensures.same_held in
    let lift : (P : List ℕ → List ℕ → Type 0) → P given node → OnFile held w P = λ P holds. on_file held w (file, node) loaded given source_limit P named whole
    same holds in
    let back : (P : List ℕ → List ℕ → Type 0) → IsTold held w P → P given node = λ P told. told_of held w (file, node) loaded given source_limit P named whole
    same told in
    let attach : (P : List ℕ → List ℕ → List ℕ → Type 0) → HoldsUnder held other.file.now (P given node) → OnDocument held w other.task P = λ P h.
    on_document held w (file, node) (other.task, other.file.now) loaded given source_limit P named with_other whole same h in
    let accepted : OnProgram IsProgram given node → OnFile held w IsAcceptedSource = λ on. lift IsAcceptedSource (fits, on) in
    let attached : (P : List ℕ → List ℕ → List ℕ → Type 0) (task : Task) (told : IsToldDocument held w task P)
    → (task ≡ other.task) × Tells held other.file.now told.document × P given node told.document = λ P task told.
    told_of_document held w (file, node) (other.task, other.file.now) loaded given source_limit P named with_other whole same task told in
    record {
      replies = record {
        safe = λ d h. absurd (document-not_safe r d answer.only h);
        certified = λ d h. absurd (document-not_safe r d answer.only h);
        invariant = λ d h. absurd (document-not_safe r d answer.only h);
        plain = λ d h asked. absurd (document-not_safe r d answer.only h);
        violated = λ t h. absurd (document-not_violated r t answer.only h);
        document_of = λ t h. absurd (document-not_violated r t answer.only h);
        unknown = λ l h. absurd (document-not_unknown r l answer.only h);
        left = λ l h. absurd (document-not_unknown r l answer.only h);
        nodes = λ n h. let two = answer.nodes n h in (
          two.0,
          inl (subst (λ (k : ℕ). OnFile held w (OnProgram (HasManyVariables k))) (sym two.0)
              (lift (OnProgram (HasManyVariables c.args.command.nodes)) two.1)),
        );
        unprobed = λ alone n h. absurd (some_none (other.task, other.file.now) (sym with_other ∙ alone));
        checked_safe = λ h. lift (OnProgram (WithRuns IsSafe)) (answer.safe h);
        not_too_long = λ verdict. inl (lift (λ bytes node. length bytes ≤ source_limit) fits);
        proved = λ verdict. absurd (document-not_verdict r answer.only verdict);
        told = λ x is e. let two = answer.told x is e in (
          other.task,
          two.0,
          attach (OnAccepted (SaysOf other.task x)) (subst (λ (h : Option Shelf). HoldsUnder h other.file.now (OnAccepted (SaysOf other.task x) given node))
              kept two.1),
        );
        refused = λ fault h. lift (λ bytes node. (length bytes ≤ source_limit) × IsRefusedFor fault bytes node) (fits, answer.refused fault h);
        too_long = λ n h. let two = answer.too_long n h in inr (
          two.0,
          other.task,
          attach IsLongDocument (subst (λ (h : Option Shelf). HoldsUnder h other.file.now (IsLongDocument given node)) kept two.1),
        );
        only_safe = λ alone told. absurd (some_none (other.task, other.file.now) (sym with_other ∙ alone));
        only_probed = λ alone told. absurd (some_none (other.task, other.file.now) (sym with_other ∙ alone));
        only_claimed = λ alone told. absurd (some_none (other.task, other.file.now) (sym with_other ∙ alone));
        only_violated = λ alone told. absurd (some_none (other.task, other.file.now) (sym with_other ∙ alone));
        only_judged = λ alone told. absurd (some_none (other.task, other.file.now) (sym with_other ∙ alone));
        only_told = λ task x told. let all = attached (OnAccepted (SaysOf task x)) task told in
            subst (λ (t : Task). IsUnlessCut t x r) (sym all.0)
            (answer.only_told x told.document (subst (λ (h : Option Shelf). Tells h other.file.now told.document) (sym kept) all.1)
            (subst (λ (t : Task). OnAccepted (SaysOf t x) given node told.document) all.0 all.2));
        only_refused = λ fault told. answer.only_refused fault (back (λ bytes node. (length bytes ≤ source_limit) × IsRefusedFor fault bytes node) told).1;
        only_too_long = λ told. let over = back (λ bytes node. source_limit < length bytes) told in absurd (omega (arith, over, fits));
        only_long_document = λ task told. let all = attached IsLongDocument task told in
            answer.only_too_long told.document (subst (λ (h : Option Shelf). Tells h other.file.now told.document) (sym kept) all.1) all.2;
        made = λ source h. absurd (document-not_made r source answer.only h);
        toured = λ n size d h. absurd (document-not_toured r n size d answer.only h);
        only_made = λ n is. absurd (none_some n is);
        only_toured = λ n is. absurd (none_some n is);
      };
      read_fault = λ h. let rose = answer.read_fault h in let later = c.load_whole.ensures.later in omega (arith, rose, later);
      loads = record {
        most = one_more held w given node _ _ _ c.in-Ok.ensures.counted accepted answer.behind;
        unnamed = λ none. absurd (some_none (file, node) none);
        alone = λ none. absurd (some_none (other.task, other.file.now) (sym with_other ∙ none));
        refused = λ fault h. answer.refused_first fault (answer.refused fault h) ∙ c.in-Ok.ensures.counted;
        too_long = λ h. absurd (source-no_document (answer.too_long (source_limit + 1) h).0);
        read_fault = λ h. inr (behind_source held w given node _ _ _ c.in-Ok.ensures.counted accepted (answer.read_fault_behind h));
        told_refused = λ fault told. inr (answer.refused_first fault (back (IsRefusedSource fault) told).1 ∙ c.in-Ok.ensures.counted);
        told_too_long = λ told. let over = back (λ bytes node. source_limit < length bytes) told in absurd (omega (arith, over, fits));
      };
      usage = λ h. absurd (document-not_usage r answer.only h);
      same_held = answer.same_held ∙ kept;
      same_serves = answer.same_serves ∙ c.load_whole.ensures.same_serves;
    }
