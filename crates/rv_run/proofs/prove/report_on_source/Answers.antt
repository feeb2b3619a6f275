use Rattle.std.proofs.Common.{inr, sym, ◌∙◌, subst}
use Rattle.rv_tree.specs.{Tree.ProgramTree, Tree.program_tree, Places.Identifier, SourceTrees.IsSourceTree}
use Rattle.rv_types.specs.{Instances.name_at, Lists.sites_of, Settled.IsSettled, WellFormed.AreWell}
use Rattle.rv_meaning.specs.Runs.{IsSafe}
use Rattle.rv_run.specs.Answers.{IsOnSource, IsRefusalUnlessCutOff, IsSafeUnlessCutOff, IsJudgedUnlessLimited, IsViolatedUnlessCutOff, IsViolatedUnlessUnread}
use Rattle.rv_run.specs.Programs.{OnProgram, WithRuns, HasGoodClaim, HasManyVariables, HasProbe, IsSafeControl, IsUnsafeControl, IsCertified, IsProgram}
use Rattle.rv_run.specs.Programs.{IsUnknown, LacksGoodClaim, LacksProbe}
use Rattle.rv_run.specs.Verdicts.{IsDocumentOf, IsInvariantOf, IsLeftOf, IsViolated}
use Rattle.rv_run.proofs.Judged.{verdict-on_source, verdict-not_refused, said_safe, said_plain, said_violated, said_unknown, said_nodes}
use Rattle.rv_run.proofs.Judged.{said_unprobed, must_claim, must_probe, must_safe, must_violated, must_judged}
use Rattle.rv_run.proofs.Reported.{refusal-not_safe, refusal-not_violated, refusal-not_unknown, refusal-not_nodes, refusal-on_source, refusal-refused}
use Rattle.rv_run.proofs.Reported.{refused_accepted, refused_same, named, told, told_back}
use Rattle.rv_run.proofs.{Claimed.one_claim, Claimed.one_probe, Judging.is_node, Judging.well, Judging.with_runs}
use Rattle.rv_run.proofs.prove.report_on_source.Goals as goal

pub read_source-requires : goal.read_source-requires
read_source-requires c = c.requires.short

pub judge-requires-clause-limit : goal.judge-requires-clause-limit
judge-requires-clause-limit c = c.requires.limit

pub judge-requires-clause-plain : goal.judge-requires-clause-plain
judge-requires-clause-plain c = c.plain_names.ensures c.args.bytes.now (program_tree c.in-Ok.source.program) c.in-Ok.ensures.found.text

pub judge-requires-clause-small : goal.judge-requires-clause-small
judge-requires-clause-small c = c.numbers_are_small.ensures c.args.bytes.now (program_tree c.in-Ok.source.program) c.in-Ok.ensures.found.text

pub returns-in-Err : goal.returns-in-Err
returns-in-Err c =
    let bytes = c.args.bytes.now in
    let node = c.args.node.now in
    let fault = c.in-Err.fault in
    let is = c.refusal.ensures in
    record {
      safe = λ d h. absurd (refusal-not_safe fault d (sym is ∙ h));
      certified = λ d h. absurd (refusal-not_safe fault d (sym is ∙ h));
      invariant = λ d h. absurd (refusal-not_safe fault d (sym is ∙ h));
      plain = λ d h asked. absurd (refusal-not_safe fault d (sym is ∙ h));
      violated = λ t h. absurd (refusal-not_violated fault t (sym is ∙ h));
      document = λ t h. absurd (refusal-not_violated fault t (sym is ∙ h));
      unknown = λ l h. absurd (refusal-not_unknown fault l (sym is ∙ h));
      left = λ l h. absurd (refusal-not_unknown fault l (sym is ∙ h));
      nodes = λ n h. absurd (refusal-not_nodes fault n (sym is ∙ h));
      unprobed = λ n h. absurd (refusal-not_nodes fault n (sym is ∙ h));
      refused = λ found h. refusal-refused bytes node fault found c.in-Err.ensures.refused (sym is ∙ h);
      only = subst IsOnSource (sym is) (refusal-on_source fault);
      only_safe = λ on. inr (inr (inr (is ∙ refused_accepted bytes node IsSafeControl fault c.in-Err.ensures.only on)));
      only_violated = λ on. inr (inr (inr (is ∙ refused_accepted bytes node IsUnsafeControl fault c.in-Err.ensures.only on)));
      only_probed = λ on. inr (inr (is ∙ refused_accepted bytes node HasProbe fault c.in-Err.ensures.only on));
      only_claimed = λ on. inr (inr (inr (is ∙ refused_accepted bytes node HasGoodClaim fault c.in-Err.ensures.only on)));
      only_judged = λ on. inr (inr (inr (is ∙ refused_accepted bytes node IsProgram fault c.in-Err.ensures.only on)));
      only_refused = λ found h. subst (IsRefusalUnlessCutOff found) (sym is) (refused_same bytes node fault found (c.in-Err.ensures.only_refused found h));
    }

pub returns-in-Ok : goal.returns-in-Ok
returns-in-Ok c =
    let bytes = c.args.bytes.now in
    let node = c.args.node.now in
    let s = c.in-Ok.source in
    let source = c.in-Ok.ensures.found in
    let p = program_tree s.program in
    let m = name_at p s.typed.main in
    let r = c.judge.result in
    let is = c.on_verdict.ensures.report in
    let judged = c.judge.ensures.judged in
    let wide = c.judge.ensures.wide in
    let runs : (P : ProgramTree → Identifier → Type 0) → P p m → WithRuns P p m = λ P holds. with_runs p s.typed s.order source.fits
    (λ n text settled. c.well_formed_programs.ensures p n s.typed text settled) P
    (c.one_run.ensures p m (sites_of s.order.sequence)) (c.some_run.ensures p m (sites_of s.order.sequence)) holds in
    let well_formed : (n : Identifier) → IsSourceTree p → IsSettled p n s.typed
    → AreWell p = λ n text settled. c.well_formed_programs.ensures p n s.typed text settled in
    let is_well = well p s.typed s.order source.fits well_formed in
    let is_main = is_node p s.typed s.order source.fits well_formed in
    let one : HasGoodClaim p m → LacksGoodClaim p m → ⊥ = λ has lacks.
    one_claim p m (λ f g first second. c.alike_systems.ensures p m f g is_well is_main first second)
    (λ f g first second. c.alike_names.ensures.thresholds p m f g is_well is_main first second) has lacks in
    let probe : HasProbe p m → LacksProbe p m → ⊥ = λ has lacks.
    one_probe p m (λ f g first second. c.alike_names.ensures.inputs p m f g is_well is_main first second)
    (λ f g first second. c.alike_names.ensures.memories p m f g is_well is_main first second)
    (λ f g first second. c.alike_names.ensures.thresholds p m f g is_well is_main first second) has lacks in
    let back : (P : ProgramTree → Identifier → Type 0) → OnProgram P bytes node
    → P p m = λ P on. subst (P p) (sym (named bytes node s source)) (told_back bytes node s source (c.one_tree.ensures bytes) P on) in
    record {
      safe = λ d h. told bytes node s source (WithRuns IsSafe) (runs IsSafe (said_safe c.args.nodes c.args.locations p m r d judged (sym is ∙ h)).0);
      certified = λ d h. told bytes node s source (IsCertified d) (said_safe c.args.nodes c.args.locations p m r d judged (sym is ∙ h)).1;
      invariant = λ d h. told bytes node s source (IsInvariantOf d c.on_verdict.result.document.items)
          (subst (λ text. IsInvariantOf d text p m) (sym c.on_verdict.ensures.document) (said_safe c.args.nodes c.args.locations p m r d judged (sym is ∙ h)).2);
      plain = λ d h asked. said_plain c.args.nodes r d (c.judge.ensures.no_loops asked) (sym is ∙ h);
      violated = λ t h. told bytes node s source (WithRuns (IsViolated c.args.nodes t))
          (runs (IsViolated c.args.nodes t) (said_violated c.args.nodes c.args.locations p m r t judged (sym is ∙ h)).0);
      document = λ t h. told bytes node s source (IsDocumentOf t c.on_verdict.result.document.items)
          (subst (λ text. IsDocumentOf t text p m) (sym c.on_verdict.ensures.document) (said_violated c.args.nodes c.args.locations p m r t judged (sym is ∙ h)).1);
      unknown = λ l h. told bytes node s source (WithRuns (IsUnknown c.args.locations l))
          (runs (IsUnknown c.args.locations l) (said_unknown c.args.nodes c.args.locations p m r l judged (sym is ∙ h)).0);
      left = λ l h. told bytes node s source (IsLeftOf c.args.locations l c.on_verdict.result.document.items)
          (subst (λ text. IsLeftOf c.args.locations l text p m) (sym c.on_verdict.ensures.document)
          (said_unknown c.args.nodes c.args.locations p m r l judged (sym is ∙ h)).1);
      nodes = λ n h. let both = said_nodes c.args.nodes c.args.locations p m r n wide (sym is ∙ h) in (both.0, told bytes node s source (HasManyVariables c.args.nodes) both.1);
      unprobed = λ n h. told bytes node s source LacksProbe (said_unprobed c.args.nodes c.args.locations p m r n c.judge.ensures.unprobed (sym is ∙ h));
      refused = λ found h. absurd (verdict-not_refused c.args.nodes r found (sym is ∙ h));
      only = subst IsOnSource (sym is) (verdict-on_source c.args.nodes r);
      only_safe = λ on. subst IsSafeUnlessCutOff (sym is) (must_safe c.args.nodes c.args.locations p m r judged (back IsSafeControl on));
      only_violated = λ on. subst IsViolatedUnlessCutOff (sym is) (must_violated c.args.nodes c.args.locations p m r judged (back IsUnsafeControl on));
      only_probed = λ on. subst IsViolatedUnlessUnread (sym is) (must_probe c.args.nodes c.args.locations p m r probe c.judge.ensures.unprobed judged (back HasProbe on));
      only_claimed = λ on. subst IsSafeUnlessCutOff (sym is) (must_claim c.args.nodes c.args.locations p m r one judged (back HasGoodClaim on));
      only_judged = λ on. subst IsJudgedUnlessLimited (sym is) (must_judged c.args.nodes r);
      only_refused = λ found h. absurd (c.in-Ok.ensures.only_refused found h);
    }
