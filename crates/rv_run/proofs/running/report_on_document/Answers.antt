use Rattle.std.proofs.Common.{inl, inr, refl, sym, ◌∙◌, ap, rules, subst}
use Rattle.std.specs.Prelude.{Err, ⊤}
use Rattle.rv_tree.specs.{Tree.ProgramTree, Tree.program_tree, Places.Identifier}
use Rattle.rv_types.specs.{Instances.name_at, Lists.sites_of}
use Rattle.rv_meaning.specs.Runs.{IsSafe}
use Rattle.rv_run.specs.{Answers.IsRefusalUnlessCutOff, declared.report.Report.TheVariants.Memory, declared.report.Report.TheVariants.ReadFault}
use Rattle.rv_run.specs.{Checked.IsDocumentAnswer, Checked.IsDocumentReport, Checked.IsReportOf, Checked.SaysOf, Programs.HasManyVariables, Programs.IsProgram}
use Rattle.rv_run.specs.{Programs.WithRuns}
use Rattle.rv_run.proofs.Attached.{document_said, document_told, long-not_said, long_said, whole-not_long}
use Rattle.rv_run.proofs.Judging.{with_runs}
use Rattle.rv_run.proofs.Reported.{answer-of_document, answer-reports, cut_memory, cut_read_fault, document-not_long, document-not_read_fault}
use Rattle.rv_run.proofs.Reported.{document-not_refused, long-not_accepted, long-not_nodes, long-not_read_fault, long-not_refused, other-not_document}
use Rattle.rv_run.proofs.Reported.{refusal-not_accepted, refusal-not_document, refusal-not_long, refusal-not_nodes, refusal-not_read_fault, refusal-of_document}
use Rattle.rv_run.proofs.Reported.{refusal-refused, refused_accepted, refused_same, told}
use Rattle.rv_run.proofs.running.report_on_document.Goals as goal

pub report_on_bytes-requires-clause-plain : goal.report_on_bytes-requires-clause-plain
report_on_bytes-requires-clause-plain g c = c.plain_names.ensures c.args.bytes.now (program_tree c.in-Ok.source.program) c.in-Ok.ensures.found.text

pub returns-in-Err : goal.returns-in-Err
returns-in-Err g c =
    let bytes = c.args.bytes.now in
    let node = c.args.node.now in
    let fault = c.in-Err.fault in
    let is = c.refusal.ensures in
    record {
      told = λ x answer e. absurd (refusal-not_document fault x answer (sym is ∙ e));
      safe = λ h. absurd (refusal-not_accepted fault (sym is ∙ h));
      nodes = λ n h. absurd (refusal-not_nodes fault n (sym is ∙ h));
      refused = λ found h. refusal-refused bytes node fault found c.in-Err.ensures.refused (sym is ∙ h);
      too_long = λ n h. absurd (refusal-not_long fault n (sym is ∙ h));
      read_fault = λ h. absurd (refusal-not_read_fault fault (sym is ∙ h));
      behind = inl refl;
      refused_first = λ found h. refl;
      read_fault_behind = λ h. absurd (refusal-not_read_fault fault (sym is ∙ h));
      only = subst IsDocumentReport (sym is) (refusal-of_document fault);
      only_told = λ x document tells on. cut_memory c.args.other.task x c.refusal.result
          (is ∙ refused_accepted bytes node (SaysOf c.args.other.task x document) fault c.in-Err.ensures.only on.2);
      only_refused = λ found h. subst (IsRefusalUnlessCutOff found) (sym is) (refused_same bytes node fault found (c.in-Err.ensures.only_refused found h));
      only_too_long = λ document tells long. inr (inr (is ∙ refused_accepted bytes node (λ p m. ⊤) fault c.in-Err.ensures.only long.2));
      same_held = refl;
      same_serves = refl;
    }

pub returns-in-Ok-load_whole-clause-told : goal.returns-in-Ok-load_whole-clause-told
returns-in-Ok-load_whole-clause-told g c = λ x answer e.
    let task = c.args.other.task in
    let r = c.report_on_bytes.result in
    let is : IsReportOf task x = subst (IsReportOf task) e (answer-reports task r c.report_on_bytes.ensures.only (subst IsDocumentAnswer (sym e) answer)) in (
      is,
      document_said (g.F.Files.held c.args.files.now) c.args.other.file.now c.args.bytes.now c.args.node.now c.in-Ok.source c.in-Ok.ensures.found
          c.requires.short task
          c.in-Ok-load_whole.document.items c.deref.result.now c.in-Ok-load_whole.ensures.whole c.in-Ok-load_whole.ensures.fits c.deref.ensures.value x
          (c.report_on_bytes.ensures.says x is e),
    )

pub returns-in-Ok-load_whole-clause-safe : goal.returns-in-Ok-load_whole-clause-safe
returns-in-Ok-load_whole-clause-safe g c = λ h.
    let s = c.in-Ok.source in
    let source = c.in-Ok.ensures.found in
    let p = program_tree s.program in
    let m = name_at p s.typed.main in
    let runs : (P : ProgramTree → Identifier → Type 0) → P p m → WithRuns P p m = λ P holds. with_runs p s.typed s.order source.fits
    (λ n text settled. c.well_formed_programs.ensures p n s.typed text settled) P
    (c.one_run.ensures p m (sites_of s.order.sequence)) (c.some_run.ensures p m (sites_of s.order.sequence)) holds in
    told c.args.bytes.now c.args.node.now s source (WithRuns IsSafe) (runs IsSafe (c.report_on_bytes.ensures.safe h))

pub returns-in-Ok-load_whole-clause-nodes : goal.returns-in-Ok-load_whole-clause-nodes
returns-in-Ok-load_whole-clause-nodes g c = λ n h.
    let both = c.report_on_bytes.ensures.wide n h in
    (both.0, told c.args.bytes.now c.args.node.now c.in-Ok.source c.in-Ok.ensures.found (HasManyVariables c.args.nodes) both.1)

pub returns-in-Ok-load_whole-clause-only : goal.returns-in-Ok-load_whole-clause-only
returns-in-Ok-load_whole-clause-only g c = answer-of_document c.args.other.task c.report_on_bytes.result c.report_on_bytes.ensures.only

pub returns-in-Ok-load_whole-clause-only_told : goal.returns-in-Ok-load_whole-clause-only_told
returns-in-Ok-load_whole-clause-only_told g c =
    document_told (g.F.Files.held c.args.files.now) c.args.other.file.now c.args.bytes.now c.args.node.now c.in-Ok.source c.in-Ok.ensures.found c.requires.short
    c.args.other.task
    c.in-Ok-load_whole.document.items c.deref.result.now c.in-Ok-load_whole.ensures.whole c.in-Ok-load_whole.ensures.fits c.deref.ensures.value
    (c.one_tree.ensures c.args.bytes.now) c.report_on_bytes.result c.report_on_bytes.ensures.only_says

pub returns-in-Ok-load_whole-clause-only_too_long : goal.returns-in-Ok-load_whole-clause-only_too_long
returns-in-Ok-load_whole-clause-only_too_long g c = λ document tells long. absurd (
    whole-not_long (g.F.Files.held c.args.files.now) c.args.other.file.now c.args.bytes.now c.args.node.now c.in-Ok.source c.in-Ok.ensures.found
    c.requires.short c.args.other.task
    c.in-Ok-load_whole.document.items c.deref.result.now c.in-Ok-load_whole.ensures.whole c.in-Ok-load_whole.ensures.fits c.deref.ensures.value document tells
    long)

pub returns-in-Err-TooLong-clause-too_long : goal.returns-in-Err-TooLong-clause-too_long
returns-in-Err-TooLong-clause-too_long g c = λ n h.
    let told = c.in-Err-TooLong.ensures.too_long c.in-Err-TooLong.count (ap Err c.in-Err-TooLong.field-0-is) in
    let many = told.0 in (
      search rules,
      long_said (g.F.Files.held c.args.files.now) c.args.other.file.now c.args.bytes.now c.args.node.now c.in-Ok.source c.in-Ok.ensures.found c.requires.short
          c.args.other.task told.1,
    )

pub returns-in-Err-TooLong-clause-only_told : goal.returns-in-Err-TooLong-clause-only_told
returns-in-Err-TooLong-clause-only_told g c = λ x document tells on.
    let told = c.in-Err-TooLong.ensures.too_long c.in-Err-TooLong.count (ap Err c.in-Err-TooLong.field-0-is) in absurd (
    long-not_said (g.F.Files.held c.args.files.now) c.args.other.file.now c.args.bytes.now c.args.node.now c.in-Ok.source c.in-Ok.ensures.found c.requires.short
    c.args.other.task told.1 x document tells on)

pub returns-in-Ok-load_whole-clause-refused : goal.returns-in-Ok-load_whole-clause-refused
returns-in-Ok-load_whole-clause-refused g c = λ fault h. absurd (document-not_refused c.args.other.task c.report_on_bytes.result fault
    c.report_on_bytes.ensures.only h)

pub returns-in-Ok-load_whole-clause-too_long : goal.returns-in-Ok-load_whole-clause-too_long
returns-in-Ok-load_whole-clause-too_long g c = λ n h. absurd (document-not_long c.args.other.task c.report_on_bytes.result n c.report_on_bytes.ensures.only h)

pub returns-in-Ok-load_whole-clause-read_fault : goal.returns-in-Ok-load_whole-clause-read_fault
returns-in-Ok-load_whole-clause-read_fault g c = λ h. absurd (document-not_read_fault c.args.other.task c.report_on_bytes.result c.report_on_bytes.ensures.only
    h)

pub returns-in-Ok-load_whole-clause-only_refused : goal.returns-in-Ok-load_whole-clause-only_refused
returns-in-Ok-load_whole-clause-only_refused g c = λ fault h. absurd (c.in-Ok.ensures.only_refused fault h)

pub returns-in-Err-TooLong-clause-told : goal.returns-in-Err-TooLong-clause-told
returns-in-Err-TooLong-clause-told g c = λ x answer e. absurd (other-not_document _ x (λ i. i) answer e)

pub returns-in-Err-TooLong-clause-safe : goal.returns-in-Err-TooLong-clause-safe
returns-in-Err-TooLong-clause-safe g c = λ h. absurd (long-not_accepted _ h)

pub returns-in-Err-TooLong-clause-nodes : goal.returns-in-Err-TooLong-clause-nodes
returns-in-Err-TooLong-clause-nodes g c = λ n h. absurd (long-not_nodes _ n h)

pub returns-in-Err-TooLong-clause-refused : goal.returns-in-Err-TooLong-clause-refused
returns-in-Err-TooLong-clause-refused g c = λ fault h. absurd (long-not_refused _ fault h)

pub returns-in-Err-TooLong-clause-read_fault : goal.returns-in-Err-TooLong-clause-read_fault
returns-in-Err-TooLong-clause-read_fault g c = λ h. absurd (long-not_read_fault _ h)

pub returns-in-Err-TooLong-clause-only_refused : goal.returns-in-Err-TooLong-clause-only_refused
returns-in-Err-TooLong-clause-only_refused g c = λ fault h. absurd (c.in-Ok.ensures.only_refused fault h)

pub returns-in-Err-Failed-clause-told : goal.returns-in-Err-Failed-clause-told
returns-in-Err-Failed-clause-told g c = λ x answer e. absurd (other-not_document ReadFault x (λ i. i) answer e)

pub returns-in-Err-Failed-clause-only_told : goal.returns-in-Err-Failed-clause-only_told
returns-in-Err-Failed-clause-only_told g c = λ x document tells on. cut_read_fault c.args.other.task x

pub returns-in-Err-Failed-clause-only_refused : goal.returns-in-Err-Failed-clause-only_refused
returns-in-Err-Failed-clause-only_refused g c = λ fault h. absurd (c.in-Ok.ensures.only_refused fault h)

pub returns-in-Err-Failed-clause-only_too_long : goal.returns-in-Err-Failed-clause-only_too_long
returns-in-Err-Failed-clause-only_too_long g c = λ document tells long. inr (inl refl)

pub returns-clause-told : goal.returns-clause-told
returns-clause-told g c = λ x answer e. absurd (other-not_document Memory x (λ i. i) answer e)

pub returns-clause-only_told : goal.returns-clause-only_told
returns-clause-only_told g c = λ x document tells on. cut_memory c.args.other.task x Memory refl

pub returns-clause-only_refused : goal.returns-clause-only_refused
returns-clause-only_refused g c = λ fault h. absurd (c.in-Ok.ensures.only_refused fault h)

pub returns-clause-only_too_long : goal.returns-clause-only_too_long
returns-clause-only_too_long g c = λ document tells long. inr (inr refl)

pub returns-in-Ok-load_whole-clause-refused_first : goal.returns-in-Ok-load_whole-clause-refused_first
returns-in-Ok-load_whole-clause-refused_first g c = λ fault h. absurd (c.in-Ok.ensures.only_refused fault h)

pub returns-in-Err-TooLong-clause-refused_first : goal.returns-in-Err-TooLong-clause-refused_first
returns-in-Err-TooLong-clause-refused_first g c = λ fault h. absurd (c.in-Ok.ensures.only_refused fault h)

pub returns-in-Err-Failed-clause-refused_first : goal.returns-in-Err-Failed-clause-refused_first
returns-in-Err-Failed-clause-refused_first g c = λ fault h. absurd (c.in-Ok.ensures.only_refused fault h)

pub returns-clause-refused_first : goal.returns-clause-refused_first
returns-clause-refused_first g c = λ fault h. absurd (c.in-Ok.ensures.only_refused fault h)

pub returns-in-Ok-load_whole-clause-read_fault_behind : goal.returns-in-Ok-load_whole-clause-read_fault_behind
returns-in-Ok-load_whole-clause-read_fault_behind g c = λ h. absurd (document-not_read_fault c.args.other.task c.report_on_bytes.result
    c.report_on_bytes.ensures.only h)

pub returns-in-Err-TooLong-clause-read_fault_behind : goal.returns-in-Err-TooLong-clause-read_fault_behind
returns-in-Err-TooLong-clause-read_fault_behind g c = λ h. absurd (long-not_read_fault _ h)

pub returns-in-Err-Failed-clause-read_fault_behind : goal.returns-in-Err-Failed-clause-read_fault_behind
returns-in-Err-Failed-clause-read_fault_behind g c = λ h. (
  c.in-Err-Failed.ensures.failed_counted (ap Err c.in-Err-Failed.field-0-is),
  told c.args.bytes.now c.args.node.now c.in-Ok.source c.in-Ok.ensures.found IsProgram tt,
)

pub returns-in-Ok-load_whole-clause-behind : goal.returns-in-Ok-load_whole-clause-behind
returns-in-Ok-load_whole-clause-behind g c = inr (
  c.in-Ok-load_whole.ensures.counted,
  told c.args.bytes.now c.args.node.now c.in-Ok.source c.in-Ok.ensures.found IsProgram tt,
)

pub returns-in-Err-TooLong-clause-behind : goal.returns-in-Err-TooLong-clause-behind
returns-in-Err-TooLong-clause-behind g c = inr (
  c.in-Err-TooLong.ensures.too_long_counted c.in-Err-TooLong.count (ap Err c.in-Err-TooLong.field-0-is),
  told c.args.bytes.now c.args.node.now c.in-Ok.source c.in-Ok.ensures.found IsProgram tt,
)

pub returns-in-Err-Failed-clause-behind : goal.returns-in-Err-Failed-clause-behind
returns-in-Err-Failed-clause-behind g c = inr (
  c.in-Err-Failed.ensures.failed_counted (ap Err c.in-Err-Failed.field-0-is),
  told c.args.bytes.now c.args.node.now c.in-Ok.source c.in-Ok.ensures.found IsProgram tt,
)
