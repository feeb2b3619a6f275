use Rattle.std.proofs.Common.{ℕ, ◌<◌, ◌^◌, sym, ◌∙◌, subst}
use Rattle.rv_tree.specs.{Tree.program_tree, Places.Identifier, SourceTrees.IsSourceTree}
use Rattle.rv_types.specs.{Instances.name_at, Settled.IsSettled, WellFormed.AreWell}
use Rattle.rv_invfile.specs.Csv.{records_of}
use Rattle.rv_run.specs.{declared.report.Report.Report, declared.words.Task.TheVariants.Check, Checked.IsAnswerOf, Checked.IsUnlessLimit}
use Rattle.rv_run.proofs.Judging.{well, is_node}
use Rattle.rv_run.proofs.Inspected.{bad_says, bad_tells, fault-answers_check, fault-not_accepted, fault-not_nodes, verdict-answers, verdict_safe, verdict_says}
use Rattle.rv_run.proofs.Inspected.{verdict_tells, verdict_wide}
use Rattle.rv_run.proofs.inspect.report_on_invariant.Goals as goal

pub accepted-requires-clause-program : goal.accepted-requires-clause-program
accepted-requires-clause-program c =
    let s = c.args.source.now in
    let p = program_tree s.program in
    let fits = c.fitting_sources.ensures s in (
      p,
      name_at p s.typed.main,
      well p s.typed s.order fits (λ m text settled. c.well_formed_programs.ensures p m s.typed text settled),
      is_node p s.typed s.order fits (λ m text settled. c.well_formed_programs.ensures p m s.typed text settled),
      c.in-Ok.ensures.flat,
    )

pub accepted-requires-clause-fits : goal.accepted-requires-clause-fits
accepted-requires-clause-fits c =
    c.documents_fit.ensures.fits c.in-Ok.flat (records_of c.args.document.now) c.in-Ok-read_certificate.certificate c.in-Ok-read_certificate.ensures.document

pub accepted-requires-clause-free : goal.accepted-requires-clause-free
accepted-requires-clause-free c =
    c.documents_fit.ensures.free c.in-Ok.flat (records_of c.args.document.now) c.in-Ok-read_certificate.certificate c.in-Ok-read_certificate.ensures.document

pub returns-in-Ok-read_certificate-clause-says : goal.returns-in-Ok-read_certificate-clause-says
returns-in-Ok-read_certificate-clause-says c = λ x answer e.
    let s = c.args.source.now in
    let fits = c.fitting_sources.ensures s in
    let p = program_tree s.program in
    let well_formed : (m : Identifier) → IsSourceTree p → IsSettled p m s.typed
    → AreWell p = λ m text settled. c.well_formed_programs.ensures p m s.typed text settled in
    let is_well = well p s.typed s.order fits well_formed in
    let named = is_node p s.typed s.order fits well_formed in
    verdict_says c.args.nodes c.args.document.now p (name_at p s.typed.main) c.in-Ok.flat c.in-Ok.ensures.flat
    (λ f g first second. c.alike_systems.ensures p (name_at p s.typed.main) f g is_well named first second)
    (λ f g first second. c.alike_documents.ensures.certificate_rules p (name_at p s.typed.main) f g is_well named first second)
    c.in-Ok-read_certificate.certificate
    c.in-Ok-read_certificate.ensures.document c.accepted.result c.accepted.ensures.exact x answer (sym c.on_accepted.ensures ∙ e)

pub returns-in-Ok-read_certificate-clause-safe : goal.returns-in-Ok-read_certificate-clause-safe
returns-in-Ok-read_certificate-clause-safe c = λ e.
    let s = c.args.source.now in
    let p = program_tree s.program in
    let main = name_at p s.typed.main in
    let fits = c.fitting_sources.ensures s in
    let f = c.in-Ok.flat in
    verdict_safe c.args.nodes f c.in-Ok-read_certificate.certificate c.accepted.result c.accepted.ensures.exact (sym c.on_accepted.ensures ∙ e)
    c.certificates_are_safe.ensures.safe
    (c.runs_are_abstract.ensures.safe p main f
    (well p s.typed s.order fits (λ m text settled. c.well_formed_programs.ensures p m s.typed text settled))
    (is_node p s.typed s.order fits (λ m text settled. c.well_formed_programs.ensures p m s.typed text settled)) c.in-Ok.ensures.flat)

pub returns-in-Ok-read_certificate-clause-wide : goal.returns-in-Ok-read_certificate-clause-wide
returns-in-Ok-read_certificate-clause-wide c = λ n e.
    verdict_wide c.args.nodes c.accepted.result n (sym c.on_accepted.ensures ∙ e)
    (λ nodes. subst (λ (k : ℕ). c.args.nodes < 2 ^ (2 ^ k)) c.in-Ok.ensures.flat.counted (c.accepted.ensures.wide nodes))

pub returns-in-Ok-read_certificate-clause-only : goal.returns-in-Ok-read_certificate-clause-only
returns-in-Ok-read_certificate-clause-only c = subst (IsAnswerOf Check) (sym c.on_accepted.ensures) (verdict-answers c.args.nodes c.accepted.result)

pub returns-in-Ok-read_certificate-clause-only_says : goal.returns-in-Ok-read_certificate-clause-only_says
returns-in-Ok-read_certificate-clause-only_says c = λ x h.
    let s = c.args.source.now in
    let fits = c.fitting_sources.ensures s in
    let p = program_tree s.program in
    let well_formed : (m : Identifier) → IsSourceTree p → IsSettled p m s.typed
    → AreWell p = λ m text settled. c.well_formed_programs.ensures p m s.typed text settled in
    let is_well = well p s.typed s.order fits well_formed in
    let named = is_node p s.typed s.order fits well_formed in
    subst (λ (y : Report). IsUnlessLimit Check x y) (sym c.on_accepted.ensures)
    (verdict_tells c.args.nodes c.args.document.now p (name_at p s.typed.main) c.in-Ok.flat c.in-Ok.ensures.flat
    (λ f g first second. c.alike_systems.ensures p (name_at p s.typed.main) f g is_well named first second)
    (λ f g first second. c.alike_documents.ensures.certificate_rules p (name_at p s.typed.main) f g is_well named first second)
    c.in-Ok-read_certificate.certificate
    c.in-Ok-read_certificate.ensures.document c.one_verdict.ensures.one c.in-Ok-read_certificate.ensures.only_refused c.accepted.result c.accepted.ensures.exact
    x h)

pub returns-clause-says : goal.returns-clause-says
returns-clause-says c = λ x answer e.
    let s = c.args.source.now in
    let fits = c.fitting_sources.ensures s in
    let p = program_tree s.program in
    let well_formed : (m : Identifier) → IsSourceTree p → IsSettled p m s.typed
    → AreWell p = λ m text settled. c.well_formed_programs.ensures p m s.typed text settled in
    let is_well = well p s.typed s.order fits well_formed in
    let named = is_node p s.typed s.order fits well_formed in
    bad_says c.args.nodes c.args.document.now p (name_at p s.typed.main) c.in-Ok.flat c.in-Ok.ensures.flat
    (λ f g first second. c.alike_systems.ensures p (name_at p s.typed.main) f g is_well named first second)
    (λ f g first second. c.alike_documents.ensures.certificate_rules p (name_at p s.typed.main) f g is_well named first second) c.in-Err.fault
    c.in-Err.ensures.refused x answer (sym c.on_fault.ensures ∙ e)

pub returns-clause-safe : goal.returns-clause-safe
returns-clause-safe c = λ e. absurd (fault-not_accepted c.in-Err.fault (sym c.on_fault.ensures ∙ e))

pub returns-clause-wide : goal.returns-clause-wide
returns-clause-wide c = λ n e. absurd (fault-not_nodes c.in-Err.fault n (sym c.on_fault.ensures ∙ e))

pub returns-clause-only : goal.returns-clause-only
returns-clause-only c = subst (IsAnswerOf Check) (sym c.on_fault.ensures) (fault-answers_check c.in-Err.fault)

pub returns-clause-only_says : goal.returns-clause-only_says
returns-clause-only_says c = λ x h.
    let s = c.args.source.now in
    let fits = c.fitting_sources.ensures s in
    let p = program_tree s.program in
    let well_formed : (m : Identifier) → IsSourceTree p → IsSettled p m s.typed
    → AreWell p = λ m text settled. c.well_formed_programs.ensures p m s.typed text settled in
    let is_well = well p s.typed s.order fits well_formed in
    let named = is_node p s.typed s.order fits well_formed in
    subst (λ (y : Report). IsUnlessLimit Check x y) (sym c.on_fault.ensures)
    (bad_tells c.args.nodes c.args.document.now p (name_at p s.typed.main) c.in-Ok.flat c.in-Ok.ensures.flat
    (λ f g first second. c.alike_systems.ensures p (name_at p s.typed.main) f g is_well named first second)
    (λ f g first second. c.alike_documents.ensures.certificate_rules p (name_at p s.typed.main) f g is_well named first second) c.in-Err.fault
    c.in-Err.ensures.only c.in-Err.ensures.only_refused x h)
