use Rattle.std.proofs.Common.{Some, ap, refl, sym, ◌∙◌, subst}
use Rattle.rv_words.specs.Asked.{make, tour}
use Rattle.rv_run.specs.Words.{HasRanges, IsNamed, Wanted, wanted, wanted_by, wanted_of}
use Rattle.rv_run.specs.{declared.words.Request.Request, Replies.Replies, declared.report.Report.Report}
use Rattle.rv_make.specs.Made.{made_text}
use Rattle.rv_words.specs.Words.{texts}
use Rattle.rv_run.proofs.{Cut.IsOffFile, Cut.make_replies, Cut.tour_replies, Loading.never_loaded, Loading.off_made, Loading.off_toured, Loading.same_words}
use Rattle.rv_run.proofs.running.report_on.Goals as goal

pub report_on_file-requires-clause-served : goal.report_on_file-requires-clause-served
report_on_file-requires-clause-served g c = λ name is.
    c.requires name (subst (λ (w : Wanted). IsNamed w name) (ap wanted_by
    (sym (c.in-Ok-Some-File.field-0-is ∙ ap (λ (r : Request). Some r) c.in-Ok-Some-File.field-0-0-is)) ∙ c.in-Ok-Some-File.ensures.wanted) is)

pub returns-in-Ok-Some-Make-clause-replies : goal.returns-in-Ok-Some-Make-clause-replies
returns-in-Ok-Some-Make-clause-replies g c =
    let held = g.F.Files.held c.args.files.now in
    let n = c.in-Ok-Some-Make.n in
    subst (λ (w : Wanted). Replies held w c.bare.result.report c.bare.result.document.items)
    (ap wanted_by (sym (c.in-Ok-Some-Make.field-0-is ∙ ap (λ (r : Request). Some r) c.in-Ok-Some-Make.field-0-0-is)) ∙ c.in-Ok-Some-Make.ensures.wanted)
    (subst (λ (r : Report). Replies held (wanted_of (Some (make n))) r c.bare.result.document.items) (sym c.bare.ensures)
    (make_replies held c.bare.result.document.items n c.report_on_make.result c.report_on_make.ensures))

pub returns-in-Ok-Some-Tour-clause-replies : goal.returns-in-Ok-Some-Tour-clause-replies
returns-in-Ok-Some-Tour-clause-replies g c =
    let held = g.F.Files.held c.args.files.now in
    let n = c.in-Ok-Some-Tour.n in
    let answer = c.report_on_tour.ensures in
    let shown = c.bare-in-Ok-Some-Tour.result in
    let ranges = subst HasRanges (c.in-Ok-Some-Tour.field-0-is ∙ ap (λ (r : Request). Some r) c.in-Ok-Some-Tour.field-0-0-is) c.in-Ok-Some-Tour.ensures.ranges
    in
    subst (λ (w : Wanted). Replies held w shown.report shown.document.items)
    (ap wanted_by (sym (c.in-Ok-Some-Tour.field-0-is ∙ ap (λ (r : Request). Some r) c.in-Ok-Some-Tour.field-0-0-is)) ∙ c.in-Ok-Some-Tour.ensures.wanted)
    (subst (λ (r : Report). Replies held (wanted_of (Some (tour n))) r shown.document.items) (sym c.bare-in-Ok-Some-Tour.ensures)
    (tour_replies held shown.document.items n (c.made_texts_are_short.ensures n ranges.1) c.report_on_tour.result
    answer.toured answer.safe answer.certified answer.nodes answer.unprobed answer.only))

pub returns-in-Ok-Some-File-clause-loads : goal.returns-in-Ok-Some-File-clause-loads
returns-in-Ok-Some-File-clause-loads g c =
    same_words (g.F.Files.held c.args.files.now) _ (wanted (texts c.args.words.now)) _ _ _
    (ap wanted_by (sym (c.in-Ok-Some-File.field-0-is ∙ ap (λ (r : Request). Some r) c.in-Ok-Some-File.field-0-0-is)) ∙ c.in-Ok-Some-File.ensures.wanted)
    c.report_on_file.ensures.loads

pub returns-in-Ok-Some-Make-clause-loads : goal.returns-in-Ok-Some-Make-clause-loads
returns-in-Ok-Some-Make-clause-loads g c =
    never_loaded (g.F.Files.held c.args.files.now) (wanted (texts c.args.words.now)) c.bare.result.report _ _ refl
    (subst IsOffFile (sym c.bare.ensures) (off_made (made_text c.in-Ok-Some-Make.n) c.report_on_make.result c.report_on_make.ensures))

pub returns-in-Ok-Some-Tour-clause-loads : goal.returns-in-Ok-Some-Tour-clause-loads
returns-in-Ok-Some-Tour-clause-loads g c =
    never_loaded (g.F.Files.held c.args.files.now) (wanted (texts c.args.words.now)) c.bare-in-Ok-Some-Tour.result.report _ _ refl
    (subst IsOffFile (sym c.bare-in-Ok-Some-Tour.ensures) (off_toured c.report_on_tour.result c.report_on_tour.ensures.only))
