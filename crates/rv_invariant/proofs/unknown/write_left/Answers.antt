use Rattle.std.proofs.Common.{◌≡◌, ◌∷◌, [], List, ℕ, ap, drop, sym, ◌∙◌, subst}
use Rattle.std.specs.Prelude.{IfOk, Result, Ok, Err}
use Rattle.rv_flat.specs.declared.flat.Flat.{Flat}
use Rattle.rv_proofs.specs.declared.report.LeftReport.{LeftReport}
use Rattle.rv_invfile.specs.{Csv.records_of, Rules.IsDocument, Writes.lines, Writes.wide}
use Rattle.rv_invariant.specs.{Certificates.certificate_records, Certificates.certificate_rule, Certificates.first_record, Unknown.left_records}
use Rattle.rv_invariant.proofs.{Adding.held-fits, Located.document-exists, Reporting.left-back, Reporting.left-wide}
use Rattle.rv_base.proofs.Lists.{same_text}
use Rattle.rv_invariant.proofs.unknown.write_left.Goals as goal

reads-as : {A E : Type 0} (f : Flat) (x : LeftReport) (r : Result A E) (items : A → List ℕ) → IfOk r (λ v. items v ≡ wide (left_records f x))
    → IfOk r (λ v. records_of (items v) ≡ left_records f x)
reads-as f x (Ok v) items h = ap records_of h ∙ left-back f x
reads-as f x (Err e) items h = tt

is-document : {A E : Type 0} (f : Flat) (x : LeftReport) (r : Result A E) (items : A → List ℕ)
    → IsDocument (certificate_rule f) (certificate_records f x.partition) x.partition → IfOk r (λ v. records_of (items v) ≡ left_records f x)
    → IfOk r (λ v. IsDocument (certificate_rule f) (first_record ∷ drop 3 (records_of (items v))) x.partition)
is-document f x (Ok v) items document same = subst (λ rs. IsDocument (certificate_rule f) (first_record ∷ drop 3 rs) x.partition) (sym same) document
is-document f x (Err e) items document same = tt

pub returns-clause-text : goal.returns-clause-text
returns-clause-text c =
    let f = c.args.flat.now in
    let x = c.args.report.now in
    same_text c.finish.result (λ v. v.items) (wide (left_records f x)) (lines (left_records f x)) (left-wide f x c.requires.told)
    (c.finish.ensures (wide (left_records f x)) (c.in_ok-write_report.ensures.added [] c.new_writer-writer.ensures))

pub returns-clause-written : goal.returns-clause-written
returns-clause-written c =
    let f = c.args.flat.now in
    let x = c.args.report.now in
    reads-as f x c.finish.result (λ v. v.items) (c.finish.ensures (wide (left_records f x))
    (c.in_ok-write_report.ensures.added [] c.new_writer-writer.ensures))

pub returns-clause-partition : goal.returns-clause-partition
returns-clause-partition c =
    let f = c.args.flat.now in
    let x = c.args.report.now in
    let fits = held-fits f x.partition c.requires.range c.requires.free c.in_ok-write_report.ensures.held in
    is-document f x c.finish.result (λ v. v.items) (document-exists f x.partition c.requires.told fits)
    (reads-as f x c.finish.result (λ v. v.items)
    (c.finish.ensures (wide (left_records f x)) (c.in_ok-write_report.ensures.added [] c.new_writer-writer.ensures)))
