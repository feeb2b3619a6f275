use Rattle.std.proofs.Common.{◌≡◌, [], List, ℕ, ap, sym, ◌∙◌, subst}
use Rattle.std.specs.Prelude.{IfOk, Result, Ok, Err}
use Rattle.rv_flat.specs.declared.flat.Flat.{Flat}
use Rattle.rv_proofs.specs.declared.certificate.Certificate.{Certificate}
use Rattle.rv_invfile.specs.{Csv.records_of, Rules.IsDocument, Writes.lines, Writes.wide}
use Rattle.rv_invariant.specs.Certificates.{certificate_records, certificate_rule}
use Rattle.rv_invariant.proofs.{Adding.held-fits, Lined.certificate-wide, Located.document-exists, Sounding.records-back}
use Rattle.rv_base.proofs.Lists.{same_text}
use Rattle.rv_invariant.proofs.writing.write_certificate.Goals as goal

reads-as : {A E : Type 0} (f : Flat) (x : Certificate) (r : Result A E) (items : A → List ℕ) → IfOk r (λ v. items v ≡ wide (certificate_records f x))
    → IfOk r (λ v. records_of (items v) ≡ certificate_records f x)
reads-as f x (Ok v) items h = ap records_of h ∙ records-back f x
reads-as f x (Err e) items h = tt

is-document : {A E : Type 0} (f : Flat) (x : Certificate) (r : Result A E) (items : A → List ℕ) → IsDocument (certificate_rule f) (certificate_records f x) x
    → IfOk r (λ v. records_of (items v) ≡ certificate_records f x) → IfOk r (λ v. IsDocument (certificate_rule f) (records_of (items v)) x)
is-document f x (Ok v) items document same = subst (λ rs. IsDocument (certificate_rule f) rs x) (sym same) document
is-document f x (Err e) items document same = tt

pub returns-clause-text : goal.returns-clause-text
returns-clause-text c =
    let f = c.args.flat.now in
    let x = c.args.certificate.now in
    same_text c.finish.result (λ v. v.items) (wide (certificate_records f x)) (lines (certificate_records f x)) (certificate-wide f x c.requires.told)
    (c.finish.ensures (wide (certificate_records f x)) (c.in_ok-write_records.ensures.added [] c.new_writer-writer.ensures))

pub returns-clause-written : goal.returns-clause-written
returns-clause-written c =
    let f = c.args.flat.now in
    let x = c.args.certificate.now in
    reads-as f x c.finish.result (λ v. v.items) (c.finish.ensures (wide (certificate_records f x))
    (c.in_ok-write_records.ensures.added [] c.new_writer-writer.ensures))

pub returns-clause-document : goal.returns-clause-document
returns-clause-document c =
    let f = c.args.flat.now in
    let x = c.args.certificate.now in
    let fits = held-fits f x c.requires.range c.requires.free c.in_ok-write_records.ensures.held in
    is-document f x c.finish.result (λ v. v.items) (document-exists f x c.requires.told fits)
    (reads-as f x c.finish.result (λ v. v.items)
    (c.finish.ensures (wide (certificate_records f x)) (c.in_ok-write_records.ensures.added [] c.new_writer-writer.ensures)))
