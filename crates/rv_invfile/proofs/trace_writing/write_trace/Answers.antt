use Rattle.std.proofs.Common.{◌≡◌, ◌∙◌, [], List, ℕ, ap, sym, subst}
use Rattle.std.specs.Prelude.{IfOk, Result, Ok, Err}
use Rattle.rv_invfile.specs.{Csv.records_of, Rules.Fields, Rules.IsDocument, Traces.trace_records, Traces.trace_rule, Writes.lines, Writes.wide}
use Rattle.rv_base.specs.declared.value.Trace.{Trace}
use Rattle.rv_flat.specs.declared.flat.Flat.{Flat}
use Rattle.rv_invfile.proofs.{ReadBack.trace-document, Sound.trace-wide, Sound.trace-read}
use Rattle.rv_base.proofs.Lists.{same_text}
use Rattle.rv_invfile.proofs.trace_writing.write_trace.Goals as goal

reads-as : {A E : Type 0} (r : Result A E) (items : A → List ℕ) (x : List ℕ) (rows : List Fields) → records_of x ≡ rows → IfOk r (λ v. items v ≡ x)
    → IfOk r (λ v. records_of (items v) ≡ rows)
reads-as (Ok v) items x rows same h = ap records_of h ∙ same
reads-as (Err e) items x rows same h = tt

pub returns-clause-text : goal.returns-clause-text
returns-clause-text c =
    let f = c.args.flat.now in
    let t = c.args.trace.now in
    same_text c.finish.result (λ v. v.items) (wide (trace_records f t)) (lines (trace_records f t)) (trace-wide f t c.requires.told)
    (c.finish.ensures (wide (trace_records f t)) (c.in_ok-write_records.ensures [] c.new_writer-writer.ensures))

pub returns-clause-records : goal.returns-clause-records
returns-clause-records c =
    let f = c.args.flat.now in
    let t = c.args.trace.now in
    reads-as c.finish.result (λ v. v.items) (wide (trace_records f t)) (trace_records f t)
    (ap records_of (trace-wide f t c.requires.told) ∙ trace-read f t c.requires.told)
    (c.finish.ensures (wide (trace_records f t)) (c.in_ok-write_records.ensures [] c.new_writer-writer.ensures))

is-document : {A E : Type 0} (f : Flat) (t : Trace) (r : Result A E) (items : A → List ℕ) → IsDocument (trace_rule f) (trace_records f t) t
    → IfOk r (λ v. records_of (items v) ≡ trace_records f t) → IfOk r (λ v. IsDocument (trace_rule f) (records_of (items v)) t)
is-document f t (Ok v) items document same = subst (λ rs. IsDocument (trace_rule f) rs t) (sym same) document
is-document f t (Err e) items document same = tt

pub returns-clause-document : goal.returns-clause-document
returns-clause-document c =
    let f = c.args.flat.now in
    let t = c.args.trace.now in
    is-document f t c.finish.result (λ v. v.items) (trace-document f c.requires.told t c.requires.fits)
    (reads-as c.finish.result (λ v. v.items) (wide (trace_records f t)) (trace_records f t)
    (ap records_of (trace-wide f t c.requires.told) ∙ trace-read f t c.requires.told)
    (c.finish.ensures (wide (trace_records f t)) (c.in_ok-write_records.ensures [] c.new_writer-writer.ensures)))
