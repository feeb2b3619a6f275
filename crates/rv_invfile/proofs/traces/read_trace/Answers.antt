use Rattle.std.proofs.Common.{◌≡◌, List, refl, sym, ap, ◌∙◌, subst}
use Rattle.std.specs.Prelude.{Result, Ok, Err, IfOk, IfErr}
use Rattle.rv_invfile.specs.{declared.fault.FileFault.FileFault, Rules.Fields, Rules.Rule, Rules.IsDocument, Readers.Gives, Readers.whole, Tells.Explains}
use Rattle.rv_invfile.specs.{Csv.records_of, Traces.trace_rule, Traces.trace_records, Traces.Fits}
use Rattle.rv_base.specs.declared.value.Trace.{Trace}
use Rattle.rv_flat.specs.declared.flat.Flat.{Flat}
use Rattle.rv_invfile.proofs.Answered.{document_read, fault_read, document_found}
use Rattle.rv_invfile.proofs.{Written.trace-written, ReadBack.trace-document, Sound.trace-read, OnlyFault.fault-found}
use Rattle.rv_invfile.proofs.traces.read_trace.Goals as goal

is-document : {A : Type 0} (rule : Rule A) (rs : List Fields) (r : Result A FileFault) → Gives (whole rule rs) r → IfOk r (λ a. IsDocument rule rs a)
is-document rule rs (Ok a) g = document_read rule rs (Ok a) g a refl
is-document rule rs (Err e) g = tt

explains : {A : Type 0} (rule : Rule A) (rs : List Fields) (r : Result A FileFault) → Gives (whole rule rs) r → IfErr r (λ e. Explains rule rs e)
explains rule rs (Ok a) g = tt
explains rule rs (Err e) g = fault_read rule rs e g

pub returns-clause-document : goal.returns-clause-document
returns-clause-document c = is-document (trace_rule c.args.flat.now) (records_of c.args.bytes.now) c.read_whole.result c.read_whole.ensures

pub returns-clause-only : goal.returns-clause-only
returns-clause-only c t d = document_found (trace_rule c.args.flat.now) (records_of c.args.bytes.now) t c.read_whole.result d c.read_whole.ensures

pub returns-clause-refused : goal.returns-clause-refused
returns-clause-refused c = explains (trace_rule c.args.flat.now) (records_of c.args.bytes.now) c.read_whole.result c.read_whole.ensures

written : (f : Flat) (rs : List Fields) (r : Result Trace FileFault) → Gives (whole (trace_rule f) rs) r → IfOk r (λ t. Fits f t × (rs ≡ trace_records f t))
written f rs (Ok t) g = trace-written f t rs (document_read (trace_rule f) rs (Ok t) g t refl)
written f rs (Err e) g = tt

pub returns-clause-found : goal.returns-clause-found
returns-clause-found c = written c.args.flat.now (records_of c.args.bytes.now) c.read_whole.result c.read_whole.ensures

pub returns-clause-written : goal.returns-clause-written
returns-clause-written c t h e =
    document_found (trace_rule c.args.flat.now) (records_of c.args.bytes.now) t c.read_whole.result
    (subst (λ rs. IsDocument (trace_rule c.args.flat.now) rs t) (sym e) (trace-document c.args.flat.now c.requires.told t h)) c.read_whole.ensures

pub returns-clause-only_refused : goal.returns-clause-only_refused
returns-clause-only_refused c f h = fault-found (trace_rule c.args.flat.now) (records_of c.args.bytes.now) f c.read_whole.result h c.read_whole.ensures

pub returns-clause-back : goal.returns-clause-back
returns-clause-back c t h e =
    let f = c.args.flat.now in
    let read = ap records_of e ∙ trace-read f t c.requires.told in
    document_found (trace_rule f) (records_of c.args.bytes.now) t c.read_whole.result
    (subst (λ rs. IsDocument (trace_rule f) rs t) (sym read) (trace-document f c.requires.told t h)) c.read_whole.ensures
