use Rattle.std.proofs.Common.{List, refl}
use Rattle.std.specs.Prelude.{Result, Ok, Err, IfOk, IfErr}
use Rattle.rv_invfile.specs.Rules.{Fields, Rule, IsDocument}
use Rattle.rv_invfile.specs.{declared.fault.FileFault.FileFault, Readers.Gives, Readers.whole, Tells.Explains, Csv.records_of}
use Rattle.rv_invfile.proofs.{OnlyFault.fault-found, Answered.document_read, Answered.fault_read, Answered.document_found}
use Rattle.rv_invariant.specs.Certificates.{certificate_rule}
use Rattle.rv_invariant.proofs.reading.read_certificate.Goals as goal

is-document : {A : Type 0} (rule : Rule A) (rs : List Fields) (r : Result A FileFault) → Gives (whole rule rs) r → IfOk r (λ a. IsDocument rule rs a)
is-document rule rs (Ok a) g = document_read rule rs (Ok a) g a refl
is-document rule rs (Err e) g = tt

explains : {A : Type 0} (rule : Rule A) (rs : List Fields) (r : Result A FileFault) → Gives (whole rule rs) r → IfErr r (λ e. Explains rule rs e)
explains rule rs (Ok a) g = tt
explains rule rs (Err e) g = fault_read rule rs e g

pub returns-clause-document : goal.returns-clause-document
returns-clause-document c = is-document (certificate_rule c.args.flat.now) (records_of c.args.bytes.now) c.read_whole.result c.read_whole.ensures

pub returns-clause-only : goal.returns-clause-only
returns-clause-only c x d = document_found (certificate_rule c.args.flat.now) (records_of c.args.bytes.now) x c.read_whole.result d c.read_whole.ensures

pub returns-clause-refused : goal.returns-clause-refused
returns-clause-refused c = explains (certificate_rule c.args.flat.now) (records_of c.args.bytes.now) c.read_whole.result c.read_whole.ensures

pub returns-clause-only_refused : goal.returns-clause-only_refused
returns-clause-only_refused c f h = fault-found (certificate_rule c.args.flat.now) (records_of c.args.bytes.now) f c.read_whole.result h c.read_whole.ensures
