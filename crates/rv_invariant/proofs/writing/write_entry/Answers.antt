use Rattle.std.proofs.Common.{sym, subst}
use Rattle.std.specs.Prelude.{Some, OnOk}
use Rattle.rv_proofs.specs.declared.certificate.EntryKind.{EntryKind}
use Rattle.rv_invfile.specs.Writes.{Adds}
use Rattle.rv_invariant.specs.Certificates.{kind_records}
use Rattle.rv_invariant.proofs.writing.write_entry.Goals as goal

pub returns-in-Dead-clause-added : goal.returns-in-Dead-clause-added
returns-in-Dead-clause-added c =
    subst (λ (k : EntryKind). OnOk c.write_dead.result (Adds (λ v. Some v.items) c.args.writer.now c.write_dead.new.writer
    (kind_records c.args.entry.now.condition k)))
    (sym c.in-Dead.is) c.write_dead.ensures.added

pub returns-in-Go-clause-added : goal.returns-in-Go-clause-added
returns-in-Go-clause-added c =
    subst (λ (k : EntryKind). OnOk c.write_go.result (Adds (λ v. Some v.items) c.args.writer.now c.write_go.new.writer
    (kind_records c.args.entry.now.condition k)))
    (sym c.in-Go.is) c.write_go.ensures.added

pub returns-in-Loop-clause-added : goal.returns-in-Loop-clause-added
returns-in-Loop-clause-added c =
    subst (λ (k : EntryKind). OnOk c.write_turn.result (Adds (λ v. Some v.items) c.args.writer.now c.write_turn.new.writer
    (kind_records c.args.entry.now.condition k)))
    (sym c.in-Loop.is) c.write_turn.ensures.added
