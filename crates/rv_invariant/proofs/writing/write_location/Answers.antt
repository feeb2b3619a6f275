use Rattle.std.proofs.Common.{◌≡◌, ◌∷◌, ◌++◌, [], List, map, ap, ◌∙◌, subst, append_assoc}
use Rattle.std.specs.Prelude.{Some, OnOk, codes}
use Rattle.rv_proofs.specs.declared.certificate.Location.{Location}
use Rattle.rv_invfile.specs.{Rules.Fields, Writes.Adds}
use Rattle.rv_invfile.proofs.Adding.{then-last}
use Rattle.rv_invariant.specs.{Certificates.cases_records, Certificates.rows_of, Pieces.by_record, Pieces.diagram_record, Pieces.list_records}
use Rattle.rv_invariant.proofs.writing.write_location.Goals as goal

-- the lists of rows, one after the other
rows-more : (l : Location) (x : List Fields)
    → rows_of l ++ x ≡ list_records (codes "entry") l.entry ++ (list_records (codes "first") l.first
    ++ (list_records (codes "around") l.around ++ (list_records (codes "state") l.state ++ x)))
rows-more l x =
    let e = list_records (codes "entry") l.entry in
    let f = list_records (codes "first") l.first in
    let a = list_records (codes "around") l.around in
    let s = list_records (codes "state") l.state in
    append_assoc e (f ++ (a ++ s)) x ∙ ap (λ y. e ++ y) (append_assoc f (a ++ s) x ∙ ap (λ y. f ++ y) (append_assoc a s x))

pub returns-clause-added : goal.returns-clause-added
returns-clause-added c =
    let l = c.args.location.now in
    let control = diagram_record (codes "control") l.control in
    let by_entry = map by_record l.by_entry in
    let by_first = map by_record l.by_first in
    let cases = cases_records l.entries in
    let r = c.write_entries.result in
    let w = c.write_entries.new.writer in
    subst (λ (x : List Fields). OnOk r (Adds (λ v. Some v.items) c.args.writer.now w (control ∷ x))) (rows-more l (by_entry ++ (by_first ++ cases)))
    (then-last (λ v. Some v.items) c.args.writer.now c.write_diagram.new.writer w (control ∷ []) (rows_of l ++ (by_entry ++ (by_first ++ cases))) r
    c.in_ok-write_diagram.ensures.added
    (then-last (λ v. Some v.items) c.write_diagram.new.writer c.write_lists.new.writer w (rows_of l) (by_entry ++ (by_first ++ cases)) r
    c.in_ok-write_lists.ensures
    (then-last (λ v. Some v.items) c.write_lists.new.writer c.write_proofs.new.writer w by_entry (by_first ++ cases) r c.in_ok-write_proofs.ensures
    (then-last (λ v. Some v.items) c.write_proofs.new.writer c.write_proofs-2.new.writer w by_first cases r c.in_ok-write_proofs-2.ensures
    c.write_entries.ensures.added))))
