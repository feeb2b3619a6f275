use Rattle.std.proofs.Common.{◌+◌, ◌++◌, ◌∷◌, [], ℕ, length, take, ap, subst, arith}
use Rattle.std.proofs.lemmas.Option.{slice_get_within}
use Rattle.std.specs.Prelude.{Some, codes, decimal, flat_map}
use Rattle.rv_proofs.specs.declared.certificate.Entry.{Entry}
use Rattle.rv_invfile.specs.{Rules.Fields, Writes.Adds}
use Rattle.rv_invfile.proofs.Adding.{adds-then}
use Rattle.rv_invariant.specs.Certificates.{IsHeld, entry_records}
use Rattle.rv_invariant.proofs.Adding.{adds-same, each-more, flat-more, flat-taken}
use Rattle.rv_invariant.proofs.writing.write_entries.Goals as goal

pub loop-index-init : goal.loop-index-init
loop-index-init c = (
  subst (λ (n : ℕ). Adds (λ v. Some v.items) c.args.writer.now c.put_count.new.writer ((codes "cases" ∷ decimal n ∷ []) ∷ [])) c.len.ensures
      c.in_ok-put_count.ensures,
  λ j e l h. absurd (omega (arith, l)),
)

pub loop-index-preserved : goal.loop-index-preserved
loop-index-preserved c =
    let i = c.loop-index.index in
    let es = c.args.entries.now in
    let e = c.at.result.now in
    let inv = c.loop-index.invariant in
    let count : Fields = codes "cases" ∷ decimal (length es) ∷ [] in (
      adds-same (λ v. Some v.items) c.args.writer.now c.write_entry.new.writer (count ∷ (flat_map entry_records (take i es) ++ entry_records e))
          (count ∷ flat_map entry_records (take (i + 1) es)) (ap (λ l. count ∷ l) (flat-more entry_records es i e c.at.ensures.value))
          (adds-then (λ v. Some v.items) c.args.writer.now c.loop-index.writer c.write_entry.new.writer (count ∷ flat_map entry_records (take i es))
          (entry_records e)
          inv.0 c.in_ok-write_entry.ensures.added),
      each-more (λ (x : Entry). IsHeld x.condition) es i e c.at.ensures.value c.in_ok-write_entry.ensures.held inv.1,
    )

pub returns-clause-added : goal.returns-clause-added
returns-clause-added c =
    let i = c.loop-index.index in
    let es = c.args.entries.now in
    let count : Fields = codes "cases" ∷ decimal (length es) ∷ [] in
    adds-same (λ v. Some v.items) c.args.writer.now c.loop-index.writer (count ∷ flat_map entry_records (take i es)) (count ∷ flat_map entry_records es)
    (ap (λ l. count ∷ l) (flat-taken entry_records es i (omega (arith, c.loop-index-test.false, c.len-index-end.ensures)))) c.loop-index.invariant.0

pub returns-clause-held : goal.returns-clause-held
returns-clause-held c j e h =
    let inside = slice_get_within c.args.entries.now j e h in
    c.loop-index.invariant.1 j e (omega (arith, inside, c.loop-index-test.false, c.len-index-end.ensures)) h
