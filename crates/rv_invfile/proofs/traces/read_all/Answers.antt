use Rattle.std.proofs.{Common.◌≡◌, Common.sym, Common.◌∙◌, Common.subst, Common.List, Common.ℕ, lemmas.Result.err_from_is_err_and}
use Rattle.std.specs.Prelude.{Err, Ok, codes}
use Rattle.rv_base.specs.{declared.value.Value.Value, declared.value.Trace.Trace}
use Rattle.rv_flat.specs.declared.parts.FlatMemory.{FlatMemory}
use Rattle.rv_invfile.specs.{Readers.Reads, Readers.run, Parts.each, Forms.names, Forms.counts, Traces.start, Traces.trace_end}
use Rattle.rv_invfile.proofs.{Bound.part_stops, Bound.bind_ok, Instants.to_starts}
use Rattle.rv_invfile.proofs.traces.read_all.Goals as goal

pub returns-in_err-starts : goal.returns-in_err-starts
returns-in_err-starts c =
    let f = c.args.flat.now in
    let p = err_from_is_err_and c.from_residual-in_err-starts.result c.from_residual-in_err-starts.ensures.1 in
    let name = subst (λ (t : List ℕ). run (names (codes "main") t) c.read_exactly.new.records ≡ Ok (tt, c.read_name.new.records))
    (c.as_bytes.ensures.value ∙ c.as_str.ensures) c.in_ok-read_name.ensures.read in
    let count = subst (λ (n : ℕ). run (counts (codes "starts") n n) c.read_name.new.records ≡ Ok (c.in_ok-read_count.field-0, c.read_count.new.records))
    c.len-count.ensures c.in_ok-read_count.ensures.read in
    let there = to_starts f c.in_ok-read_count.field-0 c.args.records.now c.read_exactly.new.records c.read_name.new.records c.read_count.new.records
    c.in_ok-read_exactly.ensures.read name count in
    let stop = subst (λ (ms : List FlatMemory). Reads (λ (v : List Value). v) (run (each (start f.labels) ms) c.read_count.new.records)
    (Err c.in_err-starts.field-0.0) c.read_starts.new.records) c.as_slice.ensures c.in_err-starts.ensures in
    rw (p.1, p.2) (subst (λ r. Reads (λ (t : Trace). t) r (Err c.in_err-starts.field-0.0) c.read_starts.new.records) (sym there)
    (part_stops (λ (v : List Value). v) (λ (t : Trace). t) (each (start f.labels) f.memories) (trace_end f) c.read_count.new.records c.in_err-starts.field-0.0
    c.read_starts.new.records c.read_starts.new.records stop))

pub returns : goal.returns
returns c =
    let f = c.args.flat.now in
    let name = subst (λ (t : List ℕ). run (names (codes "main") t) c.read_exactly.new.records ≡ Ok (tt, c.read_name.new.records))
    (c.as_bytes.ensures.value ∙ c.as_str.ensures) c.in_ok-read_name.ensures.read in
    let count = subst (λ (n : ℕ). run (counts (codes "starts") n n) c.read_name.new.records ≡ Ok (c.in_ok-read_count.field-0, c.read_count.new.records))
    c.len-count.ensures c.in_ok-read_count.ensures.read in
    let there = to_starts f c.in_ok-read_count.field-0 c.args.records.now c.read_exactly.new.records c.read_name.new.records c.read_count.new.records
    c.in_ok-read_exactly.ensures.read name count in
    let starts = subst (λ (ms : List FlatMemory). run (each (start f.labels) ms) c.read_count.new.records ≡ Ok
    (c.in_ok-starts.starts, c.read_starts.new.records)) c.as_slice.ensures c.in_ok-starts.ensures in
    subst (λ r. Reads (λ (t : Trace). t) r c.read_end.result c.read_end.new.records)
    (sym (there ∙ bind_ok (each (start f.labels) f.memories) (trace_end f) c.read_count.new.records c.read_starts.new.records c.in_ok-starts.starts starts))
    c.read_end.ensures
