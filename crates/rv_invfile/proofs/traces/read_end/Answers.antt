use Rattle.std.proofs.{Common.◌≡◌, Common.sym, Common.◌∙◌, Common.subst, Common.List, Common.map, lemmas.Result.err_from_is_err_and}
use Rattle.std.specs.Prelude.{Err, Ok, ⊤, codes}
use Rattle.rv_base.specs.{declared.value.Value.Value, declared.value.Trace.Trace}
use Rattle.rv_flat.specs.declared.parts.FlatInput.{FlatInput}
use Rattle.rv_invfile.specs.{Readers.Reads, Readers.run, Parts.times, Forms.exactly, Forms.lists, Rules.done, Traces.instant, Traces.last_record}
use Rattle.rv_invfile.proofs.{Bound.part_stops, Bound.bind_ok, Instants.to_instants, Instants.to_last, Instants.last_part}
use Rattle.rv_invfile.proofs.traces.read_end.Goals as goal

pub returns-in_err-instants : goal.returns-in_err-instants
returns-in_err-instants c =
    let f = c.args.flat.now in
    let p = err_from_is_err_and c.from_residual-in_err-instants.result c.from_residual-in_err-instants.ensures.1 in
    let s2 = c.read_count.new.records in
    let inputs = subst (λ (is : List FlatInput). run (lists (codes "inputs") (map (λ i. i.name) is)) c.args.records.now ≡ Ok (tt, c.read_inputs.new.records))
    c.as_slice.ensures c.in_ok-read_inputs.ensures.read in
    let there = to_instants f c.args.starts c.in_ok-count.count c.args.records.now c.read_inputs.new.records s2 inputs c.in_ok-count.ensures.read in
    rw (p.1, p.2) (subst (λ r. Reads (λ (t : Trace). t) r (Err c.in_err-instants.field-0.0) c.read_instants.new.records) (sym there)
    (part_stops (λ (v : List (List Value)). v) (λ (t : Trace). t) (times c.in_ok-count.count (instant f)) (last_part c.args.starts) s2
    c.in_err-instants.field-0.0 c.read_instants.new.records c.read_instants.new.records c.in_err-instants.ensures))

pub returns-in_err-read_exactly : goal.returns-in_err-read_exactly
returns-in_err-read_exactly c =
    let f = c.args.flat.now in
    let p = err_from_is_err_and c.from_residual-in_err-read_exactly.result c.from_residual-in_err-read_exactly.ensures.1 in
    let inputs = subst (λ (is : List FlatInput). run (lists (codes "inputs") (map (λ i. i.name) is)) c.args.records.now ≡ Ok (tt, c.read_inputs.new.records))
    c.as_slice.ensures c.in_ok-read_inputs.ensures.read in
    let there = to_last f c.args.starts c.in_ok-count.count c.in_ok-instants.instants c.args.records.now c.read_inputs.new.records c.read_count.new.records
    c.read_instants.new.records inputs c.in_ok-count.ensures.read c.in_ok-instants.ensures in
    rw (p.1, p.2) (subst (λ r. Reads (λ (t : Trace). t) r (Err c.in_err-read_exactly.field-0.0) c.read_exactly.new.records) (sym there)
    (part_stops (λ (u : ⊤). u) (λ (t : Trace). t) (exactly last_record) (λ b. done (record { starts = c.args.starts; instants = c.in_ok-instants.instants }))
    c.read_instants.new.records c.in_err-read_exactly.field-0.0 c.read_exactly.new.records c.read_exactly.new.records c.in_err-read_exactly.ensures.read))

pub returns : goal.returns
returns c =
    let f = c.args.flat.now in
    let inputs = subst (λ (is : List FlatInput). run (lists (codes "inputs") (map (λ i. i.name) is)) c.args.records.now ≡ Ok (tt, c.read_inputs.new.records))
    c.as_slice.ensures c.in_ok-read_inputs.ensures.read in
    to_last f c.args.starts c.in_ok-count.count c.in_ok-instants.instants c.args.records.now c.read_inputs.new.records c.read_count.new.records
    c.read_instants.new.records inputs c.in_ok-count.ensures.read c.in_ok-instants.ensures
    ∙ bind_ok (exactly last_record) (λ b. done (record { starts = c.args.starts; instants = c.in_ok-instants.instants })) c.read_instants.new.records
    c.read_exactly.new.records tt c.in_ok-read_exactly.ensures.read
