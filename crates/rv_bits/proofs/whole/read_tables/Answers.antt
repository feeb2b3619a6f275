use Rattle.std.proofs.Common.{List, subst, map}
use Rattle.rv_flat.specs.{declared.parts.Bit.Bit, Lists.variable_of, Systems.tick_flows_of}
use Rattle.rv_bits.specs.Tables.{AreTickRefs}
use Rattle.rv_bits.proofs.Spelling.{tables_read}
use Rattle.rv_bits.proofs.whole.read_tables.Goals as goal

pub returns-clause-ok : goal.returns-clause-ok
returns-clause-ok c =
    let f = c.args.flat.now in
    tables_read f c.args.store.now c.tick_refs.new.store c.memory_refs.new.store c.input_refs.new.store
    (record { ticks = c.in_ok-ticks.ticks; kept = c.in_ok-kept.kept; given = c.in_ok-given.given })
    (subst (λ (vs : List Bit). AreTickRefs (map variable_of vs) c.args.store.now c.tick_refs.new.store (tick_flows_of vs) c.in_ok-ticks.ticks)
    c.as_slice.ensures c.in_ok-ticks.ensures.ok)
    c.in_ok-kept.ensures.ok c.in_ok-given.ensures.ok
