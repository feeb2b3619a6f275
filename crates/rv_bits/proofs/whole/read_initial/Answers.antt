use Rattle.std.proofs.Common.{◌&&◌}
use Rattle.rv_diagram.specs.Nodes.{Answers, value_of}
use Rattle.rv_diagram.proofs.Growing.{extends_refl}
use Rattle.rv_control.specs.{Control.is_initial, Control.memories_named, Control.none_ticked, Named.named}
use Rattle.rv_flat.specs.{FlatInstants.system_of, Steps.label_counts}
use Rattle.rv_symbolic.proofs.Extending.{map_ok}
use Rattle.rv_bits.proofs.{Keeping.tables_kept, Making.makes_to, Wholes.both_swapped, Wholes.initial_is}
use Rattle.rv_bits.proofs.whole.read_initial.Goals as goal

pub none_ticked-requires-clause-tables : goal.none_ticked-requires-clause-tables
none_ticked-requires-clause-tables c = tables_kept c.args.flat.now c.args.store.now c.memories_named.new.store c.args.tables.now
    c.in_ok-named.ensures.ok.extends c.requires.tables

pub returns-clause-ok : goal.returns-clause-ok
returns-clause-ok c =
    let f = c.args.flat.now in
    let a = c.args.store.now in
    let mid = c.none_ticked.new.store in
    let new = c.and.new.self in
    map_ok c.and.result (Answers mid new (λ v. value_of mid.nodes c.in_ok-unticked.unticked v && value_of mid.nodes c.in_ok-named.named v)) _
    (λ r t. makes_to a a new (λ v. none_ticked (named f v) (system_of f).ticks && memories_named (label_counts f) (named f v) (system_of f).memories)
    (λ v. is_initial (system_of f) (named f v)) r (extends_refl a)
    (both_swapped a c.memories_named.new.store mid new (λ v. memories_named (label_counts f) (named f v) (system_of f).memories)
    (λ v. none_ticked (named f v) (system_of f).ticks)
    c.in_ok-named.named c.in_ok-unticked.unticked r c.in_ok-named.ensures.ok c.in_ok-unticked.ensures.ok t)
    (λ v. initial_is (system_of f) (named f v)))
    c.and.ensures.ok
