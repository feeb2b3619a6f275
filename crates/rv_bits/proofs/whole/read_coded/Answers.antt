use Rattle.std.proofs.Common.{◌&&◌}
use Rattle.rv_diagram.specs.Nodes.{Answers, value_of}
use Rattle.rv_control.specs.{Control.inputs_named, Control.memories_named, Named.named}
use Rattle.rv_flat.specs.{FlatInstants.system_of, Steps.label_counts}
use Rattle.rv_symbolic.proofs.Extending.{map_ok}
use Rattle.rv_bits.proofs.{Making.both_made_of, Wholes.and_kept}
use Rattle.rv_bits.proofs.whole.read_coded.Goals as goal

pub returns-clause-ok : goal.returns-clause-ok
returns-clause-ok c =
    let f = c.args.flat.now in
    let a = c.args.store.now in
    let mid = c.and.new.self in
    let new = c.and-2.new.self in
    map_ok c.and-2.result (Answers mid new (λ v. value_of mid.nodes c.in_ok-coded.coded v && value_of mid.nodes c.args.met v)) _
    (λ r t. and_kept a mid new (λ v. memories_named (label_counts f) (named f v) (system_of f).memories && inputs_named (label_counts f) (named f v) 0
    (system_of f).inputs) c.in_ok-coded.coded c.args.met r
    (both_made_of a c.memories_named.new.store c.inputs_named.new.store mid (λ v. memories_named (label_counts f) (named f v) (system_of f).memories)
    (λ v. inputs_named (label_counts f) (named f v) 0 (system_of f).inputs)
    c.in_ok-memories.memories c.in_ok-inputs.inputs c.in_ok-coded.coded c.in_ok-memories.ensures.ok c.in_ok-inputs.ensures.ok c.in_ok-coded.ensures.ok)
    c.requires.met t)
    c.and-2.ensures.ok
