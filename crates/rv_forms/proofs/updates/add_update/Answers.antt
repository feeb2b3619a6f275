use Rattle.std.proofs.{Common.◌≡◌, Common.◌∙◌, Common.length, Common.sym, Common.subst, lemmas.List.length-map}
use Rattle.rv_agreement.specs.{Agreement.IsNamed, Trees.kind_at, Trees.memory_kinds}
use Rattle.rv_flat.specs.{FlatInstants.system_of, Inlined.table_of, Systems.flow_item, Tame.IsOver}
use Rattle.rv_bits.proofs.Fitting.{over_fits}
use Rattle.rv_forms.proofs.Flowing.{memory_low, table_named, table_fits, table_light}
use Rattle.rv_forms.proofs.updates.add_update.Goals as goal

pub after_term-requires-clause-clock : goal.after_term-requires-clause-clock
after_term-requires-clause-clock c =
    let f = c.args.around.now.flat.now in
    let m = c.args.number in
    let low = memory_low f m c.args.memory.now c.requires.memory in
    let all : length (system_of f).flows ≡ length c.args.wholes.now.flows = length-map f.flows (flow_item f.memories) ∙ sym c.requires.all in
    subst (λ n. IsNamed n (table_of f.memories m).clock) all (table_named f m low c.requires.ready.around.well)

pub after_term-requires-clause-over : goal.after_term-requires-clause-over
after_term-requires-clause-over c =
    let f = c.args.around.now.flat.now in
    let m = c.args.number in
    let low = memory_low f m c.args.memory.now c.requires.memory in
    let all : length (system_of f).flows ≡ length c.args.wholes.now.flows = length-map f.flows (flow_item f.memories) ∙ sym c.requires.all in
    subst (λ n. IsOver n (table_of f.memories m).body) all
    (over_fits (system_of f) (length (system_of f).flows) (table_of f.memories m).clock (kind_at (memory_kinds (system_of f)) m) (table_of f.memories m).body
    (table_fits f m low c.requires.ready.around.well))

pub after_term-requires-clause-light : goal.after_term-requires-clause-light
after_term-requires-clause-light c =
    let f = c.args.around.now.flat.now in
    table_light f c.args.number (memory_low f c.args.number c.args.memory.now c.requires.memory)
