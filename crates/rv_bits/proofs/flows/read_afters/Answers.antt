use Rattle.std.proofs.{Common.◌≡◌, Common.◌∙◌, Common.◌+◌, Common.◌<◌, Common.length, Common.subst, Common.sym, Common.arith, lemmas.List.length-map}
use Rattle.rv_agreement.specs.{Agreement.Fits, Agreement.IsNamed, Trees.Item, Trees.kind_at, Trees.memory_kinds}
use Rattle.rv_flat.specs.{FlatInstants.system_of, Inlined.table_of, Systems.flow_item, Systems.kept_of, Tame.IsOver}
use Rattle.rv_flat.proofs.Inlining.{memory_at}
use Rattle.rv_bits.specs.Flows.{AreAfters}
use Rattle.rv_bits.proofs.{Keeping.around_kept, Fitting.over_fits, Flowing.after_pushed}
use Rattle.rv_bits.proofs.flows.read_afters.Goals as goal

pub show-requires-clause-clock : goal.show-requires-clause-clock
show-requires-clause-clock c =
    let f = c.args.around.now.flat.now in
    let m = c.loop-number.number in
    let all : length (system_of f).flows ≡ length c.args.around.now.read.now.on = length-map f.flows (flow_item f.memories) ∙ sym c.requires.all in
    let inside : m < length (system_of f).memories = omega (arith, length-map f.memories (kept_of f.memories), c.len-number-end.ensures) in
    subst (λ n. IsNamed n (table_of f.memories m).clock) all
    (subst (λ (x : Item). IsNamed (length (system_of f).flows) x.clock)
    (memory_at f.flows f.memories f.inputs f.assertions f.variables f.labels f.observer f.ends m) (c.requires.around.well.memories m inside).0)

pub show-requires-clause-over : goal.show-requires-clause-over
show-requires-clause-over c =
    let f = c.args.around.now.flat.now in
    let m = c.loop-number.number in
    let j = kind_at (memory_kinds (system_of f)) m in
    let all : length (system_of f).flows ≡ length c.args.around.now.read.now.on = length-map f.flows (flow_item f.memories) ∙ sym c.requires.all in
    let inside : m < length (system_of f).memories = omega (arith, length-map f.memories (kept_of f.memories), c.len-number-end.ensures) in
    let fits : Fits (system_of f) (length (system_of f).flows) (table_of f.memories m).clock j (table_of f.memories m).body =
    subst (λ (x : Item). Fits (system_of f) (length (system_of f).flows) x.clock j x.body)
    (memory_at f.flows f.memories f.inputs f.assertions f.variables f.labels f.observer f.ends m) (c.requires.around.well.memories m inside).1 in
    subst (λ n. IsOver n (table_of f.memories m).body) all (over_fits (system_of f) (length (system_of f).flows) (table_of f.memories m).clock j
    (table_of f.memories m).body fits)

pub loop-number-preserved : goal.loop-number-preserved
loop-number-preserved c =
    let f = c.args.around.now.flat.now in
    let s = c.loop-number.store in
    let new = c.show.new.store in
    let n = c.loop-number.number in
    let refs = c.in_ok-show.field-0 in
    record {
      read = subst (AreAfters f c.args.store.now new (n + 1)) (sym c.in_ok-push.ensures.ok)
          (after_pushed f c.args.store.now s new n c.loop-number.lists refs c.loop-number.invariant.read c.in_ok-show.ensures.ok);
      around = around_kept s new c.args.around.now c.in_ok-show.ensures.ok.extends c.loop-number.invariant.around;
      shown = c.in_ok-show.ensures.shown;
    }
