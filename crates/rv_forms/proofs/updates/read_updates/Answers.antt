use Rattle.std.proofs.{Common.◌≡◌, Common.◌∙◌, Common.length, Common.ap, Common.refl, Common.arith, Common.List, lemmas.List.length-map}
use Rattle.rv_agreement.specs.{Trees.memory_kinds, Valuations.rank}
use Rattle.rv_flat.specs.{declared.parts.FlatMemory.FlatMemory, FlatInstants.system_of, Systems.kept_of}
use Rattle.rv_forms.proofs.Flowing.{item_at, memory_low, memory_kind_is, updates_none, updates_more, updates_all}
use Rattle.rv_forms.proofs.Ranks.{rank_zero, rank_all}
use Rattle.rv_forms.proofs.updates.read_updates.Goals as goal

pub loop-number-init : goal.loop-number-init
loop-number-init c =
    let f = c.args.around.now.flat.now in
    record {
      read = updates_none f c.args.store.now 0 c.new-terms.result refl (rank_zero (memory_kinds (system_of f))) c.new-terms.ensures;
      ready = c.requires.ready;
    }

pub add_update-requires-clause-memory : goal.add_update-requires-clause-memory
add_update-requires-clause-memory c =
    item_at c.args.around.now.flat.now.memories c.as_slice-memory-items.result.now c.loop-number.number c.loop-number.number c.memory-item.result
    c.as_slice-memory-items.ensures c.loop-number-test.true c.memory-item.is refl

pub loop-number-preserved : goal.loop-number-preserved
loop-number-preserved c =
    let f = c.args.around.now.flat.now in
    let m = c.loop-number.number in
    let memory = c.memory-item.result in
    let got = item_at f.memories c.as_slice-memory-items.result.now m m memory c.as_slice-memory-items.ensures c.loop-number-test.true c.memory-item.is refl in
    let low = memory_low f m memory got in
    let many = length-map (system_of f).memories (λ x. x.kind) in
    record {
      read = updates_more f c.args.store.now c.loop-number.store c.add_update.new.store m memory.kind c.loop-number.terms c.add_update.new.terms
          (omega (arith, low, many)) (memory_kind_is f m memory got) c.loop-number.invariant.read c.in_ok-add_update.ensures.extends
          c.in_ok-add_update.ensures.added;
      ready = c.in_ok-add_update.ensures.ready;
    }

pub returns-clause-ok : goal.returns-clause-ok
returns-clause-ok c =
    let f = c.args.around.now.flat.now in
    let long = ap (λ (l : List FlatMemory). length l) c.as_slice-memory-items.ensures in
    let kept = length-map f.memories (kept_of f.memories) in
    let many = length-map (system_of f).memories (λ x. x.kind) in
    let last : c.loop-number.number ≡ length (memory_kinds (system_of f)) = omega (arith, long, kept, many) in
    updates_all f c.args.store.now c.loop-number.store c.loop-number.number c.loop-number.terms c.requires.ready.around.well
    (ap (rank (memory_kinds (system_of f))) last ∙ rank_all (memory_kinds (system_of f))) (omega (arith, last, many)) c.loop-number.invariant.read
