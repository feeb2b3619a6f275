use Rattle.std.proofs.Common.{◌≡◌, ◌+◌, ◌∙◌, List, take, refl, ap, sym, subst}
use Rattle.rv_types.specs.declared.typed.Kind.{Kind}
use Rattle.rv_flat.specs.declared.parts.FlatMemory.{FlatMemory}
use Rattle.rv_flat.proofs.SystemRuns.{kept_kinds}
use Rattle.rv_forms.proofs.Taken.{made_more}
use Rattle.rv_forms.proofs.flows.memory_types.Goals as goal

pub loop-memory-preserved : goal.loop-memory-preserved
loop-memory-preserved c =
    let ms = c.args.flat.now.memories in
    let i = c.loop-memory.memory-index in
    let kinds = kept_kinds ms ms in
    subst (λ (l : List Kind). c.push.new.self ≡ take (i + 1) l) (sym kinds)
    (made_more (λ (m : FlatMemory). m.kind) ms c.as_slice-memory-items.result.now i c.memory-item.result c.memory-item.result c.memory-item.result.kind
    c.loop-memory.kinds c.push.new.self c.as_slice-memory-items.ensures c.loop-memory-test.true c.memory-item.is refl
    (c.loop-memory.invariant ∙ ap (take i) kinds) c.in_ok-push.ensures.ok)
