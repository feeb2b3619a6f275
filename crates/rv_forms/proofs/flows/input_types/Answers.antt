use Rattle.std.proofs.Common.{refl}
use Rattle.rv_flat.specs.declared.parts.FlatInput.{FlatInput}
use Rattle.rv_forms.proofs.Taken.{made_more}
use Rattle.rv_forms.proofs.flows.input_types.Goals as goal

pub loop-input-preserved : goal.loop-input-preserved
loop-input-preserved c =
    made_more (λ (m : FlatInput). m.kind) c.args.flat.now.inputs c.as_slice-input-items.result.now c.loop-input.input-index c.input-item.result
    c.input-item.result c.input-item.result.kind c.loop-input.kinds c.push.new.self c.as_slice-input-items.ensures c.loop-input-test.true c.input-item.is refl
    c.loop-input.invariant c.in_ok-push.ensures.ok
