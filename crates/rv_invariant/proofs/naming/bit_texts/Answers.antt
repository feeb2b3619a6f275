use Rattle.std.proofs.Common.{◌∙◌}
use Rattle.rv_invariant.specs.Naming.{bit_text}
use Rattle.rv_invariant.proofs.Looping.{mapped-more}
use Rattle.rv_invariant.proofs.naming.bit_texts.Goals as goal

pub loop-index-preserved : goal.loop-index-preserved
loop-index-preserved c =
    let f = c.args.flat.now in
    mapped-more (bit_text f.inputs) f.variables c.loop-index.index c.at.result.now c.loop-index.names c.push.new.self c.in_ok-from_str.field-0
    c.at.ensures.value c.loop-index.invariant
    (c.in_ok-from_str.ensures ∙ c.as_str.ensures.value ∙ c.in_ok-text.ensures) c.in_ok-push.ensures.ok
