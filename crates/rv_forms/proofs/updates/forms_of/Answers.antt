use Rattle.rv_terms.specs.declared.parted.Part.{Part}
use Rattle.rv_forms.proofs.Taken.{made_more}
use Rattle.rv_forms.proofs.updates.forms_of.Goals as goal

pub loop-part-preserved : goal.loop-part-preserved
loop-part-preserved c =
    made_more (λ (p : Part). p.form) c.args.term.now.parts c.as_slice-part-items.result.now c.loop-part.part-index c.part-item.result c.part-item.result
    c.in_ok-copied_form.field-0 c.loop-part.forms c.push.new.self c.as_slice-part-items.ensures c.loop-part-test.true c.part-item.is
    c.in_ok-copied_form.ensures c.loop-part.invariant c.in_ok-push.ensures.ok
