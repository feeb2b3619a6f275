use Rattle.std.proofs.Common.{◌<◌, ◌++◌, ◌∷◌, [], length, sym, ◌∙◌, ap, arith, take}
use Rattle.std.proofs.lemmas.Option.{get_or_from_slice_get}
use Rattle.rv_instances.specs.{declared.answer.Instance.Instance, Expanded.no_instance}
use Rattle.rv_instances.proofs.Chained.{deep_enough, next_chain, next_told}
use Rattle.rv_instances.proofs.layout.callees_of.Goals as goal

pub tell_caller-requires : goal.tell_caller-requires
tell_caller-requires c =
    let t = c.loop-instance.instance in
    let lt : t < length c.args.instances.now = omega arith in
    let path = c.as_slice-path.ensures
    ∙ sym (ap (λ (i : Instance). i.path) (get_or_from_slice_get c.args.instances.now t c.at.result.now no_instance c.at.ensures.value)) in
    omega (arith, deep_enough c.args.instances.now c.requires.paths t c.loop-instance.chain lt c.loop-instance.invariant.chained, ap length path)

pub loop-instance-preserved : goal.loop-instance-preserved
loop-instance-preserved c =
    let t = c.loop-instance.instance in
    let lt : t < length c.args.instances.now = omega arith in
    let path = c.as_slice-path.ensures
    ∙ sym (ap (λ (i : Instance). i.path) (get_or_from_slice_get c.args.instances.now t c.at.result.now no_instance c.at.ensures.value)) in
    let long = c.in_ok-push.ensures.ok ∙ ap (λ l. l ++ t ∷ []) (c.truncate.ensures ∙ ap (λ n. take n c.loop-instance.chain) (ap length path)) in
    record {
      chained = next_chain c.args.instances.now c.requires.paths t c.loop-instance.chain lt c.loop-instance.invariant.chained c.push.new.self long;
      told = next_told c.args.instances.now c.requires.paths t c.loop-instance.chain lt c.loop-instance.invariant.chained c.loop-instance.callees
          c.tell_caller.new.callees c.loop-instance.invariant.told (λ e. c.in_ok-tell_caller.ensures.main (path ∙ e))
          (λ q s m u e. c.in_ok-tell_caller.ensures.called q s m u (path ∙ e));
      end = c.loop-instance.invariant.end;
    }
