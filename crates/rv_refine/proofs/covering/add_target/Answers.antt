use Rattle.std.proofs.Common.{All, sym, subst}
use Rattle.std.proofs.lemmas.List.Elements.{All-push}
use Rattle.rv_cover.specs.Toward.{IsTarget}
use Rattle.rv_cover.proofs.Chaining.{targets_later}
use Rattle.rv_refine.proofs.covering.add_target.Goals as goal

pub returns-clause-targets : goal.returns-clause-targets
returns-clause-targets c s plan are =
    subst (All (IsTarget s c.target_in.new.store.nodes)) (sym c.in_ok-push.ensures.ok)
    (All-push (IsTarget s c.target_in.new.store.nodes) c.args.targets.now c.in_ok-target.target
    (targets_later s c.args.store.now c.target_in.new.store c.args.targets.now c.target_in.ensures.extends are)
    (c.in_ok-target.ensures.target s plan))
