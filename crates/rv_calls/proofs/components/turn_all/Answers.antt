use Rattle.std.proofs.Common.{ℕ, ◌<◌, List, [], ◌∷◌, get_or, take, refl, sym, subst, arith}
use Rattle.std.proofs.lemmas.List.{take_more}
use Rattle.rv_calls.specs.Components.{IsTurned}
use Rattle.rv_instances.proofs.Lists.{at_contains}
use Rattle.rv_calls.proofs.Turned.{turned_none, turned_more}
use Rattle.rv_calls.proofs.components.turn_all.Goals as goal

pub loop-target-init : goal.loop-target-init
loop-target-init c = turned_none c.args.v c.args.turned.now.items

pub turn-requires : goal.turn-requires
turn-requires c =
    subst (λ n. get_or c.args.targets.now c.loop-target.target-index 0 < n) (sym c.loop-target.invariant.size)
    (c.requires (get_or c.args.targets.now c.loop-target.target-index 0)
    (at_contains c.args.targets.now (get_or c.args.targets.now c.loop-target.target-index 0) c.loop-target.target-index (omega arith) refl))

pub loop-target-preserved : goal.loop-target-preserved
loop-target-preserved c =
    subst (λ (ts : List ℕ). IsTurned ts c.args.v c.args.turned.now.items c.turn.new.turned.items)
    (sym (take_more c.args.targets.now c.loop-target.target-index 0 (omega arith)))
    (turned_more (take c.loop-target.target-index c.args.targets.now) (get_or c.args.targets.now c.loop-target.target-index 0 ∷ []) c.args.v
    c.args.turned.now.items c.loop-target.turned.items c.turn.new.turned.items c.loop-target.invariant c.in_ok-turn.ensures)
