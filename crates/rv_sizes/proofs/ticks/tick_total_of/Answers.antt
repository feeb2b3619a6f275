use Rattle.std.proofs.Common.{◌≡◌, length, sym, ◌∙◌, ap, ℕ}
use Rattle.rv_tree.specs.Tree.{program_tree}
use Rattle.rv_types.specs.{Variables.ticks, Instances.name_at}
use Rattle.rv_sizes.specs.{Ticks.own_ticks, Totals.total_at, Capped.capped}
use Rattle.rv_calls.specs.Callings.{callings_of}
use Rattle.rv_instances.proofs.{Known.name_declared, Lists.if_ok}
use Rattle.rv_sizes.proofs.{Measured.of_each, Measured.sum_measured, TickLevels.ticks_summed}
use Rattle.rv_sizes.proofs.ticks.tick_total_of.Goals as goal

pub total_of-requires : goal.total_of-requires
total_of-requires c =
    let p = program_tree c.args.p.now in
    let each = of_each (own_ticks p) p.nodes c.in_ok-ticks.ticks.own c.in_ok-ticks.ensures in
    record { named = c.requires.named; nodes = c.requires.nodes; main = c.requires.main; size = each.0; own = each.1 }

pub returns : goal.returns
returns c =
    let p = program_tree c.args.p.now in
    let main = name_at p c.args.main in
    if_ok c.total_of.result (λ (sum : ℕ). sum ≡ capped (total_at c.in_ok-ticks.ticks.own (callings_of p) (length p.nodes) c.args.main))
    (λ (sum : ℕ). sum ≡ capped (length (ticks p main)))
    (λ sum is.
    sum_measured p c.requires.named c.args.main c.requires.main (own_ticks p) c.in_ok-ticks.ticks.own sum c.in_ok-ticks.ensures is
    ∙ ap capped (sym (ticks_summed p c.requires.named c.args.nodes.now.order c.requires.nodes.order c.requires.sited main
    (name_declared p c.requires.named c.args.main c.requires.main))))
    c.total_of.ensures
