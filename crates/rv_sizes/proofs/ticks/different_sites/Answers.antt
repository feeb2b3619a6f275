use Rattle.std.proofs.Common.{◌≡◌, ◌+◌, [], length, sym, ◌∙◌, ap, arith, cond, drop}
use Rattle.rv_sizes.specs.Ticks.{sites_of_clocks}
use Rattle.rv_sizes.proofs.{TickWalks.counted_more, ticks.different_sites.Goals.then-branch, ticks.different_sites.Goals.else-branch}
use Rattle.rv_sizes.proofs.ticks.different_sites.Goals as goal

pub loop-clock-preserved : goal.loop-clock-preserved
loop-clock-preserved c =
    let ks = c.args.clocks.now in
    let i = c.loop-clock.clock-index in
    let n = c.loop-clock.count in
    let new = c.in_ok-is_new.field-0 in
    let next : cond new (n + 1) n + length (sites_of_clocks c.is_new.new.seen (drop (i + 1) ks)) ≡ length (sites_of_clocks [] ks) =
    counted_more ks i c.loop-clock.seen c.is_new.new.seen new n (length (sites_of_clocks [] ks)) c.loop-clock-test.true c.loop-clock.invariant.count
    c.in_ok-is_new.ensures.new c.in_ok-is_new.ensures.sites in
    elim c.if-branch.branch [
      | then-branch w ↦
          let one = ap (λ b. cond b (n + 1) n + length (sites_of_clocks c.is_new.new.seen (drop (i + 1) ks))) w.if-branch.true in
          record { bound = omega arith; count = ap (λ k. k + length (sites_of_clocks c.is_new.new.seen (drop (i + 1) ks))) w.count-is ∙ sym one ∙ next }
      | else-branch w ↦
          let one = ap (λ b. cond b (n + 1) n + length (sites_of_clocks c.is_new.new.seen (drop (i + 1) ks))) w.if-branch.false in
          record { bound = omega arith; count = ap (λ k. k + length (sites_of_clocks c.is_new.new.seen (drop (i + 1) ks))) w.count-is ∙ sym one ∙ next }
    ]
