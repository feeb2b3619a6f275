use Rattle.std.proofs.Common.{◌≡◌, ap, sym, rules, true, false}
use Rattle.rv_tree.specs.{Tree.node_tree, Places.site_of}
use Rattle.rv_types.specs.{declared.typed.Clock.TheVariants.On, Chains.follow, Chains.is_base, Earliest.first}
use Rattle.rv_types.proofs.TimingLaws.{chain_known}
use Rattle.rv_types.proofs.clocks.chain_fault.Goals as goal

pub returns-then-is_on_base : goal.returns-then-is_on_base
returns-then-is_on_base c =
    let n = node_tree c.args.timing.now.node.now in
    let there : is_base (follow c.args.ends.now (On (site_of n c.in-Some.clock.text))) ≡ true = search rules in
    sym (ap first (chain_known n c.args.ends.now c.args.decl.now c.in-Some.clock true c.requires c.in-Some.is there))

pub returns-else-is_on_base : goal.returns-else-is_on_base
returns-else-is_on_base c =
    let n = node_tree c.args.timing.now.node.now in
    let there : is_base (follow c.args.ends.now (On (site_of n c.in-Some.clock.text))) ≡ false = search rules in
    sym (ap first (chain_known n c.args.ends.now c.args.decl.now c.in-Some.clock false c.requires c.in-Some.is there))
