use Rattle.std.proofs.Common.{◌≡◌, ◌+◌, ◌∙◌, ℕ, List, length, sym, ap, subst, arith}
use Rattle.rv_diagram.specs.{Nodes.IsOrderedOver, declared.frozen.Frozen.Frozen}
use Rattle.rv_diagram.proofs.Growing.{extends_refl, extends_trans, grows_extends}
use Rattle.rv_split.specs.Partitions.{part_at}
use Rattle.rv_walk.specs.Ends.{has}
use Rattle.rv_left.specs.Entries.{AreThawn}
use Rattle.rv_left.proofs.{Aiming.thawn_none, Aiming.thawn_more, Bridging.part_read}
use Rattle.rv_left.proofs.locating.thaw_all.Goals as goal

pub loop-k-init : goal.loop-k-init
loop-k-init c = record {
  extends = extends_refl c.args.store.now;
  thawn = thawn_none c.args.store.now c.args.sets.now c.new-refs.result.items c.new-refs.ensures.items;
}

pub thaw-requires : goal.thaw-requires
thaw-requires c =
    subst (λ (m : ℕ). IsOrderedOver m c.index-sets-k.result) (sym c.loop-k.invariant.extends.variables)
    (subst (λ (f : Frozen). IsOrderedOver c.args.store.now.variables f)
    (part_read c.args.sets.now c.loop-k.k c.index-sets-k.result c.loop-k-test.true c.index-sets-k.is) (c.requires c.loop-k.k c.loop-k-test.true))

pub loop-k-preserved : goal.loop-k-preserved
loop-k-preserved c =
    let grown = grows_extends c.loop-k.store c.thaw.new.self c.in_ok-whole.ensures.ok.grows in
    let read : part_at c.args.sets.now c.loop-k.k ≡ c.index-sets-k.result =
    part_read c.args.sets.now c.loop-k.k c.index-sets-k.result c.loop-k-test.true c.index-sets-k.is in
    record {
      extends = extends_trans c.args.store.now c.loop-k.store c.thaw.new.self c.loop-k.invariant.extends grown;
      thawn = subst (λ (l : List ℕ). AreThawn c.thaw.new.self c.args.sets.now (c.loop-k.k + 1) l) (sym c.in_ok-push.ensures.items)
          (thawn_more c.loop-k.store c.thaw.new.self c.args.sets.now c.loop-k.k c.loop-k.refs.items c.loop-k.invariant.thawn grown
          c.in_ok-whole.whole c.in_ok-whole.ensures.ok.found
          (λ v. c.in_ok-whole.ensures.ok.means v ∙ ap (λ (f : Frozen). has f v) (sym read)));
    }

pub returns-clause-thawn : goal.returns-clause-thawn
returns-clause-thawn c =
    let e : c.loop-k.k ≡ length c.args.sets.now = omega (arith, c.loop-k-test.false, c.loop-k.auto.k-end) in
    subst (λ (n : ℕ). AreThawn c.loop-k.store c.args.sets.now n c.loop-k.refs.items) e c.loop-k.invariant.thawn
