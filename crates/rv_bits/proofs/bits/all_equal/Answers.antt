use Rattle.std.proofs.Common.{ℕ, ◌&&◌, subst}
use Rattle.rv_diagram.specs.{Nodes.value_of, Several.ref_at}
use Rattle.rv_symbolic.specs.Growing.{Makes}
use Rattle.rv_bits.specs.Bits.{is_same}
use Rattle.rv_bits.proofs.Making.{equal_more}
use Rattle.rv_bits.proofs.bits.all_equal.Goals as goal

pub loop-number-preserved : goal.loop-number-preserved
loop-number-preserved c =
    let s = c.loop-number.store in
    let new = c.equal_too.new.store in
    let same = c.loop-number.same in
    let k = c.loop-number.number in
    let one : Makes s new (λ v. value_of s.nodes same v && is_same (value_of s.nodes (ref_at c.args.left.now k) v)
    (value_of s.nodes c.ref_of-in-loop-number.result v)) c.in_ok-same.same =
    subst (λ (a : ℕ). Makes s new (λ v. value_of s.nodes same v && is_same (value_of s.nodes a v) (value_of s.nodes c.ref_of-in-loop-number.result v))
    c.in_ok-same.same)
    c.ref_of.ensures c.in_ok-same.ensures.ok in
    record {
      made = equal_more c.args.store.now s new c.args.left.now c.args.right.now same c.in_ok-same.same k c.requires.left c.requires.right
          c.loop-number.invariant.made
          (subst (λ (a : ℕ). Makes s new (λ v. value_of s.nodes same v && is_same (value_of s.nodes (ref_at c.args.left.now k) v) (value_of s.nodes a v))
          c.in_ok-same.same)
          c.ref_of-in-loop-number.ensures one);
    }
