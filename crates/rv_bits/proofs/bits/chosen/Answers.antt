use Rattle.std.proofs.Common.{◌≡◌, ◌∙◌, ◌+◌, ℕ, Bool, cond, List, ◌++◌, ◌∷◌, [], length, ap, subst, sym, length-append}
use Rattle.rv_diagram.specs.Nodes.{Valuation, value_of}
use Rattle.rv_diagram.specs.Growing.{Extends}
use Rattle.rv_diagram.proofs.Growing.{extends_trans, grows_extends}
use Rattle.rv_symbolic.specs.Linked.{AreRefs}
use Rattle.rv_symbolic.proofs.Extending.{refs_after}
use Rattle.rv_bits.specs.Bits.{bit}
use Rattle.rv_bits.proofs.Making.{refs_more, means_more, bits_kept}
use Rattle.rv_bits.proofs.bits.chosen.Goals as goal

pub loop-number-preserved : goal.loop-number-preserved
loop-number-preserved c =
    let a = c.args.store.now in
    let s = c.loop-number.store in
    let new = c.ite.new.self in
    let refs = c.loop-number.refs in
    let k = c.loop-number.number in
    let r = c.in_ok-ite.field-0 in
    let before = c.loop-number.invariant in
    let step : Extends s new = grows_extends s new c.in_ok-ite.ensures.ok.grows in
    let same : c.push.new.self ≡ refs ++ r ∷ [] = c.in_ok-push.ensures.ok in
    let long : length (refs ++ r ∷ []) ≡ length refs + 1 = length-append refs (r ∷ []) in
    let first = c.args.first.now in
    let second = c.args.second.now in
    let meaning : ℕ → Valuation → Bool = λ b v. cond (value_of a.nodes c.args.condition v) (bit a.nodes first v b) (bit a.nodes second v b) in
    let last : (v : Valuation) → value_of new.nodes r v ≡ meaning k v = λ v. c.in_ok-ite.ensures.ok.means v
    ∙ (λ i. cond (before.extends.kept c.args.condition c.requires.condition v i)
    ((ap (λ (x : ℕ). value_of s.nodes x v) c.ref_of.ensures ∙ bits_kept a s first before.extends c.requires.first v k) i)
    ((ap (λ (x : ℕ). value_of s.nodes x v) c.ref_of-in-loop-number.ensures ∙ bits_kept a s second before.extends c.requires.second v k) i)) in
    record {
      extends = extends_trans a s new before.extends step;
      size = ap (λ (l : List ℕ). length l) same ∙ long ∙ (λ i. before.size i + 1);
      found = subst (AreRefs new.nodes) (sym same) (refs_more new.nodes refs r (refs_after s new refs step before.found) c.in_ok-ite.ensures.ok.found);
      means = λ b v lt. ap (λ (l : List ℕ). bit new.nodes l v b) same ∙ means_more s new refs r k meaning before.size step before.found before.means last b v
          lt;
    }
