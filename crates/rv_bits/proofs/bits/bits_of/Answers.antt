use Rattle.std.proofs.Common.{◌≡◌, ◌∙◌, ◌+◌, ◌/◌, ◌^◌, ℕ, List, ◌++◌, ◌∷◌, [], length, ap, subst, sym, refl, arith, length-append, inl, inr}
use Rattle.std.proofs.lemmas.Bool.{cases_lt}
use Rattle.rv_symbolic.specs.Linked.{AreRefs}
use Rattle.rv_diagram.proofs.Growing.{extends_refl}
use Rattle.rv_bits.specs.Bits.{bit, bit_of}
use Rattle.rv_bits.proofs.Making.{refs_more, means_more, next_bit, next_rest, no_bit, bit_none}
use Rattle.rv_bits.proofs.bits.bits_of.Goals as goal

pub loop-rest-preserved : goal.loop-rest-preserved
loop-rest-preserved c =
    let refs = c.loop-rest.refs in
    let more : List ℕ = refs ++ c.constant.result ∷ [] in
    let same : c.push.new.self ≡ more = c.in_ok-push.ensures.ok in
    let long : length c.push.new.self ≡ length refs + 1 = ap (λ (l : List ℕ). length l) same ∙ length-append refs (c.constant.result ∷ []) in
    record {
      found = subst (AreRefs c.args.store.now.nodes) (sym same) (refs_more c.args.store.now.nodes refs c.constant.result c.loop-rest.invariant.found
          c.constant.ensures.found);
      rest = next_rest c.args.number c.loop-rest.rest (length refs) (length c.push.new.self) c.loop-rest.invariant.rest long;
      means = λ b v lt. ap (λ (l : List ℕ). bit c.args.store.now.nodes l v b) same
          ∙ means_more c.args.store.now c.args.store.now refs c.constant.result (length refs) (λ n w. bit_of c.args.number n) refl
          (extends_refl c.args.store.now) c.loop-rest.invariant.found
          (λ n w low. c.loop-rest.invariant.means n w low) (λ w. c.constant.ensures.means w
          ∙ next_bit c.args.number c.loop-rest.rest (length refs) c.loop-rest.invariant.rest) b v (omega arith);
    }

pub returns-clause-means : goal.returns-clause-means
returns-clause-means c =
    let none : 0 ≡ c.args.number / 2 ^ length c.loop-rest.refs = let z : c.loop-rest.rest ≡ 0 = omega arith in sym z ∙ c.loop-rest.invariant.rest in
    λ b v. elim (cases_lt b (length c.loop-rest.refs)) [
      | inl lt ↦ c.loop-rest.invariant.means b v lt
      | inr le ↦ bit_none c.args.store.now.nodes c.loop-rest.refs v b le ∙ sym (no_bit c.args.number (length c.loop-rest.refs) b none le)
    ]
