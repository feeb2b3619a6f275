use Rattle.std.proofs.Common.{◌≡◌, ◌∙◌, ◌+◌, ◌<◌, sym, ap, subst, ℕ, List, [], ◌∷◌, ◌++◌, length, length-append, arith}
use Rattle.std.proofs.lemmas.Option.{slice_get_within}
use Rattle.rv_diagram.specs.{Nodes.value_of, Nodes.IsRef, Nodes.IsOrderedOver, Several.ref_at}
use Rattle.rv_diagram.proofs.Growing.{extends_refl, extends_trans}
use Rattle.rv_accept.specs.{Steps.AreRefs, Steps.has, Held.follow, Held.ReadsNext}
use Rattle.rv_accept.proofs.{Moving.refs_later, Moving.refs_more, Moving.led_more, Later.reads_next, Failing.follow_next}
use Rattle.rv_accept.proofs.words.led_into_each.Goals as goal

pub loop-k-init : goal.loop-k-init
loop-k-init c = record {
  extends = extends_refl c.args.store.now;
  size = ap (λ (l : List ℕ). length l) c.new-led.ensures.items;
  refs = λ i low. let z : length c.new-led.result.items ≡ 0 = ap (λ (l : List ℕ). length l) c.new-led.ensures.items in absurd (omega arith);
  means = λ n x low at v. absurd (omega arith);
}

pub led_alone-requires-clause-next : goal.led_alone-requires-clause-next
led_alone-requires-clause-next c = let (s, held, range) = c.requires.given in subst (λ (l : List ℕ). AreRefs c.loop-k.store l) (sym c.as_slice.ensures)
    (refs_later c.args.store.now c.loop-k.store c.args.parts.now.next c.loop-k.invariant.extends held.refs.next)

pub led_alone-requires-clause-set : goal.led_alone-requires-clause-set
led_alone-requires-clause-set c = let (s, held, range) = c.requires.given in subst (λ (m : ℕ). IsOrderedOver m c.at.result.now.control)
    (sym (c.loop-k.invariant.extends.variables ∙ held.means.variables)) (range.locations c.loop-k.k c.at.result.now c.at.ensures.value).control.ordered

pub led_alone-requires-clause-states : goal.led_alone-requires-clause-states
led_alone-requires-clause-states c = let (s, held, range) = c.requires.given in
    subst (λ (l : List ℕ). ReadsNext (length l) c.at.result.now.control.nodes) (sym c.as_slice.ensures)
    (reads_next s c.args.store.now c.args.parts.now c.at.result.now.control held (range.locations c.loop-k.k c.at.result.now c.at.ensures.value).control)

pub loop-k-preserved : goal.loop-k-preserved
loop-k-preserved c = let (s, held, range) = c.requires.given in
    let size : length (c.loop-k.led.items ++ c.in_ok-r.r ∷ []) ≡ c.loop-k.k + 1 = length-append c.loop-k.led.items (c.in_ok-r.r ∷ [])
    ∙ ap (λ n. n + 1) c.loop-k.invariant.size in
    let list : c.push.new.self.items ≡ c.loop-k.led.items ++ c.in_ok-r.r ∷ [] = c.in_ok-push.ensures.items in
    record {
      extends = extends_trans c.args.store.now c.loop-k.store c.led_alone.new.store c.loop-k.invariant.extends c.led_alone.ensures.extends;
      size = ap (λ (l : List ℕ). length l) list ∙ size;
      refs = λ n low. subst (λ (l : List ℕ). IsRef c.led_alone.new.store.nodes (ref_at l n)) (sym list)
          (refs_more c.loop-k.store c.led_alone.new.store c.loop-k.led.items c.loop-k.k c.in_ok-r.r c.loop-k.invariant.size c.led_alone.ensures.extends
          c.loop-k.invariant.refs c.in_ok-r.ensures.found n
          (let z : length c.push.new.self.items ≡ c.loop-k.k + 1 = ap (λ (l : List ℕ). length l) list ∙ size in omega arith));
      means = λ n x low at v. ap (λ (l : List ℕ). value_of c.led_alone.new.store.nodes (ref_at l n) v) list
          ∙ led_more c.args.store.now c.loop-k.store c.led_alone.new.store c.args.parts.now.next c.args.certificate.now.locations c.loop-k.led.items
          c.loop-k.k c.in_ok-r.r c.at.result.now held.refs.next c.loop-k.invariant.extends c.led_alone.ensures.extends c.loop-k.invariant.size
          c.at.ensures.value c.loop-k.invariant.refs c.loop-k.invariant.means
          (λ w. c.in_ok-r.ensures.means w ∙ ap (λ (l : List ℕ). has c.at.result.now.control (follow c.loop-k.store l w)) c.as_slice.ensures) n x low at v;
    }

pub returns-clause-exact : goal.returns-clause-exact
returns-clause-exact c = λ s held range. record {
  size = let e : length c.loop-k.led.items ≡ c.loop-k.k = c.loop-k.invariant.size in omega arith;
  refs = c.loop-k.invariant.refs;
  means = λ k l at v. c.loop-k.invariant.means k l
      (let w : k < length c.args.certificate.now.locations = slice_get_within c.args.certificate.now.locations k l at in omega (arith, w)) at v
      ∙ follow_next s c.args.parts.now c.args.store.now l.control held (range.locations k l at).control v;
}
