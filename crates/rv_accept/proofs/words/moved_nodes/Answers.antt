use Rattle.std.proofs.Common.{◌≡◌, ◌∙◌, ◌+◌, sym, ap, refl, subst, ℕ, List, [], ◌∷◌, ◌++◌, length, length-append, arith}
use Rattle.rv_diagram.specs.{Nodes.value_of, Nodes.IsRef, Several.ref_at}
use Rattle.rv_diagram.proofs.Growing.{extends_refl, extends_trans}
use Rattle.rv_accept.specs.Held.{AreMoved}
use Rattle.rv_accept.proofs.Moving.{refs_more, moved_more}
use Rattle.rv_accept.proofs.words.moved_nodes.Goals as goal

pub loop-i-init : goal.loop-i-init
loop-i-init c = record {
  extends = extends_refl c.args.store.now;
  size = ap (λ (l : List ℕ). length l) c.new-moved.ensures.items;
  refs = λ i low. let z : length c.new-moved.result.items ≡ 0 = ap (λ (l : List ℕ). length l) c.new-moved.ensures.items in absurd (omega arith);
  means = λ n low v. absurd (omega arith);
}

pub loop-i-preserved : goal.loop-i-preserved
loop-i-preserved c =
    let size : length (c.loop-i.moved.items ++ c.in_ok-r.r ∷ []) ≡ c.loop-i.i + 1 = length-append c.loop-i.moved.items (c.in_ok-r.r ∷ [])
    ∙ ap (λ n. n + 1) c.loop-i.invariant.size in
    let slice : c.as_slice.result.now ≡ c.loop-i.moved.items = c.as_slice.ensures.value in
    let list : c.push.new.self.items ≡ c.loop-i.moved.items ++ c.in_ok-r.r ∷ [] = c.in_ok-push.ensures.items in
    record {
      extends = extends_trans c.args.store.now c.loop-i.store c.moved_node.new.store c.loop-i.invariant.extends c.moved_node.ensures.extends;
      size = ap (λ (l : List ℕ). length l) list ∙ size;
      refs = λ n low. subst (λ (l : List ℕ). IsRef c.moved_node.new.store.nodes (ref_at l n)) (sym list)
          (refs_more c.loop-i.store c.moved_node.new.store c.loop-i.moved.items c.loop-i.i c.in_ok-r.r c.loop-i.invariant.size c.moved_node.ensures.extends
          c.loop-i.invariant.refs c.in_ok-r.ensures.found n
          (let s : length c.push.new.self.items ≡ c.loop-i.i + 1 = ap (λ (l : List ℕ). length l) list ∙ size in omega arith));
      means = λ n low v. ap (λ (l : List ℕ). value_of c.moved_node.new.store.nodes (ref_at l n) v) list
          ∙ moved_more c.args.store.now c.loop-i.store c.moved_node.new.store c.args.next.now c.args.nodes.now c.loop-i.moved.items c.loop-i.i c.in_ok-r.r
          _ c.requires.expanded c.requires.next
          c.loop-i.invariant.extends c.moved_node.ensures.extends c.loop-i.invariant.size c.loop-i-test.true refl c.loop-i.invariant.refs
          c.loop-i.invariant.means
          (λ are w. c.in_ok-r.ensures.means c.args.nodes.now c.requires.expanded (subst (λ
          (l : List ℕ). AreMoved c.loop-i.store c.args.next.now c.args.nodes.now l) (sym slice) are) w) n low v;
    }
