use Rattle.std.proofs.Common.{ℕ, ◌≡◌, ◌++◌, ◌∷◌, [], ◌<◌, List, length, subst, sym, ap, ◌∙◌, arith}
use Rattle.rv_symbolic.specs.Linked.{AreParted}
use Rattle.rv_symbolic.proofs.Extending.{parted_more, parted_all}
use Rattle.rv_symbolic.proofs.links.relations.Goals.{then-is_empty+in_ok-push-2, else-is_empty}
use Rattle.rv_symbolic.proofs.links.relations.Goals as goal

pub loop-end-preserved : goal.loop-end-preserved
loop-end-preserved c =
    let n = length c.args.next.now in
    let below : c.in_ok-links.links.start < c.loop-end.end = c.in_ok-links.ensures.some (omega (arith, c.loop-end-test.true)) in
    let more : AreParted c.args.store.now c.part.new.store c.args.next.now c.in_ok-links.links.start n
    (c.loop-end.relations.items
    ++ c.in_ok-links.links.relation ∷ []) = parted_more c.args.store.now c.loop-end.store c.part.new.store c.args.next.now c.loop-end.relations.items
    c.in_ok-links.links.relation c.in_ok-links.links.start c.loop-end.end n c.requires.next (omega (arith, below)) c.loop-end.invariant.within (omega arith)
    c.loop-end.invariant.parted c.in_ok-links.ensures.ok in
    record {
      parted = subst (λ (l : List ℕ). AreParted c.args.store.now c.part.new.store c.args.next.now c.in_ok-links.links.start n l)
          (sym c.in_ok-push.ensures.items) more;
      within = omega (arith, below, c.loop-end.invariant.within);
    }

pub returns-clause-ok : goal.returns-clause-ok
returns-clause-ok c =
    let n = length c.args.next.now in
    let zero : c.loop-end.end ≡ 0 = omega (arith, c.loop-end-test.false) in
    elim c.if-is_empty.branch [
      | then-is_empty+in_ok-push-2 w ↦ subst (λ (l : List ℕ). AreParted c.args.store.now c.loop-end.store c.args.next.now 0 n l) (sym (c.from_vec.ensures
          ∙ ap (λ r. r.items) w.relations-is ∙ w.in_ok-push-2.ensures.items))
          (parted_all c.args.store.now c.loop-end.store c.args.next.now c.loop-end.relations.items w.constant.result c.loop-end.end n c.requires.next zero
          (omega arith) c.loop-end.invariant.parted w.constant.ensures.found w.constant.ensures.means)
      | else-is_empty w ↦ subst (λ (l : List ℕ). AreParted c.args.store.now c.loop-end.store c.args.next.now 0 n l) (sym (c.from_vec.ensures
          ∙ ap (λ r. r.items) w.relations-is))
          (subst (λ (k : ℕ). AreParted c.args.store.now c.loop-end.store c.args.next.now k n c.loop-end.relations.items) zero c.loop-end.invariant.parted)
    ]
