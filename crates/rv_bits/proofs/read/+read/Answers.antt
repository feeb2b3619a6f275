use Rattle.std.proofs.Common.{◌≡◌, ◌∙◌, ◌+◌, ◌<◌, ℕ, suc, not, cond, nat_le, List, [], ◌∷◌, ◌++◌, length, drop, ap, subst, sym, arith}
use Rattle.std.proofs.{Math.Seq.drop-cons, lemmas.Option.slice_get_within}
use Rattle.rv_tree.specs.Places.{Sites}
use Rattle.rv_diagram.specs.{Nodes.value_of, Several.ref_at}
use Rattle.rv_diagram.proofs.Growing.{extends_refl, extends_trans}
use Rattle.rv_agreement.specs.Trees.{FlatTree, Node, Memory, Ticked, Not, Binary, If, AtMostOne, When, More}
use Rattle.rv_flat.specs.{declared.parts.FlatExpr.FlatExpr, FlatInstants.system_of, Inlined.size_of, Tame.AreOver}
use Rattle.rv_control.specs.Named.{variables_of}
use Rattle.rv_symbolic.specs.{Growing.Makes, Linked.AreRefs}
use Rattle.rv_symbolic.proofs.Extending.{map_ok, refs_after}
use Rattle.rv_bits.specs.{Bits.bit, Bits.count_true, Bits.Spells, Bits.IsSingle, Operators.operated_by, Shown.refs_at, Shown.clock_bit, Shown.IsAfter}
use Rattle.rv_bits.specs.{Shown.AreAfter, Shown.ReadsTo, Reads.tree_in, Reads.trees_in, Reads.true_at, Reads.ShowsTo}
use Rattle.rv_bits.proofs.Making.{any_ref, refs_more}
use Rattle.rv_bits.proofs.Showing.{reads_constant, reads_memory, reads_tick, reads_not, reads_binary, reads_if, reads_most, reads_when, shows_after}
use Rattle.rv_bits.proofs.Keeping.{around_kept, after_kept, after_set, trees_left, fit_more, counted_more, on_ok, both_ok, none_counted, none_after}
use Rattle.rv_bits.proofs.Keeping.{memory_item_at}
use Rattle.rv_bits.proofs.Trees.{tree_constant, tree_memory, tree_ticked, tree_not, tree_if, tree_most, tree_when}
use Rattle.rv_bits.proofs.read.+read.Goals as goal

pub read_at_most_one-returns-clause-ok : goal.read_at_most_one-returns-clause-ok
read_at_most_one-returns-clause-ok t c = λ at.
    let f = c.args.around.now.flat.now in
    let s = c.read_each.new.store in
    let refs = c.in_ok-refs.refs in
    let made : Makes s c.at_most_one.new.store (λ v. nat_le (count_true (length refs) (bit s.nodes refs v)) 1) c.in_ok-most.most =
    subst (λ (l : List ℕ). Makes s c.at_most_one.new.store (λ v. nat_le (count_true (length l) (bit s.nodes l v)) 1) c.in_ok-most.most) c.as_slice.ensures
    c.in_ok-most.ensures.ok in
    subst (ReadsTo f c.args.store.now c.at_most_one.new.store (Node at (AtMostOne (trees_in c.args.around.now c.args.operands.now))))
    (sym c.in_ok-single.ensures)
    (reads_most f c.args.store.now s c.at_most_one.new.store at (trees_in c.args.around.now c.args.operands.now) refs c.in_ok-most.most c.in_ok-refs.ensures.ok
    made)

pub read_at_most_one-returns-clause-shown : goal.read_at_most_one-returns-clause-shown
read_at_most_one-returns-clause-shown t c =
    after_kept c.args.around.now.flat.now c.read_each.new.store c.at_most_one.new.store c.read_each.new.shown c.in_ok-most.ensures.ok.extends
    c.in_ok-refs.ensures.shown

pub read_binary-read_expr-requires-2 : goal.read_binary-read_expr-requires-2
read_binary-read_expr-requires-2 t c = (
  omega (arith, c.decreases),
  (
    around_kept c.args.store.now c.read_expr.new.store c.args.around.now c.in_ok-first.ensures.ok.extends c.requires.around,
    (c.in_ok-first.ensures.shown, c.requires.right),
  ),
)

pub read_binary-returns-clause-ok : goal.read_binary-returns-clause-ok
read_binary-returns-clause-ok t c =
    let x = c.args.around.now in
    let f = c.args.around.now.flat.now in
    let s = c.read_expr-2.new.store in
    let new = c.combined.new.store in
    let at = c.args.at.now.sites in
    let left = c.in_ok-first.first in
    let right = c.in_ok-second.second in
    map_ok c.combined.result (IsSingle s new (λ v. operated_by s.nodes (variables_of f) at c.as_slice.result.now c.as_slice-2.result.now v c.args.op)) _
    (λ refs single. subst (ReadsTo f c.args.store.now new (Node at (Binary c.args.op (tree_in x c.args.left.now) (tree_in x c.args.right.now)))) (sym single.is)
    (reads_binary f c.args.store.now c.read_expr.new.store s new at c.args.op (tree_in x c.args.left.now) (tree_in x c.args.right.now) left right single.one
    c.in_ok-first.ensures.ok c.in_ok-second.ensures.ok
    (subst (λ (r : List ℕ). Makes s new (λ v. operated_by s.nodes (variables_of f) at left r v c.args.op) single.one) c.as_slice-2.ensures
    (subst (λ (l : List ℕ). Makes s new (λ v. operated_by s.nodes (variables_of f) at l c.as_slice-2.result.now v c.args.op) single.one) c.as_slice.ensures
    single.made))))
    c.combined.ensures.ok

pub read_binary-returns-clause-shown : goal.read_binary-returns-clause-shown
read_binary-returns-clause-shown t c =
    let s = c.read_expr-2.new.store in
    on_ok c.combined.result (IsSingle s c.combined.new.store (λ v. operated_by s.nodes (variables_of c.args.around.now.flat.now) c.args.at.now.sites
    c.as_slice.result.now c.as_slice-2.result.now v c.args.op)) _
    (λ refs made. after_kept c.args.around.now.flat.now s c.combined.new.store c.read_expr-2.new.shown made.made.extends c.in_ok-second.ensures.shown)
    c.combined.ensures.ok

pub read_binary-combined-requires-clause-around : goal.read_binary-combined-requires-clause-around
read_binary-combined-requires-clause-around t c =
    around_kept c.read_expr.new.store c.read_expr-2.new.store c.args.around.now c.in_ok-second.ensures.ok.extends
    (around_kept c.args.store.now c.read_expr.new.store c.args.around.now c.in_ok-first.ensures.ok.extends c.requires.around)

pub read_each-loop-e-preserved : goal.read_each-loop-e-preserved
read_each-loop-e-preserved t c =
    let x = c.args.around.now in
    let f = c.args.around.now.flat.now in
    let es = c.args.expressions.now in
    let i = c.loop-e.e-index in
    let s = c.loop-e.store in
    let new = c.read_expr.new.store in
    let e = c.e-item.result in
    let refs = c.loop-e.refs in
    let bits = c.in_ok-bits.bits in
    let before = c.loop-e.invariant in
    let low : i < length es = c.loop-e-test.true in
    let left : drop i es ≡ e ∷ drop (i + 1) es = drop-cons es i e low ∙ (λ k. sym c.e-item.is k ∷ drop (let z : suc i ≡ i + 1 = omega arith in z k) es) in
    let trees = trees_left x es i e low left in
    let read : ReadsTo f s new (tree_in x e) bits = c.in_ok-bits.ensures.ok in
    let one : c.ref_of.result ≡ ref_at bits 0 = c.ref_of.ensures ∙ ap (λ (l : List ℕ). ref_at l 0) c.as_slice.ensures in
    let pushed : c.push.new.self ≡ refs ++ ref_at bits 0 ∷ [] = c.in_ok-push.ensures.ok ∙ ap (λ r. refs ++ r ∷ []) one in
    record {
      around = around_kept s new x read.extends before.around;
      rest = (subst (AreOver (length x.read.now.on)) trees before.rest).1;
      smaller = let size : size_of (trees_in x (drop i es)) ≡ size_of (More (tree_in x e) (trees_in x (drop (i + 1) es))) = ap size_of trees in
          omega (arith, before.smaller);
      shown = c.in_ok-bits.ensures.shown;
      extends = extends_trans c.args.store.now s new before.extends read.extends;
      found = subst (AreRefs new.nodes) (sym pushed) (refs_more new.nodes refs (ref_at bits 0) (refs_after s new refs read.extends before.found)
          (any_ref new.nodes bits read.are_refs 0));
      fit = λ k all. (fit_more x es i e low left (length (system_of f).flows) k (before.fit k all)).1;
      counted = λ v row k instant all there.
          ap (λ (l : List ℕ). count_true (length l) (bit new.nodes l v) + true_at f v row (trees_in x (drop (i + 1) es))) pushed
          ∙ counted_more x s new es i e refs bits low left before.found read v row k (true_at f v row (trees_in x es)) instant (before.fit k all) there
          (before.counted v row k instant all there);
    }

pub read_each-returns-clause-ok : goal.read_each-returns-clause-ok
read_each-returns-clause-ok t c =
    let x = c.args.around.now in
    let f = c.args.around.now.flat.now in
    let before = c.loop-e.invariant in
    record {
      extends = before.extends;
      are_refs = before.found;
      counts = λ v row k instant all there. none_counted x c.args.expressions.now c.loop-e.e-index v row
          (count_true (length c.loop-e.refs) (bit c.loop-e.store.nodes c.loop-e.refs v)) (omega arith) ∙ before.counted v row k instant all there;
    }

pub read_expr-returns-in-Constant-clause-ok : goal.read_expr-returns-in-Constant-clause-ok
read_expr-returns-in-Constant-clause-ok t c =
    let d = c.args.store.now in
    let e = c.args.e.now in
    both_ok c.constant_bits.result _ _ _
    (λ refs found means. subst (λ (u : FlatTree). ReadsTo c.args.around.now.flat.now d d u refs)
    (sym (tree_constant c.args.around.now e c.in-Constant.constant c.in-Constant.is))
    (reads_constant c.args.around.now.flat.now d e.at.sites c.in-Constant.constant refs found means))
    c.constant_bits.ensures.found c.constant_bits.ensures.means

pub read_expr-returns-in-Memory-clause-ok : goal.read_expr-returns-in-Memory-clause-ok
read_expr-returns-in-Memory-clause-ok t c =
    let f = c.args.around.now.flat.now in
    let d = c.args.store.now in
    let e = c.args.e.now in
    map_ok c.copy_at-in-Memory.result (λ copy. copy ≡ refs_at c.args.around.now.tables.now.kept c.in-Memory.number) _
    (λ refs is. subst (λ (u : FlatTree). ReadsTo f d d u refs) (sym (tree_memory c.args.around.now e c.in-Memory.number c.in-Memory.is))
    (subst (ReadsTo f d d (Node e.at.sites (Memory c.in-Memory.number))) (sym is)
    (reads_memory f d e.at.sites c.in-Memory.number c.args.around.now.tables.now c.requires.around.tables)))
    c.copy_at-in-Memory.ensures.ok

pub read_expr-returns-in-Ticked-clause-ok : goal.read_expr-returns-in-Ticked-clause-ok
read_expr-returns-in-Ticked-clause-ok t c =
    let f = c.args.around.now.flat.now in
    let d = c.args.store.now in
    let e = c.args.e.now in
    map_ok c.bit_at.result (λ one. one ≡ ref_at c.args.around.now.tables.now.ticks c.in-Ticked.number ∷ []) _
    (λ refs is. subst (λ (u : FlatTree). ReadsTo f d d u refs) (sym (tree_ticked c.args.around.now e c.in-Ticked.number c.in-Ticked.is))
    (subst (ReadsTo f d d (Node e.at.sites (Ticked c.in-Ticked.number))) (sym is)
    (reads_tick f d e.at.sites c.in-Ticked.number c.args.around.now.tables.now c.requires.around.tables)))
    c.bit_at.ensures.ok

pub read_expr-returns-in-Not-clause-ok : goal.read_expr-returns-in-Not-clause-ok
read_expr-returns-in-Not-clause-ok t c =
    let x = c.args.around.now in
    let f = c.args.around.now.flat.now in
    let a = c.args.store.now in
    let b = c.read_not.new.store in
    let e = c.args.e.now in
    map_ok c.read_not.result (λ refs. (at : Sites) → ReadsTo f a b (Node at (Not (tree_in x c.deref.result.now))) refs) _
    (λ refs r. subst (λ (u : FlatTree). ReadsTo f a b u refs)
    (ap (λ (o : FlatExpr). Node e.at.sites (Not (tree_in x o))) c.deref.ensures ∙ sym (tree_not x e c.in-Not.operand c.in-Not.is)) (r e.at.sites))
    c.read_not.ensures.ok

pub read_expr-returns-in-If-clause-ok : goal.read_expr-returns-in-If-clause-ok
read_expr-returns-in-If-clause-ok t c =
    let x = c.args.around.now in
    let f = c.args.around.now.flat.now in
    let a = c.args.store.now in
    let b = c.read_if.new.store in
    let e = c.args.e.now in
    map_ok c.read_if.result (λ refs. (at : Sites) → ReadsTo f a b (Node at
    (If (tree_in x c.deref-in-If.result.now) (tree_in x c.deref-in-If-2.result.now) (tree_in x c.deref-in-If-3.result.now))) refs) _
    (λ refs r. subst (λ (u : FlatTree). ReadsTo f a b u refs)
    ((λ i. Node e.at.sites (If (tree_in x (c.deref-in-If.ensures i)) (tree_in x (c.deref-in-If-2.ensures i)) (tree_in x (c.deref-in-If-3.ensures i))))
    ∙ sym (tree_if x e c.in-If.condition c.in-If.first c.in-If.second c.in-If.is)) (r e.at.sites))
    c.read_if.ensures.ok

pub read_expr-returns-in-AtMostOne-clause-ok : goal.read_expr-returns-in-AtMostOne-clause-ok
read_expr-returns-in-AtMostOne-clause-ok t c =
    let x = c.args.around.now in
    let f = c.args.around.now.flat.now in
    let a = c.args.store.now in
    let b = c.read_at_most_one.new.store in
    let e = c.args.e.now in
    map_ok c.read_at_most_one.result (λ refs. (at : Sites) → ReadsTo f a b (Node at (AtMostOne (trees_in x c.as_slice.result.now))) refs) _
    (λ refs r. subst (λ (u : FlatTree). ReadsTo f a b u refs)
    (ap (λ (l : List FlatExpr). Node e.at.sites (AtMostOne (trees_in x l))) c.as_slice.ensures ∙ sym (tree_most x e c.in-AtMostOne.operands c.in-AtMostOne.is))
    (r e.at.sites))
    c.read_at_most_one.ensures.ok

pub read_expr-returns-in-When-clause-ok : goal.read_expr-returns-in-When-clause-ok
read_expr-returns-in-When-clause-ok t c =
    let x = c.args.around.now in
    let f = c.args.around.now.flat.now in
    let a = c.args.store.now in
    let b = c.read_expr.new.store in
    let e = c.args.e.now in
    map_ok c.read_expr.result (ReadsTo f a b (tree_in x c.deref-in-When.result.now)) _
    (λ refs r. subst (λ (u : FlatTree). ReadsTo f a b u refs)
    (ap (λ (o : FlatExpr). Node e.at.sites (When c.in-When.field-0 (tree_in x o))) c.deref-in-When.ensures
    ∙ sym (tree_when x e c.in-When.field-0 c.in-When.operand c.in-When.is))
    (reads_when f a b e.at.sites c.in-When.field-0 (tree_in x c.deref-in-When.result.now) refs r))
    c.read_expr.ensures.ok

pub read_if-read_expr-requires-2 : goal.read_if-read_expr-requires-2
read_if-read_expr-requires-2 t c = (
  omega (arith, c.decreases),
  (
    around_kept c.args.store.now c.read_expr.new.store c.args.around.now c.in_ok-test.ensures.ok.extends c.requires.around,
    (c.in_ok-test.ensures.shown, c.requires.first),
  ),
)

pub read_if-read_expr-requires-3 : goal.read_if-read_expr-requires-3
read_if-read_expr-requires-3 t c = (
  omega (arith, c.decreases),
  (
    around_kept c.read_expr.new.store c.read_expr-2.new.store c.args.around.now c.in_ok-one.ensures.ok.extends
        (around_kept c.args.store.now c.read_expr.new.store c.args.around.now c.in_ok-test.ensures.ok.extends c.requires.around),
    (c.in_ok-one.ensures.shown, c.requires.second),
  ),
)

pub read_if-returns-clause-ok : goal.read_if-returns-clause-ok
read_if-returns-clause-ok t c =
    let x = c.args.around.now in
    let f = c.args.around.now.flat.now in
    let s = c.read_expr-3.new.store in
    let new = c.chosen.new.store in
    let test = c.in_ok-test.test in
    let one = c.in_ok-one.one in
    let other = c.in_ok-other.other in
    map_ok c.chosen.result (Spells s new (λ k v. cond (value_of s.nodes c.ref_of.result v) (bit s.nodes c.as_slice-2.result.now v k)
    (bit s.nodes c.as_slice-3.result.now v k))) _
    (λ refs made at. reads_if f c.args.store.now c.read_expr.new.store c.read_expr-2.new.store s new at (tree_in x c.args.condition.now)
    (tree_in x c.args.first.now) (tree_in x c.args.second.now) test one other refs
    c.in_ok-test.ensures.ok c.in_ok-one.ensures.ok c.in_ok-other.ensures.ok
    (subst (λ r. Spells s new (λ k v. cond (value_of s.nodes r v) (bit s.nodes one v k) (bit s.nodes other v k)) refs)
    (c.ref_of.ensures ∙ ap (λ (l : List ℕ). ref_at l 0) c.as_slice.ensures)
    (subst (λ (l : List ℕ). Spells s new (λ k v. cond (value_of s.nodes c.ref_of.result v) (bit s.nodes one v k) (bit s.nodes l v k)) refs) c.as_slice-3.ensures
    (subst (λ (l : List ℕ). Spells s new (λ k v. cond (value_of s.nodes c.ref_of.result v) (bit s.nodes l v k) (bit s.nodes c.as_slice-3.result.now v k)) refs)
    c.as_slice-2.ensures made))))
    c.chosen.ensures.ok

pub read_if-returns-clause-shown : goal.read_if-returns-clause-shown
read_if-returns-clause-shown t c =
    let s = c.read_expr-3.new.store in
    on_ok c.chosen.result (Spells s c.chosen.new.store (λ k v. cond (value_of s.nodes c.ref_of.result v) (bit s.nodes c.as_slice-2.result.now v k)
    (bit s.nodes c.as_slice-3.result.now v k))) _
    (λ refs made. after_kept c.args.around.now.flat.now s c.chosen.new.store c.read_expr-3.new.shown made.extends c.in_ok-other.ensures.shown)
    c.chosen.ensures.ok

pub read_not-returns-clause-ok : goal.read_not-returns-clause-ok
read_not-returns-clause-ok t c =
    let s = c.read_expr.new.store in
    map_ok c.negated.result (IsSingle s c.negated.new.store (λ v. not (bit s.nodes c.as_slice.result.now v 0))) _
    (λ refs made at. reads_not c.args.around.now.flat.now c.args.store.now s c.negated.new.store at (tree_in c.args.around.now c.args.operand.now)
    c.in_ok-bits.bits refs c.in_ok-bits.ensures.ok
    (subst (λ (l : List ℕ). IsSingle s c.negated.new.store (λ v. not (bit s.nodes l v 0)) refs) c.as_slice.ensures made))
    c.negated.ensures.ok

pub read_not-returns-clause-shown : goal.read_not-returns-clause-shown
read_not-returns-clause-shown t c =
    let s = c.read_expr.new.store in
    on_ok c.negated.result (IsSingle s c.negated.new.store (λ v. not (bit s.nodes c.as_slice.result.now v 0))) _
    (λ refs made. after_kept c.args.around.now.flat.now s c.negated.new.store c.read_expr.new.shown made.made.extends c.in_ok-bits.ensures.shown)
    c.negated.ensures.ok

pub show-returns-in-Some-clause-ok : goal.show-returns-in-Some-clause-ok
show-returns-in-Some-clause-ok t c = record {
  extends = extends_refl c.args.store.now;
  is_after = c.requires.shown.each c.args.number c.in-Some.refs (c.in_ok-refs.ensures c.in-Some.refs c.in-Some.is);
}

pub show-returns-in-None-get-clause-ok : goal.show-returns-in-None-get-clause-ok
show-returns-in-None-get-clause-ok t c = none_after c.args.around.now.flat.now c.args.store.now c.args.number c.new.result c.new.ensures
    (sym c.in-None-get.ensures.value)

pub show_new-after_body-requires-clause-around : goal.show_new-after_body-requires-clause-around
show_new-after_body-requires-clause-around t c = around_kept c.args.store.now c.read_expr.new.store c.args.around.now c.in_ok-body.ensures.ok.extends
    c.requires.around

pub show_new-set-requires : goal.show_new-set-requires
show_new-set-requires t c =
    let low : c.args.number < length c.args.around.now.flat.now.memories = slice_get_within c.args.around.now.flat.now.memories c.args.number c.args.memory.now
    c.requires.memory in
    omega (arith, c.in_ok-body.ensures.shown.size)

pub show_new-returns-clause-ok : goal.show_new-returns-clause-ok
show_new-returns-clause-ok t c =
    let x = c.args.around.now in
    let f = c.args.around.now.flat.now in
    let s = c.read_expr.new.store in
    let m = c.args.number in
    let memory = c.args.memory.now in
    let around = around_kept c.args.store.now s x c.in_ok-body.ensures.ok.extends c.requires.around in
    shows_after f c.args.store.now s c.after_body.new.store m memory.clock (tree_in x memory.body) x.tables.now x.read.now c.in_ok-body.body c.in_ok-after.after
    around.well around.tables around.flows
    (memory_item_at f m memory around.table c.requires.memory) c.requires.clock c.in_ok-body.ensures.ok
    (subst (λ (l : List ℕ). Spells s c.after_body.new.store (λ k v. cond (clock_bit s.nodes x.read.now.on memory.clock v) (bit s.nodes l v k)
    (bit s.nodes (refs_at x.tables.now.kept m) v k)) c.in_ok-after.after)
    c.as_slice.ensures c.in_ok-after.ensures.ok)

pub show_new-returns-clause-shown : goal.show_new-returns-clause-shown
show_new-returns-clause-shown t c =
    let f = c.args.around.now.flat.now in
    let low : c.args.number < length f.memories = slice_get_within f.memories c.args.number c.args.memory.now c.requires.memory in
    let after : ShowsTo f c.args.store.now c.after_body.new.store c.args.number c.in_ok-after.after = show_new-returns-clause-ok t c in
    let same : c.in_ok-copy.copy ≡ c.in_ok-after.after = c.in_ok-copy.ensures ∙ c.as_slice-2.ensures in
    subst (AreAfter f c.after_body.new.store.nodes) (sym c.set.ensures)
    (after_set f c.after_body.new.store.nodes c.read_expr.new.shown c.args.number c.in_ok-copy.copy (omega (arith, c.in_ok-body.ensures.shown.size))
    (after_kept f c.read_expr.new.store c.after_body.new.store c.read_expr.new.shown c.in_ok-after.ensures.ok.extends c.in_ok-body.ensures.shown)
    (subst (λ (l : List ℕ). IsAfter f c.after_body.new.store.nodes c.args.number l) (sym same) after.is_after))
