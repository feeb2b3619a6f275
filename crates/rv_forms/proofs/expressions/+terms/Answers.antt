use Rattle.std.proofs.Common.{◌≡◌, ◌∙◌, ℕ, ℤ, cond, true, ◌&&◌, List, [], length, ap, subst, sym, arith, rules, to_z, of_z, FitsSigned}
use Rattle.std.proofs.{lemmas.Bool.and_parts, lemmas.Int.to_z-of_z, lemmas.List.length-map}
use Rattle.std.specs.{Prelude.nat_abs, Prelude.nat_le, Int.w128}
use Rattle.rv_base.specs.Limits.{heaviest}
use Rattle.rv_rows.specs.Forms.{CanScale}
use Rattle.rv_diagram.specs.{Nodes.Diagrams, Nodes.value_of, Several.ref_at}
use Rattle.rv_diagram.specs.Growing.{Extends}
use Rattle.rv_diagram.proofs.Growing.{extends_refl, extends_trans, grows_extends}
use Rattle.rv_terms.specs.{declared.parted.Part.Part, Parts.form_at, Parts.IsTerm}
use Rattle.rv_agreement.specs.{Agreement.IsNamed, Trees.FlatTree, Trees.Node, Trees.Binary, Trees.Scale, Trees.If, Trees.When, Trees.Item}
use Rattle.rv_flat.specs.{declared.parts.FlatExpr.FlatExpr, Facts.is_light, Inlined.size, Inlined.table_of, Systems.kept_of, Tame.IsOver}
use Rattle.rv_control.proofs.Weighed.{light_weight}
use Rattle.rv_symbolic.proofs.Extending.{map_ok}
use Rattle.rv_bits.specs.{Reads.tree_in, Shown.clock_bit}
use Rattle.rv_bits.proofs.{Keeping.memory_item_at, Keeping.both_ok, Keeping.on_ok, Making.any_ref, Trees.tree_if, Trees.tree_when, Fitting.named_more}
use Rattle.rv_forms.specs.Terms.{columns_of, weights_of, weight_in, parts_at, IsWithin, GivesTerm, ReadsAs, IsAfterAs, AreKnown, IsAfterRead}
use Rattle.rv_forms.proofs.Steps.{constant_step, flow_step, memory_step, input_step, tick_step, not_step, most_step, operator_step, zero_here, few_read}
use Rattle.rv_forms.proofs.Steps.{low_kept, light_within, made_term, multiple_as, ok_with, on_map}
use Rattle.rv_forms.proofs.{Bounds.form_bounded, Bounds.can_scale, Bounds.light_parts, Flowing.past_list, Kept.width_first, Kept.own_width, Kept.within_kept}
use Rattle.rv_forms.proofs.{Kept.ready_kept, Kept.ready_shown, Kept.ready_known, Kept.known_set, Shapes.over_more, Shapes.tree_binary, Shapes.tree_scale}
use Rattle.rv_forms.proofs.{Showing.reads_when, Showing.reads_if, Showing.reads_binary, Showing.reads_scale, Showing.reads_after, Showing.none_after}
use Rattle.rv_forms.proofs.expressions.+terms.Goals as goal

-- LEAVES

pub term_of-returns-in-Constant-clause-ok : goal.term_of-returns-in-Constant-clause-ok
term_of-returns-in-Constant-clause-ok t c =
    map_ok c.constant_term.result _ _
    (λ u made. constant_step c.args.around.now c.args.wholes.now c.args.store.now c.args.shown.now c.args.known.now c.args.e.now u.parts c.requires.ready
    c.in-Constant.constant c.in-Constant.is made)
    c.constant_term.ensures.exact

pub term_of-returns-in-Flow-clause-ok : goal.term_of-returns-in-Flow-clause-ok
term_of-returns-in-Flow-clause-ok t c =
    map_ok c.term_at.result _ _
    (λ u found. flow_step c.args.around.now c.args.wholes.now c.args.store.now c.args.shown.now c.args.known.now c.args.e.now u.parts c.requires.ready
    c.in-Flow.number c.in-Flow.is c.requires.over found)
    c.term_at.ensures.found

pub term_of-returns-in-Ticked-clause-ok : goal.term_of-returns-in-Ticked-clause-ok
term_of-returns-in-Ticked-clause-ok t c =
    map_ok c.zero_term.result _ _
    (λ u made. tick_step c.args.around.now c.args.wholes.now c.args.store.now c.args.shown.now c.args.known.now c.args.e.now u.parts c.requires.ready
    c.in-Ticked.field-0 c.in-Ticked.is made)
    c.zero_term.ensures.exact

pub term_of-returns-in-Not-clause-ok : goal.term_of-returns-in-Not-clause-ok
term_of-returns-in-Not-clause-ok t c =
    map_ok c.zero_term-in-Not.result _ _
    (λ u made. not_step c.args.around.now c.args.wholes.now c.args.store.now c.args.shown.now c.args.known.now c.args.e.now u.parts c.requires.ready
    c.in-Not.field-0 c.in-Not.is made)
    c.zero_term-in-Not.ensures.exact

pub term_of-returns-in-AtMostOne-clause-ok : goal.term_of-returns-in-AtMostOne-clause-ok
term_of-returns-in-AtMostOne-clause-ok t c =
    map_ok c.zero_term-in-AtMostOne.result _ _
    (λ u made. most_step c.args.around.now c.args.wholes.now c.args.store.now c.args.shown.now c.args.known.now c.args.e.now u.parts c.requires.ready
    c.in-AtMostOne.field-0 c.in-AtMostOne.is made)
    c.zero_term-in-AtMostOne.ensures.exact

pub term_of-returns-in-Memory-clause-ok : goal.term_of-returns-in-Memory-clause-ok
term_of-returns-in-Memory-clause-ok t c =
    both_ok c.term_at-in-Memory.result _ _ _
    (λ u found past. memory_step c.args.around.now c.args.wholes.now c.args.store.now c.args.shown.now c.args.known.now c.args.e.now u.parts c.requires.ready
    c.in-Memory.number c.in-Memory.is found past)
    c.term_at-in-Memory.ensures.found c.term_at-in-Memory.ensures.past

pub term_of-returns-in-Input-clause-ok : goal.term_of-returns-in-Input-clause-ok
term_of-returns-in-Input-clause-ok t c =
    both_ok c.term_at-in-Input.result _ _ _
    (λ u found past. input_step c.args.around.now c.args.wholes.now c.args.store.now c.args.shown.now c.args.known.now c.args.e.now u.parts c.requires.ready
    c.in-Input.number c.in-Input.is found past)
    c.term_at-in-Input.ensures.found c.term_at-in-Input.ensures.past

-- OPERANDS

pub term_of-returns-in-Binary-clause-ok : goal.term_of-returns-in-Binary-clause-ok
term_of-returns-in-Binary-clause-ok t c =
    let x = c.args.around.now in
    let f = x.flat.now in
    let a = c.args.store.now in
    let b = c.binary_term.new.store in
    let e = c.args.e.now in
    map_ok c.binary_term.result _ _
    (λ u r. subst (λ (s : FlatTree). ReadsAs f a b s u.parts)
    ((λ i. Node e.at.sites (Binary c.in-Binary.op (tree_in x (c.deref.ensures i)) (tree_in x (c.deref-in-Binary.ensures i))))
    ∙ sym (tree_binary x e c.in-Binary.op c.in-Binary.left c.in-Binary.right c.in-Binary.is)) (r e.at.sites))
    c.binary_term.ensures.ok

pub term_of-returns-in-Scale-clause-ok : goal.term_of-returns-in-Scale-clause-ok
term_of-returns-in-Scale-clause-ok t c =
    let x = c.args.around.now in
    let f = x.flat.now in
    let a = c.args.store.now in
    let b = c.scaled_term.new.store in
    let e = c.args.e.now in
    let fits : FitsSigned w128 c.in-Scale.by = search rules in
    map_ok c.scaled_term.result _ _
    (λ u r. subst (λ (s : FlatTree). ReadsAs f a b s u.parts)
    ((λ i. Node e.at.sites (Scale (to_z-of_z w128 c.in-Scale.by fits i) (tree_in x (c.deref-in-Scale.ensures i))))
    ∙ sym (tree_scale x e c.in-Scale.by c.in-Scale.operand c.in-Scale.is)) (r e.at.sites))
    c.scaled_term.ensures.ok

pub term_of-returns-in-If-clause-ok : goal.term_of-returns-in-If-clause-ok
term_of-returns-in-If-clause-ok t c =
    let x = c.args.around.now in
    let f = x.flat.now in
    let a = c.args.store.now in
    let b = c.chosen_term.new.store in
    let e = c.args.e.now in
    map_ok c.chosen_term.result _ _
    (λ u r. subst (λ (s : FlatTree). ReadsAs f a b s u.parts)
    ((λ i. Node e.at.sites (If (tree_in x (c.deref-in-If.ensures i)) (tree_in x (c.deref-in-If-2.ensures i)) (tree_in x (c.deref-in-If-3.ensures i))))
    ∙ sym (tree_if x e c.in-If.condition c.in-If.first c.in-If.second c.in-If.is)) (r e.at.sites))
    c.chosen_term.ensures.ok

pub term_of-returns-in-When-clause-ok : goal.term_of-returns-in-When-clause-ok
term_of-returns-in-When-clause-ok t c =
    let x = c.args.around.now in
    let f = x.flat.now in
    let a = c.args.store.now in
    let b = c.term_of.new.store in
    let e = c.args.e.now in
    map_ok c.term_of.result _ _
    (λ u r. subst (λ (s : FlatTree). ReadsAs f a b s u.parts)
    (ap (λ (o : FlatExpr). Node e.at.sites (When c.in-When.field-0 (tree_in x o))) c.deref-in-When.ensures
    ∙ sym (tree_when x e c.in-When.field-0 c.in-When.operand c.in-When.is))
    (reads_when f a b e.at.sites c.in-When.field-0 (tree_in x c.deref-in-When.result.now) u.parts r))
    c.term_of.ensures.ok

-- OPERATORS

pub binary_term-returns-then-not-is_sum-clause-ok : goal.binary_term-returns-then-not-is_sum-clause-ok
binary_term-returns-then-not-is_sum-clause-ok t c =
    map_ok c.zero_term.result _ _
    (λ u made. operator_step c.args.around.now c.args.wholes.now c.args.store.now c.args.shown.now c.args.known.now c.args.op c.args.left.now c.args.right.now
    u.parts c.requires.ready (sym c.is_sum.ensures ∙ c.if-not-is_sum.true) made)
    c.zero_term.ensures.exact

pub binary_term-term_of-requires : goal.binary_term-term_of-requires
binary_term-term_of-requires t c =
    let ws = weights_of c.args.around.now.flat.now in
    let x = c.args.around.now in
    let a = tree_in x c.args.left.now in
    let b = tree_in x c.args.right.now in (
      omega (arith, c.decreases),
      (
        c.requires.ready,
        (
          c.requires.over_left,
          (and_parts (is_light ws a) (is_light ws b)
              (light_parts ws [] (Binary c.args.op a b) (c.requires.light []))).0,
        ),
      ),
    )

pub binary_term-term_of-requires-2 : goal.binary_term-term_of-requires-2
binary_term-term_of-requires-2 t c =
    let ws = weights_of c.args.around.now.flat.now in
    let x = c.args.around.now in
    let a = tree_in x c.args.left.now in
    let b = tree_in x c.args.right.now in (
      omega (arith, c.decreases),
      (
        c.in_ok-first.ensures.ready,
        (c.requires.over_right, (and_parts (is_light ws a) (is_light ws b) (light_parts ws [] (Binary c.args.op a b) (c.requires.light []))).1),
      ),
    )

pub binary_term-combined-requires : goal.binary_term-combined-requires
binary_term-combined-requires t c =
    let x = c.args.around.now in
    let f = x.flat.now in
    let ws = weights_of f in
    let b = c.term_of.new.store in
    let d = c.term_of-2.new.store in
    let left = tree_in x c.args.left.now in
    let right = tree_in x c.args.right.now in
    let light = and_parts (is_light ws left) (is_light ws right) (light_parts ws [] (Binary c.args.op left right) (c.requires.light [])) in
    record {
      terms = (
        columns_of f,
        within_kept b d (columns_of f) heaviest c.in_ok-first.first.parts c.in_ok-second.ensures.ok.extends
            (light_within x b left c.in_ok-first.first.parts light.0 c.in_ok-first.ensures.ok.within),
        light_within x d right c.in_ok-second.second.parts light.1 c.in_ok-second.ensures.ok.within,
      );
    }

pub binary_term-returns-clause-ok : goal.binary_term-returns-clause-ok
binary_term-returns-clause-ok t c =
    let x = c.args.around.now in
    let f = x.flat.now in
    let b = c.term_of.new.store in
    let d = c.term_of-2.new.store in
    let left = tree_in x c.args.left.now in
    let right = tree_in x c.args.right.now in
    let first = c.in_ok-first.ensures.ok in
    let second = c.in_ok-second.ensures.ok in
    let is_first = (within_kept b d (columns_of f) (weight_in f left) c.in_ok-first.first.parts second.extends first.within).term in
    map_ok c.combined.result _ _
    (λ u made at. reads_binary f c.args.store.now b d c.combined.new.store at c.args.op left right c.in_ok-first.first.parts c.in_ok-second.second.parts u.parts
    first second (sym c.is_sum.ensures ∙ c.if-not-is_sum.false) (made (columns_of f) is_first))
    c.combined.ensures.ok

pub binary_term-returns-clause-ready : goal.binary_term-returns-clause-ready
binary_term-returns-clause-ready t c =
    let x = c.args.around.now in
    let f = x.flat.now in
    let b = c.term_of.new.store in
    let d = c.term_of-2.new.store in
    let left = tree_in x c.args.left.now in
    let is_first = (within_kept b d (columns_of f) (weight_in f left) c.in_ok-first.first.parts c.in_ok-second.ensures.ok.extends
    c.in_ok-first.ensures.ok.within).term in
    on_ok c.combined.result _ _
    (λ u made. ready_kept d c.combined.new.store x c.args.wholes.now c.term_of-2.new.shown c.term_of-2.new.known (made (columns_of f) is_first).extends
    c.in_ok-second.ensures.ready)
    c.combined.ensures.ok

pub scaled_term-term_of-requires : goal.scaled_term-term_of-requires
scaled_term-term_of-requires t c =
    let x = c.args.around.now in
    let ws = weights_of x.flat.now in
    let e = tree_in x c.args.operand.now in (
      omega (arith, c.decreases),
      (
        c.requires.ready,
        (c.requires.over, (and_parts (nat_le (nat_abs c.args.by) heaviest) (is_light ws e) (light_parts ws [] (Scale c.args.by e) (c.requires.light []))).1),
      ),
    )

pub scaled_term-scale-requires-clause-room : goal.scaled_term-scale-requires-clause-room
scaled_term-scale-requires-clause-room t c v =
    let x = c.args.around.now in
    let f = x.flat.now in
    let d = c.term_of.new.store in
    let e = tree_in x c.args.operand.now in
    let whole = c.in_ok-whole.whole.parts in
    subst (λ (z : ℤ). CanScale z (form_at d.nodes whole v)) (sym (to_z-of_z w128 c.args.by c.ranges.by))
    (can_scale (columns_of f) (weight_in f e) c.args.by (form_at d.nodes whole v)
    (light_weight (weights_of f) (Node [] (Scale c.args.by e)) (c.requires.light []))
    (form_bounded d.nodes (columns_of f) (weight_in f e) whole c.in_ok-whole.ensures.ok.within v))

pub scaled_term-returns-clause-ok : goal.scaled_term-returns-clause-ok
scaled_term-returns-clause-ok t c =
    let x = c.args.around.now in
    let f = x.flat.now in
    let a = c.args.store.now in
    let d = c.term_of.new.store in
    let e = tree_in x c.args.operand.now in
    let whole = c.in_ok-whole.whole.parts in
    map_ok c.scale.result _ _
    (λ u made at. subst (λ (s : Diagrams). ReadsAs f a s (Node at (Scale c.args.by e)) u.parts) (sym c.scale.ensures.same)
    (reads_scale f a d at c.args.by e whole u.parts c.in_ok-whole.ensures.ok
    (multiple_as d.nodes _ (columns_of f) (to_z w128 (of_z w128 c.args.by)) c.args.by whole u.parts
    (width_first d.nodes (columns_of f) whole c.in_ok-whole.ensures.ok.within.term) (to_z-of_z w128 c.args.by c.ranges.by) made)))
    c.scale.ensures.exact

-- CHOICES

pub chosen_term-read_expr-requires-clause-over : goal.chosen_term-read_expr-requires-clause-over
chosen_term-read_expr-requires-clause-over t c =
    let x = c.args.around.now in
    let w = c.args.wholes.now in
    over_more (length w.flows) (length x.read.now.on) (few_read x w c.args.store.now c.args.shown.now c.args.known.now c.requires.ready)
    (tree_in x c.args.condition.now) (c.requires.over []).0

pub chosen_term-term_of-requires : goal.chosen_term-term_of-requires
chosen_term-term_of-requires t c =
    let x = c.args.around.now in
    let ws = weights_of x.flat.now in
    let e = tree_in x c.args.condition.now in
    let g = tree_in x c.args.first.now in
    let i = tree_in x c.args.second.now in
    let light = and_parts (is_light ws e) (is_light ws g && is_light ws i) (light_parts ws [] (If e g i) (c.requires.light [])) in (
      omega (arith, c.decreases),
      (
        ready_shown c.args.store.now c.read_expr.new.store x c.args.wholes.now c.args.shown.now c.read_expr.new.shown c.args.known.now
            c.in_ok-test.ensures.ok.extends c.requires.ready c.in_ok-test.ensures.shown,
        ((c.requires.over []).1.0, (and_parts (is_light ws g) (is_light ws i) light.1).0),
      ),
    )

pub chosen_term-term_of-requires-2 : goal.chosen_term-term_of-requires-2
chosen_term-term_of-requires-2 t c =
    let x = c.args.around.now in
    let ws = weights_of x.flat.now in
    let e = tree_in x c.args.condition.now in
    let g = tree_in x c.args.first.now in
    let i = tree_in x c.args.second.now in
    let light = and_parts (is_light ws e) (is_light ws g && is_light ws i) (light_parts ws [] (If e g i) (c.requires.light [])) in (
      omega (arith, c.decreases),
      (c.in_ok-one.ensures.ready, ((c.requires.over []).1.1, (and_parts (is_light ws g) (is_light ws i) light.1).1)),
    )

pub chosen_term-choose-requires-clause-yes : goal.chosen_term-choose-requires-clause-yes
chosen_term-choose-requires-clause-yes t c =
    let x = c.args.around.now in
    let f = x.flat.now in
    let b = c.term_of.new.store in
    let d = c.term_of-2.new.store in
    let one = c.in_ok-one.one.parts in
    own_width d.nodes (columns_of f) one
    (within_kept b d (columns_of f) (weight_in f (tree_in x c.args.first.now)) one c.in_ok-other.ensures.ok.extends c.in_ok-one.ensures.ok.within).term

pub chosen_term-choose-requires-clause-no : goal.chosen_term-choose-requires-clause-no
chosen_term-choose-requires-clause-no t c =
    let x = c.args.around.now in
    let f = x.flat.now in
    let b = c.term_of.new.store in
    let d = c.term_of-2.new.store in
    let one = c.in_ok-one.one.parts in
    let is_one = (within_kept b d (columns_of f) (weight_in f (tree_in x c.args.first.now)) one c.in_ok-other.ensures.ok.extends
    c.in_ok-one.ensures.ok.within).term in
    subst (λ n. IsTerm d.nodes n c.in_ok-other.other.parts) (sym (width_first d.nodes (columns_of f) one is_one)) c.in_ok-other.ensures.ok.within.term

pub chosen_term-returns-clause-ok : goal.chosen_term-returns-clause-ok
chosen_term-returns-clause-ok t c =
    let x = c.args.around.now in
    let f = x.flat.now in
    let a = c.args.store.now in
    let b = c.read_expr.new.store in
    let s = c.term_of.new.store in
    let d = c.term_of-2.new.store in
    let new = c.choose.new.store in
    let test = c.in_ok-test.test in
    let one = c.in_ok-one.one.parts in
    let other = c.in_ok-other.other.parts in
    let first = c.in_ok-one.ensures.ok in
    let second = c.in_ok-other.ensures.ok in
    let is_one = (within_kept s d (columns_of f) (weight_in f (tree_in x c.args.first.now)) one second.extends first.within).term in
    let ref_is : c.ref_of.result ≡ ref_at test 0 = c.ref_of.ensures ∙ ap (λ (l : List ℕ). ref_at l 0) c.as_slice.ensures in
    ok_with c.choose.result _ _ _
    (λ u made grows at. reads_if f a b s d new at (tree_in x c.args.condition.now) (tree_in x c.args.first.now) (tree_in x c.args.second.now) test one other
    u.parts
    c.in_ok-test.ensures.ok first second
    (made_term d new _ (columns_of f) (λ v. cond (value_of d.nodes c.ref_of.result v) (form_at d.nodes one v) (form_at d.nodes other v))
    (λ v. cond (value_of d.nodes (ref_at test 0) v) (form_at d.nodes one v) (form_at d.nodes other v)) u.parts grows made
    (width_first d.nodes (columns_of f) one is_one)
    (λ v. ap (λ r. cond (value_of d.nodes r v) (form_at d.nodes one v) (form_at d.nodes other v)) ref_is))
    (λ v. (extends_trans b s d first.extends second.extends).kept (ref_at test 0) (any_ref b.nodes test c.in_ok-test.ensures.ok.are_refs 0) v))
    c.choose.ensures.exact c.choose.ensures.grows

pub chosen_term-returns-clause-ready : goal.chosen_term-returns-clause-ready
chosen_term-returns-clause-ready t c =
    let x = c.args.around.now in
    let d = c.term_of-2.new.store in
    on_map c.choose.result _ _
    (λ grows. ready_kept d c.choose.new.store x c.args.wholes.now c.term_of-2.new.shown c.term_of-2.new.known (grows_extends d c.choose.new.store grows)
    c.in_ok-other.ensures.ready)
    c.choose.ensures.grows

-- MEMORIES

pub after_term-after_new-requires : goal.after_term-after_new-requires
after_term-after_new-requires t c =
    let x = c.args.around.now in
    let m = c.args.number in
    let n = length c.args.wholes.now.flows in
    let memory = c.in-Some-get.memory.now in
    let got = sym c.in-Some-get.ensures.value in
    let table : table_of x.flat.now.memories m ≡ record { clock = memory.clock; body = tree_in x memory.body } = c.requires.ready.around.table m memory got in
    let long : size (table_of x.flat.now.memories m).body ≡ size (tree_in x memory.body) = ap (λ (y : Item). size y.body) table in (
      omega (arith, c.decreases, long),
      (
        c.requires.ready,
        (
          got,
          (
            subst (λ (y : Item). IsNamed n y.clock) table c.requires.clock,
            (
              subst (λ (y : Item). IsOver n y.body) table c.requires.over,
              subst (λ (y : Item). is_light (weights_of x.flat.now) y.body ≡ true) table c.requires.light,
            ),
          ),
        ),
      ),
    )

pub after_term-returns-in-Some-clause-ok : goal.after_term-returns-in-Some-clause-ok
after_term-returns-in-Some-clause-ok t c =
    let f = c.args.around.now.flat.now in
    let d = c.args.store.now in
    let one = c.in_ok-term.ensures c.in-Some.term c.in-Some.is in
    record {
      extends = extends_refl d;
      is_after = subst (λ (p : List Part). IsAfterAs f d.nodes c.args.number p) (sym one.2) (c.requires.ready.in_terms.each c.args.number one.0 one.1);
    }

pub after_term-returns-in-None-get-clause-ok : goal.after_term-returns-in-None-get-clause-ok
after_term-returns-in-None-get-clause-ok t c =
    let x = c.args.around.now in
    let f = x.flat.now in
    let d = c.args.store.now in
    let past = past_list f.memories c.args.number (sym c.in-None-get.ensures.value) in
    let many = length-map f.memories (kept_of f.memories) in
    map_ok c.zero_term.result _ _
    (λ u made. none_after f d c.args.number u.parts (omega (arith, past, many)) (zero_here x c.args.wholes.now d u.parts c.requires.ready.wholes made))
    c.zero_term.ensures.exact

pub after_new-there_or-requires-clause-terms : goal.after_new-there_or-requires-clause-terms
after_new-there_or-requires-clause-terms t c =
    let x = c.args.around.now in
    let f = x.flat.now in
    let w = c.args.wholes.now in
    let d = c.term_of.new.store in
    let ready = c.in_ok-body.ensures.ready in
    let low = (low_kept x w d c.term_of.new.shown c.term_of.new.known c.args.number c.args.memory.now ready c.requires.memory).0 in (
      columns_of f,
      weight_in f (tree_in x c.args.memory.now.body),
      1,
      c.in_ok-body.ensures.ok.within,
      subst (λ (p : List Part). IsWithin d.nodes (columns_of f) 1 p) (sym (c.in_ok-kept.ensures.found low)) (ready.wholes.kept c.args.number low),
    )

pub after_new-set-requires : goal.after_new-set-requires
after_new-set-requires t c =
    (low_kept c.args.around.now c.args.wholes.now c.term_of.new.store c.term_of.new.shown c.term_of.new.known c.args.number c.args.memory.now
    c.in_ok-body.ensures.ready c.requires.memory).1

pub after_new-returns-clause-ok : goal.after_new-returns-clause-ok
after_new-returns-clause-ok t c =
    let x = c.args.around.now in
    let f = x.flat.now in
    let w = c.args.wholes.now in
    let r = x.read.now in
    let d = c.term_of.new.store in
    let new = c.there_or.new.store in
    let m = c.args.number in
    let memory = c.args.memory.now in
    let ready = c.in_ok-body.ensures.ready in
    let low = (low_kept x w d c.term_of.new.shown c.term_of.new.known m memory ready c.requires.memory).0 in
    let found = c.in_ok-kept.ensures.found low in
    let body = c.in_ok-body.body.parts in
    let after = c.in_ok-after.after.parts in
    let kept = ready.wholes.kept m low in
    let is_kept = subst (λ (p : List Part). IsTerm d.nodes (columns_of f) p) (sym found) kept.term in
    let made : GivesTerm d new (columns_of f)
    (λ v. cond (clock_bit d.nodes r.on memory.clock v) (form_at d.nodes body v) (form_at d.nodes (parts_at w.kept m) v)) after =
    subst (λ (l : List ℕ). GivesTerm d new (columns_of f)
    (λ v. cond (clock_bit d.nodes l memory.clock v) (form_at d.nodes body v) (form_at d.nodes (parts_at w.kept m) v)) after) c.as_slice-on.ensures
    (subst (λ (p : List Part). GivesTerm d new (columns_of f)
    (λ v. cond (clock_bit d.nodes c.as_slice-on.result.now memory.clock v) (form_at d.nodes body v) (form_at d.nodes p v)) after) found
    (c.in_ok-after.ensures.ok (columns_of f) is_kept)) in
    reads_after f c.args.store.now d new m memory.clock (tree_in x memory.body) x.tables.now r w body after ready.around.well ready.around.tables
    ready.around.flows
    ready.wholes low (ready.around.table m memory c.requires.memory) (memory_item_at f m memory ready.around.table c.requires.memory)
    (named_more (length w.flows) (length r.on) (few_read x w d c.term_of.new.shown c.term_of.new.known ready) memory.clock c.requires.clock)
    c.in_ok-body.ensures.ok made

pub after_new-returns-clause-ready : goal.after_new-returns-clause-ready
after_new-returns-clause-ready t c =
    let x = c.args.around.now in
    let f = x.flat.now in
    let w = c.args.wholes.now in
    let d = c.term_of.new.store in
    let new = c.there_or.new.store in
    let m = c.args.number in
    let ready = c.in_ok-body.ensures.ready in
    let low = (low_kept x w d c.term_of.new.shown c.term_of.new.known m c.args.memory.now ready c.requires.memory) in
    let found = c.in_ok-kept.ensures.found low.0 in
    let kept = ready.wholes.kept m low.0 in
    let is_kept = subst (λ (p : List Part). IsTerm d.nodes (columns_of f) p) (sym found) kept.term in
    let longer : Extends d new = (c.in_ok-after.ensures.ok (columns_of f) is_kept).extends in
    let after : IsAfterRead f c.args.store.now new m c.in_ok-after.after.parts = after_new-returns-clause-ok t c in
    let all = ready_kept d new x w c.term_of.new.shown c.term_of.new.known longer ready in
    ready_known new x w c.term_of.new.shown c.term_of.new.known c.set.new.self all
    (subst (AreKnown f new.nodes) (sym c.set.ensures)
    (known_set f new.nodes c.term_of.new.known m c.in_ok-copy.copy low.1 all.in_terms
    (subst (λ (p : List Part). IsAfterAs f new.nodes m p) (sym c.in_ok-copy.ensures) after.is_after)))
