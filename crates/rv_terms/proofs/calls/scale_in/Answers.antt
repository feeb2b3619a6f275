use Rattle.std.proofs.Common.{◌≡◌, ◌<◌, ◌∙◌, ◌&&◌, ⊎_elim, ap, sym, subst, length, ℕ, ℤ, arith, true, []}
use Rattle.std.proofs.{lemmas.List.get_or_read, lemmas.Int.to_z-of_z}
use mir.Val.{to_z, of_z}
use mir.Syntax.{w128}
use Rattle.rv_rows.specs.{declared.linear.Form.Form, Forms.CanScale, Arithmetic.form_times}
use Rattle.rv_diagram.specs.Nodes.{Valuation, value_of}
use Rattle.rv_diagram.proofs.Growing.{extends_refl}
use Rattle.rv_terms.specs.{declared.parted.Part.Part, Parts.no_form, Parts.part_at, Parts.holds, Parts.form_at, Parts.among, Parts.Adds, Parts.term_width}
use Rattle.rv_terms.proofs.Combining.{adds_more, adds_all, form_is, term_made, form_width}
use Rattle.rv_terms.proofs.{Multiples.multiples_differ, Sums.length-multiple}
use Rattle.rv_terms.proofs.calls.scale_in.Goals as goal

pub add_multiple-requires-clause-room : goal.add_multiple-requires-clause-room
add_multiple-requires-clause-room c v one =
    let low : c.loop-part.part-index < length c.args.a.now = omega arith in
    let is : c.part-item.result ≡ part_at c.args.a.now c.loop-part.part-index =
    get_or_read c.args.a.now c.loop-part.part-index c.part-item.result low c.part-item.is (record { under = 0; form = no_form }) in
    let here : holds c.args.store.now.nodes c.args.a.now c.loop-part.part-index v ≡ true =
    ap (λ (x : Part). value_of c.args.store.now.nodes x.under v) (sym is) ∙ one in
    subst (λ (f : Form). CanScale (to_z w128 (of_z w128 c.args.by)) f)
    (form_is c.args.store.now.nodes c.args.a.now c.loop-part.part-index v c.requires.a.disjoint low here ∙ ap (λ (x : Part). x.form) (sym is))
    (subst (λ (z : ℤ). CanScale z (form_at c.args.store.now.nodes c.args.a.now v)) (sym (to_z-of_z w128 c.args.by c.ranges.by)) (c.requires.room v))

pub add_multiple-requires-clause-fresh : goal.add_multiple-requires-clause-fresh
add_multiple-requires-clause-fresh c j lt same =
    let low : c.loop-part.part-index < length c.args.a.now = omega arith in
    let is : c.part-item.result ≡ part_at c.args.a.now c.loop-part.part-index =
    get_or_read c.args.a.now c.loop-part.part-index c.part-item.result low c.part-item.is (record { under = 0; form = no_form }) in
    let by : ℤ = to_z w128 (of_z w128 c.args.by) in
    let k : (k : ℕ) × (k < c.loop-part.part-index) × ((part_at c.loop-part.parts j).form ≡ form_times by (part_at c.args.a.now k).form) =
    c.loop-part.invariant.forms j lt in
    c.requires.a.different k.0 c.loop-part.part-index k.1 low
    (multiples_differ by (part_at c.args.a.now k.0).form (part_at c.args.a.now c.loop-part.part-index).form
    (λ e. c.requires.some (sym (to_z-of_z w128 c.args.by c.ranges.by) ∙ e))
    (sym k.2 ∙ same ∙ ap (λ (x : Part). form_times by x.form) is))

pub loop-part-preserved : goal.loop-part-preserved
loop-part-preserved c =
    let low : c.loop-part.part-index < length c.args.a.now = omega arith in
    let is : c.part-item.result ≡ part_at c.args.a.now c.loop-part.part-index =
    get_or_read c.args.a.now c.loop-part.part-index c.part-item.result low c.part-item.is (record { under = 0; form = no_form }) in
    let by : ℤ = to_z w128 (of_z w128 c.args.by) in
    record {
      forms = λ j lt. ⊎_elim
          (λ old. let k : (k : ℕ) × (k < c.loop-part.part-index) × ((part_at c.loop-part.parts j).form ≡ form_times by (part_at c.args.a.now k).form) =
          c.loop-part.invariant.forms j old.0 in (k.0, omega (arith, k.1), ap (λ (x : Part). x.form) old.1 ∙ k.2))
          (λ new. (c.loop-part.part-index, omega arith, new ∙ ap (λ (x : Part). form_times by x.form) is))
          (c.in_ok-add_multiple.ensures.forms j lt);
      added = adds_more c.args.store.now c.args.store.now c.args.store.now (λ v. true) (value_of c.args.store.now.nodes c.part-item.result.under)
          c.args.a.now c.loop-part.part-index (λ v. form_times by c.part-item.result.form)
          (λ v. form_times by (form_at c.args.store.now.nodes c.args.a.now v)) [] c.loop-part.parts c.add_multiple.new.parts
          low c.requires.a.refs c.requires.a.disjoint (extends_refl c.args.store.now)
          (λ v. ap (λ (x : Part). value_of c.args.store.now.nodes x.under v) is)
          (λ v t h. ap (λ (x : Form). form_times by x) (ap (λ (x : Part). x.form) is
          ∙ sym (form_is c.args.store.now.nodes c.args.a.now c.loop-part.part-index v c.requires.a.disjoint low h)))
          c.loop-part.invariant.added c.in_ok-add_multiple.ensures.added;
    }

pub returns-clause-exact : goal.returns-clause-exact
returns-clause-exact c =
    let f : Valuation → Form = λ v. form_times c.args.by (form_at c.args.store.now.nodes c.args.a.now v) in
    term_made c.args.store.now.nodes c.args.store.now.nodes (term_width c.args.a.now) f c.loop-part.parts
    (λ v. length-multiple c.args.by (form_at c.args.store.now.nodes c.args.a.now v)
    ∙ form_width c.args.store.now.nodes (term_width c.args.a.now) c.args.a.now c.requires.a v)
    (adds_all c.args.store.now c.args.store.now.nodes (λ v. true) c.args.a.now c.loop-part.part-index f [] c.loop-part.parts c.requires.a.covers (omega arith)
    (subst (λ (z : ℤ). Adds c.args.store.now.nodes c.args.store.now.nodes (λ v. true && among c.args.store.now.nodes c.args.a.now c.loop-part.part-index v)
    (λ v. form_times z (form_at c.args.store.now.nodes c.args.a.now v)) [] c.loop-part.parts) (to_z-of_z w128 c.args.by c.ranges.by)
    c.loop-part.invariant.added))
