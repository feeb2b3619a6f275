use Rattle.std.proofs.Common.{◌≡◌, ◌+◌, ◌<◌, ◌∙◌, ◌&&◌, ap, sym, subst, length, arith, true, List, []}
use Rattle.std.proofs.lemmas.List.{get_or_read}
use Rattle.rv_rows.specs.{declared.linear.Form.Form, Forms.CanAdd, Arithmetic.form_sum}
use Rattle.rv_diagram.specs.{Nodes.Valuation, Nodes.value_of, Nodes.IsRef, declared.store.StoreFault.StoreFault}
use Rattle.rv_diagram.proofs.Growing.{extends_refl, extends_trans}
use Rattle.rv_terms.specs.{declared.parted.Part.Part, Parts.no_form, Parts.part_at, Parts.holds, Parts.form_at, Parts.among, Parts.Adds, Parts.term_width}
use Rattle.rv_terms.proofs.Combining.{adds_more, adds_first, adds_all, form_is, form_later, disjoint_later, covers_later, term_made, form_width}
use Rattle.rv_terms.proofs.Summing.{grown_none, grown_step, lacks_step, grown_whole, lacks_whole, step_apart, step_more, step_within}
use Rattle.rv_terms.proofs.{Sums.length-sum, Classes.err_moved}
use Rattle.rv_terms.proofs.calls.sum_in.Goals as goal

pub add_sums-requires-clause-covers : goal.add_sums-requires-clause-covers
add_sums-requires-clause-covers c = covers_later c.args.store.now c.loop-part.store c.args.b.now c.loop-part.invariant.extends c.requires.b.refs
    c.requires.b.covers

pub add_sums-requires-clause-disjoint : goal.add_sums-requires-clause-disjoint
add_sums-requires-clause-disjoint c = disjoint_later c.args.store.now c.loop-part.store c.args.b.now c.loop-part.invariant.extends c.requires.b.refs
    c.requires.b.disjoint

pub add_sums-requires-clause-room : goal.add_sums-requires-clause-room
add_sums-requires-clause-room c v one =
    let low : c.loop-part.part-index < length c.args.a.now = omega arith in
    let is : c.part-item.result ≡ part_at c.args.a.now c.loop-part.part-index = get_or_read c.args.a.now c.loop-part.part-index c.part-item.result low
    c.part-item.is (record { under = 0; form = no_form }) in
    let here : holds c.args.store.now.nodes c.args.a.now c.loop-part.part-index v ≡ true =
    sym (c.loop-part.invariant.extends.kept (part_at c.args.a.now c.loop-part.part-index).under (c.requires.a.refs c.loop-part.part-index low) v)
    ∙ ap (λ (x : Part). value_of c.loop-part.store.nodes x.under v) (sym is) ∙ one in
    subst (λ (f : Form). CanAdd f (form_at c.loop-part.store.nodes c.args.b.now v))
    (form_is c.args.store.now.nodes c.args.a.now c.loop-part.part-index v c.requires.a.disjoint low here ∙ ap (λ (x : Part). x.form) (sym is))
    (subst (λ (f : Form). CanAdd (form_at c.args.store.now.nodes c.args.a.now v) f)
    (sym (form_later c.args.store.now c.loop-part.store c.args.b.now v c.loop-part.invariant.extends c.requires.b.refs)) (c.requires.room v))

pub loop-part-init : goal.loop-part-init
loop-part-init c = record {
  extends = extends_refl c.args.store.now;
  growth = grown_none c.args.store.now (λ v. true && among c.args.store.now.nodes c.args.a.now 0 v);
  refs = λ i low. absurd (omega (arith, ap (λ (l : List Part). length l) c.new-parts.ensures));
  added = subst (λ (l : List Part). Adds c.args.store.now.nodes c.args.store.now.nodes (λ v. true && among c.args.store.now.nodes c.args.a.now 0 v)
      (λ v. form_sum (form_at c.args.store.now.nodes c.args.a.now v) (form_at c.args.store.now.nodes c.args.b.now v)) [] l)
      (sym c.new-parts.ensures)
      (adds_first c.args.store.now.nodes (λ v. true) c.args.a.now
      (λ v. form_sum (form_at c.args.store.now.nodes c.args.a.now v) (form_at c.args.store.now.nodes c.args.b.now v)) []);
}

pub loop-part-preserved : goal.loop-part-preserved
loop-part-preserved c =
    let low : c.loop-part.part-index < length c.args.a.now = omega arith in
    let is : c.part-item.result ≡ part_at c.args.a.now c.loop-part.part-index = get_or_read c.args.a.now c.loop-part.part-index c.part-item.result low
    c.part-item.is (record { under = 0; form = no_form }) in
    let found : IsRef c.args.store.now.nodes (part_at c.args.a.now c.loop-part.part-index).under = c.requires.a.refs c.loop-part.part-index low in
    record {
      extends = extends_trans c.args.store.now c.loop-part.store c.add_sums.new.store c.loop-part.invariant.extends c.in-Ok.ensures.extends;
      growth = grown_step c.args.store.now c.loop-part.store c.add_sums.new.store
          (λ v. true && among c.args.store.now.nodes c.args.a.now c.loop-part.part-index v)
          (λ v. true && holds c.args.store.now.nodes c.args.a.now c.loop-part.part-index v)
          (λ v. true && among c.args.store.now.nodes c.args.a.now (c.loop-part.part-index + 1) v)
          (value_of c.loop-part.store.nodes c.part-item.result.under)
          c.loop-part.invariant.extends.variables (step_apart c.args.store.now.nodes (λ v. true) c.args.a.now c.loop-part.part-index c.requires.a.disjoint low)
          (λ v. ap (λ (x : Part). value_of c.loop-part.store.nodes x.under v) is
          ∙ c.loop-part.invariant.extends.kept (part_at c.args.a.now c.loop-part.part-index).under found v)
          (step_more c.args.store.now.nodes (λ v. true) c.args.a.now c.loop-part.part-index) c.loop-part.invariant.growth c.in-Ok.ensures.growth;
      refs = c.in-Ok.ensures.refs;
      added = adds_more c.args.store.now c.loop-part.store c.add_sums.new.store (λ v. true) (value_of c.loop-part.store.nodes c.part-item.result.under)
          c.args.a.now c.loop-part.part-index (λ v. form_sum c.part-item.result.form (form_at c.loop-part.store.nodes c.args.b.now v))
          (λ v. form_sum (form_at c.args.store.now.nodes c.args.a.now v) (form_at c.args.store.now.nodes c.args.b.now v)) [] c.loop-part.parts
          c.add_sums.new.parts
          low c.requires.a.refs c.requires.a.disjoint c.loop-part.invariant.extends
          (λ v. ap (λ (x : Part). value_of c.loop-part.store.nodes x.under v) is
          ∙ c.loop-part.invariant.extends.kept (part_at c.args.a.now c.loop-part.part-index).under found v)
          (λ v t h. ap (λ (x : Form). form_sum x (form_at c.loop-part.store.nodes c.args.b.now v))
          (ap (λ (x : Part). x.form) is ∙ sym (form_is c.args.store.now.nodes c.args.a.now c.loop-part.part-index v c.requires.a.disjoint low h))
          ∙ ap (λ (x : Form). form_sum (form_at c.args.store.now.nodes c.args.a.now v) x)
          (form_later c.args.store.now c.loop-part.store c.args.b.now v c.loop-part.invariant.extends c.requires.b.refs))
          c.loop-part.invariant.added c.in-Ok.ensures.added;
    }

pub returns-clause-exact : goal.returns-clause-exact
returns-clause-exact c =
    let f : Valuation → Form = λ v. form_sum (form_at c.args.store.now.nodes c.args.a.now v) (form_at c.args.store.now.nodes c.args.b.now v) in
    let wa : (v : Valuation) → length (form_at c.args.store.now.nodes c.args.a.now v).coefficients ≡ term_width c.args.a.now = form_width
    c.args.store.now.nodes (term_width c.args.a.now) c.args.a.now c.requires.a in
    let wb : (v : Valuation) → length (form_at c.args.store.now.nodes c.args.b.now v).coefficients ≡ term_width c.args.a.now = form_width
    c.args.store.now.nodes (term_width c.args.a.now) c.args.b.now c.requires.b in
    term_made c.args.store.now.nodes c.loop-part.store.nodes (term_width c.args.a.now) f c.loop-part.parts
    (λ v. length-sum (form_at c.args.store.now.nodes c.args.a.now v) (form_at c.args.store.now.nodes c.args.b.now v) (wa v ∙ sym (wb v)) ∙ wa v)
    (adds_all c.args.store.now c.loop-part.store.nodes (λ v. true) c.args.a.now c.loop-part.part-index f [] c.loop-part.parts c.requires.a.covers
    (omega arith) c.loop-part.invariant.added)

pub returns-clause-growth : goal.returns-clause-growth
returns-clause-growth c = grown_whole c.args.store.now c.loop-part.store (λ v. true && among c.args.store.now.nodes c.args.a.now c.loop-part.part-index v)
    c.loop-part.invariant.growth

pub returns-in-Err-clause-room : goal.returns-in-Err-clause-room
returns-in-Err-clause-room c h =
    let low : c.loop-part.part-index < length c.args.a.now = omega arith in
    let is : c.part-item.result ≡ part_at c.args.a.now c.loop-part.part-index =
    get_or_read c.args.a.now c.loop-part.part-index c.part-item.result low c.part-item.is (record { under = 0; form = no_form }) in
    let found : IsRef c.args.store.now.nodes (part_at c.args.a.now c.loop-part.part-index).under = c.requires.a.refs c.loop-part.part-index low in
    lacks_whole c.args.store.now (λ v. true) (lacks_step c.args.store.now c.loop-part.store
    (λ v. true && among c.args.store.now.nodes c.args.a.now c.loop-part.part-index v)
    (λ v. true && holds c.args.store.now.nodes c.args.a.now c.loop-part.part-index v)
    (λ v. true && among c.args.store.now.nodes c.args.a.now (c.loop-part.part-index + 1) v)
    (value_of c.loop-part.store.nodes c.part-item.result.under) (λ v. true)
    c.loop-part.invariant.extends.variables c.loop-part.invariant.extends.limit
    (step_apart c.args.store.now.nodes (λ v. true) c.args.a.now c.loop-part.part-index c.requires.a.disjoint low)
    (λ v. ap (λ (x : Part). value_of c.loop-part.store.nodes x.under v) is
    ∙ c.loop-part.invariant.extends.kept (part_at c.args.a.now c.loop-part.part-index).under found v)
    (step_more c.args.store.now.nodes (λ v. true) c.args.a.now c.loop-part.part-index)
    (step_within c.args.store.now.nodes (λ v. true) c.args.a.now (c.loop-part.part-index + 1)) c.loop-part.invariant.growth
    (c.in-Err.ensures.room (err_moved c.in-Err.fault StoreFault.Nodes h)))
