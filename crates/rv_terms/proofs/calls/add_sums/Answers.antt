use Rattle.std.proofs.Common.{◌≡◌, ◌+◌, ◌<◌, ◌∙◌, ◌&&◌, ap, sym, subst, length, arith, true}
use Rattle.std.proofs.lemmas.List.{get_or_read}
use Rattle.rv_rows.specs.{declared.linear.Form.Form, Forms.CanAdd, Arithmetic.form_sum}
use Rattle.rv_diagram.specs.{Nodes.value_of, Nodes.IsRef, declared.store.StoreFault.StoreFault}
use Rattle.rv_diagram.proofs.Growing.{extends_refl, extends_trans}
use Rattle.rv_terms.specs.{declared.parted.Part.Part, Parts.no_form, Parts.part_at, Parts.holds, Parts.form_at, Parts.among}
use Rattle.rv_terms.proofs.Combining.{adds_more, adds_first, adds_all, form_is}
use Rattle.rv_terms.proofs.Summing.{grown_none, grown_step, lacks_step, grown_within, step_apart, step_more, step_within}
use Rattle.rv_terms.proofs.Classes.{err_moved}
use Rattle.rv_terms.proofs.calls.add_sums.Goals as goal

pub add_sum-requires-clause-room : goal.add_sum-requires-clause-room
add_sum-requires-clause-room c v one two =
    let low : c.loop-other.other-index < length c.args.b.now = omega arith in
    let is : c.other-item.result ≡ part_at c.args.b.now c.loop-other.other-index = get_or_read c.args.b.now c.loop-other.other-index c.other-item.result low
    c.other-item.is (record { under = 0; form = no_form }) in
    let here : holds c.args.store.now.nodes c.args.b.now c.loop-other.other-index v ≡ true =
    sym (c.loop-other.invariant.extends.kept (part_at c.args.b.now c.loop-other.other-index).under (c.requires.b c.loop-other.other-index low) v)
    ∙ ap (λ (x : Part). value_of c.loop-other.store.nodes x.under v) (sym is) ∙ two in
    subst (λ (f : Form). CanAdd c.args.a.now.form f)
    (form_is c.args.store.now.nodes c.args.b.now c.loop-other.other-index v c.requires.disjoint low here ∙ ap (λ (x : Part). x.form) (sym is))
    (c.requires.room v (sym (c.loop-other.invariant.extends.kept c.args.a.now.under c.requires.a v) ∙ one))

pub loop-other-init : goal.loop-other-init
loop-other-init c = record {
  extends = extends_refl c.args.store.now;
  growth = grown_none c.args.store.now (λ v. value_of c.args.store.now.nodes c.args.a.now.under v && among c.args.store.now.nodes c.args.b.now 0 v);
  refs = c.requires.parts;
  added = adds_first c.args.store.now.nodes (value_of c.args.store.now.nodes c.args.a.now.under) c.args.b.now
      (λ v. form_sum c.args.a.now.form (form_at c.args.store.now.nodes c.args.b.now v)) c.args.parts.now;
}

pub loop-other-preserved : goal.loop-other-preserved
loop-other-preserved c =
    let low : c.loop-other.other-index < length c.args.b.now = omega arith in
    let is : c.other-item.result ≡ part_at c.args.b.now c.loop-other.other-index = get_or_read c.args.b.now c.loop-other.other-index c.other-item.result low
    c.other-item.is (record { under = 0; form = no_form }) in
    let found : IsRef c.args.store.now.nodes (part_at c.args.b.now c.loop-other.other-index).under = c.requires.b c.loop-other.other-index low in
    record {
      extends = extends_trans c.args.store.now c.loop-other.store c.add_sum.new.store c.loop-other.invariant.extends c.in-Ok.ensures.extends;
      growth = grown_step c.args.store.now c.loop-other.store c.add_sum.new.store
          (λ v. value_of c.args.store.now.nodes c.args.a.now.under v && among c.args.store.now.nodes c.args.b.now c.loop-other.other-index v)
          (λ v. value_of c.args.store.now.nodes c.args.a.now.under v && holds c.args.store.now.nodes c.args.b.now c.loop-other.other-index v)
          (λ v. value_of c.args.store.now.nodes c.args.a.now.under v && among c.args.store.now.nodes c.args.b.now (c.loop-other.other-index + 1) v)
          (λ v. value_of c.loop-other.store.nodes c.args.a.now.under v && value_of c.loop-other.store.nodes c.other-item.result.under v)
          c.loop-other.invariant.extends.variables (step_apart c.args.store.now.nodes (value_of c.args.store.now.nodes c.args.a.now.under) c.args.b.now
          c.loop-other.other-index c.requires.disjoint low)
          (λ v. ap (λ x. x && value_of c.loop-other.store.nodes c.other-item.result.under v)
          (c.loop-other.invariant.extends.kept c.args.a.now.under c.requires.a v)
          ∙ ap (λ (x : Part). value_of c.args.store.now.nodes c.args.a.now.under v && value_of c.loop-other.store.nodes x.under v) is
          ∙ ap (λ x. value_of c.args.store.now.nodes c.args.a.now.under v && x)
          (c.loop-other.invariant.extends.kept (part_at c.args.b.now c.loop-other.other-index).under found v))
          (step_more c.args.store.now.nodes (value_of c.args.store.now.nodes c.args.a.now.under) c.args.b.now c.loop-other.other-index)
          c.loop-other.invariant.growth c.in-Ok.ensures.growth;
      refs = c.in-Ok.ensures.refs;
      added = adds_more c.args.store.now c.loop-other.store c.add_sum.new.store (value_of c.args.store.now.nodes c.args.a.now.under)
          (λ v. value_of c.loop-other.store.nodes c.args.a.now.under v && value_of c.loop-other.store.nodes c.other-item.result.under v)
          c.args.b.now c.loop-other.other-index (λ v. form_sum c.args.a.now.form c.other-item.result.form)
          (λ v. form_sum c.args.a.now.form (form_at c.args.store.now.nodes c.args.b.now v)) c.args.parts.now c.loop-other.parts c.add_sum.new.parts
          low c.requires.b c.requires.disjoint c.loop-other.invariant.extends
          (λ v. ap (λ b. b && value_of c.loop-other.store.nodes c.other-item.result.under v)
          (c.loop-other.invariant.extends.kept c.args.a.now.under c.requires.a v)
          ∙ ap (λ (x : Part). value_of c.args.store.now.nodes c.args.a.now.under v && value_of c.loop-other.store.nodes x.under v) is
          ∙ ap (λ b. value_of c.args.store.now.nodes c.args.a.now.under v && b)
          (c.loop-other.invariant.extends.kept (part_at c.args.b.now c.loop-other.other-index).under found v))
          (λ v t h. ap (λ (x : Form). form_sum c.args.a.now.form x)
          (ap (λ (x : Part). x.form) is ∙ sym (form_is c.args.store.now.nodes c.args.b.now c.loop-other.other-index v c.requires.disjoint low h)))
          c.loop-other.invariant.added c.in-Ok.ensures.added;
    }

pub returns-clause-added : goal.returns-clause-added
returns-clause-added c = adds_all c.args.store.now c.loop-other.store.nodes (value_of c.args.store.now.nodes c.args.a.now.under) c.args.b.now
    c.loop-other.other-index (λ v. form_sum c.args.a.now.form (form_at c.args.store.now.nodes c.args.b.now v)) c.args.parts.now c.loop-other.parts
    c.requires.covers (omega arith) c.loop-other.invariant.added

pub returns-clause-growth : goal.returns-clause-growth
returns-clause-growth c = grown_within c.args.store.now c.loop-other.store
    (λ v. value_of c.args.store.now.nodes c.args.a.now.under v && among c.args.store.now.nodes c.args.b.now c.loop-other.other-index v)
    (value_of c.args.store.now.nodes c.args.a.now.under)
    (step_within c.args.store.now.nodes (value_of c.args.store.now.nodes c.args.a.now.under) c.args.b.now c.loop-other.other-index)
    c.loop-other.invariant.growth

pub returns-in-Err-clause-room : goal.returns-in-Err-clause-room
returns-in-Err-clause-room c h =
    let low : c.loop-other.other-index < length c.args.b.now = omega arith in
    let is : c.other-item.result ≡ part_at c.args.b.now c.loop-other.other-index =
    get_or_read c.args.b.now c.loop-other.other-index c.other-item.result low c.other-item.is (record { under = 0; form = no_form }) in
    let found : IsRef c.args.store.now.nodes (part_at c.args.b.now c.loop-other.other-index).under = c.requires.b c.loop-other.other-index low in
    lacks_step c.args.store.now c.loop-other.store (λ v. value_of c.args.store.now.nodes c.args.a.now.under v && among c.args.store.now.nodes c.args.b.now
    c.loop-other.other-index v) (λ v. value_of c.args.store.now.nodes c.args.a.now.under v && holds c.args.store.now.nodes c.args.b.now
    c.loop-other.other-index v) (λ v. value_of c.args.store.now.nodes c.args.a.now.under v && among c.args.store.now.nodes c.args.b.now
    (c.loop-other.other-index + 1) v) (λ v. value_of c.loop-other.store.nodes c.args.a.now.under v && value_of c.loop-other.store.nodes
    c.other-item.result.under v) (value_of c.args.store.now.nodes c.args.a.now.under)
    c.loop-other.invariant.extends.variables c.loop-other.invariant.extends.limit
    (step_apart c.args.store.now.nodes (value_of c.args.store.now.nodes c.args.a.now.under) c.args.b.now c.loop-other.other-index c.requires.disjoint low)
    (λ v. ap (λ x. x && value_of c.loop-other.store.nodes c.other-item.result.under v) (c.loop-other.invariant.extends.kept c.args.a.now.under c.requires.a v)
    ∙ ap (λ (x : Part). value_of c.args.store.now.nodes c.args.a.now.under v && value_of c.loop-other.store.nodes x.under v) is
    ∙ ap (λ x. value_of c.args.store.now.nodes c.args.a.now.under v && x)
    (c.loop-other.invariant.extends.kept (part_at c.args.b.now c.loop-other.other-index).under found v))
    (step_more c.args.store.now.nodes (value_of c.args.store.now.nodes c.args.a.now.under) c.args.b.now c.loop-other.other-index)
    (step_within c.args.store.now.nodes (value_of c.args.store.now.nodes c.args.a.now.under) c.args.b.now (c.loop-other.other-index + 1))
    c.loop-other.invariant.growth
    (c.in-Err.ensures.room (err_moved c.in-Err.fault StoreFault.Nodes h))
