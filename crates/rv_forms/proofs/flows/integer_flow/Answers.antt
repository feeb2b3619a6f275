use Rattle.std.proofs.Common.{ℕ, pos, cond, List, length, subst}
use Rattle.rv_rows.specs.Arithmetic.{constant_form}
use Rattle.rv_terms.specs.Parts.{form_at}
use Rattle.rv_flat.specs.FlatInstants.{system_of}
use Rattle.rv_control.proofs.Bounded.{zero_bounded}
use Rattle.rv_bits.specs.{Reads.tree_in, Shown.clock_bit}
use Rattle.rv_bits.proofs.{Fitting.over_fits, Keeping.on_ok}
use Rattle.rv_forms.specs.Terms.{columns_of, weight_in, GivesTerm}
use Rattle.rv_forms.proofs.{Bounds.term_within, Flowing.flow_fits, Flowing.flow_light, Flowing.whole_flow, Kept.ready_kept, Steps.few_read, Steps.zero_here}
use Rattle.rv_symbolic.proofs.Extending.{map_ok}
use Rattle.rv_forms.proofs.flows.integer_flow.Goals as goal

pub term_of-requires-clause-over : goal.term_of-requires-clause-over
term_of-requires-clause-over c =
    let x = c.args.around.now in
    let f = x.flat.now in
    let n = length c.args.wholes.now.flows in
    let flow = c.args.flow.now in
    over_fits (system_of f) n flow.clock flow.kind (tree_in x flow.body) (flow_fits f n flow c.requires.flow c.requires.ready.around.well)

pub term_of-requires-clause-light : goal.term_of-requires-clause-light
term_of-requires-clause-light c = flow_light c.args.around.now.flat.now (length c.args.wholes.now.flows) c.args.flow.now c.requires.flow

pub there_or-requires-clause-terms : goal.there_or-requires-clause-terms
there_or-requires-clause-terms c =
    let x = c.args.around.now in
    let f = x.flat.now in
    let d = c.term_of.new.store in
    let zero = c.in_ok-zero.zero.parts in (
      columns_of f,
      weight_in f (tree_in x c.args.flow.now.body),
      0,
      c.in_ok-body.ensures.ok.within,
      term_within d.nodes (columns_of f) 0 (λ v. constant_form (columns_of f) (pos 0)) zero
          (zero_here x c.args.wholes.now d zero c.in_ok-body.ensures.ready.wholes c.in_ok-zero.ensures.exact) (λ v. zero_bounded (columns_of f) 0),
    )

pub returns-clause-ok : goal.returns-clause-ok
returns-clause-ok c =
    let x = c.args.around.now in
    let f = x.flat.now in
    let w = c.args.wholes.now in
    let r = x.read.now in
    let n = length w.flows in
    let d = c.term_of.new.store in
    let new = c.there_or.new.store in
    let flow = c.args.flow.now in
    let body = c.in_ok-body.body.parts in
    let zero = c.in_ok-zero.zero.parts in
    let ready = c.in_ok-body.ensures.ready in
    let none = zero_here x w d zero ready.wholes c.in_ok-zero.ensures.exact in
    map_ok c.there_or.result _ _
    (λ u made. whole_flow f c.args.store.now d new r n flow body zero u.parts ready.around.well c.requires.flow c.requires.whole ready.around.flows
    (few_read x w d c.term_of.new.shown c.term_of.new.known ready) c.in_ok-body.ensures.ok none
    (subst (λ (l : List ℕ). GivesTerm d new (columns_of f) (λ v. cond (clock_bit d.nodes l flow.clock v) (form_at d.nodes body v) (form_at d.nodes zero v))
    u.parts)
    c.as_slice-on.ensures (made (columns_of f) none.term)))
    c.there_or.ensures.ok

pub returns-clause-ready : goal.returns-clause-ready
returns-clause-ready c =
    let x = c.args.around.now in
    let f = x.flat.now in
    let w = c.args.wholes.now in
    let d = c.term_of.new.store in
    let zero = c.in_ok-zero.zero.parts in
    let ready = c.in_ok-body.ensures.ready in
    let none = zero_here x w d zero ready.wholes c.in_ok-zero.ensures.exact in
    on_ok c.there_or.result _ _
    (λ u made. ready_kept d c.there_or.new.store x w c.term_of.new.shown c.term_of.new.known (made (columns_of f) none.term).extends ready)
    c.there_or.ensures.ok
