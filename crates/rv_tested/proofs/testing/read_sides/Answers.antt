use Rattle.std.proofs.Common.{◌∙◌, ℕ, List, ap, sym, subst, length}
use Rattle.rv_control.proofs.Weighed.{light_weight}
use Rattle.rv_diagram.proofs.Growing.{extends_refl, extends_trans}
use Rattle.rv_bits.specs.Shown.{clock_bit}
use Rattle.rv_flat.specs.Inlined.{tree_among}
use Rattle.rv_cases.specs.Conditions.{AreRefs}
use Rattle.rv_forms.specs.Terms.{weights_of}
use Rattle.rv_tested.specs.Compared.{comparison_in}
use Rattle.rv_tested.proofs.{Following.clock_there, Following.over_inside, Siding.sides_read}
use Rattle.rv_tested.proofs.testing.read_sides.Goals as goal

pub term_of-requires-clause-over : goal.term_of-requires-clause-over
term_of-requires-clause-over c = over_inside c.args.around.now.flat.now (length c.args.wholes.now.flows) c.args.compared.now.clock
    (tree_among c.args.around.now.flat.now.memories c.args.compared.now.left.now) c.requires.inside.left c.requires.all

pub term_of-requires-clause-light : goal.term_of-requires-clause-light
term_of-requires-clause-light c = c.requires.inside.left_light

pub term_of-requires-2-clause-over : goal.term_of-requires-2-clause-over
term_of-requires-2-clause-over c = over_inside c.args.around.now.flat.now (length c.args.wholes.now.flows) c.args.compared.now.clock
    (tree_among c.args.around.now.flat.now.memories c.args.compared.now.right.now) c.requires.inside.right c.requires.all

pub term_of-requires-2-clause-light : goal.term_of-requires-2-clause-light
term_of-requires-2-clause-light c = c.requires.inside.right_light

pub returns-clause-extends : goal.returns-clause-extends
returns-clause-extends c = extends_trans c.args.store.now c.term_of.new.store c.term_of-2.new.store c.in_ok-left.ensures.ok.extends
    c.in_ok-right.ensures.ok.extends

pub returns-clause-ok : goal.returns-clause-ok
returns-clause-ok c =
    let f = c.args.around.now.flat.now in
    let new = c.term_of-2.new.store in
    let flows = c.in_ok-right.ensures.ready.around.flows in
    let inside = c.requires.inside in
    sides_read f c.args.store.now c.term_of.new.store new (comparison_in f.memories c.args.compared.now) c.clock_ref-there.result
    c.in_ok-left.left c.in_ok-right.right c.in_ok-left.ensures.ok c.in_ok-right.ensures.ok c.in_ok-right.ensures.ok.extends
    inside.left inside.right
    (light_weight (weights_of f) (tree_among f.memories c.args.compared.now.left.now) inside.left_light)
    (light_weight (weights_of f) (tree_among f.memories c.args.compared.now.right.now) inside.right_light) (extends_refl new)
    (c.clock_ref-there.ensures.found new.nodes (subst (λ (l : List ℕ). AreRefs new.nodes l) (sym c.as_slice.ensures) flows.on_refs))
    (λ v row instant. c.clock_ref-there.ensures.means new.nodes v
    ∙ ap (λ l. clock_bit new.nodes l c.args.compared.now.clock v) c.as_slice.ensures
    ∙ clock_there f new.nodes c.args.around.now.read.now flows c.in_ok-right.ensures.ready.complete c.args.compared.now.clock inside.named v row instant)
