use Rattle.std.proofs.{Common.◌+◌, Common.◌++◌, Common.◌∷◌, Common.[], Common.sym, Common.◌∙◌, Common.ap, Common.subst, Common.arith, lemmas.List.append_assoc}
use Rattle.rv_tree.specs.Tree.{tree_of}
use Rattle.rv_instances.specs.NumberedNeeds.{listed, clock_number, site_in}
use Rattle.rv_instances.specs.{Expanded.program_of, Expanded.main_of, Layouts.IsWithin, Layouts.here_of}
use Rattle.rv_sequence.proofs.GiverNeeds.{output_clock_within, output_few}
use Rattle.rv_sequence.proofs.flow_graph.add_output.Goals as goal

pub clock-requires-clause-within : goal.clock-requires-clause-within
clock-requires-clause-within c =
    let x = c.args.expanded.now in
    let o = c.args.output.now in
    subst (λ n. IsWithin n o.clock) (λ t. (here_of (sym c.new-reader.ensures.layout t) (sym c.new-reader.ensures.instance t)).offset)
    (output_clock_within (program_of x) (main_of x) x.instances.now c.requires.known.expanded c.args.layout.now c.requires.layout o c.requires.giver)

pub overflow_add-first : goal.overflow_add-first
overflow_add-first c =
    let x = c.args.expanded.now in
    let o = c.args.output.now in
    let first = c.output-first.ensures ∙ (λ t. (here_of (c.new-reader.ensures.layout t) (c.new-reader.ensures.instance t)).output (c.site_of.ensures t)) in
    let few = output_few (program_of x) (main_of x) x.instances.now c.requires.known.expanded c.args.layout.now c.requires.layout o c.requires.giver in
    omega (arith, first, few)

pub overflow_cast-first-2 : goal.overflow_cast-first-2
overflow_cast-first-2 c =
    let x = c.args.expanded.now in
    let o = c.args.output.now in
    let first = c.output-first.ensures ∙ (λ t. (here_of (c.new-reader.ensures.layout t) (c.new-reader.ensures.instance t)).output (c.site_of.ensures t)) in
    let few = output_few (program_of x) (main_of x) x.instances.now c.requires.known.expanded c.args.layout.now c.requires.layout o c.requires.giver in
    omega (arith, first, few)

pub returns : goal.returns
returns c =
    let o = c.args.output.now in
    let h = here_of c.args.layout.now o.instance in
    let clock = c.clock.ensures ∙ (λ t. clock_number (here_of (c.new-reader.ensures.layout t) (c.new-reader.ensures.instance t)) o.clock) in
    let first = c.output-first.ensures ∙ (λ t. (here_of (c.new-reader.ensures.layout t) (c.new-reader.ensures.instance t)).output (c.site_of.ensures t)) in
    c.in_ok-push.ensures.ok
    ∙ (λ t. (c.in_ok-add_flow.ensures ∙ ap (λ k. c.args.found.now ++ listed k) clock) t ++ (first t + o.output) ∷ [])
    ∙ append_assoc c.args.found.now (listed (clock_number h o.clock)) ((h.output (site_in (tree_of o.call.now)) + o.output) ∷ [])
