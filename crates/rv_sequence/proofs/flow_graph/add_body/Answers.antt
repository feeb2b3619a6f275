use Rattle.std.proofs.{Common.◌≡◌, Common.ℕ, Common.List, Common.◌++◌, Common.OnOk, Common.sym, Common.◌∙◌, Common.ap, Common.subst, lemmas.List.append_assoc}
use Rattle.rv_tree.specs.Tree.{tree_of}
use Rattle.rv_instances.specs.Layouts.{IsWithin, here_of, node_at}
use Rattle.rv_instances.specs.{Expanded.program_of, Expanded.main_of, NumberedNeeds.listed, NumberedNeeds.clock_number}
use Rattle.rv_sequence.specs.Needed.{needed, told_needed}
use Rattle.rv_sequence.proofs.{GiverNeeds.body_within, GiverNeeds.body_timed, ToldNeeds.told_needs}
use Rattle.rv_sequence.proofs.flow_graph.add_body.Goals as goal

pub clock-requires-clause-within : goal.clock-requires-clause-within
clock-requires-clause-within c =
    let x = c.args.expanded.now in
    let b = c.args.body.now in
    subst (λ n. IsWithin n b.clock) (λ t. (here_of (sym c.new-reader.ensures.layout t) (sym c.new-reader.ensures.instance t)).offset)
    (body_within (program_of x) (main_of x) x.instances.now c.requires.known.expanded c.args.layout.now c.requires.layout b c.requires.giver)

pub returns : goal.returns
returns c =
    let x = c.args.expanded.now in
    let p = program_of x in
    let ins = x.instances.now in
    let b = c.args.body.now in
    let e = tree_of b.body.now in
    let before = c.args.found.now in
    let n = node_at p ins b.instance in
    let h = here_of c.args.layout.now b.instance in
    let clock = c.clock.ensures ∙ (λ t. clock_number (here_of (c.new-reader.ensures.layout t) (c.new-reader.ensures.instance t)) b.clock) in
    let first = c.in_ok-add_flow.ensures ∙ ap (λ k. before ++ listed k) clock in
    subst (λ (l : List ℕ). OnOk c.add_needs.result (c.add_needs.new.found ≡ l))
    ((λ t. first t ++ told_needed (c.new-reader.ensures.node t) (here_of (c.new-reader.ensures.layout t) (c.new-reader.ensures.instance t)) e)
    ∙ ap (λ (l : List ℕ). (before ++ listed (clock_number h b.clock)) ++ l)
    (told_needs n h e (body_timed p (main_of x) ins c.requires.known.expanded b c.requires.giver))
    ∙ append_assoc before (listed (clock_number h b.clock)) (needed n h e))
    c.add_needs.ensures
