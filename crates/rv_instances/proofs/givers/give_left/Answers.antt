use Rattle.std.proofs.Common.{◌≡◌, [], true, false, length, get_or, set, Some, sym, ◌∙◌, ap, subst, arith}
use Rattle.rv_tree.specs.{Tree.NodeTree, Tree.node_tree, Places.is_flow, Places.site_of}
use Rattle.rv_types.specs.{Clocks.clock_at, Instances.clock_of, Names.texts, declared.typed.Clock.Clock}
use Rattle.rv_instances.specs.{Expanded.program_of, Expanded.main_of, Giving.IsRightOf, Giving.number_at, Layouts.node_at}
use Rattle.rv_instances.proofs.GivenFlows.{IsMore, set_given, left_placed, left_stands, left_is_flow, name_there, number_found}
use Rattle.rv_instances.proofs.{CallsHere.first_read, LaidFlows.laid_size}
use Rattle.rv_instances.proofs.givers.give_left.Goals as goal

pub at-requires : goal.at-requires
at-requires c =
    let x = c.args.expanded.now in
    let size = ap length c.requires.layout.laid ∙ laid_size (program_of x) x.instances.now (length x.instances.now) in
    omega (arith, size, c.requires.within)

pub set-requires : goal.set-requires
set-requires c =
    let x = c.args.expanded.now in let ins = x.instances.now in
    let q = c.args.equation.now in let m = c.args.instance in
    let j = c.args.number in
    let first = first_read (program_of x) ins c.args.layout.now.laid m c.at.result.now c.requires.within c.requires.layout.laid c.at.ensures.value in
    let index = number_found (program_of x) x.instances.now m c.at.result.now.first c.in-Some.site (node_tree c.clocks-clocks.result.now.node.now)
    (get_or (texts q.lefts) j []) c.at-2.result.now.text first c.clocks-clocks.ensures
    (name_there q.lefts j c.at-2.result.now c.requires.number c.at-2.ensures.value) c.in-Some.ensures.site in
    let placed = (left_placed (program_of x) (main_of x) x.instances.now c.requires.known.expanded m c.requires.within q c.requires.equation j
    c.requires.number).0 in
    omega (arith, index, placed, c.requires.given.size)

more : (c : goal.After-set) → IsMore (program_of c.args.expanded.now) (main_of c.args.expanded.now) c.args.expanded.now.instances.now c.args.found.now
    c.set.new.self
    (number_at (program_of c.args.expanded.now) c.args.expanded.now.instances.now c.args.instance (get_or (texts c.args.equation.now.lefts) c.args.number []))
more c =
    let x = c.args.expanded.now in let ins = x.instances.now in
    let q = c.args.equation.now in let m = c.args.instance in
    let j = c.args.number in let g = c.right_of-giver.result in
    let n = node_tree c.clocks-clocks.result.now.node.now in
    let y = get_or (texts q.lefts) j [] in
    let name = name_there q.lefts j c.at-2.result.now c.requires.number c.at-2.ensures.value in
    let first = first_read (program_of x) ins c.args.layout.now.laid m c.at.result.now c.requires.within c.requires.layout.laid c.at.ensures.value in
    let index = number_found (program_of x) x.instances.now m c.at.result.now.first c.in-Some.site n y c.at-2.result.now.text first c.clocks-clocks.ensures name
    c.in-Some.ensures.site in
    let placed = (left_placed (program_of x) (main_of x) x.instances.now c.requires.known.expanded m c.requires.within q c.requires.equation j
    c.requires.number).0 in
    let clock : c.clock_at.result ≡ clock_of (node_at (program_of x) x.instances.now m) y =
    c.clock_at.ensures ∙ ap (clock_at n) (c.in-Some.ensures.site ∙ ap (site_of n) (sym name)) ∙ ap (λ (k : NodeTree). clock_of k y) c.clocks-clocks.ensures in
    let told : IsRightOf m (clock_of (node_at (program_of x) x.instances.now m) y) q j g = subst (λ (k : Clock). IsRightOf m k q j g) clock
    c.right_of-giver.ensures in
    let f = left_stands (program_of x) (main_of x) x.instances.now c.requires.known.expanded m c.requires.within q c.requires.equation j c.requires.number g
    c.requires.giving told in
    set_given (program_of x) (main_of x) x.instances.now c.args.found.now c.set.new.self (number_at (program_of x) x.instances.now m y) g f.0 c.requires.given
    (c.set.ensures ∙ ap (λ k. set c.args.found.now k (Some g)) index) placed f.1 f.2

pub returns-in-Some-clause-given : goal.returns-in-Some-clause-given
returns-in-Some-clause-given c = (more c).given

pub returns-in-Some-clause-kept : goal.returns-in-Some-clause-kept
returns-in-Some-clause-kept c = (more c).kept

pub returns-in-Some-clause-left : goal.returns-in-Some-clause-left
returns-in-Some-clause-left c = (more c).told

pub returns-in_default-clause-left : goal.returns-in_default-clause-left
returns-in_default-clause-left c =
    let x = c.args.expanded.now in let q = c.args.equation.now in
    let name = name_there q.lefts c.args.number c.at-2.result.now c.requires.number c.at-2.ensures.value in
    let flow = left_is_flow (program_of x) (main_of x) x.instances.now c.requires.known.expanded c.args.instance c.requires.within q c.requires.equation
    c.args.number c.requires.number in
    let none : false ≡ true =
    c.in_default.ensures.found ∙ ap (λ (k : NodeTree). is_flow k c.at-2.result.now.text) c.clocks-clocks.ensures
    ∙ ap (is_flow (node_at (program_of x) x.instances.now c.args.instance)) (sym name) ∙ flow in
    absurd (let h : ⊥ = cc in h)
