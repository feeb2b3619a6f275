use Rattle.std.proofs.Common.{ℕ, ◌≡◌, ◌<◌, ◌≤◌, ◌^◌, ◌∙◌, ap, sym, subst, rules, arith, true, false, List, length, Some, None}
use Rattle.std.proofs.lemmas.List.{length-map}
use Rattle.rv_base.specs.Limits.{source_limit}
use Rattle.rv_tree.specs.{declared.tree.Name.Name, Tree.ProgramTree, Tree.program_tree, Places.Identifier, Places.index_of}
use Rattle.rv_types.specs.{Names.texts, Names.is_declared, Names.node_names, Names.name_faults, Firsts.firsts, Earliest.first, Settled.IsNamed}
use Rattle.rv_types.proofs.{FirstNames.declared_firsts, FirstNames.all_first, FirstLaws.first_none, RightNames.all_different, Refusals.no_node}
use Rattle.rv_types.proofs.{Refusals.of_names}
use Rattle.rv_types.proofs.settling.check_declared.Goals as goal

-- the nodes of a program without a fault of names are those of its space
all_nodes : (p : ProgramTree) (nodes : List Name) → nodes ≡ firsts (node_names p) → first (name_faults p) ≡ None → nodes ≡ node_names p
all_nodes p nodes e none = e ∙ all_first (node_names p) (all_different p (first_none (name_faults p) none)).nodes

named_by : (p : ProgramTree) (main : Identifier) (nodes : List Name) (number : ℕ) → nodes ≡ firsts (node_names p) → is_declared nodes main ≡ true
    → first (name_faults p) ≡ None → number ≡ index_of (texts nodes) main → number < length nodes → IsNamed p main number
named_by p main nodes number e there none is within =
    let all = all_nodes p nodes e none in
    record {
      has_main = sym (declared_firsts (node_names p) main) ∙ ap (λ xs. is_declared xs main) (sym e) ∙ there;
      names = first_none (name_faults p) none;
      main_number = is ∙ ap (λ xs. index_of (texts xs) main) all;
      within = subst (λ k. number < k) (ap length all ∙ length-map p.nodes (λ n. n.name)) within;
    }

pub overflow_cast-number : goal.overflow_cast-number
overflow_cast-number c =
    let p = program_tree c.args.p.now in
    let space : c.args.declared.now.spaces.nodes ≡ firsts (node_names p) = search rules in
    let none : first (name_faults p) ≡ None = search rules in
    let all = all_nodes p c.args.declared.now.spaces.nodes space none in
    let long : length c.args.declared.now.spaces.nodes ≡ length p.nodes = ap length all ∙ length-map p.nodes (λ n. n.name) in
    let within : c.in-Some.number < length c.args.declared.now.spaces.nodes = search rules in
    let few : length p.nodes ≤ source_limit = c.requires.bounded.nodes in
    let small : c.in-Some.number < 2 ^ 32 = omega arith in
    search rules

pub returns-in-None-clause-refused : goal.returns-in-None-clause-refused
returns-in-None-clause-refused c =
    let p = program_tree c.args.p.now in
    let space : c.args.declared.now.spaces.nodes ≡ firsts (node_names p) = search rules in
    let absent : is_declared c.args.declared.now.spaces.nodes c.args.main.now ≡ false = search rules in
    no_node p c.args.main.now (sym (declared_firsts (node_names p) c.args.main.now) ∙ ap (λ xs. is_declared xs c.args.main.now) (sym space) ∙ absent)

pub returns-in-Some-fault-clause-refused : goal.returns-in-Some-fault-clause-refused
returns-in-Some-fault-clause-refused c =
    let p = program_tree c.args.p.now in
    let space : c.args.declared.now.spaces.nodes ≡ firsts (node_names p) = search rules in
    let there : is_declared c.args.declared.now.spaces.nodes c.args.main.now ≡ true = search rules in
    let fault : Some c.in-Some-fault.fault ≡ first (name_faults p) = search rules in
    of_names p c.args.main.now c.in-Some-fault.fault (sym (declared_firsts (node_names p) c.args.main.now)
    ∙ ap (λ xs. is_declared xs c.args.main.now) (sym space) ∙ there) fault

pub check_types-requires-clause-names : goal.check_types-requires-clause-names
check_types-requires-clause-names c =
    let none : first (name_faults (program_tree c.args.p.now)) ≡ None = search rules in
    first_none (name_faults (program_tree c.args.p.now)) none

pub returns-in-None-fault-clause-named : goal.returns-in-None-fault-clause-named
returns-in-None-fault-clause-named c =
    let p = program_tree c.args.p.now in
    let space : c.args.declared.now.spaces.nodes ≡ firsts (node_names p) = search rules in
    let there : is_declared c.args.declared.now.spaces.nodes c.args.main.now ≡ true = search rules in
    let none : first (name_faults p) ≡ None = search rules in
    let within : c.in-Some.number < length c.args.declared.now.spaces.nodes = search rules in
    let number : c.in-Some.number ≡ index_of (texts c.args.declared.now.spaces.nodes) c.args.main.now = search rules in
    c.check_types.ensures.named c.args.main.now (named_by p c.args.main.now c.args.declared.now.spaces.nodes c.in-Some.number space there none number within)

pub returns-in-None-fault-clause-refused : goal.returns-in-None-fault-clause-refused
returns-in-None-fault-clause-refused c =
    let p = program_tree c.args.p.now in
    let space : c.args.declared.now.spaces.nodes ≡ firsts (node_names p) = search rules in
    let there : is_declared c.args.declared.now.spaces.nodes c.args.main.now ≡ true = search rules in
    let none : first (name_faults p) ≡ None = search rules in
    let within : c.in-Some.number < length c.args.declared.now.spaces.nodes = search rules in
    let number : c.in-Some.number ≡ index_of (texts c.args.declared.now.spaces.nodes) c.args.main.now = search rules in
    c.check_types.ensures.refused c.args.main.now (named_by p c.args.main.now c.args.declared.now.spaces.nodes c.in-Some.number space there none number within)
