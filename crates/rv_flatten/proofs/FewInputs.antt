-- A node has no more inputs than a source has bytes.
use Rattle.std.proofs.{Common.◌≤◌, Common.◌++◌, Common.length, Common.length-append, Common.arith, lemmas.List.length-map}
use Rattle.std.specs.List.{Contains}
use Rattle.rv_tree.specs.{Bounded.IsBounded, Bounded.most, Tree.NodeTree, Tree.ProgramTree, Places.names, declared.tree.Decl.Decl}
use Rattle.rv_types.specs.Kinds.{decl_kinds, kind_in_program}

pub few_inputs : (p : ProgramTree) → IsBounded p → (n : NodeTree) → Contains p.nodes n → length (decl_kinds p n.inputs) ≤ most
few_inputs p bounded n w =
    let kinds = length-map n.inputs (λ (d : Decl). kind_in_program p d.kind) in let own = length-map n.inputs (λ (d : Decl). d.name.text) in
    let first = length-append (names n.inputs) (names n.outputs ++ names n.locals) in
    let last = length-append (names n.inputs ++ names n.outputs) (names n.locals) in
    omega (arith, bounded.node_flows n w, kinds, own, first, last, length-append (names n.inputs) (names n.outputs))
