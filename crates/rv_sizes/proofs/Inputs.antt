-- The types of a node's inputs are the first of those of its flows.
use Rattle.std.proofs.Common.{◌≡◌, List, [], ◌∷◌, ◌++◌, map, length, take, refl, ◌∙◌, ap}
use Rattle.std.proofs.lemmas.List.{append_assoc}
use Rattle.rv_tree.specs.{declared.tree.Decl.Decl, Tree.NodeTree, Tree.ProgramTree}
use Rattle.rv_types.specs.{declared.typed.Kind.Kind, Kinds.decl_kinds, Kinds.flow_kinds, Kinds.kind_in_program}

take_front : {X Y : Type 0} (f : X → Y) (xs ys : List X) → take (length xs) (map f (xs ++ ys)) ≡ map f xs
take_front f [] ys = refl
take_front f (x ∷ xs) ys = ap (λ l. f x ∷ l) (take_front f xs ys)

pub input_kinds : (p : ProgramTree) (n : NodeTree) (kinds : List Kind) → kinds ≡ flow_kinds p n → take (length n.inputs) kinds ≡ decl_kinds p n.inputs
input_kinds p n kinds is =
    ap (take (length n.inputs)) (is ∙ ap (map (λ (d : Decl). kind_in_program p d.kind)) (append_assoc n.inputs n.outputs n.locals))
    ∙ take_front (λ (d : Decl). kind_in_program p d.kind) n.inputs (n.outputs ++ n.locals)
