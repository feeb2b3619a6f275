-- The names of the nodes of a program, collected one after the other.
use Rattle.std.proofs.Common.{◌≡◌, Bool, true, false, cond, ◌||◌, List, [], ◌∷◌, ◌++◌, map, refl, sym, ◌∙◌, ap}
use Rattle.std.proofs.lemmas.List.{append-nil, append_assoc}
use Rattle.rv_tree.specs.{declared.tree.Name.Name, Tree.NodeTree, Tree.node_tree, Places.Identifier, Places.is_same, Places.is_among}
use Rattle.rv_types.specs.{Names.texts, Names.is_declared, Names.repeated}
use Rattle.rv_tree.specs.declared.tree.Node as declared
use Rattle.rv_calls.specs.{Numbering.with_names, Callings.node_texts}
use Rattle.rv_types.proofs.{Members.at_head, Members.not_before, RightNames.both_empty}

-- names of which none stands twice, one after the other
pub among_append : (xs ys : List Identifier) (z : Identifier) → is_among (xs ++ ys) z ≡ (is_among xs z || is_among ys z)
among_append [] ys z = refl
among_append (x ∷ xs) ys z = regroup (is_same x z) (is_among (xs ++ ys) z) (is_among xs z) (is_among ys z) (among_append xs ys z)
  where
    regroup : (a b c d : Bool) → b ≡ (c || d) → (a || b) ≡ ((a || c) || d)
    regroup true b c d e = refl
    regroup false b c d e = e

pub with_distinct : (ys : List Identifier) (before xs : List Name) → repeated before xs ≡ [] → ((z : Identifier) → is_among ys z ≡ is_declared before z)
    → with_names ys (texts xs) ≡ ys ++ texts xs
with_distinct ys before [] e same = sym (append-nil ys)
with_distinct ys before (x ∷ xs) e same =
    let new : is_among ys x.text ≡ false = same x.text ∙ not_before before (x ∷ xs) e x.text (at_head x.text (texts xs)) in
    ap (λ b. with_names (cond b ys (ys ++ x.text ∷ [])) (texts xs)) new ∙ with_distinct (ys ++ x.text ∷ []) (x ∷ before) xs (both_empty _ _ e).1
    (λ z. among_append ys (x.text ∷ []) z ∙ turned (is_among ys z) (is_same x.text z) (is_declared before z) (same z))
    ∙ append_assoc ys (x.text ∷ []) (texts xs)
  where
    turned : (a b c : Bool) → a ≡ c → (a || (b || false)) ≡ (b || c)
    turned true true c e = refl
    turned true false true e = refl
    turned true false false e = cc
    turned false true c e = refl
    turned false false c e = e

pub declared_texts : (ns : List declared.Node) → texts (map (λ (n : NodeTree). n.name) (map node_tree ns)) ≡ node_texts ns
declared_texts [] = refl
declared_texts (n ∷ ns) = ap (λ l. n.name.text ∷ l) (declared_texts ns)

-- the names of the nodes of a program, collected
pub collected : (ns : List declared.Node) (names : List Identifier) → repeated [] (map (λ (n : NodeTree). n.name) (map node_tree ns)) ≡ []
    → names ≡ with_names [] (node_texts ns) → names ≡ texts (map (λ (n : NodeTree). n.name) (map node_tree ns))
collected ns names once is =
    is ∙ ap (with_names []) (sym (declared_texts ns)) ∙ with_distinct [] [] (map (λ (n : NodeTree). n.name) (map node_tree ns)) once (λ z. refl)
