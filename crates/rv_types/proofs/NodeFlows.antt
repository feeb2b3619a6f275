-- The flows of nodes in which no rule of names is broken.
use Rattle.std.proofs.Common.{◌≡◌, ℕ, zero, suc, ◌<◌, ◌^◌, List, [], ◌∷◌, map, flat_map, length, get_or, Contains, sym, ap, subst, ◌∙◌, arith}
use Rattle.std.proofs.lemmas.List.{length-map, get_or-map}
use Rattle.rv_tree.specs.{Tree.NodeTree, Tree.ProgramTree, Places.flows}
use Rattle.rv_types.specs.{Names.texts, Names.repeated, Names.names_in_node, Names.name_faults, Firsts.firsts, Known.flow_names}
use Rattle.rv_types.proofs.{FirstNames.all_first, KnownLaws.flows_are, RightNames.both_empty, RightNames.all_different}

-- none of several has any
pub none_of : {X A : Type 0} (f : X → List A) (xs : List X) (x : X) → flat_map f xs ≡ [] → Contains xs x → f x ≡ []
none_of f xs x e h = at f xs x e h.0 h.1 h.2
  where
    at : {X A : Type 0} (f : X → List A) (xs : List X) (x : X) → flat_map f xs ≡ [] → (k : ℕ) → k < length xs → get_or xs k x ≡ x → f x ≡ []
    at f [] x e k lt is = absurd (omega arith)
    at f (y ∷ ys) x e zero lt is = subst (λ z. f z ≡ []) is (both_empty _ _ e).0
    at f (y ∷ ys) x e (suc k) lt is = at f ys x (both_empty _ _ e).1 k (omega arith) is

-- in each node no rule of names is broken
pub node_right : (p : ProgramTree) → name_faults p ≡ [] → (n : NodeTree) → Contains p.nodes n → names_in_node p n ≡ []
node_right p right n there = none_of (names_in_node p) p.nodes n (all_different p right).in_nodes there

-- flows of different names are those of its space
pub flow_space : (n : NodeTree) → repeated [] (flow_names n) ≡ [] → texts (firsts (flow_names n)) ≡ flows n
flow_space n different = ap texts (all_first (flow_names n) different) ∙ flows_are n

-- and whose names are few
pub space_few : (n : NodeTree) → repeated [] (flow_names n) ≡ [] → length (flows n) < 2 ^ 32 → length (firsts (flow_names n)) < 2 ^ 32
space_few n different few =
    let long : length (firsts (flow_names n)) ≡ length (flows n) = sym (length-map (firsts (flow_names n)) (λ x. x.text))
    ∙ ap length (flow_space n different) in
    omega arith

-- an element's image is among the images
pub mapped_there : {X Y : Type 0} (f : X → Y) (xs : List X) (k : ℕ) (x : X) → k < length xs → x ≡ get_or xs k x → Contains (map f xs) (f x)
mapped_there f xs k x h is = (k, simp length-map h, get_or-map f xs k x (f x) h ∙ ap f (sym is))
