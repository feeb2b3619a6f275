-- Offsets that are collected one element after the other, and expressions that get their sites so.
use Rattle.std.proofs.Common.{◌≡◌, ℕ, ◌+◌, ◌<◌, ◌≤◌, ◌∷◌, [], ◌++◌, List, map, length, get_or, drop, refl, sym, ap, ◌∙◌, append_assoc}
use Rattle.std.proofs.lemmas.List.{append-nil, map_push, drop_all}
use Rattle.rv_tree.specs.{declared.tree.Expr.Expr, Tree.Tree, Tree.Trees, Tree.None, Tree.More, Tree.trees, Tree.tree_of, Sites.sited, Sites.sited_trees}
use Rattle.rv_base.proofs.Lists.{next_of}

-- one more element, where a list's offsets are those of its first element and then those of the others
pub collected-more : {X : Type 0} (own : X → List ℕ) (all : List X → List ℕ) → ((x : X) (xs : List X) → all (x ∷ xs) ≡ own x ++ all xs)
    → (xs : List X) (i : ℕ) (x : X) (had now whole : List ℕ) → i < length xs → x ≡ get_or xs i x → now ≡ had ++ own x → had ++ all (drop i xs) ≡ whole
    → now ++ all (drop (i + 1) xs) ≡ whole
collected-more own all step xs i x had now whole lt is pushed inv =
    ap (λ l. l ++ all (drop (i + 1) xs)) pushed
    ∙ append_assoc had (own x) (all (drop (i + 1) xs))
    ∙ ap (λ l. had ++ l) (sym (step x (drop (i + 1) xs)))
    ∙ ap (λ l. had ++ all l) (sym (next_of xs i x lt is))
    ∙ inv

pub collected-all : {X : Type 0} (all : List X → List ℕ) → all [] ≡ [] → (xs : List X) (i : ℕ) (had whole : List ℕ) → length xs ≤ i
    → had ++ all (drop i xs) ≡ whole → had ≡ whole
collected-all all none xs i had whole le inv =
    sym (append-nil had) ∙ ap (λ l. had ++ l) (sym none) ∙ ap (λ l. had ++ all l) (sym (drop_all i xs le)) ∙ inv

-- these trees, and then those
abbrev pub joined : List Tree → Trees → Trees
joined [] us = us
joined (t ∷ ts) us = More t (joined ts us)

joined-push : (ts : List Tree) (t : Tree) (us : Trees) → joined (ts ++ t ∷ []) us ≡ joined ts (More t us)
joined-push [] t us = refl
joined-push (x ∷ ts) t us = ap (More x) (joined-push ts t us)

joined-none : (ts : List Tree) → joined ts None ≡ trees ts
joined-none [] = refl
joined-none (x ∷ ts) = ap (More x) (joined-none ts)

-- what is left after some of them
abbrev pub left : List Expr → ℕ → Trees
left all i = trees (map tree_of (drop i all))

pub one-more : (f : ℕ → ℕ) (all : List Expr) (i : ℕ) (e : Expr) (made now : List Expr) (new : Expr) (whole : Trees) → i < length all → e ≡ get_or all i e
    → tree_of new ≡ sited f (tree_of e) → now ≡ made ++ new ∷ []
    → joined (map tree_of made) (sited_trees f (left all i)) ≡ whole → joined (map tree_of now) (sited_trees f (left all (i + 1))) ≡ whole
one-more f all i e made now new whole lt is with_site pushed inv =
    let rest = sited_trees f (left all (i + 1)) in
    ap (λ l. joined (map tree_of l) rest) pushed
    ∙ ap (λ l. joined l rest) (map_push tree_of made new)
    ∙ joined-push (map tree_of made) (tree_of new) rest
    ∙ ap (λ t. joined (map tree_of made) (More t rest)) with_site
    ∙ ap (λ l. joined (map tree_of made) (sited_trees f (trees (map tree_of l)))) (sym (next_of all i e lt is))
    ∙ inv

pub all-made : (f : ℕ → ℕ) (all made : List Expr) (i : ℕ) (whole : Trees) → length all ≤ i → joined (map tree_of made) (sited_trees f (left all i)) ≡ whole
    → trees (map tree_of made) ≡ whole
all-made f all made i whole le inv =
    sym (joined-none (map tree_of made)) ∙ ap (λ l. joined (map tree_of made) (sited_trees f (trees (map tree_of l)))) (sym (drop_all i all le)) ∙ inv

-- one more element, where each is turned into another
pub turned-more : {X Y : Type 0} (view : X → Y) (turned : Y → Y) (made now : List X) (new x : X) (ahead rest : List X) (whole : List Y) → now ≡ made ++ new ∷ []
    → view new ≡ turned (view x) → ahead ≡ x ∷ rest
    → map view made ++ map turned (map view ahead) ≡ whole → map view now ++ map turned (map view rest) ≡ whole
turned-more view turned made now new x ahead rest whole pushed is next inv =
    let more = map turned (map view rest) in
    ap (λ l. map view l ++ more) pushed
    ∙ ap (λ l. l ++ more) (map_push view made new)
    ∙ append_assoc (map view made) (view new ∷ []) more
    ∙ ap (λ y. map view made ++ y ∷ more) is
    ∙ ap (λ l. map view made ++ map turned (map view l)) (sym next)
    ∙ inv
