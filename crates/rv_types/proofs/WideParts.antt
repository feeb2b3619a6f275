-- A walk over some expressions of a constant, and the values of the first constants.
use Rattle.std.proofs.Common.{◌≡◌, ℕ, ◌+◌, ◌<◌, ◌≤◌, min, Bool, true, false, not, ◌&&◌, ◌||◌, List, ◌∷◌, ◌++◌, length, map, reverse, take, drop, get_or, []}
use Rattle.std.proofs.Common.{append-nil, append_assoc, Option, Some, refl, sym, ap, ◌∙◌, arith}
use Rattle.std.proofs.{Math.Seq.take-append_seam, lemmas.List.length-reverse, lemmas.List.reverse-append, lemmas.List.take-append-drop}
use Rattle.rv_base.specs.declared.value.Value.{Value}
use Rattle.rv_tree.specs.{declared.tree.Expr.Expr, Tree.More, Tree.ConstantTree, Tree.ProgramTree, Tree.tree_of, Tree.trees}
use Rattle.rv_types.specs.Scopes.{constant_value_after, constant_values, constant_values_of}
use Rattle.rv_types.specs.{Constants.value_of, ValueTables.at_most_after, WideConstants.lesser}
use Rattle.rv_base.proofs.Lists.{next_of}
use Rattle.rv_types.proofs.{ConstantMeanings.value_meant, ConstantMeanings.values_all, LastFirst.all_of-length, Turned.turned-length}

-- the rest of some expressions from one on
pub rest_is : (es : List Expr) (i : ℕ) (e : Expr) → i < length es → e ≡ get_or es i e
    → trees (map tree_of (drop i es)) ≡ More (tree_of e) (trees (map tree_of (drop (i + 1) es)))
rest_is es i e lt is = ap (λ l. trees (map tree_of l)) (next_of es i e lt is)

-- one flag more
pub seen_more : (some several f : Bool) (fs : List Bool) → (not (several || (some && f)) && at_most_after (some || f) fs)
    ≡ (not several && at_most_after some (f ∷ fs))
seen_more some true f fs = refl
seen_more true false f fs = refl
seen_more false false true fs = refl
seen_more false false false fs = refl

-- the lesser of three offsets
pub lesser_more : (a b c : Option ℕ) → lesser (lesser a b) c ≡ lesser a (lesser b c)
lesser_more (Some a) (Some b) (Some c) = ap Some (let e : min (min a b) c ≡ min a (min b c) = omega arith in e)
lesser_more _ _ _ = refl

-- The values of the first constants.

values_long : (p : ProgramTree) (cs : List ConstantTree) → length (constant_values_of p cs) ≡ length cs
values_long p cs = ap length (values_all p cs) ∙ all_of-length (value_meant p) cs

values_begin : (p : ProgramTree) (xs ys : List ConstantTree) → (more : List Value) × (constant_values_of p (xs ++ ys) ≡ constant_values_of p ys ++ more)
values_begin p [] ys = ([], sym (append-nil (constant_values_of p ys)))
values_begin p (c ∷ xs) ys =
    let w = values_begin p xs ys in
    let v = value_of (constant_value_after p (xs ++ ys)) c.body ∷ [] in
    (w.0 ++ v, ap (λ l. l ++ v) w.1 ∙ append_assoc (constant_values_of p ys) w.0 v)

pub values_sized : (p : ProgramTree) → length (constant_values p) ≡ length p.constants
values_sized p = values_long p (reverse p.constants) ∙ length-reverse p.constants

pub first_values : (p : ProgramTree) (k : ℕ) → k ≤ length p.constants → take k (constant_values p) ≡ constant_values_of p (reverse (take k p.constants))
first_values p k le =
    let ys = reverse (take k p.constants) in
    let w = values_begin p (reverse (drop k p.constants)) ys in
    let size : k ≡ length (constant_values_of p ys) = sym (values_long p ys ∙ turned-length p.constants k le) in
    ap (take k) (ap (constant_values_of p) (ap reverse (sym (take-append-drop k p.constants)) ∙ reverse-append (take k p.constants) (drop k p.constants)) ∙ w.1)
    ∙ ap (λ n. take n (constant_values_of p ys ++ w.0)) size ∙ take-append_seam (constant_values_of p ys) w.0
