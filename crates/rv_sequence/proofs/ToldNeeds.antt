-- Of an expression that is free or on a clock, what is needed by the clocks that operands tell is what is needed.
use Rattle.std.proofs.Common.{◌≡◌, ℕ, ◌++◌, refl, Option}
use Rattle.rv_tree.specs.Tree.{Tree, Node, Form, Not, Minus, Current, When, Binary, If, AtMostOne, Trees, None, More, NodeTree}
use Rattle.rv_tree.specs.Places.{site_of}
use Rattle.rv_types.specs.Clocks.{seen, meet, pace, form_pace, pace_of_all}
use Rattle.rv_types.specs.{declared.typed.Clock.TheVariants.Base, Instances.clock_of, Instances.taken, ToldPaces.IsTimed, ToldPaces.told_clock}
use Rattle.rv_types.proofs.ToldPaces.{seen_is, current_is, joined, operands, when_is, told_is}
use Rattle.rv_instances.specs.{Layouts.Here, NumberedNeeds.listed, NumberedNeeds.clock_number}
use Rattle.rv_sequence.specs.Needed.{needed, form_needed, needed_by_all, form_needed_by, told_needed, told_needed_by_all}

module _ (n : NodeTree) (h : Here) where
  mutual
    pub told_needs : (e : Tree) → IsTimed (pace n e) → told_needed n h e ≡ needed n h e
    told_needs (Node at site form) t = form_told_needs site form t

    form_told_needs : (site : Option ℕ) (form : Form) → IsTimed (form_pace n form) → form_needed_by n h (told_clock n) site form ≡ form_needed n h site form
    form_told_needs site (Not e) t = seen_needs e t
    form_told_needs site (Minus e) t = seen_needs e t
    form_told_needs site (Current e) t =
        let s = current_is n (seen (pace n e)) t in
        let inside = seen_needs e s in
        let clock = told_is n e (seen_is (pace n e) s).0 in
        λ i. inside i ++ listed (clock_number h (taken Base (clock i)))
    form_told_needs site (When e c) t =
        let inside = seen_needs e (when_is n (seen (pace n e)) (site_of n c.text) t).0 in
        λ i. inside i ++ listed (clock_number h (clock_of n c.text))
    form_told_needs site (Binary o a b) t =
        let s = operands o (seen (pace n a)) (seen (pace n b)) t in
        λ i. seen_needs a s.left i ++ seen_needs b s.right i
    form_told_needs site (If a b c) t =
        let s = joined (seen (pace n a)) (meet (seen (pace n b)) (seen (pace n c))) t in
        let r = joined (seen (pace n b)) (seen (pace n c)) s.right in
        λ i. seen_needs a s.left i ++ (seen_needs b r.left i ++ seen_needs c r.right i)
    form_told_needs site (AtMostOne es) t = all_told_needs es t
    form_told_needs site _ t = refl

    seen_needs : (e : Tree) → IsTimed (seen (pace n e)) → told_needed n h e ≡ needed n h e
    seen_needs (Node at site form) t = form_told_needs site form (seen_is (form_pace n form) t).0

    all_told_needs : (es : Trees) → IsTimed (pace_of_all n es) → told_needed_by_all n h es ≡ needed_by_all n h es
    all_told_needs None t = refl
    all_told_needs (More e es) t =
        let s = joined (seen (pace n e)) (pace_of_all n es) t in
        λ i. seen_needs e s.left i ++ all_told_needs es s.right i
