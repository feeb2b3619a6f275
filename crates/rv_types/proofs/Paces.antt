-- Where no rule of clocks is broken, each expression is free or on a clock, and parts that join have one clock.
use Rattle.std.proofs.Common.{◌≡◌, ◌⊎◌, inl, inr, ℕ, Bool, true, false, cond, List, [], ◌∷◌, refl, sym, ◌∙◌, ap, subst}
use Rattle.std.proofs.lemmas.Bool.{eqb-true}
use Rattle.std.specs.List.{Contains}
use Rattle.rv_tree.specs.Tree.{Tree, Node, Form, Named, Not, Minus, Pre, Current, When, Binary, If, AtMostOne, Call, Trees, None, More, NodeTree}
use Rattle.rv_tree.specs.{declared.tree.Name.Name, declared.tree.Op.Op, Places.Identifier, Places.is_flow, Places.site_of}
use Rattle.rv_tree.specs.declared.tree.Op.TheVariants as op
use Rattle.rv_types.specs.declared.fault.Pace.TheVariants.{Free, At, Mute, Differ}
use Rattle.rv_types.specs.Clocks.{same_clock, seen, meet, grounded, clash_in, clock_at, binary_pace, when_pace, current_pace, name_pace, pace, form_pace}
use Rattle.rv_types.specs.Clocks.{pace_of_all, own_clash, expression_clocks, left_pace}
use Rattle.rv_types.specs.Instances.{IsArgument, head, tail, clock_of, taken, clock_of_args}
use Rattle.rv_types.specs.{declared.typed.Clock.Clock, declared.typed.Clock.TheVariants.Base, declared.typed.Clock.TheVariants.On, declared.fault.Pace.Pace}
use Rattle.rv_types.specs.{Parts.faults_below, Parts.faults_of_all, Names.texts, ToldPaces.IsTimed}
use Rattle.rv_types.proofs.{RightNames.both_empty, Members.nothing_in, Members.cons_cases}

-- its parts have clocks
abbrev IsHeard : Pace → Type 0
IsHeard Mute = ⊥
IsHeard _ = Unit {0}

heard : (p : Pace) → IsTimed p → IsHeard p
heard Mute h = absurd h
heard Differ h = absurd h
heard _ h = tt

timed : (at : ℕ) (p : Pace) → IsHeard p → clash_in at p ≡ [] → IsTimed p
timed at Mute h e = absurd h
timed at Differ h e = cc
timed at _ h e = tt

seen_timed : (p : Pace) → IsTimed p → seen p ≡ p
seen_timed Mute h = absurd h
seen_timed Differ h = absurd h
seen_timed _ h = refl

seen_heard : (p : Pace) → IsTimed p → IsHeard (seen p)
seen_heard p h = subst IsHeard (sym (seen_timed p h)) (heard p h)

choice_heard : (b : Bool) (c : Clock) → IsHeard (cond b (At c) Differ)
choice_heard true c = tt
choice_heard false c = tt

meet_heard : (p q : Pace) → IsHeard p → IsHeard q → IsHeard (meet p q)
meet_heard Mute q g h = absurd g
meet_heard Free Mute g h = absurd h
meet_heard Free _ g h = tt
meet_heard (At c) (At d) g h = choice_heard (same_clock c d) c
meet_heard (At c) Mute g h = absurd h
meet_heard (At c) _ g h = tt
meet_heard Differ Mute g h = absurd h
meet_heard Differ _ g h = tt

grounded_heard : (p : Pace) → IsHeard p → IsHeard (grounded p)
grounded_heard Mute h = absurd h
grounded_heard _ h = tt

binary_heard : (o : Op) (p q : Pace) → IsHeard p → IsHeard q → IsHeard (binary_pace o p q)
binary_heard op.Arrow p q g h = grounded_heard (meet p q) (meet_heard p q g h)
binary_heard _ p q g h = meet_heard p q g h

when_heard : (n : NodeTree) (p : Pace) (i : ℕ) → IsHeard p → IsHeard (when_pace n p i)
when_heard n p i h = by (meet p (At (clock_at n i))) (meet_heard p (At (clock_at n i)) h tt)
  where
    by : (m : Pace) → IsHeard m → IsHeard (elim m as (λ _. Pace) [ Free ↦ At (On i) | At c ↦ At (On i) | Mute ↦ Mute | Differ ↦ Differ ])
    by Mute h = absurd h
    by _ h = tt

current_heard : (n : NodeTree) (p : Pace) → IsTimed p → IsHeard (current_pace n p)
current_heard n Mute h = absurd h
current_heard n Differ h = absurd h
current_heard n (At (On i)) h = tt
current_heard n _ h = tt

name_timed : (n : NodeTree) (x : Identifier) → IsTimed (name_pace n x)
name_timed n x = by (is_flow n x)
  where
    by : (b : Bool) → IsTimed (cond b (At (clock_at n (site_of n x))) Free)
    by true = tt
    by false = tt

module _ (n : NodeTree) where
  mutual
    pub paced : (t : Tree) → expression_clocks n t ≡ [] → IsTimed (pace n t)
    paced (Node at site form) e =
        let s = both_empty _ _ e in timed at (form_pace n form) (form_heard form s.1) s.0

    form_heard : (form : Form) → faults_below (own_clash n) form ≡ [] → IsHeard (form_pace n form)
    form_heard (Named x) e = heard (name_pace n x) (name_timed n x)
    form_heard (Not t) e = seen_heard (pace n t) (paced t e)
    form_heard (Minus t) e = seen_heard (pace n t) (paced t e)
    form_heard (Pre t) e = grounded_heard (seen (pace n t)) (seen_heard (pace n t) (paced t e))
    form_heard (Current t) e = current_heard n (seen (pace n t)) (subst IsTimed (sym (seen_timed (pace n t) (paced t e))) (paced t e))
    form_heard (When t c) e = when_heard n (seen (pace n t)) (site_of n c.text) (seen_heard (pace n t) (paced t e))
    form_heard (Binary o a b) e =
        let s = both_empty _ _ e in
        binary_heard o _ _ (seen_heard _ (paced a s.0)) (seen_heard _ (paced b s.1))
    form_heard (If i a b) e =
        let s = both_empty _ _ e in
        let t = both_empty _ _ s.1 in
        meet_heard _ _ (seen_heard _ (paced i s.0)) (meet_heard _ _ (seen_heard _ (paced a t.0)) (seen_heard _ (paced b t.1)))
    form_heard (AtMostOne es) e = all_heard es e
    form_heard (Call f es) e = grounded_heard (pace_of_all n es) (all_heard es e)
    form_heard _ e = tt

    pub all_heard : (es : Trees) → faults_of_all (own_clash n) es ≡ [] → IsHeard (pace_of_all n es)
    all_heard None e = tt
    all_heard (More t ts) e =
        let s = both_empty _ _ e in meet_heard _ _ (seen_heard _ (paced t s.0)) (all_heard ts s.1)

-- What joins without a clash.

pub clock_same : (c d : Clock) → same_clock c d ≡ true → c ≡ d
clock_same Base Base e = refl
clock_same Base (On j) e = cc
clock_same (On i) Base e = cc
clock_same (On i) (On j) e = ap On (eqb-true i j e)

-- a part is free, or on the clock of the whole
abbrev Agrees : Pace → Pace → Type 0
Agrees p whole = (p ≡ Free) ⊎ (p ≡ whole)

chosen_agree : (b : Bool) (c d : Clock) → (b ≡ true → c ≡ d) → IsTimed (cond b (At c) Differ)
    → Agrees (At c) (cond b (At c) Differ) × Agrees (At d) (cond b (At c) Differ)
chosen_agree true c d same h = (inr refl, inr (ap At (sym (same refl))))
chosen_agree false c d same h = absurd h

meet_agree : (p q : Pace) → IsTimed (meet p q) → Agrees p (meet p q) × Agrees q (meet p q)
meet_agree Mute q h = absurd h
meet_agree Free Free h = (inl refl, inl refl)
meet_agree Free (At d) h = (inl refl, inr refl)
meet_agree Free _ h = absurd h
meet_agree (At c) Free h = (inr refl, inl refl)
meet_agree (At c) (At d) h = chosen_agree (same_clock c d) c d (clock_same c d) h
meet_agree (At c) _ h = absurd h
meet_agree Differ Mute h = absurd h
meet_agree Differ _ h = absurd h

agrees_timed : (p whole : Pace) → Agrees p whole → IsTimed whole → IsTimed p
agrees_timed p whole (inl free) h = subst IsTimed (sym free) tt
agrees_timed p whole (inr same) h = subst IsTimed (sym same) h

agrees_through : (p q r : Pace) → Agrees p q → Agrees q r → Agrees p r
agrees_through p q r (inl free) v = inl free
agrees_through p q r (inr same) (inl free) = inl (same ∙ free)
agrees_through p q r (inr same) (inr other) = inr (same ∙ other)

-- what agrees with a whole has the clock that this gives
taken_agrees : (p whole : Pace) → Agrees p whole → taken (taken Base whole) p ≡ taken Base whole
taken_agrees p whole (inl free) = ap (taken (taken Base whole)) free
taken_agrees p whole (inr same) = ap (taken (taken Base whole)) same ∙ by whole
  where
    by : (w : Pace) → taken (taken Base w) w ≡ taken Base w
    by Free = refl
    by _ = refl

on_agrees : (c d : Clock) (p : Pace) → Agrees (At c) (At d) → Agrees p (At d) → taken c p ≡ c
on_agrees c d p (inl never) v = absurd (let b : ⊥ = cc in b)
on_agrees c d p (inr same) (inl free) = ap (taken c) free
on_agrees c d p (inr same) (inr on) = ap (taken c) (on ∙ sym same)

module _ (n : NodeTree) where
  -- the clock of the arguments of a call is that of each
  argument_agrees : (es : Trees) (j : ℕ) (t : Tree) → faults_of_all (own_clash n) es ≡ [] → IsTimed (pace_of_all n es) → IsArgument es j t
      → Agrees (pace n t) (pace_of_all n es)
  argument_agrees _ _ t e h (head {es}) =
      let s = both_empty _ _ e in
      subst (λ p. Agrees p (meet (seen (pace n t)) (pace_of_all n es))) (seen_timed (pace n t) (paced n t s.0))
      (meet_agree (seen (pace n t)) (pace_of_all n es) h).0
  argument_agrees _ _ t e h (tail {e = b} {es} w) =
      let s = both_empty _ _ e in
      let m = (meet_agree (seen (pace n b)) (pace_of_all n es) h).1 in
      agrees_through _ _ _ (argument_agrees es _ t s.1 (agrees_timed _ _ m h) w) m

  -- the arguments of a call without a clash are free or on a clock
  arguments_timed : (at : ℕ) (es : Trees) → faults_of_all (own_clash n) es ≡ [] → clash_in at (grounded (pace_of_all n es)) ≡ [] → IsTimed (pace_of_all n es)
  arguments_timed at es e h = by (pace_of_all n es) (all_heard n es e) h
    where
      by : (p : Pace) → IsHeard p → clash_in at (grounded p) ≡ [] → IsTimed p
      by Mute h e = absurd h
      by Differ h e = cc
      by _ h e = tt

  -- an argument takes the clock of them all
  pub argument_takes : (at : ℕ) (es : Trees) (j : ℕ) (t : Tree) → clash_in at (grounded (pace_of_all n es)) ≡ [] → faults_of_all (own_clash n) es ≡ []
      → IsArgument es j t → taken (clock_of_args n es) (pace n t) ≡ clock_of_args n es
  argument_takes at es j t own below w =
      taken_agrees (pace n t) (pace_of_all n es) (argument_agrees es j t below (arguments_timed at es below own) w)

  -- the clock of a flow
  flow_pace : (x : Identifier) → is_flow n x ≡ true → name_pace n x ≡ At (clock_of n x)
  flow_pace x e = ap (λ b. cond b (At (clock_at n (site_of n x))) Free) e

  lefts_heard : (xs : List Name) → IsHeard (left_pace n xs)
  lefts_heard [] = tt
  lefts_heard (x ∷ xs) = meet_heard (name_pace n x.text) (left_pace n xs) (heard (name_pace n x.text) (name_timed n x.text)) (lefts_heard xs)

  left_agrees : (xs : List Name) (x : Identifier) → IsTimed (left_pace n xs) → Contains (texts xs) x → Agrees (name_pace n x) (left_pace n xs)
  left_agrees [] x h w = nothing_in x w
  left_agrees (y ∷ ys) x h w =
      let m = meet_agree (name_pace n y.text) (left_pace n ys) h in
      elim (cons_cases y.text (texts ys) x w) [
        | inl same ↦ subst (λ z. Agrees (name_pace n z) (meet (name_pace n y.text) (left_pace n ys))) same m.0
        | inr rest ↦ agrees_through _ _ _ (left_agrees ys x (agrees_timed _ _ m.1 h) rest) m.1
      ]

  -- the two sides of an equation
  module _ (at : ℕ) (xs : List Name) (x : Identifier) (p : Pace) (is : is_flow n x ≡ true) (there : Contains (texts xs) x) (timed_right : IsTimed p)
      (own : clash_in at (meet (left_pace n xs) (seen p)) ≡ []) where
    sides_timed : IsTimed (meet (left_pace n xs) (seen p))
    sides_timed = timed at (meet (left_pace n xs) (seen p)) (meet_heard (left_pace n xs) (seen p) (lefts_heard xs) (seen_heard p timed_right)) own

    left_on : Agrees (At (clock_of n x)) (meet (left_pace n xs) (seen p))
    left_on =
        let m = (meet_agree (left_pace n xs) (seen p) sides_timed).0 in
        subst (λ q. Agrees q (meet (left_pace n xs) (seen p))) (flow_pace x is)
        (agrees_through _ _ _ (left_agrees xs x (agrees_timed _ _ m sides_timed) there) m)

    right_on : Agrees p (meet (left_pace n xs) (seen p))
    right_on = subst (λ q. Agrees q (meet (left_pace n xs) (seen p))) (seen_timed p timed_right) (meet_agree (left_pace n xs) (seen p) sides_timed).1

    -- have one clock
    pub sides_take : taken (clock_of n x) p ≡ clock_of n x
    sides_take = by (meet (left_pace n xs) (seen p)) sides_timed left_on right_on
      where
        by : (m : Pace) → IsTimed m → Agrees (At (clock_of n x)) m → Agrees p m → taken (clock_of n x) p ≡ clock_of n x
        by Free h (inl never) v = absurd (let b : ⊥ = cc in b)
        by Free h (inr never) v = absurd (let b : ⊥ = cc in b)
        by (At d) h u v = on_agrees (clock_of n x) d p u v
        by Mute h u v = absurd h
        by Differ h u v = absurd h

-- the same where the right side is a call
pub call_takes : (n : NodeTree) (at : ℕ) (xs : List Name) (x : Identifier) (es : Trees) → is_flow n x ≡ true → Contains (texts xs) x
    → faults_of_all (own_clash n) es ≡ []
    → clash_in at (grounded (pace_of_all n es)) ≡ [] → clash_in at (meet (left_pace n xs) (seen (grounded (pace_of_all n es)))) ≡ []
    → clock_of_args n es ≡ clock_of n x
call_takes n at xs x es is there below own sides =
    let h = arguments_timed n at es below own in
    by (pace_of_all n es) h (sides_take n at xs x (grounded (pace_of_all n es)) is there
    (timed at (grounded (pace_of_all n es)) (grounded_heard (pace_of_all n es) (heard (pace_of_all n es) h)) own) sides)
  where
    by : (p : Pace) → IsTimed p → taken (clock_of n x) (grounded p) ≡ clock_of n x → taken Base p ≡ clock_of n x
    by Mute h e = absurd h
    by Differ h e = absurd h
    by _ h e = e
