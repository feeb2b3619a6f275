-- The first operand with a clock tells the pace of an expression that is free or on a clock.
use Rattle.std.proofs.Common.{◌≡◌, ℕ, Bool, true, false, cond, refl, sym, ◌∙◌, ap}
use Rattle.rv_tree.specs.Tree.{Tree, Form, Trees, Node, Not, Minus, Pre, Current, When, Binary, If, AtMostOne, Call, None, More, NodeTree}
use Rattle.rv_tree.specs.{declared.tree.Op.Op, Places.site_of}
use Rattle.rv_tree.specs.declared.tree.Op.TheVariants as op
use Rattle.rv_types.specs.declared.fault.Pace.TheVariants.{Free, At, Mute, Differ}
use Rattle.rv_types.specs.Clocks.{same_clock, clock_at, seen, meet, grounded, binary_pace, when_pace, current_pace, pace, form_pace, pace_of_all}
use Rattle.rv_types.specs.ToldPaces.{IsTimed, first_pace, operator_told, told_pace, form_told, told_pace_of_all}
use Rattle.rv_types.specs.{declared.typed.Clock.Clock, declared.typed.Clock.TheVariants.On, declared.fault.Pace.Pace}

-- a part that is seen with a clock, or free, is so
pub seen_is : (p : Pace) → IsTimed (seen p) → IsTimed p × (seen p ≡ p)
seen_is Mute h = absurd h
seen_is Differ h = absurd h
seen_is _ h = (tt, refl)

pub grounded_is : (p : Pace) → IsTimed (grounded p) → IsTimed p
grounded_is Mute h = absurd h
grounded_is Differ h = absurd h
grounded_is _ h = tt

pub current_is : (n : NodeTree) (p : Pace) → IsTimed (current_pace n p) → IsTimed p
current_is n (At (On i)) h = tt
current_is n _ h = absurd h

-- of three paces the first that is not free, in two ways
pub first_assoc : (p q r : Pace) → first_pace (first_pace p q) r ≡ first_pace p (first_pace q r)
first_assoc Free q r = refl
first_assoc _ q r = refl

-- two that join have clocks, or are free, and the first that is not free tells that of both
pub record AreJoined (p q : Pace) : Type 0 where
  pub left : IsTimed p
  pub right : IsTimed q
  pub first : first_pace p q ≡ meet p q

same_joined : (b : Bool) (c : Clock) → IsTimed (cond b (At c) Differ) → ◌≡◌ {A = Pace} (At c) (cond b (At c) Differ)
same_joined true c h = refl
same_joined false c h = absurd h

pub joined : (p q : Pace) → IsTimed (meet p q) → AreJoined p q
joined Mute q h = absurd h
joined Free Mute h = absurd h
joined Free Differ h = absurd h
joined Free _ h = record { left = tt; right = tt; first = refl }
joined (At c) Free h = record { left = tt; right = tt; first = refl }
joined (At c) (At d) h = record { left = tt; right = tt; first = same_joined (same_clock c d) c h }
joined (At c) _ h = absurd h
joined Differ Mute h = absurd h
joined Differ _ h = absurd h

-- the same of an operator
pub record AreOperands (o : Op) (p q : Pace) : Type 0 where
  pub left : IsTimed p
  pub right : IsTimed q
  pub told : operator_told o (first_pace p q) ≡ binary_pace o p q

pub operands : (o : Op) (p q : Pace) → IsTimed (binary_pace o p q) → AreOperands o p q
operands op.Arrow p q h = let j = joined p q (grounded_is (meet p q) h) in record { left = j.left; right = j.right; told = ap grounded j.first }
operands _ p q h = let j = joined p q h in record { left = j.left; right = j.right; told = j.first }

-- `E when C`: the clock of C tells it, and E is free or on a clock
pub when_is : (n : NodeTree) (p : Pace) (i : ℕ) → IsTimed (when_pace n p i) → IsTimed p × (◌≡◌ {A = Pace} (At (On i)) (when_pace n p i))
when_is n p i h = let w = at (meet p (At (clock_at n i))) h in ((joined p (At (clock_at n i)) w.0).left, w.1)
  where
    at : (m : Pace) → IsTimed (elim m as (λ _. Pace) [ Free ↦ At (On i) | At c ↦ At (On i) | Mute ↦ Mute | Differ ↦ Differ ])
        → IsTimed m × (◌≡◌ {A = Pace} (At (On i)) (elim m as (λ _. Pace) [ Free ↦ At (On i) | At c ↦ At (On i) | Mute ↦ Mute | Differ ↦ Differ ]))
    at Mute h = absurd h
    at Differ h = absurd h
    at _ h = (tt, refl)

module _ (n : NodeTree) where
  mutual
    -- what an expression tells is its pace, where that is free or a clock
    pub told_is : (e : Tree) → IsTimed (pace n e) → told_pace n e ≡ pace n e
    told_is (Node at site form) h = form_is form h

    form_is : (form : Form) → IsTimed (form_pace n form) → form_told n form ≡ form_pace n form
    form_is (Not e) h = seen_told e h
    form_is (Minus e) h = seen_told e h
    form_is (Pre e) h = ap grounded (seen_told e (grounded_is (seen (pace n e)) h))
    form_is (Current e) h = let s = seen_is (pace n e) (current_is n (seen (pace n e)) h) in ap (λ (p : Pace). current_pace n (seen p)) (told_is e s.0)
    form_is (When e c) h = (when_is n (seen (pace n e)) (site_of n c.text) h).1
    form_is (Binary o a b) h =
        let s = operands o (seen (pace n a)) (seen (pace n b)) h in
        let left = seen_told a s.left in
        let right = seen_told b s.right in
        (λ i. operator_told o (first_pace (left i) (right i))) ∙ s.told
    form_is (If a b c) h =
        let s = joined (seen (pace n a)) (meet (seen (pace n b)) (seen (pace n c))) h in
        let t = joined (seen (pace n b)) (seen (pace n c)) s.right in
        let condition = seen_told a s.left in
        let first = seen_told b t.left in
        let second = seen_told c t.right in
        (λ i. first_pace (first_pace (condition i) (first i)) (second i)) ∙ first_assoc (seen (pace n a)) (seen (pace n b)) (seen (pace n c))
        ∙ ap (λ (p : Pace). first_pace (seen (pace n a)) p) t.first ∙ s.first
    form_is (AtMostOne es) h = all_is es h
    form_is (Call f es) h = ap grounded (all_is es (grounded_is (pace_of_all n es) h))
    form_is _ h = refl

    seen_told : (e : Tree) → IsTimed (seen (pace n e)) → told_pace n e ≡ seen (pace n e)
    seen_told (Node at site form) h = let s = seen_is (form_pace n form) h in form_is form s.0 ∙ sym s.1

    pub all_is : (es : Trees) → IsTimed (pace_of_all n es) → told_pace_of_all n es ≡ pace_of_all n es
    all_is None h = refl
    all_is (More e es) h =
        let s = joined (seen (pace n e)) (pace_of_all n es) h in
        let one = seen_told e s.left in
        let rest = all_is es s.right in
        (λ i. first_pace (one i) (rest i)) ∙ s.first
