-- The clocks of flows and expressions stand for no more than the flows of their node.
use Rattle.std.proofs.Common.{ℕ, ◌+◌, ◌<◌, ◌≤◌, ◌^◌, length, arith, Some, None as Nothing}
use Rattle.rv_tree.specs.Tree.{Tree, Node, Form, Named, Not, Minus, Pre, Current, When, Binary, If, AtMostOne, Call, Trees, None, More, NodeTree}
use Rattle.rv_tree.specs.Places.{flows, site_of, is_flow}
use Rattle.rv_tree.specs.{declared.tree.Op.Op}
use Rattle.rv_tree.specs.declared.tree.Op.TheVariants as op
use Rattle.rv_types.specs.declared.typed.Clock.TheVariants.{Base, On}
use Rattle.rv_types.specs.declared.fault.Pace.TheVariants.{Free, At}
use Rattle.rv_types.specs.Clocks.{declared_clock, seen, meet, clock_at, pace, form_pace, pace_of_all}
use Rattle.rv_types.specs.ToldPaces.{first_pace, operator_told, told_pace, form_told, told_pace_of_all}
use Rattle.rv_types.specs.{declared.typed.Clock.Clock, declared.fault.Pace.Pace, Instances.taken}
use Rattle.rv_instances.specs.Layouts.{IsWithin}
use Rattle.rv_instances.proofs.PaceRules.{IsKept, seen_holds, grounded_holds, meet_holds, binary_holds, when_holds, flow_holds, current_holds, name_holds}
use Rattle.rv_types.proofs.NamePlaces.{index_low}

abbrev pub IsLow : NodeTree → Clock → Type 0
IsLow n Base = Unit {0}
IsLow n (On c) = c ≤ length (flows n)

abbrev pub IsLowPace : NodeTree → Pace → Type 0
IsLowPace n (At c) = IsLow n c
IsLowPace n _ = Unit {0}

module _ (n : NodeTree) where
  kept : IsKept (IsLowPace n)
  kept = record { free = tt; base = tt; mute = tt; differ = tt }

  -- the clock of a flow
  pub clock_low : (i : ℕ) → IsLow n (clock_at n i)
  clock_low = flow_holds kept n (λ d w. elim d.clock as (λ o. IsLow n (declared_clock n o)) [ Nothing ↦ tt | Some c ↦ index_low (flows n) c.text ])

  mutual
    -- the clock of an expression
    pub pace_low : (e : Tree) → IsLowPace n (pace n e)
    pace_low (Node at site form) = form_low form

    form_low : (form : Form) → IsLowPace n (form_pace n form)
    form_low (Named x) = name_holds kept n clock_low (is_flow n x) (site_of n x)
    form_low (Not t) = seen_holds kept (pace n t) (pace_low t)
    form_low (Minus t) = seen_holds kept (pace n t) (pace_low t)
    form_low (Pre t) = grounded_holds kept (seen (pace n t)) (seen_holds kept (pace n t) (pace_low t))
    form_low (Current t) = current_holds kept n clock_low (seen (pace n t))
    form_low (When t x) = when_holds kept n (seen (pace n t)) (site_of n x.text) (index_low (flows n) x.text)
    form_low (Binary o a b) =
        binary_holds kept o (seen (pace n a)) (seen (pace n b)) (seen_holds kept (pace n a) (pace_low a)) (seen_holds kept (pace n b) (pace_low b))
    form_low (If i a b) =
        meet_holds kept (seen (pace n i)) (meet (seen (pace n a)) (seen (pace n b))) (seen_holds kept (pace n i) (pace_low i))
        (meet_holds kept (seen (pace n a)) (seen (pace n b)) (seen_holds kept (pace n a) (pace_low a)) (seen_holds kept (pace n b) (pace_low b)))
    form_low (AtMostOne es) = all_low es
    form_low (Call f es) = grounded_holds kept (pace_of_all n es) (all_low es)
    form_low _ = tt

    all_low : (es : Trees) → IsLowPace n (pace_of_all n es)
    all_low None = tt
    all_low (More t ts) = meet_holds kept (seen (pace n t)) (pace_of_all n ts) (seen_holds kept (pace n t) (pace_low t)) (all_low ts)

  first_low : (p q : Pace) → IsLowPace n p → IsLowPace n q → IsLowPace n (first_pace p q)
  first_low Free q h k = k
  first_low (At c) q h k = h
  first_low _ q h k = tt

  operator_low : (o : Op) (p : Pace) → IsLowPace n p → IsLowPace n (operator_told o p)
  operator_low op.Arrow p h = grounded_holds kept p h
  operator_low _ p h = h

  mutual
    -- the clock that an expression tells
    pub told_low : (e : Tree) → IsLowPace n (told_pace n e)
    told_low (Node at site form) = form_told_low form

    form_told_low : (form : Form) → IsLowPace n (form_told n form)
    form_told_low (Named x) = name_holds kept n clock_low (is_flow n x) (site_of n x)
    form_told_low (Not t) = told_low t
    form_told_low (Minus t) = told_low t
    form_told_low (Pre t) = grounded_holds kept (told_pace n t) (told_low t)
    form_told_low (Current t) = current_holds kept n clock_low (seen (told_pace n t))
    form_told_low (When t x) = index_low (flows n) x.text
    form_told_low (Binary o a b) =
        operator_low o (first_pace (told_pace n a) (told_pace n b)) (first_low (told_pace n a) (told_pace n b) (told_low a) (told_low b))
    form_told_low (If i a b) =
        first_low (first_pace (told_pace n i) (told_pace n a)) (told_pace n b)
        (first_low (told_pace n i) (told_pace n a) (told_low i) (told_low a)) (told_low b)
    form_told_low (AtMostOne es) = all_told_low es
    form_told_low (Call f es) = grounded_holds kept (told_pace_of_all n es) (all_told_low es)
    form_told_low _ = tt

    all_told_low : (es : Trees) → IsLowPace n (told_pace_of_all n es)
    all_told_low None = tt
    all_told_low (More t ts) = first_low (told_pace n t) (told_pace_of_all n ts) (told_low t) (all_told_low ts)

pub taken_low : (n : NodeTree) (p : Pace) → IsLowPace n p → IsLow n (taken Base p)
taken_low n (At c) h = h
taken_low n _ h = tt

-- where so many flows have numbers of 32 bits, the flow of the clock has
pub low_within : (n : NodeTree) (first : ℕ) (k : Clock) → first + length (flows n) < 2 ^ 32 → IsLow n k → IsWithin first k
low_within n first Base room low = tt
low_within n first (On c) room low = omega (arith, room, low)
