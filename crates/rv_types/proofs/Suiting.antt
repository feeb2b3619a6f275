-- A clock that suits an expression suits its operands.
use Rattle.std.proofs.Common.{◌≡◌, ℕ, true, false, cond, refl, sym, ◌∙◌}
use Rattle.rv_tree.specs.{declared.tree.Op.Op, Tree.NodeTree}
use Rattle.rv_tree.specs.declared.tree.Op.TheVariants as op
use Rattle.rv_types.specs.declared.typed.Clock.TheVariants.{Base, On}
use Rattle.rv_types.specs.declared.fault.Pace.TheVariants.{Free, At, Mute, Differ}
use Rattle.rv_types.specs.Clocks.{same_clock, seen, meet, grounded, clock_at, binary_pace, when_pace, current_pace}
use Rattle.rv_types.specs.{declared.typed.Clock.Clock, declared.fault.Pace.Pace, Instances.taken, ToldPaces.IsTimed, WellFormed.Suits}
use Rattle.rv_types.proofs.Paces.{clock_same}

-- what suits a clock takes it
pub suits_taken : (k : Clock) (p : Pace) → Suits k p → taken k p ≡ k
suits_taken k Free s = refl
suits_taken k (At c) s = s
suits_taken k _ s = absurd s

-- and has a clock or is free
pub suits_timed : (k : Clock) (p : Pace) → Suits k p → IsTimed p
suits_timed k Mute s = s
suits_timed k Differ s = s
suits_timed k _ s = tt

-- what suits a part, as its whole sees it, suits it
pub suits_seen : (k : Clock) (p : Pace) → Suits k (seen p) → Suits k p
suits_seen k Free s = tt
suits_seen k _ s = s

-- of two parts it suits both
pub suits_both : (k : Clock) (p q : Pace) → Suits k (meet p q) → Suits k p × Suits k q
suits_both k Mute q s = absurd s
suits_both k Free Free s = (tt, tt)
suits_both k Free (At d) s = (tt, s)
suits_both k Free _ s = absurd s
suits_both k (At c) Free s = (s, tt)
suits_both k (At c) (At d) s = elim (same_clock c d) as (λ b. same_clock c d ≡ b → Suits k (cond b (At c) Differ) → (c ≡ k) × (d ≡ k))
    [ true ↦ λ e h. (h, sym (clock_same c d e) ∙ h) | false ↦ λ e h. absurd h ] refl s
suits_both k (At c) _ s = absurd s
suits_both k Differ Free s = absurd s
suits_both k Differ _ s = absurd s

-- of two parts, as their whole sees them, it suits both
pub suits_parts : (k : Clock) (p q : Pace) → Suits k (meet (seen p) (seen q)) → Suits k p × Suits k q
suits_parts k p q s = let both = suits_both k (seen p) (seen q) s in (suits_seen k p both.0, suits_seen k q both.1)

-- what suits a pace that is put on the base clock suits it
pub suits_ground : (k : Clock) (p : Pace) → Suits k (grounded p) → Suits k p
suits_ground k Free s = tt
suits_ground k _ s = s

-- and is the clock that it takes
pub ground_taken : (k : Clock) (p : Pace) → Suits k (grounded p) → taken Base p ≡ k
ground_taken k Mute s = absurd s
ground_taken k Differ s = absurd s
ground_taken k _ s = s

-- the clock that is taken suits
pub taken_suits : (k : Clock) (p : Pace) → Suits k p → Suits (taken k p) p
taken_suits k Free s = tt
taken_suits k (At c) s = refl
taken_suits k _ s = s

-- the operands of an operator
pub suits_operands : (k : Clock) (o : Op) (p q : Pace) → Suits k (binary_pace o (seen p) (seen q)) → Suits k p × Suits k q
suits_operands k op.Arrow p q s = suits_parts k p q (suits_ground k (meet (seen p) (seen q)) s)
suits_operands k _ p q s = suits_parts k p q s

-- the operand of a `current` is on a clock of its own
pub suits_current : (n : NodeTree) (k : Clock) (p : Pace) → Suits k (current_pace n (seen p)) → Suits (taken Base p) p
suits_current n k Free s = tt
suits_current n k (At c) s = refl
suits_current n k _ s = s

-- the pace of a `when`, by what its operand and the clock's own clock have in common
abbrev whole_pace : ℕ → Pace → Pace
whole_pace i r = elim r as (λ _. Pace) [ Free ↦ At (On i) | At c ↦ At (On i) | Mute ↦ Mute | Differ ↦ Differ ]

-- the operand of a `when` is on the clock's own clock, and the whole on the clock
pub suits_when : (n : NodeTree) (k : Clock) (p : Pace) (i : ℕ) → Suits k (when_pace n (seen p) i) → Suits (clock_at n i) p × (On i ≡ k)
suits_when n k Free i s = (tt, s)
suits_when n k (At c) i s = elim (same_clock c (clock_at n i))
    as (λ b. same_clock c (clock_at n i) ≡ b → Suits k (whole_pace i (cond b (At c) Differ)) → (c ≡ clock_at n i) × (On i ≡ k))
    [ true ↦ λ e h. (clock_same c (clock_at n i) e, h) | false ↦ λ e h. absurd h ] refl s
suits_when n k _ i s = absurd s
