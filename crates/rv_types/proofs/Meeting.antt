-- The one clock of several operands.
use Rattle.std.proofs.Common.{◌≡◌, ◌∙◌, true, false, cond, refl, sym, ap, arith}
use Rattle.std.proofs.lemmas.Bool.Decides.{nat_tests}
use Rattle.rv_types.specs.declared.fault.Pace.TheVariants.{Free, At, Mute, Differ}
use Rattle.rv_types.specs.{declared.typed.Clock.Clock, declared.typed.Clock.TheVariants.Base, declared.typed.Clock.TheVariants.On, declared.fault.Pace.Pace}
use Rattle.rv_types.specs.{Clocks.same_clock, Clocks.meet}

pub meet_free : (p : Pace) → meet p Free ≡ p
meet_free Free = refl
meet_free _ = refl

free_meet : (p : Pace) → meet Free p ≡ p
free_meet Free = refl
free_meet _ = refl

clocks_assoc : (c d e : Clock) → meet (meet (At c) (At d)) (At e) ≡ meet (At c) (meet (At d) (At e))
clocks_assoc Base Base Base = refl
clocks_assoc Base Base (On k) = refl
clocks_assoc Base (On j) Base = refl
clocks_assoc Base (On j) (On k) = grind (arith, nat_tests)
clocks_assoc (On i) Base Base = refl
clocks_assoc (On i) Base (On k) = refl
clocks_assoc (On i) (On j) Base = grind (arith, nat_tests)
clocks_assoc (On i) (On j) (On k) = grind (arith, nat_tests)

differ_at : (c d : Clock) → meet (meet (At c) (At d)) Differ ≡ Differ
differ_at c d = elim (same_clock c d) as (λ b. meet (cond b (At c) Differ) Differ ≡ Differ) [ true ↦ refl | false ↦ refl ]

mute_at : (c d : Clock) → meet (meet (At c) (At d)) Mute ≡ Mute
mute_at c d = elim (same_clock c d) as (λ b. meet (cond b (At c) Differ) Mute ≡ Mute) [ true ↦ refl | false ↦ refl ]

pub meet_assoc : (p q r : Pace) → meet (meet p q) r ≡ meet p (meet q r)
meet_assoc Mute q r = refl
meet_assoc Free q r = ap (λ p. meet p r) (free_meet q) ∙ sym (free_meet (meet q r))
meet_assoc (At c) Mute r = refl
meet_assoc (At c) Free r = sym (ap (meet (At c)) (free_meet r))
meet_assoc (At c) (At d) Free = meet_free (meet (At c) (At d))
meet_assoc (At c) (At d) (At e) = clocks_assoc c d e
meet_assoc (At c) (At d) Mute = mute_at c d
meet_assoc (At c) (At d) Differ = differ_at c d
meet_assoc (At c) Differ Free = refl
meet_assoc (At c) Differ _ = refl
meet_assoc Differ Mute r = refl
meet_assoc Differ Free r = sym (ap (meet Differ) (free_meet r))
meet_assoc Differ (At d) (At e) = elim (same_clock d e) as (λ b. Differ ≡ meet Differ (cond b (At d) Differ)) [ true ↦ refl | false ↦ refl ]
meet_assoc Differ (At d) Free = refl
meet_assoc Differ (At d) _ = refl
meet_assoc Differ Differ Free = refl
meet_assoc Differ Differ _ = refl
