-- One fault at most is the first.
use Rattle.std.proofs.Common.{◌≡◌, ℕ, inl, inr, cond, nat_eq, List, [], ◌∷◌, refl, sym, ap, ◌∙◌, arith, length}
use Rattle.rv_types.specs.declared.fault.NameFault.TheVariants.{NoNode, UnknownName, DefinedTwice, Undefined, TypeClash, Nonlinear, ClockClash, NotObserver}
use Rattle.rv_types.specs.declared.fault.NameFault.TheVariants.{Memory}
use Rattle.rv_types.specs.{declared.fault.NameFault.NameFault, Faults.offset, Faults.number, Faults.ComesBefore, Faults.IsFirst, Faults.IsFirstOfGroups}

-- the fault of a number at an offset
numbered : ℕ → ℕ → NameFault
numbered n at = cond (nat_eq n 4) NoNode (cond (nat_eq n 5) (UnknownName at) (cond (nat_eq n 6) (DefinedTwice at) (cond (nat_eq n 7) (Undefined at)
    (cond (nat_eq n 8) (TypeClash at) (cond (nat_eq n 9) (Nonlinear at) (cond (nat_eq n 10) (ClockClash at) (cond (nat_eq n 11) (NotObserver at) Memory)))))))

numbered_is : (f : NameFault) → numbered (number f) (offset f) ≡ f
unfolding numbered
numbered_is NoNode = refl
numbered_is _ = refl

both_ways : (f g : NameFault) → ComesBefore f g → ComesBefore g f → (offset f ≡ offset g) × (number f ≡ number g)
both_ways f g (inl a) (inl b) = absurd (omega (arith, a, b))
both_ways f g (inl a) (inr b) = absurd (omega (arith, a, b.0))
both_ways f g (inr a) (inl b) = absurd (omega (arith, a.0, b))
both_ways f g (inr a) (inr b) = (a.0, omega (arith, a.1, b.1))

pub one_first : (fs : List NameFault) (f g : NameFault) → IsFirst f fs → IsFirst g fs → f ≡ g
one_first fs f g a b =
    let same = both_ways f g (a.1 g b.0) (b.1 f a.0) in
    sym (numbered_is f) ∙ (λ i. numbered (same.1 i) (same.0 i)) ∙ numbered_is g

pub none_first : (fs : List NameFault) (f : NameFault) → IsFirst f fs → fs ≡ [] → ⊥
none_first fs f a e = let long = ap length e in absurd (omega (arith, long, a.0.1))

pub one_of_groups : (groups : List (List NameFault)) (f g : NameFault) → IsFirstOfGroups groups f → IsFirstOfGroups groups g → f ≡ g
one_of_groups [] f g a b = absurd a
one_of_groups (fs ∷ groups) f g (inl a) (inl b) = one_first fs f g a b
one_of_groups (fs ∷ groups) f g (inl a) (inr b) = absurd (none_first fs f a b.0)
one_of_groups (fs ∷ groups) f g (inr a) (inl b) = absurd (none_first fs g b a.0)
one_of_groups (fs ∷ groups) f g (inr a) (inr b) = one_of_groups groups f g a.1 b.1
