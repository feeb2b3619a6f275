-- The fault of a text, by where and why its reading stops.
use Rattle.std.specs.Prelude.{◌≡◌, ℕ, cond, List, [], ◌∷◌, ◌++◌, Option, Some, None, Ok, Err}
use Rattle.rv_syntax.specs.{declared.token.Token.Token, declared.fault.Why.Why, declared.fault.TextFault.TextFault, Faults.is_left_out, Parse.Reading}
use Rattle.rv_syntax.specs.declared.fault.Why.TheVariants as why
use Rattle.rv_syntax.specs.declared.fault.TextFault.TheVariants as fault

-- The fault of a text of this length that is read up to the tokens that are left.
abbrev pub fault_at : List Token → List Token → Why → ℕ → TextFault
fault_at front [] w len = fault.BadText len
fault_at front (t ∷ rest) why.Offends len = cond (is_left_out front t) (fault.LeftOut t.at) (fault.BadText t.at)
fault_at front (t ∷ rest) why.TooDeep len = fault.TooDeep t.at

-- why and where a reading of all tokens falls short, if it does
abbrev pub shortfall : {A : Type 0} → Reading A → Option (Why × List Token)
shortfall (Ok (a, [])) = None
shortfall (Ok (a, t ∷ rest)) = Some (why.Offends, t ∷ rest)
shortfall (Err e) = Some e

-- the fault of where a reading of these tokens, of a text of this length, falls short
abbrev pub FallsShort : {A : Type 0} → List Token → ℕ → Reading A → TextFault → Type 0
FallsShort ts len r f =
    (front : List Token) × (w : Why) × (rest : List Token) × (ts ≡ front ++ rest) × (shortfall r ≡ Some (w, rest)) × (f ≡ fault_at front rest w len)

-- the same, or want of memory
abbrev pub Tells : {A : Type 0} → List Token → ℕ → Reading A → TextFault → Type 0
Tells ts len r fault.Memory = Unit {0}
Tells ts len r (fault.BadText at) = FallsShort ts len r (fault.BadText at)
Tells ts len r (fault.TooDeep at) = FallsShort ts len r (fault.TooDeep at)
Tells ts len r (fault.LeftOut at) = FallsShort ts len r (fault.LeftOut at)
