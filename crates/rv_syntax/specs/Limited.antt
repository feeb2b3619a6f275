-- Reading an expression beside a counter of its nesting.
use Rattle.std.specs.Prelude.{ℕ, ◌+◌, cond, nat_le, List, [], ◌∷◌, Option, Some, None, Result, Ok, Err}
use Rattle.rv_syntax.specs.Nesting.{Weight, Operator, Opening, Closing, Parting, Plain, weight, limit}
use Rattle.rv_syntax.specs.Machine.{next_of, Frame, Held, State, Have, Move, To, Ends, Fails, wrapped, awaited, step, finish}
use Rattle.rv_syntax.specs.{declared.token.Token.Token, declared.fault.Why.Why, declared.fault.Why.TheVariants.Offends, declared.fault.Why.TheVariants.TooDeep}
use Rattle.rv_tree.specs.Tree.{Tree}

-- the nesting now, and what it was before each open bracket
pub record Counts : Type 0 where
  pub now : ℕ
  pub saved : List ℕ

abbrev pub counts : ℕ → List ℕ → Counts
counts n ss = record { now = n; saved = ss }

abbrev pub closing : ℕ → List ℕ → Counts
closing n [] = counts n []
closing n (s ∷ ss) = counts s ss

-- After a comma the bracket around it is all that its part counts.
abbrev pub parting : ℕ → List ℕ → Counts
parting n [] = counts n []
parting n (s ∷ ss) = counts (s + 1) (s ∷ ss)

abbrev pub count : Weight → Counts → Counts
count Operator c = counts (c.now + 1) c.saved
count Opening c = counts (c.now + 1) (c.now ∷ c.saved)
count Closing c = closing c.now c.saved
count Parting c = parting c.now c.saved
count Plain c = c

abbrev pub Limited : Type 0
Limited = Result (Tree × List Token) (Why × List Token)

abbrev pub at_end : Move → Limited
at_end (To st) = Err (Offends, [])
at_end (Ends t) = Ok (t, [])
at_end Fails = Err (Offends, [])

abbrev pub going : Move → Counts → (State → Limited) → List Token → Limited
going (To st) c go ts = cond (nat_le c.now limit) (go st) (Err (TooDeep, ts))
going (Ends t) c go ts = Ok (t, ts)
going Fails c go ts = Err (Offends, ts)

-- The tree of the longest expression and the tokens after it; or the tokens from the one on that offends or
-- is nested too deep, and which of the two it is.
unfoldable pub limited : Counts → State → List Token → Limited
limited c st [] = at_end (finish st)
limited c st (t ∷ ts) = going (step st t) (count (weight t) c) (λ q. limited (count (weight t) c) q ts) (t ∷ ts)

-- the token that a frame waits for after its operand
abbrev pub meets : Counts → Frame → Tree → List Frame → List Token → Limited
meets c f t s [] = Err (Offends, [])
meets c f t s (x ∷ ts) = going (awaited (next_of x) f t s) (count (weight x) c) (λ q. limited (count (weight x) c) q ts) (x ∷ ts)

abbrev pub left_to : Option Held → Counts → Frame → Tree → List Frame → List Token → Limited
left_to (Some h) c f t s ts = limited c (Have h s) ts
left_to None c f t s ts = meets c f t s ts

-- an operand is left to the frames, with these tokens after it
abbrev pub leave : Counts → Held → List Frame → List Token → Limited
leave c h [] ts = Ok (h.body, ts)
leave c h (f ∷ s) ts = left_to (wrapped f h) c f h.body s ts
