-- When a reader reads a language exactly, and what it stops at.
use Rattle.std.proofs.Common.{◌≡◌, ◌<◌, List, [], ◌∷◌, ◌++◌}
use Rattle.std.specs.Prelude.{Ok, Err, ◌⊎◌}
use Rattle.rv_syntax.specs.{declared.fault.Why.TheVariants.Offends, declared.fault.Why.TheVariants.TooDeep, declared.token.Token.Token, Nesting.Standing}
use Rattle.rv_syntax.specs.{Nesting.behind_all, Nesting.depth, Nesting.limit, Nesting.IsShallowText, Parse.Reading, Parse.Parse}

-- what some tokens spell, of each value
abbrev pub Language : Type 0 → Type 1
Language A = A → List Token → Type 0

-- The tokens begin a word of the language.
abbrev pub Begins : {A : Type 0} → Language A → List Token → Type 0
Begins {A = A} K front = (more : List Token) × (a : A) × K a (front ++ more)

-- What a reader that begins at a standing answers: what is found is spelled by what was read, which is shallow; what was
-- read before a stop begins a word and is shallow; and where the stop is for depth, the token there goes on with it
-- and is nested too deep.
abbrev pub Answers : {A : Type 0} → Language A → Standing → List Token → Reading A → Type 0
Answers K s ts (Ok x) = (w : List Token) × (ts ≡ w ++ x.1) × K x.0 w × IsShallowText s w
Answers K s ts (Err (Offends, rest)) = (front : List Token) × (ts ≡ front ++ rest) × Begins K front × IsShallowText s front
Answers K s ts (Err (TooDeep, rest)) =
    (front : List Token) × (t : Token) × (after : List Token) × (rest ≡ t ∷ after) × (ts ≡ front ++ rest)
    × Begins K (front ++ t ∷ []) × IsShallowText s front × (limit < depth (behind_all (front ++ t ∷ []) s))

abbrev pub left : {A : Type 0} → Reading A → List Token
left (Ok x) = x.1
left (Err e) = e.1

abbrev pub with_left : {A : Type 0} → List Token → Reading A → Reading A
with_left ts (Ok x) = Ok (x.0, ts)
with_left ts (Err e) = Err (e.0, ts)

-- A word is read, or it is nested too deep somewhere.
abbrev pub ReadsAs : {A : Type 0} → Standing → A → List Token → List Token → Reading A → Type 0
ReadsAs s a w rest r = (r ≡ Ok (a, rest)) ⊎ ((e : List Token) × (r ≡ Err (TooDeep, e)) × (IsShallowText s w → ⊥))

-- A reader reads a language exactly: from each standing in P, where what follows a word is in F; behind a word the
-- standing is in Q.
pub record Exact {A : Type 0} (P Q : Standing → Type 0) (K : Language A) (F : List Token → Type 0) (p : Parse A) : Type 0 where
  -- there is a word
  pub some : (a : A) × (w : List Token) × K a w
  pub passes : (s : Standing) → P s → (a : A) (w : List Token) → K a w → Q (behind_all w s)
  pub answers : (s : Standing) → P s → (ts : List Token) → Answers K s ts (p ts)
  -- what is left decides nothing beyond its first token
  pub local : (front : List Token) (t : Token) (rest other g : List Token) → left (p (front ++ t ∷ rest)) ≡ g ++ t ∷ rest
      → p (front ++ t ∷ other) ≡ with_left (g ++ t ∷ other) (p (front ++ t ∷ rest))
  pub reads : (s : Standing) → P s → (a : A) (w rest : List Token) → K a w → F rest → ReadsAs s a w rest (p (w ++ rest))
