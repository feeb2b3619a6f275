-- What the rules of a grammar are made of. A rule says of a value and tokens that these spell that.
use Rattle.std.specs.Prelude.{◌≡◌, ⊤, ℕ, List, [], ◌∷◌, ◌++◌, ◌⊎◌, Option, Some, None}
use Rattle.rv_syntax.specs.{declared.token.Mark.Mark, declared.token.Token.Token, Grammar.fixed}

-- the end of a rule: no token, and this value
abbrev pub Gives : {T B : Type 0} → B → B → List T → Type 0
Gives b c ts = (ts ≡ []) × (c ≡ b)

-- this word or symbol, and then what the rest of the rule says
abbrev pub Word : {B : Type 0} → Mark → (B → List Token → Type 0) → B → List Token → Type 0
Word m L b ts = (at : ℕ) × (rest : List Token) × (ts ≡ fixed m at ∷ rest) × L b rest

-- a part with a value of its own, and then what the rest says of that value
abbrev pub Part : {T A B : Type 0} → (A → List T → Type 0) → (A → B → List T → Type 0) → B → List T → Type 0
Part {T = T} {A = A} L M b ts = (a : A) × (part : List T) × (rest : List T) × (ts ≡ part ++ rest) × L a part × M a b rest

-- one rule or the other
abbrev pub OneOf : {T A : Type 0} → (A → List T → Type 0) → (A → List T → Type 0) → A → List T → Type 0
OneOf L M a ts = L a ts ⊎ M a ts

-- any number of such parts
abbrev pub Each : {T A : Type 0} → (A → List T → Type 0) → List A → List T → Type 0
Each L [] ts = ts ≡ []
Each {T = T} L (a ∷ more) ts = (part : List T) × (rest : List T) × (ts ≡ part ++ rest) × L a part × Each L more rest

-- this word or symbol alone
abbrev pub Only : Mark → ⊤ → List Token → Type 0
Only m u ts = (at : ℕ) × (ts ≡ fixed m at ∷ [])

-- the same, by its offset
abbrev pub Marked : Mark → ℕ → List Token → Type 0
Marked m at ts = ts ≡ fixed m at ∷ []

-- such a part, or nothing
abbrev pub Maybe : {T A : Type 0} → (A → List T → Type 0) → Option A → List T → Type 0
Maybe L None ts = ts ≡ []
Maybe L (Some a) ts = L a ts
