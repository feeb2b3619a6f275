-- The constants of a text stand in the order of their offsets: tokens do, and each constant has that of its name's token.
use Rattle.std.proofs.Common.{◌≡◌, ℕ, zero, suc, ◌+◌, ◌-◌, ◌<◌, ◌≤◌, Bool, false, List, [], ◌∷◌, ◌++◌, length, take, get_or, refl, sym, ap, ◌∙◌, subst, inl}
use Rattle.std.proofs.Common.{inr, arith}
use Rattle.std.specs.{Prelude.Option, Prelude.Some, Prelude.None, List.All}
use Rattle.rv_syntax.specs.declared.token.Mark.TheVariants as mark
use Rattle.rv_syntax.specs.Lexing.{cut, kind_of, emitted, ends_in_tel, lex, tokens}
use Rattle.rv_syntax.specs.ProgramText.{IsConstant, IsConstants, Section, Types, Constants, IsSection, constants_of, IsProgram}
use Rattle.rv_syntax.specs.{declared.token.Kind.Kind, declared.token.Token.Token, TextTrees.IsTreeOfText, Grammar.fixed, Grammar.name_token, Rules.Each}
use Rattle.rv_tree.specs.Tree.{ConstantTree, ProgramTree}

-- ---- What stands at rising offsets, from one on and before another.
abbrev Rising : {A : Type 0} → (A → ℕ) → ℕ → List A → ℕ → Type 0
Rising f from [] to = from ≤ to
Rising f from (x ∷ xs) to = (from ≤ f x) × Rising f (f x + 1) xs to

rising-lower : {A : Type 0} (f : A → ℕ) (from mid to : ℕ) (xs : List A) → from ≤ mid → Rising f mid xs to → Rising f from xs to
rising-lower f from mid to [] le h = omega arith
rising-lower f from mid to (x ∷ xs) le h = (omega (arith, h.0), h.1)

rising-upper : {A : Type 0} (f : A → ℕ) (from mid to : ℕ) (xs : List A) → mid ≤ to → Rising f from xs mid → Rising f from xs to
rising-upper f from mid to [] le h = omega arith
rising-upper f from mid to (x ∷ xs) le h = (h.0, rising-upper f (f x + 1) mid to xs le h.1)

rising-some : {A : Type 0} (f : A → ℕ) (from to : ℕ) (xs : List A) → Rising f from xs to → from ≤ to
rising-some f from to [] h = h
rising-some f from to (x ∷ xs) h = omega (arith, h.0, rising-some f (f x + 1) to xs h.1)

rising-both : {A : Type 0} (f : A → ℕ) (from mid to : ℕ) (xs ys : List A) → Rising f from xs mid → Rising f mid ys to → Rising f from (xs ++ ys) to
rising-both f from mid to [] ys h k = rising-lower f from mid to ys h k
rising-both f from mid to (x ∷ xs) ys h k = (h.0, rising-both f (f x + 1) mid to xs ys h.1 k)

rising-parts : {A : Type 0} (f : A → ℕ) (from to : ℕ) (xs ys : List A) → Rising f from (xs ++ ys) to → (mid : ℕ) × Rising f from xs mid × Rising f mid ys to
rising-parts f from to [] ys h = (from, omega arith, h)
rising-parts f from to (x ∷ xs) ys h =
    let more = rising-parts f (f x + 1) to xs ys h.1 in
    (more.0, (h.0, more.1), more.2)

all-below : {A : Type 0} (f : A → ℕ) (from to : ℕ) (xs : List A) → Rising f from xs to → All (λ x. f x < to) xs
all-below f from to [] h i d lt = absurd (omega arith)
all-below f from to (x ∷ xs) h zero d lt = omega (arith, rising-some f (f x + 1) to xs h.1)
all-below f from to (x ∷ xs) h (suc i) d lt = all-below f (f x + 1) to xs h.1 i d (omega arith)

all-from : {A : Type 0} (f : A → ℕ) (from to : ℕ) (xs : List A) → Rising f from xs to → All (λ x. from ≤ f x) xs
all-from f from to [] h i d lt = absurd (omega arith)
all-from f from to (x ∷ xs) h zero d lt = h.0
all-from f from to (x ∷ xs) h (suc i) d lt =
    let later : f x + 1 ≤ f (get_or xs i d) = all-from f (f x + 1) to xs h.1 i d (omega arith) in
    omega (arith, h.0, later)

-- ---- Tokens.
abbrev token_at : Token → ℕ
token_at t = t.at

emitted-rising : (o : Option Kind) (at to : ℕ) (ts : List Token) → Rising token_at (at + 1) ts to → Rising token_at at (emitted o at ++ ts) to
emitted-rising None at to ts h = rising-lower token_at at (at + 1) to ts (omega arith) h
emitted-rising (Some k) at to ts h = (omega arith, h)

lex-rising : (skip : ℕ) (tel : Bool) (at to : ℕ) (bs : List ℕ) → at + length bs ≤ to → Rising token_at at (lex skip tel at bs) to
unfolding lex
lex-rising skip tel at to [] le = omega arith
lex-rising (suc skip) tel at to (b ∷ bs) le = rising-lower token_at at (at + 1) to (lex skip tel (at + 1) bs) (omega arith)
    (lex-rising skip tel (at + 1) to bs (omega arith))
lex-rising zero tel at to (b ∷ bs) le =
    emitted-rising (kind_of tel (cut (b ∷ bs)).0 (take (cut (b ∷ bs)).1 (b ∷ bs))) at to
    (lex ((cut (b ∷ bs)).1 - 1) (ends_in_tel tel (cut (b ∷ bs)).0) (at + 1) bs)
    (lex-rising ((cut (b ∷ bs)).1 - 1) (ends_in_tel tel (cut (b ∷ bs)).0) (at + 1) to bs (omega arith))

tokens-rising : (bytes : List ℕ) → Rising token_at 0 (tokens bytes) (length bytes)
tokens-rising bytes = lex-rising 0 false 0 (length bytes) bytes (omega arith)

-- ---- Constants, where the tokens that spell them rise.
abbrev constant_at : ConstantTree → ℕ
constant_at c = c.name.at

abbrev Orders : {A : Type 0} → (A → List Token → Type 0) → (A → List ConstantTree) → Type 0
Orders {A = A} L own = (a : A) (ts : List Token) → L a ts → (from to : ℕ) → Rising token_at from ts to → Rising constant_at from (own a) to

orders-constant : Orders IsConstant (λ c. c ∷ [])
orders-constant c ts h from to rising =
    let first : Rising token_at from (name_token h.0 ∷ h.2) to = subst (λ l. Rising token_at from l to) (h.3 ∙ ap (λ l. l ++ h.2) h.4) rising in
    let same : c.name.at ≡ h.0.at = ap constant_at h.5.5.5.1 in
    (omega (arith, same, first.0), omega (arith, same, rising-some token_at (h.0.at + 1) to h.2 first.1))

orders-each : Orders (Each IsConstant) (λ cs. cs)
orders-each [] ts h from to rising = rising-some token_at from to ts rising
orders-each (c ∷ more) ts h from to rising =
    let parts = rising-parts token_at from to h.0 h.1 (subst (λ l. Rising token_at from l to) h.2 rising) in
    rising-both constant_at from parts.0 to (c ∷ []) more
    (orders-constant c h.0 h.3 from parts.0 parts.1)
    (orders-each more h.1 h.4 parts.0 to parts.2)

orders-constants : Orders IsConstants (λ cs. cs)
orders-constants cs ts h from to rising =
    let all : Rising token_at from (fixed mark.Const h.0 ∷ h.1) to = subst (λ l. Rising token_at from l to) h.2 rising in
    let rest : Rising token_at from h.1 to = rising-lower token_at from (h.0 + 1) to h.1 (omega arith) all.1 in
    let one = h.3 in
    let parts = rising-parts token_at from to one.1 one.2 (subst (λ l. Rising token_at from l to) one.3 rest) in
    let many = one.5 in
    let later = rising-parts token_at parts.0 to many.1 many.2 (subst (λ l. Rising token_at parts.0 l to) many.3 parts.2) in
    subst (λ l. Rising constant_at from l to) (sym many.5.1)
    (rising-both constant_at from parts.0 to (one.0 ∷ []) many.0
    (orders-constant one.0 one.1 one.4 from parts.0 parts.1)
    (rising-upper constant_at parts.0 later.0 to many.0 (rising-some token_at later.0 to many.2 later.2)
    (orders-each many.0 many.1 many.4 parts.0 later.0 later.1)))

abbrev constants_in : Section → List ConstantTree
constants_in (Constants cs) = cs
constants_in _ = []

orders-section : Orders IsSection constants_in
orders-section s ts (inl h) from to rising = subst (λ l. Rising constant_at from l to) (sym (ap constants_in h.5.1)) (rising-some token_at from to ts rising)
orders-section s ts (inr (inl h)) from to rising =
    let parts = rising-parts token_at from to h.1 h.2 (subst (λ l. Rising token_at from l to) h.3 rising) in
    subst (λ l. Rising constant_at from l to) (sym (ap constants_in h.5.1))
    (rising-upper constant_at from parts.0 to h.0 (rising-some token_at parts.0 to h.2 parts.2) (orders-constants h.0 h.1 h.4 from parts.0 parts.1))
orders-section s ts (inr (inr h)) from to rising = subst (λ l. Rising constant_at from l to) (sym (ap constants_in h.5.1))
    (rising-some token_at from to ts rising)

constants-more : (s : Section) (more : List Section) → constants_of (s ∷ more) ≡ constants_in s ++ constants_of more
constants-more (Types ds) more = refl
constants-more _ more = refl

orders-sections : Orders (Each IsSection) constants_of
orders-sections [] ts h from to rising = rising-some token_at from to ts rising
orders-sections (s ∷ more) ts h from to rising =
    let parts = rising-parts token_at from to h.0 h.1 (subst (λ l. Rising token_at from l to) h.2 rising) in
    subst (λ l. Rising constant_at from l to) (sym (constants-more s more))
    (rising-both constant_at from parts.0 to (constants_in s) (constants_of more)
    (orders-section s h.0 h.3 from parts.0 parts.1)
    (orders-sections more h.1 h.4 parts.0 to parts.2))

orders-program : Orders IsProgram (λ p. p.constants)
orders-program p ts h from to rising =
    let parts = rising-parts token_at from to h.1 h.2 (subst (λ l. Rising token_at from l to) h.3 rising) in
    subst (λ l. Rising constant_at from l to) (sym (ap (λ (q : ProgramTree). q.constants) h.5.1))
    (rising-upper constant_at from parts.0 to (constants_of h.0) (rising-some token_at parts.0 to h.2 parts.2)
    (orders-sections h.0 h.1 h.4 from parts.0 parts.1))

-- ---- The tree of a text.
rising-constants : (t : ProgramTree) (h : IsTreeOfText t) → Rising constant_at 0 t.constants (length h.0)
rising-constants t h =
    let same : t.constants ≡ h.2.0.constants = ap (λ (u : ProgramTree). u.constants) h.2.1 in
    subst (λ l. Rising constant_at 0 l (length h.0)) (sym same) (orders-program h.2.0 (tokens h.0) h.2.2 0 (length h.0) (tokens-rising h.0))

-- what stands before a constant, and what stands after it
sides : (t : ProgramTree) (front back : List ConstantTree) (c : ConstantTree) (h : IsTreeOfText t) → t.constants ≡ front ++ c ∷ back
    → (mid : ℕ) × Rising constant_at 0 front mid × Rising constant_at mid (c ∷ back) (length h.0)
sides t front back c h is = rising-parts constant_at 0 (length h.0) front (c ∷ back)
    (subst (λ l. Rising constant_at 0 l (length h.0)) is (rising-constants t h))

pub constants-before : (t : ProgramTree) (front back : List ConstantTree) (c : ConstantTree) → IsTreeOfText t → t.constants ≡ front ++ c ∷ back
    → All (λ d. d.name.at < c.name.at) front
constants-before t front back c h is i d lt =
    let both = sides t front back c h is in
    let less : (get_or front i d).name.at < both.0 = all-below constant_at 0 both.0 front both.1 i d lt in
    omega (arith, less, both.2.0)

pub constants-after : (t : ProgramTree) (front back : List ConstantTree) (c : ConstantTree) → IsTreeOfText t → t.constants ≡ front ++ c ∷ back
    → All (λ d. c.name.at < d.name.at) back
constants-after t front back c h is i d lt =
    let both = sides t front back c h is in
    let more : c.name.at + 1 ≤ (get_or back i d).name.at = all-from constant_at (c.name.at + 1) (length h.0) back both.2.1 i d lt in
    omega (arith, more)
