-- The limited machine is the free one, up to the first token that is nested too deep.
use Rattle.std.proofs.Common.{inl, inr, ◌≡◌, ◌≤◌, Bool, true, false, cond, List, [], ◌∷◌, ◌++◌, length, refl, sym, ap, ◌∙◌, subst, arith, length-append}
use Rattle.std.proofs.lemmas.Bool.{leb-true, leb-false}
use Rattle.std.specs.Prelude.{◌⊎◌, nat_le, Ok, Err, ◌<◌}
use Rattle.rv_syntax.specs.Machine.{State, Move, To, step, finish, Reading, run}
use Rattle.rv_syntax.specs.{declared.token.Token.Token, declared.fault.Why.TheVariants.Offends, declared.fault.Why.TheVariants.TooDeep, Nesting.weight}
use Rattle.rv_syntax.specs.{Nesting.limit, Limited.Counts, Limited.count, Limited.Limited, Limited.at_end, Limited.going, Limited.limited}
use Rattle.rv_tree.specs.Tree.{Tree}
use Rattle.rv_syntax.specs.Machine as free
use Rattle.rv_syntax.proofs.OneFault.{head-same}

-- The nesting is within the limit at each of the tokens.
abbrev pub IsWithin : Counts → List Token → Type 0
IsWithin c [] = Unit {0}
IsWithin c (t ∷ ts) = ((count (weight t) c).now ≤ limit) × IsWithin (count (weight t) c) ts

-- It is so before the last of the tokens, and there no more.
abbrev pub IsTooDeep : Counts → List Token → Token → Type 0
IsTooDeep c [] t = limit < (count (weight t) c).now
IsTooDeep c (x ∷ ts) t = ((count (weight x) c).now ≤ limit) × IsTooDeep (count (weight x) c) ts t

abbrev pub left : Reading → List Token
left (Ok x) = x.1
left (Err rest) = rest

short-end : (m : Move) → length (left (free.at_end m)) ≤ 0
short-end (To st) = omega arith
short-end _ = omega arith

short-going : (m : Move) (t : Token) (ts : List Token) → ((st : State) → length (left (run st ts)) ≤ length ts)
    → length (left (free.going m (λ q. run q ts) (t ∷ ts))) ≤ length (t ∷ ts)
short-going (To st) t ts again = let h = again st in omega arith
short-going _ t ts again = omega arith

left-short : (ts : List Token) (st : State) → length (left (run st ts)) ≤ length ts
unfolding run
left-short [] st = short-end (finish st)
left-short (t ∷ ts) st = short-going (step st t) t ts (left-short ts)

-- what the limited machine says of the free one
abbrev pub Agrees : Counts → List Token → Reading → Limited → Type 0
Agrees c ts r (Ok x) = (r ≡ Ok x) × ((front : List Token) × (ts ≡ front ++ x.1) × IsWithin c front)
Agrees c ts r (Err (Offends, rest)) = (r ≡ Err rest) × ((front : List Token) × (ts ≡ front ++ rest) × IsWithin c front)
Agrees c ts r (Err (TooDeep, rest)) =
    (front : List Token) × (t : Token) × (after : List Token) × (rest ≡ t ∷ after) × (ts ≡ front ++ t ∷ after) × IsTooDeep c front t
    × (length (left r) ≤ length after)

agrees-end : (c : Counts) (m : Move) → Agrees c [] (free.at_end m) (at_end m)
agrees-end c (To st) = (refl, ([], refl, tt))
agrees-end c _ = (refl, ([], refl, tt))

agrees-later : (c : Counts) (t : Token) (ts : List Token) (r : Reading) → (count (weight t) c).now ≤ limit → (l : Limited) → Agrees (count (weight t) c) ts r l
    → Agrees c (t ∷ ts) r l
agrees-later c t ts r h (Err (TooDeep, rest)) a = (t ∷ a.0, a.1, a.2, a.3, ap (λ l. t ∷ l) a.4, (h, a.5), a.6)
agrees-later c t ts r h _ a = (a.0, (t ∷ a.1.0, ap (λ l. t ∷ l) a.1.1, (h, a.1.2)))

agrees-choice : (c : Counts) (t : Token) (ts : List Token) (r : Reading) (l : Limited) → length (left r) ≤ length ts → (b : Bool)
    → nat_le (count (weight t) c).now limit ≡ b → Agrees (count (weight t) c) ts r l → Agrees c (t ∷ ts) r (cond b l (Err (TooDeep, t ∷ ts)))
agrees-choice c t ts r l s true e a = agrees-later c t ts r (leb-true _ _ e) l a
agrees-choice c t ts r l s false e a = ([], t, ts, refl, refl, leb-false _ _ e, s)

agrees-going : (c : Counts) (t : Token) (ts : List Token) → ((st : State) → Agrees (count (weight t) c) ts (run st ts) (limited (count (weight t) c) st ts))
    → (m : Move)
    → Agrees c (t ∷ ts) (free.going m (λ q. run q ts) (t ∷ ts)) (going m (count (weight t) c) (λ q. limited (count (weight t) c) q ts) (t ∷ ts))
agrees-going c t ts again (To st) = agrees-choice c t ts (run st ts) (limited (count (weight t) c) st ts) (left-short ts st)
    (nat_le (count (weight t) c).now limit) refl (again st)
agrees-going c t ts again _ = (refl, ([], refl, tt))

pub agrees : (ts : List Token) (c : Counts) (st : State) → Agrees c ts (run st ts) (limited c st ts)
unfolding run limited
agrees [] c st = agrees-end c (finish st)
agrees (t ∷ ts) c st = agrees-going c t ts (agrees ts (count (weight t) c)) (step st t)

-- What is too deep is not within the limit.
deep-front : (c : Counts) (front : List Token) (t : Token) (more : List Token) → IsTooDeep c front t → IsWithin c (front ++ t ∷ more) → ⊥
deep-front c [] t more d s = omega (arith, s.0)
deep-front c (x ∷ front) t more d s = deep-front (count (weight x) c) front t more d.1 s.1

pub within-before : (c : Counts) (front : List Token) (t : Token) → IsTooDeep c front t → IsWithin c front
within-before c [] t d = tt
within-before c (x ∷ front) t d = (d.0, within-before (count (weight x) c) front t d.1)

rest-same : (y x : Token) (ys xs : List Token) → y ∷ ys ≡ x ∷ xs → ys ≡ xs
rest-same y x ys xs e = cc

abbrev to-limited : Reading → Limited
to-limited (Ok x) = Ok x
to-limited (Err rest) = Err (Offends, rest)

-- two ways to cut a list, the second one further on
further : (w rest front : List Token) (t : Token) (after : List Token) → w ++ rest ≡ front ++ t ∷ after → length rest ≤ length after
    → (more : List Token) × (w ≡ front ++ t ∷ more)
further [] rest front t after e h = absurd (omega (arith, ap length e, length-append front (t ∷ after)))
further (y ∷ w) rest [] t after e h = (w, ap (λ z. z ∷ w) (head-same y t (w ++ rest) after e))
further (y ∷ w) rest (x ∷ front) t after e h =
    let m = further w rest front t after (rest-same y x (w ++ rest) (front ++ t ∷ after) e) h in
    (m.0, ap (λ z. z ∷ w) (head-same y x (w ++ rest) (front ++ t ∷ after) e) ∙ ap (λ z. x ∷ z) m.1)

ok-no-err : (x : Tree × List Token) (gone : List Token) → Ok x ≡ Err gone → ⊥
ok-no-err x gone h = cc

-- The limited machine comes to this; or to a token that is nested too deep, and then the tokens are not within the limit.
abbrev pub OrDeep : Counts → List Token → Tree × List Token → Limited → Type 0
OrDeep c w x l = (l ≡ Ok x) ⊎ ((gone : List Token) × (l ≡ Err (TooDeep, gone)) × (IsWithin c w → ⊥))

or-deep : (c : Counts) (w rest : List Token) (x : Tree) (r : Reading) → r ≡ Ok (x, rest) → (l : Limited) → Agrees c (w ++ rest) r l → OrDeep c w (x, rest) l
or-deep c w rest x r e (Ok y) a = inl (ap to-limited (sym a.0 ∙ e))
or-deep c w rest x r e (Err (Offends, gone)) a = absurd (ok-no-err (x, rest) gone (sym e ∙ a.0))
or-deep c w rest x r e (Err (TooDeep, gone)) a =
    let more = further w rest a.0 a.1 a.2 a.4 (subst (λ z. length z ≤ length a.2) (ap left e) a.6) in
    inr (gone, refl, λ s. deep-front c a.0 a.1 more.0 a.5 (subst (IsWithin c) more.1 s))

-- What the free machine reads, the limited machine reads or finds too deep.
pub reads-or-deep : (c : Counts) (st : State) (w rest : List Token) (x : Tree) → run st (w ++ rest) ≡ Ok (x, rest)
    → OrDeep c w (x, rest) (limited c st (w ++ rest))
reads-or-deep c st w rest x e = or-deep c w rest x (run st (w ++ rest)) e (limited c st (w ++ rest)) (agrees (w ++ rest) c st)
