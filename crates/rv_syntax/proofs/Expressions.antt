-- Expressions are read exactly.
use Rattle.std.proofs.Common.{inl, inr, ◌≡◌, List, [], ◌∷◌, ◌++◌, refl, sym, ap, ◌∙◌, subst, append_assoc}
use Rattle.std.proofs.lemmas.List.{append-nil, append_cancel_right}
use Rattle.std.specs.Prelude.{Ok, Err, ◌<◌}
use Rattle.rv_syntax.specs.Grammar.{Atom, Yes, spelling, syntax_of, Just}
use Rattle.rv_syntax.specs.Nesting.{Parts, outside, limit, IsExprOf, Standing, Inside, behind_all, depth, IsShallowText}
use Rattle.rv_syntax.specs.{declared.token.Token.Token, declared.fault.Why.TheVariants.Offends, declared.fault.Why.TheVariants.TooDeep, Machine.Want}
use Rattle.rv_syntax.specs.{Machine.following, Machine.run, Limited.counts, Limited.limited, Limited.Limited, Parse.Reading, Reads.expression}
use Rattle.rv_tree.specs.Tree.{Tree}
use Rattle.rv_syntax.proofs.Shallow.{IsWithin, IsTooDeep, within-before, Agrees, agrees, OrDeep, reads-or-deep}
use Rattle.rv_syntax.proofs.Standings.{Stay, stay-front, stay-spelled, behind-inside, to-shallow-text, from-shallow-text, to-deep-text}
use Rattle.rv_syntax.proofs.Exact.{suffix}
use Rattle.rv_syntax.proofs.Exactly.{Begins, Answers, left, with_left, ReadsAs, Exact}
use Rattle.rv_syntax.proofs.{Complete.IsEnd, Complete.complete, Sound.Wants, Sound.Comes, Sound.comes, Sound.one-token, Nested.past_all, Nested.from-shallow}
use Rattle.rv_syntax.proofs.{Nested.to-shallow, Nested.to-deep, OneFault.head-same}
use Rattle.rv_syntax.proofs.Sound as machine

-- where an expression begins, and where it goes on
abbrev pub IsFresh : Standing → Type 0
IsFresh s = s ≡ Inside outside

abbrev pub IsInside : Standing → Type 0
IsInside s = (ns : Parts) × (s ≡ Inside ns)

-- what follows an expression goes on with none
abbrev pub Ended : List Token → Type 0
Ended ts = IsEnd (following ts)

stay-begun : (front : List Token) → machine.Begins front → Stay front
stay-begun front b = stay-front front b.more (subst Stay b.spelled (stay-spelled b.whole))

to-begins : (front : List Token) → machine.Begins front → Begins IsExprOf front
to-begins front b = (b.more, syntax_of b.whole, (b.whole, b.fine, b.spelled, refl))

passes : (s : Standing) → IsFresh s → (t : Tree) (w : List Token) → IsExprOf t w → IsInside (behind_all w s)
passes s h t w d = (past_all w outside, ap (behind_all w) h ∙ behind-inside w outside (subst Stay d.2 (stay-spelled d.0)))

-- tokens that stay within an expression, within the limit
shallow : (w : List Token) → Stay w → IsWithin (counts 0 []) w → IsShallowText (Inside outside) w
shallow w h s = to-shallow-text w outside h (to-shallow w s)

within : (w : List Token) → Stay w → IsShallowText (Inside outside) w → IsWithin (counts 0 []) w
within w h s = from-shallow w (from-shallow-text w outside h s)

too-deep : (front : List Token) (t : Token) → Stay (front ++ t ∷ []) → IsTooDeep (counts 0 []) front t
    → limit < depth (behind_all (front ++ t ∷ []) (Inside outside))
too-deep front t h d = to-deep-text (front ++ t ∷ []) outside h (to-deep front t d)

-- the tokens up to a cut are within the limit
abbrev Cut : List Token → List Token → Type 0
Cut ts rest = (front : List Token) × (ts ≡ front ++ rest) × IsWithin (counts 0 []) front

cut-within : (ts front rest : List Token) → ts ≡ front ++ rest → Cut ts rest → IsWithin (counts 0 []) front
cut-within ts front rest e c = subst (IsWithin (counts 0 [])) (append_cancel_right c.0 front rest (sym c.1 ∙ e)) c.2

answers : (ts : List Token) (r : Limited) → Comes [] ts r → Agrees (counts 0 []) ts (run (Want []) ts) r → Answers IsExprOf (Inside outside) ts r
answers ts (Ok x) c a =
    (spelling c.0, c.3, (c.0, c.1, refl, c.2), shallow (spelling c.0) (stay-spelled c.0) (cut-within ts (spelling c.0) x.1 c.3 a.1))
answers ts (Err (Offends, rest)) c a =
    (c.0, c.1, to-begins c.0 c.2, shallow c.0 (stay-begun c.0 c.2) (cut-within ts c.0 rest c.1 a.1))
answers ts (Err (TooDeep, rest)) c a =
    let whole = c.0 ++ c.1 ∷ [] in
    let same : a.0 ≡ c.0 = append_cancel_right a.0 c.0 rest (ap (λ z. a.0 ++ z) a.3 ∙ sym a.4 ∙ c.4) in
    let deep = subst (λ t. IsTooDeep (counts 0 []) c.0 t) (head-same a.1 c.1 a.2 c.2 (sym a.3 ∙ c.3))
    (subst (λ z. IsTooDeep (counts 0 []) z a.1) same a.5) in
    let low = shallow c.0 (stay-front c.0 (c.1 ∷ []) (stay-begun whole c.5)) (within-before (counts 0 []) c.0 c.1 deep) in
    (c.0, c.1, c.2, c.3, c.4, to-begins whole c.5, low, too-deep c.0 c.1 (stay-begun whole c.5) deep)

answers-fresh : (ts : List Token) → Answers IsExprOf (Inside outside) ts (expression ts)
answers-fresh ts = answers ts (limited (counts 0 []) (Want []) ts) (comes ts (counts 0 []) (Wants []) tt) (agrees ts (counts 0 []) (Want []))

answers-at : (s : Standing) → IsFresh s → (ts : List Token) → Answers IsExprOf s ts (expression ts)
answers-at s h ts = subst (λ z. Answers IsExprOf z ts (expression ts)) (sym h) (answers-fresh ts)

-- Reading is local, as it is so at the token that is left.
local : (front : List Token) (t : Token) (rest other g : List Token) → left (expression (front ++ t ∷ rest)) ≡ g ++ t ∷ rest
    → expression (front ++ t ∷ other) ≡ with_left (g ++ t ∷ other) (expression (front ++ t ∷ rest))
local front t rest other [] h = one-token front (counts 0 []) (Want []) t rest other h
local front t rest other (y ∷ g) h =
    let u = suffix IsExprOf (Inside outside) _ (expression (front ++ t ∷ rest)) (answers-fresh (front ++ t ∷ rest)) in
    let whole : front ++ t ∷ rest ≡ (u.0 ++ y ∷ g) ++ t ∷ rest = u.1 ∙ ap (λ z. u.0 ++ z) h ∙ sym (append_assoc u.0 (y ∷ g) (t ∷ rest)) in
    let cut : front ≡ u.0 ++ y ∷ g = append_cancel_right front (u.0 ++ y ∷ g) (t ∷ rest) whole in
    let there : front ++ t ∷ rest ≡ u.0 ++ y ∷ (g ++ t ∷ rest) = u.1 ∙ ap (λ z. u.0 ++ z) h in
    let new : front ++ t ∷ other ≡ u.0 ++ y ∷ (g ++ t ∷ other) = ap (λ z. z ++ t ∷ other) cut ∙ append_assoc u.0 (y ∷ g) (t ∷ other) in
    ap expression new
    ∙ one-token u.0 (counts 0 []) (Want []) y (g ++ t ∷ rest) (g ++ t ∷ other) (ap (λ z. left (expression z)) (sym there) ∙ h)
    ∙ ap (λ z. with_left ((y ∷ g) ++ t ∷ other) (expression z)) (sym there)

-- what is derived is read, whatever its nesting, where nothing goes on with it
runs : (t : Tree) (w rest : List Token) → IsExprOf t w → Ended rest → run (Want []) (w ++ rest) ≡ Ok (t, rest)
runs t w rest d f = ap (λ z. run (Want []) (z ++ rest)) (sym d.2) ∙ complete d.0 rest d.1 f ∙ ap (λ x. Ok (x, rest)) d.3

reads-from : (t : Tree) (w rest : List Token) → Stay w → (r : Limited) → OrDeep (counts 0 []) w (t, rest) r → ReadsAs (Inside outside) t w rest r
reads-from t w rest h r (inl o) = inl o
reads-from t w rest h r (inr o) = inr (o.0, o.1, λ s. o.2 (within w h s))

reads : (s : Standing) → IsFresh s → (t : Tree) (w rest : List Token) → IsExprOf t w → Ended rest → ReadsAs s t w rest (expression (w ++ rest))
reads s h t w rest d f =
    subst (λ z. ReadsAs z t w rest (expression (w ++ rest))) (sym h)
    (reads-from t w rest (subst Stay d.2 (stay-spelled d.0)) (expression (w ++ rest)) (reads-or-deep (counts 0 []) (Want []) w rest t (runs t w rest d f)))

pub Exact-expression : Exact IsFresh IsInside IsExprOf Ended expression
Exact-expression = record
    { some = (Just Yes 0, spelling (Atom Yes 0), (Atom Yes 0, tt, refl, refl)); passes = passes; answers = answers-at; local = local; reads = reads }

-- What is derived is read whole, whatever its nesting.
pub read-whole : (ts : List Token) (t : Tree) → IsExprOf t ts → run (Want []) ts ≡ Ok (t, [])
read-whole ts t d = ap (run (Want [])) (sym (append-nil ts)) ∙ runs t ts [] d tt
