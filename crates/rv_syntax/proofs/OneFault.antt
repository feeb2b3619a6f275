-- A text has a tree or one fault, and never both.
use Rattle.std.proofs.Common.{inl, inr, ◌≡◌, ◌≤◌, ℕ, true, false, List, [], ◌∷◌, ◌++◌, length, refl, sym, ap, ◌∙◌, subst, arith, append_assoc}
use Rattle.std.proofs.lemmas.List.{append-nil}
use Rattle.std.specs.Prelude.{◌<◌, ◌⊎◌}
use Rattle.rv_syntax.specs.Nesting.{Standing, Outside, behind, behind_all, depth, limit, IsShallowText}
use Rattle.rv_syntax.specs.Faults.{BeginsProgram, IsDead, is_left_out, Offends, EndsEarly, IsFault}
use Rattle.rv_syntax.specs.{declared.token.Token.Token, declared.fault.TextFault.TextFault, Lexing.tokens, ProgramText.IsProgram, ProgramText.IsTextOf}
use Rattle.rv_syntax.specs.declared.fault.TextFault.TheVariants as fault
use Rattle.rv_tree.specs.Tree.{ProgramTree}
use Rattle.rv_syntax.proofs.Exact.{shallow-first}

-- ---- Cuts.
abbrev tail : List Token → List Token
tail [] = []
tail (t ∷ ts) = ts

pub head-same : (t u : Token) (ts us : List Token) → t ∷ ts ≡ u ∷ us → t ≡ u
head-same t u ts us e = cc

-- The first cut is at the place of the second, or before it.
pub data Place (a : List Token) (t : Token) (b : List Token) (u : Token) : Type 0 where
  Same : a ≡ b → t ≡ u → Place a t b u
  Earlier : (more : List Token) → b ≡ (a ++ t ∷ []) ++ more → Place a t b u
  Later : (more : List Token) → a ≡ (b ++ u ∷ []) ++ more → Place a t b u

further : (x y : Token) (a : List Token) (t : Token) (b : List Token) (u : Token) → x ≡ y → Place a t b u → Place (x ∷ a) t (y ∷ b) u
further x y a t b u e (Same p q) = Same (ap (λ z. z ∷ a) e ∙ ap (λ l. y ∷ l) p) q
further x y a t b u e (Earlier more p) = Earlier more (ap (λ l. y ∷ l) p ∙ ap (λ z. z ∷ ((a ++ t ∷ []) ++ more)) (sym e))
further x y a t b u e (Later more p) = Later more (ap (λ l. x ∷ l) p ∙ ap (λ z. z ∷ ((b ++ u ∷ []) ++ more)) e)

place : (a : List Token) (t : Token) (r : List Token) (b : List Token) (u : Token) (s : List Token) → a ++ t ∷ r ≡ b ++ u ∷ s → Place a t b u
place [] t r [] u s e = Same refl (head-same t u r s e)
place [] t r (y ∷ b) u s e = Earlier b (ap (λ z. z ∷ b) (sym (head-same t y r (b ++ u ∷ s) e)))
place (x ∷ a) t r [] u s e = Later a (ap (λ z. z ∷ a) (head-same x u (a ++ t ∷ r) s e))
place (x ∷ a) t r (y ∷ b) u s e = further x y a t b u (head-same x y (a ++ t ∷ r) (b ++ u ∷ s) e) (place a t r b u s (ap tail e))

-- ---- Tokens of which none offends.
abbrev Fine : List Token → Type 0
Fine ts = BeginsProgram ts × IsShallowText Outside ts

-- what a token that offends does behind these
abbrev Bars : List Token → Type 0
Bars ts = IsDead ts ⊎ (limit < depth (behind_all ts Outside))

pub begins-before : (front more : List Token) → BeginsProgram (front ++ more) → BeginsProgram front
begins-before front more b = (more ++ b.0, b.1, subst (IsProgram b.1) (append_assoc front more b.0) b.2)

shallow-last : (s : Standing) (front : List Token) (t : Token) → IsShallowText s (front ++ t ∷ []) → depth (behind_all (front ++ t ∷ []) s) ≤ limit
shallow-last s [] t h = h.0
shallow-last s (x ∷ front) t h = shallow-last (behind x s) front t h.1

barred : (front : List Token) (t : Token) (more : List Token) → Bars (front ++ t ∷ []) → Fine ((front ++ t ∷ []) ++ more) → ⊥
barred front t more (inl dead) h = dead (begins-before (front ++ t ∷ []) more h.0)
barred front t more (inr deep) h =
    let low : depth (behind_all (front ++ t ∷ []) Outside) ≤ limit = shallow-last Outside front t (shallow-first (front ++ t ∷ []) more Outside h.1) in
    omega arith

barred-at : (ts front : List Token) (t : Token) (more : List Token) → ts ≡ (front ++ t ∷ []) ++ more → Bars (front ++ t ∷ []) → Fine ts → ⊥
barred-at ts front t more e h f = barred front t more h (subst Fine e f)

-- ---- The kinds of faults of a token.
data Kind : Type 0 where
  LeftOut : Kind
  Bad : Kind
  Deep : Kind

abbrev fault_of : Kind → ℕ → TextFault
fault_of LeftOut at = fault.LeftOut at
fault_of Bad at = fault.BadText at
fault_of Deep at = fault.TooDeep at

abbrev Why : Kind → List Token → Token → Type 0
Why LeftOut front t = IsDead (front ++ t ∷ []) × (is_left_out front t ≡ true)
Why Bad front t = IsDead (front ++ t ∷ []) × (is_left_out front t ≡ false)
Why Deep front t = BeginsProgram (front ++ t ∷ []) × (limit < depth (behind_all (front ++ t ∷ []) Outside))

bars : (k : Kind) (front : List Token) (t : Token) → Why k front t → Bars (front ++ t ∷ [])
bars Deep front t h = inr h.1
bars _ front t h = inl h.0

one-kind : (k l : Kind) (front : List Token) (t : Token) → Why k front t → Why l front t → k ≡ l
one-kind LeftOut LeftOut front t h g = refl
one-kind LeftOut Bad front t h g = cc (h.1, g.1)
one-kind LeftOut Deep front t h g = absurd (h.0 g.0)
one-kind Bad LeftOut front t h g = cc (h.1, g.1)
one-kind Bad Bad front t h g = refl
one-kind Bad Deep front t h g = absurd (h.0 g.0)
one-kind Deep LeftOut front t h g = absurd (g.0 h.0)
one-kind Deep Bad front t h g = absurd (g.0 h.0)
one-kind Deep Deep front t h g = refl

-- A fault is one of a token, or of the end.
data Case (text : List ℕ) (f : TextFault) : Type 0 where
  AtToken : (k : Kind) (at : ℕ) → f ≡ fault_of k at → Offends text at (Why k) → Case text f
  AtEnd : f ≡ fault.BadText (length text) → EndsEarly text → Case text f

bad-case : (text : List ℕ) (at : ℕ) → Offends text at (Why Bad) ⊎ (EndsEarly text × (at ≡ length text)) → Case text (fault.BadText at)
bad-case text at (inl o) = AtToken Bad at refl o
bad-case text at (inr e) = AtEnd (ap fault.BadText e.1) e.0

case : (text : List ℕ) (f : TextFault) → IsFault text f → Case text f
case text fault.Memory h = absurd h
case text (fault.LeftOut at) h = AtToken LeftOut at refl h
case text (fault.BadText at) h = bad-case text at h
case text (fault.TooDeep at) h = AtToken Deep at refl h

one-place : (text : List ℕ) (at up : ℕ) (k l : Kind) (o : Offends text at (Why k)) (p : Offends text up (Why l)) → Place o.front o.token p.front p.token
    → fault_of k at ≡ fault_of l up
one-place text at up k l o p (Same e d) =
    let here : Why l o.front o.token = subst (λ t. Why l o.front t) (sym d) (subst (λ z. Why l z p.token) (sym e) p.why) in
    ap (λ n. fault_of k n) (sym o.place ∙ ap (λ (t : Token). t.at) d ∙ p.place) ∙ ap (λ z. fault_of z up) (one-kind k l o.front o.token o.why here)
one-place text at up k l o p (Earlier more e) = absurd (barred-at p.front o.front o.token more e (bars k o.front o.token o.why) (p.cut.begins, p.cut.shallow))
one-place text at up k l o p (Later more e) = absurd (barred-at o.front p.front p.token more e (bars l p.front p.token p.why) (o.cut.begins, o.cut.shallow))

to-end : (front : List Token) (t : Token) (rest : List Token) → front ++ t ∷ rest ≡ (front ++ t ∷ []) ++ rest
to-end front t rest = sym (append_assoc front (t ∷ []) rest)

-- no token offends where all of them are fine
none-offends : (text : List ℕ) (at : ℕ) (k : Kind) → Offends text at (Why k) → Fine (tokens text) → ⊥
none-offends text at k o h = barred-at (tokens text) o.front o.token o.rest (o.cut.whole ∙ to-end o.front o.token o.rest) (bars k o.front o.token o.why) h

one-case : (text : List ℕ) (f g : TextFault) → Case text f → Case text g → f ≡ g
one-case text f g (AtToken k at e o) (AtToken l up d p) =
    e ∙ one-place text at up k l o p (place o.front o.token o.rest p.front p.token p.rest (sym o.cut.whole ∙ p.cut.whole)) ∙ sym d
one-case text f g (AtToken k at e o) (AtEnd d h) = absurd (none-offends text at k o (h.begins, h.shallow))
one-case text f g (AtEnd d h) (AtToken k at e o) = absurd (none-offends text at k o (h.begins, h.shallow))
one-case text f g (AtEnd e h) (AtEnd d j) = e ∙ sym d

pub one-fault : (text : List ℕ) (f g : TextFault) → IsFault text f → IsFault text g → f ≡ g
one-fault text f g h j = one-case text f g (case text f h) (case text g j)

fine-program : (p : ProgramTree) (ts : List Token) → IsProgram p ts → IsShallowText Outside ts → Fine ts
fine-program p ts h s = (([], p, subst (IsProgram p) (sym (append-nil ts)) h), s)

no-case : (text : List ℕ) (f : TextFault) (p : ProgramTree) → Case text f → IsProgram p (tokens text) → IsShallowText Outside (tokens text) → ⊥
no-case text f p (AtToken k at e o) h s = none-offends text at k o (fine-program p (tokens text) h s)
no-case text f p (AtEnd e j) h s = j.no_program p h

pub no-tree : (text : List ℕ) (f : TextFault) (t : ProgramTree) → IsFault text f → IsTextOf text t → ⊥
no-tree text f t h x = no-case text f x.0 (case text f h) x.2 x.3
