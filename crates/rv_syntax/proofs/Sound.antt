-- What the limited machine reads is derived by the grammar, and what was read before it stops begins an
-- expression, whatever its nesting.
use Rattle.std.proofs.Common.{◌≡◌, ℕ, ◌≤◌, Bool, true, false, cond, List, [], ◌∷◌, ◌++◌, length, refl, sym, ap, ◌∙◌, subst, arith, append_assoc, length-append}
use Rattle.std.proofs.{lemmas.Bool.leb-true, lemmas.Bool.and_parts, lemmas.Bool.eqb-true, lemmas.Bool.not-true, lemmas.List.append-nil}
use Rattle.std.specs.Prelude.{Ok, Err, nat_le}
use Rattle.rv_syntax.specs.Grammar.{Leaf, Yes, No, Count, Called, Callee, Hash, Written, Atom, InBrackets, Before, Between, Gated, If, Given, Front, NoneBefore}
use Rattle.rv_syntax.specs.Grammar.{Then, fixed, leaf_token, callee_token, prefix_mark, op_mark, spelling, front_spelling, syntax_of, front_trees, level_of}
use Rattle.rv_syntax.specs.Grammar.{left_level, right_level, leaf_level, level, is_open, IsGrammatical, AreGrammatical}
use Rattle.rv_syntax.specs.Machine.{start_of, next_of, Frame, Brackets, Under, After, Asked, Answered, Else, Within, need, leaf_held, State, Want, Have, Clock}
use Rattle.rv_syntax.specs.Machine.{Hashed, Move, To, Ends, Fails, callee_of, accepts, taken, closed, answered, otherwise, argued, settle, begin, clocked}
use Rattle.rv_syntax.specs.Machine.{opened, step, finish}
use Rattle.rv_syntax.specs.Limited.{Counts, count, Limited, at_end, going, limited}
use Rattle.rv_syntax.specs.{declared.token.Kind.Kind, declared.token.Token.Token, declared.operator.Prefix.Prefix, declared.parser.Start.Start}
use Rattle.rv_syntax.specs.{declared.parser.Next.Next, declared.fault.Why.TheVariants.Offends, declared.fault.Why.TheVariants.TooDeep, Nesting.weight}
use Rattle.rv_syntax.specs.{Nesting.limit, Marks.kind_name}
use Rattle.rv_syntax.specs.declared.token.Mark.TheVariants as mark
use Rattle.rv_syntax.specs.declared.token.Kind.TheVariants as kind
use Rattle.rv_tree.specs.declared.tree.Op.{Op}
use Rattle.rv_tree.specs.declared.tree.Op.TheVariants as op
use Rattle.rv_syntax.specs.declared.parser.Start.TheVariants as start
use Rattle.rv_syntax.specs.declared.parser.Next.TheVariants as next
use Rattle.rv_syntax.proofs.{Complete.operand, Complete.below-eight, Exactly.left, Exactly.with_left}

-- a frame, with what is written in it
pub data Item : Type 0 where
  Open : (at : ℕ) → Item
  Over : Prefix → (at : ℕ) → Item
  Left : Op → (at : ℕ) → Written → Item
  Cond : (if_at : ℕ) → Item
  Chose : (if_at : ℕ) → Written → (then_at : ℕ) → Item
  Other : (if_at : ℕ) → Written → (then_at : ℕ) → Written → (else_at : ℕ) → Item
  Args : Callee → (open_at : ℕ) → Front → Item

abbrev pub frames : List Item → List Frame
frames [] = []
frames (Open at ∷ h) = Brackets ∷ frames h
frames (Over p at ∷ h) = Under p at ∷ frames h
frames (Left o at w ∷ h) = After o at (syntax_of w) ∷ frames h
frames (Cond i ∷ h) = Asked i ∷ frames h
frames (Chose i a t ∷ h) = Answered i (syntax_of a) ∷ frames h
frames (Other i a t b e ∷ h) = Else i (syntax_of a) (syntax_of b) ∷ frames h
frames (Args f o front ∷ h) = Within f (front_trees front) ∷ frames h

-- the tokens before the place that is open
abbrev pub before : List Item → List Token
before [] = []
before (Open at ∷ h) = before h ++ fixed mark.Open at ∷ []
before (Over p at ∷ h) = before h ++ fixed (prefix_mark p) at ∷ []
before (Left o at w ∷ h) = before h ++ (spelling w ++ fixed (op_mark o) at ∷ [])
before (Cond i ∷ h) = before h ++ fixed mark.If i ∷ []
before (Chose i a t ∷ h) = before h ++ fixed mark.If i ∷ (spelling a ++ fixed mark.Then t ∷ [])
before (Other i a t b e ∷ h) = before h ++ fixed mark.If i ∷ (spelling a ++ fixed mark.Then t ∷ (spelling b ++ fixed mark.Else e ∷ []))
before (Args f o front ∷ h) = before h ++ callee_token f ∷ fixed mark.Open o ∷ front_spelling front

abbrev pub AreFine : List Item → Type 0
AreFine [] = Unit {0}
AreFine (Open at ∷ h) = AreFine h
AreFine (Over p at ∷ h) = AreFine h
AreFine (Left o at w ∷ h) = IsGrammatical w × (left_level o ≤ level w) × (is_open w ≡ false) × (need (frames h) ≤ level_of o) × AreFine h
AreFine (Cond i ∷ h) = AreFine h
AreFine (Chose i a t ∷ h) = IsGrammatical a × AreFine h
AreFine (Other i a t b e ∷ h) = IsGrammatical a × IsGrammatical b × AreFine h
AreFine (Args f o front ∷ h) = AreGrammatical front × AreFine h

right-low : (o : Op) → right_level o ≤ 9
right-low op.Arrow = omega arith
right-low _ = omega arith

need-low : (h : List Item) → need (frames h) ≤ 9
need-low (Left o at w ∷ h) = right-low o
need-low _ = omega arith

-- The tokens begin an expression.
pub record Begins (ts : List Token) : Type 0 where
  pub more : List Token
  pub whole : Written
  pub fine : IsGrammatical whole
  pub spelled : spelling whole ≡ ts ++ more

shorten : (ts us after : List Token) → Begins us → us ≡ ts ++ after → Begins ts
shorten ts us after b e =
    record { more = after ++ b.more; whole = b.whole; fine = b.fine; spelled = b.spelled ∙ ap (λ l. l ++ b.more) e ∙ append_assoc ts after b.more }

atom-high : (l : Leaf) (h : List Item) → need (frames h) ≤ leaf_level l
atom-high Yes h = omega (arith, need-low h)
atom-high _ h = omega (arith, need-low h)

-- An operand in its place begins an expression.
begins-has : (h : List Item) (w : Written) → AreFine h → IsGrammatical w → need (frames h) ≤ level w → Begins (before h ++ spelling w)
begins-has [] w f g n = record { more = []; whole = w; fine = g; spelled = sym (append-nil (spelling w)) }
begins-has (Open at ∷ h) w f g n = shorten _ _ (fixed mark.Close 0 ∷ []) (begins-has h (InBrackets at w 0) f g (omega (arith, need-low h))) (simp append_assoc)
begins-has (Over p at ∷ h) w f g n = shorten _ _ [] (begins-has h (Before p at w) f (n, g) (need-low h)) (simp (append_assoc, append-nil))
begins-has (Left o at l ∷ h) w f g n = shorten _ _ [] (begins-has h (Between o at l w) f.4 (f.1, f.2, n, f.0, g) f.3) (simp (append_assoc, append-nil))
begins-has (Cond i ∷ h) w f g n =
    shorten _ _ (fixed mark.Then 0 ∷ leaf_token Yes 0 ∷ fixed mark.Else 0 ∷ leaf_token Yes 0 ∷ [])
    (begins-has h (If i w 0 (Atom Yes 0) 0 (Atom Yes 0)) f (g, tt, tt) (omega (arith, need-low h))) (simp append_assoc)
begins-has (Chose i a t ∷ h) w f g n =
    shorten _ _ (fixed mark.Else 0 ∷ leaf_token Yes 0 ∷ []) (begins-has h (If i a t w 0 (Atom Yes 0)) f.1 (f.0, g, tt) (omega (arith, need-low h)))
    (simp append_assoc)
begins-has (Other i a t b e ∷ h) w f g n = shorten _ _ [] (begins-has h (If i a t b e w) f.2 (f.0, f.1, g) (omega (arith, need-low h)))
    (simp (append_assoc, append-nil))
begins-has (Args c o front ∷ h) w f g n = shorten _ _ (fixed mark.Close 0 ∷ []) (begins-has h (Given c o front w 0) f.1 (f.0, g) (omega (arith, need-low h)))
    (simp append_assoc)

-- a state, with what has been read
pub data Place : Type 0 where
  Wants : List Item → Place
  Has : Written → List Item → Place
  Clocks : (at : ℕ) → Written → List Item → Place
  Hashes : (at : ℕ) → List Item → Place

abbrev pub state_of : Place → State
state_of (Wants h) = Want (frames h)
state_of (Has w h) = Have (operand w) (frames h)
state_of (Clocks at w h) = Clock at (syntax_of w) (frames h)
state_of (Hashes at h) = Hashed at (frames h)

abbrev pub read : Place → List Token
read (Wants h) = before h
read (Has w h) = before h ++ spelling w
read (Clocks at w h) = before h ++ (spelling w ++ fixed mark.When at ∷ [])
read (Hashes at h) = before h ++ fixed mark.Hash at ∷ []

abbrev pub IsFine : Place → Type 0
IsFine (Wants h) = AreFine h
IsFine (Has w h) = AreFine h × IsGrammatical w × (need (frames h) ≤ level w)
IsFine (Clocks at w h) = AreFine h × IsGrammatical w × (need (frames h) ≤ 8) × (8 ≤ level w) × (is_open w ≡ false)
IsFine (Hashes at h) = AreFine h

pub begins : (x : Place) → IsFine x → Begins (read x)
begins (Wants h) f = shorten _ _ (leaf_token Yes 0 ∷ []) (begins-has h (Atom Yes 0) f tt (omega (arith, need-low h))) refl
begins (Has w h) f = begins-has h w f.0 f.1 f.2
begins (Clocks at w h) f =
    shorten _ _ (leaf_token (Called []) 0 ∷ []) (begins-has h (Gated w at (record { text = []; at = 0 })) f.0 (f.3, f.4, f.1) f.2) (simp append_assoc)
begins (Hashes at h) f =
    shorten _ _ (fixed mark.Open 0 ∷ leaf_token Yes 0 ∷ fixed mark.Close 0 ∷ [])
    (begins-has h (Given (Hash at) 0 NoneBefore (Atom Yes 0) 0) f (tt, tt) (omega (arith, need-low h))) (simp append_assoc)

-- what a move does with a token after those that were read
abbrev Leads : List Token → Token → Move → Type 0
Leads ts t (To st) = (x : Place) × IsFine x × (state_of x ≡ st) × (read x ≡ ts ++ t ∷ [])
Leads ts t (Ends e) = (w : Written) × IsGrammatical w × (syntax_of w ≡ e) × (spelling w ≡ ts)
Leads ts t Fails = Unit {0}

-- the token where an operand is wanted
abbrev Starts : Start → Token → Type 0
Starts start.Operand t = (l : Leaf) × (t ≡ leaf_token l t.at) × (leaf_held t ≡ operand (Atom l t.at))
Starts (start.Before p at) t = t ≡ fixed (prefix_mark p) at
Starts start.Opens t = t ≡ fixed mark.Open t.at
Starts (start.Asks at) t = t ≡ fixed mark.If at
Starts (start.Counts at) t = t ≡ fixed mark.Hash at
Starts start.Other t = Unit {0}

starts-kind : (k : Kind) (at : ℕ) → Starts (start_of (record { kind = k; at = at })) (record { kind = k; at = at })
starts-kind (kind.Name x) at = (Called x, refl, refl)
starts-kind (kind.Number n) at = (Count n, refl, refl)
starts-kind (kind.Fixed mark.True) at = (Yes, refl, refl)
starts-kind (kind.Fixed mark.False) at = (No, refl, refl)
starts-kind _ at = search

-- the token after an operand
abbrev Follows : Next → Token → Type 0
Follows (next.Between o at) t = t ≡ fixed (op_mark o) at
Follows (next.Gates at) t = t ≡ fixed mark.When at
Follows next.Opens t = t ≡ fixed mark.Open t.at
Follows next.Closes t = t ≡ fixed mark.Close t.at
Follows next.Separates t = t ≡ fixed mark.Comma t.at
Follows next.Answers t = t ≡ fixed mark.Then t.at
Follows next.Otherwise t = t ≡ fixed mark.Else t.at
Follows next.Other t = Unit {0}

follows-kind : (k : Kind) (at : ℕ) → Follows (next_of (record { kind = k; at = at })) (record { kind = k; at = at })
follows-kind (kind.Fixed mark.Arrow) at = refl
follows-kind _ at = search

pick : {A : Type 0} (P : A → Type 0) (b : Bool) (x y : A) → (b ≡ true → P x) → (b ≡ false → P y) → P (cond b x y)
pick P true x y f g = f refl
pick P false x y f g = g refl

-- only a name is of level 11
named : (w : Written) → level w ≡ 11 → spelling w ≡ callee_token (callee_of (syntax_of w)) ∷ []
named (Atom (Called x) at) e = refl
named (Between o at a b) e = absurd (omega (arith, below-eight o))
named _ e = absurd (omega arith)

leads-call : (at : ℕ) (w : Written) (h : List Item) → IsFine (Has w h) → level w ≡ 11
    → Leads (read (Has w h)) (fixed mark.Open at) (To (Want (Within (callee_of (syntax_of w)) [] ∷ frames h)))
leads-call at w h f e =
    let c = callee_of (syntax_of w) in (
      Wants (Args c at NoneBefore ∷ h),
      (tt, f.0),
      refl,
      sym (append_assoc (before h) (callee_token c ∷ []) (fixed mark.Open at ∷ [])) ∙ ap (λ x. (before h ++ x) ++ fixed mark.Open at ∷ []) (sym (named w e)),
    )

leads-taken : (t : Token) (r : Next) → Follows r t → (w : Written) (h : List Item) → IsFine (Has w h) → accepts r (need (frames h)) (operand w) ≡ true
    → Leads (read (Has w h)) t (taken r (operand w) (frames h))
leads-taken t (next.Between o at) e w h f a =
    let both = and_parts _ _ a in
    let parts = and_parts _ _ both.1 in (
      Wants (Left o at w ∷ h),
      (f.1, leb-true (left_level o) (level w) parts.1, not-true (is_open w) both.0, leb-true (need (frames h)) (level_of o) parts.0, f.0),
      refl,
      sym (append_assoc (before h) (spelling w) (fixed (op_mark o) at ∷ [])) ∙ ap (λ x. (before h ++ spelling w) ++ x ∷ []) (sym e),
    )
leads-taken t (next.Gates at) e w h f a =
    let both = and_parts _ _ a in
    let parts = and_parts _ _ both.1 in (
      Clocks at w h,
      (f.0, f.1, leb-true (need (frames h)) 8 parts.0, leb-true 8 (level w) parts.1, not-true (is_open w) both.0),
      refl,
      sym (append_assoc (before h) (spelling w) (fixed mark.When at ∷ [])) ∙ ap (λ x. (before h ++ spelling w) ++ x ∷ []) (sym e),
    )
leads-taken t next.Opens e w h f a =
    subst (λ x. Leads (read (Has w h)) x (To (Want (Within (callee_of (syntax_of w)) [] ∷ frames h)))) (sym e) (leads-call t.at w h f (eqb-true (level w) 11 a))
leads-taken t _ e w h f a = tt

-- the token at the end of what was read
one-more : (ts us : List Token) (x t : Token) → t ≡ x → ts ≡ us ++ x ∷ [] → ts ≡ us ++ t ∷ []
one-more ts us x t e h = h ∙ ap (λ y. us ++ y ∷ []) (sym e)

leads-closed : (t : Token) (r : Next) → Follows r t → (at : ℕ) (w : Written) (h : List Item) → AreFine h → IsGrammatical w
    → Leads (read (Has w (Open at ∷ h))) t (closed r (syntax_of w) (frames h))
leads-closed t next.Closes e at w h f g = (Has (InBrackets at w t.at) h, (f, g, omega (arith, need-low h)), refl, one-more _ _ _ t e (simp append_assoc))
leads-closed t _ e at w h f g = tt

leads-answered : (t : Token) (r : Next) → Follows r t → (i : ℕ) (w : Written) (h : List Item) → AreFine h → IsGrammatical w
    → Leads (read (Has w (Cond i ∷ h))) t (answered r i (syntax_of w) (frames h))
leads-answered t next.Answers e i w h f g = (Wants (Chose i w t.at ∷ h), (g, f), refl, one-more _ _ _ t e (simp append_assoc))
leads-answered t _ e i w h f g = tt

leads-otherwise : (t : Token) (r : Next) → Follows r t → (i : ℕ) (a : Written) (n : ℕ) (w : Written) (h : List Item) → AreFine (Chose i a n ∷ h)
    → IsGrammatical w
    → Leads (read (Has w (Chose i a n ∷ h))) t (otherwise r i (syntax_of a) (syntax_of w) (frames h))
leads-otherwise t next.Otherwise e i a n w h f g = (Wants (Other i a n w t.at ∷ h), (f.0, g, f.1), refl, one-more _ _ _ t e (simp append_assoc))
leads-otherwise t _ e i a n w h f g = tt

leads-argued : (t : Token) (r : Next) → Follows r t → (c : Callee) (o : ℕ) (front : Front) (w : Written) (h : List Item) → AreFine (Args c o front ∷ h)
    → IsGrammatical w
    → Leads (read (Has w (Args c o front ∷ h))) t (argued r c (front_trees front) (syntax_of w) (frames h))
leads-argued t next.Separates e c o front w h f g = (Wants (Args c o (Then front w t.at) ∷ h), ((f.0, g), f.1), refl, one-more _ _ _ t e (simp append_assoc))
leads-argued t next.Closes e c o front w h f g =
    (Has (Given c o front w t.at) h, (f.1, (f.0, g), omega (arith, need-low h)), refl, one-more _ _ _ t e (simp append_assoc))
leads-argued t _ e c o front w h f g = tt

leads-settle : (t : Token) (r : Next) → Follows r t → (h : List Item) (w : Written) → IsFine (Has w h)
    → Leads (read (Has w h)) t (settle r (operand w) (frames h))
leads-settle t r e [] w f =
    pick (Leads (read (Has w [])) t) (accepts r 0 (operand w)) _ _ (leads-taken t r e w [] f) (λ _. (w, f.1, refl, refl))
leads-settle t r e (Open at ∷ h) w f =
    pick (Leads (read (Has w (Open at ∷ h))) t) (accepts r 0 (operand w)) _ _ (leads-taken t r e w (Open at ∷ h) f) (λ _. leads-closed t r e at w h f.0 f.1)
leads-settle t r e (Over p at ∷ h) w f =
    let same : read (Has (Before p at w) h) ≡ read (Has w (Over p at ∷ h)) = simp append_assoc in
    pick (Leads (read (Has w (Over p at ∷ h))) t) (accepts r 9 (operand w)) _ _ (leads-taken t r e w (Over p at ∷ h) f)
    (λ _. subst (λ ts. Leads ts t (settle r (operand (Before p at w)) (frames h))) same (leads-settle t r e h (Before p at w) (f.0, (f.2, f.1), need-low h)))
leads-settle t r e (Left o at l ∷ h) w f =
    let same : read (Has (Between o at l w) h) ≡ read (Has w (Left o at l ∷ h)) = simp append_assoc in
    pick (Leads (read (Has w (Left o at l ∷ h))) t) (accepts r (right_level o) (operand w)) _ _ (leads-taken t r e w (Left o at l ∷ h) f)
    (λ _. subst (λ ts. Leads ts t (settle r (operand (Between o at l w)) (frames h))) same
    (leads-settle t r e h (Between o at l w) (f.0.4, (f.0.1, f.0.2, f.2, f.0.0, f.1), f.0.3)))
leads-settle t r e (Cond i ∷ h) w f =
    pick (Leads (read (Has w (Cond i ∷ h))) t) (accepts r 0 (operand w)) _ _ (leads-taken t r e w (Cond i ∷ h) f) (λ _. leads-answered t r e i w h f.0 f.1)
leads-settle t r e (Chose i a n ∷ h) w f =
    pick (Leads (read (Has w (Chose i a n ∷ h))) t) (accepts r 0 (operand w)) _ _ (leads-taken t r e w (Chose i a n ∷ h) f)
    (λ _. leads-otherwise t r e i a n w h f.0 f.1)
leads-settle t r e (Other i a n b m ∷ h) w f =
    let same : read (Has (If i a n b m w) h) ≡ read (Has w (Other i a n b m ∷ h)) = simp append_assoc in
    pick (Leads (read (Has w (Other i a n b m ∷ h))) t) (accepts r 0 (operand w)) _ _ (leads-taken t r e w (Other i a n b m ∷ h) f)
    (λ _. subst (λ ts. Leads ts t (settle r (operand (If i a n b m w)) (frames h))) same
    (leads-settle t r e h (If i a n b m w) (f.0.2, (f.0.0, f.0.1, f.1), omega (arith, need-low h))))
leads-settle t r e (Args c o front ∷ h) w f =
    pick (Leads (read (Has w (Args c o front ∷ h))) t) (accepts r 0 (operand w)) _ _ (leads-taken t r e w (Args c o front ∷ h) f)
    (λ _. leads-argued t r e c o front w h f.0 f.1)

leads-begin : (t : Token) (r : Start) → Starts r t → (h : List Item) → AreFine h → Leads (before h) t (begin r (leaf_held t) (frames h))
leads-begin t start.Operand e h f =
    (Has (Atom e.0 t.at) h, (f, tt, atom-high e.0 h), ap (λ x. Have x (frames h)) (sym e.2), ap (λ x. before h ++ x ∷ []) (sym e.1))
leads-begin t (start.Before p at) e h f = (Wants (Over p at ∷ h), f, refl, ap (λ x. before h ++ x ∷ []) (sym e))
leads-begin t start.Opens e h f = (Wants (Open t.at ∷ h), f, refl, ap (λ x. before h ++ x ∷ []) (sym e))
leads-begin t (start.Asks at) e h f = (Wants (Cond at ∷ h), f, refl, ap (λ x. before h ++ x ∷ []) (sym e))
leads-begin t (start.Counts at) e h f = (Hashes at h, f, refl, ap (λ x. before h ++ x ∷ []) (sym e))
leads-begin t start.Other e h f = tt

leads-clocked : (k : Kind) (up at : ℕ) (w : Written) (h : List Item) → IsFine (Clocks at w h)
    → Leads (read (Clocks at w h)) (record { kind = k; at = up }) (clocked (kind_name k up) at (syntax_of w) (frames h))
leads-clocked (kind.Name x) up at w h f = (Has (Gated w at (record { text = x; at = up })) h, (f.0, (f.3, f.4, f.1), f.2), refl, simp append_assoc)
leads-clocked _ up at w h f = tt

leads-opened : (t : Token) (r : Start) → Starts r t → (at : ℕ) (h : List Item) → AreFine h → Leads (read (Hashes at h)) t (opened r at (frames h))
leads-opened t start.Opens e at h f = (Wants (Args (Hash at) t.at NoneBefore ∷ h), (tt, f), refl, one-more _ _ _ t e (simp append_assoc))
leads-opened t _ e at h f = tt

pub leads : (t : Token) (x : Place) → IsFine x → Leads (read x) t (step (state_of x) t)
leads t (Wants h) f = leads-begin t (start_of t) (starts-kind t.kind t.at) h f
leads t (Has w h) f = leads-settle t (next_of t) (follows-kind t.kind t.at) h w f
leads t (Clocks at w h) f = leads-clocked t.kind t.at at w h f
leads t (Hashes at h) f = leads-opened t (start_of t) (starts-kind t.kind t.at) at h f

leads-finish : (x : Place) → IsFine x → Leads (read x) (fixed mark.Semi 0) (finish (state_of x))
leads-finish (Has w h) f = leads-settle (fixed mark.Semi 0) next.Other tt h w f
leads-finish _ f = tt

-- What reading comes to, after the tokens that were read. The token that is nested too deep goes on with an expression.
abbrev pub Comes : List Token → List Token → Limited → Type 0
Comes pre ts (Ok x) = (w : Written) × IsGrammatical w × (syntax_of w ≡ x.0) × (pre ++ ts ≡ spelling w ++ x.1)
Comes pre ts (Err (Offends, rest)) = (front : List Token) × (ts ≡ front ++ rest) × Begins (pre ++ front)
Comes pre ts (Err (TooDeep, rest)) = (front : List Token) × (t : Token) × (after : List Token) × (rest ≡ t ∷ after) × (ts ≡ front ++ rest)
    × Begins (pre ++ (front ++ t ∷ []))

comes-later : (pre : List Token) (t : Token) (ts : List Token) (r : Limited) → Comes (pre ++ t ∷ []) ts r → Comes pre (t ∷ ts) r
comes-later pre t ts (Ok x) c = (c.0, c.1, c.2, sym (append_assoc pre (t ∷ []) ts) ∙ c.3)
comes-later pre t ts (Err (Offends, rest)) c = (t ∷ c.0, ap (λ l. t ∷ l) c.1, subst Begins (append_assoc pre (t ∷ []) c.0) c.2)
comes-later pre t ts (Err (TooDeep, rest)) c =
    (t ∷ c.0, c.1, c.2, c.3, ap (λ l. t ∷ l) c.4, subst Begins (append_assoc pre (t ∷ []) (c.0 ++ c.1 ∷ [])) c.5)

begins-here : (x : Place) → IsFine x → Begins (read x ++ [])
begins-here x f = subst Begins (sym (append-nil (read x))) (begins x f)

comes-end : (x : Place) → IsFine x → (m : Move) → Leads (read x) (fixed mark.Semi 0) m → Comes (read x) [] (at_end m)
comes-end x f (Ends e) l = (l.0, l.1, l.2, ap (λ ts. ts ++ []) (sym l.3))
comes-end x f _ l = ([], refl, begins-here x f)

comes-going : (x : Place) → IsFine x → (c : Counts) (t : Token) (ts : List Token) → ((y : Place) → IsFine y → Comes (read y) ts (limited c (state_of y) ts))
    → (m : Move) → Leads (read x) t m
    → Comes (read x) (t ∷ ts) (going m c (λ next. limited c next ts) (t ∷ ts))
comes-going x f c t ts again (To st) l =
    pick (Comes (read x) (t ∷ ts)) (nat_le c.now limit) (limited c st ts) (Err (TooDeep, t ∷ ts))
    (λ _. comes-later (read x) t ts (limited c st ts) (subst (λ s. Comes (read x ++ t ∷ []) ts (limited c s ts)) l.2
    (subst (λ pre. Comes pre ts (limited c (state_of l.0) ts)) l.3 (again l.0 l.1))))
    (λ _. ([], t, ts, refl, refl, subst Begins l.3 (begins l.0 l.1)))
comes-going x f c t ts again (Ends e) l = (l.0, l.1, l.2, ap (λ pre. pre ++ t ∷ ts) (sym l.3))
comes-going x f c t ts again Fails l = ([], refl, begins-here x f)

pub comes : (ts : List Token) (c : Counts) (x : Place) → IsFine x → Comes (read x) ts (limited c (state_of x) ts)
unfolding limited
comes [] c x f = comes-end x f (finish (state_of x)) (leads-finish x f)
comes (t ∷ ts) c x f = comes-going x f (count (weight t) c) t ts (comes ts (count (weight t) c)) (step (state_of x) t) (leads t x f)

-- One token decides: what is read up to a token does not depend on what follows that token.
short-end : (m : Move) → length (left (at_end m)) ≤ 0
short-end (To st) = omega arith
short-end _ = omega arith

short-choice : (b : Bool) (t : Token) (ts : List Token) (r : Limited) → length (left r) ≤ length ts
    → length (left (cond b r (Err (TooDeep, t ∷ ts)))) ≤ length (t ∷ ts)
short-choice true t ts r h = omega arith
short-choice false t ts r h = omega arith

short-going : (m : Move) (c : Counts) (t : Token) (ts : List Token) → ((st : State) → length (left (limited c st ts)) ≤ length ts)
    → length (left (going m c (λ next. limited c next ts) (t ∷ ts))) ≤ length (t ∷ ts)
short-going (To st) c t ts again = short-choice (nat_le c.now limit) t ts (limited c st ts) (again st)
short-going _ c t ts again = omega arith

pub left-short : (ts : List Token) (c : Counts) (st : State) → length (left (limited c st ts)) ≤ length ts
unfolding limited
left-short [] c st = short-end (finish st)
left-short (t ∷ ts) c st = short-going (step st t) (count (weight t) c) t ts (left-short ts (count (weight t) c))

choice-here : (b : Bool) (t : Token) (rest other : List Token) (r q : Limited) → length (left r) ≤ length rest
    → left (cond b r (Err (TooDeep, t ∷ rest))) ≡ t ∷ rest
    → cond b q (Err (TooDeep, t ∷ other)) ≡ with_left (t ∷ other) (cond b r (Err (TooDeep, t ∷ rest)))
choice-here true t rest other r q le h = absurd (omega (arith, ap length h))
choice-here false t rest other r q le h = refl

one-here : (m : Move) (c : Counts) (t : Token) (rest other : List Token) → left (going m c (λ next. limited c next rest) (t ∷ rest)) ≡ t ∷ rest
    → going m c (λ next. limited c next other) (t ∷ other) ≡ with_left (t ∷ other) (going m c (λ next. limited c next rest) (t ∷ rest))
one-here (To st) c t rest other h = choice-here (nat_le c.now limit) t rest other (limited c st rest) (limited c st other) (left-short rest c st) h
one-here _ c t rest other h = refl

too-long : (front : List Token) (x t : Token) (rest : List Token) → x ∷ (front ++ t ∷ rest) ≡ t ∷ rest → ⊥
too-long front x t rest h = omega (arith, ap length h, length-append front (t ∷ rest))

choice-later : (b : Bool) (x : Token) (front : List Token) (t : Token) (rest other : List Token) (r q : Limited)
    → (left r ≡ t ∷ rest → q ≡ with_left (t ∷ other) r) → left (cond b r (Err (TooDeep, x ∷ (front ++ t ∷ rest)))) ≡ t ∷ rest
    → cond b q (Err (TooDeep, x ∷ (front ++ t ∷ other))) ≡ with_left (t ∷ other) (cond b r (Err (TooDeep, x ∷ (front ++ t ∷ rest))))
choice-later true x front t rest other r q again h = again h
choice-later false x front t rest other r q again h = absurd (too-long front x t rest h)

one-later : (m : Move) (c : Counts) (x : Token) (front : List Token) (t : Token) (rest other : List Token)
    → ((st : State) → left (limited c st (front ++ t ∷ rest)) ≡ t ∷ rest
    → limited c st (front ++ t ∷ other) ≡ with_left (t ∷ other) (limited c st (front ++ t ∷ rest)))
    → left (going m c (λ next. limited c next (front ++ t ∷ rest)) (x ∷ (front ++ t ∷ rest))) ≡ t ∷ rest
    → going m c (λ next. limited c next (front ++ t ∷ other)) (x ∷ (front ++ t ∷ other)) ≡ with_left (t ∷ other)
    (going m c (λ next. limited c next (front ++ t ∷ rest)) (x ∷ (front ++ t ∷ rest)))
one-later (To st) c x front t rest other again h =
    choice-later (nat_le c.now limit) x front t rest other (limited c st (front ++ t ∷ rest)) (limited c st (front ++ t ∷ other)) (again st) h
one-later (Ends e) c x front t rest other again h = absurd (too-long front x t rest h)
one-later Fails c x front t rest other again h = absurd (too-long front x t rest h)

pub one-token : (front : List Token) (c : Counts) (st : State) (t : Token) (rest other : List Token) → left (limited c st (front ++ t ∷ rest)) ≡ t ∷ rest
    → limited c st (front ++ t ∷ other) ≡ with_left (t ∷ other) (limited c st (front ++ t ∷ rest))
unfolding limited
one-token [] c st t rest other h = one-here (step st t) (count (weight t) c) t rest other h
one-token (x ∷ front) c st t rest other h =
    one-later (step st x) (count (weight x) c) x front t rest other (λ next. one-token front (count (weight x) c) next t rest other) h
