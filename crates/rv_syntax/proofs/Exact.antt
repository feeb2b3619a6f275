-- When a reader reads a rule: each rule's law from the laws of its parts.
use Rattle.std.proofs.Common.{inl, inr, ◌≡◌, ℕ, zero, suc, ◌+◌, ◌<◌, ◌≤◌, Bool, true, false, cond, List, [], ◌∷◌, ◌++◌, length, refl, sym, ap, ◌∙◌, subst}
use Rattle.std.proofs.Common.{arith, append_assoc, length-append}
use Rattle.std.proofs.lemmas.List.{append-nil, append_cancel_right}
use Rattle.std.specs.Prelude.{Option, Some, None, ⊤, Ok, Err, ◌⊎◌}
use Rattle.rv_syntax.specs.Parse.{Reading, Parse, bind, then, done, stop, one_of, one, starts, choose, after_turn, turns, loop, found, many, maybe}
use Rattle.rv_syntax.specs.{declared.fault.Why.Why, declared.fault.Why.TheVariants.Offends, declared.fault.Why.TheVariants.TooDeep, declared.token.Mark.Mark}
use Rattle.rv_syntax.specs.{declared.token.Token.Token, Grammar.fixed, Marks.has_mark, Nesting.Standing, Nesting.behind, Nesting.behind_all, Nesting.depth}
use Rattle.rv_syntax.specs.{Nesting.limit, Nesting.IsShallowText, Rules.Gives, Rules.Word, Rules.Part, Rules.OneOf, Rules.Each, Rules.Maybe, Reading.word}
use Rattle.rv_syntax.proofs.{Marked.from-has, Marked.has-mark, Exactly.Begins, Exactly.Answers, Exactly.left, Exactly.with_left, Exactly.ReadsAs, Exactly.Exact}
use Rattle.rv_syntax.proofs.{Exactly.Language}

-- some word
abbrev pub Has : {A : Type 0} → Language A → Type 0
Has {A = A} K = (a : A) × (w : List Token) × K a w

abbrev pub Passes : {A : Type 0} → (Standing → Type 0) → (Standing → Type 0) → Language A → Type 0
Passes {A = A} P Q K = (s : Standing) → P s → (a : A) (w : List Token) → K a w → Q (behind_all w s)

abbrev pub Sound : {A : Type 0} → (Standing → Type 0) → Language A → Parse A → Type 0
Sound P K p = (s : Standing) → P s → (ts : List Token) → Answers K s ts (p ts)

-- what is left decides nothing beyond its first token
abbrev pub Local : {A : Type 0} → Parse A → Type 0
Local p = (front : List Token) (t : Token) (rest other g : List Token) → left (p (front ++ t ∷ rest)) ≡ g ++ t ∷ rest
    → p (front ++ t ∷ other) ≡ with_left (g ++ t ∷ other) (p (front ++ t ∷ rest))

abbrev pub Complete : {A : Type 0} → (Standing → Type 0) → Language A → (List Token → Type 0) → Parse A → Type 0
Complete {A = A} P K F p = (s : Standing) → P s → (a : A) (w rest : List Token) → K a w → F rest → ReadsAs s a w rest (p (w ++ rest))

-- whatever comes after a word, this is what the test says of the first token
abbrev pub Starts : {A : Type 0} → (Token → Bool) → Bool → Language A → Type 0
Starts {A = A} test b K = (a : A) (w rest : List Token) → K a w → starts test (w ++ rest) ≡ b

-- whatever comes after a part, what follows is as it has to be
abbrev pub Follows : {A B : Type 0} → (A → Language B) → (List Token → Type 0) → (List Token → Type 0) → Type 0
Follows {A = A} {B = B} N F G = (a : A) (b : B) (v rest : List Token) → N a b v → G rest → F (v ++ rest)

-- ---- Standings.
pub behind-both : (w v : List Token) (s : Standing) → behind_all (w ++ v) s ≡ behind_all v (behind_all w s)
behind-both [] v s = refl
behind-both (t ∷ w) v s = behind-both w v (behind t s)

pub shallow-both : (w v : List Token) (s : Standing) → IsShallowText s w → IsShallowText (behind_all w s) v → IsShallowText s (w ++ v)
shallow-both [] v s h k = k
shallow-both (t ∷ w) v s h k = (h.0, shallow-both w v (behind t s) h.1 k)

pub shallow-first : (w v : List Token) (s : Standing) → IsShallowText s (w ++ v) → IsShallowText s w
shallow-first [] v s h = tt
shallow-first (t ∷ w) v s h = (h.0, shallow-first w v (behind t s) h.1)

pub shallow-second : (w v : List Token) (s : Standing) → IsShallowText s (w ++ v) → IsShallowText (behind_all w s) v
shallow-second [] v s h = h
shallow-second (t ∷ w) v s h = shallow-second w v (behind t s) h.1

abbrev pub IsDeep : List Token → Standing → Type 0
IsDeep w s = limit < depth (behind_all w s)

deep-later : (w v : List Token) (t : Token) (s : Standing) → IsDeep (v ++ t ∷ []) (behind_all w s) → IsDeep ((w ++ v) ++ t ∷ []) s
deep-later w v t s h = subst (λ z. limit < depth z) (sym (ap (λ l. behind_all l s) (append_assoc w v (t ∷ [])) ∙ behind-both w (v ++ t ∷ []) s)) h

-- ---- done
same-rest : (front g : List Token) (t : Token) (rest other : List Token) → front ++ t ∷ rest ≡ g ++ t ∷ rest → front ++ t ∷ other ≡ g ++ t ∷ other
same-rest front g t rest other h = ap (λ l. l ++ t ∷ other) (append_cancel_right front g (t ∷ rest) h)

local-done : {A : Type 0} (a : A) → Local (done a)
local-done a front t rest other g h = ap (λ l. Ok (a, l)) (same-rest front g t rest other h)

local-stop : {A : Type 0} → Local (stop {A = A})
local-stop front t rest other g h = ap (λ l. Err (Offends, l)) (same-rest front g t rest other h)

pub exact-done : {B : Type 0} {P : Standing → Type 0} {b : B} {G : List Token → Type 0} → Exact P P (Gives b) G (done b)
exact-done {P = P} {b = b} = record {
  some = (b, [], (refl, refl));
  passes = λ s h a w k. subst (λ z. P (behind_all z s)) (sym k.0) h;
  answers = λ s h ts. ([], refl, (refl, refl), tt);
  local = local-done b;
  reads = λ s h a w rest k g. inl (ap (λ x. Ok (b, x ++ rest)) k.0 ∙ ap (λ x. Ok (x, rest)) (sym k.1));
}

-- ---- one token
abbrev pub IsOne : {A : Type 0} → (Token → Option A) → Language A
IsOne f a w = (t : Token) × (w ≡ t ∷ []) × (f t ≡ Some a)

-- Behind such a token the standing is in Q, and no token is too deep.
abbrev pub Steps : {A : Type 0} → (Token → Option A) → (Standing → Type 0) → (Standing → Type 0) → Type 0
Steps {A = A} f P Q = (s : Standing) → P s → (t : Token) (a : A) → f t ≡ Some a → Q (behind t s) × (depth (behind t s) ≤ limit)

local-one-here : {A : Type 0} (o : Option A) (t : Token) (rest other g : List Token) → left (one_of o t rest) ≡ g ++ t ∷ rest
    → one_of o t other ≡ with_left (g ++ t ∷ other) (one_of o t rest)
local-one-here (Some a) t rest other g h = absurd (omega (arith, ap length h, length-append g (t ∷ rest)))
local-one-here None t rest other g h = ap (λ l. Err (Offends, l)) (same-rest [] g t rest other h)

local-one-later : {A : Type 0} (o : Option A) (x : Token) (front : List Token) (t : Token) (rest other g : List Token)
    → left (one_of o x (front ++ t ∷ rest)) ≡ g ++ t ∷ rest → one_of o x (front ++ t ∷ other) ≡ with_left (g ++ t ∷ other) (one_of o x (front ++ t ∷ rest))
local-one-later (Some a) x front t rest other g h = ap (λ l. Ok (a, l)) (same-rest front g t rest other h)
local-one-later None x front t rest other g h = ap (λ l. Err (Offends, l)) (same-rest (x ∷ front) g t rest other h)

local-one : {A : Type 0} (f : Token → Option A) → Local (one f)
local-one f [] t rest other g h = local-one-here (f t) t rest other g h
local-one f (x ∷ front) t rest other g h = local-one-later (f x) x front t rest other g h

-- Some token is to be the one.
module _ {A : Type 0} (P Q : Standing → Type 0) (f : Token → Option A) (u : Token) (b : A) (e : f u ≡ Some b) (step : Steps f P Q) where
  answers-one_of : (s : Standing) (t : Token) (ts : List Token) → ((a : A) → f t ≡ Some a → depth (behind t s) ≤ limit) → (o : Option A) → f t ≡ o
      → Answers (IsOne f) s (t ∷ ts) (one_of o t ts)
  answers-one_of s t ts low (Some a) h = (t ∷ [], refl, (t, refl, h), (low a h, tt))
  answers-one_of s t ts low None h = ([], refl, (u ∷ [], b, (u, refl, e)), tt)

  answers-one : Sound P (IsOne f) (one f)
  answers-one s h [] = ([], refl, (u ∷ [], b, (u, refl, e)), tt)
  answers-one s h (t ∷ ts) = answers-one_of s t ts (λ a k. (step s h t a k).1) (f t) refl

  pub exact-one : {F : List Token → Type 0} → Exact P Q (IsOne f) F (one f)
  exact-one = record {
    some = (b, u ∷ [], (u, refl, e));
    passes = λ s h a w k. subst (λ z. Q (behind_all z s)) (sym k.1) (step s h k.0 a k.2).0;
    answers = answers-one;
    local = local-one f;
    reads = λ s h a w rest k g. inl (ap (λ v. one f (v ++ rest)) k.1 ∙ ap (λ o. one_of o k.0 rest) k.2);
  }

-- ---- one after the other
module _ {A B : Type 0} (K : Language A) (N : A → Language B) where
  -- What begins a first part begins both, where each first part has some second part.
  begins-both : ((a : A) → Has (N a)) → (front : List Token) → Begins K front → Begins (Part K N) front
  begins-both some front b = let s = some b.1 in (b.0 ++ s.1, s.0, (b.1, front ++ b.0, s.1, sym (append_assoc front b.0 s.1), b.2, s.2))

  begins-second : (a : A) (u : List Token) → K a u → (front : List Token) → Begins (N a) front → Begins (Part K N) (u ++ front)
  begins-second a u k front b = (b.0, b.1, (a, u, front ++ b.0, append_assoc u front b.0, k, b.2))

  answers-second : (s : Standing) (ts : List Token) (a : A) (u rest : List Token) → ts ≡ u ++ rest → K a u → IsShallowText s u
      → (r : Reading B) → Answers (N a) (behind_all u s) rest r → Answers (Part K N) s ts r
  answers-second s ts a u rest e k h (Ok x) c =
      (u ++ c.0, e ∙ ap (λ z. u ++ z) c.1 ∙ sym (append_assoc u c.0 x.1), (a, u, c.0, refl, k, c.2), shallow-both u c.0 s h c.3)
  answers-second s ts a u rest e k h (Err (Offends, r)) c =
      (u ++ c.0, e ∙ ap (λ z. u ++ z) c.1 ∙ sym (append_assoc u c.0 r), begins-second a u k c.0 c.2, shallow-both u c.0 s h c.3)
  answers-second s ts a u rest e k h (Err (TooDeep, r)) c =
      let begins = subst (Begins (Part K N)) (sym (append_assoc u c.0 (c.1 ∷ []))) (begins-second a u k (c.0 ++ c.1 ∷ []) c.5) in
      let cut = e ∙ ap (λ z. u ++ z) c.4 ∙ sym (append_assoc u c.0 r) in
      (u ++ c.0, c.1, c.2, c.3, cut, begins, shallow-both u c.0 s h c.6, deep-later u c.0 c.1 s c.7)

  module _ (P Q : Standing → Type 0) (pass : Passes P Q K) (some : (a : A) → Has (N a)) (f : A → Parse B) (second : (a : A) → Sound Q (N a) (f a)) where
    answers-bind : (s : Standing) → P s → (ts : List Token) (r : Reading A) → Answers K s ts r → Answers (Part K N) s ts (bind r f)
    answers-bind s h ts (Ok x) c =
        answers-second s ts x.0 c.0 x.1 c.1 c.2 c.3 (f x.0 x.1) (second x.0 (behind_all c.0 s) (pass s h x.0 c.0 c.2) x.1)
    answers-bind s h ts (Err (Offends, rest)) c = (c.0, c.1, begins-both some c.0 c.2, c.3)
    answers-bind s h ts (Err (TooDeep, rest)) c = (c.0, c.1, c.2, c.3, c.4, begins-both some (c.0 ++ c.1 ∷ []) c.5, c.6, c.7)

    sound-then : (p : Parse A) → Sound P K p → Sound P (Part K N) (then p f)
    sound-then p first s h ts = answers-bind s h ts (p ts) (first s h ts)

abbrev pub Suffix : {A : Type 0} → List Token → Reading A → Type 0
Suffix ts r = (u : List Token) × (ts ≡ u ++ left r)

pub suffix : {A : Type 0} (K : Language A) (s : Standing) (ts : List Token) (r : Reading A) → Answers K s ts r → Suffix ts r
suffix K s ts (Err (TooDeep, rest)) c = (c.0, c.4)
suffix K s ts _ c = (c.0, c.1)

-- p on other tokens, where the second part goes on from what p leaves
module _ {A B : Type 0} (p : Parse A) (lp : Local p) (f : A → Parse B) (lf : (a : A) → Local (f a)) (sf : (a : A) (ts : List Token) → Suffix ts (f a ts)) where
  local-bind : (front : List Token) (t : Token) (rest other g : List Token) (r : Reading A) → p (front ++ t ∷ rest) ≡ r → left (bind r f) ≡ g ++ t ∷ rest
      → bind (p (front ++ t ∷ other)) f ≡ with_left (g ++ t ∷ other) (bind r f)
  local-bind front t rest other g (Err e) is h =
      ap (λ z. bind z f) (lp front t rest other g (ap left is ∙ h) ∙ ap (with_left (g ++ t ∷ other)) is)
  local-bind front t rest other g (Ok x) is h =
      let s = sf x.0 x.1 in
      let e : x.1 ≡ (s.0 ++ g) ++ t ∷ rest = s.1 ∙ ap (λ z. s.0 ++ z) h ∙ sym (append_assoc s.0 g (t ∷ rest)) in
      let first = lp front t rest other (s.0 ++ g) (ap left is ∙ e) ∙ ap (with_left ((s.0 ++ g) ++ t ∷ other)) is in
      ap (λ z. bind z f) first ∙ lf x.0 (s.0 ++ g) t rest other g (ap (λ z. left (f x.0 z)) (sym e) ∙ h)
      ∙ ap (λ z. with_left (g ++ t ∷ other) (f x.0 z)) (sym e)

  local-then : Local (then p f)
  local-then front t rest other g h = local-bind front t rest other g (p (front ++ t ∷ rest)) refl h

suffix-bind : {A B : Type 0} (f : A → Parse B) → ((a : A) (ts : List Token) → Suffix ts (f a ts)) → (ts : List Token) (r : Reading A) → Suffix ts r
    → Suffix ts (bind r f)
suffix-bind f sf ts (Ok x) s = let v = sf x.0 x.1 in (s.0 ++ v.0, s.1 ∙ ap (λ z. s.0 ++ z) v.1 ∙ sym (append_assoc s.0 v.0 (left (f x.0 x.1))))
suffix-bind f sf ts (Err e) s = s

-- What is answered for a word, from what is answered for its first part.
reads-bind : {A B : Type 0} (f : A → Parse B) (s : Standing) (a : A) (b : B) (u v rest : List Token) → ReadsAs (behind_all u s) b v rest (f a (v ++ rest))
    → (r : Reading A) → ReadsAs s a u (v ++ rest) r → ReadsAs s b (u ++ v) rest (bind r f)
reads-bind f s a b u v rest (inl e) r (inl h) = inl (ap (λ z. bind z f) h ∙ e)
reads-bind f s a b u v rest (inr e) r (inl h) = inr (e.0, ap (λ z. bind z f) h ∙ e.1, λ k. e.2 (shallow-second u v s k))
reads-bind f s a b u v rest e r (inr h) = inr (h.0, ap (λ z. bind z f) h.1, λ k. h.2 (shallow-first u v s k))

-- The first reader at some standing says that what it leaves is an end of what it was given.
module _ {A B : Type 0} {P Q R : Standing → Type 0} (q : Standing) (hq : Q q) {K : Language A} {N : A → Language B} {F G : List Token → Type 0}
    {p : Parse A} {f : A → Parse B} (x : Exact P Q K F p) (follow : Follows N F G) (y : (a : A) → Exact Q R (N a) G (f a)) where
  reads-then : Complete P (Part K N) G (then p f)
  reads-then s h b w rest l g =
      let second = (y l.0).reads (behind_all l.1 s) (x.passes s h l.0 l.1 l.4) b l.2 rest l.5 g in
      let first = x.reads s h l.0 l.1 (l.2 ++ rest) l.4 (follow l.0 b l.2 rest l.5 g) in
      let whole = reads-bind f s l.0 b l.1 l.2 rest second (p (l.1 ++ (l.2 ++ rest))) first in
      let here = subst (λ z. ReadsAs s b (l.1 ++ l.2) rest (then p f z)) (sym (append_assoc l.1 l.2 rest)) whole in
      subst (λ z. ReadsAs s b z rest (then p f (z ++ rest))) (sym l.3) here

  passes-then : Passes P R (Part K N)
  passes-then s h b w l = subst (λ z. R (behind_all z s)) (sym l.3)
      (subst R (sym (behind-both l.1 l.2 s)) ((y l.0).passes (behind_all l.1 s) (x.passes s h l.0 l.1 l.4) b l.2 l.5))

  pub exact-then : Exact P R (Part K N) G (then p f)
  exact-then = let z = (y x.some.0).some in record {
    some = (z.0, x.some.1 ++ z.1, (x.some.0, x.some.1, z.1, refl, x.some.2, z.2));
    passes = passes-then;
    answers = sound-then K N P Q x.passes (λ a. (y a).some) f (λ a. (y a).answers) p x.answers;
    local = local-then p x.local f (λ a. (y a).local) (λ a ts. suffix (N a) q ts (f a ts) ((y a).answers q hq ts));
    reads = reads-then;
  }

-- ---- a language in other words
answers-to : {A : Type 0} {K N : Language A} (s : Standing) (ts : List Token) → ((a : A) (w : List Token) → K a w → N a w) → (r : Reading A)
    → Answers K s ts r → Answers N s ts r
answers-to s ts to (Ok x) c = (c.0, c.1, to x.0 c.0 c.2, c.3)
answers-to s ts to (Err (Offends, rest)) c = (c.0, c.1, (c.2.0, c.2.1, to c.2.1 (c.0 ++ c.2.0) c.2.2), c.3)
answers-to s ts to (Err (TooDeep, rest)) c = (c.0, c.1, c.2, c.3, c.4, (c.5.0, c.5.1, to c.5.1 ((c.0 ++ c.1 ∷ []) ++ c.5.0) c.5.2), c.6, c.7)

pub exact-to : {A : Type 0} {P Q : Standing → Type 0} {K N : Language A} {F : List Token → Type 0} {p : Parse A}
    → ((a : A) (w : List Token) → K a w → N a w) → ((a : A) (w : List Token) → N a w → K a w) → Exact P Q K F p → Exact P Q N F p
exact-to {p = p} to from x = record {
  some = (x.some.0, x.some.1, to x.some.0 x.some.1 x.some.2);
  passes = λ s h a w n. x.passes s h a w (from a w n);
  answers = λ s h ts. answers-to s ts to (p ts) (x.answers s h ts);
  local = x.local;
  reads = λ s h a w rest n f. x.reads s h a w rest (from a w n) f;
}

-- where less may follow
pub exact-before : {A : Type 0} {P Q : Standing → Type 0} {K : Language A} {F G : List Token → Type 0} {p : Parse A}
    → ((ts : List Token) → G ts → F ts) → Exact P Q K F p → Exact P Q K G p
exact-before less x =
    record { some = x.some; passes = x.passes; answers = x.answers; local = x.local; reads = λ s h a w rest k g. x.reads s h a w rest k (less rest g) }

-- ---- one of two, told apart by the next token
starts-same : (test : Token → Bool) (front : List Token) (t : Token) (rest other : List Token)
    → starts test (front ++ t ∷ rest) ≡ starts test (front ++ t ∷ other)
starts-same test [] t rest other = refl
starts-same test (x ∷ front) t rest other = refl

local-cond : {A : Type 0} (p q : Parse A) → Local p → Local q → (b : Bool) → Local (λ ts. cond b (p ts) (q ts))
local-cond p q lp lq true = lp
local-cond p q lp lq false = lq

local-choose : {A : Type 0} (test : Token → Bool) (p q : Parse A) → Local p → Local q → Local (choose test p q)
local-choose test p q lp lq front t rest other g h =
    ap (λ b. cond b (p (front ++ t ∷ other)) (q (front ++ t ∷ other))) (starts-same test front t other rest)
    ∙ local-cond p q lp lq (starts test (front ++ t ∷ rest)) front t rest other g h

answers-cond : {A : Type 0} (K N : Language A) (s : Standing) (ts : List Token) (x y : Reading A) → Answers K s ts x → Answers N s ts y → (b : Bool)
    → Answers (OneOf K N) s ts (cond b x y)
answers-cond K N s ts x y h k true = answers-to s ts (λ a w l. inl l) x h
answers-cond K N s ts x y h k false = answers-to s ts (λ a w l. inr l) y k

module _ {A : Type 0} {P Q : Standing → Type 0} {K N : Language A} {test : Token → Bool} {G : List Token → Type 0} {p q : Parse A}
    (first : Starts test true K) (other : (a : A) (w rest : List Token) → N a w → G rest → starts test (w ++ rest) ≡ false)
    (x : Exact P Q K G p) (y : Exact P Q N G q) where
  reads-choose : Complete P (OneOf K N) G (choose test p q)
  reads-choose s h a w rest (inl l) g =
      subst (λ b. ReadsAs s a w rest (cond b (p (w ++ rest)) (q (w ++ rest)))) (sym (first a w rest l)) (x.reads s h a w rest l g)
  reads-choose s h a w rest (inr m) g =
      subst (λ b. ReadsAs s a w rest (cond b (p (w ++ rest)) (q (w ++ rest)))) (sym (other a w rest m g)) (y.reads s h a w rest m g)

  passes-choose : Passes P Q (OneOf K N)
  passes-choose s h a w (inl l) = x.passes s h a w l
  passes-choose s h a w (inr m) = y.passes s h a w m

  pub exact-choose : Exact P Q (OneOf K N) G (choose test p q)
  exact-choose = record {
    some = (x.some.0, x.some.1, inl x.some.2);
    passes = passes-choose;
    answers = λ s h ts. answers-cond K N s ts (p ts) (q ts) (x.answers s h ts) (y.answers s h ts) (starts test ts);
    local = local-choose test p q x.local y.local;
    reads = reads-choose;
  }

-- ---- this word or symbol, and then the rest
abbrev pub StepsOver : Mark → (Standing → Type 0) → (Standing → Type 0) → Type 0
StepsOver m P Q = (at : ℕ) (s : Standing) → P s → Q (behind (fixed m at) s) × (depth (behind (fixed m at) s) ≤ limit)

steps-mark : (P Q : Standing → Type 0) (m : Mark) → StepsOver m P Q → Steps (has_mark m) P Q
steps-mark P Q m step s h t u e = subst (λ z. Q (behind z s) × (depth (behind z s) ≤ limit)) (sym (from-has m t u e)) (step t.at s h)

to-word : {B : Type 0} (m : Mark) (K : Language B) (b : B) (w : List Token) → Part (IsOne (has_mark m)) (λ (u : ⊤). K) b w → Word m K b w
to-word m K b w p = (p.4.0.at, p.2, p.3 ∙ ap (λ z. z ++ p.2) (p.4.1 ∙ ap (λ t. t ∷ []) (from-has m p.4.0 p.0 p.4.2)), p.5)

from-word : {B : Type 0} (m : Mark) (K : Language B) (b : B) (w : List Token) → Word m K b w → Part (IsOne (has_mark m)) (λ (u : ⊤). K) b w
from-word m K b w r = (tt, fixed m r.0 ∷ [], r.1, r.2, (fixed m r.0, refl, has-mark m r.0), r.3)

abbrev pub Any : List Token → Type 0
Any ts = Unit {0}

pub anything : {A B : Type 0} (N : A → Language B) (G : List Token → Type 0) → Follows N Any G
anything N G a b v rest n g = tt

pub exact-word : {B : Type 0} {P Q R : Standing → Type 0} (q : Standing) → Q q → (m : Mark) {K : Language B} {G : List Token → Type 0} {p : Parse B}
    → StepsOver m P Q → Exact Q R K G p → Exact P R (Word m K) G (word m p)
exact-word {P = P} {Q = Q} q hq m {K = K} step x =
    exact-to (to-word m K) (from-word m K)
    (exact-then q hq {F = Any} (exact-one P Q (has_mark m) (fixed m 0) tt (has-mark m 0) (steps-mark P Q m step)) (anything _ _) (λ (u : ⊤). x))

-- ---- one or nothing
abbrev pub Found : {A : Type 0} → Language A → Language (Option A)
Found {A = A} K = Part K (λ a. Gives (Some a))

-- behind the end of a rule follows what follows the rule
pub at-end : {A B : Type 0} (give : A → B) (F : List Token → Type 0) → Follows (λ a. Gives (give a)) F F
at-end give F a b v rest m g = subst (λ z. F (z ++ rest)) (sym m.0) g

pub exact-found : {A : Type 0} {P Q : Standing → Type 0} (q : Standing) → Q q → {K : Language A} {F : List Token → Type 0} {p : Parse A}
    → Exact P Q K F p → Exact P Q (Found K) F (found p)
exact-found q hq x = exact-then q hq x (at-end _ _) (λ a. exact-done)

to-maybe : {A : Type 0} (K : Language A) (o : Option A) (w : List Token) → OneOf (Found K) (Gives None) o w → Maybe K o w
to-maybe K None w (inl p) = cc
to-maybe K (Some a) w (inl p) =
    let e : w ≡ p.1 = p.3 ∙ ap (λ z. p.1 ++ z) p.5.0 ∙ append-nil p.1 in
    let same : p.0 ≡ a = cc in
    subst (λ z. K z w) same (subst (K p.0) (sym e) p.4)
to-maybe K None w (inr h) = h.0
to-maybe K (Some a) w (inr h) = cc

from-maybe : {A : Type 0} (K : Language A) (o : Option A) (w : List Token) → Maybe K o w → OneOf (Found K) (Gives None) o w
from-maybe K None w h = inr (h, refl)
from-maybe K (Some a) w h = inl (a, w, [], sym (append-nil w), h, (refl, refl))

-- a part begins as its first part does
pub starts-part : {A B : Type 0} {K : Language A} (N : A → Language B) {test : Token → Bool} {b : Bool} → Starts test b K → Starts test b (Part K N)
starts-part N {test = test} first c w rest p =
    ap (λ z. starts test (z ++ rest)) p.3 ∙ ap (starts test) (append_assoc p.1 p.2 rest) ∙ first p.0 p.1 (p.2 ++ rest) p.4

pub exact-maybe : {A : Type 0} {P : Standing → Type 0} (q : Standing) → P q → {K : Language A} {test : Token → Bool} {F : List Token → Type 0} {p : Parse A}
    → Starts test true K → ((ts : List Token) → F ts → starts test ts ≡ false) → Exact P P K F p → Exact P P (Maybe K) F (maybe test p)
exact-maybe q hq {K = K} {test = test} first last x =
    exact-to (to-maybe K) (from-maybe K)
    (exact-choose (starts-part _ first) (λ o w rest k g. ap (λ z. starts test (z ++ rest)) k.0 ∙ last rest g) (exact-found q hq x) exact-done)

-- ---- turns of a loop
-- Values that turns give, each in turn; the last turn may give nothing.
abbrev pub Turns : {A : Type 0} → Language (Option A) → Language (List A)
Turns K [] ts = (ts ≡ []) ⊎ K None ts
Turns K (a ∷ more) ts = (part : List Token) × (rest : List Token) × (ts ≡ part ++ rest) × K (Some a) part × Turns K more rest

shorter : (test : Token → Bool) (ts w rest : List Token) → ts ≡ w ++ rest → starts test (w ++ []) ≡ true → length rest < length ts
shorter test ts [] rest e h = cc
shorter test ts (t ∷ w) rest e h = omega (arith, ap length e, length-append (t ∷ w) rest)

module _ {A : Type 0} {P : Standing → Type 0} (q : Standing) (hq : P q) {K : Language (Option A)} {F : List Token → Type 0} {test : Token → Bool}
    {p : Parse (Option A)} (x : Exact P P K F p) (first : Starts test true K) where
  -- what comes after a turn
  After : Option A → Language (List A)
  After None xs ts = Gives [] xs ts
  After (Some a) xs ts = Part (Turns K) (λ more. Gives (a ∷ more)) xs ts

  has-after : (o : Option A) → Has (After o)
  unfolding After
  has-after None = ([], [], (refl, refl))
  has-after (Some a) = (a ∷ [], [], ([], [], [], refl, inl refl, (refl, refl)))

  turn-of : (o : Option A) (xs : List A) (w part rest : List Token) → w ≡ part ++ rest → K o part → After o xs rest → Turns K xs w
  unfolding After
  turn-of None xs w part rest e k a = subst (λ z. Turns K z w) (sym a.1) (inr (subst (K None) (sym (e ∙ ap (λ z. part ++ z) a.0 ∙ append-nil part)) k))
  turn-of (Some b) xs w part rest e k a =
      subst (λ z. Turns K z w) (sym a.5.1) (part, rest, e, k, subst (Turns K a.0) (sym (a.3 ∙ ap (λ z. a.1 ++ z) a.5.0 ∙ append-nil a.1)) a.4)

  to-turns : (xs : List A) (w : List Token) → OneOf (Part K After) (Gives []) xs w → Turns K xs w
  unfolding After
  to-turns xs w (inl l) = turn-of l.0 xs w l.1 l.2 l.3 l.4 l.5
  to-turns xs w (inr h) = subst (λ z. Turns K z w) (sym h.1) (inl h.0)

  passes-loop : Passes P P (Turns K)
  passes-loop s h [] w (inl e) = subst (λ z. P (behind_all z s)) (sym e) h
  passes-loop s h [] w (inr k) = x.passes s h None w k
  passes-loop s h (a ∷ xs) w l =
      subst (λ z. P (behind_all z s)) (sym l.2) (subst P (sym (behind-both l.0 l.1 s))
      (passes-loop (behind_all l.0 s) (x.passes s h (Some a) l.0 l.3) xs l.1 l.4))

  sound-after : (r : Parse (List A)) → Sound P (Turns K) r → (o : Option A) → Sound P (After o) (after_turn r o)
  unfolding After
  sound-after r sr None s h ts = ([], refl, (refl, refl), tt)
  sound-after r sr (Some a) s h ts =
      sound-then (Turns K) (λ more. Gives (a ∷ more)) P P passes-loop (λ more. (a ∷ more, [], (refl, refl))) (λ more. done (a ∷ more))
      (λ more l k us. ([], refl, (refl, refl), tt)) r sr s h ts

  sound-turns : (n : ℕ) → Sound P (Turns K) (turns test p n)
  unfolding turns
  sound-turns zero s h ts = ([], refl, ([], [], inl refl), tt)
  sound-turns (suc n) s h ts =
      answers-to s ts to-turns (cond (starts test ts) (bind (p ts) (after_turn (turns test p n))) (Ok ([], ts)))
      (answers-cond (Part K After) (Gives []) s ts (bind (p ts) (after_turn (turns test p n))) (Ok ([], ts))
      (sound-then K After P P x.passes has-after (after_turn (turns test p n)) (sound-after (turns test p n) (sound-turns n)) p x.answers s h ts)
      ([], refl, (refl, refl), tt) (starts test ts))

  suffix-after : (r : Parse (List A)) → ((ts : List Token) → Suffix ts (r ts)) → (o : Option A) (ts : List Token) → Suffix ts (after_turn r o ts)
  suffix-after r sr None ts = ([], refl)
  suffix-after r sr (Some a) ts = suffix-bind (λ more. done (a ∷ more)) (λ more l. ([], refl)) ts (r ts) (sr ts)

  local-after : (r : Parse (List A)) → Local r → (o : Option A) → Local (after_turn r o)
  local-after r lr None = local-done []
  local-after r lr (Some a) = local-then r lr (λ more. done (a ∷ more)) (λ more. local-done (a ∷ more)) (λ more l. ([], refl))

  local-turns : (n : ℕ) → Local (turns test p n)
  unfolding turns
  local-turns zero = local-stop
  local-turns (suc n) =
      local-choose test (then p (after_turn (turns test p n))) (done [])
      (local-then p x.local (after_turn (turns test p n)) (local-after (turns test p n) (local-turns n))
      (suffix-after (turns test p n) (λ ts. suffix (Turns K) q ts (turns test p n ts) (sound-turns n q hq ts)))) (local-done [])

  -- a turn is never empty
  pub shrinks : (ts : List Token) (y : Option A × List Token) → p ts ≡ Ok y → length y.1 < length ts
  shrinks ts y e = let c = subst (Answers K q ts) e (x.answers q hq ts) in shorter test ts c.0 y.1 c.1 (first y.0 c.0 [] c.2)

  turn-same : (n m : ℕ) (ts : List Token) → ((rest : List Token) → length rest < length ts → turns test p n rest ≡ turns test p m rest)
      → (r : Reading (Option A)) → p ts ≡ r
      → bind r (after_turn (turns test p n)) ≡ bind r (after_turn (turns test p m))
  turn-same n m ts again (Ok (Some a, rest)) e = ap (λ r. bind r (λ more. done (a ∷ more))) (again rest (shrinks ts (Some a, rest) e))
  turn-same n m ts again _ is = refl

  turns-enough : (n m : ℕ) (ts : List Token) → length ts < n → length ts < m → turns test p n ts ≡ turns test p m ts
  unfolding turns
  turns-enough zero m ts h k = absurd (omega arith)
  turns-enough (suc n) zero ts h k = absurd (omega arith)
  turns-enough (suc n) (suc m) ts h k =
      ap (λ r. cond (starts test ts) r (Ok ([], ts))) (turn-same n m ts (λ rest lt. turns-enough n m rest (omega arith) (omega arith)) (p ts) refl)

  local-loop : Local (loop test p)
  local-loop front t rest other g h =
      let n = suc (length (front ++ t ∷ rest) + length (front ++ t ∷ other)) in
      let a = turns-enough (suc (length (front ++ t ∷ rest))) n (front ++ t ∷ rest) (omega arith) (omega arith) in
      let b = turns-enough (suc (length (front ++ t ∷ other))) n (front ++ t ∷ other) (omega arith) (omega arith) in
      b ∙ local-turns n front t rest other g (ap left (sym a) ∙ h) ∙ ap (with_left (g ++ t ∷ other)) (sym a)

  -- a turn, by what it gives
  turn-is : (ts : List Token) → starts test ts ≡ true → loop test p ts ≡ bind (p ts) (after_turn (turns test p (length ts)))
  unfolding turns
  turn-is ts h = ap (λ b. cond b (bind (p ts) (after_turn (turns test p (length ts)))) (Ok ([], ts))) h

  pub loop-more : (ts : List Token) → starts test ts ≡ true → (a : A) (rest : List Token) → p ts ≡ Ok (Some a, rest)
      → loop test p ts ≡ bind (loop test p rest) (λ more. done (a ∷ more))
  loop-more ts h a rest e =
      turn-is ts h ∙ ap (λ r. bind r (after_turn (turns test p (length ts)))) e
      ∙ ap (λ r. bind r (λ more. done (a ∷ more))) (turns-enough (length ts) (suc (length rest)) rest (shrinks ts (Some a, rest) e) (omega arith))

  pub loop-last : (ts : List Token) → starts test ts ≡ true → (rest : List Token) → p ts ≡ Ok (None, rest) → loop test p ts ≡ Ok ([], rest)
  loop-last ts h rest e = turn-is ts h ∙ ap (λ r. bind r (after_turn (turns test p (length ts)))) e

  pub loop-none : (ts : List Token) → starts test ts ≡ false → loop test p ts ≡ Ok ([], ts)
  unfolding turns
  loop-none ts h = ap (λ b. cond b (bind (p ts) (after_turn (turns test p (length ts)))) (Ok ([], ts))) h

  pub loop-stops : (ts : List Token) → starts test ts ≡ true → (e : Why × List Token) → p ts ≡ Err e → loop test p ts ≡ Err e
  loop-stops ts h e is = turn-is ts h ∙ ap (λ r. bind r (after_turn (turns test p (length ts)))) is

  -- What follows each turn is another turn, or what follows them all.
  module _ {G : List Token → Type 0} (after : (o : Option A) (w rest : List Token) → K o w → F (w ++ rest))
      (last : (ts : List Token) → G ts → F ts × (starts test ts ≡ false)) where
    follows : (xs : List A) (w rest : List Token) → Turns K xs w → G rest → F (w ++ rest)
    follows [] w rest (inl e) g = subst (λ z. F (z ++ rest)) (sym e) (last rest g).0
    follows [] w rest (inr k) g = after None w rest k
    follows (a ∷ xs) w rest l g = subst (λ z. F (z ++ rest)) (sym l.2) (subst F (sym (append_assoc l.0 l.1 rest)) (after (Some a) l.0 (l.1 ++ rest) l.3))

    reads-last : (s : Standing) (w rest : List Token) → starts test (w ++ rest) ≡ true → ReadsAs s None w rest (p (w ++ rest))
        → ReadsAs s [] w rest (loop test p (w ++ rest))
    reads-last s w rest h (inl e) = inl (loop-last (w ++ rest) h rest e)
    reads-last s w rest h (inr e) = inr (e.0, loop-stops (w ++ rest) h (TooDeep, e.0) e.1, e.2)

    reads-more : (s : Standing) (a : A) (xs : List A) (u v rest : List Token) → starts test (u ++ (v ++ rest)) ≡ true
        → ReadsAs s (Some a) u (v ++ rest) (p (u ++ (v ++ rest)))
        → ReadsAs (behind_all u s) xs v rest (loop test p (v ++ rest)) → ReadsAs s (a ∷ xs) (u ++ v) rest (loop test p (u ++ (v ++ rest)))
    reads-more s a xs u v rest h (inl e) (inl f) = inl (loop-more (u ++ (v ++ rest)) h a (v ++ rest) e ∙ ap (λ r. bind r (λ more. done (a ∷ more))) f)
    reads-more s a xs u v rest h (inl e) (inr f) =
        inr (f.0, loop-more (u ++ (v ++ rest)) h a (v ++ rest) e ∙ ap (λ r. bind r (λ more. done (a ∷ more))) f.1, λ k. f.2 (shallow-second u v s k))
    reads-more s a xs u v rest h (inr e) f = inr (e.0, loop-stops (u ++ (v ++ rest)) h (TooDeep, e.0) e.1, λ k. e.2 (shallow-first u v s k))

    reads-loop : (s : Standing) → P s → (xs : List A) (w rest : List Token) → Turns K xs w → G rest → ReadsAs s xs w rest (loop test p (w ++ rest))
    reads-loop s h [] w rest (inl e) g = inl (ap (λ z. loop test p (z ++ rest)) e ∙ loop-none rest (last rest g).1)
    reads-loop s h [] w rest (inr k) g = reads-last s w rest (first None w rest k) (x.reads s h None w rest k (last rest g).0)
    reads-loop s h (a ∷ xs) w rest l g =
        let there : starts test (l.0 ++ (l.1 ++ rest)) ≡ true = first (Some a) l.0 (l.1 ++ rest) l.3 in
        let again = reads-loop (behind_all l.0 s) (x.passes s h (Some a) l.0 l.3) xs l.1 rest l.4 g in
        let whole = reads-more s a xs l.0 l.1 rest there (x.reads s h (Some a) l.0 (l.1 ++ rest) l.3 (follows xs l.1 rest l.4 g)) again in
        let here = subst (λ z. ReadsAs s (a ∷ xs) (l.0 ++ l.1) rest (loop test p z)) (sym (append_assoc l.0 l.1 rest)) whole in
        subst (λ z. ReadsAs s (a ∷ xs) z rest (loop test p (z ++ rest))) (sym l.2) here

    pub exact-loop : Exact P P (Turns K) G (loop test p)
    exact-loop = record {
      some = ([], [], inl refl);
      passes = passes-loop;
      answers = λ s h ts. sound-turns (suc (length ts)) s h ts;
      local = local-loop;
      reads = reads-loop;
    }

-- ---- any number of parts
each-turns : {A : Type 0} (K : Language A) (xs : List A) (w : List Token) → Each K xs w → Turns (Found K) xs w
each-turns K [] w l = inl l
each-turns K (a ∷ xs) w l = (l.0, l.1, l.2, (a, l.0, [], sym (append-nil l.0), l.3, (refl, refl)), each-turns K xs l.1 l.4)

turns-each : {A : Type 0} (K : Language A) (xs : List A) (w : List Token) → Turns (Found K) xs w → Each K xs w
turns-each K [] w (inl e) = e
turns-each K [] w (inr p) = cc
turns-each K (a ∷ xs) w l = (l.0, l.1, l.2, to-maybe K (Some a) l.0 (inl l.3), turns-each K xs l.1 l.4)

after-found : {A : Type 0} (K : Language A) (F : List Token → Type 0) → ((a : A) (w rest : List Token) → K a w → F (w ++ rest))
    → (o : Option A) (w rest : List Token) → Found K o w → F (w ++ rest)
after-found K F after o w rest k = subst (λ z. F (z ++ rest)) (sym k.3) (subst F (sym (append_assoc k.1 k.2 rest)) (after k.0 k.1 (k.2 ++ rest) k.4))

pub exact-many : {A : Type 0} {P : Standing → Type 0} (q : Standing) → P q → {K : Language A} {test : Token → Bool} {F G : List Token → Type 0} {p : Parse A}
    → Starts test true K → ((a : A) (w rest : List Token) → K a w → F (w ++ rest)) → ((ts : List Token) → G ts → F ts × (starts test ts ≡ false))
    → Exact P P K F p → Exact P P (Each K) G (many test p)
exact-many q hq {K = K} {F = F} first after last x =
    exact-to (turns-each K) (each-turns K) (exact-loop q hq (exact-found q hq x) (starts-part _ first) (after-found K F after) last)

-- ---- the other order of two
swap : {A B : Type 0} → A ⊎ B → B ⊎ A
swap (inl a) = inr a
swap (inr b) = inl b

pub exact-or : {A : Type 0} {P Q : Standing → Type 0} {K N : Language A} {F : List Token → Type 0} {p : Parse A} → Exact P Q (OneOf K N) F p
    → Exact P Q (OneOf N K) F p
exact-or x = exact-to (λ a w. swap) (λ a w. swap) x
