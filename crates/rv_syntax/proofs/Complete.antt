-- What the grammar derives is read by the machine without a limit.
use Rattle.std.proofs.Common.{◌≡◌, ℕ, ◌<◌, ◌≤◌, true, false, not, cond, List, [], ◌∷◌, ◌++◌, refl, sym, ap, ◌∙◌, subst, inl, inr, arith, append_assoc}
use Rattle.std.proofs.lemmas.Bool.{cases_lt, le-leb, lt-leb, and_from, and_left, and_right, cond-true}
use Rattle.std.specs.Prelude.{Some, Ok}
use Rattle.rv_syntax.specs.declared.token.Mark.TheVariants as mark
use Rattle.rv_syntax.specs.Grammar.{Leaf, Yes, Callee, Function, Hash, Written, Atom, InBrackets, Before, Between, Gated, If, Given, Front, NoneBefore, Then}
use Rattle.rv_syntax.specs.Grammar.{fixed, leaf_token, name_token, callee_token, prefix_mark, op_mark, spelling, front_spelling, Sampled, syntax_of}
use Rattle.rv_syntax.specs.Grammar.{front_trees, level_of, Side, ToLeft, side, left_by, right_by, left_level, right_level, level, is_open, IsGrammatical}
use Rattle.rv_syntax.specs.Grammar.{AreGrammatical}
use Rattle.rv_syntax.specs.Machine.{start_of, next_of, Frame, Brackets, Under, After, Asked, Answered, Else, Within, need_of, need, Held, held, leaf_held, Want}
use Rattle.rv_syntax.specs.Machine.{Have, Ends, accepts, taken, wrapped, awaited, onward, settle, begin, at_end, going, run, following}
use Rattle.rv_syntax.specs.{declared.token.Token.Token, declared.operator.Prefix.Prefix, declared.parser.Next.Next}
use Rattle.rv_tree.specs.{declared.tree.Name.Name, declared.tree.Op.Op}
use Rattle.rv_tree.specs.declared.tree.Op.TheVariants as op
use Rattle.rv_syntax.specs.declared.operator.Prefix.TheVariants as prefixed
use Rattle.rv_syntax.specs.declared.parser.Start.TheVariants as start
use Rattle.rv_syntax.specs.declared.parser.Next.TheVariants as next

-- the operand that is written
abbrev pub operand : Written → Held
operand w = held (level w) (is_open w) (syntax_of w)

pub start-leaf : (l : Leaf) (at : ℕ) → start_of (leaf_token l at) ≡ start.Operand
start-leaf Yes at = refl
start-leaf _ at = refl

pub held-leaf : (l : Leaf) (at : ℕ) → leaf_held (leaf_token l at) ≡ operand (Atom l at)
held-leaf Yes at = refl
held-leaf _ at = refl

pub start-prefix : (p : Prefix) (at : ℕ) → start_of (fixed (prefix_mark p) at) ≡ start.Before p at
start-prefix prefixed.Not at = refl
start-prefix _ at = refl

pub next-op : (o : Op) (at : ℕ) → next_of (fixed (op_mark o) at) ≡ next.Between o at
next-op op.Arrow at = refl
next-op _ at = refl

-- The token does not go on with an operand at the right end of what is written.
abbrev pub Ends-at : Next → Written → Type 0
Ends-at r (Before p at w) = (accepts r 9 (operand w) ≡ false) × Ends-at r w
Ends-at r (Between o at a b) = (accepts r (right_level o) (operand b) ≡ false) × Ends-at r b
Ends-at r (If i a t b e c) = (accepts r 0 (operand c) ≡ false) × Ends-at r c
Ends-at r _ = Unit {0}

-- a token that goes on with no operand
abbrev pub IsEnd : Next → Type 0
IsEnd (next.Between o at) = ⊥
IsEnd (next.Gates at) = ⊥
IsEnd next.Opens = ⊥
IsEnd _ = Unit {0}

pub accepts-end : (r : Next) (k : ℕ) (h : Held) → IsEnd r → accepts r k h ≡ false
accepts-end (next.Between o at) k h e = absurd e
accepts-end (next.Gates at) k h e = absurd e
accepts-end next.Opens k h e = absurd e
accepts-end _ k h e = refl

pub ends-all : (r : Next) (w : Written) → IsEnd r → Ends-at r w
ends-all r (Before p at w) h = (accepts-end r 9 (operand w) h, ends-all r w h)
ends-all r (Between o at a b) h = (accepts-end r (right_level o) (operand b) h, ends-all r b h)
ends-all r (If i a t b e c) h = (accepts-end r 0 (operand c) h, ends-all r c h)
ends-all r _ h = tt

-- an operator that has what is written on its left takes none of it to its right
beats-same : (x : Side) (p : ℕ) → left_by x p ≤ p → p < right_by x p
beats-same ToLeft p h = omega arith
beats-same _ p h = omega arith

left_by-le : (x : Side) (p : ℕ) → p ≤ left_by x p
left_by-le ToLeft p = omega arith
left_by-le _ p = omega arith

right_by-le : (x : Side) (p : ℕ) → p ≤ right_by x p
right_by-le ToLeft p = omega arith
right_by-le _ p = omega arith

beats : (p q : ℕ) → left_by (side p) p ≤ q → p < right_by (side q) q
beats p q h =
    elim (cases_lt p q) [
      | inl lt ↦ omega (arith, right_by-le (side q) q)
      | inr le ↦
          let e : p ≡ q = omega (arith, left_by-le (side p) p) in
          subst (λ x. p < right_by (side x) x) e (beats-same (side p) p (omega arith))
    ]

pub below-eight : (o : Op) → level_of o < 8
below-eight op.Arrow = omega arith
below-eight _ = omega arith

-- a token after a closed operand on its left, for the operators and for `when`
ends-left : (o : Op) (up : ℕ) (w : Written) → IsGrammatical w → left_level o ≤ level w → is_open w ≡ false → Ends-at (next.Between o up) w
ends-left o up (Before p at w) g h c =
    (and_right _ _ (and_left _ _ (lt-leb 9 (level_of o) (omega (arith, below-eight o)))), ends-left o up w g.1 (omega arith) c)
ends-left o up (Between q at a b) g h c = (
  and_right _ _ (and_left _ _ (lt-leb (right_level q) (level_of o) (beats (level_of o) (level_of q) h))),
  ends-left o up b g.4 (omega (arith, right_by-le (side (level_of q)) (level_of q))) c,
)
ends-left o up (If i a t b e d) g h c = cc
ends-left o up _ g h c = tt

ends-gate : (up : ℕ) (w : Written) → IsGrammatical w → 8 ≤ level w → is_open w ≡ false → Ends-at (next.Gates up) w
ends-gate up (Before p at w) g h c = (and_right _ _ refl, ends-gate up w g.1 (omega arith) c)
ends-gate up (Between q at a b) g h c = absurd (omega (arith, below-eight q))
ends-gate up (If i a t b e d) g h c = cc
ends-gate up _ g h c = tt

-- An operand that the token does not go on with is left to the frame.
pub pop : (ts : List Token) (h g : Held) (f : Frame) (s : List Frame) → accepts (following ts) (need_of f) h ≡ false → wrapped f h ≡ Some g
    → run (Have h (f ∷ s)) ts ≡ run (Have g s) ts
unfolding run
pop [] h g f s e w = ap (λ o. at_end (onward o (λ x. settle next.Other x s) (awaited next.Other f h.body s))) w
pop (x ∷ ts) h g f s e w =
    ap (λ b. going (cond b (taken (next_of x) h (f ∷ s)) (onward (wrapped f h) (λ y. settle (next_of x) y s) (awaited (next_of x) f h.body s))) (λ q. run q ts)
    (x ∷ ts)) e
    ∙ ap (λ o. going (onward o (λ y. settle (next_of x) y s) (awaited (next_of x) f h.body s)) (λ q. run q ts) (x ∷ ts)) w

-- a token that goes on with an operand
pub settle-taken : (r : Next) (h : Held) (s : List Frame) → accepts r (need s) h ≡ true → settle r h s ≡ taken r h s
settle-taken r h [] e = cond-true _ _ _ e
settle-taken r h (f ∷ s) e = cond-true _ _ _ e

push-after : (ts : List Token) (o : Op) (at : ℕ) (h : Held) (s : List Frame) → accepts (next.Between o at) (need s) h ≡ true
    → run (Have h s) (fixed (op_mark o) at ∷ ts) ≡ run (Want (After o at h.body ∷ s)) ts
unfolding run
push-after ts o at h s e =
    ap (λ r. going (settle r h s) (λ q. run q ts) (fixed (op_mark o) at ∷ ts)) (next-op o at)
    ∙ ap (λ m. going m (λ q. run q ts) (fixed (op_mark o) at ∷ ts)) (settle-taken (next.Between o at) h s e)

push-clock : (ts : List Token) (at : ℕ) (x : Name) (h : Held) (s : List Frame) → accepts (next.Gates at) (need s) h ≡ true
    → run (Have h s) (fixed mark.When at ∷ name_token x ∷ ts) ≡ run (Have (held 8 false (Sampled at h.body x)) s) ts
unfolding run
push-clock ts at x h s e = ap (λ m. going m (λ q. run q (name_token x ∷ ts)) (fixed mark.When at ∷ name_token x ∷ ts)) (settle-taken (next.Gates at) h s e)

push-call : (f : Callee) (a : ℕ) (ts : List Token) (s : List Frame) → run (Want s) (callee_token f ∷ fixed mark.Open a ∷ ts) ≡ run (Want (Within f [] ∷ s)) ts
unfolding run
push-call (Function x) a ts s = ap (λ m. going m (λ q. run q ts) (fixed mark.Open a ∷ ts)) (settle-taken next.Opens (leaf_held (name_token x)) s refl)
push-call (Hash at) a ts s = refl

mutual
  unfolding run

  pub reads : (w : Written) (s : List Frame) (rest : List Token) → IsGrammatical w → need s ≤ level w → Ends-at (following rest) w
      → run (Want s) (spelling w ++ rest) ≡ run (Have (operand w) s) rest
  reads (Atom l at) s rest g h e =
      ap (λ x. going (begin x (leaf_held (leaf_token l at)) s) (λ q. run q rest) (leaf_token l at ∷ rest)) (start-leaf l at)
      ∙ ap (λ x. run (Have x s) rest) (held-leaf l at)
  reads (InBrackets a w b) s rest g h e =
      ap (λ ts. run (Want (Brackets ∷ s)) ts) (append_assoc (spelling w) (fixed mark.Close b ∷ []) rest)
      ∙ reads w (Brackets ∷ s) (fixed mark.Close b ∷ rest) g (omega arith) (ends-all next.Closes w tt)
  reads (Before p at w) s rest g h e =
      ap (λ x. going (begin x (leaf_held (fixed (prefix_mark p) at)) s) (λ q. run q (spelling w ++ rest)) (fixed (prefix_mark p) at ∷ (spelling w ++ rest)))
      (start-prefix p at)
      ∙ reads w (Under p at ∷ s) rest g.1 g.0 e.1
      ∙ pop rest (operand w) (operand (Before p at w)) (Under p at) s e.0 refl
  reads (Between o at a b) s rest g h e =
      let low : need s ≤ level a = omega (arith, left_by-le (side (level_of o)) (level_of o)) in
      ap (λ ts. run (Want s) ts) (append_assoc (spelling a) (fixed (op_mark o) at ∷ spelling b) rest)
      ∙ reads a s (fixed (op_mark o) at ∷ (spelling b ++ rest)) g.3 low (subst (λ r. Ends-at r a) (sym (next-op o at)) (ends-left o at a g.3 g.0 g.1))
      ∙ push-after (spelling b ++ rest) o at (operand a) s (and_from _ _ (ap not g.1)
      (and_from _ _ (le-leb (need s) (level_of o) h) (le-leb (left_level o) (level a) g.0)))
      ∙ reads b (After o at (syntax_of a) ∷ s) rest g.4 g.2 e.1
      ∙ pop rest (operand b) (operand (Between o at a b)) (After o at (syntax_of a)) s e.0 refl
  reads (Gated w at x) s rest g h e =
      ap (λ ts. run (Want s) ts) (append_assoc (spelling w) (fixed mark.When at ∷ name_token x ∷ []) rest)
      ∙ reads w s (fixed mark.When at ∷ name_token x ∷ rest) g.2 (omega arith) (ends-gate at w g.2 g.0 g.1)
      ∙ push-clock rest at x (operand w) s (and_from _ _ (ap not g.1) (and_from _ _ (le-leb (need s) 8 h) (le-leb 8 (level w) g.0)))
  reads (If i a t b e c) s rest g h n =
      ap (λ ts. run (Want (Asked i ∷ s)) ts) (append_assoc (spelling a) (fixed mark.Then t ∷ (spelling b ++ fixed mark.Else e ∷ spelling c)) rest)
      ∙ reads a (Asked i ∷ s) (fixed mark.Then t ∷ ((spelling b ++ fixed mark.Else e ∷ spelling c) ++ rest)) g.0 (omega arith) (ends-all next.Answers a tt)
      ∙ ap (λ ts. run (Want (Answered i (syntax_of a) ∷ s)) ts) (append_assoc (spelling b) (fixed mark.Else e ∷ spelling c) rest)
      ∙ reads b (Answered i (syntax_of a) ∷ s) (fixed mark.Else e ∷ (spelling c ++ rest)) g.1 (omega arith) (ends-all next.Otherwise b tt)
      ∙ reads c (Else i (syntax_of a) (syntax_of b) ∷ s) rest g.2 (omega arith) n.1
      ∙ pop rest (operand c) (operand (If i a t b e c)) (Else i (syntax_of a) (syntax_of b)) s n.0 refl
  reads (Given f a front w b) s rest g h e =
      push-call f a ((front_spelling front ++ (spelling w ++ fixed mark.Close b ∷ [])) ++ rest) s
      ∙ ap (λ ts. run (Want (Within f [] ∷ s)) ts) (append_assoc (front_spelling front) (spelling w ++ fixed mark.Close b ∷ []) rest)
      ∙ reads-front front f s ((spelling w ++ fixed mark.Close b ∷ []) ++ rest) g.0
      ∙ ap (λ ts. run (Want (Within f (front_trees front) ∷ s)) ts) (append_assoc (spelling w) (fixed mark.Close b ∷ []) rest)
      ∙ reads w (Within f (front_trees front) ∷ s) (fixed mark.Close b ∷ rest) g.1 (omega arith) (ends-all next.Closes w tt)

  pub reads-front : (front : Front) (f : Callee) (s : List Frame) (rest : List Token) → AreGrammatical front
      → run (Want (Within f [] ∷ s)) (front_spelling front ++ rest) ≡ run (Want (Within f (front_trees front) ∷ s)) rest
  reads-front NoneBefore f s rest g = refl
  reads-front (Then front w at) f s rest g =
      ap (λ ts. run (Want (Within f [] ∷ s)) ts) (append_assoc (front_spelling front) (spelling w ++ fixed mark.Comma at ∷ []) rest)
      ∙ reads-front front f s ((spelling w ++ fixed mark.Comma at ∷ []) ++ rest) g.0
      ∙ ap (λ ts. run (Want (Within f (front_trees front) ∷ s)) ts) (append_assoc (spelling w) (fixed mark.Comma at ∷ []) rest)
      ∙ reads w (Within f (front_trees front) ∷ s) (fixed mark.Comma at ∷ rest) g.1 (omega arith) (ends-all next.Separates w tt)

ends-here : (ts : List Token) (h : Held) → IsEnd (following ts) → run (Have h []) ts ≡ Ok (h.body, ts)
unfolding run
ends-here [] h e = refl
ends-here (x ∷ ts) h e = ap (λ b. going (cond b (taken (next_of x) h []) (Ends h.body)) (λ q. run q ts) (x ∷ ts)) (accepts-end (next_of x) 0 h e)

-- What the grammar derives is read, up to a token that goes on with no expression.
pub complete : (w : Written) (rest : List Token) → IsGrammatical w → IsEnd (following rest) → run (Want []) (spelling w ++ rest) ≡ Ok (syntax_of w, rest)
complete w rest g h = reads w [] rest g (omega arith) (ends-all (following rest) w h) ∙ ends-here rest (operand w) h
