-- Where one stands in an expression: its tokens hold no `;`, so none of them ends it.
use Rattle.std.proofs.Common.{◌≡◌, ◌≤◌, ℕ, List, [], ◌∷◌, ◌++◌, refl, sym, ap, ◌∙◌, subst}
use Rattle.std.specs.Prelude.{◌<◌}
use Rattle.rv_syntax.specs.declared.token.Mark.TheVariants as mark
use Rattle.rv_syntax.specs.Grammar.{Leaf, Yes, Callee, Function, Hash, Written, Atom, InBrackets, Before, Between, Gated, If, Given, Front, NoneBefore, Then}
use Rattle.rv_syntax.specs.Grammar.{fixed, leaf_token, callee_token, prefix_mark, op_mark, spelling, front_spelling}
use Rattle.rv_syntax.specs.Nesting.{Parts, past, limit, nesting, IsShallow, Inside, behind, behind_all, depth, IsShallowText}
use Rattle.rv_syntax.specs.{declared.token.Token.Token, declared.operator.Prefix.Prefix}
use Rattle.rv_tree.specs.declared.tree.Op.{Op}
use Rattle.rv_tree.specs.declared.tree.Op.TheVariants as op
use Rattle.rv_syntax.specs.declared.operator.Prefix.TheVariants as prefixed
use Rattle.rv_syntax.proofs.Nested.{past_all}

-- the token ends no expression
abbrev pub Stays : Token → Type 0
Stays t = (ns : Parts) → behind t (Inside ns) ≡ Inside (past t ns)

abbrev pub Stay : List Token → Type 0
Stay [] = Unit {0}
Stay (t ∷ ts) = Stays t × Stay ts

stay-both : (ts us : List Token) → Stay ts → Stay us → Stay (ts ++ us)
stay-both [] us h k = k
stay-both (t ∷ ts) us h k = (h.0, stay-both ts us h.1 k)

pub stay-front : (ts us : List Token) → Stay (ts ++ us) → Stay ts
stay-front [] us h = tt
stay-front (t ∷ ts) us h = (h.0, stay-front ts us h.1)

stays-leaf : (l : Leaf) (at : ℕ) → Stays (leaf_token l at)
stays-leaf Yes at ns = refl
stays-leaf _ at ns = refl

stays-callee : (f : Callee) → Stays (callee_token f)
stays-callee (Function x) ns = refl
stays-callee (Hash at) ns = refl

stays-prefix : (p : Prefix) (at : ℕ) → Stays (fixed (prefix_mark p) at)
stays-prefix prefixed.Not at ns = refl
stays-prefix _ at ns = refl

stays-op : (o : Op) (at : ℕ) → Stays (fixed (op_mark o) at)
stays-op op.Arrow at ns = refl
stays-op _ at ns = refl

mutual
  pub stay-spelled : (w : Written) → Stay (spelling w)
  stay-spelled (Atom l at) = (stays-leaf l at, tt)
  stay-spelled (InBrackets a w b) = (λ ns. refl, stay-both (spelling w) (fixed mark.Close b ∷ []) (stay-spelled w) (λ ns. refl, tt))
  stay-spelled (Before p at w) = (stays-prefix p at, stay-spelled w)
  stay-spelled (Between o at a b) = stay-both (spelling a) (fixed (op_mark o) at ∷ spelling b) (stay-spelled a) (stays-op o at, stay-spelled b)
  stay-spelled (Gated w at x) = stay-both (spelling w) (fixed mark.When at ∷ _ ∷ []) (stay-spelled w) (λ ns. refl, (λ ns. refl, tt))
  stay-spelled (If i a t b e c) = (
    λ ns. refl,
    stay-both (spelling a) (fixed mark.Then t ∷ (spelling b ++ fixed mark.Else e ∷ spelling c)) (stay-spelled a)
        (λ ns. refl, stay-both (spelling b) (fixed mark.Else e ∷ spelling c) (stay-spelled b) (λ ns. refl, stay-spelled c)),
  )
  stay-spelled (Given f a front w b) = (
    stays-callee f,
    (
      λ ns. refl,
      stay-both (front_spelling front) (spelling w ++ fixed mark.Close b ∷ []) (stay-fronts front)
          (stay-both (spelling w) (fixed mark.Close b ∷ []) (stay-spelled w) (λ ns. refl, tt)),
    ),
  )

  stay-fronts : (front : Front) → Stay (front_spelling front)
  stay-fronts NoneBefore = tt
  stay-fronts (Then front w at) =
      stay-both (front_spelling front) (spelling w ++ fixed mark.Comma at ∷ []) (stay-fronts front)
      (stay-both (spelling w) (fixed mark.Comma at ∷ []) (stay-spelled w) (λ ns. refl, tt))

-- behind such tokens one is inside
pub behind-inside : (ts : List Token) (ns : Parts) → Stay ts → behind_all ts (Inside ns) ≡ Inside (past_all ts ns)
behind-inside [] ns h = refl
behind-inside (t ∷ ts) ns h = ap (behind_all ts) (h.0 ns) ∙ behind-inside ts (past t ns) h.1

pub to-shallow-text : (ts : List Token) (ns : Parts) → Stay ts → IsShallow ns ts → IsShallowText (Inside ns) ts
to-shallow-text [] ns h s = tt
to-shallow-text (t ∷ ts) ns h s =
    (subst (λ z. depth z ≤ limit) (sym (h.0 ns)) s.0, subst (λ z. IsShallowText z ts) (sym (h.0 ns)) (to-shallow-text ts (past t ns) h.1 s.1))

pub from-shallow-text : (ts : List Token) (ns : Parts) → Stay ts → IsShallowText (Inside ns) ts → IsShallow ns ts
from-shallow-text [] ns h s = tt
from-shallow-text (t ∷ ts) ns h s =
    (subst (λ z. depth z ≤ limit) (h.0 ns) s.0, from-shallow-text ts (past t ns) h.1 (subst (λ z. IsShallowText z ts) (h.0 ns) s.1))

pub to-deep-text : (ts : List Token) (ns : Parts) → Stay ts → limit < nesting (past_all ts ns) → limit < depth (behind_all ts (Inside ns))
to-deep-text ts ns h d = subst (λ z. limit < depth z) (sym (behind-inside ts ns h)) d
