-- A word or symbol is known by its number.
use Rattle.std.proofs.Common.{◌≡◌, ℕ, true, false, [], ◌∷◌, get_or, refl, sym, ap, ◌∙◌}
use Rattle.std.proofs.lemmas.Bool.{eqb-true, eq-eqb}
use Rattle.std.specs.Prelude.{nat_eq, Some, None, ⊤, cond, Bool}
use Rattle.rv_syntax.specs.Marks.{number_of, kind_is, is_mark, has_mark}
use Rattle.rv_syntax.specs.{declared.token.Mark.Mark, declared.token.Kind.Kind, declared.token.Token.Token, Grammar.fixed}
use Rattle.rv_syntax.specs.declared.token.Mark.TheVariants as mark
use Rattle.rv_syntax.specs.declared.token.Kind.TheVariants as kind

abbrev marked : ℕ → Mark
marked n = get_or (
    mark.Node ∷ mark.Returns ∷ mark.Var ∷ mark.Let ∷ mark.Tel ∷ mark.Const ∷ mark.Type ∷ mark.Enum
    ∷ mark.Bool ∷ mark.Int ∷ mark.If ∷ mark.Then ∷ mark.Else ∷ mark.True ∷ mark.False ∷ mark.Not
    ∷ mark.And ∷ mark.Or ∷ mark.Xor ∷ mark.Pre ∷ mark.When ∷ mark.Current ∷ mark.Assert ∷ mark.Div
    ∷ mark.Mod ∷ mark.Arrow ∷ mark.Implies ∷ mark.Differs ∷ mark.AtMost ∷ mark.AtLeast ∷ mark.Less ∷ mark.Greater
    ∷ mark.Equal ∷ mark.Plus ∷ mark.Minus ∷ mark.Times ∷ mark.Slash ∷ mark.Open ∷ mark.Close ∷ mark.Comma
    ∷ mark.Semi ∷ mark.Colon ∷ mark.OpenBrace ∷ mark.CloseBrace ∷ mark.Hash ∷ mark.Dot ∷ []
    ) n mark.Node

back : (m : Mark) → marked (number_of m) ≡ m
back mark.Node = refl
back _ = refl

same-mark : (a b : Mark) → nat_eq (number_of a) (number_of b) ≡ true → a ≡ b
same-mark a b h = sym (back a) ∙ ap marked (eqb-true (number_of a) (number_of b) h) ∙ back b

kind-mark : (m : Mark) (k : Kind) → kind_is m k ≡ true → k ≡ kind.Fixed m
kind-mark m (kind.Fixed f) h = ap kind.Fixed (same-mark f m h)
kind-mark m _ h = cc

pub token-mark : (m : Mark) (t : Token) → is_mark m t ≡ true → t ≡ fixed m t.at
token-mark m t h = ap (λ k. record { kind = k; at = t.at }) (kind-mark m t.kind h)

pub mark-token : (m : Mark) (at : ℕ) → is_mark m (fixed m at) ≡ true
mark-token m at = eq-eqb (number_of m) (number_of m) refl

some-if : (b : Bool) (u : ⊤) → cond b (Some tt) None ≡ Some u → b ≡ true
some-if true u h = refl
some-if false u h = cc

pub from-has : (m : Mark) (t : Token) (u : ⊤) → has_mark m t ≡ Some u → t ≡ fixed m t.at
from-has m t u h = token-mark m t (some-if (is_mark m t) u h)

pub has-mark : (m : Mark) (at : ℕ) → has_mark m (fixed m at) ≡ Some tt
has-mark m at = ap (λ b. cond b (Some tt) None) (mark-token m at)
