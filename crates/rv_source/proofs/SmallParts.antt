-- Each literal among the parts of an expression with small literals is small.
use Rattle.std.proofs.Common.{ℕ, suc, ◌≤◌, List, [], ◌∷◌, ◌++◌, refl, arith}
use Rattle.std.proofs.lemmas.List.Elements.{All-nil, All-cons, All-append}
use Rattle.std.specs.{Prelude.⊤, Prelude.Option, List.All, List.Contains, List.flat_map}
use Rattle.rv_base.specs.Limits.{too_heavy}
use Rattle.rv_tree.specs.Tree.{Tree, Node, Form, Number, Not, Minus, Pre, Current, When, Binary, If, AtMostOne, Call, Trees, None, More}
use Rattle.rv_types.specs.Variables.{parts, form_parts, parts_of_all}
use Rattle.rv_syntax.specs.Literals.{IsSmall, IsSmallForm, AreSmall}

-- a small literal, or what is no literal
abbrev pub IsSmallPart : Tree → Type 0
IsSmallPart (Node at site (Number v)) = v ≤ too_heavy
IsSmallPart _ = ⊤

own_small : (at : ℕ) (site : Option ℕ) (form : Form) → IsSmallForm form → IsSmallPart (Node at site form)
own_small at site (Number v) h = h
own_small at site _ h = tt

mutual
  pub parts_small : (e : Tree) → IsSmall e → All IsSmallPart (parts e)
  parts_small (Node at site form) h = All-cons IsSmallPart (Node at site form) (form_parts form) (own_small at site form h) (form_parts_small form h)

  form_parts_small : (form : Form) → IsSmallForm form → All IsSmallPart (form_parts form)
  form_parts_small (Not e) h = parts_small e h
  form_parts_small (Minus e) h = parts_small e h
  form_parts_small (Pre e) h = parts_small e h
  form_parts_small (Current e) h = parts_small e h
  form_parts_small (When e c) h = parts_small e h
  form_parts_small (Binary o a b) h = All-append IsSmallPart (parts a) (parts b) (parts_small a h.0) (parts_small b h.1)
  form_parts_small (If a b c) h =
      All-append IsSmallPart (parts a) (parts b ++ parts c) (parts_small a h.0)
      (All-append IsSmallPart (parts b) (parts c) (parts_small b h.1) (parts_small c h.2))
  form_parts_small (AtMostOne es) h = all_parts_small es h
  form_parts_small (Call f es) h = all_parts_small es h
  form_parts_small _ h = All-nil IsSmallPart

  all_parts_small : (es : Trees) → AreSmall es → All IsSmallPart (parts_of_all es)
  all_parts_small None h = All-nil IsSmallPart
  all_parts_small (More e es) h = All-append IsSmallPart (parts e) (parts_of_all es) (parts_small e h.0) (all_parts_small es h.1)

-- so are those of several expressions
pub joined_small : {X : Type 0} (f : X → List Tree) (xs : List X) → ((x : X) → Contains xs x → All IsSmallPart (f x)) → All IsSmallPart (flat_map f xs)
joined_small f [] each = All-nil IsSmallPart
joined_small f (x ∷ xs) each =
    All-append IsSmallPart (f x) (flat_map f xs) (each x (0, omega arith, refl)) (joined_small f xs (λ y w. each y (suc w.0, omega (arith, w.1), w.2)))
