-- Lists of rows of one width, and points that grow number by number.
use Rattle.std.proofs.Common.{◌≡◌, ℕ, zero, suc, ◌≤◌, ◌<◌, ◌^◌, ℤ, pos, ◌-ℤ◌, ◌≤ℤ◌, ◌<ℤ◌, List, [], ◌∷◌, ◌++◌, length, get_or, slice_get, None, Some, Option}
use Rattle.std.proofs.Common.{IfSome, All, arith, refl, ap, sym, ◌∙◌, subst}
use Rattle.std.proofs.{lemmas.Int.ints, lemmas.List.length_push, lemmas.List.get_or_append_left, lemmas.List.Elements.All-push, lemmas.List.Elements.All-nil}
use Rattle.std.proofs.{lemmas.Option.get_or_from_slice_get}
use Rattle.rv_rows.specs.{declared.linear.Row.Row, Tight.Fits, Tight.IsTightened}
use Rattle.rv_poly.specs.{Whole.IsInReplay, Points.HasPoint, Guides.IsGuide, Guides.IsGuided, Guides.IsTrail, Guides.IsWholePoint}

pub guide-none : (width : ℕ) → IsGuide width []
guide-none width = record { fits = All-nil Fits; widths = All-nil (λ r. length r.coefficients ≡ width) }

pub guided-same : (width : ℕ) (rows : List Row) → IsGuided width rows rows
guided-same width rows = record { guide = λ g. g; size = omega arith }

pub guided-trans : (width : ℕ) (a b c : List Row) → IsGuided width a b → IsGuided width b c → IsGuided width a c
guided-trans width a b c g h = record { guide = λ x. h.guide (g.guide x); size = (let l = g.size in let m = h.size in omega arith) }

pub guided-more : (width : ℕ) (rows : List Row) (r : Row) → Fits r → length r.coefficients ≡ width → IsGuided width rows (rows ++ r ∷ [])
guided-more width rows r f w = record {
  guide = λ g. record {
    fits = All-push Fits rows r g.fits f;
    widths = All-push (λ x. length x.coefficients ≡ width) rows r g.widths w;
  };
  size = (let l = length_push rows r in omega arith);
}

pub guided-in : (width : ℕ) (a b : List Row) (i : ℕ) → IsGuided width a b → i < length a → i < length b
guided-in width a b i g l = let m = g.size in omega arith

pub guided-upto : (width : ℕ) (a b : List Row) (n : ℕ) → IsGuided width a b → n ≤ length a → n ≤ length b
guided-upto width a b n g l = let m = g.size in omega arith

pub tightened-width : (old new : Row) → IsTightened old new → length new.coefficients ≡ length old.coefficients
tightened-width old new t = go t.divisor refl
  where
    go : (d : ℕ) → d ≡ t.divisor → length new.coefficients ≡ length old.coefficients
    go zero e = ap (λ r. length r.coefficients) (t.none (sym e))
    go (suc n) e = (t.divided (omega arith)).width

pub guide-fits : (width : ℕ) (rows : List Row) (i : ℕ) (r : Row) → IsGuide width rows → i < length rows → slice_get rows i ≡ Some r → Fits r
guide-fits width rows i r g l e = subst Fits (get_or_from_slice_get rows i r r e) (g.fits i r l)

pub guide-width : (width : ℕ) (rows : List Row) (i : ℕ) (r : Row) → IsGuide width rows → i < length rows → slice_get rows i ≡ Some r
    → length r.coefficients ≡ width
guide-width width rows i r g l e =
    let P : Row → Type 0 = λ x. length x.coefficients ≡ width in
    subst P (get_or_from_slice_get rows i r r e) (g.widths i r l)

pub guide-columns : (width : ℕ) (rows : List Row) (column : ℕ) → IsGuide width rows → column < width → All (λ r. column < length r.coefficients) rows
guide-columns width rows column g h i d m = let e = g.widths i d m in omega arith

pub trail-none : (width : ℕ) → IsTrail width []
trail-none width = record { replay = All-nil IsInReplay; size = omega arith }

pub trail-more : (width : ℕ) (point : List ℤ) (x : ℤ) → IsTrail width point → length point < width → IsInReplay x → IsTrail width (point ++ x ∷ [])
trail-more width point x t l r = record { replay = All-push IsInReplay point x t.replay r; size = (let e = length_push point x in omega arith) }

pub trail-less : (width : ℕ) (old new : List ℤ) (x : ℤ) → old ≡ new ++ x ∷ [] → IsTrail width old → IsTrail width new
trail-less width old new x e t = record {
  replay = λ i d l. front i d l;
  size = (let s = length_push new x in let n = ap (λ ys. length ys) e in let m = t.size in omega arith);
}
  where
    front : (i : ℕ) (d : ℤ) → i < length new → IsInReplay (get_or new i d)
    front i d l =
        let s = length_push new x in
        let n = ap (λ ys. length ys) e in
        subst IsInReplay (ap (λ ys. get_or ys i d) e ∙ get_or_append_left new (x ∷ []) d i l) (t.replay i d (omega arith))

pub between-replay : (low high x : ℤ) → (pos 0 -ℤ pos (2 ^ 63)) ≤ℤ low → high <ℤ pos (2 ^ 63) → low ≤ℤ x → x ≤ℤ high → IsInReplay x
between-replay low high x h k l m = record { low = omega (arith, ints); high = omega (arith, ints) }

module _ (rows : List Row) (width : ℕ) where
  pub whole-has : (o : Option (List ℤ)) → IfSome o (λ p. IsWholePoint rows width p) → IfSome o (λ p. HasPoint rows p)
  whole-has None h = h
  whole-has (Some p) h = h.has

  pub whole-replay : (o : Option (List ℤ)) → IfSome o (λ p. IsWholePoint rows width p) → IfSome o (λ p. All IsInReplay p)
  whole-replay None h = h
  whole-replay (Some p) h = h.replay

  pub whole-size : (n : ℕ) → width ≡ n → (o : Option (List ℤ)) → IfSome o (λ p. IsWholePoint rows width p) → IfSome o (λ p. length p ≡ n)
  whole-size n e None h = h
  whole-size n e (Some p) h = h.size ∙ e
