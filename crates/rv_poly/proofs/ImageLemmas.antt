-- Bounds of left sides after updates, and the images of moves.
use Rattle.std.proofs.Common.{◌≡◌, ◌⊎◌, ℕ, zero, suc, ◌+◌, ◌*◌, ◌≤◌, ◌<◌, ◌^◌, ℤ, pos, ◌+ℤ◌, ◌-ℤ◌, ◌*ℤ◌, ◌≤ℤ◌, List, [], ◌∷◌, ◌++◌, length, map, take, get_or}
use Rattle.std.proofs.Common.{All, Option, Some, None, FitsSigned, arith, refl, ap, sym, ◌∙◌, subst, inl, inr}
use Rattle.std.proofs.lemmas.Int.{ints, unsigned_abs-mul, fits_signed_from_abs}
use Rattle.std.proofs.lemmas.List.{length-map, length-take, get_or-map, get_or_default, get_or_past, same_lists}
use Rattle.std.proofs.lemmas.List.Elements.{All-map, All-take, All-head, All-tail, All-append}
use Rattle.std.proofs.{Math.IntN.*ℤ-zero, Math.Nat.mul-le-mul, lemmas.Bool.cases_lt}
use Rattle.std.specs.{Prelude.IfSome, Int.w128, Int.RustNames.unsigned_abs}
use Rattle.rv_rows.specs.Forms.{number, value, values, IsSubstituted, CanSubstitute, SumsStay, FormWithin}
use Rattle.rv_rows.specs.Multipliers.{ShowsAtOnce, by_none, by_one, by_two}
use Rattle.rv_rows.specs.{declared.linear.Row.Row, declared.linear.Form.Form, Rows.dot, Rows.Holds, Rows.coefficient, Tight.Fits}
use Rattle.rv_rows.proofs.RowLemmas.{dot-cons, get_or-tail, dot-none, tail_of}
use Rattle.rv_rows.proofs.{IntLemmas.abs-add, IntLemmas.mul_comm_int, IntLemmas.mul_add, FormLemmas.substituted_same}
use Rattle.rv_seek.specs.Least.{bounded}
use Rattle.rv_poly.specs.Images.{IsImage, AreUpdates, ShowsAfter, AreMoves, IsNarrow, StaysWithin, IsCut, AreCut}
use Rattle.rv_poly.specs.{Points.HasPoint, Closing.AreClosing}
use Rattle.rv_poly.proofs.{EliminateLemmas.number_within, ClosingLemmas.own_shown, ClosingLemmas.covers-side}

-- a sum of products is at most as many products of the greatest numbers
dot-within : (a b m : ℕ) → a * b ≡ m → (cs xs : List ℤ) → All (λ c. unsigned_abs c ≤ a) cs → All (λ x. unsigned_abs x ≤ b) xs
    → unsigned_abs (dot cs xs) ≤ length cs * m
dot-within a b m e [] xs h k = omega arith
dot-within a b m e (c ∷ cs) [] h k = omega arith
dot-within a b m e (c ∷ cs) (x ∷ xs) h k =
    let rest = dot-within a b m e cs xs (All-tail (λ z. unsigned_abs z ≤ a) c cs h) (All-tail (λ z. unsigned_abs z ≤ b) x xs k) in
    let p = unsigned_abs-mul c x in
    let q = mul-le-mul (All-head (λ z. unsigned_abs z ≤ a) c cs h) (All-head (λ z. unsigned_abs z ≤ b) x xs k) in
    let s = abs-add (c *ℤ x) (dot cs xs) in
    joined _ _ _ _ (length cs) s p (rw e at q) rest
  where
    joined : (t u v w n : ℕ) → t ≤ u + v → u ≡ w → w ≤ m → v ≤ n * m → t ≤ suc n * m
    joined t u v w n s p q r = omega arith

pub sums-within : (cs xs : List ℤ) → All (λ c. unsigned_abs c ≤ 2 ^ 30) cs → All (λ x. unsigned_abs x ≤ 2 ^ 41) xs → length cs ≤ 128
    → unsigned_abs (dot cs xs) ≤ 2 ^ 78
sums-within cs xs h k l = let x = dot-within (2 ^ 30) (2 ^ 41) (2 ^ 71) refl cs xs h k in omega arith

sums-stay : (cs xs : List ℤ) → All (λ c. unsigned_abs c ≤ 2 ^ 30) cs → All (λ x. unsigned_abs x ≤ 2 ^ 41) xs → length cs ≤ 128 → SumsStay cs xs
sums-stay cs xs h k l n =
    let e = length-take n cs in
    let x = sums-within (take n cs) xs (All-take (λ c. unsigned_abs c ≤ 2 ^ 30) n cs h) k (omega arith) in
    omega arith

columns-small : (updates : List Form) → All (FormWithin (2 ^ 41)) updates → (k : ℕ)
    → All (λ x. unsigned_abs x ≤ 2 ^ 41) (map (λ f. number k f.coefficients) updates)
columns-small updates h k = All-map (λ x. unsigned_abs x ≤ 2 ^ 41) (λ f. number k f.coefficients) updates
    (λ i d l. number_within (2 ^ 41) (get_or updates i d).coefficients ((h i d l).0) k)

constants-small : (updates : List Form) → All (FormWithin (2 ^ 41)) updates → All (λ x. unsigned_abs x ≤ 2 ^ 41) (map (λ f. f.constant) updates)
constants-small updates h = All-map (λ x. unsigned_abs x ≤ 2 ^ 41) (λ f. f.constant) updates (λ i d l. (h i d l).1)

-- the same row, as far as columns and bound go
shows-same : (rows : List Row) (r s : Row) → ((k : ℕ) → coefficient k s ≡ coefficient k r) → s.bound ≡ r.bound → ShowsAtOnce rows r → ShowsAtOnce rows s
shows-same rows r s e b (by_none z l) = by_none (λ k. e k ∙ z k) (rw b l)
shows-same rows r s e b (by_one i l c m) = by_one i l (λ k. e k ∙ c k) (rw b m)
shows-same rows r s e b (by_two i j o l c m) = by_two i j o l (λ k. e k ∙ c k) (rw b m)

module _ (updates : List Form) (side : List ℤ) (limits : AreUpdates updates) (width : length side ≡ length updates)
    (small : All (λ c. unsigned_abs c ≤ 2 ^ 30) side) where
  columns : ℕ → List ℤ
  columns k = map (λ f. number k f.coefficients) updates

  few_sides : length side ≤ 128
  few_sides = let x = limits.few in omega arith

  pub can-substitute : CanSubstitute (bounded side (pos 0)) updates
  can-substitute = record {
    columns = width;
    widths = limits.widths;
    sides = λ k. sums-stay side (map (λ f. number k f.coefficients) updates) small (columns-small updates limits.within k) few_sides;
    constants = sums-stay side (map (λ f. f.constant) updates) small (constants-small updates limits.within) few_sides;
    bound = omega arith;
  }

  module _ (before : Row) (s : IsSubstituted (bounded side (pos 0)) updates before) where
    bound-is : pos 0 -ℤ before.bound ≡ dot side (map (λ f. f.constant) updates)
    bound-is = rw s.bound (twice (dot side (map (λ f. f.constant) updates)))
      where
        twice : (z : ℤ) → pos 0 -ℤ (pos 0 -ℤ z) ≡ z
        twice z = omega (arith, ints)

    pub before-small : unsigned_abs before.bound ≤ 2 ^ 78
    before-small =
        let x = sums-within side (map (λ f. f.constant) updates) small (constants-small updates limits.within) few_sides in
        rw s.bound (opposite (dot side (map (λ f. f.constant) updates)) x)
      where
        opposite : (z : ℤ) → unsigned_abs z ≤ 2 ^ 78 → unsigned_abs (pos 0 -ℤ z) ≤ 2 ^ 78
        opposite z h = omega (arith, ints)

    module _ (form : Form) (same : form.coefficients ≡ before.coefficients) (constant : form.constant ≡ pos 0 -ℤ before.bound) where
      constant-is : form.constant ≡ dot side (map (λ f. f.constant) updates)
      constant-is = constant ∙ bound-is

      number-is : (k : ℕ) → number k form.coefficients ≡ dot side (map (λ f. number k f.coefficients) updates)
      number-is k = ap (number k) same ∙ s.coefficients k

      pub form-within : FormWithin (2 ^ 78) form
      form-within = (
        (λ i d l. rw (get_or_default form.coefficients i d (pos 0) l, number-is i)
            (sums-within side (map (λ f. number i f.coefficients) updates) small (columns-small updates limits.within i) few_sides)),
        rw constant-is (sums-within side (map (λ f. f.constant) updates) small (constants-small updates limits.within) few_sides),
      )

      -- a bound of the form before the updates is one of the left side after them
      pub after-sound : (rows : List Row) (k : ℤ) → ((point : List ℤ) → HasPoint rows point → value form point ≤ℤ k)
          → (new : List ℤ) → IsImage rows updates new → Holds (bounded side k) new
      after-sound rows k below new i =
          let there : IsSubstituted (bounded side k) updates (bounded form.coefficients (k -ℤ form.constant)) = record {
            width = ap length same ∙ s.width;
            coefficients = number-is;
            bound = ap (λ z. k -ℤ z) constant-is;
          } in
          let P : List ℤ → Type 0 = Holds (bounded side k) in
          subst P (sym i.updated) ((substituted_same (bounded side k) (bounded form.coefficients (k -ℤ form.constant)) updates there i.point).0
          (moved (dot form.coefficients i.point) form.constant k (below i.point i.has)))
        where
          moved : (d c k : ℤ) → (d +ℤ c) ≤ℤ k → d ≤ℤ (k -ℤ c)
          moved d c k h = omega (arith, ints)

      pub after-sound-some : (rows : List Row) (o : Option ℤ) → IfSome o (λ k. (point : List ℤ) → HasPoint rows point → value form point ≤ℤ k)
          → IfSome o (λ k. (new : List ℤ) → IsImage rows updates new → Holds (bounded side k) new)
      after-sound-some rows None h = h
      after-sound-some rows (Some k) h = after-sound rows k h

      pub after-shown : (rows : List Row) (x : ℤ) → ShowsAfter rows updates (bounded side x) → ShowsAtOnce rows (bounded form.coefficients (x -ℤ form.constant))
      after-shown rows x a =
          shows-same rows a.before (bounded form.coefficients (x -ℤ form.constant)) (λ k. number-is k ∙ sym (a.coefficients k))
          (ap (λ z. x -ℤ z) constant-is ∙ sym a.bound) a.shown

-- sums over numbers that agree
pub dot-agree : (xs cs ds : List ℤ) → ((k : ℕ) → k < length xs → number k cs ≡ number k ds) → dot cs xs ≡ dot ds xs
dot-agree [] cs ds h = dot-none cs ∙ sym (dot-none ds)
dot-agree (x ∷ xs) cs ds h =
    dot-cons cs x xs ∙ ap (λ z. (z *ℤ x) +ℤ dot (tail_of cs) xs) (h 0 (omega arith))
    ∙ ap (λ z. (number 0 ds *ℤ x) +ℤ z) (dot-agree xs (tail_of cs) (tail_of ds) (λ k l. get_or-tail cs k ∙ h (k + 1) (omega arith) ∙ sym (get_or-tail ds k)))
    ∙ sym (dot-cons ds x xs)

pub dot-comm : (cs xs : List ℤ) → dot cs xs ≡ dot xs cs
dot-comm [] xs = sym (dot-none xs)
dot-comm (c ∷ cs) [] = refl
dot-comm (c ∷ cs) (x ∷ xs) = ap (λ z. z +ℤ dot cs xs) (mul_comm_int c x) ∙ ap (λ z. (x *ℤ c) +ℤ z) (dot-comm cs xs)

dot-zero : (us cs : List ℤ) → ((j : ℕ) → number j us ≡ pos 0) → dot cs us ≡ pos 0
dot-zero [] cs h = dot-none cs
dot-zero (u ∷ us) cs h =
    dot-cons cs u us ∙ ap (λ z. (number 0 cs *ℤ z) +ℤ dot (tail_of cs) us) (h 0) ∙ ap (λ z. z +ℤ dot (tail_of cs) us) (*ℤ-zero (number 0 cs))
    ∙ ap (λ z. pos 0 +ℤ z) (dot-zero us (tail_of cs) (λ j. h (suc j)))

-- a sum over numbers of which one is 1 and the others are 0
pub dot-unit : (us cs : List ℤ) (k : ℕ) → number k us ≡ pos 1 → ((j : ℕ) → (j ≡ k → ⊥) → number j us ≡ pos 0) → dot cs us ≡ number k cs
dot-unit [] cs k e h = absurd (differ e)
  where
    differ : pos 0 ≡ pos 1 → ⊥
    differ f = omega (arith, ints)
dot-unit (u ∷ us) cs zero e h =
    dot-cons cs u us ∙ ap (λ z. (number 0 cs *ℤ z) +ℤ dot (tail_of cs) us) e
    ∙ ap (λ z. (number 0 cs *ℤ pos 1) +ℤ z) (dot-zero us (tail_of cs) (λ j. h (suc j) (λ f. omega arith)))
    ∙ one (number 0 cs) (number 0 cs *ℤ pos 1) (mul_comm_int (number 0 cs) (pos 1))
  where
    one : (a b : ℤ) → b ≡ pos 1 *ℤ a → b +ℤ pos 0 ≡ a
    one a b f = omega (arith, ints)
dot-unit (u ∷ us) cs (suc k) e h =
    dot-cons cs u us ∙ ap (λ z. (number 0 cs *ℤ z) +ℤ dot (tail_of cs) us) (h 0 (λ f. omega arith))
    ∙ ap (λ z. z +ℤ dot (tail_of cs) us) (*ℤ-zero (number 0 cs))
    ∙ none (dot (tail_of cs) us) ∙ dot-unit us (tail_of cs) k e (λ j n. h (suc j) (λ f. n (omega arith))) ∙ get_or-tail cs k ∙ ap (λ i. number i cs) (next k)
  where
    none : (a : ℤ) → pos 0 +ℤ a ≡ a
    none a = omega (arith, ints)

    next : (k : ℕ) → k + 1 ≡ suc k
    next k = omega arith

-- the point before the constants were added
pub back : List ℤ → List Form → List ℤ
back [] fs = []
back (x ∷ xs) [] = []
back (x ∷ xs) (f ∷ fs) = (x -ℤ f.constant) ∷ back xs fs

pub length-back : (xs : List ℤ) (fs : List Form) → length xs ≡ length fs → length (back xs fs) ≡ length fs
unfolding back
length-back [] [] e = refl
length-back [] (f ∷ fs) e = absurd (omega arith)
length-back (x ∷ xs) [] e = absurd (omega arith)
length-back (x ∷ xs) (f ∷ fs) e = ap suc (length-back xs fs (omega arith))

pub back-at : (xs : List ℤ) (fs : List Form) (i : ℕ) (d : Form) → i < length xs → i < length fs
    → number i (back xs fs) ≡ number i xs -ℤ (get_or fs i d).constant
unfolding back
back-at [] fs i d l m = absurd (omega arith)
back-at (x ∷ xs) [] i d l m = absurd (omega arith)
back-at (x ∷ xs) (f ∷ fs) zero d l m = refl
back-at (x ∷ xs) (f ∷ fs) (suc i) d l m = back-at xs fs i d (omega arith) (omega arith)

pub dot-back : (cs xs : List ℤ) (fs : List Form) → length xs ≡ length fs → dot cs (back xs fs) ≡ dot cs xs -ℤ dot cs (map (λ f. f.constant) fs)
unfolding back
dot-back [] xs fs e = refl
dot-back (c ∷ cs) [] [] e = refl
dot-back (c ∷ cs) [] (f ∷ fs) e = absurd (omega arith)
dot-back (c ∷ cs) (x ∷ xs) [] e = absurd (omega arith)
dot-back (c ∷ cs) (x ∷ xs) (f ∷ fs) e =
    regroup (c *ℤ (x -ℤ f.constant)) (c *ℤ x) (c *ℤ f.constant) (dot cs (back xs fs)) (dot cs xs) (dot cs (map (λ g. g.constant) fs)) (product c x f.constant)
    (dot-back cs xs fs (omega arith))
  where
    product : (c x k : ℤ) → c *ℤ (x -ℤ k) ≡ (c *ℤ x) -ℤ (c *ℤ k)
    product c x k = move _ _ _ (sym (mul_add c (x -ℤ k) k) ∙ ap (λ z. c *ℤ z) (whole x k))
      where
        whole : (x k : ℤ) → (x -ℤ k) +ℤ k ≡ x
        whole x k = omega (arith, ints)

        move : (a b d : ℤ) → a +ℤ b ≡ d → a ≡ d -ℤ b
        move a b d h = omega (arith, ints)

    regroup : (p a b q s t : ℤ) → p ≡ a -ℤ b → q ≡ s -ℤ t → p +ℤ q ≡ (a +ℤ s) -ℤ (b +ℤ t)
    regroup p a b q s t h k = omega (arith, ints)

-- the point before the moves, where the rows have it, has the new one as its image
module _ (premises : List Row) (updates : List Form) (moves : AreMoves updates) (new : List ℤ) (size : length new ≡ length updates)
    (held : HasPoint premises (back new updates)) where
  form_none : Form
  form_none = record { coefficients = []; constant = pos 0 }

  pub image-of : IsImage premises updates new
  image-of = record { point = back new updates; has = held; updated = same_lists new (values updates (back new updates)) sizes numbers }
    where
      sizes : length new ≡ length (values updates (back new updates))
      sizes = size ∙ sym (length-map updates (λ f. value f (back new updates)))

      numbers : (i : ℕ) (d : ℤ) → i < length new → get_or new i d ≡ get_or (values updates (back new updates)) i d
      numbers i d l =
          let m : i < length updates = omega arith in
          let move = moves i form_none m in
          let there : get_or (values updates (back new updates)) i d ≡ value (get_or updates i form_none) (back new updates) = get_or-map
          (λ f. value f (back new updates)) updates i form_none d m in
          let picked : dot (get_or updates i form_none).coefficients (back new updates) ≡ number i (back new updates) =
          dot-comm (get_or updates i form_none).coefficients (back new updates)
          ∙ dot-unit (get_or updates i form_none).coefficients (back new updates) i (move.0) (move.1) in
          get_or_default new i d (pos 0) l ∙ joined _ _ _ _ picked (back-at new updates i form_none l m) ∙ sym there
        where
          joined : (n c v w : ℤ) → v ≡ w → w ≡ n -ℤ c → n ≡ v +ℤ c
          joined n c v w e f = omega (arith, ints)

-- Where all updates are moves, the rows have no other points than the images.
module _ (premises : List Row) (updates : List Form) (sides two : List Row) (cut : AreCut (length updates) premises (length premises) sides)
    (made : AreClosing (IsImage premises updates) (ShowsAfter premises updates) (length updates) sides two)
    (few : length premises ≤ 1024) (moves : AreMoves updates) (narrow : All (IsNarrow (length updates)) premises) (stay : All (StaysWithin updates) premises)
    (new : List ℤ) (size : length new ≡ length updates) (h : HasPoint two new) where
  none_row : Row
  none_row = record { coefficients = []; bound = pos 0 }

  none_form : Form
  none_form = record { coefficients = []; constant = pos 0 }

  column-at : (k j : ℕ) → j < length updates → number j (map (λ f. number k f.coefficients) updates) ≡ number k (get_or updates j none_form).coefficients
  column-at k j l = get_or-map (λ f. number k f.coefficients) updates j none_form (pos 0) l

  column-past : (k j : ℕ) → length updates ≤ j → number j (map (λ f. number k f.coefficients) updates) ≡ pos 0
  column-past k j l = let e = length-map updates (λ f. number k f.coefficients) in get_or_past (map (λ f. number k f.coefficients) updates) j (pos 0)
      (omega arith)

  -- the column of a move
  column-other : (k j : ℕ) → (j ≡ k → ⊥) → number j (map (λ f. number k f.coefficients) updates) ≡ pos 0
  column-other k j n = go (cases_lt j (length updates))
    where
      go : (j < length updates) ⊎ (length updates ≤ j) → number j (map (λ f. number k f.coefficients) updates) ≡ pos 0
      go (inl l) = column-at k j l ∙ (moves j none_form l).1 k (λ e. n (sym e))
      go (inr l) = column-past k j l

  side-column : (cs : List ℤ) (k : ℕ) → k < length updates → dot cs (map (λ f. number k f.coefficients) updates) ≡ number k cs
  side-column cs k l = dot-unit (map (λ f. number k f.coefficients) updates) cs k (column-at k k l ∙ (moves k none_form l).0) (column-other k)

  further-column : (cs : List ℤ) (k : ℕ) → length updates ≤ k → dot cs (map (λ f. number k f.coefficients) updates) ≡ pos 0
  further-column cs k l = dot-zero (map (λ f. number k f.coefficients) updates) cs (λ j. go j (cases_lt j (length updates)))
    where
      go : (j : ℕ) → (j < length updates) ⊎ (length updates ≤ j) → number j (map (λ f. number k f.coefficients) updates) ≡ pos 0
      go j (inl m) = column-other k j (λ e. omega arith)
      go j (inr m) = column-past k j m

  constants : List ℤ
  constants = map (λ f. f.constant) updates

  held : (i : ℕ) (d : Row) → i < length premises → Holds (get_or premises i d) (back new updates)
  held i d l =
      let r = get_or premises i d in
      let n = cut.size in
      let inside : i < length sides = omega arith in
      let c = get_or sides i none_row in
      let k = cut.cut i d none_row l in
      let same_constants : dot c.coefficients (map (λ f. f.constant) updates) ≡ dot r.coefficients (map (λ f. f.constant) updates) =
      dot-agree (map (λ f. f.constant) updates) c.coefficients r.coefficients (λ j m. k.same j (let e = length-map updates (λ f. f.constant) in omega arith)) in
      let x = r.bound +ℤ dot r.coefficients (map (λ f. f.constant) updates) in
      let shown : ShowsAfter premises updates (bounded c.coefficients x) = record {
        before = r;
        coefficients = λ j. at_column r c k j (narrow i d l) (cases_lt j (length updates));
        bound = taken r.bound (dot r.coefficients (map (λ f. f.constant) updates)) (dot c.coefficients (map (λ f. f.constant) updates)) same_constants;
        shown = own_shown premises i d l;
      } in
      let there = made.sides (omega arith) i none_row inside x (stay i d l) shown in
      let met : dot c.coefficients new ≤ℤ x = covers-side two c.coefficients x there new h in
      let whole = length-back new updates size in
      let agree : dot c.coefficients (back new updates) ≡ dot r.coefficients (back new updates) = dot-agree (back new updates) c.coefficients r.coefficients
      (λ j m. k.same j (omega arith)) in
      finish _ _ _ _ _ _ agree (dot-back c.coefficients new updates size) same_constants met
    where
      at_column : (r c : Row) → IsCut (length updates) r c → (j : ℕ) → IsNarrow (length updates) r → (j < length updates) ⊎ (length updates ≤ j)
          → coefficient j r ≡ dot c.coefficients (map (λ f. number j f.coefficients) updates)
      at_column r c k j n (inl m) = sym (k.same j m) ∙ sym (side-column c.coefficients j m)
      at_column r c k j n (inr m) = n j m ∙ sym (further-column c.coefficients j m)

      taken : (b s t : ℤ) → t ≡ s → b ≡ (b +ℤ s) -ℤ t
      taken b s t e = omega (arith, ints)

      finish : (w v n t s b : ℤ) → v ≡ w → v ≡ n -ℤ t → t ≡ s → n ≤ℤ (b +ℤ s) → w ≤ℤ b
      finish w v n t s b e f g m = omega (arith, ints)

  pub moved-image : IsImage premises updates new
  moved-image = image-of premises updates moves new size held

-- rows of the width itself have no further coefficient
pub both-narrow : (a b : List Row) (width : ℕ) → All (λ r. length r.coefficients ≡ width) a → All (IsNarrow width) b → All (IsNarrow width) (a ++ b)
both-narrow a b width h k = All-append (IsNarrow width) a b (λ i d l j m. let e = h i d l in get_or_past (get_or a i d).coefficients j (pos 0) (omega arith)) k

pub cut-fits : (width : ℕ) (r : Row) (cs : List ℤ) → Fits r → length cs ≡ width → ((k : ℕ) → k < width → number k cs ≡ number k r.coefficients)
    → Fits (record { coefficients = cs; bound = r.bound })
cut-fits width r cs f w h = record {
  coefficients = λ i d l. let m : i < width = omega arith in rw (get_or_default cs i d (pos 0) l, h i m)
      (number_within (2 ^ 30) r.coefficients f.coefficients i);
  bound = f.bound;
}

pub opposite-fits : (z : ℤ) → unsigned_abs z ≤ 2 ^ 78 → FitsSigned w128 (pos 0 -ℤ z)
opposite-fits z h = let e : unsigned_abs (pos 0 -ℤ z) ≡ unsigned_abs z = omega (arith, ints) in fits_signed_from_abs w128 (pos 0 -ℤ z) (omega arith)
