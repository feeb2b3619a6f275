-- Rows moved by the constants of updates.
use Rattle.std.proofs.Common.{◌≡◌, ◌⊎◌, ℕ, zero, suc, ◌+◌, ◌*◌, ◌≤◌, ◌<◌, ◌^◌, ℤ, pos, ◌+ℤ◌, ◌-ℤ◌, ◌*ℤ◌, ◌≤ℤ◌, List, [], ◌∷◌, length, map}
use Rattle.std.proofs.Common.{take, get_or, slice_get, add-one}
use Rattle.std.proofs.Common.{All, Option, Some, None, MatchOption, arith, refl, ap, sym, ◌∙◌, subst, inl, inr}
use Rattle.std.proofs.{Math.Seq.take-length, lemmas.Int.ints, lemmas.Bool.cases_lt, lemmas.Option.get_or_from_slice_get}
use Rattle.std.proofs.lemmas.List.{length-map, get_or-map, get_or_past}
use Rattle.std.specs.{Int.RustNames.unsigned_abs}
use Rattle.rv_rows.specs.{declared.linear.Row.Row, declared.linear.Form.Form, Rows.dot, Rows.Holds, Rows.coefficient, Tight.Fits}
use Rattle.rv_rows.specs.Forms.{number, value, values}
use Rattle.rv_rows.proofs.RowLemmas.{dot-cons, dot-none, get_or-tail, tail_of}
use Rattle.rv_poly.specs.{Points.HasPoint, Images.IsImage, Images.AreMoves, Images.IsNarrow, Images.StaysWithin, Images.IsCut, Polys.IsPoly}
use Rattle.rv_poly.specs.Moves.{IsOwnPlus, IsMoved, CanMove, AreMoved}
use Rattle.rv_poly.proofs.ImageLemmas.{back, back-at, dot-back, dot-agree, dot-comm, dot-unit, image-of}
use Rattle.rv_poly.proofs.{ListLemmas.one_width, CarriedLemmas.carried-all, CarriedLemmas.carried-back}

none_form : Form
none_form = record { coefficients = []; constant = pos 0 }

-- the first n updates are moves
abbrev pub AreMovesUpto : List Form → ℕ → Type 0
AreMovesUpto updates n = (k : ℕ) (f : Form) → k < n → IsOwnPlus k (get_or updates k f)

pub moves-more : (updates : List Form) (n : ℕ) (form : Form) → AreMovesUpto updates n → slice_get updates n ≡ Some form → IsOwnPlus n form
    → AreMovesUpto updates (n + 1)
moves-more updates n form before there own k f l = go (cases_lt k n)
  where
    go : (k < n) ⊎ (n ≤ k) → IsOwnPlus k (get_or updates k f)
    go (inl m) = before k f m
    go (inr m) =
        let e : k ≡ n = omega arith in
        subst (λ (i : ℕ). IsOwnPlus i (get_or updates i f)) (sym e)
        (subst (λ (g : Form). IsOwnPlus n g) (sym (get_or_from_slice_get updates n form f there)) own)

pub moves-not : (updates : List Form) (n : ℕ) (form : Form) → n < length updates → slice_get updates n ≡ Some form → ¬ IsOwnPlus n form → ¬ AreMoves updates
moves-not updates n form l there other moves =
    other (subst (λ (g : Form). IsOwnPlus n g) (get_or_from_slice_get updates n form form there) (moves n form l))

pub moves-all : (updates : List Form) (n : ℕ) → length updates ≤ n → AreMovesUpto updates n → AreMoves updates
moves-all updates n l moves k f m = moves k f (omega arith)

-- one more product
dot-next : (xs cs : List ℤ) (i : ℕ) → i < length xs → dot cs (take (suc i) xs) ≡ dot cs (take i xs) +ℤ (number i cs *ℤ number i xs)
dot-next [] cs i h = absurd (omega arith)
dot-next (x ∷ xs) cs zero h = go _ _ _ _ (dot-cons cs x []) (dot-none (tail_of cs)) (dot-none cs)
  where
    go : (l a n e : ℤ) → l ≡ a +ℤ n → n ≡ pos 0 → e ≡ pos 0 → l ≡ e +ℤ a
    go l a n e p q r = omega (arith, ints)
dot-next (x ∷ xs) cs (suc i) h =
    let same : number i (tail_of cs) ≡ number (suc i) cs = get_or-tail cs i ∙ rw add-one refl in
    go _ _ _ _ _ _ _ (dot-cons cs x (take (suc i) xs)) (dot-next xs (tail_of cs) i (omega arith)) (dot-cons cs x (take i xs)) (ap (λ z. z *ℤ number i xs) same)
  where
    go : (l a b d e m n : ℤ) → l ≡ a +ℤ b → b ≡ d +ℤ m → e ≡ a +ℤ d → m ≡ n → l ≡ e +ℤ n
    go l a b d e m n p q r s = omega (arith, ints)

-- the sum that makes a moved bound
pub bound-start : (cs xs : List ℤ) (b w : ℤ) → w ≡ b → w ≡ b +ℤ dot cs (take 0 xs)
bound-start cs xs b w e = go w b (dot cs (take 0 xs)) e (none xs)
  where
    none : (ys : List ℤ) → dot cs (take 0 ys) ≡ pos 0
    none [] = dot-none cs
    none (y ∷ ys) = dot-none cs

    go : (w b d : ℤ) → w ≡ b → d ≡ pos 0 → w ≡ b +ℤ d
    go w b d e f = omega (arith, ints)

pub bound-more : (cs : List ℤ) (updates : List Form) (n : ℕ) (b s by new : ℤ) (form : Form) → n < length updates → by ≡ number n cs
    → slice_get updates n ≡ Some form → s ≡ b +ℤ dot cs (take n (map (λ f. f.constant) updates)) → new ≡ s +ℤ (by *ℤ form.constant)
    → new ≡ b +ℤ dot cs (take (n + 1) (map (λ f. f.constant) updates))
bound-more cs updates n b s by new form l by_is there so_far is =
    let size = length-map updates (λ f. f.constant) in
    let here : number n (map (λ f. f.constant) updates) ≡ form.constant = get_or-map (λ f. f.constant) updates n form (pos 0) l
    ∙ ap (λ (f : Form). f.constant) (get_or_from_slice_get updates n form form there) in
    rw add-one (go (dot cs (take (suc n) (map (λ f. f.constant) updates))) (dot cs (take n (map (λ f. f.constant) updates))) b s new
    (by *ℤ form.constant) (number n cs *ℤ number n (map (λ f. f.constant) updates))
    (dot-next (map (λ f. f.constant) updates) cs n (omega arith)) so_far is
    (ap (λ z. z *ℤ form.constant) by_is ∙ ap (λ z. number n cs *ℤ z) (sym here)))
  where
    go : (l a b s n p m : ℤ) → l ≡ a +ℤ m → s ≡ b +ℤ a → n ≡ s +ℤ p → p ≡ m → n ≡ b +ℤ l
    go l a b s n p m e f g h = omega (arith, ints)

pub bound-all : (cs : List ℤ) (updates : List Form) (n : ℕ) (b w : ℤ) → n ≡ length updates
    → w ≡ b +ℤ dot cs (take n (map (λ f. f.constant) updates)) → w ≡ b +ℤ dot cs (map (λ f. f.constant) updates)
bound-all cs updates n b w e h =
    let size : n ≡ length (map (λ f. f.constant) updates) = e ∙ sym (length-map updates (λ f. f.constant)) in
    h ∙ ap (λ k. b +ℤ dot cs (take k (map (λ f. f.constant) updates))) size ∙ ap (λ xs. b +ℤ dot cs xs) (take-length (map (λ f. f.constant) updates))

pub moved-room : (n : ℕ) (h : ℤ) → n < 2 ^ 64 → unsigned_abs h ≤ 2 ^ 31 + n * 2 ^ 62 → unsigned_abs h < 2 ^ 126
moved-room n h l k = omega arith

pub high-more : (n : ℕ) (h k : ℤ) → unsigned_abs h ≤ 2 ^ 31 + n * 2 ^ 62 → unsigned_abs k ≤ unsigned_abs h + 2 ^ 62 → unsigned_abs k ≤ 2 ^ 31 + (n + 1) * 2 ^ 62
high-more n h k l m = omega arith

pub stays-from : (o : Option ℤ) (w x : ℤ) → w ≡ x → MatchOption o (¬ (unsigned_abs w ≤ 2 ^ 60)) (λ z. (z ≡ w) × (unsigned_abs z ≤ 2 ^ 60))
    → MatchOption o (¬ (unsigned_abs x ≤ 2 ^ 60)) (λ z. (z ≡ x) × (unsigned_abs x ≤ 2 ^ 60))
stays-from None w x e h = λ s. h (rw e s)
stays-from (Some z) w x e h = (h.0 ∙ e, rw (h.0 ∙ e) at h.1)

pub can-from : (updates : List Form) (r : Row) (o : Option ℤ) → IsNarrow (length updates) r
    → MatchOption o (¬ StaysWithin updates r) (λ z. (z ≡ r.bound +ℤ dot r.coefficients (map (λ f. f.constant) updates)) × StaysWithin updates r)
    → MatchOption o (¬ CanMove updates r) (λ z. (z ≡ r.bound +ℤ dot r.coefficients (map (λ f. f.constant) updates)) × CanMove updates r)
can-from updates r None narrow h = λ can. h can.stays
can-from updates r (Some z) narrow h = (h.0, record { narrow = narrow; stays = h.1 })

pub cannot : (updates : List Form) (r : Row) → ¬ IsNarrow (length updates) r → ¬ CanMove updates r
cannot updates r h can = h can.narrow

-- the row that is cut to the updates, with the moved bound
pub cut-moved : (updates : List Form) (old cut : Row) (bound : ℤ) → IsCut (length updates) old cut
    → (bound ≡ old.bound +ℤ dot old.coefficients (map (λ f. f.constant) updates)) × CanMove updates old
    → IsMoved updates old (record { coefficients = cut.coefficients; bound = bound })
cut-moved updates old cut bound c h = record { size = c.size; same = λ k. go k (cases_lt k (length updates)); bound = h.0 }
  where
    go : (k : ℕ) → (k < length updates) ⊎ (length updates ≤ k) → number k cut.coefficients ≡ coefficient k old
    go k (inl l) = c.same k l
    go k (inr l) = get_or_past cut.coefficients k (pos 0) (let e = c.size in omega arith) ∙ sym (h.1.narrow k l)

pub cut-fits-moved : (updates : List Form) (old cut : Row) (bound : ℤ) → Fits cut
    → (bound ≡ old.bound +ℤ dot old.coefficients (map (λ f. f.constant) updates)) × CanMove updates old
    → Fits (record { coefficients = cut.coefficients; bound = bound })
cut-fits-moved updates old cut bound f h = record { coefficients = f.coefficients; bound = rw h.0 h.1.stays }

-- the updated point of moves, with the constants taken off again, has the numbers of the point
module _ (updates : List Form) (moves : AreMoves updates) (point : List ℤ) where
  new_size : length (values updates point) ≡ length updates
  new_size = length-map updates (λ f. value f point)

  pub back-values : (k : ℕ) → k < length updates → number k (back (values updates point) updates) ≡ number k point
  back-values k l =
      let move = moves k none_form l in
      let there : number k (values updates point) ≡ value (get_or updates k none_form) point =
      get_or-map (λ f. value f point) updates k none_form (pos 0) l in
      let picked : dot (get_or updates k none_form).coefficients point ≡ number k point = dot-comm (get_or updates k none_form).coefficients point
      ∙ dot-unit (get_or updates k none_form).coefficients point k (move.0) (move.1) in
      apart (number k (back (values updates point) updates)) (number k (values updates point)) (get_or updates k none_form).constant
      (dot (get_or updates k none_form).coefficients point) (number k point)
      (back-at (values updates point) updates k none_form (let e = new_size in omega arith) l) there picked
    where
      apart : (v n c w x : ℤ) → v ≡ n -ℤ c → n ≡ w +ℤ c → w ≡ x → v ≡ x
      apart v n c w x e f g = omega (arith, ints)

  -- moves add to a sum that of their constants
  pub dot-values : (cs : List ℤ) → length cs ≤ length updates → dot cs (values updates point) ≡ dot cs point +ℤ dot cs (map (λ f. f.constant) updates)
  dot-values cs l =
      let before : dot cs (back (values updates point) updates) ≡ dot cs point = dot-comm cs (back (values updates point) updates)
      ∙ dot-agree cs (back (values updates point) updates) point (λ k m. back-values k (omega arith)) ∙ dot-comm point cs in
      apart (dot cs (back (values updates point) updates)) (dot cs (values updates point)) (dot cs (map (λ f. f.constant) updates)) (dot cs point)
      (dot-back cs (values updates point) updates new_size) before
    where
      apart : (v n t w : ℤ) → v ≡ n -ℤ t → v ≡ w → n ≡ w +ℤ t
      apart v n t w e f = omega (arith, ints)

-- a moved row at the updated points of moves
module _ (updates : List Form) (r s : Row) (m : IsMoved updates r s) where
  same-dot : (xs : List ℤ) → dot s.coefficients xs ≡ dot r.coefficients xs
  same-dot xs = dot-agree xs s.coefficients r.coefficients (λ k l. m.same k)

  pub moved-back : (new : List ℤ) → length new ≡ length updates → Holds s new → Holds r (back new updates)
  moved-back new size h =
      finish (dot r.coefficients (back new updates)) (dot r.coefficients new) (dot r.coefficients (map (λ f. f.constant) updates)) r.bound s.bound
      (dot s.coefficients new) (dot-back r.coefficients new updates size) (same-dot new) m.bound h
    where
      finish : (v n t b q u : ℤ) → v ≡ n -ℤ t → u ≡ n → q ≡ b +ℤ t → u ≤ℤ q → v ≤ℤ b
      finish v n t b q u e f g h = omega (arith, ints)

  module _ (moves : AreMoves updates) (point : List ℤ) where
    pub moved-forth : Holds r point → Holds s (values updates point)
    moved-forth h =
        let sum = dot-values updates moves point s.coefficients (let e = m.size in omega arith) in
        finish (dot s.coefficients (values updates point)) (dot s.coefficients point) (dot s.coefficients (map (λ f. f.constant) updates))
        (dot r.coefficients point) (dot r.coefficients (map (λ f. f.constant) updates)) r.bound s.bound sum (same-dot point)
        (same-dot (map (λ f. f.constant) updates)) m.bound h
      where
        finish : (n w t x u b q : ℤ) → n ≡ w +ℤ t → w ≡ x → t ≡ u → q ≡ b +ℤ u → x ≤ℤ b → n ≤ℤ q
        finish n w t x u b q e f g i h = omega (arith, ints)

module _ (updates : List Form) (rows new : List Row) (m : AreMoved updates rows (length rows) new) (moves : AreMoves updates) where
  pub moved-contains : (point : List ℤ) → IsImage rows updates point → HasPoint new point
  moved-contains point i = subst (HasPoint new) (sym i.updated) (carried-all (CanMove updates) (IsMoved updates) (λ r. Holds r i.point)
      (λ s. Holds s (values updates i.point)) rows new m (λ r s k h. moved-forth updates r s k moves i.point h) i.has)

  pub moved-exact : All (IsNarrow (length updates)) rows → All (StaysWithin updates) rows → (point : List ℤ) → length point ≡ length updates
      → HasPoint new point → IsImage rows updates point
  moved-exact narrow stays point size h =
      image-of rows updates moves point size (carried-back (CanMove updates) (IsMoved updates) (λ r. Holds r (back point updates)) (λ s. Holds s point)
      rows new m (λ i d l. record { narrow = narrow i d l; stays = stays i d l }) (λ r s k g. moved-back updates r s k point size g) h)

-- moved rows are those of a polyhedron
pub moved-width : (updates : List Form) (rows new : List Row) (n : ℕ) → AreMoved updates rows n new → All (λ r. length r.coefficients ≡ length updates) new
moved-width updates rows new n m i d l = (m.from i d l).2.size

pub moved-poly : (updates : List Form) (rows new : List Row) (n : ℕ) → n ≤ 1024 → AreMoved updates rows n new → IsPoly new
moved-poly updates rows new n few m = record {
  widths = one_width (length updates) new (moved-width updates rows new n m);
  fits = m.fits;
  few = let a = m.few in omega arith;
}
