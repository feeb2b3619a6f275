-- The least bound that a pair of places shows.
use Rattle.std.proofs.Common.{◌≡◌, ◌≢◌, ℕ, ◌+◌, ◌≤◌, ◌<◌, ℤ, pos, ◌+ℤ◌, ◌-ℤ◌, ◌≤ℤ◌, List, [], ◌∷◌, ◌++◌, length, Option, None, Some, IfSome, IsSome, IsSomeAnd}
use Rattle.std.proofs.Common.{◌*ℤ◌, All, FitsSigned, ◌^◌, true≢false, ◌<ℤ◌, arith, refl, ap, sym, ◌∙◌, ◌⊎◌, inl, inr, append_assoc, append-nil}
use Rattle.std.proofs.lemmas.List.Elements.{All-push, All-weaker}
use Rattle.std.proofs.{lemmas.Int.ints, lemmas.Bool.cases_eq, lemmas.List.get_or_past, lemmas.Map.Views.IfSome-lookup_from_All}
use Rattle.std.specs.{BTreeMap.BTreeMap, BTreeMap.values, Cmp.Lexicographic.slice_cmp, Ordering.int_cmp, Ordering.is_eq, Global.Vec, Int.RustNames.unsigned_abs}
use Rattle.std.specs.{Int.w128}
use Rattle.rv_rows.specs.{declared.linear.Form.Form, declared.farkas.Multipliers.Multipliers, Multipliers.weighted}
use Rattle.rv_rows.specs.{declared.linear.Row.Row, Rows.coefficient, Rows.row_at, Rows.RowWithin, Forms.number, Multipliers.ShowsAtOnce}
use Rattle.rv_rows.proofs.{IntLemmas.abs-add, RowLemmas.bound_within}
use Rattle.rv_seek.proofs.PairLemmas.{pair_from, pair_weighs, row_width}
use Rattle.rv_seek.specs.Least.{HasPlace, IsLeast, IsLeastAt, PairSums, bounded, IsAside, IsPassed, IsAlone, IsLeastAmong, IsNoLooser}
use Rattle.rv_seek.specs.Sides.{closest_at, IsSide, IsOther, IsClosest, IsTable}
use Rattle.rv_seek.specs.{declared.least.Best.Best, declared.sides.Closest.Closest, Pairs.PairShows, Pairs.unit_at}

-- what the place lacks is the left side of the other
rest_side : (rows : List Row) (cs rest : List ℤ) (place i : ℕ) (bound : ℤ) → ((k : ℕ) → number k rest ≡ number k cs -ℤ coefficient k (row_at rows place))
    → PairShows rows (bounded cs bound) place i → IsSide (row_at rows i) rest
rest_side rows cs rest place i bound h p k = h k ∙ ap (λ z. z -ℤ coefficient k (row_at rows place)) (p.sides k) ∙ omega (arith, ints)

module _ (rows : List Row) (cs rest : List ℤ) (n place : ℕ) (best : Option Best)
    (rest_is : (k : ℕ) → number k rest ≡ number k cs -ℤ coefficient k (row_at rows place)) where
  -- no other place has what this one lacks
  pub least_at-none : IsOther rows n rest place None → IsLeastAt rows cs n best place
  least_at-none o i l ne bound p = absurd (o.least i l ne (rest_side rows cs rest place i bound rest_is p))

  module _ (other : ℕ) (o : IsOther rows n rest place (Some other)) where
    pub least_at-some : (new : Best) → new.bound ≤ℤ ((row_at rows place).bound +ℤ (row_at rows other).bound) → IsLeastAt rows cs n (Some new) place
    least_at-some new h i l ne bound p =
        let f : (row_at rows other).bound ≤ℤ (row_at rows i).bound = o.least i l ne (rest_side rows cs rest place i bound rest_is p) in
        let b = p.bounds in
        omega (arith, ints)

    pub pair_sides : (k : ℕ) → number k cs ≡ coefficient k (row_at rows place) +ℤ coefficient k (row_at rows other)
    pair_sides k =
        let e : number k rest ≡ coefficient k (row_at rows other) = o.found.2 k in
        let f = rest_is k in
        back_sum (number k cs) (coefficient k (row_at rows place)) (coefficient k (row_at rows other)) (sym e ∙ f)
      where
        back_sum : (a b c : ℤ) → c ≡ a -ℤ b → a ≡ b +ℤ c
        back_sum a b c e = omega (arith, ints)

-- one of two pairs that are shown
pub shown_of : (rows : List Row) (cs : List ℤ) (best : Option Best) (new other : Best) → IfSome best (PairSums rows cs) → PairSums rows cs other
    → (IsSomeAnd best (λ b. new ≡ b)) ⊎ (new ≡ other) → PairSums rows cs new
shown_of rows cs (Some b) new other s o (inl e) = rw e s
shown_of rows cs None new other s o (inl e) = absurd e
shown_of rows cs best new other s o (inr e) = rw e o

-- the lesser of a pair that was found before and another with the place
pub part_of : (place : ℕ) (best : Option Best) (new other : Best) → HasPlace place other → (IsSomeAnd best (λ b. new ≡ b)) ⊎ (new ≡ other)
    → (IsSomeAnd best (λ b. new ≡ b)) ⊎ HasPlace place new
part_of place best new other has (inl e) = inl e
part_of place best new other has (inr e) = inr (rw e has)

-- what was found before
pub part_old : (place : ℕ) (best : Option Best) → IfSome best (λ b. (IsSomeAnd best (λ a. b ≡ a)) ⊎ HasPlace place b)
part_old place None = tt
part_old place (Some b) = inl refl

-- a lesser pair is still the least at the places before
least_at-kept : (rows : List Row) (cs : List ℤ) (n : ℕ) (old new : Option Best) → IfSome old (λ b. IsSomeAnd new (λ c. c.bound ≤ℤ b.bound))
    → (place : ℕ) → IsLeastAt rows cs n old place → IsLeastAt rows cs n new place
least_at-kept rows cs n old new h place l i m ne bound p = go old new h (l i m ne bound p)
  where
    go : (o r : Option Best) → IfSome o (λ b. IsSomeAnd r (λ c. c.bound ≤ℤ b.bound)) → IsSomeAnd o (λ b. b.bound ≤ℤ bound) → IsSomeAnd r (λ c. c.bound ≤ℤ bound)
    go None r h k = absurd k
    go (Some b) None h k = absurd h
    go (Some b) (Some c) h k = omega (arith, ints)

-- and passed
pub passed-kept : (rows : List Row) (cs : List ℤ) (n : ℕ) (pivot : Option ℕ) (old new : Option Best) → IfSome old (λ b. IsSomeAnd new (λ c. c.bound ≤ℤ b.bound))
    → (place : ℕ) → IsPassed rows cs n pivot old place → IsPassed rows cs n pivot new place
passed-kept rows cs n pivot old new h place (inl aside) = inl aside
passed-kept rows cs n pivot old new h place (inr least) = inr (least_at-kept rows cs n old new h place least)

-- the walk over the left sides: those that are done, and those that are left
pub record IsWalked (rows : List Row) (cs : List ℤ) (n : ℕ) (pivot : Option ℕ) (best : Option Best) (all left : List Closest) : Type 0 where
  pub done : List Closest
  pub parts : all ≡ done ++ left
  pub least : All (λ c. IsPassed rows cs n pivot best c.first) done

pub walked-more : (rows : List Row) (cs : List ℤ) (n : ℕ) (pivot : Option ℕ) (old new : Option Best) (all left next : List Closest) (c : Closest)
    → IsWalked rows cs n pivot old all left
    → left ≡ c ∷ next → IfSome old (λ b. IsSomeAnd new (λ c. c.bound ≤ℤ b.bound)) → IsPassed rows cs n pivot new c.first → IsWalked rows cs n pivot new all next
walked-more rows cs n pivot old new all left next c w e h here = record {
  done = w.done ++ c ∷ [];
  parts = w.parts ∙ ap (λ x. w.done ++ x) e ∙ sym (append_assoc w.done (c ∷ []) next);
  least = All-push (λ x. IsPassed rows cs n pivot new x.first) w.done c
      (All-weaker (λ x. IsPassed rows cs n pivot old x.first) (λ x. IsPassed rows cs n pivot new x.first) (λ x. passed-kept rows cs n pivot old new h x.first)
      w.done w.least) here;
}

pub walked-all : (rows : List Row) (cs : List ℤ) (n : ℕ) (pivot : Option ℕ) (best : Option Best) (all left : List Closest)
    → IsWalked rows cs n pivot best all left
    → left ≡ [] → All (λ c. IsPassed rows cs n pivot best c.first) all
walked-all rows cs n pivot best all left w e = rw (w.parts ∙ ap (λ x. w.done ++ x) e ∙ append-nil w.done) w.least

-- what holds of a value that is there
pick : {A : Type 0} (o : Option A) (P Q : A → Type 0) (R : Type 0) → IsSome o → IfSome o P → IfSome o Q → ((x : A) → P x → Q x → R) → R
pick None P Q R s p q f = absurd (true≢false (sym s))
pick (Some x) P Q R s p q f = f x p q

-- the two places of a pair, in the other order
swapped : (rows : List Row) (wanted : Row) (i j : ℕ) → PairShows rows wanted i j → PairShows rows wanted j i
swapped rows wanted i j p = record {
  sides = λ k. turned (coefficient k wanted) (coefficient k (row_at rows i)) (coefficient k (row_at rows j)) (p.sides k);
  bounds = let b = p.bounds in omega (arith, ints);
}
  where
    turned : (a b c : ℤ) → a ≡ b +ℤ c → a ≡ c +ℤ b
    turned a b c e = omega (arith, ints)

-- a row with the same left side is aside too
aside_same : (rows : List Row) (key : List ℤ) (i first : ℕ) (pivot : Option ℕ) → IsSide (row_at rows i) key → IsSide (row_at rows first) key
    → IsAside rows pivot first → IsAside rows pivot i
aside_same rows key i first None side same h = absurd h
aside_same rows key i first (Some k) side same h = sym (side k) ∙ same k ∙ h

-- of two places with the wanted sum one is not aside
not_both : (rows : List Row) (cs : List ℤ) (i j : ℕ) (pivot : Option ℕ) → IfSome pivot (λ k. number k cs ≢ pos 0)
    → ((k : ℕ) → number k cs ≡ coefficient k (row_at rows i) +ℤ coefficient k (row_at rows j)) → IsAside rows pivot i → IsAside rows pivot j → ⊥
not_both rows cs i j None ne sides a b = absurd a
not_both rows cs i j (Some k) ne sides a b = ne (sides k ∙ none (coefficient k (row_at rows i)) (coefficient k (row_at rows j)) a b)
  where
    none : (x y : ℤ) → x ≡ pos 0 → y ≡ pos 0 → x +ℤ y ≡ pos 0
    none x y a b = omega (arith, ints)

-- the least at the closest place of each left side is the least of all
module _ (rows : List Row) (cs : List ℤ) (width n : ℕ) (map : BTreeMap (Vec ℤ) Closest) (pivot : Option ℕ) (best : Option Best)
    (table : IsTable rows width n map) (pivot_is : IfSome pivot (λ k. number k cs ≢ pos 0))
    (walked : All (λ c. IsPassed rows cs n pivot best c.first) (values map)) where
  -- no pair with the place has a lesser sum
  abbrev IsBest : ℕ → Type 0
  IsBest i = (j : ℕ) → j < n → i ≢ j → (bound : ℤ) → PairShows rows (bounded cs bound) i j → IsSomeAnd best (λ b. b.bound ≤ℤ bound)

  at : (i j : ℕ) → i ≢ j → i < n → j < n → (bound : ℤ) → PairShows rows (bounded cs bound) i j → (key : List ℤ) → IsSide (row_at rows i) key
      → (c : Closest) → IsClosest rows n key c → IsLeastAt rows cs n best c.first → (j ≡ c.first) ⊎ (j ≡ c.first → ⊥) → IsSomeAnd best (λ b. b.bound ≤ℤ bound)
  at i j apart l m bound p key side c h least (inl e) =
      least i l (λ f. apart (f ∙ sym e)) bound (rw (sym e) (swapped rows (bounded cs bound) i j p))
  at i j apart l m bound p key side c h least (inr ne) =
      least j m ne bound (record {
        sides = λ k. p.sides k ∙ ap (λ z. z +ℤ coefficient k (row_at rows j)) (sym (side k) ∙ h.side k);
        bounds = let b = p.bounds in let f = h.least i l side in omega (arith, ints);
      })

  passed : (i : ℕ) → i < n → (key : List ℤ) → IsSide (row_at rows i) key → (c : Closest) → IsClosest rows n key c → IsPassed rows cs n pivot best c.first
      → IsAside rows pivot i ⊎ IsBest i
  passed i l key side c h (inl aside) = inl (aside_same rows key i c.first pivot side h.side aside)
  passed i l key side c h (inr least) = inr (λ j m apart bound p. at i j apart l m bound p key side c h least (cases_eq j c.first))

  found : (i : ℕ) → i < n → IsAside rows pivot i ⊎ IsBest i
  found i l =
      let k = table.complete i l in
      pick (closest_at map k.key.items) (λ c. (length k.key.items ≡ width) × IsClosest rows n k.key.items c) (λ c. IsPassed rows cs n pivot best c.first)
      (IsAside rows pivot i ⊎ IsBest i) k.kept (table.sound k.key)
      (IfSome-lookup_from_All (λ c. IsPassed rows cs n pivot best c.first) (λ key. is_eq (slice_cmp int_cmp k.key.items key.items)) map.entries walked)
      (λ c h w. passed i l k.key.items k.side c h.1 w)

  decided : (i j : ℕ) → i < n → j < n → i ≢ j → (bound : ℤ) → PairShows rows (bounded cs bound) i j → IsAside rows pivot i ⊎ IsBest i
      → IsAside rows pivot j ⊎ IsBest j
      → IsSomeAnd best (λ b. b.bound ≤ℤ bound)
  decided i j l m apart bound p (inr f) y = f j m apart bound p
  decided i j l m apart bound p (inl a) (inr g) = g i l (λ e. apart (sym e)) bound (swapped rows (bounded cs bound) i j p)
  decided i j l m apart bound p (inl a) (inl b) = absurd (not_both rows cs i j pivot pivot_is p.sides a b)

  pub least-all : IfSome best (PairSums rows cs) → IsLeast rows cs n best
  least-all shown = record {
    shown = shown;
    least = λ i j l m bound p. decided i j (omega arith) m (omega arith) bound p (found i (omega arith)) (found j m);
  }

-- one more place
pub among-more : (rows : List Row) (cs : List ℤ) (n place : ℕ) (old new : Option Best) → IfSome old (λ b. IsSomeAnd new (λ c. c.bound ≤ℤ b.bound))
    → ((i : ℕ) → i < place → IsLeastAt rows cs n old i) → IsLeastAt rows cs n new place → (i : ℕ) → i < place + 1 → IsLeastAt rows cs n new i
among-more rows cs n place old new h before here i l = go (cases_eq i place)
  where
    go : (i ≡ place) ⊎ (i ≡ place → ⊥) → IsLeastAt rows cs n new i
    go (inl e) = rw e here
    go (inr apart) = least_at-kept rows cs n old new h i (before i (omega arith))

-- a pair that was found before or has this place has a place below the next one
pub among-next : (rows : List Row) (cs : List ℤ) (place : ℕ) (old new : Option Best) → IfSome old (λ b. b.first < place)
    → IfSome new (λ b. (IsSomeAnd old (λ a. b ≡ a)) ⊎ HasPlace place b) → IfSome new (PairSums rows cs) → IfSome new (λ b. b.first < place + 1)
among-next rows cs place old None before part shown = tt
among-next rows cs place (Some a) (Some b) before (inl e) shown = rw e (let l : a.first < place = before in omega arith)
among-next rows cs place None (Some b) before (inl e) shown = absurd e
among-next rows cs place old (Some b) before (inr (inl e)) shown = omega arith
among-next rows cs place old (Some b) before (inr (inr e)) shown = let o = shown.order in omega arith

-- a wanted side that goes past all premises is that of no pair of these places
pub among-wide : (rows : List Row) (cs : List ℤ) (width n first k : ℕ) → All (λ r. length r.coefficients ≤ width) rows → width ≤ k → number k cs ≢ pos 0
    → IsLeastAmong rows cs n first None
among-wide rows cs width n first k widths far ne = record { shown = tt; among = tt; least = λ i l j m apart bound p. absurd (ne (p.sides k ∙ zeros i j)) }
  where
    zero_at : (i : ℕ) → coefficient k (row_at rows i) ≡ pos 0
    zero_at i = let w = row_width width rows widths i in get_or_past (row_at rows i).coefficients k (pos 0) (omega arith)

    zeros : (i j : ℕ) → coefficient k (row_at rows i) +ℤ coefficient k (row_at rows j) ≡ pos 0
    zeros i j = rw (zero_at i, zero_at j) refl

-- what the place past the end lacks is the wanted side, so with it a single row is found
pub alone-of : (rows : List Row) (cs : List ℤ) (best : Option Best) → IfSome best (PairSums rows cs)
    → IfSome best (λ b. ⊥ ⊎ HasPlace (length rows) b) → IsLeastAt rows cs (length rows + 2) best (length rows) → IsAlone rows cs best
alone-of rows cs best shown part least = record {
  shown = shown;
  past = past_end best shown part;
  least = λ i l same. least i (omega arith) (omega arith) (row_at rows i).bound (record {
    sides = λ k. whole (number k cs) (coefficient k (row_at rows (length rows))) (coefficient k (row_at rows i)) (ap (coefficient k) past) (same k);
    bounds = none (row_at rows (length rows)).bound (row_at rows i).bound (ap (λ (r : Row). r.bound) past);
  });
}
  where
    past_end : (o : Option Best) → IfSome o (PairSums rows cs) → IfSome o (λ b. ⊥ ⊎ HasPlace (length rows) b) → IfSome o (λ b. length rows ≤ b.second)
    past_end None s p = tt
    past_end (Some b) s (inl never) = absurd never
    past_end (Some b) s (inr (inl e)) = let o = s.order in omega arith
    past_end (Some b) s (inr (inr e)) = omega arith

    past : row_at rows (length rows) ≡ record { coefficients = []; bound = pos 0 }
    past = get_or_past rows (length rows) (record { coefficients = []; bound = pos 0 }) (omega arith)

    whole : (a b c : ℤ) → b ≡ pos 0 → a ≡ c → a ≡ b +ℤ c
    whole a b c z e = omega (arith, ints)

    none : (b c : ℤ) → b ≡ pos 0 → (b +ℤ c) ≤ℤ c
    none b c z = omega (arith, ints)

-- and a wanted side that goes past all premises is that of none
pub alone-wide : (rows : List Row) (cs : List ℤ) (width k : ℕ) → All (λ r. length r.coefficients ≤ width) rows → width ≤ k → number k cs ≢ pos 0
    → IsAlone rows cs None
alone-wide rows cs width k widths far ne = record { shown = tt; past = tt; least = λ i l same. absurd (ne (same k ∙ zero_at i)) }
  where
    zero_at : (i : ℕ) → coefficient k (row_at rows i) ≡ pos 0
    zero_at i = let w = row_width width rows widths i in get_or_past (row_at rows i).coefficients k (pos 0) (omega arith)

-- a wanted side that goes past all premises is that of no pair
pub least-wide : (rows : List Row) (cs : List ℤ) (width n k : ℕ) → All (λ r. length r.coefficients ≤ width) rows → width ≤ k → number k cs ≢ pos 0
    → IsLeast rows cs n None
least-wide rows cs width n k widths far ne = record { shown = tt; least = λ i j l m bound p. absurd (ne (p.sides k ∙ zeros i j)) }
  where
    zero_at : (i : ℕ) → coefficient k (row_at rows i) ≡ pos 0
    zero_at i = let w = row_width width rows widths i in get_or_past (row_at rows i).coefficients k (pos 0) (omega arith)

    zeros : (i j : ℕ) → coefficient k (row_at rows i) +ℤ coefficient k (row_at rows j) ≡ pos 0
    zeros i j = rw (zero_at i, zero_at j) refl

-- what the pair found says
pub sums_show : (rows : List Row) (cs : List ℤ) (b : Best) → PairSums rows cs b → PairShows rows (bounded cs b.bound) b.first b.second
sums_show rows cs b p = record { sides = p.sides; bounds = let e = p.bound in omega (arith, ints) }

pub sums_small : (rows : List Row) (cs : List ℤ) (b : Best) → All (RowWithin (2 ^ 60)) rows → PairSums rows cs b → unsigned_abs b.bound ≤ 2 ^ 61
sums_small rows cs b h p =
    let e = ap unsigned_abs p.bound in
    let a = abs-add (row_at rows b.first).bound (row_at rows b.second).bound in
    let x = bound_within (2 ^ 60) rows h b.first in
    let y = bound_within (2 ^ 60) rows h b.second in
    omega arith

pub back : (a b c : ℤ) → c ≡ a +ℤ b → a ≡ c -ℤ b
back a b c e = omega (arith, ints)

-- the least pair is at most whatever is shown at once
pub least_at_once : (rows : List Row) (cs : List ℤ) (best : Option Best) → IsLeast rows cs (length rows + 2) best
    → (bound : ℤ) → ShowsAtOnce rows (bounded cs bound) → IsSomeAnd best (λ b. b.bound ≤ℤ bound)
least_at_once rows cs best l bound s = let p = pair_from rows (bounded cs bound) s in l.least p.0 p.1 p.2 p.3 bound p.4

pub small_sum : (a b : ℤ) → unsigned_abs a ≤ 2 ^ 61 → unsigned_abs b ≤ 2 ^ 78 → FitsSigned w128 (a +ℤ b)
small_sum a b h k = omega (arith, ints)

pub wide_sum : (a b : ℤ) → unsigned_abs a ≤ 2 ^ 78 → unsigned_abs b ≤ 2 ^ 78 → FitsSigned w128 (a +ℤ b)
wide_sum a b h k = omega (arith, ints)

pub kept_order : (a b c d : ℤ) → d ≡ a +ℤ b → a ≤ℤ (c -ℤ b) → d ≤ℤ c
kept_order a b c d e h = omega (arith, ints)

-- a pair whose sum of bounds is too great shows that none does
pub none_shown : (rows : List Row) (wanted : Row) (best : Option Best) → IsLeast rows wanted.coefficients (length rows + 2) best
    → IfSome best (λ b. wanted.bound <ℤ b.bound) → ¬ (ShowsAtOnce rows wanted)
none_shown rows wanted best l h s = go best h (least_at_once rows wanted.coefficients best l wanted.bound s)
  where
    go : (o : Option Best) → IfSome o (λ b. wanted.bound <ℤ b.bound) → IsSomeAnd o (λ b. b.bound ≤ℤ wanted.bound) → ⊥
    go None h k = k
    go (Some b) h k = omega (arith, ints)

-- the bound that a pair shows is no looser than the pair
pub pair_tight : (rows : List Row) (form : Form) (b : Best) (bound : ℤ) (m : Multipliers) → PairSums rows form.coefficients b → m.divisor ≡ pos 1
    → m.weights ≡ unit_at (length rows) b.first ++ unit_at (length rows) b.second → bound ≡ b.bound +ℤ form.constant → IsNoLooser rows form bound m
pair_tight rows form b bound m sums one ws is =
    let w = pair_weighs rows b.first b.second m.weights ws in
    whole m.divisor bound form.constant b.bound (row_at rows b.first).bound (row_at rows b.second).bound (weighted (λ r. r.bound) rows m.weights) one is
    sums.bound w
  where
    whole : (d bound k best x y w : ℤ) → d ≡ pos 1 → bound ≡ best +ℤ k → best ≡ x +ℤ y → w ≡ x +ℤ y → (d *ℤ (bound -ℤ k)) ≤ℤ w
    whole d bound k best x y w one is sum e = rw one (omega (arith, ints))
