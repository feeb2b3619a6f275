-- A solution grows by one flow, and by one instant.
use Rattle.std.proofs.Common.{◌≡◌, ℕ, zero, suc, ◌+◌, ◌<◌, ◌≤◌, ◌↔◌, List, [], ◌∷◌, ◌++◌, length, refl, sym, ◌∙◌, ap, subst, arith, get_or, inl, inr, Option}
use Rattle.std.proofs.Common.{IsSome, length-append}
use Rattle.std.proofs.{lemmas.List.get_or_append_left, lemmas.List.get_or_default, Math.Seq.get_or-append_seam, Math.Nat.eq-or-lt_of_le}
use Rattle.std.specs.{Ordering.nat_cmp, Cmp.Lexicographic.slice_cmp, FinMap.get-empty}
use Rattle.std.specs.FinMap as map
use Rattle.rv_base.specs.declared.value.Value.{Value}
use Rattle.rv_tree.specs.{Tree.ProgramTree, Places.Identifier, Places.Sites}
use Rattle.rv_meaning.specs.{Meaning.Cells, Runs.History, Runs.Instant, Runs.flat, Runs.cells, Givers.AreDefined}
use Rattle.rv_types.specs.{Instances.IsFlow, Needs.Giver, Needs.Gives, Needs.IsAmongFirst, Needs.IsSequence}
use Rattle.rv_meaning.proofs.Rows.{no_flag, get_same, get_other, one_or_other}
use Rattle.rv_meaning.proofs.{Local.AreAlike, Solutions.Rule, Solutions.IsLocal, Solutions.IsSolution}

module _ (program : ProgramTree) (main : Identifier) (made : Rule) (sequence : List Sites) where
  -- the k-th flow of the sequence
  abbrev nth : ℕ → Sites
  nth k = get_or sequence k []

  -- the first m flows have what their sources give, in the row after the past
  pub record IsInstant (past : History) (row : Instant) (m : ℕ) : Type 0 where
    pub places : (p : Sites) → IsSome (map.get row p) ↔ IsAmongFirst program main sequence m p
    pub has : (k : ℕ) (w : Giver) → k < m → Gives program main (nth k) w
        → cells (past ++ row ∷ []) (length past) (nth k) ≡ made w (past ++ row ∷ []) (length past)

  module _ (is_local : IsLocal program made) (defined : AreDefined program main) (ordered : IsSequence program main sequence) where
    -- what a giver makes of an instant is fixed before the instants after it
    is_local_before : (g h : History) (w : Giver) (u t : ℕ) → AreAlike (cells g) (cells h) u → t < u → made w g t ≡ made w h t
    is_local_before g h w u t alike lt = is_local g h w t (λ s p less. alike s p (omega arith)) (λ j d less. alike t _ lt)

    module _ (past : History) where
      -- the past and one row more
      abbrev longer : Instant → History
      longer row = past ++ row ∷ []

      -- its cells
      abbrev with_row : Instant → Cells
      with_row row = cells (longer row)

      -- the last row changes nothing before it
      kept : (row other : Instant) → AreAlike (with_row row) (with_row other) (length past)
      kept row other s p lt = ap (λ r. flat (map.get r p)) (get_or_append_left past (row ∷ []) map.empty s lt
          ∙ sym (get_or_append_left past (other ∷ []) map.empty s lt))

      -- and gives the cells of the last instant
      last : (row : Instant) (p : Sites) → with_row row (length past) p ≡ flat (map.get row p)
      last row p = ap (λ r. flat (map.get r p)) (get_or-append_seam past row [] map.empty)

      -- the row grows by the next flow
      one_more : (row : Instant) (m : ℕ) (v : Option Value) (s : Giver) → Gives program main (nth m) s → m < length sequence
          → v ≡ made s (longer row) (length past) → IsInstant past row m → IsInstant past (map.insert row (nth m) v) (m + 1)
      one_more row m v s gives lt is p =
          let more : Instant = map.insert row (nth m) v in
          let below : (j : ℕ) → j < m → with_row row (length past) (nth j) ≡ with_row more (length past) (nth j) = λ j less.
          last row (nth j) ∙ ap flat (sym (get_other row (nth m) (nth j) v (ordered.once j m less lt))) ∙ sym (last more (nth j)) in
          let value_kept : (k : ℕ) (s : Giver) → k ≤ m → Gives program main (nth k) s
          → made s (longer row) (length past) ≡ made s (longer more) (length past) = λ k s le g.
          is_local (longer row) (longer more) s (length past) (kept row more)
          (λ i d less. let w = ordered.after k s (omega arith) g i d less in
          let j_below : w.0 < m = omega (arith, w.1) in
          subst (λ r. with_row row (length past) r ≡ with_row more (length past) r) w.2 (below w.0 j_below)) in
          record {
            places = λ q. elim (one_or_other q (nth m)) [
              | inl same ↦ (
                λ _. (m, omega arith, sym same),
                λ _. subst (λ r. IsSome (map.get more r)) (sym same) (subst IsSome (sym (get_same row (nth m) v)) refl),
              )
              | inr n ↦ let e = get_other row (nth m) q v n in (
                λ h. let w = (p.places q).0 (subst IsSome e h) in (w.0, omega (arith, w.1), w.2),
                λ w. elim (eq-or-lt_of_le {n = w.0} {m = m} (omega (arith, w.1))) [
                  | inl at_end ↦ absurd (n (sym w.2 ∙ ap nth at_end))
                  | inr less ↦ subst IsSome (sym e) ((p.places q).1 (w.0, less, w.2))
                ],
              )
            ];
            has = λ k s' less g. elim (eq-or-lt_of_le {n = k} {m = m} (omega arith)) [
              | inl at_end ↦ last more (nth k) ∙ ap (λ j. flat (map.get more (nth j))) at_end ∙ ap flat (get_same row (nth m) v) ∙ is
                  ∙ at_the_end k at_end s' g ∙ value_kept k s' (omega (arith, at_end)) g
              | inr less' ↦ sym (below k less') ∙ p.has k s' less' g ∙ value_kept k s' (omega (arith, less')) g
            ];
          }
        where
          at_the_end : (k : ℕ) → k ≡ m → (s' : Giver) → Gives program main (nth k) s' → made s (longer row) (length past) ≡ made s' (longer row) (length past)
          at_the_end k e s' g = ap (λ w. made w (longer row) (length past)) (defined.one (nth m) s s' gives (subst (λ j. Gives program main (nth j) s') e g))

      -- the empty row has no flow
      nothing_yet : IsInstant past map.empty 0
      nothing_yet = record {
        places = λ p. (λ h. absurd (no_flag (subst IsSome (get-empty (slice_cmp nat_cmp) p) h)), λ w. absurd (omega (arith, w.1)));
        has = λ k s less g. absurd (omega arith);
      }

      -- a row grows to any number of flows
      instant : (m : ℕ) → m ≤ length sequence → (row : Instant) × IsInstant past row m
      instant zero le = (map.empty, nothing_yet)
      instant (suc m) le =
          let r = instant m (omega arith) in
          let s = defined.complete (nth m) (ordered.only m (omega arith)) in
          let v : Option Value = made s.0 (longer r.0) (length past) in
          (map.insert r.0 (nth m) v, subst (IsInstant past (map.insert r.0 (nth m) v)) (omega arith) (one_more r.0 m v s.0 s.1 (omega arith) refl r.1))

    -- each flow has at each instant so far what its source gives
    pub record HasRun (h : History) : Type 0 where
      pub places : (t : ℕ) (p : Sites) → t < length h → IsSome (map.get (get_or h t map.empty) p) ↔ IsAmongFirst program main sequence (length sequence) p
      pub has : (t k : ℕ) (w : Giver) → t < length h → k < length sequence → Gives program main (nth k) w → cells h t (nth k) ≡ made w h t

    -- a history grows by a row of all flows
    pub one_later : (past : History) (row : Instant) → HasRun past → IsInstant past row (length sequence) → HasRun (past ++ row ∷ [])
    one_later past row p q =
        let h : History = past ++ row ∷ [] in
        let longer = length-append past (row ∷ []) in
        let kept_row : (t : ℕ) → t < length past → get_or past t map.empty ≡ get_or h t map.empty = λ t lt. sym
        (get_or_append_left past (row ∷ []) map.empty t lt) in
        record {
          places = λ t r lt. elim (eq-or-lt_of_le {n = t} {m = length past} (omega (arith, longer))) [
            | inl at_end ↦ subst (λ m. IsSome (map.get m r) ↔ IsAmongFirst program main sequence (length sequence) r)
                (sym (get_or-append_seam past row [] map.empty) ∙ ap (λ s. get_or h s map.empty) (sym at_end)) (q.places r)
            | inr below ↦ subst (λ m. IsSome (map.get m r) ↔ IsAmongFirst program main sequence (length sequence) r) (kept_row t below) (p.places t r below)
          ];
          has = λ t k s lt less g. elim (eq-or-lt_of_le {n = t} {m = length past} (omega (arith, longer))) [
            | inl at_end ↦ subst (λ u. cells h u (nth k) ≡ made s h u) (sym at_end) (q.has k s less g)
            | inr below ↦ sym (ap (λ r. flat (map.get r (nth k))) (kept_row t below)) ∙ p.has t k s below less g
                ∙ is_local_before past h s (length past) t (λ u r lower. ap (λ m. flat (map.get m r)) (kept_row u lower)) below
          ];
        }

    -- there is one of any length
    instants : (n : ℕ) → (h : History) × (length h ≡ n) × HasRun h
    instants zero = ([], refl, record { places = λ t p lt. absurd (omega arith); has = λ t k s lt less g. absurd (omega arith) })
    instants (suc n) =
        let r = instants n in
        let i = instant r.0 (length sequence) (omega arith) in
        (r.0 ++ i.0 ∷ [], omega (arith, r.1, length-append r.0 (i.0 ∷ [])), one_later r.0 i.0 r.2 i.1)

    -- which is a solution
    pub a_solution : (n : ℕ) → (h : History) × IsSolution program main made n h
    a_solution n =
        let r = instants n in
        let long : length r.0 ≡ n = r.1 in (
          r.0,
          record {
            history = record {
              instants = r.1;
              places = λ t p lt. let e = r.2.places t p (omega (arith, long)) in (
                λ h. let w = e.0 h in subst (IsFlow program main) w.2 (ordered.only w.0 w.1),
                λ f. let w = ordered.flows p f in e.1 (w.0, w.1, get_or_default sequence w.0 [] p w.1 ∙ w.2),
              );
            };
            has = λ t p s lt g. let w = ordered.flows p (defined.flow p s g) in
                subst (λ r'. Gives program main r' s → cells r.0 t r' ≡ made s r.0 t) (get_or_default sequence w.0 [] p w.1 ∙ w.2)
                (r.2.has t w.0 s (omega (arith, long)) w.1) g;
          },
        )
