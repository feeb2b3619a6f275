-- What follows from a claim, in a store.
use Rattle.std.proofs.Common.{◌≡◌, ◌↔◌, ◌⊎◌, ℕ, ℤ, ◌<◌, ◌≤ℤ◌, Bool, true, false, cond, ◌&&◌, pos, negsuc, List, [], ◌∷◌, ◌++◌, length, Option, Some, IsTrue}
use Rattle.std.proofs.Common.{arith, ◌∙◌, sym, subst, inl, inr}
use Rattle.std.proofs.{lemmas.Bool.and_parts, lemmas.Bool.and_from, lemmas.Bool.cases_Bool}
use Rattle.std.proofs.lemmas.List.{append-nil, append_assoc}
use Rattle.std.proofs.lemmas.List.Elements.{Contains-append_cases}
use Rattle.std.specs.List.{Contains}
use Rattle.rv_diagram.specs.{Nodes.Valuation, Nodes.Diagrams, Nodes.IsRef, Nodes.Answers, Nodes.value_of, Growing.Extends, declared.frozen.Frozen.Frozen}
use Rattle.rv_rows.specs.{declared.linear.Row.Row, Rows.row_at, Forms.IsSubstituted, Multipliers.ShowsAtOnce, Multipliers.AreShutAtOnce}
use Rattle.rv_seek.specs.Least.{bounded}
use Rattle.rv_proofs.specs.{Systems.System, Systems.IsSystem, Scopes.IsIn, Systems.updates_of, Systems.rows_of, RowClaims.RowClaim, RowClaims.IsRowTaken}
use Rattle.rv_proofs.specs.{RowClaims.premises_at}
use Rattle.rv_ends.specs.Risen.{IsRisen}
use Rattle.rv_pairs.specs.{declared.labels.Labelled.Labelled, Labels.active, Moves.HoldsWhere, Telling.Tells, Telling.AreMet, Telling.IsZero}
use Rattle.rv_pairs.proofs.{Following.after_up, Pairing.shown_still, Silent.tells_all, Silent.open_met}
use Rattle.rv_leaving.specs.Exits.{AreLeft}
use Rattle.rv_walk.specs.Ends.{has}
use Rattle.rv_rise.specs.Rounds.{HoldsIn, IsKeptRisen, IsFirstHeld, IsPartOf, AreNextOf, claim_in}
use Rattle.rv_rise.specs.{declared.frame.Frame.Frame, declared.risen.Risen.Risen, declared.steps.Part.Part, Limits.limit_at, Limits.AreRisen}
use Rattle.rv_rise.proofs.Loosening.{risen_as}

-- a limit that rises, where something else holds from the old one on
pub risen_with : (thresholds : List ℤ) (P Q : ℤ → Type 0) (old new : Option ℤ) → IsRisen thresholds P old new
    → ((a b : ℤ) → old ≡ Some a → a ≤ℤ b → Q b) → IsRisen thresholds (λ b. P b × Q b) old new
risen_with thresholds P Q old new h from = record {
  held = λ b e. let (a, there, l) = h.rises b e in (h.held b e, from a b there l);
  rises = h.rises;
  among = h.among;
  least = λ a b e l has (p, q). h.least a b e l has p;
}

-- where a valuation is allowed and its tests are not shut at once
pub asked_is : (s : System) (v : Valuation) (r whole : Bool) (rows : List Row) → (r ≡ true) ↔ ((whole ≡ true) × ¬ AreShutAtOnce rows) → whole ≡ s.allowed v
    → rows ≡ rows_of s v → (r ≡ true) ↔ (IsTrue (s.allowed v) × ¬ AreShutAtOnce (rows_of s v))
asked_is s v r whole rows h meant are = (
  λ on. let (a, never) = h.0 on in (sym meant ∙ a, λ shut. never (subst AreShutAtOnce (sym are) shut)),
  λ (a, never). h.1 (meant ∙ a, λ shut. never (subst AreShutAtOnce are shut)),
)

-- what rows that are shut at once show
abbrev falsity : Row
falsity = record { coefficients = []; bound = negsuc 0 }

-- more rows show what the first ones do
pub shown_append : (rows more : List Row) (w : Row) → ShowsAtOnce rows w → ShowsAtOnce (rows ++ more) w
shown_append rows [] w h = subst (λ (rs : List Row). ShowsAtOnce rs w) (sym (append-nil rows)) h
shown_append rows (r ∷ more) w h =
    subst (λ (rs : List Row). ShowsAtOnce rs w) (append_assoc rows (r ∷ []) more) (shown_append (rows ++ r ∷ []) more w (shown_still rows r w h))

module _ (s : System) (c : RowClaim) (solid : (r : Row) → Contains c.rows r → IsZero r → ⊥) (v : Valuation) where
  -- the premises at the valuation, and those that are told
  pub told_premises : (told : List Row) → Tells (rows_of s v) told → Tells (premises_at s c v) (told ++ cond (v 0) c.rows [])
  told_premises told t = go (v 0)
    where
      go : (b : Bool) → Tells (cond b (rows_of s v ++ c.rows) (rows_of s v)) (told ++ cond b c.rows [])
      go true = tells_all (rows_of s v) told c.rows t
      go false = subst (Tells (rows_of s v)) (sym (append-nil told)) t

  pub more_shown : (w : Row) → ShowsAtOnce (rows_of s v) w → ShowsAtOnce (premises_at s c v) w
  more_shown w h = go (v 0)
    where
      go : (b : Bool) → ShowsAtOnce (cond b (rows_of s v ++ c.rows) (rows_of s v)) w
      go true = shown_append (rows_of s v) c.rows w h
      go false = h

  pub premises_met : ¬ AreShutAtOnce (rows_of s v) → AreMet (premises_at s c v)
  premises_met never = go (v 0)
    where
      parts : (r : Row) → Contains (rows_of s v) r ⊎ Contains c.rows r → IsZero r → pos 0 ≤ℤ r.bound
      parts r (inl has) zero = open_met (rows_of s v) never r has zero
      parts r (inr has) zero = absurd (solid r has zero)

      go : (b : Bool) → AreMet (cond b (rows_of s v ++ c.rows) (rows_of s v))
      go true r has zero = parts r (Contains-append_cases (rows_of s v) c.rows r has) zero
      go false r has zero = parts r (inl has) zero

  -- where the claim takes the valuation
  module _ (told rows : List Row) (t : Tells (rows_of s v) told) (are : c.reached v ≡ true → rows ≡ told ++ cond (v 0) c.rows []) (r allowed : Bool)
      (is : (r ≡ true) ↔ (((allowed ≡ true) × (c.reached v ≡ true)) × ¬ AreShutAtOnce rows))
      (asked : (allowed ≡ true) ↔ (IsTrue (s.allowed v) × ¬ AreShutAtOnce (rows_of s v))) where
    rows_tell : c.reached v ≡ true → Tells (premises_at s c v) rows
    rows_tell there = subst (Tells (premises_at s c v)) (sym (are there)) (told_premises told t)

    rows_show : c.reached v ≡ true → ¬ AreShutAtOnce (rows_of s v) → (w : Row) → ShowsAtOnce rows w ↔ ShowsAtOnce (premises_at s c v) w
    rows_show there never w = let h = rows_tell there in h.same (premises_met never) w

    never_shut : IsRowTaken s c v → ¬ AreShutAtOnce (rows_of s v)
    never_shut k shut = k.is_open (more_shown falsity shut)

    pub taken_shows : IsRowTaken s c v → (w : Row) → ShowsAtOnce rows w ↔ ShowsAtOnce (premises_at s c v) w
    taken_shows k w = rows_show k.reached (never_shut k) w

    pub claim_takes : (r ≡ true) ↔ IsRowTaken s c v
    claim_takes = (to, from)
      where
        to : r ≡ true → IsRowTaken s c v
        to on =
            let (both, is_open) = is.0 on in
            let (a, there) = both in
            let (fine, never) = asked.0 a in
            record { allowed = fine; reached = there; is_open = λ shut. is_open ((rows_show there never falsity).1 shut) }

        from : IsRowTaken s c v → r ≡ true
        from k = is.1 ((asked.1 (k.allowed, never_shut k), k.reached), λ shut. k.is_open ((taken_shows k falsity).0 shut))

-- a part of a reference
pub part_first : (d : Diagrams) (taken sure : ℕ) (first : Bool) → first ≡ true → IsRef d.nodes taken → IsRef d.nodes sure
    → ((v : Valuation) → value_of d.nodes sure v ≡ true) → IsPartOf d d taken first (record { here = taken; sure = sure })
part_first d taken sure first e there known means = record {
  here = there;
  sure = known;
  within = λ v on. means v;
  among = λ v on. on;
  ticked = λ some v on. inl e;
  all = λ some v on tick. on;
}

pub part_later : (old mid new : Diagrams) (taken sure here : ℕ) (first : Bool) → first ≡ false → Extends old mid → IsRef old.nodes taken → IsRef mid.nodes sure
    → (0 < old.variables → (v : Valuation) → value_of mid.nodes sure v ≡ v 0)
    → Answers mid new (λ v. value_of mid.nodes taken v && value_of mid.nodes sure v) here
    → IsPartOf old new taken first (record { here = here; sure = sure })
part_later old mid new taken sure here first off e there known ticks a = record {
  here = a.found;
  sure = let g = a.grows in omega (arith, known, g.longer);
  within = λ v on. let g = a.grows in g.kept sure known v ∙ (parts v on).1;
  among = λ v on. sym (e.kept taken there v) ∙ (parts v on).0;
  ticked = λ some v on. inr (sym (ticks some v) ∙ (parts v on).1);
  all = λ some v on tick. a.means v ∙ and_from (value_of mid.nodes taken v) (value_of mid.nodes sure v) (e.kept taken there v ∙ on)
      (ticks some v ∙ later v tick);
}
  where
    parts : (v : Valuation) → value_of new.nodes here v ≡ true → (value_of mid.nodes taken v ≡ true) × (value_of mid.nodes sure v ≡ true)
    parts v on = and_parts (value_of mid.nodes taken v) (value_of mid.nodes sure v) (sym (a.means v) ∙ on)

    later : (v : Valuation) → (first ≡ true) ⊎ (v 0 ≡ true) → v 0 ≡ true
    later v (inl on) = let bad : false ≡ true = sym off ∙ on in cc
    later v (inr tick) = tick

-- WHAT FOLLOWS

module _ (s : System) (is : IsSystem s) (f : Frame) (c : Risen) (kept : IsKeptRisen s f c) (first : Bool) (begun : first ≡ false → IsFirstHeld s f c)
    (old new : Diagrams) (variables : old.variables ≡ s.variables) (taken : ℕ)
    (takes : (v : Valuation) → (value_of old.nodes taken v ≡ true) ↔ IsRowTaken s (claim_in f c) v)
    (part : Part) (p : IsPartOf old new taken first part) (labels : List Labelled)
    (shows : (v : Valuation) → IsRowTaken s (claim_in f c) v → (w : Row) → ShowsAtOnce (active new.nodes labels v) w
    ↔ ShowsAtOnce (premises_at s (claim_in f c) v) w) where
  pub part_taken : (v : Valuation) → value_of new.nodes part.here v ≡ true → IsRowTaken s (claim_in f c) v
  part_taken v on = (takes v).0 (p.among v on)

  some_variables : (v : Valuation) → IsRowTaken s (claim_in f c) v → 0 < old.variables
  some_variables v t = let some = kept.states v t.reached in omega (arith, some, is.bits, variables)

  part_or : (v : Valuation) → IsRowTaken s (claim_in f c) v → (value_of new.nodes part.here v ≡ true) ⊎ ((first ≡ false) × IsTrue (s.initial v))
  part_or v t = go (cases_Bool first) (kept.ticked v t.reached)
    where
      go : (first ≡ true) ⊎ (first ≡ false) → IsTrue (s.initial v) ⊎ (v 0 ≡ true)
          → (value_of new.nodes part.here v ≡ true) ⊎ ((first ≡ false) × IsTrue (s.initial v))
      go (inl e) tick = inl (p.all (some_variables v t) v ((takes v).1 t) (inl e))
      go (inr e) (inl i) = inr (e, i)
      go (inr e) (inr tick) = inl (p.all (some_variables v t) v ((takes v).1 t) (inr tick))

  -- at initial valuations
  abbrev HoldsFirst : List ℤ → ℤ → Type 0
  HoldsFirst numbers z = (v : Valuation) → IsTrue (s.initial v) → IsRowTaken s (claim_in f c) v → first ≡ false
      → (row : Row) × IsSubstituted (bounded numbers z) (updates_of s v) row × ShowsAtOnce (premises_at s (claim_in f c) v) row

  to_holds : (numbers : List ℤ) (z : ℤ) → HoldsWhere s new.nodes labels part.here numbers z → HoldsFirst numbers z → HoldsIn s (claim_in f c) numbers z
  to_holds numbers z later initial v t = go (part_or v t)
    where
      go : (value_of new.nodes part.here v ≡ true) ⊎ ((first ≡ false) × IsTrue (s.initial v))
          → (row : Row) × IsSubstituted (bounded numbers z) (updates_of s v) row × ShowsAtOnce (premises_at s (claim_in f c) v) row
      go (inl on) = let (row, sub, h) = later v on in (row, sub, (shows v t row).0 h)
      go (inr (e, i)) = initial v i t e

  from_holds : (numbers : List ℤ) (z : ℤ) → HoldsIn s (claim_in f c) numbers z → HoldsWhere s new.nodes labels part.here numbers z
  from_holds numbers z h v on =
      let t = part_taken v on in
      let (row, sub, k) = h v t in (row, sub, (shows v t row).1 k)

  pub limits_risen : (news : List (Option ℤ))
      → AreRisen f.thresholds (HoldsWhere s new.nodes labels part.here) f.sides (length c.limits) c.limits news
      → AreRisen f.thresholds (HoldsIn s (claim_in f c)) f.sides (length c.limits) c.limits news
  limits_risen news are = record {
    size = are.size;
    each = λ k l. one k (are.each k l);
  }
    where
      from_first : (k : ℕ) (a b : ℤ) → limit_at c.limits k ≡ Some a → a ≤ℤ b → HoldsFirst (row_at f.sides k).coefficients b
      from_first k a b at l v i t e =
          let h = begun e in
          after_up s v (row_at f.sides k).coefficients (premises_at s (claim_in f c) v) a b l (h.rows k a at v i t)

      one : (k : ℕ) → IsRisen f.thresholds (HoldsWhere s new.nodes labels part.here (row_at f.sides k).coefficients) (limit_at c.limits k) (limit_at news k)
          → IsRisen f.thresholds (HoldsIn s (claim_in f c) (row_at f.sides k).coefficients) (limit_at c.limits k) (limit_at news k)
      one k h =
          let numbers = (row_at f.sides k).coefficients in
          risen_as f.thresholds (λ b. HoldsWhere s new.nodes labels part.here numbers b × HoldsFirst numbers b) (HoldsIn s (claim_in f c) numbers)
          (limit_at c.limits k) (limit_at news k) (λ b (x, y). to_holds numbers b x y)
          (λ b x. (from_holds numbers b x, λ v i t e. x v t))
          (risen_with f.thresholds (HoldsWhere s new.nodes labels part.here numbers) (HoldsFirst numbers) (limit_at c.limits k) (limit_at news k) h
          (λ a b at l. from_first k a b at l))

  pub next_states : (set : Frozen) → AreLeft s new.nodes c.reached part.here set → AreNextOf s (claim_in f c) set
  next_states set left = record {
    control = left.control;
    made = λ v i. let (w, on, same) = left.made v i in (w, part_taken w on, same);
    there = λ w t. go w t (part_or w t);
  }
    where
      go : (w : Valuation) → IsRowTaken s (claim_in f c) w → (value_of new.nodes part.here w ≡ true) ⊎ ((first ≡ false) × IsTrue (s.initial w))
          → (IsIn set (s.next w)) ⊎ IsTrue (has c.reached (s.next w))
      go w t (inl on) = left.there w on
      go w t (inr (e, i)) = let h = begun e in inr (h.next w i t)
