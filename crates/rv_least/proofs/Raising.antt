-- Limits that rise by what memories become where a claim takes a valuation.
use Rattle.std.proofs.Common.{◌≡◌, ℕ, ◌+◌, ◌^◌, ◌<◌, ◌≤◌, ℤ, pos, ◌-ℤ◌, ◌≤ℤ◌, List, [], ◌∷◌, ◌++◌, length, true, All, Option, Some, arith, refl, sym, ap, ◌∙◌}
use Rattle.std.proofs.Common.{subst, slice_get, ◌⊎◌, inl, inr, None as Nothing}
use Rattle.std.proofs.{lemmas.Int.ints, lemmas.Bool.cases_lt, lemmas.List.length_push, lemmas.List.get_or_push, lemmas.List.get_or_append_left}
use Rattle.std.proofs.lemmas.List.Elements.{All-contains, All-from_get_or}
use Rattle.std.specs.{List.Contains, Int.RustNames.unsigned_abs}
use Rattle.rv_diagram.specs.{declared.Triple.Triple, Nodes.Valuation, Nodes.Diagrams, Nodes.value_of}
use Rattle.rv_rows.specs.{declared.linear.Form.Form, Forms.FormWithin}
use Rattle.rv_proofs.specs.{Systems.System, Systems.IsSystem, Boxes.BoxClaim}
use Rattle.rv_cases.specs.{declared.asking.Questions.Questions, Conditions.AreAnswers, Questions.memory_answers, Questions.forms_at}
use Rattle.rv_ends.specs.{Intervals.HasPoint, Sides.box_at, Sides.AreEnds}
use Rattle.rv_ends.specs.Risen.{IsRisen}
use Rattle.rv_taken.specs.{declared.opening.Opening.Opening, Rising.HoldsAfter}
use Rattle.rv_boxes.specs.Limits.{limit_at, room_of}
use Rattle.rv_boxes.proofs.Limiting.{room_nothing, room_some}
use Rattle.rv_least.specs.{Turned.AreTurned, Turned.AreAllTurned, Opened.IsOpenedAt, Rising.HoldsAt, Rising.AreRisen}
use Rattle.rv_least.proofs.Turning.{forms_there, turned_here}

module _ (s : System) (is : IsSystem s) (d : Diagrams) (c : BoxClaim) (o : Opening) (opened : IsOpenedAt s d c o) where
  pub many_columns : length o.ends ≤ 128
  many_columns = let l = is.limits in let e = opened.ends in let n = l.columns in let size = e.size in omega (arith, n, size)

  pub ends_there : AreEnds d.nodes (length o.ends) o.ends
  ends_there = let e = opened.ends in subst (λ (n : ℕ). AreEnds d.nodes n o.ends) (sym e.size) e

  pub has_point : (v : Valuation) → value_of d.nodes o.taken v ≡ true → HasPoint (box_at d.nodes o.ends v)
  has_point v on =
      let taken = opened.taken in
      let t = (taken.exact v).0 on in
      let open_there = t.is_open in
      (open_there.some.0, (opened.box v t open_there.some.0).0 open_there.some.1)

  module _ (k : ℕ) (sign : ℤ) (answers : List ℕ) (forms : List Form) (turned : AreTurned s d.nodes k sign answers (length answers) forms) where
    pub forms_narrow : All (λ f. length f.coefficients ≤ length o.ends) forms
    forms_narrow = All-from_get_or (λ (f : Form). length f.coefficients ≤ length o.ends) forms (record { coefficients = []; constant = pos 0 }) (λ i l.
        let size = turned.size in
        let t = turned.each i (omega (arith, l, size)) in
        let e = opened.ends in
        let narrow = t.narrow in
        let columns = e.size in
        omega (arith, narrow, columns))

    pub forms_small : All (FormWithin (2 ^ 41)) forms
    forms_small = All-from_get_or (FormWithin (2 ^ 41)) forms (record { coefficients = []; constant = pos 0 }) (λ i l.
        let size = turned.size in let t = turned.each i (omega (arith, l, size)) in t.small)

    module _ (asked : AreAnswers d.nodes answers) where
      holds_at : (b : ℤ) → HoldsAfter d.nodes o.taken o.ends answers forms b → HoldsAt s c k sign b
      holds_at b h v t point inside =
          let taken = opened.taken in
          let size = turned.size in
          let (i, l, on) = asked.covered v in
          let u = turned.each i l in
          subst (λ (z : ℤ). z ≤ℤ b) (u.worth v on point) (h v i (omega (arith, l, size)) ((taken.exact v).1 t) on point ((opened.box v t point).0 inside))

      holds_after : (b : ℤ) → HoldsAt s c k sign b → HoldsAfter d.nodes o.taken o.ends answers forms b
      holds_after b h v i l here on point inside =
          let taken = opened.taken in
          let size = turned.size in
          let t = (taken.exact v).0 here in
          let u = turned.each i (omega (arith, l, size)) in
          subst (λ (z : ℤ). z ≤ℤ b) (sym (u.worth v on point)) (h v t point ((opened.box v t point).1 inside))

      pub risen_at : (thresholds : List ℤ) (old new : Option ℤ) → IsRisen thresholds (HoldsAfter d.nodes o.taken o.ends answers forms) old new
          → IsRisen thresholds (HoldsAt s c k sign) old new
      risen_at thresholds old new r = record {
        held = λ b e. holds_at b (r.held b e);
        rises = r.rises;
        among = r.among;
        least = λ a b e l has h. r.least a b e l has (holds_after b h);
      }

-- a limit that has risen leaves less room, or is as before
pub risen_room : (thresholds : List ℤ) (holds : ℤ → Type 0) (old new : Option ℤ) → All (λ t. unsigned_abs t ≤ 2 ^ 41) thresholds
    → IsRisen thresholds holds old new → (new ≡ old) ⊎ (room_of new < room_of old)
risen_room thresholds holds old Nothing small r = none old
  where
    none : (o : Option ℤ) → (Nothing ≡ o) ⊎ (room_of Nothing < room_of o)
    none Nothing = inl refl
    none (Some a) = inr (omega (arith, room_nothing, room_some a))
risen_room thresholds holds old (Some b) small r = let (a, was, low) = r.rises b refl in go a was low (r.among b refl)
  where
    low_enough : (b : ℤ) → unsigned_abs b ≤ 2 ^ 41 → b ≤ℤ pos (2 ^ 41)
    low_enough b m = omega (arith, ints)

    same : (a b : ℤ) → a ≤ℤ b → b ≤ℤ pos (2 ^ 41) → unsigned_abs (pos (2 ^ 42) -ℤ a) ≤ unsigned_abs (pos (2 ^ 42) -ℤ b) → b ≡ a
    same a b l m n = omega (arith, ints)

    go : (a : ℤ) → old ≡ Some a → a ≤ℤ b → (old ≡ Some b) ⊎ Contains thresholds b → (Some b ≡ old) ⊎ (room_of (Some b) < room_of old)
    go a was low (inl e) = inl (sym e)
    go a was low (inr has) =
        let m = low_enough b (All-contains (λ (t : ℤ). unsigned_abs t ≤ 2 ^ 41) thresholds b small has) in
        by m (cases_lt (unsigned_abs (pos (2 ^ 42) -ℤ b)) (unsigned_abs (pos (2 ^ 42) -ℤ a)))
      where
        by : b ≤ℤ pos (2 ^ 41) → (unsigned_abs (pos (2 ^ 42) -ℤ b) < unsigned_abs (pos (2 ^ 42) -ℤ a))
            ⊎ (unsigned_abs (pos (2 ^ 42) -ℤ a) ≤ unsigned_abs (pos (2 ^ 42) -ℤ b)) → (Some b ≡ old) ⊎ (room_of (Some b) < room_of old)
        by m (inl less) = inr (subst (λ (x : Option ℤ). room_of (Some b) < room_of x) (sym was) (omega (arith, less, room_some b, room_some a)))
        by m (inr more) = inl (ap Some (same a b low m more) ∙ sym was)

-- one limit more
pub risen_more : (s : System) (c : BoxClaim) (thresholds : List ℤ) (sign : ℤ) (n : ℕ) (old news : List (Option ℤ)) (o new : Option ℤ)
    → AreRisen s c thresholds sign n old news → limit_at old n ≡ o → IsRisen thresholds (HoldsAt s c n sign) o new
    → AreRisen s c thresholds sign (n + 1) old (news ++ new ∷ [])
risen_more s c thresholds sign n old news o new are is here = record {
  size = let size = are.size in omega (arith, size, length_push news new);
  each = λ k l. go k l (cases_lt k n);
}
  where
    go : (k : ℕ) → k < n + 1 → (k < n) ⊎ (n ≤ k) → IsRisen thresholds (HoldsAt s c k sign) (limit_at old k) (limit_at (news ++ new ∷ []) k)
    go k l (inl m) =
        let size = are.size in
        subst (λ (x : Option ℤ). IsRisen thresholds (HoldsAt s c k sign) (limit_at old k) x)
        (sym (get_or_append_left news (new ∷ []) Nothing k (omega (arith, m, size)))) (are.each k m)
    go k l (inr m) =
        let e : k ≡ n = omega (arith, l, m) in
        let size = are.size in
        subst (λ (x : Option ℤ). IsRisen thresholds (HoldsAt s c k sign) (limit_at old k) x) (sym (get_or_push news new Nothing k (size ∙ sym e)))
        (subst (λ (j : ℕ). IsRisen thresholds (HoldsAt s c j sign) (limit_at old j) new) (sym e)
        (subst (λ (x : Option ℤ). IsRisen thresholds (HoldsAt s c n sign) x new) (sym is) here))

-- the forms of a memory, where they stand
pub risen_here : (s : System) (nodes : List Triple) (q : Questions) (sign : ℤ) (lists : List (List Form)) → AreAllTurned s nodes q sign s.memories lists
    → (k : ℕ) → k < s.memories → (answers : List ℕ) (forms : List Form) → memory_answers q k ≡ answers → slice_get lists k ≡ Some forms
    → AreTurned s nodes k sign answers (length answers) forms
risen_here s nodes q sign lists are k known answers forms e at =
    subst (λ (fs : List Form). AreTurned s nodes k sign answers (length answers) fs) (forms_there lists k forms at)
    (turned_here s nodes k sign (memory_answers q k) answers (forms_at lists k) e (are.each k known))
