-- What one step answers.
use Rattle.std.proofs.Common.{◌≡◌, ℕ, zero, suc, ◌+◌, ◌<◌, Bool, true, false, not, ◌||◌, cond, ℤ, List, [], ◌∷◌, length, map, get_or, IsTrue, refl, sym, ◌∙◌}
use Rattle.std.proofs.Common.{ap, subst, arith, inl, inr, Option, None as Nothing, Some}
use Rattle.std.proofs.{lemmas.Bool.false_from_ne_true, lemmas.Bool.true_from_ne_false, lemmas.Int.ints, Math.ListN.length-map}
use Rattle.std.specs.Prelude.{slice_get}
use Rattle.rv_base.specs.{declared.value.Value.TheVariants.Flag, declared.value.Value.TheVariants.Whole, declared.value.Place.Place, declared.value.Value.Value}
use Rattle.rv_tree.specs.Places.{Sites}
use Rattle.rv_types.specs.declared.typed.Kind.{Kind}
use Rattle.rv_meaning.specs.Meaning.{is_true}
use Rattle.rv_flat.specs.FlatInstants.{Row, nth, is_on_at, nth_item, memory_items, memory_places, assertion_trees, tick_clocks, value_at, IsFlatNext}
use Rattle.rv_flat.specs.Steps.{IsWithin, IsInRange, label_counts, memory_kinds, IsState, IsGrown, flow, memory, AreTaken, IsLeastOf}
use Rattle.rv_flat.specs.Filling.{IsKept, ticks_from, is_broken}
use Rattle.rv_flat.specs.{declared.flat.Flat.Flat, declared.state.State.State, FlatOf.no_assertion, FlatOf.IsFlatBroken, Earliest.IsPicked}
use Rattle.rv_agreement.specs.Checks.{constant_fits}
use Rattle.rv_step.specs.Ranges.{is_outside, is_grown, is_grown_cell, IsGrownAt}
use Rattle.rv_flat.proofs.Earliest.{least_same}
use Rattle.rv_base.proofs.Truths.{of_not_true}
use Rattle.rv_types.proofs.ChainLaws.{no_flag}

-- integers outside the range
outside : (z : ℤ) → is_outside z ≡ true → IsWithin z → ⊥
outside z e w = grind (arith, ints, w.0, w.1)

pub inside : (z : ℤ) → is_outside z ≡ false → IsWithin z
inside z e = (grind (arith, ints), grind (arith, ints))

not_inside : (z : ℤ) → (IsWithin z → ⊥) → is_outside z ≡ true
not_inside z out = true_from_ne_false (is_outside z) (λ e. out (inside z e))

grown_whole : (v : Value) → is_grown v ≡ true → (z : ℤ) × (v ≡ Whole z) × (IsWithin z → ⊥)
grown_whole (Whole z) e = (z, refl, outside z e)
grown_whole _ e = no_flag e

grown_cell : (o : Option Value) → is_grown_cell o ≡ true → (z : ℤ) × (o ≡ Some (Whole z)) × (IsWithin z → ⊥)
grown_cell Nothing e = no_flag e
grown_cell (Some v) e = let w = grown_whole v e in (w.0, ap (λ x. Some x) w.1, w.2)

in_range : (v : Value) → is_grown v ≡ false → IsInRange v
in_range (Whole z) e = inside z e
in_range _ e = tt

not_grown : (v : Value) → IsInRange v → is_grown v ≡ true → ⊥
not_grown (Whole z) r e = outside z e r
not_grown _ r e = no_flag e

-- the ticks after an instant
length-ticks : (row : Row) (ticked : List Bool) (k : ℕ) (cs : List (Option ℕ)) → length (ticks_from row ticked k cs) ≡ length cs
length-ticks row ticked k [] = refl
length-ticks row ticked k (c ∷ cs) = omega (arith, length-ticks row ticked (k + 1) cs)

tick_at : (row : Row) (ticked : List Bool) (k : ℕ) (cs : List (Option ℕ)) (j : ℕ) → j < length cs
    → get_or (ticks_from row ticked k cs) j false ≡ (get_or ticked (k + j) false || is_on_at row (get_or cs j Nothing))
tick_at row ticked k [] j lt = absurd (omega arith)
tick_at row ticked k (c ∷ cs) zero lt = ap (λ n. get_or ticked n false || is_on_at row c) (let e : k ≡ k + 0 = omega arith in e)
tick_at row ticked k (c ∷ cs) (suc j) lt =
    tick_at row ticked (k + 1) cs j (omega arith)
    ∙ ap (λ n. get_or ticked n false || is_on_at row (get_or cs j Nothing)) (let e : (k + 1) + j ≡ k + suc j = omega arith in e)

module _ (f : Flat) (now : State) (inputs : List Value) (row : Row) where
  -- the assertions that are false
  pub broken_places : (p : Option Place) → IsLeastOf (IsPicked (is_broken f now inputs row) (map (λ e. e.at.sites) f.assertions) (length f.assertions)) p
      → IsLeastOf (IsFlatBroken f now inputs row) p
  broken_places p least =
      least_same (IsPicked (is_broken f now inputs row) (map (λ e. e.at.sites) f.assertions) (length f.assertions)) (IsFlatBroken f now inputs row) p
      (λ q w. (w.0, w.1, sym w.3, of_not_true (is_true (value_at now inputs row (get_or (assertion_trees f) w.0 no_assertion))) w.2))
      (λ q w. (w.0, w.1, ap not w.3, sym w.2))
      least

  -- what the memories hold after it
  module _ (state : IsState f now) (kept : List Value) (are : IsKept f now inputs row (length f.memories) kept) where
    abbrev on : ℕ → Bool
    on m = is_on_at row (nth_item (memory_items f) m).clock

    abbrev taken : ℕ → Value
    taken m = value_at now inputs row (nth_item (memory_items f) m).body

    abbrev old : ℕ → Value
    old m = get_or now.kept m (Flag false)

    old_range : (m : ℕ) → m < length f.memories → IsInRange (old m)
    old_range m lt = state.kept.within m (omega (arith, state.kept.size, length-map f.memories (λ x. x.kind)))

    -- where an integer leaves the range
    to_grown : (q : Sites) → IsGrownAt f row kept q → IsGrown f now inputs row q
    to_grown q (inl w) = let g = grown_cell (nth row w.0) w.2 in flow w.0 g.0 w.1 g.1 g.2 w.3
    to_grown q (inr w) = chosen (on w.0) refl
      where
        chosen : (b : Bool) → on w.0 ≡ b → IsGrown f now inputs row q
        chosen true e =
            let is : get_or kept w.0 (Flag false) ≡ taken w.0 = are.holds w.0 w.1 ∙ ap (λ b. cond b (taken w.0) (old w.0)) e in
            let g = grown_whole (get_or kept w.0 (Flag false)) w.2 in
            memory w.0 g.0 w.1 e (sym is ∙ g.1) g.2 w.3
        chosen false e =
            let is : get_or kept w.0 (Flag false) ≡ old w.0 = are.holds w.0 w.1 ∙ ap (λ b. cond b (taken w.0) (old w.0)) e in
            absurd (not_grown (old w.0) (old_range w.0 w.1) (ap is_grown (sym is) ∙ w.2))

    from_grown : (q : Sites) → IsGrown f now inputs row q → IsGrownAt f row kept q
    from_grown q (flow k z lt is out at) = inl (k, lt, ap is_grown_cell is ∙ not_inside z out, at)
    from_grown q (memory m z lt here is out at) =
        inr (m, lt, ap is_grown (are.holds m lt ∙ ap (λ b. cond b (taken m) (old m)) here ∙ is) ∙ not_inside z out, at)

    pub grown_places : (p : Option Place) → IsLeastOf (IsGrownAt f row kept) p → IsLeastOf (IsGrown f now inputs row) p
    grown_places p least = least_same (IsGrownAt f row kept) (IsGrown f now inputs row) p to_grown from_grown least

    -- the state after it
    module _ (after : List Bool) (ticks : after ≡ ticks_from row now.ticked 0 (tick_clocks f)) where
      pub next : IsFlatNext f now inputs row (record { ticked = after; kept = kept })
      next = record {
        ticks = ap length ticks ∙ length-ticks row now.ticked 0 (tick_clocks f);
        ticked = λ k lt. ap (λ bs. get_or bs k false) ticks ∙ tick_at row now.ticked 0 (tick_clocks f) k lt
            ∙ ap (λ n. get_or now.ticked n false || is_on_at row (get_or (tick_clocks f) k Nothing)) (let e : 0 + k ≡ k = omega arith in e);
        memories = are.memories;
        kept = are.holds;
      }

      module _ (least : (q : Sites) → IsGrownAt f row kept q → ⊥) where
        kept_range : (m : ℕ) → m < length kept → IsInRange (get_or kept m (Flag false))
        kept_range m lt = in_range (get_or kept m (Flag false)) (false_from_ne_true (is_grown (get_or kept m (Flag false)))
            (λ e. least (get_or (memory_places f) m []) (inr (m, omega (arith, are.memories), e, refl))))

        abbrev fitting : Kind → Value → Type 0
        fitting j v = IsTrue (constant_fits (label_counts f) j v)

        kept_typed : AreTaken f now inputs row → (m : ℕ) (j : Kind) → m < length (memory_kinds f) → slice_get (memory_kinds f) m ≡ Some j
            → fitting j (get_or kept m (Flag false))
        kept_typed typed m j lt is =
            let less : m < length f.memories = omega (arith, length-map f.memories (λ x. x.kind)) in
            subst (fitting j) (sym (are.holds m less)) (chosen (on m) refl less)
          where
            chosen : (b : Bool) → on m ≡ b → m < length f.memories → fitting j (cond b (taken m) (old m))
            chosen true e less = typed m j less is e
            chosen false e less = state.kept.typed m j lt is

        pub next_state : AreTaken f now inputs row → IsState f (record { ticked = after; kept = kept })
        next_state typed = record {
          ticks = next.ticks;
          kept = record { size = are.memories ∙ sym (length-map f.memories (λ x. x.kind)); typed = kept_typed typed; within = kept_range };
        }
