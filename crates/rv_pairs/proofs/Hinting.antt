-- Where hints show a bound, and where they do not.
use Rattle.std.proofs.Common.{◌≡◌, ◌↔◌, ◌⊎◌, ℕ, zero, suc, ◌+◌, ◌≤◌, ◌^◌, ℤ, pos, ◌-ℤ◌, ◌≤ℤ◌, ◌<ℤ◌, Bool, true, false, cond, ◌&&◌, IsTrue, List, [], ◌∷◌}
use Rattle.std.proofs.Common.{◌++◌, take, Some, slice_get}
use Rattle.std.proofs.Common.{arith, refl, sym, ◌∙◌, subst, inl, inr}
use Rattle.std.proofs.{lemmas.Int.ints, lemmas.Int.by_lt_z, lemmas.Bool.false≢true, lemmas.Bool.and_parts, lemmas.Bool.and_from}
use Rattle.std.specs.{Prelude.MatchBool, Int.RustNames.unsigned_abs}
use Rattle.rv_rows.specs.{declared.linear.Form.Form}
use Rattle.rv_base.proofs.Lists.{take_push}
use Rattle.rv_diagram.specs.{declared.Triple.Triple, Nodes.Valuation, Nodes.Diagrams, Nodes.IsRef, Nodes.value_of, Growing.Extends}
use Rattle.rv_pairs.specs.{declared.hints.Hint.Hint, declared.labels.Labelled.Labelled, Risen.ShowForm}
use Rattle.rv_pairs.specs.Hints.{AreHints, IsHintAt, IsHinted, AreHintsOf, HintsHold}
use Rattle.rv_pairs.proofs.{Pairing.hinted_push, Pairing.hinted_none, Pairing.hinted_stays, Pairing.hint_kept}

-- one hint that shows the bound, and one that does not
module _ (nodes : List Triple) (v : Valuation) (z : ℤ) (h : Hint) where
  pub hint_out : (r out n rest a b : Bool) → value_of nodes h.one v ≡ a → value_of nodes h.other v ≡ b → r ≡ cond a out rest → out ≡ cond b n rest
      → n ≡ false → h.bound ≤ℤ z → (r ≡ true) ↔ ((rest ≡ true) × ¬ IsHintAt nodes v z h)
  hint_out r out n rest true true one other is outside never l = (
    λ on. let bad : false ≡ true = sym (is ∙ outside ∙ never) ∙ on in cc,
    λ (here, none). absurd (none (record { one = one; other = other; low = l })),
  )
  hint_out r out n rest true false one other is outside never l = (
    λ on. (sym (is ∙ outside) ∙ on, λ s. false≢true (sym other ∙ s.other)),
    λ (here, none). is ∙ outside ∙ here,
  )
  hint_out r out n rest false b one other is outside never l = (
    λ on. (sym is ∙ on, λ s. false≢true (sym one ∙ s.one)),
    λ (here, none). is ∙ here,
  )

  pub hint_still : (b : Bool) → z <ℤ h.bound → (b ≡ true) ↔ ((b ≡ true) × ¬ IsHintAt nodes v z h)
  hint_still b l = (λ on. (on, λ s. apart h.bound z l s.low), λ (on, none). on)
    where
      apart : (x y : ℤ) → y <ℤ x → x ≤ℤ y → ⊥
      apart x y l m = omega (arith, ints)

-- the next hint
pub left_first : (nodes : List Triple) (hints : List Hint) (v : Valuation) (z : ℤ) (A : Type 0) → A ↔ (A × ¬ IsHinted nodes (take 0 hints) v z)
left_first nodes hints v z A = (λ a. (a, hinted_none nodes (take 0 hints) v z refl), λ (a, none). a)

pub left_next : (nodes : List Triple) (hints : List Hint) (n : ℕ) (h : Hint) (v : Valuation) (z : ℤ) (A B C : Type 0) → slice_get hints n ≡ Some h
    → B ↔ (A × ¬ IsHinted nodes (take n hints) v z) → C ↔ (B × ¬ IsHintAt nodes v z h)
    → C ↔ (A × ¬ IsHinted nodes (take (n + 1) hints) v z)
left_next nodes hints n h v z A B C at one two = (to, from)
  where
    more : take n hints ++ h ∷ [] ≡ take (n + 1) hints
    more = take_push hints (take n hints) n h refl at

    to : C → A × ¬ IsHinted nodes (take (n + 1) hints) v z
    to c =
        let (b, last) = two.0 c in
        let (a, none) = one.0 b in
        (a, λ s. neither none last ((hinted_push nodes (take n hints) h v z).0 (subst (λ (hs : List Hint). IsHinted nodes hs v z) (sym more) s)))
      where
        neither : ¬ IsHinted nodes (take n hints) v z → ¬ IsHintAt nodes v z h
            → IsHinted nodes (take n hints) v z ⊎ IsHintAt nodes v z h → ⊥
        neither none last (inl s) = none s
        neither none last (inr s) = last s

    from : A × ¬ IsHinted nodes (take (n + 1) hints) v z → C
    from (a, none) = two.1 (
      one.1 (a, λ s. none (subst (λ (hs : List Hint). IsHinted nodes hs v z) more ((hinted_push nodes (take n hints) h v z).1 (inl s)))),
      λ s. none (subst (λ (hs : List Hint). IsHinted nodes hs v z) more ((hinted_push nodes (take n hints) h v z).1 (inr s))),
    )

pub left_kept : (old new : Diagrams) (h : Hint) (v : Valuation) (z : ℤ) → Extends old new → IsRef old.nodes h.one → IsRef old.nodes h.other → (B C : Type 0)
    → C ↔ (B × ¬ IsHintAt new.nodes v z h) → C ↔ (B × ¬ IsHintAt old.nodes v z h)
left_kept old new h v z e one other B C s = (
  λ c. let (b, none) = s.0 c in (b, λ k. none ((hint_kept old new h v z e one other).1 k)),
  λ (b, none). s.1 (b, λ k. none ((hint_kept old new h v z e one other).0 k)),
)

-- whether they show it
bool_decided : (b : Bool) → (b ≡ true) ⊎ ((b ≡ true) → ⊥)
bool_decided true = inl refl
bool_decided false = inr (λ e. false≢true e)

bound_decided : (x z : ℤ) → (x ≤ℤ z) ⊎ (x ≤ℤ z → ⊥)
bound_decided x z = by_lt_z z x (λ (l : z <ℤ x). inr (apart x z l)) (λ (l : x ≤ℤ z). inl l)
  where
    apart : (x z : ℤ) → z <ℤ x → x ≤ℤ z → ⊥
    apart x z l m = omega (arith, ints)

hint_decided : (nodes : List Triple) (v : Valuation) (z : ℤ) (h : Hint) → IsHintAt nodes v z h ⊎ (IsHintAt nodes v z h → ⊥)
hint_decided nodes v z h = go (bool_decided (value_of nodes h.one v)) (bool_decided (value_of nodes h.other v)) (bound_decided h.bound z)
  where
    go : (value_of nodes h.one v ≡ true) ⊎ ((value_of nodes h.one v ≡ true) → ⊥) → (value_of nodes h.other v ≡ true) ⊎ ((value_of nodes h.other v ≡ true) → ⊥)
        → (h.bound ≤ℤ z) ⊎ (h.bound ≤ℤ z → ⊥) → IsHintAt nodes v z h ⊎ (IsHintAt nodes v z h → ⊥)
    go (inl a) (inl b) (inl l) = inl (record { one = a; other = b; low = l })
    go (inr a) b l = inr (λ s. a s.one)
    go (inl a) (inr b) l = inr (λ s. b s.other)
    go (inl a) (inl b) (inr l) = inr (λ s. l s.low)

pub hinted_decided : (nodes : List Triple) (hints : List Hint) (v : Valuation) (z : ℤ) → IsHinted nodes hints v z ⊎ (IsHinted nodes hints v z → ⊥)
hinted_decided nodes [] v z = inr (hinted_none nodes [] v z refl)
hinted_decided nodes (h ∷ hints) v z = go (hint_decided nodes v z h) (hinted_decided nodes hints v z)
  where
    none : (IsHintAt nodes v z h → ⊥) → (IsHinted nodes hints v z → ⊥) → IsHinted nodes (h ∷ hints) v z → ⊥
    none a b (x, (zero, low, e), s) = a (subst (IsHintAt nodes v z) (sym e) s)
    none a b (x, (suc i, low, e), s) = b (x, (i, omega (arith, low), e), s)

    go : IsHintAt nodes v z h ⊎ (IsHintAt nodes v z h → ⊥) → IsHinted nodes hints v z ⊎ (IsHinted nodes hints v z → ⊥)
        → IsHinted nodes (h ∷ hints) v z ⊎ (IsHinted nodes (h ∷ hints) v z → ⊥)
    go a (inl (x, (i, low, e), s)) = inl (x, (suc i, omega (arith, low), e), s)
    go (inl s) (inr c) = inl (h, (0, omega arith, refl), s)
    go (inr a) (inr c) = inr (none a c)

pub hold_where : (old new : List Triple) (inside rest : ℕ) (hints : List Hint) (constant room z : ℤ) (yes : Bool) → room ≡ z -ℤ constant
    → IsTrue yes ↔ ((v : Valuation) → value_of new rest v ≡ false)
    → ((v : Valuation) → (value_of new rest v ≡ true) ↔ ((value_of old inside v ≡ true) × ¬ IsHinted old hints v room))
    → MatchBool yes (HintsHold old inside hints constant z) (¬ HintsHold old inside hints constant z)
hold_where old new inside rest hints constant room z true is none exact = λ v on.
    subst (IsHinted old hints v) is (go v on (none.0 refl v) (hinted_decided old hints v room))
  where
    go : (v : Valuation) → value_of old inside v ≡ true → value_of new rest v ≡ false → IsHinted old hints v room ⊎ (IsHinted old hints v room → ⊥)
        → IsHinted old hints v room
    go v on off (inl s) = s
    go v on off (inr never) = let bad : false ≡ true = sym off ∙ (exact v).1 (on, never) in cc
hold_where old new inside rest hints constant room z false is none exact = λ all.
    let bad : false ≡ true = none.1 (λ v. go v all (bool_decided (value_of new rest v))) in cc
  where
    off : (b : Bool) → (b ≡ true → ⊥) → b ≡ false
    off true never = absurd (never refl)
    off false never = refl

    go : (v : Valuation) → HintsHold old inside hints constant z → (value_of new rest v ≡ true) ⊎ ((value_of new rest v ≡ true) → ⊥)
        → value_of new rest v ≡ false
    go v all (inl on) = let (here, never) = (exact v).0 on in absurd (never (subst (IsHinted old hints v) (sym is) (all v here)))
    go v all (inr never) = off (value_of new rest v) never

-- a greater bound is shown too
pub hinted_up : (nodes : List Triple) (hints : List Hint) (v : Valuation) (a b : ℤ) → a ≤ℤ b → IsHinted nodes hints v a → IsHinted nodes hints v b
hinted_up nodes hints v a b l (h, has, s) = (h, has, record { one = s.one; other = s.other; low = go h.bound a b s.low l })
  where
    go : (x a b : ℤ) → x ≤ℤ a → a ≤ℤ b → x ≤ℤ b
    go x a b m l = omega (arith, ints)

pub hold_up : (nodes : List Triple) (inside : ℕ) (hints : List Hint) (constant a b : ℤ) → a ≤ℤ b → HintsHold nodes inside hints constant a
    → HintsHold nodes inside hints constant b
hold_up nodes inside hints constant a b l h v on = hinted_up nodes hints v (a -ℤ constant) (b -ℤ constant) (go a b constant l) (h v on)
  where
    go : (a b c : ℤ) → a ≤ℤ b → (a -ℤ c) ≤ℤ (b -ℤ c)
    go a b c l = omega (arith, ints)

-- in a store that has grown
pub hold_later : (old new : Diagrams) (inside : ℕ) (hints : List Hint) (constant z : ℤ) → Extends old new → AreHints old.nodes hints → IsRef old.nodes inside
    → HintsHold old.nodes inside hints constant z → HintsHold new.nodes inside hints constant z
hold_later old new inside hints constant z e are found h v on =
    (hinted_stays old new hints v (z -ℤ constant) e are).1 (h v (sym (e.kept inside (omega (arith, found)) v) ∙ on))

pub hold_moves : (old new : Diagrams) (inside : ℕ) (hints : List Hint) (constant z : ℤ) → Extends old new → AreHints old.nodes hints → IsRef old.nodes inside
    → HintsHold new.nodes inside hints constant z → HintsHold old.nodes inside hints constant z
hold_moves old new inside hints constant z e are found h v on =
    (hinted_stays old new hints v (z -ℤ constant) e are).0 (h v (e.kept inside (omega (arith, found)) v ∙ on))

-- no bound of a threshold's size is above the highest
pub hold_highest : (nodes : List Triple) (inside : ℕ) (hints : List Hint) (constant b : ℤ) → unsigned_abs b ≤ 2 ^ 41 → HintsHold nodes inside hints constant b
    → HintsHold nodes inside hints constant (pos 2199023255552)
hold_highest nodes inside hints constant b l h = hold_up nodes inside hints constant b (pos 2199023255552) (omega (arith, ints, l)) h

-- what the hints of a form show, in a later store where one reference is true where both are
module _ (old new : Diagrams) (labels : List Labelled) (form : Form) (hints : List Hint) (taken path inside : ℕ) (e : Extends old new)
    (are : AreHints old.nodes hints) (exact : AreHintsOf old.nodes labels form.coefficients hints)
    (both : (v : Valuation) → value_of new.nodes inside v ≡ (value_of old.nodes taken v && value_of old.nodes path v)) where
  pub hold_shows : (z : ℤ) → HintsHold new.nodes inside hints form.constant z → ShowForm old.nodes labels taken path form z
  hold_shows z h v there on = (exact v (z -ℤ form.constant)).1 ((hinted_stays old new hints v (z -ℤ form.constant) e are).0
      (h v (both v ∙ and_from (value_of old.nodes taken v) (value_of old.nodes path v) there on)))

  pub shows_hold : (z : ℤ) → ShowForm old.nodes labels taken path form z → HintsHold new.nodes inside hints form.constant z
  shows_hold z h v on =
      let parts : (value_of old.nodes taken v ≡ true) × (value_of old.nodes path v ≡ true) =
      and_parts (value_of old.nodes taken v) (value_of old.nodes path v) (sym (both v) ∙ on) in
      (hinted_stays old new hints v (z -ℤ form.constant) e are).1 ((exact v (z -ℤ form.constant)).0 (h v parts.0 parts.1))
