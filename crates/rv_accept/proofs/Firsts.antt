-- Which reason is the first.
use Rattle.std.proofs.Common.{ℕ, zero, suc, ◌+◌, ◌-◌, ◌<◌, ◌≡◌, Bool, List, [], ◌∷◌, ◌++◌, length, refl, sym, ap, ◌∙◌, subst, ⊎_elim, arith, Some}
use Rattle.std.proofs.Common.{slice_get}
use Rattle.std.proofs.{lemmas.Option.same_Some, lemmas.Option.slice_get_within, lemmas.Option.get_or_from_slice_get, lemmas.List.Elements.All-get_or}
use Rattle.rv_diagram.specs.Nodes.{Valuation, valuation_of, ComesBefore}
use Rattle.rv_rows.specs.{declared.linear.Row.Row, declared.farkas.Multipliers.Multipliers}
use Rattle.rv_proofs.specs.Accepted.{AreProved, IsIncluded, IsInitial, IsCovered, IsObserved, Leads, AreImplied, IsEntry, IsStepKind, IsAccepted}
use Rattle.rv_proofs.specs.Verdicts.{LacksInitial, IsUncovered, IsUnobserved, IsTarget, LeadsElsewhere, IsUnproved, IsNotIncluded, Fails, place, word_of}
use Rattle.rv_proofs.specs.Verdicts.{IsFirst}
use Rattle.rv_proofs.specs.{Systems.System, Scopes.IsIn, Scopes.IsInScope, Scopes.IsSettled, Scopes.Implication, Scopes.implications, Implied.IsImplied}
use Rattle.rv_proofs.specs.{Ranges.IsInRange, declared.certificate.Certificate.Certificate, declared.certificate.Location.Location}
use Rattle.rv_proofs.specs.{declared.certificate.Entry.Entry, declared.certificate.EntryKind.EntryKind, declared.certificate.EntryKind.TheVariants.Dead}
use Rattle.rv_proofs.specs.{declared.certificate.EntryKind.TheVariants.Go, declared.certificate.EntryKind.TheVariants.Loop, declared.verdict.Reason.Reason}
use Rattle.rv_proofs.specs.declared.verdict.Reason.TheVariants as reason
use Rattle.rv_accept.specs.{Steps.IsLeastWord, Passing.NoneBefore, Passing.Passes, Passing.AllPass}
use Rattle.rv_accept.proofs.Order.{split_next, split_first, never_self, is_initial, is_inclusion, is_uncovered, is_unsettled, is_observer, is_target}
use Rattle.rv_accept.proofs.Order.{is_multipliers, some_inclusion, not_top, not_location, not_rows, not_entries, not_entry, not_implications, nth, apart}
use Rattle.rv_base.proofs.Truths.{clash}

-- WHAT PASSES DOES NOT FAIL

pub no_row : (given wanted : List Row) (by : List Multipliers) (n : ℕ) → AreProved given wanted by → IsUnproved given wanted by n → ⊥
no_row given wanted by n all u = let (m, at, p) = all n u.row u.at in u.fails m at p

pub no_inclusion : (l : Location) (n : ℕ) → IsIncluded l → IsNotIncluded l n → ⊥
no_inclusion l n all u = ⊎_elim (λ a. no_row l.entry l.state l.by_entry n all.entry a) (λ (loop, low, b). no_row l.first l.state l.by_first
    (n - length l.state) (all.first loop) b) u

module _ (s : System) (c : Certificate) (l : Location) (e : Entry) where
  pub no_observer : (w : List Bool) → (IsStepKind e.kind → IsObserved s l e) → IsUnobserved s l e w → ⊥
  no_observer w all u = clash (s.observer (valuation_of w)) (all u.step (valuation_of w) u.scope) u.fails

  leads_there : (kind : EntryKind) (into : Location) (v : Valuation) → Leads s c l e kind → IsTarget c l kind into → IsInScope s l e v
      → ¬ IsIn into.control (s.next v) → ⊥
  leads_there (Dead by) into v leads is scope n = is
  leads_there (Go target reach) into v (t, at, leads) is scope n = n (subst (λ (x : Location). IsIn x.control (s.next v)) (same_Some t into (sym at
      ∙ is)) (leads v scope))
  leads_there (Loop a b f g) into v leads is scope n = n (subst (λ (x : Location). IsIn x.control (s.next v)) (sym is) (leads v scope))

  pub no_target : (w : List Bool) → Leads s c l e e.kind → LeadsElsewhere s c l e w → ⊥
  no_target w leads u = leads_there e.kind u.into (valuation_of w) leads u.target u.scope u.elsewhere

  pub no_implication : (n : ℕ) (i : Implication) → AreImplied s c l e → slice_get (implications c l e.kind) n ≡ Some i → IsImplied s l e i
  no_implication n i all at = subst (IsImplied s l e) (get_or_from_slice_get (implications c l e.kind) n i i at) (All-get_or (IsImplied s l e)
      (implications c l e.kind) n i (slice_get_within (implications c l e.kind) n i at) all)

module _ (s : System) (c : Certificate) where
  before_next : (pre : List ℕ) (n : ℕ) → NoneBefore s c (pre ++ n ∷ []) → ((q : Reason) (rest : List ℕ) → place q ≡ pre ++ n ∷ rest → Fails s c q → ⊥)
      → NoneBefore s c (pre ++ (n + 1) ∷ [])
  before_next pre n none here q fails b = ⊎_elim (λ earlier. none q fails earlier) (λ (rest, e). here q rest e fails) (split_next pre n (place q) b)

  before_first : (pre : List ℕ) → NoneBefore s c pre → ((q : Reason) → place q ≡ pre → ⊥) → NoneBefore s c (pre ++ 0 ∷ [])
  before_first pre none here q fails b = ⊎_elim (λ earlier. none q fails earlier) (λ e. here q e) (split_first pre (place q) b)

  walk : (pre : List ℕ) (n : ℕ) → NoneBefore s c (pre ++ 0 ∷ []) → ((m : ℕ) → m < n → (q : Reason) (rest : List ℕ) → place q ≡ pre ++ m ∷ rest
      → Fails s c q → ⊥) → NoneBefore s c (pre ++ n ∷ [])
  walk pre zero none here = none
  walk pre (suc n) none here = let e : n + 1 ≡ suc n = omega arith in
      subst (λ k. NoneBefore s c (pre ++ k ∷ [])) e (before_next pre n (walk pre n none (λ m low. here m (omega (arith, low)))) (here n (omega arith)))

  -- THE FIRST LEVEL

  none_at_start : NoneBefore s c (0 ∷ [])
  none_at_start (reason.NoInitial w) fails b = ⊎_elim (λ less. absurd (omega (arith, less))) (λ (e, z). z) b
  none_at_start (reason.Inclusion k n) fails b = ⊎_elim (λ less. absurd (omega (arith, less))) (λ (e, z). z) b
  none_at_start (reason.Uncovered k w) fails b = ⊎_elim (λ less. absurd (omega (arith, less))) (λ (e, z). z) b
  none_at_start (reason.Unsettled k j) fails b = ⊎_elim (λ less. absurd (omega (arith, less))) (λ (e, z). z) b
  none_at_start (reason.Observer k j w) fails b = ⊎_elim (λ less. absurd (omega (arith, less))) (λ (e, z). z) b
  none_at_start (reason.Target k j w) fails b = ⊎_elim (λ less. absurd (omega (arith, less))) (λ (e, z). z) b
  none_at_start (reason.Multipliers k j n) fails b = ⊎_elim (λ less. absurd (omega (arith, less))) (λ (e, z). z) b

  pub first_initial : (w : List Bool) → IsLeastWord (LacksInitial s c) w → IsFirst s c (reason.NoInitial w)
  first_initial w l = record { fails = l.is_so; earlier = none_at_start; least = least }
    where
      least : (q : Reason) → Fails s c q → place q ≡ 0 ∷ [] → ¬ ComesBefore (valuation_of (word_of q)) (valuation_of w)
      least q fails e b = let (u, is) = is_initial q [] e in
          l.least u (subst (λ x. Fails s c x) is fails) (subst (λ x. ComesBefore (valuation_of (word_of x)) (valuation_of w)) is b)

  -- a location that passes has no reason
  none_in_location : (k : ℕ) (l : Location) → slice_get c.locations k ≡ Some l → AllPass s c l → (q : Reason) (rest : List ℕ) → place q ≡ 1 ∷ k ∷ rest
      → Fails s c q → ⊥
  none_in_location k l at all (reason.NoInitial w) rest e f = apart 0 _ _ e refl
  none_in_location k l at all (reason.Inclusion k' n) rest e (m, at', u) =
      no_inclusion l n all.included (subst (λ x. IsNotIncluded x n) (same_Some m l (sym at' ∙ ap (λ z. slice_get c.locations z) (nth 1 _ _ e) ∙ at)) u)
  none_in_location k l at all (reason.Uncovered k' w) rest e (m, at', u) =
      let g : IsUncovered s l w = subst (λ x. IsUncovered s x w) (same_Some m l (sym at' ∙ ap (λ z. slice_get c.locations z) (nth 1 _ _ e) ∙ at)) u in
      let (j, x, there, h) = all.covered (valuation_of w) g.allowed g.control in g.nowhere j x there h
  none_in_location k l at all (reason.Unsettled k' j) rest e (m, x, is, u) =
      let same : m ≡ l = same_Some m l (sym is.location ∙ ap (λ z. slice_get c.locations z) (nth 1 _ _ e) ∙ at) in
      subst (λ y. ¬ IsSettled s c y x) same u (all.entries j x (subst (λ (y : Location). slice_get y.entries j ≡ Some x) same is.entry)).settled
  none_in_location k l at all (reason.Observer k' j w) rest e (m, x, is, u) =
      let same : m ≡ l = same_Some m l (sym is.location ∙ ap (λ z. slice_get c.locations z) (nth 1 _ _ e) ∙ at) in
      no_observer s c l x w (all.entries j x (subst (λ (y : Location). slice_get y.entries j ≡ Some x) same is.entry)).observed (subst
      (λ y. IsUnobserved s y x w) same u)
  none_in_location k l at all (reason.Target k' j w) rest e (m, x, is, u) =
      let same : m ≡ l = same_Some m l (sym is.location ∙ ap (λ z. slice_get c.locations z) (nth 1 _ _ e) ∙ at) in
      no_target s c l x w (all.entries j x (subst (λ (y : Location). slice_get y.entries j ≡ Some x) same is.entry)).leads (subst
      (λ y. LeadsElsewhere s c y x w) same u)
  none_in_location k l at all (reason.Multipliers k' j n) rest e (m, x, i, is, there, u) =
      let same : m ≡ l = same_Some m l (sym is.location ∙ ap (λ z. slice_get c.locations z) (nth 1 _ _ e) ∙ at) in
      subst (λ y. ¬ IsImplied s y x i) same u
      (no_implication s c l x n i (all.entries j x (subst (λ (y : Location). slice_get y.entries j ≡ Some x) same is.entry)).implied (subst (λ
      (y : Location). slice_get (implications c y x.kind) n ≡ Some i) same there))

  -- before a location, where the initial states and the earlier locations pass
  pub before_location : (k : ℕ) → IsInitial s c → ((m : ℕ) (l : Location) → m < k → slice_get c.locations m ≡ Some l → AllPass s c l)
      → NoneBefore s c (1 ∷ k ∷ [])
  before_location k starts pass = walk (1 ∷ []) k (before_first (1 ∷ []) (before_next [] 0 none_at_start lacks) (λ q e. not_top q e)) there
    where
      lacks : (q : Reason) (rest : List ℕ) → place q ≡ 0 ∷ rest → Fails s c q → ⊥
      lacks q rest e f = let (w, is) = is_initial q rest e in
          let g : LacksInitial s c w = subst (λ x. Fails s c x) is f in
          let (k', l, at, em, h) = starts (valuation_of w) g.initial in g.nowhere k' l at em h

      location_of : (q : Reason) (m : ℕ) (rest : List ℕ) → place q ≡ 1 ∷ m ∷ rest → Fails s c q → (l : Location) × (slice_get c.locations m ≡ Some l)
      location_of (reason.NoInitial w) m rest e f = absurd (apart 0 _ _ e refl)
      location_of (reason.Inclusion k' n) m rest e (l, at, u) = (l, ap (λ z. slice_get c.locations z) (sym (nth 1 _ _ e)) ∙ at)
      location_of (reason.Uncovered k' w) m rest e (l, at, u) = (l, ap (λ z. slice_get c.locations z) (sym (nth 1 _ _ e)) ∙ at)
      location_of (reason.Unsettled k' j) m rest e (l, x, is, u) = (l, ap (λ z. slice_get c.locations z) (sym (nth 1 _ _ e)) ∙ is.location)
      location_of (reason.Observer k' j w) m rest e (l, x, is, u) = (l, ap (λ z. slice_get c.locations z) (sym (nth 1 _ _ e)) ∙ is.location)
      location_of (reason.Target k' j w) m rest e (l, x, is, u) = (l, ap (λ z. slice_get c.locations z) (sym (nth 1 _ _ e)) ∙ is.location)
      location_of (reason.Multipliers k' j n) m rest e (l, x, i, is, there', u) = (l, ap (λ z. slice_get c.locations z) (sym (nth 1 _ _ e)) ∙ is.location)

      there : (m : ℕ) → m < k → (q : Reason) (rest : List ℕ) → place q ≡ 1 ∷ m ∷ rest → Fails s c q → ⊥
      there m low q rest e f = let (l, at) = location_of q m rest e f in none_in_location m l at (pass m l low at) q rest e f

  pub accepted_of : IsInRange s c → IsInitial s c → ((k : ℕ) (l : Location) → slice_get c.locations k ≡ Some l → AllPass s c l) → IsAccepted s c
  accepted_of range starts pass = record {
    partition = record {
      in_range = range;
      initial = starts;
      included = λ k l at. (pass k l at).included;
      covered = λ k l at. (pass k l at).covered;
      settled = λ k j l e is. ((pass k l is.location).entries j e is.entry).settled;
      leads = λ k j l e is. ((pass k l is.location).entries j e is.entry).leads;
      steps = λ k j l e is step. ((pass k l is.location).entries j e is.entry).implied;
    };
    observed = λ k j l e is. ((pass k l is.location).entries j e is.entry).observed;
    dead = λ k j l e is d. ((pass k l is.location).entries j e is.entry).implied;
  }

  -- A LOCATION

  module _ (k : ℕ) (l : Location) (at : slice_get c.locations k ≡ Some l) (before : NoneBefore s c (1 ∷ k ∷ [])) where
    moved : (P : Location → Type 0) (m : Location) → slice_get c.locations k ≡ Some m → P m → P l
    moved P m at' p = subst P (same_Some m l (sym at' ∙ at)) p

    before_rows : NoneBefore s c (1 ∷ k ∷ 0 ∷ [])
    before_rows = before_first (1 ∷ k ∷ []) before (λ q e. not_location q k e)

    pub first_inclusion : (n : ℕ) → IsNotIncluded l n → ((m : ℕ) → m < n → ¬ IsNotIncluded l m) → IsFirst s c (reason.Inclusion k n)
    first_inclusion n fails first = record {
      fails = (l, at, fails);
      earlier = walk (1 ∷ k ∷ 0 ∷ []) n (before_first (1 ∷ k ∷ 0 ∷ []) before_rows (λ q e. not_rows q k e))
          (λ m low q rest e f. let (m', at', u) = subst (λ x. Fails s c x) (is_inclusion q k m rest e) f in first m low (moved
          (λ x. IsNotIncluded x m) m' at' u));
      least = λ q f e b. never_self (valuation_of []) (subst (λ x. ComesBefore (valuation_of (word_of x)) (valuation_of [])) (is_inclusion q k n [] e) b);
    }

    before_cover : IsIncluded l → NoneBefore s c (1 ∷ k ∷ 1 ∷ [])
    before_cover all = before_next (1 ∷ k ∷ []) 0 before_rows (λ q rest e f. let (n, is) = some_inclusion q k rest e in
        let (m, at', u) = subst (λ x. Fails s c x) is f in no_inclusion l n all (moved (λ x. IsNotIncluded x n) m at' u))

    pub first_uncovered : (w : List Bool) → IsIncluded l → IsLeastWord (IsUncovered s l) w → IsFirst s c (reason.Uncovered k w)
    first_uncovered w all u = record {
      fails = (l, at, u.is_so);
      earlier = before_cover all;
      least = λ q f e b. let (w', is) = is_uncovered q k [] e in
          let (m, at', g) = subst (λ x. Fails s c x) is f in
          u.least w' (moved (λ x. IsUncovered s x w') m at' g) (subst (λ x. ComesBefore (valuation_of (word_of x)) (valuation_of w)) is b);
    }

    -- before an entry, where the rows, the cover and the earlier entries pass
    pub before_entry : (j : ℕ) → IsIncluded l → IsCovered s l → ((i : ℕ) (e : Entry) → i < j → slice_get l.entries i ≡ Some e → Passes s c l e)
        → NoneBefore s c (1 ∷ k ∷ 2 ∷ j ∷ [])
    before_entry j all covers pass = walk (1 ∷ k ∷ 2 ∷ []) j (before_first (1 ∷ k ∷ 2 ∷ []) (before_next (1 ∷ k ∷ []) 1 (before_cover all) cover)
        (λ q e. not_entries q k e)) there
      where
        cover : (q : Reason) (rest : List ℕ) → place q ≡ 1 ∷ k ∷ 1 ∷ rest → Fails s c q → ⊥
        cover q rest e f = let (w, is) = is_uncovered q k rest e in
            let (m, at', u) = subst (λ x. Fails s c x) is f in
            let g : IsUncovered s l w = moved (λ x. IsUncovered s x w) m at' u in
            let (i, x, there', h) = covers (valuation_of w) g.allowed g.control in g.nowhere i x there' h

        there : (i : ℕ) → i < j → (q : Reason) (rest : List ℕ) → place q ≡ 1 ∷ k ∷ 2 ∷ i ∷ rest → Fails s c q → ⊥
        there i low (reason.NoInitial w) rest e f = apart 0 _ _ e refl
        there i low (reason.Inclusion k' n) rest e f = apart 2 _ _ e refl
        there i low (reason.Uncovered k' w) rest e f = apart 2 _ _ e refl
        there i low (reason.Unsettled k' j') rest e (m, x, is, u) =
            let same : m ≡ l = same_Some m l (sym is.location ∙ ap (λ z. slice_get c.locations z) (nth 1 _ _ e) ∙ at) in
            let here : slice_get l.entries i ≡ Some x = ap (λ z. slice_get l.entries z) (sym (nth 3 _ _ e))
            ∙ subst (λ (y : Location). slice_get y.entries j' ≡ Some x) same is.entry in
            subst (λ y. ¬ IsSettled s c y x) same u (pass i x low here).settled
        there i low (reason.Observer k' j' w) rest e (m, x, is, u) =
            let same : m ≡ l = same_Some m l (sym is.location ∙ ap (λ z. slice_get c.locations z) (nth 1 _ _ e) ∙ at) in
            let here : slice_get l.entries i ≡ Some x = ap (λ z. slice_get l.entries z) (sym (nth 3 _ _ e))
            ∙ subst (λ (y : Location). slice_get y.entries j' ≡ Some x) same is.entry in
            no_observer s c l x w (pass i x low here).observed (subst (λ y. IsUnobserved s y x w) same u)
        there i low (reason.Target k' j' w) rest e (m, x, is, u) =
            let same : m ≡ l = same_Some m l (sym is.location ∙ ap (λ z. slice_get c.locations z) (nth 1 _ _ e) ∙ at) in
            let here : slice_get l.entries i ≡ Some x = ap (λ z. slice_get l.entries z) (sym (nth 3 _ _ e))
            ∙ subst (λ (y : Location). slice_get y.entries j' ≡ Some x) same is.entry in
            no_target s c l x w (pass i x low here).leads (subst (λ y. LeadsElsewhere s c y x w) same u)
        there i low (reason.Multipliers k' j' n) rest e (m, x, p, is, there', u) =
            let same : m ≡ l = same_Some m l (sym is.location ∙ ap (λ z. slice_get c.locations z) (nth 1 _ _ e) ∙ at) in
            let here : slice_get l.entries i ≡ Some x = ap (λ z. slice_get l.entries z) (sym (nth 3 _ _ e))
            ∙ subst (λ (y : Location). slice_get y.entries j' ≡ Some x) same is.entry in
            subst (λ y. ¬ IsImplied s y x p) same u (no_implication s c l x n p (pass i x low here).implied (subst (λ (y : Location). slice_get
            (implications c y x.kind) n ≡ Some p) same there'))

  -- AN ENTRY

  module _ (k j : ℕ) (l : Location) (e : Entry) (is : IsEntry c k j l e) (before : NoneBefore s c (1 ∷ k ∷ 2 ∷ j ∷ [])) where
    same : (P : Location → Entry → Type 0) (m : Location) (x : Entry) → IsEntry c k j m x → P m x → P l e
    same P m x other p =
        let a : m ≡ l = same_Some m l (sym other.location ∙ is.location) in
        let b : x ≡ e = same_Some x e (sym (subst (λ (y : Location). slice_get y.entries j ≡ Some x) a other.entry) ∙ is.entry) in
        subst (λ y. P l y) b (subst (λ y. P y x) a p)

    before_settled : NoneBefore s c (1 ∷ k ∷ 2 ∷ j ∷ 0 ∷ [])
    before_settled = before_first (1 ∷ k ∷ 2 ∷ j ∷ []) before (λ q e'. not_entry q k j e')

    pub first_unsettled : ¬ IsSettled s c l e → IsFirst s c (reason.Unsettled k j)
    first_unsettled n = record {
      fails = (l, e, is, n);
      earlier = before_settled;
      least = λ q f e' b. never_self (valuation_of []) (subst (λ x. ComesBefore (valuation_of (word_of x)) (valuation_of [])) (is_unsettled q k j [] e') b);
    }

    before_observer : IsSettled s c l e → NoneBefore s c (1 ∷ k ∷ 2 ∷ j ∷ 1 ∷ [])
    before_observer settled = before_next (1 ∷ k ∷ 2 ∷ j ∷ []) 0 before_settled (λ q rest e' f. let (m, x, there, u) = subst (λ y. Fails s c y)
        (is_unsettled q k j rest e') f in
        same (λ y z. ¬ IsSettled s c y z) m x there u settled)

    pub first_observer : (w : List Bool) → IsSettled s c l e → IsLeastWord (IsUnobserved s l e) w → IsFirst s c (reason.Observer k j w)
    first_observer w settled u = record {
      fails = (l, e, is, u.is_so);
      earlier = before_observer settled;
      least = λ q f e' b. let (w', eq) = is_observer q k j [] e' in
          let (m, x, there, g) = subst (λ y. Fails s c y) eq f in
          u.least w' (same (λ y z. IsUnobserved s y z w') m x there g) (subst (λ y. ComesBefore (valuation_of (word_of y)) (valuation_of w)) eq b);
    }

    before_target : IsSettled s c l e → (IsStepKind e.kind → IsObserved s l e) → NoneBefore s c (1 ∷ k ∷ 2 ∷ j ∷ 2 ∷ [])
    before_target settled observed = before_next (1 ∷ k ∷ 2 ∷ j ∷ []) 1 (before_observer settled) (λ q rest e' f. let (w', eq) = is_observer q k j rest e' in
        let (m, x, there, g) = subst (λ y. Fails s c y) eq f in
        no_observer s c l e w' observed (same (λ y z. IsUnobserved s y z w') m x there g))

    pub first_target : (w : List Bool) → IsSettled s c l e → (IsStepKind e.kind → IsObserved s l e) → IsLeastWord (LeadsElsewhere s c l e) w
        → IsFirst s c (reason.Target k j w)
    first_target w settled observed u = record {
      fails = (l, e, is, u.is_so);
      earlier = before_target settled observed;
      least = λ q f e' b. let (w', eq) = is_target q k j [] e' in
          let (m, x, there, g) = subst (λ y. Fails s c y) eq f in
          u.least w' (same (λ y z. LeadsElsewhere s c y z w') m x there g) (subst (λ y. ComesBefore (valuation_of (word_of y)) (valuation_of w)) eq b);
    }

    before_implications : IsSettled s c l e → (IsStepKind e.kind → IsObserved s l e) → Leads s c l e e.kind → NoneBefore s c (1 ∷ k ∷ 2 ∷ j ∷ 3 ∷ [])
    before_implications settled observed leads = before_next (1 ∷ k ∷ 2 ∷ j ∷ []) 2 (before_target settled observed) (λ q rest e' f. let
        (w', eq) = is_target q k j rest e' in
        let (m, x, there, g) = subst (λ y. Fails s c y) eq f in
        no_target s c l e w' leads (same (λ y z. LeadsElsewhere s c y z w') m x there g))

    pub first_multipliers : (n : ℕ) (i : Implication) → IsSettled s c l e → (IsStepKind e.kind → IsObserved s l e) → Leads s c l e e.kind
        → slice_get (implications c l e.kind) n ≡ Some i → ¬ IsImplied s l e i
        → ((m : ℕ) (p : Implication) → m < n → slice_get (implications c l e.kind) m ≡ Some p → IsImplied s l e p) → IsFirst s c (reason.Multipliers k j n)
    first_multipliers n i settled observed leads at fails first = record {
      fails = (l, e, i, is, at, fails);
      earlier = walk (1 ∷ k ∷ 2 ∷ j ∷ 3 ∷ []) n (before_first (1 ∷ k ∷ 2 ∷ j ∷ 3 ∷ []) (before_implications settled observed leads)
          (λ q e'. not_implications q k j e'))
          (λ m low q rest e' f. let (m', x, p, there, at', u) = subst (λ y. Fails s c y) (is_multipliers q k j m rest e') f in
          let g : (slice_get (implications c l e.kind) m ≡ Some p) × (¬ IsImplied s l e p) = same (λ y z. (slice_get (implications c y z.kind) m ≡ Some p)
          × (¬ IsImplied s y z p)) m' x there (at', u) in
          g.1 (first m p low g.0));
      least = λ q f e' b. never_self (valuation_of []) (subst (λ x. ComesBefore (valuation_of (word_of x)) (valuation_of [])) (is_multipliers q k j n [] e') b);
    }
