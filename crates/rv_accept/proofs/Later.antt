-- What is given stays so as the store grows, and the answers of the tests put together.
use Rattle.std.proofs.Common.{ℕ, ◌+◌, ◌-◌, ◌*◌, ◌/◌, ◌<◌, ◌≤◌, ◌≡◌, ◌&&◌, Bool, true, false, List, [], ◌∷◌, length, sym, ◌∙◌, subst, ⊎_elim, inl, inr}
use Rattle.std.proofs.Common.{arith, Result, Ok, Err, IfOk, Option, Some, MatchOption, MatchBool, IsTrue, slice_get, None as Nothing}
use Rattle.std.proofs.{lemmas.Option.same_Some, lemmas.Option.slice_get_within, lemmas.Bool.and_parts, lemmas.Bool.and_from}
use Rattle.rv_diagram.specs.Nodes.{Valuation, Diagrams, IsRef, IsOrderedOver, value_of, valuation_of, node_at}
use Rattle.rv_diagram.specs.{declared.frozen.Frozen.Frozen, Several.ref_at}
use Rattle.rv_diagram.specs.Growing.{Extends}
use Rattle.rv_rows.specs.declared.farkas.Multipliers.{Multipliers}
use Rattle.rv_proofs.specs.Accepted.{AreProved, IsIncluded, IsCovered, IsObserved, IsStepKind, IsDeadKind, IsEntry, Leads, LeadsInto}
use Rattle.rv_proofs.specs.Verdicts.{IsUnobserved, LeadsElsewhere, IsTarget, IsFirst, IsUnproved}
use Rattle.rv_proofs.specs.{Systems.System, Systems.IsSystem, Systems.IsState, Counts.HasLoop, Counts.HasKindCounts, Ranges.IsControlSet, Ranges.IsCondition}
use Rattle.rv_proofs.specs.{Ranges.IsInRange, declared.certificate.Certificate.Certificate, declared.certificate.Location.Location}
use Rattle.rv_proofs.specs.{declared.certificate.Entry.Entry, declared.certificate.EntryKind.EntryKind, declared.certificate.EntryKind.TheVariants.Dead}
use Rattle.rv_proofs.specs.{declared.certificate.EntryKind.TheVariants.Go, declared.certificate.EntryKind.TheVariants.Loop, declared.verdict.Reason.Reason}
use Rattle.rv_symbolic.specs.declared.relation.Parts.{Parts}
use Rattle.rv_cases.specs.declared.asking.Questions.{Questions}
use Rattle.rv_cases.proofs.Keeping.{questions_later}
use Rattle.rv_accept.specs.{Steps.IsTrueOf, Steps.IsLeastWord, Steps.has, Held.IsHeld, Held.IsWithin, Held.IsScope, Held.ReadsNext, Held.IsUnseen}
use Rattle.rv_accept.specs.{Held.IsElsewhere, Held.AreLedInto, Passing.IsGiven, Passing.NoneBefore, Passing.Passes, Passing.AllPass, Passing.IsFirstNotIncluded}
use Rattle.rv_accept.proofs.{Growing.found_later, Moving.refs_later, Firsts.no_row}

module _ (a b : Diagrams) (e : Extends a b) where
  value_later : (r : ℕ) (f : Valuation → Bool) → IsRef a.nodes r → ((v : Valuation) → value_of a.nodes r v ≡ f v) → (v : Valuation) → value_of b.nodes r v ≡ f v
  value_later r f found h v = e.kept r found v ∙ h v

  pub held_later : (s : System) (p : Parts) → IsHeld s a p → IsHeld s b p
  held_later s p r = record {
    system = r.system;
    refs = record {
      allowed = found_later a b p.allowed e r.refs.allowed;
      observer = found_later a b p.observer e r.refs.observer;
      initial = found_later a b p.initial e r.refs.initial;
      next = λ i low. found_later a b (ref_at p.next i) e (r.refs.next i low);
      copies = let h : 2 * length p.next ≤ a.variables = r.refs.copies in let k : b.variables ≡ a.variables = e.variables in omega arith;
    };
    means = record {
      variables = e.variables ∙ r.means.variables;
      states = r.means.states;
      allowed = value_later p.allowed s.allowed r.refs.allowed r.means.allowed;
      observer = value_later p.observer s.observer r.refs.observer r.means.observer;
      initial = value_later p.initial s.initial r.refs.initial r.means.initial;
      next = λ i low. let same : length p.next ≡ s.states = r.means.states in
          value_later (ref_at p.next i) (λ v. s.next v (2 * i)) (r.refs.next i (omega arith)) (r.means.next i low);
    };
  }

  pub given_later : (s : System) (p : Parts) (q : Questions) (c : Certificate) → IsGiven s a p q c → IsGiven s b p q c
  given_later s p q c g = record { held = held_later s p g.held; questions = questions_later s a b q e g.questions; range = g.range; free = g.free }

  pub true_later : (P : Valuation → Type 0) (r : ℕ) → IsTrueOf a P r → IsTrueOf b P r
  true_later P r t = record {
    found = found_later a b r e t.found;
    exact = λ v. (λ h. (t.exact v).0 (sym (e.kept r t.found v) ∙ h), λ h. e.kept r t.found v ∙ (t.exact v).1 h);
  }

  pub led_later : (s : System) (c : Certificate) (led : List ℕ) → AreLedInto s c a led → AreLedInto s c b led
  led_later s c led h = record {
    size = h.size;
    refs = refs_later a b led e h.refs;
    means = λ k l at v. e.kept (ref_at led k) (h.refs k (let w : k < length c.locations = slice_get_within c.locations k l at in omega (arith, w, h.size))) v
        ∙ h.means k l at v;
  }

-- WHAT IS GIVEN

pub condition_ordered : (s : System) (d : Diagrams) (p : Parts) (c : Certificate) (k j : ℕ) (l : Location) (e : Entry) → IsHeld s d p → IsInRange s c
    → slice_get c.locations k ≡ Some l → slice_get l.entries j ≡ Some e → IsOrderedOver d.variables e.condition
condition_ordered s d p c k j l e held range at there = subst (λ (m : ℕ). IsOrderedOver m e.condition) (sym held.means.variables)
    ((range.locations k l at).entries j e there).condition.ordered

pub reads_next : (s : System) (d : Diagrams) (p : Parts) (set : Frozen) → IsHeld s d p → IsControlSet s set → ReadsNext (length p.next) set.nodes
reads_next s d p set r c n low = go (node_at set.nodes n).var (c.states n low)
  where
    go : (x : ℕ) → IsState s x → x / 2 < length p.next
    go x (i, less, is) = let b : length p.next ≡ s.states = r.means.states in omega arith

-- STEPS

pub dead_no_step : (kind : EntryKind) → IsDeadKind kind → IsStepKind kind → ⊥
dead_no_step (Dead by) d t = t
dead_no_step _ d t = d

pub go_step : (kind : EntryKind) (b : Bool) → MatchBool b (IsStepKind kind) (IsDeadKind kind) → b ≡ true → IsStepKind kind
go_step kind true m h = m
go_step kind false m h = absurd (let z : false ≡ true = h in cc)

pub go_dead : (kind : EntryKind) (b : Bool) → MatchBool b (IsStepKind kind) (IsDeadKind kind) → b ≡ false → IsDeadKind kind
go_dead kind true m h = absurd (let z : true ≡ false = h in cc)
go_dead kind false m h = m

unseen_one : (o : Option (List Bool)) (s : System) (l : Location) (e : Entry) → IsStepKind e.kind
    → MatchOption o (IsObserved s l e) (λ w. IsLeastWord (IsUnseen s l e) w)
    → MatchOption o (IsStepKind e.kind → IsObserved s l e) (λ w. IsLeastWord (IsUnobserved s l e) w)
unseen_one Nothing s l e step h = λ t. h
unseen_one (Some w) s l e step h = record {
  is_so = record { word = h.is_so.word; step = step; scope = h.is_so.scope; fails = h.is_so.fails };
  least = λ u g. h.least u (record { word = g.word; scope = g.scope; fails = g.fails });
}

pub unseen_step : {E : Type 0} (o : Result (Option (List Bool)) E) (d : Diagrams) (p : Parts) (e : Entry) (scope : ℕ) → IsStepKind e.kind
    → IfOk o (λ o. (s : System) (l : Location) (x : Entry) → IsSystem s → d.variables ≡ s.variables → IsControlSet s l.control → IsCondition s x.condition
    → IsScope s l x d scope → ((v : Valuation) → value_of d.nodes p.observer v ≡ s.observer v)
    → MatchOption o (IsObserved s l x) (λ w. IsLeastWord (IsUnseen s l x) w))
    → IfOk o (λ o. (s : System) (c : Certificate) (k j : ℕ) (l : Location) → IsHeld s d p → IsInRange s c → IsEntry c k j l e → IsScope s l e d scope
    → MatchOption o (IsStepKind e.kind → IsObserved s l e) (λ w. IsLeastWord (IsUnobserved s l e) w))
unseen_step (Err f) d p e scope step h = h
unseen_step (Ok o) d p e scope step h = λ s c k j l held range is sc. unseen_one o s l e step
    (h s l e held.system held.means.variables (range.locations k l is.location).control
    ((range.locations k l is.location).entries j e is.entry).condition sc held.means.observer)

-- the target of a step is one
one_target : (c : Certificate) (l : Location) (kind : EntryKind) (x y : Location) → IsTarget c l kind x → IsTarget c l kind y → x ≡ y
one_target c l (Dead by) x y a b = absurd a
one_target c l (Go target reach) x y a b = same_Some x y (sym a ∙ b)
one_target c l (Loop f b' a' t') x y a b = a ∙ sym b

leads_by : (s : System) (c : Certificate) (l : Location) (e : Entry) (kind : EntryKind) (into : Location) → IsTarget c l kind into → LeadsInto s l e into
    → Leads s c l e kind
leads_by s c l e (Dead by) into is h = absurd is
leads_by s c l e (Go target reach) into is h = (into, is, h)
leads_by s c l e (Loop f b a t') into is h = subst (λ (x : Location). LeadsInto s l e x) is h

elsewhere_one : (o : Option (List Bool)) (s : System) (c : Certificate) (l : Location) (e : Entry) (into : Location) → IsTarget c l e.kind into
    → MatchOption o (LeadsInto s l e into) (λ w. IsLeastWord (IsElsewhere s l e into) w)
    → MatchOption o (Leads s c l e e.kind) (λ w. IsLeastWord (LeadsElsewhere s c l e) w)
elsewhere_one Nothing s c l e into is h = leads_by s c l e e.kind into is h
elsewhere_one (Some w) s c l e into is h = record {
  is_so = record { word = h.is_so.word; into = into; target = is; scope = h.is_so.scope; elsewhere = h.is_so.elsewhere };
  least = λ u g. h.least u (record {
    word = g.word;
    scope = g.scope;
    elsewhere = subst (λ (x : Location). ¬ IsTrue (value_of x.control.nodes x.control.root (s.next (valuation_of u))))
        (one_target c l e.kind g.into into g.target is) g.elsewhere;
  });
}

pub elsewhere_step : {E : Type 0} (o : Result (Option (List Bool)) E) (d : Diagrams) (c : Certificate) (k j n : ℕ) (l : Location) (e : Entry)
    (into : Location) (scope : ℕ) (led : List ℕ)
    → IsEntry c k j l e → IsTarget c l e.kind into → slice_get c.locations n ≡ Some into
    → IfOk o (λ o. (s : System) (l' : Location) (x : Entry) (target : Location) → IsSystem s → d.variables ≡ s.variables → IsControlSet s l'.control
    → IsCondition s x.condition → IsControlSet s target.control → IsScope s l' x d scope
    → ((v : Valuation) → value_of d.nodes (ref_at led n) v ≡ has target.control (s.next v))
    → MatchOption o (LeadsInto s l' x target) (λ w. IsLeastWord (IsElsewhere s l' x target) w))
    → IfOk o (λ o. (s : System) → IsSystem s → d.variables ≡ s.variables → IsInRange s c → AreLedInto s c d led → IsScope s l e d scope
    → MatchOption o (Leads s c l e e.kind) (λ w. IsLeastWord (LeadsElsewhere s c l e) w))
elsewhere_step (Err f) d c k j n l e into scope led is target at h = h
elsewhere_step (Ok o) d c k j n l e into scope led is target at h = λ s fits variables range are sc. elsewhere_one o s c l e into target
    (h s l e into fits variables (range.locations k l is.location).control ((range.locations k l is.location).entries j e is.entry).condition
    (range.locations n into at).control sc (are.means n into at))

pub target_there : (c : Certificate) (l : Location) (kind : EntryKind) (target : ℕ) (reach : List Multipliers) → HasKindCounts c l kind
    → kind ≡ Go target reach → (into : Location) × (slice_get c.locations target ≡ Some into)
target_there c l kind target reach h is = let (into, at, size) = subst (λ (x : EntryKind). HasKindCounts c l x) is h in (into, at)

pub within_made : (s : System) (l : Location) (a b : Diagrams) (p : Parts) (r : ℕ) → IsHeld s a p → IsRef b.nodes r → ((v : Valuation)
    → value_of b.nodes r v ≡ (value_of a.nodes p.allowed v && has l.control v)) → IsWithin s l b r
within_made s l a b p r read found means = record {
  found = found;
  exact = λ v. (
    λ h. let q = and_parts (value_of a.nodes p.allowed v) (has l.control v) (sym (means v) ∙ h) in (sym (read.means.allowed v) ∙ q.0, q.1),
    λ (allowed, there). means v ∙ and_from (value_of a.nodes p.allowed v) (has l.control v) (read.means.allowed v ∙ allowed) there,
  );
}

whole_one : (o : Option Reason) (s : System) (c : Certificate) (k : ℕ) (l : Location) → IsIncluded l → IsCovered s l
    → MatchOption o ((j : ℕ) (e : Entry) → slice_get l.entries j ≡ Some e → Passes s c l e) (λ r. NoneBefore s c (1 ∷ k ∷ []) → IsIncluded l
    → IsCovered s l → IsFirst s c r)
    → MatchOption o (AllPass s c l) (λ r. NoneBefore s c (1 ∷ k ∷ []) → IsFirst s c r)
whole_one Nothing s c k l included covered h = record { included = included; covered = covered; entries = h }
whole_one (Some r) s c k l included covered h = λ before. h before included covered

pub location_whole : {E : Type 0} (o : Result (Option Reason) E) (a d : Diagrams) (p : Parts) (q : Questions) (c : Certificate) (k : ℕ) (l : Location)
    (within : ℕ) (led : List ℕ) → IsIncluded l
    → ((s : System) → IsGiven s a p q c → AreLedInto s c a led → IsGiven s d p q c × IsWithin s l d within × AreLedInto s c d led × IsCovered s l)
    → IfOk o (λ o. (s : System) → IsGiven s d p q c → IsWithin s l d within → AreLedInto s c d led
    → MatchOption o ((j : ℕ) (e : Entry) → slice_get l.entries j ≡ Some e → Passes s c l e) (λ r. NoneBefore s c (1 ∷ k ∷ []) → IsIncluded l
    → IsCovered s l → IsFirst s c r))
    → IfOk o (λ o. (s : System) → IsGiven s a p q c → AreLedInto s c a led
    → MatchOption o (AllPass s c l) (λ r. NoneBefore s c (1 ∷ k ∷ []) → IsFirst s c r))
location_whole (Err f) a d p q c k l within led included known h = h
location_whole (Ok o) a d p q c k l within led included known h = λ s g li. let (g', w, li', covered) = known s g li in
    whole_one o s c k l included covered (h s g' w li')

pub scope_made : (s : System) (l : Location) (e : Entry) (a b : Diagrams) (within r : ℕ) → IsWithin s l a within → IsRef b.nodes r → ((v : Valuation)
    → value_of b.nodes r v ≡ (value_of a.nodes within v && has e.condition v)) → IsScope s l e b r
scope_made s l e a b within r w found means = record {
  found = found;
  exact = λ v. (
    λ h. let q = and_parts (value_of a.nodes within v) (has e.condition v) (sym (means v) ∙ h) in let i = (w.exact v).0 q.0 in record {
      allowed = i.0;
      control = i.1;
      condition = q.1;
    },
    λ i. means v ∙ and_from (value_of a.nodes within v) (has e.condition v) ((w.exact v).1 (i.allowed, i.control)) i.condition,
  );
}

-- ROWS OF INCLUSION

pub included_first : (l : Location) (row : ℕ) → IsUnproved l.entry l.state l.by_entry row → ((m : ℕ) → m < row → ¬ IsUnproved l.entry l.state l.by_entry m)
    → IsFirstNotIncluded l row
included_first l row u first = record {
  fails = inl u;
  first = λ m low x. ⊎_elim (λ a. first m low a) (λ (loop, more, b). let w : row < length l.state = slice_get_within l.state row u.row u.at in absurd (omega
      (arith, w, low, more))) x;
}

pub included_later : (l : Location) (n row : ℕ) → HasLoop l → n ≡ length l.state → AreProved l.entry l.state l.by_entry
    → IsUnproved l.first l.state l.by_first row
    → ((m : ℕ) → m < row → ¬ IsUnproved l.first l.state l.by_first m) → IsFirstNotIncluded l (n + row)
included_later l n row loop size all u first = record {
  fails = inr (loop, omega arith, let e : row ≡ (n + row) - length l.state = omega arith in subst (λ k. IsUnproved l.first l.state l.by_first k) e u);
  first = λ m low x. ⊎_elim (λ a. no_row l.entry l.state l.by_entry m all a) (λ (lp, more, b). first (m - length l.state) (omega (arith, low, more)) b) x;
}
