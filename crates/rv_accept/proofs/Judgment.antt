-- How entries, locations and partitions stand.
use Rattle.std.proofs.Common.{ℕ, ◌+◌, ◌<◌, ◌≤◌, ◌≡◌, ◌⊎◌, inl, inr, ◌↔◌, ◌&&◌, ◌||◌, Bool, true, false, List, [], ◌∷◌, ◌++◌, length, refl, sym, ap, ◌∙◌, subst}
use Rattle.std.proofs.Common.{⊎_elim, arith, Option, MatchOption, Some, slice_get, get_or}
use Rattle.std.specs.Prelude.{IsSome}
use Rattle.rv_diagram.specs.declared.frozen.Frozen.{Frozen}
use Rattle.std.proofs.Common.{None as Nothing_here}
use Rattle.std.proofs.lemmas.Option.{same_Some, slice_get_within, slice_get-get_or, get_or_from_slice_get, none-some}
use Rattle.std.proofs.lemmas.Bool.{cases_lt, cases_Bool, and_parts, and_from, or_cases, or_left, or_right}
use Rattle.std.proofs.lemmas.List.{length-append, get_or_append_left, get_or_push}
use Rattle.std.specs.{List.Contains}
use Rattle.rv_diagram.specs.Nodes.{Valuation, Diagrams, Answers, IsRef, value_of, valuation_of}
use Rattle.rv_proofs.specs.Systems.{System}
use Rattle.rv_proofs.specs.Scopes.{IsIn, IsInScope, IsSettled}
use Rattle.rv_proofs.specs.Accepted.{IsAccepted, IsInitial, IsIncluded, IsCovered, IsObserved, IsStepKind, IsDeadKind, IsEntry, Leads, AreImplied}
use Rattle.rv_proofs.specs.Verdicts.{IsUnobserved, LeadsElsewhere, IsUncovered, IsNotIncluded, LacksInitial}
use Rattle.rv_proofs.specs.declared.certificate.EntryKind.TheVariants.{Dead, Go, Loop}
use Rattle.rv_proofs.specs.Left.{IsNeverObserved, IsFailingStep, IsUnrefuted, IsLeftPartition}
use Rattle.rv_proofs.specs.{Ranges.IsInRange, declared.certificate.Certificate.Certificate, declared.certificate.Location.Location}
use Rattle.rv_proofs.specs.{declared.certificate.Entry.Entry, declared.certificate.EntryKind.EntryKind}
use Rattle.rv_accept.specs.{Steps.IsLeastWord, Held.IsScope, Passing.Passes, Passing.AllPass, Passing.IsFirstUnimplied}
use Rattle.rv_accept.specs.Judging.{IsLenient, IsUsing, IsAsking, Stands, IsLeftAt, IsLocated, AreApart, IsMarked, IsSeen, worse_of, added_if, AreStanding}
use Rattle.rv_accept.specs.Judging.{located_by, AreLocated}
use Rattle.rv_accept.specs.declared.judging.Standing.{Standing}
use Rattle.rv_accept.specs.declared.judging.Standing.TheVariants.{Sound, Using, Asking, Unfit}
use Rattle.rv_accept.specs.declared.judging.Seen.TheVariants.{Nothing, Never, Somewhere}
use Rattle.rv_accept.proofs.{Later.dead_no_step, Firsts.no_target, Firsts.no_inclusion, Firsts.no_implication}
use Rattle.rv_base.proofs.{Truths.clash, Lists.item_at, Lists.found_or_not, Lists.contains_got, Lists.push_got}

module _ (s : System) (c : Certificate) (l : Location) (e : Entry) where
  -- WHAT STANDS

  pub lenient_of : Passes s c l e → IsLenient s c l e
  lenient_of p = record { settled = p.settled; leads = p.leads; steps = λ step. p.implied; dead = λ d. inl p.implied }

  pub stands_unobserved : (w : List Bool) → IsSettled s c l e → Leads s c l e e.kind → AreImplied s c l e → IsLeastWord (IsUnobserved s l e) w
      → Stands s c l e Using
  stands_unobserved w settled leads implied u = (
    record { settled = settled; leads = leads; steps = λ step. implied; dead = λ d. inl implied },
    inl (record { step = u.is_so.step; valuation = valuation_of w; scope = u.is_so.scope; fails = u.is_so.fails }),
  )

  pub stands_passing : IsSettled s c l e → Leads s c l e e.kind → AreImplied s c l e → (IsStepKind e.kind → IsObserved s l e) → Stands s c l e Sound
  stands_passing settled leads implied observed = record { settled = settled; observed = observed; leads = leads; implied = implied }

  pub stands_asking : (d : Diagrams) (scope observer : ℕ) → IsSettled s c l e → Leads s c l e e.kind → ¬ AreImplied s c l e → IsDeadKind e.kind
      → IsScope s l e d scope → ((v : Valuation) → value_of d.nodes scope v ≡ false) → Stands s c l e Asking
  stands_asking d scope observer settled leads lacks dead sc none =
      let empty : (v : Valuation) → ¬ IsInScope s l e v = λ v h. clash (value_of d.nodes scope v) ((sc.exact v).1 h) (none v) in (
        record {
          settled = settled;
          leads = leads;
          steps = λ step. absurd (dead_no_step e.kind dead step);
          dead = λ d. inr (λ v h. absurd (empty v h));
        },
        record { dead = dead; lacks = lacks; empty = empty },
      )

  pub stands_never : (d : Diagrams) (scope observer : ℕ) → IsSettled s c l e → Leads s c l e e.kind → ¬ AreImplied s c l e → IsDeadKind e.kind
      → IsScope s l e d scope → ((v : Valuation) → value_of d.nodes observer v ≡ s.observer v)
      → ((v : Valuation) × (value_of d.nodes scope v ≡ true)) × ((v : Valuation) → value_of d.nodes scope v ≡ true → value_of d.nodes observer v ≡ false)
      → Stands s c l e Using
  stands_never d scope observer settled leads lacks dead sc means (some, never) =
      let off : IsNeverObserved s l e = λ v h. sym (means v) ∙ never v ((sc.exact v).1 h) in (
        record {
          settled = settled;
          leads = leads;
          steps = λ step. absurd (dead_no_step e.kind dead step);
          dead = λ d. inr off;
        },
        inr (record { dead = dead; valuation = some.0; scope = (sc.exact some.0).0 some.1; lacks = lacks; fails = off }),
      )

  pub fails_somewhere : (d : Diagrams) (scope observer : ℕ) → ¬ AreImplied s c l e → IsDeadKind e.kind → IsScope s l e d scope
      → ((v : Valuation) → value_of d.nodes observer v ≡ s.observer v)
      → (v : Valuation) × (value_of d.nodes scope v ≡ true) × (value_of d.nodes observer v ≡ true) → Stands s c l e Unfit
  fails_somewhere d scope observer lacks dead sc means (v, inside, on) len = ⊎_elim
      (λ h. lacks h)
      (λ never. clash (s.observer v) (sym (means v) ∙ on) (never v ((sc.exact v).0 inside)))
      (len.dead dead)

  pub fails_step : ¬ AreImplied s c l e → IsStepKind e.kind → Stands s c l e Unfit
  fails_step lacks step len = lacks (len.steps step)

  pub fails_elsewhere : (w : List Bool) → IsLeastWord (LeadsElsewhere s c l e) w → Stands s c l e Unfit
  fails_elsewhere w u len = no_target s c l e w len.leads u.is_so

  pub fails_unsettled : ¬ IsSettled s c l e → Stands s c l e Unfit
  fails_unsettled not len = not len.settled

  pub unimplied_lacks : (n : ℕ) → IsFirstUnimplied s c l e n → ¬ AreImplied s c l e
  unimplied_lacks n u all = u.fails (no_implication s c l e n u.implication all u.at)

  -- WHAT EXCLUDES WHAT

  pub passes_no_use : Passes s c l e → IsUsing s c l e → ⊥
  passes_no_use p (inl f) = clash (s.observer f.valuation) (p.observed f.step f.valuation f.scope) f.fails
  passes_no_use p (inr u) = u.lacks p.implied

  pub asks_no_use : IsAsking s c l e → IsUsing s c l e → ⊥
  asks_no_use a (inl f) = dead_no_step e.kind a.dead f.step
  asks_no_use a (inr u) = a.empty u.valuation u.scope

  pub lenient_asking : Stands s c l e Asking → IsLenient s c l e
  lenient_asking h = h.0

-- ONE ENTRY MORE

-- what holds of the first n, and of the next, holds of one more
more_each : (P : ℕ → Entry → Type 0) (l : Location) (n : ℕ) (e : Entry) → slice_get l.entries n ≡ Some e → P n e
    → ((i : ℕ) (x : Entry) → i < n → slice_get l.entries i ≡ Some x → P i x) → (i : ℕ) (x : Entry) → i < n + 1 → slice_get l.entries i ≡ Some x → P i x
more_each P l n e at here all i x low there = ⊎_elim
    (λ less. all i x less there)
    (λ ge. let is : n ≡ i = omega (arith, low, ge) in
    let same : e ≡ x = same_Some e x (sym at ∙ ap (λ (k : ℕ). slice_get l.entries k) is ∙ there) in
    subst (λ (k : ℕ). P k x) is (subst (P n) same here))
    (cases_lt i n)

module _ (s : System) (c : Certificate) (l : Location) (n : ℕ) (e : Entry) (at : slice_get l.entries n ≡ Some e) where
  all_lenient : ((i : ℕ) (x : Entry) → i < n → slice_get l.entries i ≡ Some x → IsLenient s c l x) → IsLenient s c l e
      → (i : ℕ) (x : Entry) → i < n + 1 → slice_get l.entries i ≡ Some x → IsLenient s c l x
  all_lenient all here = more_each (λ i x. IsLenient s c l x) l n e at here all

  all_asked : ((i : ℕ) (x : Entry) → i < n → slice_get l.entries i ≡ Some x → Passes s c l x ⊎ (IsLenient s c l x × IsAsking s c l x))
      → Passes s c l e ⊎ (IsLenient s c l e × IsAsking s c l e) → (i : ℕ) (x : Entry) → i < n + 1 → slice_get l.entries i ≡ Some x
      → Passes s c l x ⊎ (IsLenient s c l x × IsAsking s c l x)
  all_asked all here = more_each (λ i x. Passes s c l x ⊎ (IsLenient s c l x × IsAsking s c l x)) l n e at here all

  asked_lenient : (x : Entry) → Passes s c l x ⊎ (IsLenient s c l x × IsAsking s c l x) → IsLenient s c l x
  asked_lenient x (inl p) = lenient_of s c l x p
  asked_lenient x (inr a) = a.0

  pub standing_more : (a b : Standing) → AreStanding s c l n a → Stands s c l e b → AreStanding s c l (n + 1) (worse_of a b)
  standing_more Unfit b h here = h
  standing_more Using Unfit h here = (n, e, at, here)
  standing_more Using Using h here = (all_lenient h.0 here.0, h.1)
  standing_more Using Asking h here = (all_lenient h.0 here.0, h.1)
  standing_more Using Sound h here = (all_lenient h.0 (lenient_of s c l e here), h.1)
  standing_more Asking Unfit h here = (n, e, at, here)
  standing_more Asking Using h here = (all_lenient (λ i x low there. asked_lenient x (h.0 i x low there)) here.0, (n, e, at, here.1))
  standing_more Asking Asking h here = (all_asked h.0 (inr here), h.1)
  standing_more Asking Sound h here = (all_asked h.0 (inl here), h.1)
  standing_more Sound Unfit h here = (n, e, at, here)
  standing_more Sound Using h here = (all_lenient (λ i x low there. lenient_of s c l x (h i x low there)) here.0, (n, e, at, here.1))
  standing_more Sound Asking h here = (all_asked (λ i x low there. inl (h i x low there)) (inr here), (n, e, at, here.1))
  standing_more Sound Sound h here = more_each (λ i x. Passes s c l x) l n e at here h

pub standing_start : (s : System) (c : Certificate) (l : Location) → AreStanding s c l 0 Sound
standing_start s c l i e low at = absurd (omega (arith, low))

-- LOCATIONS

step_or_dead : (kind : EntryKind) → IsStepKind kind ⊎ IsDeadKind kind
step_or_dead (Dead by) = inr tt
step_or_dead (Go target reach) = inl tt
step_or_dead (Loop first before around state) = inl tt

pub not_covered : (s : System) (l : Location) (w : List Bool) → IsLeastWord (IsUncovered s l) w → ¬ IsCovered s l
not_covered s l w u covers =
    let (j, e, at, inside) = covers (valuation_of w) u.is_so.allowed u.is_so.control in
    u.is_so.nowhere j e at inside

pub not_included : (l : Location) (n : ℕ) → IsNotIncluded l n → ¬ IsIncluded l
not_included l n u all = no_inclusion l n all u

pub not_initial : (s : System) (c : Certificate) (w : List Bool) → IsLeastWord (LacksInitial s c) w → ¬ IsInitial s c
not_initial s c w u all =
    let (k, l, at, empty, inside) = all (valuation_of w) u.is_so.initial in
    u.is_so.nowhere k l at empty inside

pub located_all : (s : System) (c : Certificate) (l : Location) (worst : Standing) → IsIncluded l → IsCovered s l
    → AreStanding s c l (length l.entries) worst → IsLocated s c l (located_by worst)
located_all s c l Sound included covered h = record {
  included = included;
  covered = covered;
  entries = λ j e at. h j e (slice_get_within l.entries j e at) at;
}
located_all s c l Asking included covered (all, (i, x, at, asks)) = (
  λ left. let (j, e, there, using) = left.used in ⊎_elim
      (λ p. passes_no_use s c l e p using)
      (λ a. asks_no_use s c l e a.1 using)
      (all j e (slice_get_within l.entries j e there) there),
  λ pass. asks.lacks (pass.entries i x at).implied,
)
located_all s c l Using included covered (all, used) = record {
  included = included;
  covered = covered;
  entries = λ j e at. all j e (slice_get_within l.entries j e at) at;
  used = used;
}
located_all s c l Unfit included covered (i, x, at, fails) = (
  λ left. fails (left.entries i x at),
  λ pass. fails (lenient_of s c l x (pass.entries i x at)),
)

pub located_not_included : (s : System) (c : Certificate) (l : Location) → ¬ IsIncluded l → IsLocated s c l Nothing_here
located_not_included s c l not = (λ left. not left.included, λ pass. not pass.included)

pub located_uncovered : (s : System) (c : Certificate) (l : Location) → ¬ IsCovered s l → IsLocated s c l Nothing_here
located_uncovered s c l not = (λ left. not left.covered, λ pass. not pass.covered)

-- a marked partition has each location left or passing
pub marked_located : (s : System) (c : Certificate) (left : List ℕ) (k : ℕ) (l : Location) → IsMarked s c left → slice_get c.locations k ≡ Some l
    → IsLeftAt s c l ⊎ AllPass s c l
marked_located s c left k l m at = ⊎_elim
    (λ (i, there). inl (let uses : (j : ℕ) × (x : Location) × (e : Entry) × IsEntry c k j x e × (IsFailingStep s x e ⊎ IsUnrefuted s c x e) =
    m.used k (contains_got left i k there) in
    let same : uses.1 ≡ l = same_Some uses.1 l (sym uses.3.location ∙ at) in
    record {
      included = m.partition.included k l at;
      covered = m.partition.covered k l at;
      entries = λ j e here. lenient j e here;
      used = (
        uses.0,
        uses.2,
        subst (λ (x : Location). slice_get x.entries uses.0 ≡ Some uses.2) same uses.3.entry,
        subst (λ (x : Location). IsUsing s c x uses.2) same uses.4,
      );
    }))
    (λ none. inr (record {
      included = m.partition.included k l at;
      covered = m.partition.covered k l at;
      entries = λ j e here. record {
        settled = m.partition.settled k j l e (record { location = at; entry = here });
        observed = λ step. ⊎_elim (λ o. o) (λ there. absurd (none there.0 (place there))) (m.observed k j l e (record { location = at; entry = here }) step);
        leads = m.partition.leads k j l e (record { location = at; entry = here });
        implied = implied j e here none;
      };
    }))
    (found_or_not left k)
  where
    lenient : (j : ℕ) (e : Entry) → slice_get l.entries j ≡ Some e → IsLenient s c l e
    lenient j e here = record {
      settled = m.partition.settled k j l e (record { location = at; entry = here });
      leads = m.partition.leads k j l e (record { location = at; entry = here });
      steps = λ step. m.partition.steps k j l e (record { location = at; entry = here }) step;
      dead = λ d. ⊎_elim (λ a. inl a) (λ (there, never). inr never) (m.dead k j l e (record { location = at; entry = here }) d);
    }

    place : (there : Contains left k) → slice_get left there.0 ≡ Some k
    place there = slice_get-get_or left there.0 k there.1 ∙ ap Some there.2

    implied : (j : ℕ) (e : Entry) → slice_get l.entries j ≡ Some e → ((i : ℕ) → slice_get left i ≡ Some k → ⊥) → AreImplied s c l e
    implied j e here none = ⊎_elim
        (λ step. m.partition.steps k j l e (record { location = at; entry = here }) step)
        (λ d. ⊎_elim (λ a. a) (λ (there, never). absurd (none there.0 (place there))) (m.dead k j l e (record { location = at; entry = here }) d))
        (step_or_dead e.kind)

-- PARTITIONS

module _ (s : System) (c : Certificate) (k : ℕ) (left : List ℕ) (l : Location) (at : slice_get c.locations k ≡ Some l) (h : AreLocated s c k left) where
  -- k is not among those before it
  absent : Contains left k → ⊥
  absent (i, lt, is) = let low : get_or left i k < k = h.below i k lt in omega (arith, low, is)

  same_location : (x : Location) (i : ℕ) → k ≡ i → slice_get c.locations i ≡ Some x → l ≡ x
  same_location x i e there = same_Some l x (sym at ∙ ap (λ (n : ℕ). slice_get c.locations n) e ∙ there)

  pub located_passing : AllPass s c l → AreLocated s c (k + 1) left
  located_passing pass = record {
    each = λ i x low there. ⊎_elim
        (λ less. h.each i x less there)
        (λ ge. let e : k ≡ i = omega (arith, low, ge) in
        inr (subst (λ (n : ℕ). Contains left n → ⊥) e absent, subst (AllPass s c) (same_location x i e there) pass))
        (cases_lt i k);
    below = λ i d lt. let low : get_or left i d < k = h.below i d lt in omega (arith, low);
    rising = h.rising;
  }

  longer : (i : ℕ) → Contains left i → Contains (left ++ k ∷ []) i
  longer i (j, lt, is) = (j, omega (arith, lt, length-append left (k ∷ [])), get_or_append_left left (k ∷ []) i j lt ∙ is)

  shorter : (i : ℕ) → (k ≡ i → ⊥) → Contains (left ++ k ∷ []) i → Contains left i
  shorter i ne (j, lt, is) = ⊎_elim
      (λ less. (j, less, sym (get_or_append_left left (k ∷ []) i j less) ∙ is))
      (λ ge. absurd (ne (sym (get_or_push left k i j (omega (arith, lt, ge, length-append left (k ∷ [])))) ∙ is)))
      (cases_lt j (length left))

  last : Contains (left ++ k ∷ []) k
  last = (length left, omega (arith, length-append left (k ∷ [])), get_or_push left k k (length left) refl)

  pub located_left : IsLeftAt s c l → AreLocated s c (k + 1) (left ++ k ∷ [])
  located_left is = record {
    each = λ i x low there. ⊎_elim
        (λ less. ⊎_elim
        (λ (in_left, at_left). inl (longer i in_left, at_left))
        (λ (out, pass). inr (λ more. out (shorter i (λ e. omega (arith, e, less)) more), pass))
        (h.each i x less there))
        (λ ge. let e : k ≡ i = omega (arith, low, ge) in
        inl (subst (λ (n : ℕ). Contains (left ++ k ∷ []) n) e last, subst (IsLeftAt s c) (same_location x i e there) is))
        (cases_lt i k);
    below = λ i d lt. ⊎_elim
        (λ less. let low : get_or left i d < k = h.below i d less in
        subst (λ (n : ℕ). n < k + 1) (sym (get_or_append_left left (k ∷ []) d i less)) (omega (arith, low)))
        (λ ge. subst (λ (n : ℕ). n < k + 1) (sym (get_or_push left k d i (omega (arith, lt, ge, length-append left (k ∷ []))))) (omega arith))
        (cases_lt i (length left));
    rising = λ i j m n low here there. rises i j m n low (push_got left k m i here) (push_got left k n j there);
  }
    where
      rises : (i j m n : ℕ) → i < j → ((i < length left) × (slice_get left i ≡ Some m)) ⊎ ((i ≡ length left) × (k ≡ m))
          → ((j < length left) × (slice_get left j ≡ Some n)) ⊎ ((j ≡ length left) × (k ≡ n)) → m < n
      rises i j m n low (inl a) (inl b) = h.rising i j m n low a.1 b.1
      rises i j m n low (inl a) (inr b) = let less : get_or left i m < k = h.below i m a.0 in
          omega (arith, less, get_or_from_slice_get left i m m a.1, b.1)
      rises i j m n low (inr a) (inl b) = absurd (omega (arith, a.0, b.0, low))
      rises i j m n low (inr a) (inr b) = absurd (omega (arith, a.0, b.0, low))

pub located_more : (s : System) (c : Certificate) (k : ℕ) (left : List ℕ) (l : Location) → slice_get c.locations k ≡ Some l → AreLocated s c k left
    → (b : Bool) → IsLocated s c l (Some b) → AreLocated s c (k + 1) (added_if b left k)
located_more s c k left l at h true is = located_left s c k left l at h is
located_more s c k left l at h false is = located_passing s c k left l at h is

pub located_start : (s : System) (c : Certificate) → AreLocated s c 0 []
located_start s c = record {
  each = λ i l low. absurd (omega (arith, low));
  below = λ i d low. absurd (let z : i < 0 = low in omega (arith, z));
  rising = λ i j m n low here. absurd (none-some m here);
}

pub marked_of : (s : System) (c : Certificate) (n : ℕ) (left : List ℕ) → IsInRange s c → IsInitial s c → AreApart c → n ≡ length c.locations
    → AreLocated s c n left → IsMarked s c left
marked_of s c n left range initial apart size h = record {
  partition = record {
    in_range = range;
    initial = initial;
    included = λ k l at. ⊎_elim (λ a. a.1.included) (λ b. b.1.included) (of k l at);
    covered = λ k l at. ⊎_elim (λ a. a.1.covered) (λ b. b.1.covered) (of k l at);
    settled = λ k j l e is. (lenient k j l e is).settled;
    leads = λ k j l e is. (lenient k j l e is).leads;
    steps = λ k j l e is step. (lenient k j l e is).steps step;
  };
  there = λ i d low. let less : get_or left i d < n = h.below i d low in omega (arith, less, size);
  rising = h.rising;
  apart = apart;
  observed = λ k j l e is step. ⊎_elim
      (λ a. inr a.0)
      (λ b. inl ((b.1.entries j e is.entry).observed step))
      (of k l is.location);
  dead = λ k j l e is d. ⊎_elim
      (λ a. ⊎_elim (λ implied. inl implied) (λ never. inr (a.0, never)) ((a.1.entries j e is.entry).dead d))
      (λ b. inl (b.1.entries j e is.entry).implied)
      (of k l is.location);
  used = used;
}
  where
    of : (k : ℕ) (l : Location) → slice_get c.locations k ≡ Some l → (Contains left k × IsLeftAt s c l) ⊎ ((Contains left k → ⊥) × AllPass s c l)
    of k l at = h.each k l (let low : k < length c.locations = slice_get_within c.locations k l at in omega (arith, low, size)) at

    lenient : (k j : ℕ) (l : Location) (e : Entry) → IsEntry c k j l e → IsLenient s c l e
    lenient k j l e is = ⊎_elim (λ a. a.1.entries j e is.entry) (λ b. lenient_of s c l e (b.1.entries j e is.entry)) (of k l is.location)

    used : (k : ℕ) → Contains left k → (j : ℕ) × (l : Location) × (e : Entry) × IsEntry c k j l e × (IsFailingStep s l e ⊎ IsUnrefuted s c l e)
    used k there =
        let low : get_or left there.0 k < n = h.below there.0 k there.1 in
        let (l, at) = item_at c.locations k (omega (arith, low, there.2, size)) in
        ⊎_elim
        (λ a. let (j, e, here, using) = a.1.used in (j, l, e, record { location = at; entry = here }, using))
        (λ b. absurd (b.0 there))
        (of k l at)

pub left_of : (s : System) (c : Certificate) (left : List ℕ) → IsMarked s c left → 0 < length left → IsLeftPartition s c left
left_of s c left m some = record {
  partition = m.partition;
  some = some;
  there = m.there;
  rising = m.rising;
  disjoint = m.apart.disjoint;
  nonempty = m.apart.nonempty;
  observed = m.observed;
  dead = m.dead;
  used = m.used;
}

pub marked_from : (s : System) (c : Certificate) (left : List ℕ) → IsLeftPartition s c left → IsMarked s c left
marked_from s c left p = record {
  partition = p.partition;
  there = p.there;
  rising = p.rising;
  apart = record { disjoint = p.disjoint; nonempty = p.nonempty };
  observed = p.observed;
  dead = p.dead;
  used = p.used;
}

pub accepted_of : (s : System) (c : Certificate) (left : List ℕ) → IsMarked s c left → left ≡ [] → IsAccepted s c
accepted_of s c left m e = record {
  partition = m.partition;
  observed = λ k j l x is step. ⊎_elim (λ o. o) (λ there. absurd (none there)) (m.observed k j l x is step);
  dead = λ k j l x is d. ⊎_elim (λ a. a) (λ (there, never). absurd (none there)) (m.dead k j l x is d);
}
  where
    none : {k : ℕ} → Contains left k → ⊥
    none there = let lt : there.0 < length left = there.1 in let z : length left ≡ 0 = ap length e in omega (arith, lt, z)

-- a partition with a location that is neither left nor passes is marked by no list
pub unmarked_by : (s : System) (c : Certificate) (k : ℕ) (l : Location) → slice_get c.locations k ≡ Some l → IsLocated s c l Nothing_here
    → (left : List ℕ) → IsMarked s c left → ⊥
unmarked_by s c k l at (no_left, no_pass) left m = ⊎_elim no_left no_pass (marked_located s c left k l m at)

-- WHAT THE OBSERVER IS

module _ (old new : Diagrams) (scope observer met : ℕ) (t : Answers old new (λ v. value_of old.nodes scope v && value_of old.nodes observer v) met)
    (found : IsRef old.nodes scope) where
  pub seen_somewhere : (v : Valuation) × (value_of new.nodes met v ≡ true) → IsSeen old.nodes scope observer Somewhere
  seen_somewhere (v, on) = let p = and_parts (value_of old.nodes scope v) (value_of old.nodes observer v) (sym (t.means v) ∙ on) in (v, p.0, p.1)

  pub seen_never : ((v : Valuation) → value_of new.nodes met v ≡ false) → (v : Valuation) × (value_of new.nodes scope v ≡ true)
      → IsSeen old.nodes scope observer Never
  seen_never off (v, inside) = (
    (v, sym (t.grows.kept scope found v) ∙ inside),
    λ w there. ⊎_elim
        (λ on. absurd (clash (value_of new.nodes met w) (t.means w ∙ and_from (value_of old.nodes scope w) (value_of old.nodes observer w) there on) (off w)))
        (λ no. no)
        (cases_Bool (value_of old.nodes observer w)),
  )

  pub seen_nothing : ((v : Valuation) → value_of new.nodes scope v ≡ false) → IsSeen old.nodes scope observer Nothing
  seen_nothing off v = sym (t.grows.kept scope found v) ∙ off v

-- LOCATIONS APART

-- the first k locations are apart, and this is true of their control states
pub record AreApartBelow (c : Certificate) (k : ℕ) (seen : Valuation → Bool) : Type 0 where
  pub gathered : (v : Valuation) → (seen v ≡ true) ↔ ((i : ℕ) × (l : Location) × (i < k) × (slice_get c.locations i ≡ Some l) × IsIn l.control v)
  pub disjoint : (i n : ℕ) (l m : Location) (v : Valuation) → i < k → n < k → slice_get c.locations i ≡ Some l → slice_get c.locations n ≡ Some m
      → IsIn l.control v → IsIn m.control v → i ≡ n
  pub nonempty : (i : ℕ) (l : Location) → i < k → slice_get c.locations i ≡ Some l → (v : Valuation) × IsIn l.control v

pub apart_start : (c : Certificate) (seen : Valuation → Bool) → ((v : Valuation) → seen v ≡ false) → AreApartBelow c 0 seen
apart_start c seen off = record {
  gathered = λ v. (λ on. absurd (clash (seen v) on (off v)), λ (i, l, low, at, inside). absurd (omega (arith, low)));
  disjoint = λ i n l m v low. absurd (omega (arith, low));
  nonempty = λ i l low. absurd (omega (arith, low));
}

-- the old ones have another meaning that is the same
pub apart_same : (c : Certificate) (k : ℕ) (f g : Valuation → Bool) → ((v : Valuation) → g v ≡ f v) → AreApartBelow c k f → AreApartBelow c k g
apart_same c k f g same h = record {
  gathered = λ v. (λ on. (h.gathered v).0 (sym (same v) ∙ on), λ held. same v ∙ (h.gathered v).1 held);
  disjoint = h.disjoint;
  nonempty = h.nonempty;
}

module _ (c : Certificate) (k : ℕ) (seen : Valuation → Bool) (l : Location) (at : slice_get c.locations k ≡ Some l) (h : AreApartBelow c k seen) where
  one-place : (i : ℕ) (x : Location) → k ≡ i → slice_get c.locations i ≡ Some x → l ≡ x
  one-place i x e there = same_Some l x (sym at ∙ ap (λ (n : ℕ). slice_get c.locations n) e ∙ there)

  pub apart_more : (more : Valuation → Bool) → ((v : Valuation) → more v ≡ (seen v || value_of l.control.nodes l.control.root v))
      → (v : Valuation) × IsIn l.control v → ((v : Valuation) → (seen v && value_of l.control.nodes l.control.root v) ≡ false) → AreApartBelow c (k + 1) more
  apart_more more means some off = record {
    gathered = λ v. (
      λ on. ⊎_elim
          (λ before. let (i, x, low, there, inside) = (h.gathered v).0 before in (i, x, omega (arith, low), there, inside))
          (λ here. (k, l, omega arith, at, here))
          (or_cases (seen v) (value_of l.control.nodes l.control.root v) (sym (means v) ∙ on)),
      λ (i, x, low, there, inside). means v ∙ ⊎_elim
          (λ less. or_left (seen v) (value_of l.control.nodes l.control.root v) ((h.gathered v).1 (i, x, less, there, inside)))
          (λ ge. or_right (seen v) (value_of l.control.nodes l.control.root v) (inside-here i x low ge there v inside))
          (cases_lt i k),
    );
    disjoint = λ i n x y v low low' there there' inside inside'. ⊎_elim
        (λ less. ⊎_elim
        (λ less'. h.disjoint i n x y v less less' there there' inside inside')
        (λ ge. absurd (meets v (i, x, less, there, inside) (inside-here n y low' ge there' v inside')))
        (cases_lt n k))
        (λ ge. ⊎_elim
        (λ less. absurd (meets v (n, y, less, there', inside') (inside-here i x low ge there v inside)))
        (λ ge'. omega (arith, low, low', ge, ge'))
        (cases_lt n k))
        (cases_lt i k);
    nonempty = λ i x low there. ⊎_elim
        (λ less. h.nonempty i x less there)
        (λ ge. subst (λ (y : Location). (v : Valuation) × IsIn y.control v) (one-place i x (omega (arith, low, ge)) there) some)
        (cases_lt i k);
  }
    where
      inside-here : (i : ℕ) (x : Location) → i < k + 1 → k ≤ i → slice_get c.locations i ≡ Some x → (v : Valuation) → IsIn x.control v → IsIn l.control v
      inside-here i x low ge there v inside = subst (λ (y : Location). IsIn y.control v) (sym (one-place i x (omega (arith, low, ge)) there)) inside

      meets : (v : Valuation) → (i : ℕ) × (x : Location) × (i < k) × (slice_get c.locations i ≡ Some x) × IsIn x.control v → IsIn l.control v → ⊥
      meets v held here = clash (seen v && value_of l.control.nodes l.control.root v) (and_from (seen v) (value_of l.control.nodes l.control.root v)
          ((h.gathered v).1 held) here) (off v)

  pub not_apart : ((v : Valuation) → value_of l.control.nodes l.control.root v ≡ false) ⊎ ((v : Valuation) × (seen v ≡ true) × IsIn l.control v)
      → AreApart c → ⊥
  not_apart (inl empty) apart = let (v, inside) = apart.nonempty k l at in clash _ inside (empty v)
  not_apart (inr (v, before, here)) apart =
      let (i, x, low, there, inside) = (h.gathered v).0 before in
      let e : i ≡ k = apart.disjoint i k x l v there at inside here in
      omega (arith, low, e)

pub apart_all : (c : Certificate) (k : ℕ) (seen : Valuation → Bool) → length c.locations ≤ k → AreApartBelow c k seen → AreApart c
apart_all c k seen size h = record {
  disjoint = λ i n l m v there there'. h.disjoint i n l m v (within i l there) (within n m there') there there';
  nonempty = λ i l there. h.nonempty i l (within i l there) there;
}
  where
    within : (i : ℕ) (l : Location) → slice_get c.locations i ≡ Some l → i < k
    within i l there = let low : i < length c.locations = slice_get_within c.locations i l there in omega (arith, low, size)

-- the control states of one more location
module _ (a b d : Diagrams) (seen set both : ℕ) (control : Frozen) (found : IsRef a.nodes seen)
    (p : Answers a b (value_of control.nodes control.root) set)
    (q : Answers b d (λ v. value_of b.nodes seen v && value_of b.nodes set v) both) where
  met-is : (v : Valuation) → value_of d.nodes both v ≡ (value_of a.nodes seen v && value_of control.nodes control.root v)
  met-is v = q.means v ∙ ap (λ x. x && value_of b.nodes set v) (p.grows.kept seen found v) ∙ ap (λ x. value_of a.nodes seen v && x) (p.means v)

  pub added_meets : (v : Valuation) × (value_of d.nodes both v ≡ true) → (v : Valuation) × (value_of a.nodes seen v ≡ true) × IsIn control v
  added_meets (v, on) = let h = and_parts (value_of a.nodes seen v) (value_of control.nodes control.root v) (sym (met-is v) ∙ on) in (v, h.0, h.1)

  pub added_off : ((v : Valuation) → value_of d.nodes both v ≡ false) → (v : Valuation)
      → (value_of a.nodes seen v && value_of control.nodes control.root v) ≡ false
  added_off off v = sym (met-is v) ∙ off v

  pub added_or : (e : Diagrams) (more : ℕ) → Answers d e (λ v. value_of d.nodes seen v || value_of d.nodes set v) more → (v : Valuation)
      → value_of e.nodes more v ≡ (value_of a.nodes seen v || value_of control.nodes control.root v)
  added_or e more r v =
      let in_b : IsRef b.nodes seen = omega (arith, found, p.grows.longer) in
      r.means v ∙ ap (λ x. x || value_of d.nodes set v) (q.grows.kept seen in_b v ∙ p.grows.kept seen found v)
      ∙ ap (λ x. value_of a.nodes seen v || x) (q.grows.kept set p.found v ∙ p.means v)

-- what the locations say of the partition
pub judged_of : (s : System) (c : Certificate) (o : Option (List ℕ)) → IsInRange s c → IsInitial s c → AreApart c
    → MatchOption o ((k : ℕ) × (l : Location) × (slice_get c.locations k ≡ Some l) × IsLocated s c l Nothing_here) (AreLocated s c (length c.locations))
    → MatchOption o ((left : List ℕ) → IsMarked s c left → ⊥) (IsMarked s c)
judged_of s c Nothing_here range initial apart (k, l, at, none) = unmarked_by s c k l at none
judged_of s c (Some left) range initial apart located = marked_of s c (length c.locations) left range initial apart refl located

pub left_when : (s : System) (c : Certificate) (o : Option (List ℕ)) → MatchOption o ((left : List ℕ) → IsMarked s c left → ⊥) (IsMarked s c)
    → (left : List ℕ) → o ≡ Some left → 0 < length left → IsLeftPartition s c left
left_when s c Nothing_here h left e some = absurd (none-some left e)
left_when s c (Some xs) h left e some = left_of s c left (subst (IsMarked s c) (same_Some xs left e) h) some

pub accepted_when : (s : System) (c : Certificate) (o : Option (List ℕ)) → MatchOption o ((left : List ℕ) → IsMarked s c left → ⊥) (IsMarked s c)
    → o ≡ Some [] → IsAccepted s c
accepted_when s c Nothing_here h e = absurd (none-some [] e)
accepted_when s c (Some xs) h e = accepted_of s c xs h (same_Some xs [] e)

pub only_when : (s : System) (c : Certificate) (o : Option (List ℕ)) → MatchOption o ((left : List ℕ) → IsMarked s c left → ⊥) (IsMarked s c)
    → (left : List ℕ) → IsLeftPartition s c left → IsSome o
only_when s c Nothing_here h left is = absurd (h left (marked_from s c left is))
only_when s c (Some xs) h left is = refl
