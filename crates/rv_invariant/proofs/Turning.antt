-- Which entries may be, and must be, turns of a loop.
use Rattle.std.proofs.Common.{◌≡◌, ◌≤◌, ℕ, zero, suc, Bool, true, false, cond, List, [], ◌∷◌, ◌++◌, length, refl, sym, ap, ◌∙◌, subst, arith}
use Rattle.std.proofs.Common.{true≢false}
use Rattle.std.proofs.lemmas.Bool.{eqb-true, ltb-false, false_from_ne_true}
use Rattle.std.specs.Prelude.{◌&&◌, ◌||◌, not, nat_eq, nat_lt, Some, slice_get}
use Rattle.std.specs.List.{AllByRecursion}
use Rattle.rv_proofs.specs.declared.certificate.EntryKind.TheVariants.{Dead, Go, Loop}
use Rattle.rv_proofs.specs.{Counts.IsLoop, Counts.IsLoopKind, Counts.HasLoop, declared.certificate.Entry.Entry, declared.certificate.EntryKind.EntryKind}
use Rattle.rv_proofs.specs.declared.certificate.Location.{Location}
use Rattle.rv_invariant.specs.Certificates.{is_turn, is_turn_kind, kinds_at}
use Rattle.rv_invariant.specs.declared.outlines.Kinds.{Kinds}
use Rattle.rv_invariant.specs.declared.outlines.Kinds.TheVariants as kinds

pub differ : {X : Type 0} (b : Bool) → b ≡ true → b ≡ false → X
differ b h k = absurd (true≢false (sym h ∙ k))

-- some entry is a turn
abbrev pub has_turn : List Entry → Bool
has_turn [] = false
has_turn (e ∷ es) = is_turn e || has_turn es

kind-turns : (k : EntryKind) → IsLoopKind k → is_turn_kind k ≡ true
kind-turns (Dead by) h = absurd h
kind-turns (Go target reach) h = absurd h
kind-turns (Loop first before around state) h = refl

turn-kind : (k : EntryKind) → is_turn_kind k ≡ true → IsLoopKind k
turn-kind (Dead by) h = cc
turn-kind (Go target reach) h = cc
turn-kind (Loop first before around state) h = tt

or-first : (a b : Bool) → a ≡ true → (a || b) ≡ true
or-first a b h = ap (λ x. x || b) h

or-second : (a b : Bool) → b ≡ true → (a || b) ≡ true
or-second true b h = refl
or-second false b h = h

loop-turns : (es : List Entry) (j : ℕ) (e : Entry) → slice_get es j ≡ Some e → IsLoop e → has_turn es ≡ true
loop-turns [] j e h l = cc
loop-turns (x ∷ es) zero e h l = or-first (is_turn x) (has_turn es) (ap is_turn (same x e h) ∙ kind-turns e.kind l)
  where
    same : (a b : Entry) → Some a ≡ Some b → a ≡ b
    same a b e = cc
loop-turns (x ∷ es) (suc j) e h l = or-second (is_turn x) (has_turn es) (loop-turns es j e h l)

pub has-turn : (l : Location) → HasLoop l → has_turn l.entries ≡ true
has-turn l p = loop-turns l.entries p.0 p.1 p.2 p.3

turns-loop : (es : List Entry) → has_turn es ≡ true → (j : ℕ) × (e : Entry) × (slice_get es j ≡ Some e) × IsLoop e
turns-loop [] h = cc
turns-loop (x ∷ es) h = by (is_turn x) refl h (λ k. turns-loop es k)
  where
    by : (b : Bool) → is_turn x ≡ b → (b || has_turn es) ≡ true
        → (has_turn es ≡ true → (j : ℕ) × (e : Entry) × (slice_get es j ≡ Some e) × IsLoop e)
        → (j : ℕ) × (e : Entry) × (slice_get (x ∷ es) j ≡ Some e) × IsLoop e
    by true d k later = (0, x, refl, turn-kind x.kind d)
    by false d k later = let p = later k in (suc p.0, p.1, p.2, p.3)

pub has-loop : (l : Location) → has_turn l.entries ≡ true → HasLoop l
has-loop l h = turns-loop l.entries h

pub none-turns : (es : List Entry) → length es ≡ 0 → has_turn es ≡ false
none-turns [] h = refl
none-turns (e ∷ es) h = absurd (omega arith)

pub some-turns : (es : List Entry) → has_turn es ≡ true → 1 ≤ length es
some-turns [] h = cc
some-turns (e ∷ es) h = omega arith

-- ---- Kinds.
-- an entry is, or is not, a turn, as it is awaited
abbrev pub Obeys : Kinds → Bool → Type 0
Obeys kinds.Plain b = b ≡ false
Obeys kinds.Any b = Unit {0}
Obeys kinds.Turn b = b ≡ true

-- a turn stands only where the location may have one
pub obeys-turns : (turns needed : Bool) (left : ℕ) (b : Bool) → Obeys (kinds_at turns needed left) b → b ≡ true → turns ≡ true
obeys-turns true needed left b h e = refl
obeys-turns false needed left b h e = differ b e h

-- where one is needed, this entry or a later one is it
pub obeys-needed : (needed b later : Bool) (n : ℕ) → needed ≡ true → Obeys (kinds_at true needed n) b → ((needed && not b) ≡ true → 1 ≤ n → later ≡ true)
    → (b || later) ≡ true
obeys-needed false b later n e h f = cc
obeys-needed true true later n e h f = refl
obeys-needed true false later zero e h f = cc
obeys-needed true false later (suc n) e h f = f refl (omega arith)

not-last : (n : ℕ) → nat_eq (suc n) 0 ≡ false
not-last n = false_from_ne_true (nat_eq (suc n) 0) (λ e. let z = eqb-true (suc n) 0 e in absurd (omega (arith, z)))

-- the same the other way round
pub may-obey : (turns needed b later : Bool) (n : ℕ) → ((b || later) ≡ true → turns ≡ true) → (needed ≡ true → (b || later) ≡ true)
    → (n ≡ 0 → later ≡ false) → Obeys (kinds_at turns needed n) b
may-obey false needed true later n f g h = let e = f refl in cc
may-obey false needed false later n f g h = refl
may-obey true false b later n f g h = tt
may-obey true true true later zero f g h = refl
may-obey true true false later zero f g h = differ later (g refl) (h refl)
may-obey true true b later (suc n) f g h = subst (λ x. Obeys (cond x kinds.Turn kinds.Any) b) (sym (not-last n)) tt

pub still-needed : (needed b later : Bool) → (needed ≡ true → (b || later) ≡ true) → (needed && not b) ≡ true → later ≡ true
still-needed false b later f h = cc
still-needed true true later f h = cc
still-needed true false later f h = f refl

pub later-turns : (b later turns : Bool) → ((b || later) ≡ true → turns ≡ true) → later ≡ true → turns ≡ true
later-turns b later turns f h = f (or-second b later h)

-- ---- Lists.
pub all-joined : {A : Type 0} (P : A → Type 0) (xs ys : List A) → AllByRecursion P xs → AllByRecursion P ys → AllByRecursion P (xs ++ ys)
all-joined P [] ys h k = k
all-joined P (x ∷ xs) ys h k = (h.0, all-joined P xs ys h.1 k)

pub all-parted : {A : Type 0} (P : A → Type 0) (xs ys : List A) → AllByRecursion P (xs ++ ys) → AllByRecursion P xs × AllByRecursion P ys
all-parted P [] ys h = (tt, h)
all-parted P (x ∷ xs) ys h = let p = all-parted P xs ys h.1 in ((h.0, p.0), p.1)

pub nothing-in : {A : Type 0} (xs : List A) → nat_lt 0 (length xs) ≡ false → xs ≡ []
nothing-in [] h = refl
nothing-in (x ∷ xs) h = let z = ltb-false 0 (length (x ∷ xs)) h in absurd (omega (arith, z))

pub neither : (a b : Bool) → (a || b) ≡ false → (a ≡ false) × (b ≡ false)
neither false b h = (refl, h)
neither true b h = cc
