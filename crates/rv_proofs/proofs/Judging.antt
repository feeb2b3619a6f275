-- There is one right verdict.
use Rattle.std.proofs.Common.{◌≡◌, ℕ, zero, suc, ◌-◌, ◌<◌, ◌≤◌, Bool, true, false, List, [], ◌∷◌, length, get_or, All, Some, slice_get, arith, refl, sym, ap}
use Rattle.std.proofs.Common.{◌∙◌, subst, ◌⊎◌, inl, inr}
use Rattle.std.proofs.lemmas.Option.{same_Some, slice_get_within, get_or_from_slice_get}
use Rattle.std.proofs.{lemmas.Bool.cases_lt, lemmas.List.Elements.Contains-get_or}
use Rattle.rv_diagram.specs.Nodes.{Valuation, valuation_of, ComesBefore}
use Rattle.rv_proofs.specs.Accepted.{IsAccepted, IsEntry, AreImplied, IsStepKind, IsDeadKind, Leads}
use Rattle.rv_proofs.specs.Verdicts.{IsTarget, Fails, place, word_of, IsBefore, IsFirst, IsVerdict}
use Rattle.rv_proofs.specs.{Systems.System, Scopes.IsIn, Scopes.IsInScope, Scopes.implications, Implied.IsImplied, Left.IsLeftPartition, Left.IsFailingStep}
use Rattle.rv_proofs.specs.{Left.IsUnrefuted, declared.certificate.Certificate.Certificate, declared.certificate.Location.Location}
use Rattle.rv_proofs.specs.{declared.certificate.Entry.Entry, declared.certificate.EntryKind.EntryKind, declared.certificate.EntryKind.TheVariants.Dead}
use Rattle.rv_proofs.specs.{declared.certificate.EntryKind.TheVariants.Go, declared.certificate.EntryKind.TheVariants.Loop, declared.verdict.Verdict.Verdict}
use Rattle.rv_proofs.specs.{declared.verdict.Verdict.TheVariants.Accepted, declared.verdict.Verdict.TheVariants.Rejected, declared.verdict.Reason.Reason}
use Rattle.rv_proofs.specs.declared.verdict.Reason.TheVariants as reason
use Rattle.rv_proofs.proofs.Filed.{not_true_false}

pub All-at : {X : Type 0} (P : X → Type 0) (xs : List X) (n : ℕ) (x : X) → All P xs → slice_get xs n ≡ Some x → P x
All-at P xs n x h at = subst P (get_or_from_slice_get xs n x x at) (h n x (slice_get_within xs n x at))

-- each entry of an accepted certificate has its implications
all_implied : (s : System) (c : Certificate) → IsAccepted s c → (k j : ℕ) (l : Location) (e : Entry) → IsEntry c k j l e → AreImplied s c l e
all_implied s c acc k j l e is = go e.kind (acc.partition.steps k j l e is) (acc.dead k j l e is)
  where
    go : (kind : EntryKind) → (IsStepKind kind → AreImplied s c l e) → (IsDeadKind kind → AreImplied s c l e) → AreImplied s c l e
    go (Dead by) step dead = dead tt
    go (Go target reach) step dead = step tt
    go (Loop first before_all around state) step dead = step tt

target_reached : (s : System) (c : Certificate) (l into : Location) (e : Entry) (kind : EntryKind) (v : Valuation) → Leads s c l e kind → IsTarget c l kind into
    → IsInScope s l e v → IsIn into.control (s.next v)
target_reached s c l into e (Dead by) v leads target scope = absurd target
target_reached s c l into e (Go number reach) v leads target scope =
    let same : leads.0 ≡ into = same_Some _ _ (sym leads.1 ∙ target) in
    subst (λ m. IsIn m.control (s.next v)) same (leads.2 v scope)
target_reached s c l into e (Loop first before_all around state) v leads target scope =
    subst (λ m. IsIn m.control (s.next v)) (sym target) (leads v scope)

pub nothing_fails : (s : System) (c : Certificate) (r : Reason) → IsAccepted s c → Fails s c r → ⊥
nothing_fails s c (reason.NoInitial word) acc f =
    let (k, l, at, empty, control) = acc.partition.initial (valuation_of word) f.initial in
    f.nowhere k l at empty control
nothing_fails s c (reason.Uncovered k word) acc (l, at, f) =
    let (j, e, there, condition) = acc.partition.covered k l at (valuation_of word) f.allowed f.control in
    f.nowhere j e there condition
nothing_fails s c (reason.Unsettled k j) acc (l, e, is, f) = f (acc.partition.settled k j l e is)
nothing_fails s c (reason.Observer k j word) acc (l, e, is, f) = not_true_false _ (acc.observed k j l e is f.step (valuation_of word) f.scope) f.fails
nothing_fails s c (reason.Target k j word) acc (l, e, is, f) =
    f.elsewhere (target_reached s c l f.into e e.kind (valuation_of word) (acc.partition.leads k j l e is) f.target f.scope)
nothing_fails s c (reason.Multipliers k j n) acc (l, e, i, is, at, f) =
    f (All-at (IsImplied s l e) (implications c l e.kind) n i (all_implied s c acc k j l e is) at)
nothing_fails s c (reason.Inclusion k n) acc (l, at, inl f) =
    let (m, there, proof) = (acc.partition.included k l at).entry n f.row f.at in
    f.fails m there proof
nothing_fails s c (reason.Inclusion k n) acc (l, at, inr (has, past, f)) =
    let (m, there, proof) = (acc.partition.included k l at).first has (n - length l.state) f.row f.at in
    f.fails m there proof

-- lists of numbers are equal, or one is before the other
compared : (xs ys : List ℕ) → (xs ≡ ys) ⊎ (IsBefore xs ys ⊎ IsBefore ys xs)
compared [] [] = inl refl
compared [] (y ∷ ys) = inr (inl tt)
compared (x ∷ xs) [] = inr (inr tt)
compared (x ∷ xs) (y ∷ ys) = go (cases_lt x y) (cases_lt y x) (compared xs ys)
  where
    go : (x < y) ⊎ (y ≤ x) → (y < x) ⊎ (x ≤ y) → (xs ≡ ys) ⊎ (IsBefore xs ys ⊎ IsBefore ys xs)
        → ((x ∷ xs) ≡ (y ∷ ys)) ⊎ (IsBefore (x ∷ xs) (y ∷ ys) ⊎ IsBefore (y ∷ ys) (x ∷ xs))
    go (inl less) q r = inr (inl (inl less))
    go (inr p) (inl less) r = inr (inr (inl less))
    go (inr p) (inr q) (inl same) = let e : x ≡ y = omega arith in inl (cc)
    go (inr p) (inr q) (inr (inl b)) = inr (inl (inr (omega arith, b)))
    go (inr p) (inr q) (inr (inr b)) = inr (inr (inr (omega arith, b)))

-- words of one length are equal, or one comes before the other
words : (u w : List Bool) → length u ≡ length w → (u ≡ w) ⊎ (ComesBefore (valuation_of u) (valuation_of w) ⊎ ComesBefore (valuation_of w) (valuation_of u))
words [] [] e = inl refl
words [] (b ∷ w) e = absurd (omega arith)
words (a ∷ u) [] e = absurd (omega arith)
words (a ∷ u) (b ∷ w) e = go a b (words u w (omega arith))
  where
    later : (d : Bool) (p q : List Bool) → ComesBefore (valuation_of p) (valuation_of q) → ComesBefore (valuation_of (d ∷ p)) (valuation_of (d ∷ q))
    later d p q (x, same, low, high) = (suc x, elim [ zero ↦ λ h. refl | suc k ↦ λ h. same k (omega arith) ], low, high)

    go : (a b : Bool) → (u ≡ w) ⊎ (ComesBefore (valuation_of u) (valuation_of w) ⊎ ComesBefore (valuation_of w) (valuation_of u))
        → ((a ∷ u) ≡ (b ∷ w)) ⊎ (ComesBefore (valuation_of (a ∷ u)) (valuation_of (b ∷ w)) ⊎ ComesBefore (valuation_of (b ∷ w)) (valuation_of (a ∷ u)))
    go false true r = inr (inl (0, (λ k h. absurd (omega arith)), refl, refl))
    go true false r = inr (inr (0, (λ k h. absurd (omega arith)), refl, refl))
    go true true (inl same) = inl (ap (λ z. true ∷ z) same)
    go true true (inr (inl b)) = inr (inl (later true u w b))
    go true true (inr (inr b)) = inr (inr (later true w u b))
    go false false (inl same) = inl (ap (λ z. false ∷ z) same)
    go false false (inr (inl b)) = inr (inl (later false u w b))
    go false false (inr (inr b)) = inr (inr (later false w u b))

-- a reason from its place and its word
reason_of : List ℕ → List Bool → Reason
reason_of (zero ∷ ps) w = reason.NoInitial w
reason_of (suc p ∷ k ∷ zero ∷ n ∷ ps) w = reason.Inclusion k n
reason_of (suc p ∷ k ∷ suc zero ∷ ps) w = reason.Uncovered k w
reason_of (suc p ∷ k ∷ suc (suc q) ∷ j ∷ zero ∷ ps) w = reason.Unsettled k j
reason_of (suc p ∷ k ∷ suc (suc q) ∷ j ∷ suc zero ∷ ps) w = reason.Observer k j w
reason_of (suc p ∷ k ∷ suc (suc q) ∷ j ∷ suc (suc zero) ∷ ps) w = reason.Target k j w
reason_of (suc p ∷ k ∷ suc (suc q) ∷ j ∷ suc (suc (suc r)) ∷ n ∷ ps) w = reason.Multipliers k j n
reason_of _ w = reason.NoInitial w

reason_is : (r : Reason) → reason_of (place r) (word_of r) ≡ r
unfolding reason_of
reason_is (reason.NoInitial w) = refl
reason_is (reason.Uncovered k w) = refl
reason_is (reason.Unsettled k j) = refl
reason_is (reason.Observer k j w) = refl
reason_is (reason.Target k j w) = refl
reason_is (reason.Multipliers k j n) = refl
reason_is (reason.Inclusion k n) = refl

-- how long the word of a reason is, by its place
size_at : ℕ → List ℕ → ℕ
size_at n (zero ∷ ps) = n
size_at n (suc p ∷ k ∷ suc zero ∷ ps) = n
size_at n (suc p ∷ k ∷ suc (suc q) ∷ j ∷ suc zero ∷ ps) = n
size_at n (suc p ∷ k ∷ suc (suc q) ∷ j ∷ suc (suc zero) ∷ ps) = n
size_at n _ = 0

word_size : (s : System) (c : Certificate) (r : Reason) → Fails s c r → length (word_of r) ≡ size_at s.variables (place r)
unfolding size_at
word_size s c (reason.NoInitial w) f = f.word.size
word_size s c (reason.Uncovered k w) (l, at, f) = f.word.size
word_size s c (reason.Unsettled k j) f = refl
word_size s c (reason.Observer k j w) (l, e, is, f) = f.word.size
word_size s c (reason.Target k j w) (l, e, is, f) = f.word.size
word_size s c (reason.Multipliers k j n) f = refl
word_size s c (reason.Inclusion k n) f = refl

same_first : (s : System) (c : Certificate) (q r : Reason) → IsFirst s c q → IsFirst s c r → q ≡ r
same_first s c q r a b = go (compared (place q) (place r))
  where
    go : (place q ≡ place r) ⊎ (IsBefore (place q) (place r) ⊎ IsBefore (place r) (place q)) → q ≡ r
    go (inr (inl h)) = absurd (b.earlier q a.fails h)
    go (inr (inr h)) = absurd (a.earlier r b.fails h)
    go (inl same) = then (words (word_of q) (word_of r) (word_size s c q a.fails ∙ ap (size_at s.variables) same ∙ sym (word_size s c r b.fails)))
      where
        then : (word_of q ≡ word_of r) ⊎ (ComesBefore (valuation_of (word_of q)) (valuation_of (word_of r)) ⊎ ComesBefore (valuation_of (word_of r))
            (valuation_of (word_of q))) → q ≡ r
        then (inr (inl h)) = absurd (b.least q a.fails same h)
        then (inr (inr h)) = absurd (a.least r b.fails (sym same) h)
        then (inl e) = sym (reason_is q) ∙ ap (λ p. reason_of p (word_of q)) same ∙ ap (reason_of (place r)) e ∙ reason_is r

pub same_verdict : (s : System) (c : Certificate) (u v : Verdict) → IsVerdict s c u → IsVerdict s c v → u ≡ v
same_verdict s c Accepted Accepted a b = refl
same_verdict s c Accepted (Rejected r) a b = absurd (nothing_fails s c r a b.fails)
same_verdict s c (Rejected q) Accepted a b = absurd (nothing_fails s c q b a.fails)
same_verdict s c (Rejected q) (Rejected r) a b = ap Rejected (same_first s c q r a b)

pub not_accepted : (s : System) (c : Certificate) (left : List ℕ) → IsLeftPartition s c left → IsAccepted s c → ⊥
not_accepted s c left p acc =
    let some = p.some in
    let (j, l, e, is, used) = p.used (get_or left 0 0) (Contains-get_or left 0 0 some) in
    go (get_or left 0 0) j l e is used
  where
    go : (k j : ℕ) (l : Location) (e : Entry) → IsEntry c k j l e → IsFailingStep s l e ⊎ IsUnrefuted s c l e → ⊥
    go k j l e is (inl f) = not_true_false _ (acc.observed k j l e is f.step f.valuation f.scope) f.fails
    go k j l e is (inr f) = f.lacks (acc.dead k j l e is f.dead)
