-- A record is awaited exactly where the records before it and it begin a document.
use Rattle.std.proofs.Common.{◌≡◌, ℕ, zero, suc, List, [], ◌∷◌, ◌++◌, refl, sym, ap, ◌∙◌, subst, append_assoc}
use Rattle.std.specs.Prelude.{None, ◌↔◌}
use Rattle.rv_invfile.specs.Rules.{Fields, Rule, done, await, awaited, fault_in, after, fault_after, HasNoFault}
use Rattle.rv_invfile.specs.{Parts.bind, Parts.times, Spells.IsAlive, Spells.BeginsDocument}
use Rattle.rv_invfile.proofs.{Exact.none-first, Exact.none-more, Exact.first-right, Exact.rest-right, Spelled.spells-document, Spelled.goes, Spelled.goes-on}
use Rattle.rv_invfile.proofs.{Spelled.alive-after, Loops.times_more, Loops.times_none}

next-rule : {A : Type 0} (rule : Rule A) (b : Fields) (bs : List Fields) → after rule (b ∷ bs) ≡ after (after rule (b ∷ [])) bs
next-rule (done a) b [] = refl
next-rule (done a) b (x ∷ bs) = refl
next-rule (await forms next) b bs = refl

one-more : {A : Type 0} (rule : Rule A) (before : List Fields) (r : Fields) → HasNoFault rule before → fault_after rule before r ≡ None
    → HasNoFault rule (before ++ r ∷ [])
one-more rule [] r n h = none-more rule r [] h (none-first (after rule (r ∷ [])))
one-more rule (b ∷ bs) r n h =
    none-more rule b (bs ++ r ∷ []) (first-right rule b bs n)
    (one-more (after rule (b ∷ [])) bs r (rest-right rule b bs n) (ap (λ x. fault_in (awaited x) r) (sym (next-rule rule b bs)) ∙ h))

-- records at which no fault is begin a document
pub no-fault-begins : {A : Type 0} (rule : Rule A) → IsAlive rule → (rs : List Fields) → HasNoFault rule rs → BeginsDocument rule rs
no-fault-begins rule alive rs n =
    let g = goes (after rule rs) (alive-after rule rs alive n) in
    (g.records, g.value, spells-document rule g.value (rs ++ g.records) (goes-on rule rs g.records g.value n g.spelled))

pub awaited-begins : {A : Type 0} (rule : Rule A) → IsAlive rule → (before : List Fields) (r : Fields) → HasNoFault rule before
    → (fault_after rule before r ≡ None) ↔ BeginsDocument rule (before ++ r ∷ [])
awaited-begins rule alive before r n = (
  λ h. no-fault-begins rule alive (before ++ r ∷ []) (one-more rule before r n h),
  λ b. b.2.0 before r b.0 (append_assoc before (r ∷ []) b.0),
)

-- ---- Rules that are alive.
pub alive-bind : {A B : Type 0} (p : Rule A) (k : A → Rule B) → IsAlive p → ((a : A) → IsAlive (k a)) → IsAlive (bind p k)
alive-bind (done a) k h g = g a
alive-bind (await forms next) k h g = (h.0, λ r e. alive-bind (next r) k (h.1 r e) g)

pub alive-times : {A : Type 0} (n : ℕ) (part : Rule A) → IsAlive part → IsAlive (times n part)
alive-times zero part h = subst IsAlive (sym (times_none part)) tt
alive-times (suc n) part h = subst IsAlive (sym (times_more n part)) (alive-bind part (λ a. bind (times n part) (λ more. done (a ∷ more))) h
    (λ a. alive-bind (times n part) (λ more. done (a ∷ more)) (alive-times n part h) (λ more. tt)))
