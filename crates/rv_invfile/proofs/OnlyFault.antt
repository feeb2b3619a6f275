-- The first fault of records is the one that reading answers, so there is one at most, and none where they are a document.
use Rattle.std.proofs.Common.{◌≡◌, ◌+◌, ℕ, List, [], ◌∷◌, ◌++◌, length, refl, sym, ap, ◌∙◌, arith, inl, inr}
use Rattle.std.specs.Prelude.{Some, Result, Ok, Err}
use Rattle.rv_invfile.specs.Rules.{Fields, Rule, done, await, after, fault_after, HasNoFault}
use Rattle.rv_invfile.specs.Readers.{◌>>=◌, Gives, fault_at, judged, run, closing, whole}
use Rattle.rv_invfile.specs.{declared.fault.Why.Why, declared.fault.FileFault.FileFault, Faults.Faulty, Faults.IsFirstFault, Tells.Refuses}
use Rattle.rv_invfile.specs.declared.fault.Why.TheVariants as why
use Rattle.rv_invfile.specs.declared.fault.FileFault.TheVariants as fault
use Rattle.rv_invfile.proofs.Exact.{first-right, rest-right, nothing-awaited, whole_from, Unfinished}

pub reads-fault : {A : Type 0} (rule : Rule A) (n : ℕ) (before : List Fields) (here : Fields) (more : List Fields) (y : Why) → HasNoFault rule before
    → fault_after rule before here ≡ Some y → whole_from rule n (before ++ here ∷ more) ≡ Err (fault_at (n + length before) y)
reads-fault (done a) n [] here more y r h = ap (λ o. judged o n here more >>= λ x. Ok a) h ∙ ap (λ k. Err (fault_at k y)) (omega arith)
reads-fault (done a) n (b ∷ bs) here more y r h = absurd (nothing-awaited b (first-right (done a) b bs r))
reads-fault (await forms next) n [] here more y r h =
    ap (λ o. (judged o n here more >>= λ x. run (next x.0) x.1) >>= λ x. closing x.0 x.1) h ∙ ap (λ k. Err (fault_at k y)) (omega arith)
reads-fault (await forms next) n (b ∷ bs) here more y r h =
    ap (λ o. (judged o n b (bs ++ here ∷ more) >>= λ x. run (next x.0) x.1) >>= λ x. closing x.0 x.1) (first-right (await forms next) b bs r)
    ∙ reads-fault (next b) (n + 1) bs here more y (rest-right (await forms next) b bs r) h ∙ ap (λ k. Err (fault_at k y)) (omega arith)

pub reads-end : {A : Type 0} (rule : Rule A) (n : ℕ) (rs : List Fields) → HasNoFault rule rs → Unfinished (after rule rs)
    → whole_from rule n rs ≡ Err (fault.Ends (n + length rs))
reads-end (done a) n [] r u = absurd (u a refl)
reads-end (done a) n (b ∷ bs) r u = absurd (u a refl)
reads-end (await forms next) n [] r u = ap (λ k. Err (fault.Ends k)) (omega arith)
reads-end (await forms next) n (b ∷ bs) r u =
    ap (λ o. (judged o n b bs >>= λ x. run (next x.0) x.1) >>= λ x. closing x.0 x.1) (first-right (await forms next) b bs r)
    ∙ reads-end (next b) (n + 1) bs (rest-right (await forms next) b bs r) u ∙ ap (λ k. Err (fault.Ends k)) (omega arith)

err-same : {A : Type 0} {e g : FileFault} → ◌≡◌ {A = Result A FileFault} (Err e) (Err g) → e ≡ g
err-same e = cc

module _ {A : Type 0} (rule : Rule A) (rs : List Fields) where
  from-faulty : (n : ℕ) (y : Why) → Faulty rule rs n y → whole rule rs ≡ Err (fault_at n y)
  from-faulty n y f =
      ap (λ l. whole_from rule 0 l) f.records ∙ reads-fault rule 0 f.before f.here f.more y f.right f.wrong
      ∙ ap (λ k. Err (fault_at k y)) (omega (arith, f.number))

  pub first-fault : (e : FileFault) → IsFirstFault rule rs e → whole rule rs ≡ Err e
  first-fault (fault.NotRecords n) f = from-faulty n why.NotRecords f
  first-fault (fault.WrongKind n) f = from-faulty n why.WrongKind f
  first-fault (fault.WrongProgram n) f = from-faulty n why.WrongProgram f
  first-fault (fault.BadNumber n i) f = from-faulty n (why.BadNumber i) f
  first-fault (fault.Ends n) f = reads-end rule 0 rs f.right f.unfinished ∙ ap (λ k. Err (fault.Ends k)) (omega (arith, f.number))
  first-fault fault.Memory f = absurd f

  refused-by : (f : FileFault) (r : Result A FileFault) → whole rule rs ≡ Err f → Gives (whole rule rs) r → Refuses f r
  refused-by f (Ok b) h g = cc
  refused-by f (Err fault.Memory) h g = inl refl
  refused-by f _ h g = inr (err-same (sym g ∙ h))

  pub fault-found : (f : FileFault) (r : Result A FileFault) → IsFirstFault rule rs f → Gives (whole rule rs) r → Refuses f r
  fault-found f r h g = refused-by f r (first-fault f h) g
