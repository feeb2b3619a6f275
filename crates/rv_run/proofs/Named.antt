-- What holds of the loaded bytes holds of the file that the words name.
use Rattle.std.proofs.Common.{◌≡◌, ℕ, ◌≤◌, List, length, Some, None, Option, refl, subst, sym, ap, ◌∙◌, IsSomeAnd}
use Rattle.std.specs.FinMap.{get}
use Rattle.rv_base.specs.Shelf.{Shelf, HoldsUnder}
use Rattle.rv_run.specs.{Words.Wanted, declared.words.Task.Task, Answers.OnFile, Answers.OnDocument, Answers.Tells, Answers.IsTold, Answers.IsToldDocument}

-- what is true of bytes is true of equal bytes
held_too : (found : Option (List ℕ)) (loaded : List ℕ) (limit : ℕ) (P : List ℕ → Type 0)
    → IsSomeAnd found (λ bytes. (loaded ≡ bytes) × (length bytes ≤ limit)) → P loaded → IsSomeAnd found P
held_too None loaded limit P h p = h
held_too (Some bytes) loaded limit P h p = subst P h.0 p

pub under_name : (held : Option Shelf) (name loaded : List ℕ) (limit : ℕ) (P : List ℕ → Type 0)
    → HoldsUnder held name (λ bytes. (loaded ≡ bytes) × (length bytes ≤ limit)) → P loaded → HoldsUnder held name P
under_name None name loaded limit P h p = tt
under_name (Some shelf) name loaded limit P h p = held_too (get shelf name) loaded limit P h p

pub on_file : (held : Option Shelf) (w : Wanted) (named : List ℕ × List ℕ) (loaded given : List ℕ) (limit : ℕ) (P : List ℕ → List ℕ → Type 0)
    → w.named ≡ Some named → HoldsUnder held named.0 (λ bytes. (loaded ≡ bytes) × (length bytes ≤ limit)) → given ≡ loaded → P given named.1 → OnFile held w P
on_file held w named loaded given limit P is h same p =
    subst (λ o. IsSomeAnd o (λ n. HoldsUnder held n.0 (λ bytes. P bytes n.1))) (sym is)
    (under_name held named.0 loaded limit (λ bytes. P bytes named.1) h (subst (λ bytes. P bytes named.1) same p))

pub same_pair : (a b : List ℕ × List ℕ) → Some a ≡ Some b → a ≡ b
same_pair a b h = cc

pub loaded_is : (held : Option Shelf) (name loaded bytes : List ℕ) (limit : ℕ)
    → HoldsUnder held name (λ bytes. (loaded ≡ bytes) × (length bytes ≤ limit)) → Tells held name bytes → loaded ≡ bytes
loaded_is None name loaded bytes limit h told = absurd told
loaded_is (Some shelf) name loaded bytes limit h told =
    (subst (λ o. IsSomeAnd o (λ bytes. (loaded ≡ bytes) × (length bytes ≤ limit))) told h).0

-- what the files tell of the file that the words name is so of the loaded bytes
pub told_of : (held : Option Shelf) (w : Wanted) (named : List ℕ × List ℕ) (loaded given : List ℕ) (limit : ℕ) (P : List ℕ → List ℕ → Type 0)
    → w.named ≡ Some named → HoldsUnder held named.0 (λ bytes. (loaded ≡ bytes) × (length bytes ≤ limit)) → given ≡ loaded → IsTold held w P → P given named.1
told_of held w named loaded given limit P is h same told =
    let pair : named ≡ (told.file, told.node) = same_pair named (told.file, told.node) (sym is ∙ told.named) in
    let there : HoldsUnder held told.file (λ bytes. (loaded ≡ bytes) × (length bytes ≤ limit)) =
    subst (λ n. HoldsUnder held n.0 (λ bytes. (loaded ≡ bytes) × (length bytes ≤ limit))) pair h in
    subst (λ n. P given n.1) (sym pair)
    (subst (λ bytes. P bytes told.node) (sym (same ∙ loaded_is held told.file loaded told.bytes limit there told.told)) told.holds)

-- what holds of the bytes under a name holds of those that the files tell
pub told_under : (held : Option Shelf) (name bytes : List ℕ) (P : List ℕ → Type 0) → HoldsUnder held name P → Tells held name bytes → P bytes
told_under None name bytes P h told = absurd told
told_under (Some shelf) name bytes P h told = subst (λ o. IsSomeAnd o P) told h

-- what is so of each list of bytes with P is so under the name
pub more_under : (held : Option Shelf) (name : List ℕ) (P Q : List ℕ → Type 0) → ((bytes : List ℕ) → P bytes → Q bytes) → HoldsUnder held name P
    → HoldsUnder held name Q
more_under None name P Q to h = tt
more_under (Some shelf) name P Q to h = more (get shelf name) h
  where
    more : (o : Option (List ℕ)) → IsSomeAnd o P → IsSomeAnd o Q
    more None h = h
    more (Some bytes) h = to bytes h

-- The same of both files that the words of a command with a document name.
module _ (held : Option Shelf) (w : Wanted) (named : List ℕ × List ℕ) (other : Task × List ℕ) (loaded given : List ℕ) (limit : ℕ)
    (P : List ℕ → List ℕ → List ℕ → Type 0)
    (is : w.named ≡ Some named) (with_other : w.beside ≡ Some other)
    (whole : HoldsUnder held named.0 (λ bytes. (loaded ≡ bytes) × (length bytes ≤ limit))) (same : given ≡ loaded) where
  pub on_document : HoldsUnder held other.1 (P given named.1) → OnDocument held w other.0 P
  on_document h =
      subst (λ o. IsSomeAnd o (λ n. IsSomeAnd (w.beside) (λ t. (t.0 ≡ other.0) × HoldsUnder held n.0 (λ bytes. HoldsUnder held t.1 (P bytes n.1))))) (sym is)
      (subst (λ o. IsSomeAnd o (λ t. (t.0 ≡ other.0) × HoldsUnder held named.0 (λ bytes. HoldsUnder held t.1 (P bytes named.1)))) (sym with_other) (
        refl,
        under_name held named.0 loaded limit (λ bytes. HoldsUnder held other.1 (P bytes named.1)) whole
            (subst (λ bytes. HoldsUnder held other.1 (P bytes named.1)) same h),
      ))

  pub told_of_document : (task : Task) (told : IsToldDocument held w task P)
      → (task ≡ other.0) × Tells held other.1 told.document × P given named.1 told.document
  told_of_document task told =
      let pair : named ≡ (told.file, told.node) = same_pair named (told.file, told.node) (sym is ∙ told.named) in
      let both : (task, told.other) ≡ other = same_other (task, told.other) other (sym told.with_other ∙ with_other) in
      let there : HoldsUnder held told.file (λ bytes. (loaded ≡ bytes) × (length bytes ≤ limit)) =
      subst (λ n. HoldsUnder held n.0 (λ bytes. (loaded ≡ bytes) × (length bytes ≤ limit))) pair whole in (
        ap (λ (o : Task × List ℕ). o.0) both,
        subst (λ (o : Task × List ℕ). Tells held o.1 told.document) both told.told_other,
        subst (λ n. P given n.1 told.document) (sym pair)
            (subst (λ bytes. P bytes told.node told.document) (sym (same ∙ loaded_is held told.file loaded told.bytes limit there told.told)) told.holds),
      )
    where
      same_other : (a b : Task × List ℕ) → Some a ≡ Some b → a ≡ b
      same_other a b e = cc

-- where the words name no document, they are no command with one
pub no_document : (held : Option Shelf) (w : Wanted) (task : Task) (P : List ℕ → List ℕ → List ℕ → Type 0) → w.beside ≡ None → IsToldDocument held w task P → ⊥
no_document held w task P none told = absurd (let bad : Some (task, told.other) ≡ None = sym told.with_other ∙ none in different (task, told.other) bad)
  where
    different : (x : Task × List ℕ) → Some x ≡ None → ⊥
    different x e = cc
