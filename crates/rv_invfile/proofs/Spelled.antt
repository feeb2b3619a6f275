-- Documents by the parts of their rules.
use Rattle.std.proofs.Common.{◌≡◌, List, [], ◌∷◌, ◌++◌, refl, sym, ap, subst}
use Rattle.rv_invfile.specs.Rules.{Fields, Form, Rule, done, await, after, HasNoFault, IsDocument}
use Rattle.rv_invfile.specs.{Parts.bind, Spells.Spells, Spells.IsAlive}
use Rattle.rv_invfile.proofs.{Exact.none-first, Exact.none-more, Exact.first-right, Exact.rest-right, Exact.nothing-awaited, Loops.more}

done-is : {A : Type 0} (b a : A) → done b ≡ done a → a ≡ b
done-is b a e = cc

not-done : {A X : Type 0} (forms : List Form) (next : Fields → Rule A) (a : A) → await forms next ≡ done a → X
not-done forms next a e = cc

pub document-spells : {A : Type 0} (rule : Rule A) (a : A) (rs : List Fields) → IsDocument rule rs a → Spells rule a rs
document-spells (done b) a [] d = (refl, done-is b a d.1)
document-spells (done b) a (r ∷ rs) d = absurd (nothing-awaited r (first-right (done b) r rs d.0))
document-spells (await forms next) a [] d = not-done forms next a d.1
document-spells (await forms next) a (r ∷ rs) d = (
  first-right (await forms next) r rs d.0,
  document-spells (next r) a rs
      (rest-right (await forms next) r rs d.0, d.1),
)

pub spells-document : {A : Type 0} (rule : Rule A) (a : A) (rs : List Fields) → Spells rule a rs → IsDocument rule rs a
spells-document (done b) a [] s = (none-first (done b), ap done (sym s.1))
spells-document (done b) a (r ∷ rs) s = cc
spells-document (await forms next) a [] s = absurd s
spells-document (await forms next) a (r ∷ rs) s = let d = spells-document (next r) a rs s.1 in (none-more (await forms next) r rs s.0 d.0, d.1)

-- ---- One part after the other.
pub record Both {A B : Type 0} (p : Rule A) (k : A → Rule B) (b : B) (rs : List Fields) : Type 0 where
  pub value : A
  pub front : List Fields
  pub back : List Fields
  pub records : rs ≡ front ++ back
  pub first : Spells p value front
  pub second : Spells (k value) b back

pub bind-parts : {A B : Type 0} (p : Rule A) (k : A → Rule B) (b : B) (rs : List Fields) → Spells (bind p k) b rs → Both p k b rs
bind-parts (done a) k b rs s = record { value = a; front = []; back = rs; records = refl; first = (refl, refl); second = s }
bind-parts (await forms next) k b [] s = absurd s
bind-parts (await forms next) k b (r ∷ rs) s =
    let x = bind-parts (next r) k b rs s.1 in
    record { value = x.value; front = r ∷ x.front; back = x.back; records = ap (λ l. r ∷ l) x.records; first = (s.0, x.first); second = x.second }

empty-front : {A B : Type 0} (a a2 : A) (k : A → Rule B) (b : B) (u v : List Fields) → u ≡ [] → a2 ≡ a → Spells (k a2) b v → Spells (k a) b (u ++ v)
empty-front a a2 k b u v e f s = subst (λ l. Spells (k a) b (l ++ v)) (sym e) (subst (λ x. Spells (k x) b v) f s)

pub parts-bind : {A B : Type 0} (p : Rule A) (k : A → Rule B) (a : A) (b : B) (u v : List Fields) → Spells p a u → Spells (k a) b v
    → Spells (bind p k) b (u ++ v)
parts-bind (done c) k a b u v s t = empty-front c a k b u v s.0 s.1 t
parts-bind (await forms next) k a b [] v s t = absurd s
parts-bind (await forms next) k a b (r ∷ u) v s t = (s.0, parts-bind (next r) k a b u v s.1 t)

-- ---- Every rule that is alive has an end.
pub record Goes {A : Type 0} (rule : Rule A) : Type 0 where
  pub value : A
  pub records : List Fields
  pub spelled : Spells rule value records

pub goes : {A : Type 0} (rule : Rule A) → IsAlive rule → Goes rule
goes (done a) h = record { value = a; records = []; spelled = (refl, refl) }
goes (await forms next) h =
    let x = goes (next h.0.0) (h.1 h.0.0 h.0.1) in
    record { value = x.value; records = h.0.0 ∷ x.records; spelled = (h.0.1, x.spelled) }

alive-done : {A : Type 0} (a : A) (rs : List Fields) → IsAlive (after (done a) rs)
alive-done a [] = tt
alive-done a (r ∷ rs) = tt

pub alive-after : {A : Type 0} (rule : Rule A) (rs : List Fields) → IsAlive rule → HasNoFault rule rs → IsAlive (after rule rs)
alive-after (done a) rs h n = alive-done a rs
alive-after (await forms next) [] h n = h
alive-after (await forms next) (r ∷ rs) h n = alive-after (next r) rs (h.1 r (first-right (await forms next) r rs n)) (rest-right (await forms next) r rs n)

-- records at which no fault is go on to a document
pub goes-on : {A : Type 0} (rule : Rule A) (before more : List Fields) (a : A) → HasNoFault rule before → Spells (after rule before) a more
    → Spells rule a (before ++ more)
goes-on rule [] more a n s = s
goes-on (done b) (r ∷ rs) more a n s = absurd (nothing-awaited r (first-right (done b) r rs n))
goes-on (await forms next) (r ∷ rs) more a n s = (first-right (await forms next) r rs n, goes-on (next r) rs more a (rest-right (await forms next) r rs n) s)
