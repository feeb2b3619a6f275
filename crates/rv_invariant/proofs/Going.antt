-- Entries and locations, one after the other.
use Rattle.std.proofs.Common.{◌≡◌, ◌+◌, ◌-◌, ℕ, zero, suc, Bool, true, false, cond, List, [], ◌∷◌, ◌++◌, length, refl, sym, ap, ◌∙◌, arith}
use Rattle.std.proofs.lemmas.Bool.{false_from_ne_true}
use Rattle.std.specs.Prelude.{◌&&◌, ◌≤◌, not, Option, Some, None, Ok, Err, replicate, codes, nat_eq, slice_get, ⊤}
use Rattle.std.specs.Str.{bytes_eq}
use Rattle.rv_proofs.specs.{declared.certificate.Certificate.Certificate, declared.certificate.Entry.Entry, declared.certificate.Location.Location}
use Rattle.rv_diagram.specs.declared.frozen.Frozen.{Frozen}
use Rattle.rv_invfile.specs.{declared.fault.FileFault.FileFault, Rules.Fields, Rules.Form, Rules.Rule, Rules.done, Rules.await, Rules.fault_in, Rules.fault_by}
use Rattle.rv_invfile.specs.{Rules.is_plain, Readers.Ahead, Readers.◌>>=◌, Readers.Reading, Readers.Reads, Readers.judged, Readers.run, Readers.take_in}
use Rattle.rv_invfile.specs.{Ahead.first, Ahead.here, Forms.field, Forms.fixed, Forms.word_of, Forms.exactly, Texts.natural, Texts.same_fields, Parts.bind}
use Rattle.rv_invfile.specs.Parts.{sees}
use Rattle.rv_invfile.specs.declared.fault.Why.TheVariants as why
use Rattle.rv_invfile.proofs.{Decimals.bytes-same, Bound.bind_ok}
use Rattle.rv_invariant.specs.Continues.{Known, Then, Waits, AllWait}
use Rattle.rv_invariant.specs.Certificates.{a_target, reach_rule, known_at, go_entry, dead_entry, entries_rule, entry_rule, plain_forms, plain_rule, going}
use Rattle.rv_invariant.specs.Certificates.{go_rule, dead_rule, whole_go, whole_dead, turn_rule, turn_then, is_turn, kinds_at}
use Rattle.rv_invariant.specs.Certificates.{location_rule, locations_rule, last_record}
use Rattle.rv_invariant.specs.declared.outlines.{Kinds.Kinds, Outline.Outline}
use Rattle.rv_invariant.specs.declared.outlines.Kinds.TheVariants as kinds
use Rattle.rv_invariant.specs.{declared.counts.Shape.Shape, Outlines.takes_turn, Pieces.a_diagram, Pieces.a_proof}
use Rattle.rv_invariant.proofs.Choices.{chain-ok, chain-stops, then-here, run_either}
use Rattle.rv_base.proofs.Truths.{and_first}

module _ (s : Shape) (n : ℕ) (o : Outline) where
  pub entries-none : (needed : Bool) (before : List Entry) (next : Then (List Entry)) (known : Known)
      → entries_rule s n o needed zero before next known ≡ next before known
  unfolding entries_rule
  entries-none needed before next known = refl

  pub entries-suc : (needed : Bool) (k : ℕ) (before : List Entry) (next : Then (List Entry)) (known : Known)
      → entries_rule s n o needed (suc k) before next known
      ≡ entry_rule s n o (kinds_at o.turns needed k) (λ e. entries_rule s n o (needed && not (is_turn e)) k (before ++ e ∷ []) next) known
  unfolding entries_rule
  entries-suc needed k before next known = refl

  entry-waits : (k : Kinds) (next : Then Entry) (known : Known) → Waits (entry_rule s n o k next known)
  entry-waits kinds.Plain next known = (_, _, refl)
  entry-waits kinds.Any next known = (_, _, refl)
  entry-waits kinds.Turn next known = (_, _, refl)

  pub entries-wait : (needed : Bool) (k : ℕ) (before : List Entry) (next : Then (List Entry)) (known : Known) → AllWait next
      → Waits (entries_rule s n o needed k before next known)
  unfolding entries_rule
  entries-wait needed zero before next known w = w before known
  entries-wait needed (suc k) before next known w =
      entry-waits (kinds_at o.turns needed k) (λ e. entries_rule s n o (needed && not (is_turn e)) k (before ++ e ∷ []) next) known

module _ (s : Shape) (n : ℕ) where
  pub locations-none : (before : List Location) (known : Known) → locations_rule s n zero before known ≡ bind (exactly last_record)
      (λ e. done (record { locations = before }))
  unfolding locations_rule
  locations-none before known = refl

  pub locations-suc : (k : ℕ) (before : List Location) (known : Known)
      → locations_rule s n (suc k) before known ≡ location_rule s n (length before) (λ l. locations_rule s n k (before ++ l ∷ [])) known
  unfolding locations_rule
  locations-suc k before known = refl

  waits-bind : {A : Type 0} (forms : List Form) (next : Fields → Rule A) (k : A → Rule Certificate) → Waits (bind (await forms next) k)
  waits-bind forms next k = (forms, λ r. bind (next r) k, refl)

  pub locations-wait : (k : ℕ) (before : List Location) (known : Known) → Waits (locations_rule s n k before known)
  unfolding locations_rule
  locations-wait zero before known = (fixed last_record ∷ [], λ r. done (record { locations = before }), refl)
  locations-wait (suc k) before known = (_, _, refl)

-- no location is read yet
pub begun : (s : Shape) (n : ℕ) (before : List Location) (known : Known) (a : Ahead) → before ≡ [] → known ≡ replicate n None
    → run (locations_rule s n (n - 0) before known) a ≡ run (locations_rule s n n [] (replicate n None)) a
begun s n before known a e k =
    ap (λ l. run (locations_rule s n (n - 0) l known) a) e ∙ ap (λ l. run (locations_rule s n (n - 0) [] l) a) k
    ∙ ap (λ m. run (locations_rule s n m [] (replicate n None)) a) (omega arith)

-- all locations are read
module _ (s : Shape) (n i : ℕ) (before : List Location) (known : Known) (a : Ahead) (whole : Reading Certificate) (past : n ≤ i)
    (kept : run (locations_rule s n (n - i) before known) a ≡ whole) where
  abbrev ended : ⊤ → Rule Certificate
  ended e = done (record { locations = before })

  at-end : whole ≡ run (bind (exactly last_record) ended) a
  at-end =
      let z : n - i ≡ zero = omega arith in
      sym kept ∙ ap (λ m. run (locations_rule s n m before known) a) z ∙ ap (λ q. run q a) (locations-none s n before known)

  pub over : (new : Ahead) → run (exactly last_record) a ≡ Ok (tt, new) → whole ≡ Ok (record { locations = before }, new)
  over new h = chain-ok (exactly last_record) ended whole a new tt at-end h

  pub over-stops : (e : FileFault) (new : Ahead) → Reads (λ (u : ⊤). u) (run (exactly last_record) a) (Err e) new
      → Reads (λ (c : Certificate). c) whole (Err e) new
  over-stops e new h = chain-stops (λ (u : ⊤). u) (λ (c : Certificate). c) (exactly last_record) ended whole a e new at-end h

other-word : (x : List ℕ) → x ≡ codes "go" → x ≡ codes "dead" → ⊥
other-word x a b = absurd (clash (sym a ∙ b))
  where
    clash : codes "go" ≡ codes "dead" → ⊥
    clash e = cc

-- a record that begins with `go` is not that of a dead entry
pub not-dead : (r : Fields) → bytes_eq (word_of r) (codes "go") ≡ true → same_fields r (codes "dead" ∷ []) ≡ false
not-dead [] h = refl
not-dead (x ∷ r) h = false_from_ne_true (same_fields (x ∷ r) (codes "dead" ∷ []))
    (λ e. other-word x (bytes-same x (codes "go") h) (bytes-same x (codes "dead") (and_first (bytes_eq x (codes "dead")) (same_fields r []) e)))

pub go-form : (n : ℕ) (b d : Bool) (f g : Form) → d ≡ false → cond b (Some f) (cond d (Some g) None) ≡ cond b (Some f) None
go-form n b d f g e = ap (λ x. cond b (Some f) (cond x (Some g) None)) e

go-in : (n k : ℕ) (rs : List Fields) → bytes_eq (word_of (first rs)) (codes "go") ≡ true → take_in (plain_forms n) k rs ≡ take_in (going n ∷ []) k rs
go-in n k [] h = refl
go-in n k (r ∷ rs) h =
    ap (λ o. judged (cond (is_plain r) (fault_by o r) (Some why.NotRecords)) k r rs)
    (go-form n ((going n).is_kind r) (same_fields r (codes "dead" ∷ [])) (going n) (fixed (codes "dead" ∷ [])) (not-dead r h))

dead-in : (n k : ℕ) (rs : List Fields) → bytes_eq (word_of (first rs)) (codes "go") ≡ false
    → take_in (plain_forms n) k rs ≡ take_in (fixed (codes "dead" ∷ []) ∷ []) k rs
dead-in n k [] h = refl
dead-in n k (r ∷ rs) h =
    ap (λ b. judged (cond (is_plain r) (fault_by (cond (b && nat_eq (length r) 2) (Some (going n))
    (cond (same_fields r (codes "dead" ∷ [])) (Some (fixed (codes "dead" ∷ []))) None)) r) (Some why.NotRecords)) k r rs) h

-- the record that was taken is the one that stood here
then-taken : {A : Type 0} (forms : List Form) (k : ℕ) (rs : List Fields) (f g : Fields → Rule A) → f (first rs) ≡ g (first rs)
    → (take_in forms k rs >>= λ x. run (f x.0) x.1) ≡ (take_in forms k rs >>= λ x. run (g x.0) x.1)
then-taken forms k [] f g h = refl
then-taken forms k (r ∷ rs) f g h = then-here (fault_in forms r) k r rs f g h

module _ (s : Shape) (n state : ℕ) (next : Then Entry) (known : Known) (a : Ahead) where
  abbrev next_entry : Fields → Rule Certificate
  next_entry r = cond (bytes_eq (word_of r) (codes "go")) (go_rule s state (natural (field r 1)) next known) (dead_rule s state next known)

  pub plain-go : bytes_eq (word_of (here a)) (codes "go") ≡ true → run (plain_rule s n state next known) a ≡ run (whole_go s n state next known) a
  plain-go h =
      then-taken (plain_forms n) a.taken a.rest next_entry (λ r. go_rule s state (natural (field r 1)) next known)
      (ap (λ b. cond b (go_rule s state (natural (field (here a) 1)) next known) (dead_rule s state next known)) h)
      ∙ ap (λ x. x >>= λ y. run (go_rule s state (natural (field y.0 1)) next known) y.1) (go-in n a.taken a.rest h)

  pub plain-dead : bytes_eq (word_of (here a)) (codes "go") ≡ false → run (plain_rule s n state next known) a ≡ run (whole_dead s state next known) a
  plain-dead h =
      then-taken (plain_forms n) a.taken a.rest next_entry (λ r. dead_rule s state next known)
      (ap (λ b. cond b (go_rule s state (natural (field (here a) 1)) next known) (dead_rule s state next known)) h)
      ∙ ap (λ x. x >>= λ y. run (dead_rule s state next known) y.1) (dead-in n a.taken a.rest h)

-- a turn is read where it must stand next, or may and does
module _ (s : Shape) (n : ℕ) (o : Outline) (next : Then Entry) (known : Known) (a : Ahead) where
  abbrev next_turn : Fields → Rule Certificate
  next_turn r = bind (turn_rule s o) (λ e. next e known)

  any-entry : run (entry_rule s n o kinds.Any next known) a
      ≡ cond (sees (fixed (codes "loop" ∷ []) ∷ []) a) (run (turn_then s o next known) a) (run (plain_rule s n o.state next known) a)
  any-entry = run_either (fixed (codes "loop" ∷ []) ∷ []) (plain_forms n) next_turn (next_entry s n o.state next known a) a

  pub entry-taken : (k : Kinds) → takes_turn k (sees (fixed (codes "loop" ∷ []) ∷ []) a) ≡ true
      → run (entry_rule s n o k next known) a ≡ run (turn_then s o next known) a
  entry-taken kinds.Plain h = cc
  entry-taken kinds.Any h = any-entry ∙ ap (λ b. cond b (run (turn_then s o next known) a) (run (plain_rule s n o.state next known) a)) h
  entry-taken kinds.Turn h = refl

  pub entry-plain : (k : Kinds) → takes_turn k (sees (fixed (codes "loop" ∷ []) ∷ []) a) ≡ false
      → run (entry_rule s n o k next known) a ≡ run (plain_rule s n o.state next known) a
  entry-plain kinds.Plain h = refl
  entry-plain kinds.Any h = any-entry ∙ ap (λ b. cond b (run (turn_then s o next known) a) (run (plain_rule s n o.state next known) a)) h
  entry-plain kinds.Turn h = cc

-- ---- Through the parts of an entry and of a location.
pub known-is : (known : Known) (i : ℕ) (o : Option ℕ) → slice_get known i ≡ Some o → known_at known i ≡ o
known-is [] i o h = cc
known-is (x ∷ xs) zero o h = some-same x o h
  where
    some-same : (a b : Option ℕ) → Some a ≡ Some b → a ≡ b
    some-same a b e = cc
known-is (x ∷ xs) (suc i) o h = known-is xs i o h

module _ (s : Shape) (n state : ℕ) (known : Known) (next : Then Entry) (a a1 a2 : Ahead) (t : ℕ) (when : Frozen) where
  pub go-to-when : run (a_target n) a ≡ Ok (t, a1) → run (whole_go s n state next known) a ≡ run (go_rule s state t next known) a1
  go-to-when h = bind_ok (a_target n) (λ target. go_rule s state target next known) a a1 t h

  pub go-to-reach : run (a_target n) a ≡ Ok (t, a1) → run (a_diagram s (codes "when") false) a1 ≡ Ok (when, a2)
      → run (whole_go s n state next known) a ≡ run (reach_rule (state + s.tests) t (known_at known t) (λ reach. next (go_entry t when reach)) known) a2
  go-to-reach h k =
      go-to-when h ∙ bind_ok (a_diagram s (codes "when") false) (λ w. reach_rule (state + s.tests) t (known_at known t) (λ reach. next (go_entry t w reach))
      known) a1 a2 when k

  pub dead-to-when : run (exactly (codes "dead" ∷ [])) a ≡ Ok (tt, a1) → run (whole_dead s state next known) a ≡ run (dead_rule s state next known) a1
  dead-to-when h = bind_ok (exactly (codes "dead" ∷ [])) (λ u. dead_rule s state next known) a a1 tt h

  pub dead-to-proof : run (exactly (codes "dead" ∷ [])) a ≡ Ok (tt, a1) → run (a_diagram s (codes "when") false) a1 ≡ Ok (when, a2)
      → run (whole_dead s state next known) a ≡ run (bind (a_proof 1 (state + s.tests)) (λ by. next (dead_entry when by) known)) a2
  dead-to-proof h k =
      dead-to-when h ∙ bind_ok (a_diagram s (codes "when") false) (λ w. bind (a_proof 1 (state + s.tests)) (λ by. next (dead_entry w by) known)) a1 a2 when k
