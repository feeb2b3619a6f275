-- Wherever a record of a certificate is awaited some record is right, so a record is awaited exactly where it begins a document.
use Rattle.std.proofs.Common.{◌≡◌, ◌+◌, ◌-◌, ◌%◌, ◌^◌, ◌<◌, ◌≤◌, ℕ, zero, suc, Bool, true, false, cond, List, [], ◌∷◌, ◌++◌, length, get_or, refl, sym, ap}
use Rattle.std.proofs.Common.{◌∙◌}
use Rattle.std.proofs.Common.{subst, arith}
use Rattle.std.proofs.{lemmas.Int.ints, lemmas.List.get_or-replicate, lemmas.List.length-replicate}
use Rattle.std.specs.Prelude.{◌&&◌, ◌↔◌, not, nat_eq, nat_le, ℤ, pos, Option, Some, None, is_some, codes, decimal, replicate, ⊤}
use Rattle.std.specs.{Str.bytes_eq, Int.RustNames.unsigned_abs}
use Rattle.rv_rows.specs.{declared.linear.Row.Row, declared.farkas.Multipliers.Multipliers}
use Rattle.rv_flat.specs.declared.flat.Flat.{Flat}
use Rattle.rv_diagram.specs.declared.frozen.Frozen.{Frozen}
use Rattle.rv_proofs.specs.{declared.certificate.Certificate.Certificate, declared.certificate.Location.Location, declared.certificate.Entry.Entry}
use Rattle.rv_invfile.specs.declared.fault.Why.TheVariants as why
use Rattle.rv_invfile.specs.Rules.{Fields, Form, Rule, done, await, form_of, fault_in, fault_by, fault_after, is_plain, HasNoFault, IsDocument}
use Rattle.rv_invfile.specs.Forms.{field, fixed, word_of, counts, exactly, names, lists}
use Rattle.rv_invfile.specs.{Parts.bind, Parts.times, Parts.either, Parts.turns, Spells.Spells, Spells.IsAlive, Spells.BeginsDocument, Texts.natural}
use Rattle.rv_invfile.specs.{Told.IsTold}
use Rattle.rv_invfile.proofs.ReadBack.{is_plain_text, right-fault, decimal-plain, name-plain, pair-plain, exactly-right, names-right, lists-right, counts-right}
use Rattle.rv_invfile.proofs.{Begins.alive-bind, Begins.alive-times, Begins.awaited-begins, Decimals.same-bytes, Decimals.within, Written.Right}
use Rattle.rv_invariant.specs.Pieces.{a_diagram, a_list, a_proof, a_row, by_form, diagram, is_divisor, is_node_field, is_pair_field, is_root, multipliers_of}
use Rattle.rv_invariant.specs.Pieces.{row_record}
use Rattle.rv_invariant.specs.Certificates.{known_at, learn, low_of, high_of, after_entry, after_first, after_around, row_lists, has_turned, count_rule}
use Rattle.rv_invariant.specs.Certificates.{second_rule, second_or, after_proofs, after_lists, after_control, front_rule, reach_rule, go_entry, dead_entry}
use Rattle.rv_invariant.specs.Certificates.{go_rule, dead_rule, plain_rule, turn_entry, a_part, after_third, after_second, after_one, after_when, turn_rule}
use Rattle.rv_invariant.specs.Certificates.{whole_turn, turn_then, is_turn, kinds_at, entry_rule, entries_rule, location_of, outline, needs_turn, after_front}
use Rattle.rv_invariant.specs.declared.outlines.{Kinds.Kinds, Outline.Outline}
use Rattle.rv_invariant.specs.declared.outlines.Kinds.TheVariants as kinds
use Rattle.rv_invariant.specs.Certificates.{location_rule, locations_rule, first_record, last_record, bits_rule, columns_rule, head_rule, all_locations}
use Rattle.rv_invariant.specs.Certificates.{certificate_rule, BeginsCertificate}
use Rattle.rv_invariant.specs.Naming.{bit_text, bit_texts, column_text, column_texts}
use Rattle.rv_invariant.specs.{declared.counts.Shape.Shape, declared.fronts.Front.Front, declared.fronts.Lists.Lists, Continues.Known, Continues.Then}
use Rattle.rv_invariant.specs.{Shapes.shape}
use Rattle.rv_invariant.proofs.Documented.{bit-plain, column-plain, each-plain}
use Rattle.rv_invariant.proofs.Going.{entries-none, entries-suc, locations-none, locations-suc}
use Rattle.rv_invariant.proofs.Grouping.{all-right, two, three}
use Rattle.rv_invariant.proofs.Seconds.{second_next, second-waits}
use Rattle.rv_invariant.proofs.{Choices.form-left, Choices.form-right, Fitting.documents-fit, Fitting.documents-written, Knowing.front-fits}
use Rattle.rv_invariant.proofs.{Located.document-exists}
use Rattle.rv_invariant.proofs.{Ranging.KeptRow, Spelling.below-right, Standing.by-kind, Standing.row-right}

-- ---- Rules that are alive.
-- a first part, and the rest by each value that it may have
alive-after-part : {A B : Type 0} (p : Rule A) (k : A → Rule B) → IsAlive p → ((a : A) (rs : List Fields) → Spells p a rs → IsAlive (k a)) → IsAlive (bind p k)
alive-after-part (done a) k h g = g a [] (refl, refl)
alive-after-part (await forms next) k h g = (h.0, λ r e. alive-after-part (next r) k (h.1 r e) (λ a rs s. g a (r ∷ rs) (e, s)))

alive-cond : {B : Type 0} (b : Bool) (p q : Rule B) → IsAlive p → IsAlive q → IsAlive (cond b p q)
alive-cond true p q h k = h
alive-cond false p q h k = k

-- a record at which no fault is is of one of the forms
of-some : {X : Type 0} (b : Bool) (r : Fields) → cond b (fault_by None r) (Some why.NotRecords) ≡ None → X
of-some true r e = cc
of-some false r e = cc

module _ {B : Type 0} (fs gs : List Form) (next then : Fields → Rule B) where
  -- the first part has a right record, which is right for both
  still-right : (r : Fields) (o : Option Form) → form_of fs r ≡ o → fault_in fs r ≡ None → fault_in (fs ++ gs) r ≡ None
  still-right r (Some f) e h = ap (λ o. cond (is_plain r) (fault_by o r) (Some why.NotRecords)) (form-left fs gs r f e ∙ sym e) ∙ h
  still-right r None e h = of-some (is_plain r) r (sym (ap (λ o. cond (is_plain r) (fault_by o r) (Some why.NotRecords)) e) ∙ h)

  chosen-alive : (r : Fields) (o : Option Form) → form_of fs r ≡ o → fault_in (fs ++ gs) r ≡ None → (fault_in fs r ≡ None → IsAlive (next r))
      → (fault_in gs r ≡ None → IsAlive (then r)) → IsAlive (cond (is_some (form_of fs r)) (next r) (then r))
  chosen-alive r (Some f) e h g k =
      subst (λ o. IsAlive (cond (is_some o) (next r) (then r))) (sym e)
      (g (ap (λ o. cond (is_plain r) (fault_by o r) (Some why.NotRecords)) (e ∙ sym (form-left fs gs r f e)) ∙ h))
  chosen-alive r None e h g k =
      subst (λ o. IsAlive (cond (is_some o) (next r) (then r))) (sym e)
      (k (ap (λ o. cond (is_plain r) (fault_by o r) (Some why.NotRecords)) (sym (form-right fs gs r e)) ∙ h))

alive-either : {B : Type 0} (fs : List Form) (next : Fields → Rule B) (q : Rule B) → IsAlive (await fs next) → IsAlive q → IsAlive (either (await fs next) q)
alive-either fs next (done a) h k = h
alive-either fs next (await gs then) h k = (
  (h.0.0, still-right fs gs next then h.0.0 (form_of fs h.0.0) refl h.0.1),
  λ r e. chosen-alive fs gs next then r (form_of fs r) refl e (h.1 r) (k.1 r),
)

-- a part some number of times, and the rest by each list of values that it may have
alive-turns : {A B : Type 0} (n : ℕ) (f : Form) (next : Fields → Rule A) (rest : List A → Rule B) → IsAlive (await (f ∷ []) next)
    → ((xs : List A) → length xs ≤ n → IsAlive (rest xs)) → IsAlive (turns n (await (f ∷ []) next) rest)
unfolding turns
alive-turns zero f next rest h g = g [] (omega arith)
alive-turns (suc n) f next rest h g =
    alive-either (f ∷ []) (λ r. bind (next r) (λ a. turns n (await (f ∷ []) next) (λ more. rest (a ∷ more)))) (rest [])
    (alive-bind (await (f ∷ []) next) (λ a. turns n (await (f ∷ []) next) (λ more. rest (a ∷ more))) h
    (λ a. alive-turns n f next (λ more. rest (a ∷ more)) h (λ xs l. g (a ∷ xs) (omega (arith, l)))))
    (g [] (omega arith))

-- ---- Single records: one that is right at each place.
alive-exactly : (x : Fields) → is_plain x ≡ true → IsAlive (exactly x)
alive-exactly x h = let s = exactly-right x h in ((x, s.0), λ r e. tt)

alive-names : (w t : List ℕ) → is_plain_text w ≡ true → is_plain_text t ≡ true → IsAlive (names w t)
alive-names w t h k = let s = names-right w t h k in ((w ∷ t ∷ [], s.0), λ r e. tt)

alive-lists : (w : List ℕ) (ts : List (List ℕ)) → is_plain (w ∷ ts) ≡ true → IsAlive (lists w ts)
alive-lists w ts h = let s = lists-right w ts h in ((w ∷ ts, s.0), λ r e. tt)

alive-counts : (w : List ℕ) (low high : ℕ) → is_plain_text w ≡ true → low ≤ high → high < 2 ^ 64 → IsAlive (counts w low high)
alive-counts w low high p l h = let s = counts-right w low high low p (omega arith) l h in ((w ∷ decimal low ∷ [], s.0), λ r e. tt)

no-groups : (w : ℕ) (right : ℕ → ℕ → Bool) (m j : ℕ) → m < 0 → j < w → right m j ≡ true
no-groups w right m j l h = absurd (omega (arith, l))

-- the diagram of a constant
alive-diagram : (s : Shape) (word : List ℕ) (states : Bool) → is_plain_text word ≡ true → IsAlive (a_diagram s word states)
alive-diagram s word states p =
    let r : Fields = word ∷ decimal 0 ∷ [] in
    let stands : Right (diagram s word states) r = record {
      plain = pair-plain word (decimal 0) p (decimal-plain 0);
      of_kind = ap (λ b. b && (nat_le 2 2 && nat_eq ((2 - 2) % 3) 0)) (same-bytes word word refl);
      of_program = refl;
      allowed = λ k l. all-right 3 three is_root (is_node_field s states) r 0 (omega arith) (below-right 2 0 (omega arith) (omega arith))
          (no-groups 3 (is_node_field s states r)) k l;
    } in
    ((r, right-fault (diagram s word states) r stands), λ r e. tt)

-- a divisor of 1 and no premise
alive-proof : (most premises : ℕ) → 1 ≤ most → IsAlive (a_proof most premises)
alive-proof most premises h =
    let r : Fields = codes "by" ∷ decimal 1 ∷ [] in
    let stands : Right (by_form most premises) r = record {
      plain = pair-plain (codes "by") (decimal 1) refl (decimal-plain 1);
      of_kind = by-kind (record { divisor = pos 1; weights = [] });
      of_program = refl;
      allowed = λ k l. all-right 2 two (is_divisor most) (is_pair_field premises) r 0 (omega arith)
          (within 1 most 1 (decimal 1) (omega arith) refl (omega arith) h) (no-groups 2 (is_pair_field premises r)) k l;
    } in
    ((r, right-fault (by_form most premises) r stands), λ r e. tt)

-- a row of zeros
zero-abs : unsigned_abs (pos 0) ≤ 2 ^ 30
zero-abs = omega (arith, ints)

zero-small : (n k : ℕ) (d : ℤ) → k < length (replicate n (pos 0)) → unsigned_abs (get_or (replicate n (pos 0)) k d) ≤ 2 ^ 30
zero-small n k d l =
    let size = length-replicate n (pos 0) in
    subst (λ z. unsigned_abs z ≤ 2 ^ 30) (sym (get_or-replicate n k (pos 0) d (omega (arith, l, size)))) zero-abs

alive-row : (memories : ℕ) → IsAlive (a_row memories)
alive-row memories =
    let row : Row = record { coefficients = replicate memories (pos 0); bound = pos 0 } in
    let fits : KeptRow memories row = (
      length-replicate memories (pos 0),
      record { coefficients = λ k d l. zero-small memories k d l; bound = omega (arith, ints) },
    ) in
    let s = row-right memories row fits in
    ((row_record row, s.0), λ r e. tt)

alive-list : (memories : ℕ) (word : List ℕ) (low high : ℕ) → is_plain_text word ≡ true → low ≤ high → high < 2 ^ 64
    → IsAlive (a_list memories word low high)
alive-list memories word low high p l h =
    alive-bind (counts word low high) (λ n. times n (a_row memories)) (alive-counts word low high p l h)
    (λ n. alive-times n (a_row memories) (alive-row memories))

-- ---- What is known of each location is at most 1,024.
abbrev IsFew : Option ℕ → Type 0
IsFew None = ⊤
IsFew (Some n) = n ≤ 1024

abbrev AreFew : Known → Type 0
AreFew [] = ⊤
AreFew (o ∷ os) = IsFew o × AreFew os

none-few : (n : ℕ) → AreFew (replicate n None)
none-few zero = tt
none-few (suc n) = (tt, none-few n)

learn-few : (known : Known) (i n : ℕ) → n ≤ 1024 → AreFew known → AreFew (learn known i n)
learn-few [] i n l h = tt
learn-few (o ∷ os) zero n l h = (l, h.1)
learn-few (o ∷ os) (suc i) n l h = (h.0, learn-few os i n l h.1)

high-few : (known : Known) (i : ℕ) → AreFew known → high_of (known_at known i) ≤ 1024
high-few [] i h = omega arith
high-few (None ∷ os) zero h = omega arith
high-few (Some n ∷ os) zero h = h.0
high-few (o ∷ os) (suc i) h = high-few os i h.1

low-high : (o : Option ℕ) → low_of o ≤ high_of o
low-high None = omega arith
low-high (Some n) = omega arith

-- what comes after a part is alive, whatever is known then
abbrev LivesOn : {X : Type 0} → Then X → Type 0
LivesOn {X = X} next = (x : X) (known : Known) → AreFew known → IsAlive (next x known)

module _ (s : Shape) where
  -- ---- What stands before the entries.
  alive-rows : (low high : ℕ) → low ≤ high → high < 2 ^ 64 → IsAlive (row_lists s.memories low high)
  alive-rows low high l h =
      let last : List Row → List Row → List Row → List Row → Rule Lists = λ entry first around state. done
      (record { entry = entry; first = first; around = around; state = state }) in
      let few = λ (word : List ℕ) (p : is_plain_text word ≡ true). alive-list s.memories word 0 1024 p (omega arith) (omega arith) in
      alive-bind (a_list s.memories (codes "entry") low high) (after_entry s.memories) (alive-list s.memories (codes "entry") low high refl l h)
      (λ entry. alive-bind (a_list s.memories (codes "first") 0 1024) (after_first s.memories entry) (few (codes "first") refl)
      (λ first. alive-bind (a_list s.memories (codes "around") 0 1024) (after_around s.memories entry first) (few (codes "around") refl)
      (λ around. alive-bind (a_list s.memories (codes "state") 0 1024)
      (last entry first around) (few (codes "state") refl) (λ state. tt))))

  -- the second list of proofs, and the count
  alive-count : (control : Frozen) (lists : Lists) (by_entry : List Multipliers) (least : ℕ) (by_first : List Multipliers) → least ≤ 1
      → IsAlive (count_rule control lists by_entry least by_first)
  alive-count control lists by_entry least by_first l =
      let k1 : ℕ → Rule Front = λ n. done (record { control = control; lists = lists; by_entry = by_entry; by_first = by_first; cases = n }) in
      alive-bind (counts (codes "cases") least 4294967295) k1
      (alive-counts (codes "cases") least 4294967295 refl (omega (arith, l)) (omega arith)) (λ n. tt)

  alive-second : (control : Frozen) (lists : Lists) (by_entry : List Multipliers) (n : ℕ) → IsAlive (second_rule control lists by_entry n)
  alive-second control lists by_entry n =
      alive-bind (times n (a_proof (2 ^ 30) (length lists.first))) (count_rule control lists by_entry 1)
      (alive-times n (a_proof (2 ^ 30) (length lists.first)) (alive-proof (2 ^ 30) (length lists.first) (omega arith)))
      (λ by_first. alive-count control lists by_entry 1 by_first (omega arith))

  alive-or : (control : Frozen) (lists : Lists) (by_entry : List Multipliers) (n : ℕ) → IsAlive (second_or control lists by_entry n)
  alive-or control lists by_entry zero = alive-count control lists by_entry 0 [] (omega arith)
  alive-or control lists by_entry (suc n) =
      subst (λ q. IsAlive (either q (count_rule control lists by_entry 0 []))) (sym (second-waits control lists by_entry n))
      (alive-either (by_form (2 ^ 30) (length lists.first) ∷ []) (second_next control lists by_entry n) (count_rule control lists by_entry 0 [])
      (subst IsAlive (second-waits control lists by_entry n) (alive-second control lists by_entry (suc n)))
      (alive-count control lists by_entry 0 [] (omega arith)))

  alive-front : (low high : ℕ) → low ≤ high → high < 2 ^ 64 → IsAlive (front_rule s low high)
  alive-front low high l h =
      alive-bind (a_diagram s (codes "control") true) (after_control s low high) (alive-diagram s (codes "control") true refl)
      (λ control. alive-bind (row_lists s.memories low high) (after_lists control) (alive-rows low high l h)
      (λ lists. alive-bind (times (length lists.state) (a_proof (2 ^ 30) (length lists.entry))) (after_proofs control lists)
      (alive-times (length lists.state) (a_proof (2 ^ 30) (length lists.entry)) (alive-proof (2 ^ 30) (length lists.entry) (omega arith)))
      (λ by_entry. alive-cond (has_turned lists) (second_rule control lists by_entry (length lists.state))
      (second_or control lists by_entry (length lists.state))
      (alive-second control lists by_entry (length lists.state)) (alive-or control lists by_entry (length lists.state)))))

  -- ---- Entries.
  alive-reach : (premises target : ℕ) (o : Option ℕ) (next : Then (List Multipliers)) (known : Known) → AreFew known → LivesOn next
      → IsAlive (reach_rule premises target o next known)
  alive-reach premises target (Some n) next known few on =
      alive-bind (times n (a_proof (2 ^ 30) premises)) (λ reach. next reach known)
      (alive-times n (a_proof (2 ^ 30) premises) (alive-proof (2 ^ 30) premises (omega arith))) (λ reach. on reach known few)
  alive-reach premises target None next known few on =
      alive-turns 1024 (by_form (2 ^ 30) premises) (λ r. done (multipliers_of r)) (λ reach. next reach (learn known target (length reach)))
      (alive-proof (2 ^ 30) premises (omega arith)) (λ reach l. on reach (learn known target (length reach)) (learn-few known target (length reach) l few))

  alive-go : (state target : ℕ) (next : Then Entry) (known : Known) → AreFew known → LivesOn next → IsAlive (go_rule s state target next known)
  alive-go state target next known few on =
      alive-bind (a_diagram s (codes "when") false)
      (λ when. reach_rule (state + s.tests) target (known_at known target) (λ reach. next (go_entry target when reach)) known)
      (alive-diagram s (codes "when") false refl)
      (λ when. alive-reach (state + s.tests) target (known_at known target) (λ reach. next (go_entry target when reach)) known few
      (λ reach later f. on (go_entry target when reach) later f))

  alive-dead : (state : ℕ) (next : Then Entry) (known : Known) → AreFew known → LivesOn next → IsAlive (dead_rule s state next known)
  alive-dead state next known few on =
      alive-bind (a_diagram s (codes "when") false) (λ when. bind (a_proof 1 (state + s.tests)) (λ by. next (dead_entry when by) known))
      (alive-diagram s (codes "when") false refl)
      (λ when. alive-bind (a_proof 1 (state + s.tests)) (λ by. next (dead_entry when by) known) (alive-proof 1 (state + s.tests) (omega arith))
      (λ by. on (dead_entry when by) known few))

  alive-plain : (locations state : ℕ) (next : Then Entry) (known : Known) → AreFew known → LivesOn next
      → IsAlive (plain_rule s locations state next known)
  alive-plain locations state next known few on = (
    (codes "dead" ∷ [], refl),
    λ r e. alive-cond (bytes_eq (word_of r) (codes "go")) (go_rule s state (natural (field r 1)) next known) (dead_rule s state next known)
        (alive-go state (natural (field r 1)) next known few on) (alive-dead state next known few on),
  )

  alive-part : (rows n : ℕ) → IsAlive (a_part s rows n)
  alive-part rows n = alive-times n (a_proof (2 ^ 30) (rows + s.tests)) (alive-proof (2 ^ 30) (rows + s.tests) (omega arith))

  alive-whole : (o : Outline) → IsAlive (whole_turn s o)
  alive-whole o =
      alive-bind (exactly (codes "loop" ∷ [])) (λ u. turn_rule s o) (alive-exactly (codes "loop" ∷ []) refl)
      (λ u. alive-bind (a_diagram s (codes "when") false) (after_when s o) (alive-diagram s (codes "when") false refl)
      (λ when. alive-bind (a_part s o.entry o.first) (after_one s o when) (alive-part o.entry o.first)
      (λ first. alive-bind (a_part s o.first o.around) (after_second s o when first) (alive-part o.first o.around)
      (λ before. alive-bind (a_part s (o.around + o.state) o.around) (after_third s o when first before) (alive-part (o.around + o.state) o.around)
      (λ around. alive-bind (a_part s (o.around + o.state) o.state) (λ state. done (turn_entry when first before around state))
      (alive-part (o.around + o.state) o.state) (λ state. tt))))))

  alive-turn : (o : Outline) (next : Then Entry) (known : Known) → AreFew known → LivesOn next → IsAlive (turn_then s o next known)
  alive-turn o next known few on = alive-bind (whole_turn s o) (λ e. next e known) (alive-whole o) (λ e. on e known few)

  alive-entry : (locations : ℕ) (o : Outline) (k : Kinds) (next : Then Entry) (known : Known) → AreFew known → LivesOn next
      → IsAlive (entry_rule s locations o k next known)
  alive-entry locations o kinds.Plain next known few on = alive-plain locations o.state next known few on
  alive-entry locations o kinds.Any next known few on =
      alive-either (fixed (codes "loop" ∷ []) ∷ []) (λ r. bind (turn_rule s o) (λ e. next e known)) (plain_rule s locations o.state next known)
      (alive-turn o next known few on) (alive-plain locations o.state next known few on)
  alive-entry locations o kinds.Turn next known few on = alive-turn o next known few on

  alive-entries : (locations : ℕ) (o : Outline) (needed : Bool) (n : ℕ) (before : List Entry) (next : Then (List Entry)) (known : Known) → AreFew known
      → LivesOn next
      → IsAlive (entries_rule s locations o needed n before next known)
  alive-entries locations o needed zero before next known few on =
      subst IsAlive (sym (entries-none s locations o needed before next known)) (on before known few)
  alive-entries locations o needed (suc n) before next known few on =
      subst IsAlive (sym (entries-suc s locations o needed n before next known))
      (alive-entry locations o (kinds_at o.turns needed n) (λ e. entries_rule s locations o (needed && not (is_turn e)) n (before ++ e ∷ []) next) known few
      (λ e later f. alive-entries locations o (needed && not (is_turn e)) n (before ++ e ∷ []) next later f on))

  -- ---- Locations.
  alive-location : (locations i : ℕ) (next : Then Location) (known : Known) → AreFew known → LivesOn next
      → IsAlive (location_rule s locations i next known)
  alive-location locations i next known few on =
      let low = low_of (known_at known i) in
      let high = high_of (known_at known i) in
      let small = high-few known i few in
      alive-after-part (front_rule s low high) (after_front s locations i next known)
      (alive-front low high (low-high (known_at known i)) (omega (arith, small)))
      (λ front rs spelled. let fits = front-fits s low high front rs spelled in let most = fits.greatest in
      alive-entries locations (outline front) (needs_turn front) front.cases [] (λ entries. next (location_of front entries))
      (learn known i (length front.lists.entry)) (learn-few known i (length front.lists.entry) (omega (arith, most, small)) few)
      (λ entries later f. on (location_of front entries) later f))

  alive-locations : (locations n : ℕ) (before : List Location) (known : Known) → AreFew known → IsAlive (locations_rule s locations n before known)
  alive-locations locations zero before known few =
      let all : ⊤ → Rule Certificate = λ e. done (record { locations = before }) in
      subst IsAlive (sym (locations-none s locations before known)) (alive-bind (exactly last_record) all (alive-exactly last_record refl) (λ e. tt))
  alive-locations locations (suc n) before known few =
      subst IsAlive (sym (locations-suc s locations n before known))
      (alive-location locations (length before) (λ l. locations_rule s locations n (before ++ l ∷ [])) known few
      (λ l later f. alive-locations locations n (before ++ l ∷ []) later f))

-- ---- The whole.
alive-head : (f : Flat) → IsTold f → IsAlive (head_rule f)
alive-head f told =
    let k4 : ⊤ → Rule ℕ = λ d. counts (codes "locations") 0 4096 in
    let k3 : ⊤ → Rule ℕ = λ c. bind (columns_rule f) k4 in
    let k2 : ⊤ → Rule ℕ = λ b. bind (bits_rule f) k3 in
    let k1 : ⊤ → Rule ℕ = λ a. bind (names (codes "main") f.main) k2 in
    alive-bind (exactly first_record) k1 (alive-exactly first_record refl)
    (λ a. alive-bind (names (codes "main") f.main) k2 (alive-names (codes "main") f.main refl (name-plain f.main told.main))
    (λ b. alive-bind (bits_rule f) k3
    (alive-lists (codes "bits") (bit_texts f) (each-plain (bit_text f.inputs) (bit-plain f.inputs told.inputs) f.variables))
    (λ c. alive-bind (columns_rule f) k4
    (alive-lists (codes "columns") (column_texts f) (each-plain (column_text f.inputs) (column-plain f.inputs told.inputs) f.columns))
    (λ d. alive-counts (codes "locations") 0 4096 refl (omega arith) (omega arith)))))

certificate-alive : (f : Flat) → IsTold f → IsAlive (certificate_rule f)
certificate-alive f told =
    alive-bind (head_rule f) (all_locations f) (alive-head f told) (λ n. alive-locations (shape f) n n [] (replicate n None) (none-few n))

pub certificate-awaited : (f : Flat) → IsTold f → (before : List Fields) (r : Fields) → HasNoFault (certificate_rule f) before
    → (fault_after (certificate_rule f) before r ≡ None) ↔ BeginsDocument (certificate_rule f) (before ++ r ∷ [])
certificate-awaited f told before r n = awaited-begins (certificate_rule f) (certificate-alive f told) before r n

-- the same by how certificates are written
written-begins : (f : Flat) (rs : List Fields) → BeginsDocument (certificate_rule f) rs → BeginsCertificate f rs
written-begins f rs b = (b.0, b.1, documents-fit f (rs ++ b.0) b.1 b.2, sym (documents-written f (rs ++ b.0) b.1 b.2))

begins-written : (f : Flat) → IsTold f → (rs : List Fields) → BeginsCertificate f rs → BeginsDocument (certificate_rule f) rs
begins-written f told rs b = (b.0, b.1, subst (λ l. IsDocument (certificate_rule f) l b.1) b.3 (document-exists f b.1 told b.2))

pub certificate-written : (f : Flat) → IsTold f → (before : List Fields) (r : Fields) → HasNoFault (certificate_rule f) before
    → (fault_after (certificate_rule f) before r ≡ None) ↔ BeginsCertificate f (before ++ r ∷ [])
certificate-written f told before r n =
    let w = certificate-awaited f told before r n in
    (λ h. written-begins f (before ++ r ∷ []) (w.0 h), λ b. w.1 (begins-written f told (before ++ r ∷ []) b))
