-- Records of groups of fields: which field is the first wrong one.
use Rattle.std.proofs.Common.{◌≡◌, ◌+◌, ◌-◌, ◌*◌, ◌/◌, ◌%◌, ◌<◌, ◌≤◌, ℕ, zero, suc, Bool, true, false, cond, List, [], ◌∷◌, length, refl, sym, ap, ◌∙◌, arith}
use Rattle.std.proofs.lemmas.Bool.{eqb-true, leb-true, ltb-true, ltb-false, ne_eqb}
use Rattle.std.specs.{Prelude.◌&&◌, Prelude.◌||◌, Prelude.nat_eq, Prelude.nat_le, Prelude.nat_lt, Prelude.Some, Prelude.None, Prelude.Err, Str.bytes_eq}
use Rattle.rv_invfile.specs.{Rules.Fields, Rules.Form, Rules.done, Rules.await, Rules.first_bad, Readers.Ahead, Readers.◌>>=◌, Readers.Reading, Readers.Reads}
use Rattle.rv_invfile.specs.{Readers.run, Readers.file_fault, declared.fault.FileFault.FileFault, Ahead.here, Ahead.kind_fault, Ahead.ReadsFields}
use Rattle.rv_invfile.specs.{Forms.word_of}
use Rattle.rv_invfile.specs.declared.fault.Fault.{Fault}
use Rattle.rv_invfile.specs.declared.fault.Fault.TheVariants as sure
use Rattle.rv_invfile.specs.declared.fault.FileFault.TheVariants as fault
use Rattle.rv_invfile.proofs.{OneRecord.bad_field, Decimals.bytes-same, Instants.none-bad, Instants.one-bad}
use Rattle.rv_invariant.specs.Groups.{is_grouped, grouped, groups_right, in_group}
use Rattle.rv_invariant.specs.Judging.{IsFirstWrong, AreRight, ReadsGroup, ReadsGroups}
use Rattle.rv_base.proofs.Truths.{both_of}

pub grouped-is : (word : List ℕ) (width : ℕ) (r : Fields) → is_grouped word width r ≡ true → (word_of r ≡ word) × (2 ≤ length r) × ((length r - 2) % width ≡ 0)
grouped-is word width r h =
    let p = both_of (bytes_eq (word_of r) word) (nat_le 2 (length r) && nat_eq ((length r - 2) % width) 0) h in
    let q = both_of (nat_le 2 (length r)) (nat_eq ((length r - 2) % width) 0) p.1 in
    (bytes-same (word_of r) word p.0, leb-true 2 (length r) q.0, eqb-true ((length r - 2) % width) 0 q.1)

-- A width of groups: where their fields stand.
pub record Width (w : ℕ) : Type 0 where
  pub group : (k j : ℕ) → j < w → (2 + w * k + j - 2) / w ≡ k
  pub place : (k j : ℕ) → j < w → (2 + w * k + j - 2) % w ≡ j
  pub splits : (i n : ℕ) → 2 ≤ i → i < 2 + w * n → (k : ℕ) × (j : ℕ) × (k < n) × (j < w) × (i ≡ 2 + w * k + j)
  pub within : (k n j : ℕ) → k < n → j < w → w * k + j < w * n
  pub counted : (l : ℕ) → 2 ≤ l → (l - 2) % w ≡ 0 → l ≡ 2 + w * ((l - 2) / w)

pub two : Width 2
two = record {
  group = λ k j h. omega arith;
  place = λ k j h. omega arith;
  splits = λ i n h l. ((i - 2) / 2, (i - 2) % 2, omega arith, omega arith, omega arith);
  within = λ k n j h l. omega arith;
  counted = λ l h e. omega arith;
}

pub three : Width 3
three = record {
  group = λ k j h. omega arith;
  place = λ k j h. omega arith;
  splits = λ i n h l. ((i - 2) / 3, (i - 2) % 3, omega arith, omega arith, omega arith);
  within = λ k n j h l. omega arith;
  counted = λ l h e. omega arith;
}

module _ (w : ℕ) (width : Width w) (head : Fields → Bool) (right : Fields → ℕ → ℕ → Bool) where
  pub at-group : (r : Fields) (k j : ℕ) → j < w → groups_right w head right r (2 + w * k + j) ≡ right r k j
  at-group r k j h =
      ap (λ b. b || cond (nat_eq (2 + w * k + j) 1) (head r) (in_group w right r (2 + w * k + j))) (ne_eqb (2 + w * k + j) 0 (λ z. omega (arith, z)))
      ∙ ap (λ b. cond b (head r) (in_group w right r (2 + w * k + j))) (ne_eqb (2 + w * k + j) 1 (λ z. omega (arith, z)))
      ∙ ap (λ a. right r a ((2 + w * k + j - 2) % w)) (width.group k j h)
      ∙ ap (λ b. right r k b) (width.place k j h)

  pub all-right : (r : Fields) (n : ℕ) → length r ≡ 2 + w * n → head r ≡ true → AreRight w n (right r) → (i : ℕ) → i < length r
      → groups_right w head right r i ≡ true
  all-right r n l h a zero b = refl
  all-right r n l h a (suc zero) b = h
  all-right r n l h a (suc (suc m)) b =
      let p = width.splits (suc (suc m)) n (omega arith) (omega (arith, l, b)) in
      ap (groups_right w head right r) p.4 ∙ at-group r p.0 p.1 p.3 ∙ a p.0 p.1 p.2 p.3

  pub none-wrong : (r : Fields) (n : ℕ) → length r ≡ 2 + w * n → head r ≡ true → AreRight w n (right r)
      → first_bad (groups_right w head right r) 0 (length r) ≡ None
  none-wrong r n l h a = none-bad (groups_right w head right r) 0 (length r) (λ k b. all-right r n l h a k (omega (arith, b)))

  word-right : (r : Fields) (k : ℕ) → k < 1 → groups_right w head right r k ≡ true
  word-right r zero l = refl
  word-right r (suc k) l = absurd (omega (arith, l))

  pub head-wrong : (r : Fields) → 2 ≤ length r → head r ≡ false → first_bad (groups_right w head right r) 0 (length r) ≡ Some 1
  head-wrong r l h = one-bad (groups_right w head right r) 0 (length r) 1 (omega arith) (omega arith) (word-right r) h

  -- the fields before the first wrong one
  module _ (r : Fields) (n i : ℕ) (h : head r ≡ true) (f : IsFirstWrong w n (right r) i) where
    same-group : (k a b : ℕ) → k < i → k ≡ 2 + w * a + b → a ≡ f.group → b < w → right r a b ≡ true
    same-group k a b l e s m =
        let moved : k ≡ 2 + w * f.group + b = e ∙ ap (λ x. 2 + w * x + b) s in
        ap (λ x. right r x b) s ∙ f.here.before b (omega (arith, moved, l, f.here.number))

    by-group : (k a b : ℕ) (c : Bool) → nat_lt a f.group ≡ c → k < i → k ≡ 2 + w * a + b → a < f.group + 1 → b < w → right r a b ≡ true
    by-group k a b true s l e t m = f.earlier a b (ltb-true a f.group s) m
    by-group k a b false s l e t m = let ge = ltb-false a f.group s in same-group k a b l e (omega (arith, ge, t)) m

    earlier : (k : ℕ) → k < i → groups_right w head right r k ≡ true
    earlier zero l = refl
    earlier (suc zero) l = h
    earlier (suc (suc m)) l =
        let room = width.within f.group (f.group + 1) f.here.place (omega arith) f.here.within in
        let p = width.splits (suc (suc m)) (f.group + 1) (omega arith) (omega (arith, room, l, f.here.number)) in
        ap (groups_right w head right r) p.4 ∙ at-group r p.0 p.1 p.3 ∙ by-group (suc (suc m)) p.0 p.1 (nat_lt p.0 f.group) refl l p.4 p.2 p.3

    pub group-wrong : length r ≡ 2 + w * n → first_bad (groups_right w head right r) 0 (length r) ≡ Some i
    group-wrong l =
        let room = width.within f.group n f.here.place f.there f.here.within in
        one-bad (groups_right w head right r) 0 (length r) i (omega arith) (omega (arith, room, l, f.here.number)) earlier
        (ap (groups_right w head right r) f.here.number ∙ at-group r f.group f.here.place f.here.within ∙ f.here.wrong)

  -- groups that are not read are not read as the record
  pub groups-stop : {X Y : Type 0} (word : List ℕ) (s : Ahead) (n : ℕ) (value : X) (other : Y) (e : FileFault) → length (here s) ≡ 2 + w * n
      → head (here s) ≡ true
      → ReadsGroups w right s n value (Err e) → ReadsFields s (grouped word w head right) other (Err e)
  groups-stop word s n value other fault.Memory l h g = tt
  groups-stop word s n value other (fault.BadNumber k i) l h g = (g.0, group-wrong (here s) n i h g.1 l)
  groups-stop word s n value other _ l h g = absurd g

-- a group that is not right is the first wrong one
pub group-stops : {X Y : Type 0} (w : ℕ) (right : Fields → ℕ → ℕ → Bool) (s : Ahead) (n k : ℕ) (value : X) (other : Y) (e : Fault) → k < n
    → AreRight w k (right (here s))
    → ReadsGroup w right s k value (Err e) → ReadsGroups w right s n other (Err (file_fault e))
group-stops w right s n k value other (sure.BadNumber m i) l a g = (g.0, record { group = k; there = l; earlier = a; here = g.1 })
group-stops w right s n k value other _ l a g = absurd g

-- one more right group
pub right-more : (w k : ℕ) (right : ℕ → ℕ → Bool) → AreRight w k right → ((j : ℕ) → j < w → right k j ≡ true) → AreRight w (k + 1) right
right-more w k right a h m j l b = by (nat_lt m k) refl
  where
    by : (c : Bool) → nat_lt m k ≡ c → right m j ≡ true
    by true e = a m j (ltb-true m k e) b
    by false e = let ge = ltb-false m k e in let same : m ≡ k = omega (arith, ge, l) in ap (λ x. right x j) same ∙ h j b

-- the places of a group
pub of-three : (p : ℕ → Bool) → p 0 ≡ true → p 1 ≡ true → p 2 ≡ true → (j : ℕ) → j < 3 → p j ≡ true
of-three p a b c zero l = a
of-three p a b c (suc zero) l = b
of-three p a b c (suc (suc zero)) l = c
of-three p a b c (suc (suc (suc j))) l = absurd (omega (arith, l))

pub of-two : (p : ℕ → Bool) → p 0 ≡ true → p 1 ≡ true → (j : ℕ) → j < 2 → p j ≡ true
of-two p a b zero l = a
of-two p a b (suc zero) l = b
of-two p a b (suc (suc j)) l = absurd (omega (arith, l))

pub of-one : (p : ℕ → Bool) → p 0 ≡ true → (j : ℕ) → j < 1 → p j ≡ true
of-one p a zero l = a
of-one p a (suc j) l = absurd (omega (arith, l))

-- a record whose fields were read and are not all right
pub fields-stop : {A : Type 0} (f : Form) (g : Fields → A) (s : Ahead) (value : A) (e : FileFault) (new : Ahead) → kind_fault f.is_kind s ≡ None
    → f.is_program (here s) ≡ true
    → ReadsFields s f value (Err e) → Reads (λ (a : A). a) (run (await (f ∷ []) (λ r. done (g r))) s) (Err e) new
fields-stop f g s value fault.Memory new k p h = tt
fields-stop f g s value (fault.NotRecords n) new k p h = absurd h
fields-stop f g s value (fault.WrongKind n) new k p h = absurd h
fields-stop f g s value (fault.WrongProgram n) new k p h = absurd h
fields-stop {A = A} f g s value (fault.BadNumber n i) new k p h =
    ap (λ (x : Reading Fields). x >>= λ y. run (done (g y.0)) y.1) (bad_field f s i k p h.1) ∙ ap (λ m. Err (fault.BadNumber m i)) (sym h.0)
fields-stop f g s value (fault.Ends n) new k p h = absurd h
