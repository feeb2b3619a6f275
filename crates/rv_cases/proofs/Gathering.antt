-- Sets that are gathered one after another.
use Rattle.std.proofs.Common.{ℕ, zero, suc, ◌+◌, ◌<◌, ◌≤◌, ◌≡◌, ◌⊎◌, Bool, true, false, ◌&&◌, ◌||◌, List, [], ◌∷◌, ◌++◌, length, refl, sym, ap, ◌∙◌, subst}
use Rattle.std.proofs.Common.{⊎_elim, inl, inr, arith, length-append}
use Rattle.std.proofs.lemmas.Bool.{cases_lt, cases_eq, or_cases, and_from, and_parts, or_left, or_right}
use Rattle.std.proofs.{lemmas.List.get_or_append_left, Math.Seq.get_or-append_seam}
use Rattle.rv_diagram.specs.{declared.Triple.Triple, Nodes.Valuation, Nodes.Diagrams, Nodes.IsRef, Nodes.value_of, Several.ref_at}
use Rattle.rv_terms.proofs.{Combining.and-none, Combining.and-or}
use Rattle.rv_cases.specs.Conditions.{is_in, AreRefs, AreApart, IsParted, AreAnswers, AreMeets, AreWithin, AreJoined, list_at, Gathers, among}
use Rattle.rv_base.proofs.Truths.{or_assoc, or_false_is}
use Rattle.rv_diagram.proofs.Several.{same_truth}
use Rattle.rv_diagram.specs.Growing.{Extends}
use Rattle.rv_diagram.proofs.Growing.{extends_trans}

-- LATER

pub parted_as : (nodes : List Triple) (p q : Valuation → Bool) (refs : List ℕ) → ((v : Valuation) → p v ≡ q v) → IsParted nodes p refs → IsParted nodes q refs
parted_as nodes p q refs same g = record {
  found = g.found;
  covered = λ v h. g.covered v (same v ∙ h);
  apart = g.apart;
  only = λ i low v h. sym (same v) ∙ g.only i low v h;
  filled = g.filled;
}

pub in_later : (old new : Diagrams) (refs : List ℕ) → Extends old new → AreRefs old.nodes refs → (i : ℕ) → i < length refs → (v : Valuation)
    → is_in new.nodes refs i v ≡ is_in old.nodes refs i v
in_later old new refs e found i low v = e.kept (ref_at refs i) (found i low) v

pub refs_later : (old new : Diagrams) (refs : List ℕ) → Extends old new → AreRefs old.nodes refs → AreRefs new.nodes refs
refs_later old new refs e found i low = omega (arith, found i low, e.longer)

pub apart_later : (old new : Diagrams) (refs : List ℕ) → Extends old new → AreRefs old.nodes refs → AreApart old.nodes refs → AreApart new.nodes refs
apart_later old new refs e found apart i j less low v one two =
    apart i j less low v (sym (in_later old new refs e found i (omega arith) v) ∙ one) (sym (in_later old new refs e found j low v) ∙ two)

pub answers_later : (old new : Diagrams) (answers : List ℕ) → Extends old new → AreAnswers old.nodes answers → AreAnswers new.nodes answers
answers_later old new answers e a = record {
  found = refs_later old new answers e a.found;
  covered = λ v. let c : (i : ℕ) × (i < length answers) × (is_in old.nodes answers i v ≡ true) = a.covered v in
      (c.0, c.1, in_later old new answers e a.found c.0 c.1 v ∙ c.2);
  apart = apart_later old new answers e a.found a.apart;
}

pub parted_later : (old new : Diagrams) (p : Valuation → Bool) (refs : List ℕ) → Extends old new → IsParted old.nodes p refs → IsParted new.nodes p refs
parted_later old new p refs e g = record {
  found = refs_later old new refs e g.found;
  covered = λ v h. let c : (i : ℕ) × (i < length refs) × (is_in old.nodes refs i v ≡ true) = g.covered v h in
      (c.0, c.1, in_later old new refs e g.found c.0 c.1 v ∙ c.2);
  apart = apart_later old new refs e g.found g.apart;
  only = λ i low v h. g.only i low v (sym (in_later old new refs e g.found i low v) ∙ h);
  filled = λ i low. let s : (v : Valuation) × (is_in old.nodes refs i v ≡ true) = g.filled i low in
      (s.0, in_later old new refs e g.found i low s.0 ∙ s.1);
}

-- THE STEP

pub before-at : (before : List ℕ) (r j : ℕ) → j < length before → ref_at (before ++ r ∷ []) j ≡ ref_at before j
before-at before r j low = get_or_append_left before (r ∷ []) 0 j low

new-at : (before : List ℕ) (r : ℕ) → ref_at (before ++ r ∷ []) (length before) ≡ r
new-at before r = get_or-append_seam before r [] 0

-- each place is an old one or the new one
at_place : (before : List ℕ) (r j : ℕ) → j < length (before ++ r ∷ []) → ((j < length before) × (ref_at (before ++ r ∷ []) j ≡ ref_at before j))
    ⊎ ((j ≡ length before) × (ref_at (before ++ r ∷ []) j ≡ r))
at_place before r j low = ⊎_elim
    (λ lt. inl (lt, before-at before r j lt))
    (λ ge. let e : j ≡ length before = omega (arith, length-append before (r ∷ [])) in inr (e, ap (ref_at (before ++ r ∷ [])) e ∙ new-at before r))
    (cases_lt j (length before))

pub gathers_none : (old new : Diagrams) (q : Valuation → Bool) (before : List ℕ) → Extends old new → ((v : Valuation) → q v ≡ false)
    → Gathers old.nodes new.nodes q before before
gathers_none old new q before e none p g off =
    parted_as new.nodes p (λ v. p v || q v) before (λ v. or_false_is (p v) (q v) (none v)) (parted_later old new p before e g)

pub gathers_one : (old new : Diagrams) (q : Valuation → Bool) (r : ℕ) (before : List ℕ) → Extends old new → IsRef new.nodes r
    → ((v : Valuation) → value_of new.nodes r v ≡ q v) → (v : Valuation) × (value_of new.nodes r v ≡ true)
    → Gathers old.nodes new.nodes q before (before ++ r ∷ [])
gathers_one old new q r before e found means some p g0 off =
    let g : IsParted new.nodes p before = parted_later old new p before e g0 in
    let as_is : (j : ℕ) (k : ℕ) → ref_at (before ++ r ∷ []) j ≡ k → (v : Valuation) → is_in new.nodes (before ++ r ∷ []) j v ≡ value_of new.nodes k v =
    λ j k same v. ap (λ x. value_of new.nodes x v) same in
    record {
      found = λ j low. ⊎_elim
          (λ h. subst (λ (x : ℕ). IsRef new.nodes x) (sym h.1) (g.found j h.0))
          (λ h. subst (λ (x : ℕ). IsRef new.nodes x) (sym h.1) found)
          (at_place before r j low);
      covered = λ v h. ⊎_elim
          (λ hp. let c : (i : ℕ) × (i < length before) × (is_in new.nodes before i v ≡ true) = g.covered v hp in
          (c.0, omega (arith, c.1, length-append before (r ∷ [])), as_is c.0 (ref_at before c.0) (before-at before r c.0 c.1) v ∙ c.2))
          (λ hq. (length before, omega (arith, length-append before (r ∷ [])), as_is (length before) r (new-at before r) v ∙ means v ∙ hq))
          (or_cases (p v) (q v) h);
      apart = λ i j less low v one two. ⊎_elim
          (λ hj. let i' : i < length before = omega (arith, hj.0) in
          g.apart i j less hj.0 v (sym (as_is i (ref_at before i) (before-at before r i i') v) ∙ one) (sym (as_is j (ref_at before j) hj.1 v) ∙ two))
          (λ hj. let i' : i < length before = omega (arith, hj.0) in
          off v (g.only i i' v (sym (as_is i (ref_at before i) (before-at before r i i') v) ∙ one)) (sym (means v) ∙ sym (as_is j r hj.1 v) ∙ two))
          (at_place before r j low);
      only = λ j low v h. ⊎_elim
          (λ hj. or_left (p v) (q v) (g.only j hj.0 v (sym (as_is j (ref_at before j) hj.1 v) ∙ h)))
          (λ hj. or_right (p v) (q v) (sym (means v) ∙ sym (as_is j r hj.1 v) ∙ h))
          (at_place before r j low);
      filled = λ j low. ⊎_elim
          (λ hj. let s : (v : Valuation) × (is_in new.nodes before j v ≡ true) = g.filled j hj.0 in
          (s.0, as_is j (ref_at before j) hj.1 s.0 ∙ s.1))
          (λ hj. (some.0, as_is j r hj.1 some.0 ∙ some.1))
          (at_place before r j low);
    }

pub meets_later : (old new : Diagrams) (conditions answers made : List ℕ) → Extends old new → AreRefs old.nodes conditions → AreRefs old.nodes answers
    → AreRefs old.nodes made → AreMeets old.nodes conditions answers made → AreMeets new.nodes conditions answers made
meets_later old new conditions answers made e one two three h j low =
    let (i, li, b, lb, each) = h j low in (
      i,
      li,
      b,
      lb,
      λ v. in_later old new made e three j low v ∙ each v
          ∙ ap (λ x. x && is_in old.nodes answers b v) (sym (in_later old new conditions e one i li v))
          ∙ ap (λ x. is_in new.nodes conditions i v && x) (sym (in_later old new answers e two b lb v)),
    )

pub meets_one : (nodes : List Triple) (conditions answers before : List ℕ) (i b r : ℕ) → i < length conditions → b < length answers
    → ((v : Valuation) → value_of nodes r v ≡ (is_in nodes conditions i v && is_in nodes answers b v))
    → AreMeets nodes conditions answers before → AreMeets nodes conditions answers (before ++ r ∷ [])
meets_one nodes conditions answers before i b r li lb each h j low = ⊎_elim
    (λ hj. let (k, lk, d, ld, old) = h j hj.0 in (k, lk, d, ld, λ v. ap (λ x. value_of nodes x v) hj.1 ∙ old v))
    (λ hj. (i, li, b, lb, λ v. ap (λ x. value_of nodes x v) hj.1 ∙ each v))
    (at_place before r j low)

-- COMPOSITION

gathers_both : (old mid new : List Triple) (q r : Valuation → Bool) (a b c : List ℕ) → Gathers old mid q a b → Gathers mid new r b c
    → ((v : Valuation) → q v ≡ true → r v ≡ true → ⊥) → Gathers old new (λ v. q v || r v) a c
gathers_both old mid new q r a b c first second off p before apart =
    parted_as new (λ v. (p v || q v) || r v) (λ v. p v || (q v || r v)) c (λ v. or_assoc (p v) (q v) (r v))
    (second (λ v. p v || q v) (first p before (λ v hp hq. apart v hp (or_left (q v) (r v) hq)))
    (λ v h hr. ⊎_elim (λ hp. apart v hp (or_right (q v) (r v) hr)) (λ hq. off v hq hr) (or_cases (p v) (q v) h)))

gathers_as : (old new : List Triple) (q r : Valuation → Bool) (a b : List ℕ) → ((v : Valuation) → q v ≡ r v) → Gathers old new q a b → Gathers old new r a b
gathers_as old new q r a b same h p before apart =
    parted_as new (λ v. p v || q v) (λ v. p v || r v) b (λ v. ap (λ x. p v || x) (same v)) (h p before (λ v hp hq. apart v hp (sym (same v) ∙ hq)))

-- what is gathered in a store that has grown is gathered from the store before on, where the sets mean the same
pub gathers_later : (old mid : Diagrams) (new : List Triple) (q r : Valuation → Bool) (a b : List ℕ) → Extends old mid
    → ((v : Valuation) → q v ≡ r v) → Gathers mid.nodes new q a b → Gathers old.nodes new r a b
gathers_later old mid new q r a b e same h p before apart =
    parted_as new (λ v. p v || q v) (λ v. p v || r v) b (λ v. ap (λ x. p v || x) (same v))
    (h p (parted_later old mid p a e before) (λ v hp hq. apart v hp (sym (same v) ∙ hq)))

among-more : (nodes : List Triple) (refs : List ℕ) (n : ℕ) (v : Valuation) → among nodes refs (n + 1) v ≡ (among nodes refs n v || is_in nodes refs n v)
among-more nodes refs n v = ap (λ k. among nodes refs k v) (let e : n + 1 ≡ suc n = omega arith in e)

among_some : (nodes : List Triple) (refs : List ℕ) (n : ℕ) (v : Valuation) → among nodes refs n v ≡ true → (k : ℕ) × (k < n) × (is_in nodes refs k v ≡ true)
among_some nodes refs zero v h = cc
among_some nodes refs (suc n) v h = ⊎_elim
    (λ one. let s : (k : ℕ) × (k < n) × (is_in nodes refs k v ≡ true) = among_some nodes refs n v one in (s.0, omega (arith, s.1), s.2))
    (λ two. (n, omega arith, two))
    (or_cases (among nodes refs n v) (is_in nodes refs n v) h)

among_has : (nodes : List Triple) (refs : List ℕ) (n k : ℕ) (v : Valuation) → k < n → is_in nodes refs k v ≡ true → among nodes refs n v ≡ true
among_has nodes refs zero k v low h = absurd (omega arith)
among_has nodes refs (suc n) k v low h = ⊎_elim
    (λ e. or_right (among nodes refs n v) (is_in nodes refs n v) (ap (λ j. is_in nodes refs j v) (sym e) ∙ h))
    (λ off. or_left (among nodes refs n v) (is_in nodes refs n v) (among_has nodes refs n k v (omega arith) h))
    (cases_eq k n)

pub and-implied : (t b : Bool) → (t ≡ true → b ≡ true) → (t && b) ≡ t
and-implied true b h = h refl
and-implied false b h = refl

-- no answer yet, in a condition t
pub answers_first : (nodes : List Triple) (t : Valuation → Bool) (answers made : List ℕ) → Gathers nodes nodes (λ v. t v && among nodes answers 0 v) made made
answers_first nodes t answers made p g apart = parted_as nodes p (λ v. p v || (t v && false)) made (λ v. and-none (p v) (t v)) g

-- one more answer
pub answers_more : (s a b : Diagrams) (t q : Valuation → Bool) (answers : List ℕ) (i : ℕ) (p0 p1 p2 : List ℕ) → i < length answers → AreApart s.nodes answers
    → ((v : Valuation) → q v ≡ (t v && is_in s.nodes answers i v))
    → Gathers s.nodes a.nodes (λ v. t v && among s.nodes answers i v) p0 p1 → Gathers a.nodes b.nodes q p1 p2
    → Gathers s.nodes b.nodes (λ v. t v && among s.nodes answers (i + 1) v) p0 p2
answers_more s a b t q answers i p0 p1 p2 low apart means first second =
    gathers_as s.nodes b.nodes (λ v. (t v && among s.nodes answers i v) || q v) (λ v. t v && among s.nodes answers (i + 1) v) p0 p2
    (λ v. ap (λ x. (t v && among s.nodes answers i v) || x) (means v) ∙ and-or (t v) (among s.nodes answers i v) (is_in s.nodes answers i v)
    ∙ ap (λ x. t v && x) (sym (among-more s.nodes answers i v)))
    (gathers_both s.nodes a.nodes b.nodes (λ v. t v && among s.nodes answers i v) q p0 p1 p2 first second
    (λ v one two.
    let k : (k : ℕ) × (k < i) × (is_in s.nodes answers k v ≡ true) = among_some s.nodes answers i v (and_parts (t v) (among s.nodes answers i v) one).1 in
    apart k.0 i k.1 low v k.2 (and_parts (t v) (is_in s.nodes answers i v) (sym (means v) ∙ two)).1))

-- all answers that there are
pub answers_all : (s : Diagrams) (new : List Triple) (t : Valuation → Bool) (answers : List ℕ) (n : ℕ) (p0 p1 : List ℕ)
    → ((v : Valuation) → (i : ℕ) × (i < length answers) × (is_in s.nodes answers i v ≡ true)) → length answers ≤ n
    → Gathers s.nodes new (λ v. t v && among s.nodes answers n v) p0 p1 → Gathers s.nodes new t p0 p1
answers_all s new t answers n p0 p1 covered all h = gathers_as s.nodes new (λ v. t v && among s.nodes answers n v) t p0 p1
    (λ v. and-implied (t v) (among s.nodes answers n v) (λ on.
    let c : (i : ℕ) × (i < length answers) × (is_in s.nodes answers i v ≡ true) = covered v in
    among_has s.nodes answers n c.0 v (omega (arith, c.1)) c.2)) h

-- the one answer that all of the condition has
pub answers_whole : (s : Diagrams) (new : List Triple) (t : Valuation → Bool) (answers : List ℕ) (n b : ℕ) (p0 p1 : List ℕ) → b < n
    → ((v : Valuation) → t v ≡ true → is_in s.nodes answers b v ≡ true)
    → Gathers s.nodes new (λ v. t v && among s.nodes answers n v) p0 p1 → Gathers s.nodes new t p0 p1
answers_whole s new t answers n b p0 p1 low whole h = gathers_as s.nodes new (λ v. t v && among s.nodes answers n v) t p0 p1
    (λ v. and-implied (t v) (among s.nodes answers n v) (λ on. among_has s.nodes answers n b v low (whole v on))) h

-- no condition yet
pub conditions_first : (nodes : List Triple) (conditions : List ℕ) → Gathers nodes nodes (among nodes conditions 0) [] []
conditions_first nodes conditions p g apart = parted_as nodes p (λ v. p v || false) [] (λ v. or_false_is (p v) false refl) g

-- one more condition
pub conditions_more : (s a b : Diagrams) (q : Valuation → Bool) (conditions : List ℕ) (i : ℕ) (p0 p1 p2 : List ℕ) → i < length conditions
    → AreApart s.nodes conditions → ((v : Valuation) → q v ≡ is_in s.nodes conditions i v)
    → Gathers s.nodes a.nodes (among s.nodes conditions i) p0 p1 → Gathers a.nodes b.nodes q p1 p2
    → Gathers s.nodes b.nodes (among s.nodes conditions (i + 1)) p0 p2
conditions_more s a b q conditions i p0 p1 p2 low apart means first second =
    gathers_as s.nodes b.nodes (λ v. among s.nodes conditions i v || q v) (among s.nodes conditions (i + 1)) p0 p2
    (λ v. ap (λ x. among s.nodes conditions i v || x) (means v) ∙ sym (among-more s.nodes conditions i v))
    (gathers_both s.nodes a.nodes b.nodes (among s.nodes conditions i) q p0 p1 p2 first second
    (λ v one two. let k : (k : ℕ) × (k < i) × (is_in s.nodes conditions k v ≡ true) = among_some s.nodes conditions i v one in
    apart k.0 i k.1 low v k.2 (sym (means v) ∙ two)))

-- nothing is parted by no set
parted_none : (nodes : List Triple) → IsParted nodes (λ v. false) []
parted_none nodes = record {
  found = λ i low. absurd (omega arith);
  covered = λ v h. cc;
  apart = λ i j less low. absurd (omega arith);
  only = λ i low. absurd (omega arith);
  filled = λ i low. absurd (omega arith);
}

pub split_made : (s : Diagrams) (new : List Triple) (p : Valuation → Bool) (conditions made : List ℕ) (n : ℕ) → n ≡ length conditions
    → IsParted s.nodes p conditions → Gathers s.nodes new (among s.nodes conditions n) [] made → IsParted new p made
split_made s new p conditions made n size g h =
    parted_as new (λ v. false || among s.nodes conditions n v) p made
    (λ v. same_truth (among s.nodes conditions n v) (p v)
    (λ t. let k : (k : ℕ) × (k < n) × (is_in s.nodes conditions k v ≡ true) = among_some s.nodes conditions n v t in
    g.only k.0 (omega (arith, k.1)) v k.2)
    (λ t. let k : (k : ℕ) × (k < length conditions) × (is_in s.nodes conditions k v ≡ true) = g.covered v t in
    among_has s.nodes conditions n k.0 v (omega (arith, k.1)) k.2))
    (h (λ v. false) (parted_none s.nodes) (λ v f. cc))

-- ONE QUESTION AFTER ANOTHER

-- a set that is not empty parts itself
pub start_one : (nodes : List Triple) (whole : ℕ) → IsRef nodes whole → (v : Valuation) × (value_of nodes whole v ≡ true)
    → IsParted nodes (value_of nodes whole) (whole ∷ [])
start_one nodes whole found some =
    let first : (i : ℕ) → i < length (whole ∷ []) → i ≡ 0 = λ i low. omega arith in
    let here : (i : ℕ) → i < length (whole ∷ []) → (v : Valuation) → is_in nodes (whole ∷ []) i v ≡ value_of nodes whole v =
    λ i low v. ap (λ k. is_in nodes (whole ∷ []) k v) (first i low) in
    record {
      found = λ i low. subst (λ (k : ℕ). IsRef nodes (ref_at (whole ∷ []) k)) (sym (first i low)) found;
      covered = λ v h. (0, omega arith, h);
      apart = λ i j less low. absurd (omega (arith, first j low));
      only = λ i low v h. sym (here i low v) ∙ h;
      filled = λ i low. (some.0, here i low some.0 ∙ some.1);
    }

pub start_none : (nodes : List Triple) (whole : ℕ) → ((v : Valuation) → value_of nodes whole v ≡ false) → IsParted nodes (value_of nodes whole) []
start_none nodes whole none = parted_as nodes (λ v. false) (value_of nodes whole) [] (λ v. sym (none v)) (parted_none nodes)

pub within_trans : (a b c : List Triple) (larger middle smaller : List ℕ) → AreWithin a b larger middle → AreWithin b c middle smaller
    → AreWithin a c larger smaller
within_trans a b c larger middle smaller h g j low =
    let (i, li, one) = g j low in
    let (k, lk, two) = h i li in
    (k, lk, λ v t. two v (one v t))

-- each meet is within its condition
pub meets_finer : (old new : Diagrams) (conditions answers made : List ℕ) → Extends old new → AreRefs old.nodes conditions
    → AreMeets new.nodes conditions answers made → AreWithin old.nodes new.nodes conditions made
meets_finer old new conditions answers made e found h j low =
    let (i, li, b, lb, each) = h j low in (
      i,
      li,
      λ v t. sym (in_later old new conditions e found i li v) ∙ (and_parts (is_in new.nodes conditions i v) (is_in new.nodes answers b v) (sym
          (each v) ∙ t)).0,
    )

-- and within its answer
pub meets_answered : (old new : Diagrams) (conditions answers made : List ℕ) → Extends old new → AreRefs old.nodes answers
    → AreMeets new.nodes conditions answers made → AreWithin old.nodes new.nodes answers made
meets_answered old new conditions answers made e found h j low =
    let (i, li, b, lb, each) = h j low in (
      b,
      lb,
      λ v t. sym (in_later old new answers e found b lb v) ∙ (and_parts (is_in new.nodes conditions i v) (is_in new.nodes answers b v) (sym (each
          v) ∙ t)).1,
    )

-- valuations with the same answers, to one question more, are in one meet
pub joined_more : (a b c : Diagrams) (p : Valuation → Bool) (questions : List (List ℕ)) (n : ℕ) (conditions made : List ℕ) → Extends a b → Extends b c
    → AreRefs b.nodes conditions → AreRefs a.nodes (list_at questions n) → AreMeets c.nodes conditions (list_at questions n) made
    → AreJoined a.nodes b.nodes p questions n conditions → AreJoined a.nodes c.nodes p questions (n + 1) made
joined_more a b c p questions n conditions made ab bc found refs meets joined v w pv pw same j low on =
    let answers : List ℕ = list_at questions n in
    let ac : Extends a c = extends_trans a b c ab bc in
    let (i, li, d, ld, each) = meets j low in
    let both : (is_in c.nodes conditions i v ≡ true) × (is_in c.nodes answers d v ≡ true) =
    and_parts (is_in c.nodes conditions i v) (is_in c.nodes answers d v) (sym (each v) ∙ on) in
    let here : is_in c.nodes conditions i w ≡ true = in_later b c conditions bc found i li w
    ∙ joined v w pv pw (λ q x lt lx. same q x (omega arith) lx) i li (sym (in_later b c conditions bc found i li v) ∙ both.0) in
    let there : is_in c.nodes answers d w ≡ true = in_later a c answers ac refs d ld w ∙ sym (same n d (omega arith) ld)
    ∙ sym (in_later a c answers ac refs d ld v) ∙ both.1 in
    each w ∙ and_from (is_in c.nodes conditions i w) (is_in c.nodes answers d w) here there
