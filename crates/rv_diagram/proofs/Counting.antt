-- Few valuations need few nodes: each lies on one path of a diagram, and a path has at most one node for each variable (Bryant 1986).
use Rattle.std.proofs.Common.{ℕ, zero, suc, ◌+◌, ◌*◌, ◌^◌, ◌<◌, ◌≤◌, ◌≡◌, ◌≢◌, ◌⊎◌, Bool, true, false, ◌||◌, cond, List, [], ◌∷◌, ◌++◌, length, ◌&&◌, refl, sym}
use Rattle.std.proofs.Common.{ap, ◌∙◌, subst, ⊎_elim, inl, inr, arith}
use Rattle.std.proofs.{lemmas.Bool.cases_eq, lemmas.Bool.cases_Bool, lemmas.Bool.false≢true, lemmas.List.length_push}
use Rattle.rv_diagram.specs.declared.Triple.{Triple}
use Rattle.rv_diagram.specs.Nodes.{ReadsBelow, Valuation, put, node_at, value_of, IsRef, IsReduced, BeginsWith, Has, IsAbsent, Built, NeedsMore, IsFewest}
use Rattle.rv_diagram.proofs.Needed.{ReadsFrom, IsNew, has_from, has_fixed, length-longer, value_of-begins}
use Rattle.rv_diagram.proofs.Building.{IsSplit, built_there, built_equal, built_found, built_push, built_split}
use Rattle.rv_diagram.proofs.{Canon.put-same, Canon.put-other, Canon.canonical, Calls.value_of-true, Calls.value_of-false}
use Rattle.rv_diagram.specs.Counting.{count_from, count, ReadsOnly}
use Rattle.rv_base.proofs.Truths.{bit_most, or_false_is}

-- COUNTS

abbrev bit : Bool → ℕ
bit b = cond b 1 0

bits-join : (a b : Bool) → (a ≡ true → b ≡ true → ⊥) → cond (a || b) 1 0 ≡ cond a 1 0 + cond b 1 0
bits-join true true off = absurd (off refl refl)
bits-join true false off = refl
bits-join false true off = refl
bits-join false false off = refl

bit-none : (b : Bool) → bit b ≡ 0 → b ≡ false
bit-none true h = absurd (omega arith)
bit-none false h = refl

pub count-same : (d x : ℕ) (f g : Valuation → Bool) → ((v : Valuation) → f v ≡ g v) → count_from d x f ≡ count_from d x g
count-same zero x f g same = ap (λ b. cond b 1 0) (same (λ k. false))
count-same (suc d) x f g same =
    ap (λ n. n + count_from d (x + 1) (λ v. f (put v x true)))
    (count-same d (x + 1) (λ v. f (put v x false)) (λ v. g (put v x false)) (λ v. same (put v x false)))
    ∙ ap (λ n. count_from d (x + 1) (λ v. g (put v x false)) + n)
    (count-same d (x + 1) (λ v. f (put v x true)) (λ v. g (put v x true)) (λ v. same (put v x true)))

four : (a b c d p q : ℕ) → p ≡ a + b → q ≡ c + d → p + q ≡ (a + c) + (b + d)
four a b c d p q h g = omega arith

pub count-join : (d x : ℕ) (f g : Valuation → Bool) → ((v : Valuation) → f v ≡ true → g v ≡ true → ⊥)
    → count_from d x (λ v. f v || g v) ≡ count_from d x f + count_from d x g
count-join zero x f g off = bits-join (f (λ k. false)) (g (λ k. false)) (off (λ k. false))
count-join (suc d) x f g off =
    four (count_from d (x + 1) (λ v. f (put v x false))) (count_from d (x + 1) (λ v. g (put v x false)))
    (count_from d (x + 1) (λ v. f (put v x true))) (count_from d (x + 1) (λ v. g (put v x true)))
    (count_from d (x + 1) (λ v. f (put v x false) || g (put v x false))) (count_from d (x + 1) (λ v. f (put v x true) || g (put v x true)))
    (count-join d (x + 1) (λ v. f (put v x false)) (λ v. g (put v x false)) (λ v. off (put v x false)))
    (count-join d (x + 1) (λ v. f (put v x true)) (λ v. g (put v x true)) (λ v. off (put v x true)))

doubled : (d : ℕ) → 2 ^ d + 2 ^ d ≡ 2 ^ (suc d)
doubled d = grind arith

pub count-most : (d x : ℕ) (f : Valuation → Bool) → count_from d x f ≤ 2 ^ d
count-most zero x f = bit_most (f (λ k. false))
count-most (suc d) x f =
    omega (arith, count-most d (x + 1) (λ v. f (put v x false)), count-most d (x + 1) (λ v. f (put v x true)), doubled d)

bit_le : (a b : Bool) → (a ≡ true → b ≡ true) → cond a 1 0 ≤ cond b 1 0
bit_le true true h = omega arith
bit_le true false h = absurd (false≢true (h refl))
bit_le false b h = omega arith

-- what is true at fewer valuations
pub count-le : (d x : ℕ) (f g : Valuation → Bool) → ((v : Valuation) → f v ≡ true → g v ≡ true) → count_from d x f ≤ count_from d x g
count-le zero x f g h = bit_le (f (λ k. false)) (g (λ k. false)) (h (λ k. false))
count-le (suc d) x f g h =
    let lo : count_from d (x + 1) (λ v. f (put v x false)) ≤ count_from d (x + 1) (λ v. g (put v x false)) =
    count-le d (x + 1) (λ v. f (put v x false)) (λ v. g (put v x false)) (λ v. h (put v x false)) in
    let hi : count_from d (x + 1) (λ v. f (put v x true)) ≤ count_from d (x + 1) (λ v. g (put v x true)) =
    count-le d (x + 1) (λ v. f (put v x true)) (λ v. g (put v x true)) (λ v. h (put v x true)) in
    omega (arith, lo, hi)

-- WHAT IS READ

-- it reads the d variables from x on alone
abbrev pub IsWithin : ℕ → ℕ → (Valuation → Bool) → Type 0
IsWithin x d f = (v w : Valuation) → ((k : ℕ) → x ≤ k → k < x + d → v k ≡ w k) → f v ≡ f w

within_from : (x d : ℕ) (f : Valuation → Bool) → IsWithin x d f → ReadsFrom x f
within_from x d f h v w same = h v w (λ k low high. same k low)

within_half : (x d : ℕ) (f : Valuation → Bool) (b : Bool) → IsWithin x (suc d) f → IsWithin (x + 1) d (λ v. f (put v x b))
within_half x d f b h v w same = h (put v x b) (put w x b) (λ k low high. ⊎_elim
    (λ e. subst (λ (j : ℕ). put v x b j ≡ put w x b j) (sym e) (put-same v x b ∙ sym (put-same w x b)))
    (λ off. put-other v x b k off ∙ same k (omega arith) (omega arith) ∙ sym (put-other w x b k off))
    (cases_eq k x))

pub same_put : (v : Valuation) (x : ℕ) (b : Bool) → v x ≡ b → (k : ℕ) → v k ≡ put v x b k
same_put v x b is k = ⊎_elim
    (λ e. subst (λ (j : ℕ). v j ≡ put v x b j) (sym e) (is ∙ sym (put-same v x b)))
    (λ off. sym (put-other v x b k off))
    (cases_eq k x)

none_true : (d x : ℕ) (f : Valuation → Bool) → IsWithin x d f → count_from d x f ≡ 0 → (v : Valuation) → f v ≡ false
none_true zero x f h none v = h v (λ k. false) (λ k low high. absurd (omega arith)) ∙ bit-none (f (λ k. false)) none
none_true (suc d) x f h none v =
    let lo : count_from d (x + 1) (λ w. f (put w x false)) ≡ 0 = omega (arith, none) in
    let hi : count_from d (x + 1) (λ w. f (put w x true)) ≡ 0 = omega (arith, none) in
    ⊎_elim
    (λ t. h v (put v x true) (λ k low high. same_put v x true t k) ∙ none_true d (x + 1) (λ w. f (put w x true)) (within_half x d f true h) hi v)
    (λ e. h v (put v x false) (λ k low high. same_put v x false e k) ∙ none_true d (x + 1) (λ w. f (put w x false)) (within_half x d f false h) lo v)
    (cases_Bool (v x))

-- NODES

same_node : (s t : Triple) → (s ≡ t) ⊎ (s ≢ t)
same_node s t = ⊎_elim
    (λ a. ⊎_elim
    (λ b. ⊎_elim
    (λ c. inl (λ i. record { var = a i; lo = b i; hi = c i }))
    (λ off. inr (λ e. off (ap (λ (u : Triple). u.hi) e)))
    (cases_eq s.hi t.hi))
    (λ off. inr (λ e. off (ap (λ (u : Triple). u.lo) e)))
    (cases_eq s.lo t.lo))
    (λ off. inr (λ e. off (ap (λ (u : Triple). u.var) e)))
    (cases_eq s.var t.var)

absent_more : (s t : Triple) (nodes : List Triple) → s ≢ t → IsAbsent nodes t → IsAbsent (s ∷ nodes) t
absent_more s t nodes off none zero low = off
absent_more s t nodes off none (suc i) low = none i (omega arith)

pub found_or_absent : (nodes : List Triple) (t : Triple) → ((i : ℕ) × (i < length nodes) × (node_at nodes i ≡ t)) ⊎ IsAbsent nodes t
found_or_absent [] t = inr (λ i low. absurd (omega arith))
found_or_absent (s ∷ nodes) t = ⊎_elim
    (λ e. inl (0, omega arith, e))
    (λ off. ⊎_elim
    (λ f. inl (suc f.0, omega (arith, f.1), f.2))
    (λ none. inr (absent_more s t nodes off none))
    (found_or_absent nodes t))
    (same_node s t)

few_more : (n b c d p q : ℕ) → b ≤ n + d * p → c ≤ b + d * q → c ≤ n + suc d * (p + q)
few_more n b c d p q h g = grind arith

few_one : (n b c d p q : ℕ) → b ≤ n + d * p → c ≤ b + d * q → 0 < p + q → c + 1 ≤ n + suc d * (p + q)
few_one n b c d p q h g some = grind arith

-- the nodes that a meaning needs, at most one a variable for each valuation
pub record IsFew (nodes : List Triple) (d x : ℕ) (f : Valuation → Bool) : Type 0 where
  pub new : List Triple
  pub ref : ℕ
  pub built : Built nodes new f ref
  pub few : length new ≤ length nodes + d * count_from d x f

few_constant : (nodes : List Triple) (x : ℕ) (f : Valuation → Bool) → IsReduced nodes → IsWithin x 0 f → IsFew nodes 0 x f
few_constant nodes x f red h = ⊎_elim
    (λ t. record {
      new = nodes;
      ref = 1;
      built = built_there nodes f 1 red (omega arith) (λ v. value_of-true nodes v ∙ sym t ∙ h (λ k. false) v (λ k low high. absurd (omega arith)));
      few = omega arith;
    })
    (λ e. record {
      new = nodes;
      ref = 0;
      built = built_there nodes f 0 red (omega arith) (λ v. value_of-false nodes v ∙ sym e ∙ h (λ k. false) v (λ k low high. absurd (omega arith)));
      few = omega arith;
    })
    (cases_Bool (f (λ k. false)))

pub built_few : (d x : ℕ) (nodes : List Triple) (f : Valuation → Bool) → IsReduced nodes → IsWithin x d f → IsFew nodes d x f
built_few zero x nodes f red h = few_constant nodes x f red h
built_few (suc d) x nodes f red h =
    let lo : Valuation → Bool = λ v. f (put v x false) in
    let hi : Valuation → Bool = λ v. f (put v x true) in
    let low_reads : IsWithin (x + 1) d lo = within_half x d f false h in
    let high_reads : IsWithin (x + 1) d hi = within_half x d f true h in
    let one : IsFew nodes d (x + 1) lo = built_few d (x + 1) nodes lo red low_reads in
    let two : IsFew one.new d (x + 1) hi = built_few d (x + 1) one.new hi one.built.reduced high_reads in
    let t : Triple = record { var = x; lo = one.ref; hi = two.ref } in
    let split : IsSplit x f lo hi = record { reads = within_from x (suc d) f h; low = λ v. refl; high = λ v. refl } in
    let longer : length one.new ≤ length two.new = length-longer two.new one.new two.built.grown in
    let first : IsRef two.new one.ref = omega (arith, one.built.ref, longer) in
    let means : (v : Valuation) → value_of two.new one.ref v ≡ lo v = λ v. value_of-begins two.new one.new two.built.grown one.ref one.built.ref v
    ∙ one.built.means v in
    let p : ℕ = count_from d (x + 1) lo in
    let q : ℕ = count_from d (x + 1) hi in
    let fits : length two.new ≤ length nodes + suc d * (p + q) = few_more (length nodes) (length one.new) (length two.new) d p q one.few two.few in
    ⊎_elim
    (λ e. record {
      new = two.new;
      ref = one.ref;
      built = built_split nodes one.new two.new two.new t f lo hi one.ref split one.built two.built (built_equal two.new t two.built.reduced first e);
      few = fits;
    })
    (λ differ.
    let fresh : IsNew two.new t = record {
      differ = differ;
      lo = first;
      hi = two.built.ref;
      lo_greater = has_from two.new two.built.reduced (x + 1) lo (within_from (x + 1) d lo low_reads) one.ref first means;
      hi_greater = has_from two.new two.built.reduced (x + 1) hi (within_from (x + 1) d hi high_reads) two.ref two.built.ref two.built.means;
    } in
    ⊎_elim
    (λ found. record {
      new = two.new;
      ref = found.0 + 2;
      built = built_split nodes one.new two.new two.new t f lo hi (found.0 + 2) split one.built two.built
          (built_found two.new t found.0 two.built.reduced found.1 found.2);
      few = fits;
    })
    (λ absent. record {
      new = two.new ++ t ∷ [];
      ref = length two.new + 2;
      built = built_split nodes one.new two.new (two.new ++ t ∷ []) t f lo hi (length two.new + 2) split one.built two.built
          (built_push two.new t two.built.reduced fresh absent);
      few = ⊎_elim
          (λ none. absurd (differ (canonical two.new two.built.reduced one.ref two.ref first two.built.ref
          (λ v. means v ∙ none_true d (x + 1) lo low_reads (omega (arith, none)) v
          ∙ sym (none_true d (x + 1) hi high_reads (omega (arith, none)) v) ∙ sym (two.built.means v)))))
          (λ some. let more : length two.new + 1 ≤ length nodes + suc d * (p + q) =
          few_one (length nodes) (length one.new) (length two.new) d p q one.few two.few (omega arith) in
          omega (arith, length_push two.new t, more))
          (cases_eq (p + q) 0);
    })
    (found_or_absent two.new t))
    (cases_eq one.ref two.ref)

-- OF ALL VARIABLES

within_all : (m : ℕ) (f : Valuation → Bool) → ReadsOnly m f → IsWithin 0 m f
within_all m f reads v w same = reads v w (λ k low. same k (omega arith) (omega arith))

-- a list that has the meaning and begins with the nodes
pub few_nodes : (m : ℕ) (nodes : List Triple) (f : Valuation → Bool) → IsReduced nodes → ReadsOnly m f
    → (longer : List Triple) × IsReduced longer × BeginsWith longer nodes × Has longer f × (length longer ≤ length nodes + m * count m f)
few_nodes m nodes f red reads =
    let made : IsFew nodes m 0 f = built_few m 0 nodes f red (within_all m f reads) in
    (made.new, made.built.reduced, made.built.grown, (made.ref, made.built.ref, made.built.means), made.few)

pub fewest_few : (m : ℕ) (old new : List Triple) (f : Valuation → Bool) → IsReduced old → ReadsOnly m f → IsFewest old new f
    → length new ≤ length old + m * count m f
fewest_few m old new f red reads fewest =
    let made : IsFew old m 0 f = built_few m 0 old f red (within_all m f reads) in
    let least : length new ≤ length made.new = fewest made.new made.built.reduced made.built.grown (made.ref, made.built.ref, made.built.means) in
    omega (arith, made.few, least)

pub needs_few : (m : ℕ) (nodes : List Triple) (limit : ℕ) (f : Valuation → Bool) → IsReduced nodes → ReadsOnly m f → NeedsMore nodes limit f
    → limit < length nodes + m * count m f
needs_few m nodes limit f red reads needs =
    let made : IsFew nodes m 0 f = built_few m 0 nodes f red (within_all m f reads) in
    let more : limit < length made.new = needs made.new made.built.reduced made.built.grown (made.ref, made.built.ref, made.built.means) in
    omega (arith, made.few, more)

count-false : (d x : ℕ) → count_from d x (λ v. false) ≡ 0
count-false zero x = refl
count-false (suc d) x = let h : count_from d (x + 1) (λ v. false) ≡ 0 = count-false d (x + 1) in omega (arith, h)

times_none : (m n l c : ℕ) → c ≡ 0 → n ≤ l + m * c → n ≤ l
times_none m n l c e h = let t : m * c ≡ 0 = ap (λ k. m * k) e ∙ grind arith in omega (arith, h, t)

-- what is true nowhere needs no node
pub none_few : (m n l : ℕ) (q : Valuation → Bool) → ((v : Valuation) → q v ≡ false) → n ≤ l + m * count m q → n ≤ l
none_few m n l q none h = times_none m n l (count m q) (count-same m 0 q (λ v. false) none ∙ count-false m 0) h

-- JOINED TO WHAT THERE IS

has_longer : (longer nodes : List Triple) (f : Valuation → Bool) → BeginsWith longer nodes → Has nodes f → Has longer f
has_longer longer nodes f begins has =
    (has.0, omega (arith, has.1, length-longer longer nodes begins), λ v. value_of-begins longer nodes begins has.0 has.1 v ∙ has.2 v)

-- the nodes that a union needs, where one of the two is had
pub record IsJoinedFew (nodes : List Triple) (d x : ℕ) (g f : Valuation → Bool) : Type 0 where
  pub new : List Triple
  pub ref : ℕ
  pub built : Built nodes new (λ v. g v || f v) ref
  pub few : length new ≤ length nodes + d * count_from d x f

joined_same : (d x : ℕ) (nodes : List Triple) (g f : Valuation → Bool) → IsReduced nodes → Has nodes g → ((v : Valuation) → f v ≡ false)
    → IsJoinedFew nodes d x g f
joined_same d x nodes g f red has none = record {
  new = nodes;
  ref = has.0;
  built = built_there nodes (λ v. g v || f v) has.0 red has.1 (λ v. has.2 v ∙ or_false_is (g v) (f v) (none v));
  few = omega arith;
}

joined_constant : (x : ℕ) (nodes : List Triple) (g f : Valuation → Bool) → IsReduced nodes → IsWithin x 0 g → IsWithin x 0 f → IsJoinedFew nodes 0 x g f
joined_constant x nodes g f red hg hf =
    let made : IsFew nodes 0 x (λ v. g v || f v) = few_constant nodes x (λ v. g v || f v) red
    (λ v w same. ap (λ b. b || f v) (hg v w same) ∙ ap (λ b. g w || b) (hf v w same)) in
    record { new = made.new; ref = made.ref; built = made.built; few = omega (arith, made.few) }

within_or : (x d : ℕ) (g f : Valuation → Bool) → IsWithin x d g → IsWithin x d f → IsWithin x d (λ v. g v || f v)
within_or x d g f hg hf v w same = ap (λ b. b || f v) (hg v w same) ∙ ap (λ b. g w || b) (hf v w same)

joined_step : (d x : ℕ) (nodes : List Triple) (g f : Valuation → Bool) → IsReduced nodes → IsWithin x (suc d) g → IsWithin x (suc d) f → Has nodes g
    → 0 < count_from (suc d) x f
    → (one : IsJoinedFew nodes d (x + 1) (λ v. g (put v x false)) (λ v. f (put v x false)))
    → IsJoinedFew one.new d (x + 1) (λ v. g (put v x true)) (λ v. f (put v x true)) → IsJoinedFew nodes (suc d) x g f
joined_step d x nodes g f red hg hf has some one two =
    let lo : Valuation → Bool = λ v. g (put v x false) || f (put v x false) in
    let hi : Valuation → Bool = λ v. g (put v x true) || f (put v x true) in
    let whole : Valuation → Bool = λ v. g v || f v in
    let low_reads : IsWithin (x + 1) d lo = within_half x d whole false (within_or x (suc d) g f hg hf) in
    let high_reads : IsWithin (x + 1) d hi = within_half x d whole true (within_or x (suc d) g f hg hf) in
    let t : Triple = record { var = x; lo = one.ref; hi = two.ref } in
    let split : IsSplit x whole lo hi = record { reads = within_from x (suc d) whole (within_or x (suc d) g f hg hf); low = λ v. refl; high = λ v. refl } in
    let longer : length one.new ≤ length two.new = length-longer two.new one.new two.built.grown in
    let first : IsRef two.new one.ref = omega (arith, one.built.ref, longer) in
    let means : (v : Valuation) → value_of two.new one.ref v ≡ lo v =
    λ v. value_of-begins two.new one.new two.built.grown one.ref one.built.ref v ∙ one.built.means v in
    let p : ℕ = count_from d (x + 1) (λ v. f (put v x false)) in
    let q : ℕ = count_from d (x + 1) (λ v. f (put v x true)) in
    let fits : length two.new ≤ length nodes + suc d * (p + q) = few_more (length nodes) (length one.new) (length two.new) d p q one.few two.few in
    let more : length two.new + 1 ≤ length nodes + suc d * (p + q) = few_one (length nodes) (length one.new) (length two.new) d p q one.few two.few some in
    ⊎_elim
    (λ e. record {
      new = two.new;
      ref = one.ref;
      built = built_split nodes one.new two.new two.new t whole lo hi one.ref split one.built two.built (built_equal two.new t two.built.reduced first e);
      few = fits;
    })
    (λ differ.
    let fresh : IsNew two.new t = record {
      differ = differ;
      lo = first;
      hi = two.built.ref;
      lo_greater = has_from two.new two.built.reduced (x + 1) lo (within_from (x + 1) d lo low_reads) one.ref first means;
      hi_greater = has_from two.new two.built.reduced (x + 1) hi (within_from (x + 1) d hi high_reads) two.ref two.built.ref two.built.means;
    } in
    ⊎_elim
    (λ found. record {
      new = two.new;
      ref = found.0 + 2;
      built = built_split nodes one.new two.new two.new t whole lo hi (found.0 + 2) split one.built two.built
          (built_found two.new t found.0 two.built.reduced found.1 found.2);
      few = fits;
    })
    (λ absent. record {
      new = two.new ++ t ∷ [];
      ref = length two.new + 2;
      built = built_split nodes one.new two.new (two.new ++ t ∷ []) t whole lo hi (length two.new + 2) split one.built two.built
          (built_push two.new t two.built.reduced fresh absent);
      few = omega (arith, length_push two.new t, more);
    })
    (found_or_absent two.new t))
    (cases_eq one.ref two.ref)

pub built_joined : (d x : ℕ) (nodes : List Triple) (g f : Valuation → Bool) → IsReduced nodes → IsWithin x d g → IsWithin x d f → Has nodes g
    → IsJoinedFew nodes d x g f
built_joined zero x nodes g f red hg hf has = joined_constant x nodes g f red hg hf
built_joined (suc d) x nodes g f red hg hf has = ⊎_elim
    (λ none. joined_same (suc d) x nodes g f red has (none_true (suc d) x f hf none))
    (λ some.
    let one : IsJoinedFew nodes d (x + 1) (λ v. g (put v x false)) (λ v. f (put v x false)) =
    built_joined d (x + 1) nodes (λ v. g (put v x false)) (λ v. f (put v x false)) red (within_half x d g false hg) (within_half x d f false hf)
    (has_fixed nodes red x false g (within_from x (suc d) g hg) has) in
    let two : IsJoinedFew one.new d (x + 1) (λ v. g (put v x true)) (λ v. f (put v x true)) =
    built_joined d (x + 1) one.new (λ v. g (put v x true)) (λ v. f (put v x true)) one.built.reduced (within_half x d g true hg) (within_half x d f true hf)
    (has_longer one.new nodes (λ v. g (put v x true)) one.built.grown (has_fixed nodes red x true g (within_from x (suc d) g hg) has)) in
    joined_step d x nodes g f red hg hf has (omega arith) one two)
    (cases_eq (count_from (suc d) x f) 0)

pub joined_fewest : (m : ℕ) (old new : List Triple) (g f : Valuation → Bool) → IsReduced old → ReadsOnly m g → ReadsOnly m f → Has old g
    → IsFewest old new (λ v. g v || f v) → length new ≤ length old + m * count m f
joined_fewest m old new g f red rg rf has fewest =
    let made : IsJoinedFew old m 0 g f = built_joined m 0 old g f red (within_all m g rg) (within_all m f rf) has in
    let least : length new ≤ length made.new = fewest made.new made.built.reduced made.built.grown (made.ref, made.built.ref, made.built.means) in
    omega (arith, made.few, least)

pub joined_needs : (m : ℕ) (nodes : List Triple) (limit : ℕ) (g f : Valuation → Bool) → IsReduced nodes → ReadsOnly m g → ReadsOnly m f → Has nodes g
    → NeedsMore nodes limit (λ v. g v || f v) → limit < length nodes + m * count m f
joined_needs m nodes limit g f red rg rf has needs =
    let made : IsJoinedFew nodes m 0 g f = built_joined m 0 nodes g f red (within_all m g rg) (within_all m f rf) has in
    let more : limit < length made.new = needs made.new made.built.reduced made.built.grown (made.ref, made.built.ref, made.built.means) in
    omega (arith, made.few, more)

pub both_reads : (nodes : List Triple) (m a b : ℕ) → ReadsBelow nodes m → IsRef nodes a → IsRef nodes b
    → ReadsOnly m (λ v. value_of nodes a v && value_of nodes b v)
both_reads nodes m a b reads first second v w same =
    ap (λ x. x && value_of nodes b v) (reads a first v w same) ∙ ap (λ x. value_of nodes a w && x) (reads b second v w same)
