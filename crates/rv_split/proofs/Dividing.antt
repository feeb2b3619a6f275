-- Rounds over the parts, by one variable after another.
use Rattle.std.proofs.Common.{ℕ, ◌+◌, ◌<◌, ◌≤◌, ◌≡◌, ◌⊎◌, ◌↔◌, inl, inr, Bool, List, [], ◌∷◌, ◌++◌, length, refl, sym, ap, ◌∙◌, subst}
use Rattle.std.proofs.Common.{⊎_elim, arith, set, take, get_or, Some, slice_get}
use Rattle.std.proofs.lemmas.Bool.{cases_eq, cases_lt, both_ways}
use Rattle.std.proofs.lemmas.Option.{get_or_from_slice_get}
use Rattle.std.proofs.lemmas.List.{get_or-take, length-take-le}
use Rattle.rv_diagram.specs.{Nodes.Valuation, Nodes.value_of, declared.frozen.Frozen.Frozen}
use Rattle.rv_proofs.specs.Scopes.{IsIn}
use Rattle.rv_split.specs.Partitions.{IsStateSet, AreParts, IsInSome, IsListed, IsSingle, part_at}
use Rattle.rv_split.specs.Splits.{IsCut, IsReplaced, IsEven, IsDivided, IsFirstFree, IsSplitAt}
use Rattle.rv_split.specs.{Modes.AreApart, Modes.OccurAtMost, Steps.AreKeptBy, Steps.IsStepBy, Steps.IsRound}
use Rattle.rv_split.proofs.Replacing.{longer, even_new, same_new, kept_new, kept_equal, parts_new, union_new}
use Rattle.rv_split.proofs.Moding.{crowded}

pub part_is : (parts : List Frozen) (k : ℕ) (part : Frozen) → slice_get parts k ≡ Some part → part_at parts k ≡ part
part_is parts k part at = get_or_from_slice_get parts k part (record { nodes = []; root = 0 }) at

-- a set that is true where a variable is
pub even_by : (part by : Frozen) (x : ℕ) → ((v : Valuation) → value_of by.nodes by.root v ≡ v x) → IsEven part (value_of by.nodes by.root)
    → IsEven part (λ v. v x)
even_by part by x means even v w iv iw = sym (means v) ∙ even v w iv iw ∙ means w

pub divided_by_variable : (part by : Frozen) (x : ℕ) → ((v : Valuation) → value_of by.nodes by.root v ≡ v x) → IsDivided part (value_of by.nodes by.root)
    → IsDivided part (λ v. v x)
divided_by_variable part by x means d = record {
  here = d.here;
  in_here = d.in_here;
  holds = sym (means d.here) ∙ d.holds;
  there = d.there;
  in_there = d.in_there;
  fails = sym (means d.there) ∙ d.fails;
}

pub divided_as_set : (part by : Frozen) (x : ℕ) → ((v : Valuation) → value_of by.nodes by.root v ≡ v x) → IsDivided part (λ v. v x)
    → IsDivided part (value_of by.nodes by.root)
divided_as_set part by x means d = record {
  here = d.here;
  in_here = d.in_here;
  holds = means d.here ∙ d.holds;
  there = d.there;
  in_there = d.in_there;
  fails = means d.there ∙ d.fails;
}

pub cut_by_variable : (part by hit miss : Frozen) (x : ℕ) → ((v : Valuation) → value_of by.nodes by.root v ≡ v x) → IsCut part
    (value_of by.nodes by.root) hit miss
    → IsCut part (λ v. v x) hit miss
cut_by_variable part by hit miss x means c = record {
  yes_exact = λ v. (
    λ h. (((c.yes_exact v).0 h).0, sym (means v) ∙ ((c.yes_exact v).0 h).1),
    λ (a, b). (c.yes_exact v).1 (a, means v ∙ b),
  );
  no_exact = λ v. (
    λ h. (((c.no_exact v).0 h).0, sym (means v) ∙ ((c.no_exact v).0 h).1),
    λ (a, b). (c.no_exact v).1 (a, means v ∙ b),
  );
  some_yes = c.some_yes;
  some_no = c.some_no;
}

abbrev pub replaced_of : (old new : List Frozen) (at : ℕ) (test : Valuation → Bool) (part hit miss : Frozen) → at < length old → slice_get old at ≡ Some part
    → IsCut part test hit miss → new ≡ set old at hit ++ miss ∷ [] → IsReplaced old new at test
replaced_of old new at test part hit miss there is cut e = record {
  there = there;
  yes = hit;
  no = miss;
  cut = subst (λ (f : Frozen). IsCut f test hit miss) (sym (part_is old at part is)) cut;
  parts = e;
}

pub step_kept : (limit : ℕ) (old new : List Frozen) (at x : ℕ) → IsStepBy limit old new at x → AreKeptBy x old new
step_kept limit old new at x (inl (e, full)) = kept_equal x old new e
step_kept limit old new at x (inr (inl (e, even))) = kept_equal x old new e
step_kept limit old new at x (inr (inr r)) = kept_new old new at x r

-- the bit has one value in the parts that the round has come to, and in the new ones
abbrev pub IsDone : ℕ → ℕ → ℕ → List Frozen → ℕ → Type 0
IsDone limit count x parts at = (limit ≤ length parts)
    ⊎ ((k : ℕ) → k < length parts → (k < at) ⊎ (count ≤ k) → IsEven (part_at parts k) (λ v. v x))

pub step_done : (limit count at x : ℕ) (old new : List Frozen) → IsStepBy limit old new at x → at < count → count ≤ length old
    → IsDone limit count x old at → IsDone limit count x new (at + 1)
step_done limit count at x old new (inl (e, full)) low few done = inl (subst (λ (l : List Frozen). limit ≤ length l) (sym e) full)
step_done limit count at x old new (inr (inl (e, even))) low few (inl full) = inl (subst (λ (l : List Frozen). limit ≤ length l) (sym e) full)
step_done limit count at x old new (inr (inl (e, even))) low few (inr done) =
    inr (subst (λ (l : List Frozen). (k : ℕ) → k < length l → (k < at + 1) ⊎ (count ≤ k) → IsEven (part_at l k) (λ v. v x)) (sym e)
    (λ k lt here. ⊎_elim
    (λ same. subst (λ (n : ℕ). IsEven (part_at old n) (λ v. v x)) (sym same) even)
    (λ ne. done k lt (⊎_elim (λ less. inl (omega (arith, less, ne))) (λ ge. inr ge) here))
    (cases_eq k at)))
step_done limit count at x old new (inr (inr r)) low few (inl full) = inl (omega (arith, full, longer old new at (λ v. v x) r))
step_done limit count at x old new (inr (inr r)) low few (inr done) =
    inr (λ k lt here. go k lt here (cases_eq k at) (cases_lt k (length old)))
  where
    go : (k : ℕ) → k < length new → (k < at + 1) ⊎ (count ≤ k) → (k ≡ at) ⊎ (k ≡ at → ⊥) → (k < length old) ⊎ (length old ≤ k)
        → IsEven (part_at new k) (λ v. v x)
    go k lt here (inl e) b = even_new old new at (λ v. v x) r k lt (inl e)
    go k lt here (inr ne) (inr ge) = even_new old new at (λ v. v x) r k lt (inr ge)
    go k lt here (inr ne) (inl less) = subst (λ (f : Frozen). IsEven f (λ v. v x)) (sym (same_new old new at (λ v. v x) r k less ne))
        (done k less (⊎_elim (λ b. inl (omega (arith, b, ne))) (λ ge. inr ge) here))

pub done_none : (limit x : ℕ) (parts : List Frozen) (count : ℕ) → count ≡ length parts → IsDone limit count x parts 0
done_none limit x parts count e = inr (λ k lt here. absurd (⊎_elim (λ (less : k < 0). let z : ⊥ = omega (arith, less) in z)
    (λ (ge : count ≤ k). let z : ⊥ = omega (arith, ge, lt, e) in z) here))

pub done_all : (limit x : ℕ) (parts : List Frozen) (count at : ℕ) → count ≤ at → IsDone limit count x parts at → IsRound limit parts x
done_all limit x parts count at past (inl full) = inl full
done_all limit x parts count at past (inr done) = inr (λ k lt. done k lt (⊎_elim (λ less. inl (omega (arith, less, past))) (λ ge. inr ge) (cases_lt k count)))

-- the first i bits have one value each in each part, unless there are as many parts as there may be
abbrev pub AreModes : ℕ → List ℕ → List Frozen → Type 0
AreModes limit bits parts = (limit ≤ length parts) ⊎ ((k : ℕ) → k < length parts → IsSingle bits (part_at parts k))

pub modes_none : (limit : ℕ) (state : List ℕ) (parts : List Frozen) → AreModes limit (take 0 state) parts
modes_none limit state parts = inr (λ k lt v w iv iw x listed. absurd (none (length (take 0 state)) refl listed.0 listed.1))
  where
    none : (n : ℕ) → n ≡ 0 → (i : ℕ) → i < n → ⊥
    none n e i lt = omega (arith, e, lt)

pub modes_more : (limit i x : ℕ) (state : List ℕ) (old new : List Frozen) → i < length state → get_or state i 0 ≡ x → AreKeptBy x old new → IsRound limit new x
    → AreModes limit (take i state) old → AreModes limit (take (i + 1) state) new
modes_more limit i x state old new low is kept round (inl full) = inl (omega (arith, full, kept.grown))
modes_more limit i x state old new low is kept (inl full) (inr single) = inl full
modes_more limit i x state old new low is kept (inr even) (inr single) = inr (λ k lt v w iv iw y listed. ⊎_elim
    (λ less. let from : (n : ℕ) × (n < length old) × ((v : Valuation) → IsIn (part_at new k) v → IsIn (part_at old n) v) = kept.refined k lt in
    single from.0 from.1 v w (from.2 v iv) (from.2 w iw) y (
      listed.0,
      omega (arith, length-take-le i state (omega (arith, low)), less),
      get_or-take i state listed.0 0 less ∙ sym (get_or-take (i + 1) state listed.0 0 (omega (arith, less))) ∙ listed.2,
    ))
    (λ ge. let at : listed.0 ≡ i = omega (arith, length-take-le (i + 1) state (omega (arith, low)), listed.1, ge) in
    let y_is : y ≡ x = sym listed.2 ∙ get_or-take (i + 1) state listed.0 0 (omega (arith, at)) ∙ ap (λ (n : ℕ). get_or state n 0) at ∙ is in
    subst (λ (z : ℕ). v z ≡ w z) (sym y_is) (even k lt v w iv iw))
    (cases_lt listed.0 i))

pub modes_all : (limit : ℕ) (bits : List ℕ) (set : Frozen) (parts : List Frozen) → AreModes limit bits parts → OccurAtMost bits set limit → AreApart bits parts
    → ((k : ℕ) → k < length parts → (v : Valuation) × IsIn (part_at parts k) v) → ((v : Valuation) → IsInSome parts v ↔ IsIn set v)
    → (k : ℕ) → k < length parts → IsSingle bits (part_at parts k)
modes_all limit bits set parts (inr single) occur apart some union k lt = single k lt
modes_all limit bits set parts (inl full) occur apart some union k lt = λ v w iv iw.
    crowded bits set parts limit occur full apart some (λ n u less inside. (union u).0 (n, less, inside)) k lt v w iv iw

pub listed_tick : (ticks i x : ℕ) (state : List ℕ) → i < ticks → ticks ≤ length state → get_or state i 0 ≡ x → IsListed (take ticks state) x
listed_tick ticks i x state low le is = (i, omega (arith, length-take-le ticks state le, low), get_or-take ticks state i 0 low ∙ is)

pub part_set : (m : ℕ) (state : List ℕ) (parts : List Frozen) (k : ℕ) (part : Frozen) → AreParts m state parts → k < length parts
    → slice_get parts k ≡ Some part → IsStateSet m state part
part_set m state parts k part are low is = subst (IsStateSet m state) (part_is parts k part is) (are.sets k low)

pub one_part : (m : ℕ) (state : List ℕ) (part : Frozen) → IsStateSet m state part → ((v : Valuation) × IsIn part v) → AreParts m state (part ∷ [])
one_part m state part set some = record {
  sets = λ k low. subst (λ (n : ℕ). IsStateSet m state (part_at (part ∷ []) n)) (let e : 0 ≡ k = omega (arith, low) in e) set;
  some = λ k low. subst (λ (n : ℕ). (v : Valuation) × IsIn (part_at (part ∷ []) n) v) (let e : 0 ≡ k = omega (arith, low) in e) some;
  disjoint = λ k n v lk ln iv iw. omega (arith, lk, ln);
}

pub not_single : (state : List ℕ) (set : Frozen) (x : ℕ) → IsFirstFree state set x → IsSingle state set → ⊥
not_single state set x f single =
    let same : f.divided.here x ≡ f.divided.there x = single f.divided.here f.divided.there f.divided.in_here f.divided.in_there x
    (f.place, f.listed, f.is_x) in
    both_ways (f.divided.here x) (same ∙ f.divided.fails) f.divided.holds

pub split_made : (state : List ℕ) (hint part hit miss : Frozen) (old new : List Frozen) (at x : ℕ) → at < length old → slice_get old at ≡ Some part
    → IsFirstFree state part x → IsCut part (value_of hint.nodes hint.root) hit miss ⊎
    (IsEven part (value_of hint.nodes hint.root) × IsCut part (λ v. v x) hit miss)
    → new ≡ set old at hit ++ miss ∷ [] → IsSplitAt state hint old new at
split_made state hint part hit miss old new at x low is free (inl cut) e =
    inl (replaced_of old new at (value_of hint.nodes hint.root) part hit miss low is cut e)
split_made state hint part hit miss old new at x low is free (inr (even, cut)) e = inr (
  subst (λ (f : Frozen). IsEven f (value_of hint.nodes hint.root)) (sym (part_is old at part is)) even,
  (x, subst (λ (f : Frozen). IsFirstFree state f x) (sym (part_is old at part is)) free, replaced_of old new at (λ v. v x) part hit miss low is cut e),
)

pub split_union : (state : List ℕ) (hint : Frozen) (old new : List Frozen) (at : ℕ) → IsSplitAt state hint old new at
    → (v : Valuation) → IsInSome new v ↔ IsInSome old v
split_union state hint old new at (inl r) = union_new old new at (value_of hint.nodes hint.root) r
split_union state hint old new at (inr (even, (x, free, r))) = union_new old new at (λ v. v x) r

pub parts_any : (m : ℕ) (state : List ℕ) (hint part hit miss : Frozen) (old new : List Frozen) (at x : ℕ) → AreParts m state old → at < length old
    → slice_get old at ≡ Some part
    → IsCut part (value_of hint.nodes hint.root) hit miss ⊎ (IsEven part (value_of hint.nodes hint.root) × IsCut part (λ v. v x) hit miss)
    → new ≡ set old at hit ++ miss ∷ [] → IsStateSet m state hit → IsStateSet m state miss → AreParts m state new
parts_any m state hint part hit miss old new at x are low is (inl cut) e one two =
    parts_new old new at (value_of hint.nodes hint.root) (replaced_of old new at (value_of hint.nodes hint.root) part hit miss low is cut e) m state are one two
parts_any m state hint part hit miss old new at x are low is (inr (even, cut)) e one two =
    parts_new old new at (λ v. v x) (replaced_of old new at (λ v. v x) part hit miss low is cut e) m state are one two

pub split_longer : (state : List ℕ) (hint : Frozen) (old new : List Frozen) (at : ℕ) → IsSplitAt state hint old new at → length new ≡ length old + 1
split_longer state hint old new at (inl r) = longer old new at (value_of hint.nodes hint.root) r
split_longer state hint old new at (inr (even, (x, free, r))) = longer old new at (λ v. v x) r
