-- What the state bits are after the instant.
use Rattle.std.proofs.Common.{◌≡◌, ℕ, zero, suc, ◌+◌, ◌*◌, ◌<◌, ◌≤◌, Bool, true, false, cond, nat_eq, List, [], ◌∷◌, ◌++◌, length, map, drop, refl, sym, ◌∙◌}
use Rattle.std.proofs.Common.{ap, subst, arith, inl, inr, length-append, Option, Some, None as Nothing}
use Rattle.std.proofs.lemmas.Bool.{and_parts, eqb-true, cases_lt}
use Rattle.std.proofs.{Math.ListN.drop_of_length-le, lemmas.List.length-map, lemmas.Option.slice_get_within}
use Rattle.std.specs.Prelude.{slice_get, slice_index_or}
use Rattle.rv_tree.specs.Places.{Sites, is_same, index_of}
use Rattle.rv_types.specs.declared.typed.Kind.{Kind}
use Rattle.rv_types.specs.declared.typed.Kind.TheVariants as kind
use Rattle.rv_types.specs.Lists as lists
use Rattle.rv_diagram.specs.{declared.Triple.Triple, Nodes.Valuation, Nodes.Diagrams, Nodes.IsRef, Nodes.value_of, Several.ref_at}
use Rattle.rv_diagram.proofs.Calls.{value_of-false}
use Rattle.rv_diagram.specs.Growing.{Extends}
use Rattle.rv_diagram.proofs.Growing.{extends_trans}
use Rattle.rv_agreement.specs.Valuations.{Reading, Truth, Name, Linear, reads_at, found_at, updated, IsSymbolic}
use Rattle.rv_agreement.specs.{Evaluation.after, Trees.Item, Trees.Kept, Trees.no_item, Trees.nth_item, Trees.memory_items, Trees.memory_kinds, Trees.kind_at}
use Rattle.rv_control.specs.{Control.bit_of, Control.state_bits, Control.tick_index, Control.next_truth, Named.named, Named.same_variable}
use Rattle.rv_flat.specs.Lists.{variable_of, tick_places}
use Rattle.rv_flat.specs.{declared.flat.Flat.Flat, declared.parts.Bit.Bit, declared.parts.FlatMemory.FlatMemory, Systems.kept_of, FlatInstants.system_of}
use Rattle.rv_flat.specs.declared.parts.Bit.TheVariants as variant
use Rattle.rv_symbolic.specs.Linked.{AreRefs}
use Rattle.rv_bits.specs.Following.{copies_in, kept_ref, variable_at, IsNextRead, AreNextRead}
use Rattle.rv_bits.specs.{Flows.AreAfters, Shown.Shows, Shown.IsAfter, Shown.refs_at, Tables.ticks_in}
use Rattle.rv_bits.proofs.{Keeping.one_after_kept, Making.any_ref, Making.ref_before, Making.ref_last, Showing.shows_truth}
use Rattle.rv_types.proofs.ChainLaws.{no_flag}

-- one variable more is counted
pub copies_more : (vs : List Bit) (i : ℕ) (x : Bit) → drop i vs ≡ x ∷ drop (i + 1) vs
    → state_bits (map variable_of (drop i vs)) ≡ copies_in x + state_bits (map variable_of (drop (i + 1) vs))
unfolding state_bits
copies_more vs i x left = ap (λ l. state_bits (map variable_of l)) left ∙ by x
  where
    rest : ℕ
    rest = state_bits (map variable_of (drop (i + 1) vs))

    by : (y : Bit) → state_bits (map variable_of (y ∷ drop (i + 1) vs)) ≡ copies_in y + rest
    by variant.Next = omega arith
    by variant.MainTick = omega arith
    by (variant.Tick p) = omega arith
    by (variant.Kept p b) = omega arith
    by (variant.Input j b) = omega arith
    by (variant.Test p s) = omega arith

pub copies_done : (vs : List Bit) (i : ℕ) → length vs ≤ i → state_bits (map variable_of (drop i vs)) ≡ 0
unfolding state_bits
copies_done vs i le = ap (λ l. state_bits (map variable_of l)) (drop_of_length-le vs le)

pub copies_few : (x : Bit) → copies_in x ≤ 1
copies_few variant.Next = omega arith
copies_few variant.MainTick = omega arith
copies_few (variant.Tick p) = omega arith
copies_few (variant.Kept p b) = omega arith
copies_few (variant.Input j b) = omega arith
copies_few (variant.Test p s) = omega arith

pub ticks_few : (x : Bit) → length (ticks_in x) ≤ 1
ticks_few variant.Next = omega arith
ticks_few variant.MainTick = omega arith
ticks_few (variant.Tick p) = omega arith
ticks_few (variant.Kept p b) = omega arith
ticks_few (variant.Input j b) = omega arith
ticks_few (variant.Test p s) = omega arith

abbrev ticks_of : List Bit → List (Option Sites)
ticks_of vs = map (λ p. Some p) (tick_places vs)

-- the tick is this one
pub tick_here : (vs : List Bit) (i : ℕ) (x : Bit) (p : Sites) → drop i vs ≡ x ∷ drop (i + 1) vs → same_variable (variable_of x) (lists.Tick p) ≡ true
    → tick_index (map (λ q. Some q) (tick_places (drop i vs))) (Some p) ≡ 0
unfolding tick_index
tick_here vs i x p left is = ap (λ l. tick_index (ticks_of l) (Some p)) left ∙ by x is
  where
    by : (y : Bit) → same_variable (variable_of y) (lists.Tick p) ≡ true → tick_index (ticks_of (y ∷ drop (i + 1) vs)) (Some p) ≡ 0
    by variant.Next e = no_flag e
    by variant.MainTick e = no_flag e
    by (variant.Tick q) e = ap (λ b. cond b 0 (suc (tick_index (ticks_of (drop (i + 1) vs)) (Some p)))) e
    by (variant.Kept q b) e = no_flag e
    by (variant.Input j b) e = no_flag e
    by (variant.Test q s) e = no_flag e

-- or a later one
pub tick_later : (vs : List Bit) (i : ℕ) (x : Bit) (p : Sites) → drop i vs ≡ x ∷ drop (i + 1) vs → same_variable (variable_of x) (lists.Tick p) ≡ false
    → tick_index (map (λ q. Some q) (tick_places (drop i vs))) (Some p) ≡ length (ticks_in x) + tick_index (map (λ q. Some q) (tick_places (drop (i + 1) vs)))
    (Some p)
unfolding tick_index
tick_later vs i x p left is = ap (λ l. tick_index (ticks_of l) (Some p)) left ∙ by x is
  where
    rest : ℕ
    rest = tick_index (ticks_of (drop (i + 1) vs)) (Some p)

    by : (y : Bit) → same_variable (variable_of y) (lists.Tick p) ≡ false → tick_index (ticks_of (y ∷ drop (i + 1) vs)) (Some p) ≡ length (ticks_in y) + rest
    by (variant.Tick q) e = ap (λ b. cond b 0 (suc rest)) e ∙ (let z : suc rest ≡ 1 + rest = omega arith in z)
    by _ e = omega arith

pub tick_none : (vs : List Bit) (i : ℕ) (p : Sites) → length vs ≤ i → tick_index (map (λ q. Some q) (tick_places (drop i vs))) (Some p) ≡ 0
unfolding tick_index
tick_none vs i p le = ap (λ l. tick_index (ticks_of l) (Some p)) (drop_of_length-le vs le)

pub tick_start : (vs : List Bit) (p : Sites) → 1 + tick_index (map (λ q. Some q) (tick_places vs)) (Some p) ≡ tick_index
    (Nothing ∷ map (λ q. Some q) (tick_places vs)) (Some p)
unfolding tick_index
tick_start vs p = let z : 1 + tick_index (ticks_of vs) (Some p) ≡ suc (tick_index (ticks_of vs) (Some p)) = omega arith in z

pub tick_main : (ts : List (Option Sites)) → tick_index (Nothing ∷ ts) Nothing ≡ 0
unfolding tick_index
tick_main ts = refl

-- the memory is this one, or a later one
pub index_step : (ps : List Sites) (i : ℕ) (q p : Sites) → drop i ps ≡ q ∷ drop (i + 1) ps
    → index_of (drop i ps) p ≡ cond (is_same q p) 0 (index_of (drop (i + 1) ps) p + 1)
index_step ps i q p left = ap (λ l. index_of l p) left

-- numbers that are told to be the same
pub numbers_told : (xs ys : List ℕ) → is_same xs ys ≡ true → xs ≡ ys
numbers_told [] [] e = refl
numbers_told [] (y ∷ ys) e = no_flag e
numbers_told (x ∷ xs) [] e = no_flag e
numbers_told (x ∷ xs) (y ∷ ys) e = let h = and_parts (nat_eq x y) (is_same xs ys) e in λ i. eqb-true x y h.0 i ∷ numbers_told xs ys h.1 i

pub clock_some : (g : Sites → ℕ) (ts : List Sites) (m n : ℕ) → slice_get (map g ts) m ≡ Some n → slice_index_or (map (λ p. Some (g p)) ts) m Nothing ≡ Some n
clock_some g [] m n e = let bad : Nothing ≡ Some n = e in absurd (cc)
clock_some g (t ∷ ts) zero n e = e
clock_some g (t ∷ ts) (suc m) n e = clock_some g ts m n e

pub clock_none : (g : Sites → ℕ) (ts : List Sites) (m : ℕ) → slice_get (map g ts) m ≡ Nothing → slice_index_or (map (λ p. Some (g p)) ts) m Nothing ≡ Nothing
clock_none g [] m e = refl
clock_none g (t ∷ ts) zero e = let bad : Some (g t) ≡ Nothing = e in absurd (cc)
clock_none g (t ∷ ts) (suc m) e = clock_none g ts m e

-- a bit of what a memory holds
pub kept_shown : (nodes : List Triple) (v : Valuation) (j : Kind) (refs : List ℕ) (a : Reading) (b : ℕ) → Shows nodes v j refs a
    → value_of nodes (kept_ref j refs b) v ≡ bit_of a b
kept_shown nodes v kind.Bool refs a b shows = sym (ap (λ x. bit_of x b) (shows_truth nodes v refs a shows))
kept_shown nodes v kind.Int refs (Linear g) b shows = value_of-false nodes v
kept_shown nodes v kind.Int refs (Truth t) b shows = no_flag shows
kept_shown nodes v kind.Int refs (Name l) b shows = no_flag shows
kept_shown nodes v (kind.Labels i) refs a b (l, is, number) = number b ∙ sym (ap (λ x. bit_of x b) is)

-- one state bit more
pub next_pushed : (f : Flat) (a s new : Diagrams) (n : ℕ) (refs : List ℕ) (r : ℕ) → AreNextRead f a s n refs → IsNextRead f s new (variable_at f (2 * n)) r
    → AreNextRead f a new (n + 1) (refs ++ r ∷ [])
next_pushed f a s new n refs r are one = record {
  extends = extends_trans a s new are.extends one.extends;
  size = length-append refs (r ∷ []) ∙ ap (λ k. k + 1) are.size;
  each = λ i lt v row instant. elim (cases_lt i n) [
    | inl below ↦ ap (λ x. value_of new.nodes x v) (ref_before refs r i (omega (arith, are.size))) ∙ one.extends.kept (ref_at refs i) (are.are_refs i below) v
        ∙ are.each i below v row instant
    | inr le ↦
        let same : n ≡ i = omega arith in
        subst (λ k. value_of new.nodes (ref_at (refs ++ r ∷ []) k) v ≡ next_truth (system_of f) (named f v) row (variable_at f (2 * k))) same
        (ap (λ x. value_of new.nodes x v) (ref_last refs r n are.size) ∙ one.means v row instant)
  ];
  are_refs = λ i lt. elim (cases_lt i n) [
    | inl below ↦ subst (IsRef new.nodes) (sym (ref_before refs r i (omega (arith, are.size)))) (omega (arith, are.are_refs i below, one.extends.longer))
    | inr le ↦ let same : n ≡ i = omega arith in subst (λ k. IsRef new.nodes (ref_at (refs ++ r ∷ []) k)) same
        (subst (IsRef new.nodes) (sym (ref_last refs r n are.size)) one.is_ref)
  ];
}

pub kept_is_ref : (nodes : List Triple) (j : Kind) (refs : List ℕ) (b : ℕ) → AreRefs nodes refs → IsRef nodes (kept_ref j refs b)
kept_is_ref nodes kind.Bool refs b are = any_ref nodes refs are 0
kept_is_ref nodes kind.Int refs b are = omega arith
kept_is_ref nodes (kind.Labels i) refs b are = any_ref nodes refs are b

-- an option that holds something is one of the list
pub some_within : {A : Type 0} (xs : List (Option A)) (k : ℕ) (y : A) → slice_index_or xs k Nothing ≡ Some y → k < length xs
some_within [] k y e = let bad : Nothing ≡ Some y = e in absurd (cc)
some_within (x ∷ xs) zero y e = omega arith
some_within (x ∷ xs) (suc k) y e = let h : k < length xs = some_within xs k y e in omega arith

module _ (f : Flat) where
  -- a memory by its number, and what stands past the last one
  pub kind_here : (m : ℕ) (memory : FlatMemory) → slice_get f.memories m ≡ Some memory → kind_at (memory_kinds (system_of f)) m ≡ memory.kind
  kind_here m memory is = by f.memories m is
    where
      by : (ms : List FlatMemory) (k : ℕ) → slice_get ms k ≡ Some memory → kind_at (map (λ (y : Kept). y.kind) (map (kept_of f.memories) ms)) k ≡ memory.kind
      by [] k e = let bad : Nothing ≡ Some memory = e in absurd (cc)
      by (y ∷ ys) zero e = let same : y ≡ memory = cc in ap (λ (z : FlatMemory). z.kind) same
      by (y ∷ ys) (suc k) e = by ys k e

  pub item_past : (m : ℕ) → slice_get f.memories m ≡ Nothing → nth_item (memory_items (system_of f)) m ≡ no_item
  item_past m is = by f.memories m is
    where
      by : (ms : List FlatMemory) (k : ℕ) → slice_get ms k ≡ Nothing → nth_item (map (λ (y : Kept). y.item) (map (kept_of f.memories) ms)) k ≡ no_item
      by [] k e = refl
      by (y ∷ ys) zero e = let bad : Some y ≡ Nothing = e in absurd (cc)
      by (y ∷ ys) (suc k) e = by ys k e

  pub memory_within : (m : ℕ) (memory : FlatMemory) → slice_get f.memories m ≡ Some memory → m < length f.memories
  memory_within m memory is = slice_get_within f.memories m memory is

  -- a bit of what the memory with a number holds
  pub bit_shown : (nodes : List Triple) (m b : ℕ) (memory : FlatMemory) (refs : List ℕ) → slice_get f.memories m ≡ Some memory → IsAfter f nodes m refs
      → (v : Valuation) (row : List (Option Reading)) → IsSymbolic (system_of f) (named f v) row
      → value_of nodes (kept_ref memory.kind refs b) v ≡ bit_of (updated (system_of f) (named f v) row m) b
  bit_shown nodes m b memory refs is after v row instant =
      let inside : m < length (system_of f).memories = omega (arith, memory_within m memory is, length-map f.memories (kept_of f.memories)) in
      kept_shown nodes v memory.kind refs (updated (system_of f) (named f v) row m) b
      (subst (λ (j : Kind). Shows nodes v j refs (updated (system_of f) (named f v) row m)) (kind_here m memory is) (after.shows v row inside instant))

  -- nothing is held past the last memory
  pub bit_past_all : (nodes : List Triple) (m b : ℕ) → slice_get f.memories m ≡ Nothing
      → (v : Valuation) (row : List (Option Reading)) → value_of nodes 0 v ≡ bit_of (updated (system_of f) (named f v) row m) b
  bit_past_all nodes m b is v row = value_of-false nodes v
      ∙ ap (λ (x : Item). bit_of (after Reading (reads_at (system_of f) (named f v)) (found_at (system_of f) (named f v)) row x m) b) (sym (item_past m is))

  pub afters_kept : (old a b : Diagrams) (n : ℕ) (lists : List (List ℕ)) → Extends a b → AreAfters f old a n lists → AreAfters f old b n lists
  afters_kept old a b n lists e are = record {
    extends = extends_trans old a b are.extends e;
    size = are.size;
    each = λ m lt. one_after_kept f a b m (refs_at lists m) e (are.each m lt);
  }

-- the places of the memories, as the system has them
pub places_same : (all ms : List FlatMemory) → map (λ (m : FlatMemory). m.place.sites) ms ≡ map (λ (y : Kept). y.place) (map (kept_of all) ms)
places_same all [] = refl
places_same all (m ∷ ms) = ap (λ l. m.place.sites ∷ l) (places_same all ms)
