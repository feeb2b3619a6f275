-- What tests of a flat system say.
use Rattle.std.proofs.Common.{◌≡◌, ℕ, zero, suc, ◌+◌, ◌<◌, Bool, true, false, ◌&&◌, ◌||◌, List, [], ◌∷◌, length, map, refl, subst, arith, Option}
use Rattle.std.proofs.Common.{Some, slice_get}
use Rattle.rv_tree.specs.{declared.tree.Op.Op, Places.Sites}
use Rattle.rv_types.specs.declared.typed.Kind.{Kind}
use Rattle.rv_types.specs.declared.typed.Kind.TheVariants as kind
use Rattle.rv_agreement.specs.Checks.{any_of, gives, operands, is_placed_for, is_of, same_clock, clock_fits, fits, form_fits, item_fits, flows_fit}
use Rattle.rv_agreement.specs.Checks.{assertions_fit, memories_fit}
use Rattle.rv_agreement.specs.Trees.{FlatTree, Binary, If, When, Current, Item, Kept, System, kind_at, memory_kinds, nth_item}
use Rattle.rv_base.proofs.Truths.{and_first, and_second, both_of}
use Rattle.rv_types.proofs.ChainLaws.{no_flag}

-- one of the types passes
pub some_kind : (test : Kind → Bool) (ks : List Kind) → any_of test ks ≡ true → (k : Kind) × (test k ≡ true)
some_kind test [] e = no_flag e
some_kind test (k ∷ ks) e = tested (test k) refl e (some_kind test ks)
  where
    tested : (b : Bool) → test k ≡ b → (b || any_of test ks) ≡ true → (any_of test ks ≡ true → (j : Kind) × (test j ≡ true)) → (j : Kind) × (test j ≡ true)
    tested true is e later = (k, is)
    tested false is e later = later e

-- an operator gives its type, and its operands are of one type
pub operator_fits : (s : System) (n : ℕ) (k : Option ℕ) (j : Kind) (at : Sites) (o : Op) (a b : FlatTree) → form_fits s n k j at (Binary o a b) ≡ true
    → (gives o j ≡ true) × ((i : Kind) × (fits s n k i a ≡ true) × (fits s n k i b ≡ true))
operator_fits s n k j at o a b e =
    let test : Kind → Bool = λ i. is_placed_for at o i && (fits s n k i a && fits s n k i b) in
    let outer = both_of (gives o j) (any_of test (operands s.labels o)) e in
    let found = some_kind test (operands s.labels o) outer.1 in
    let inner = both_of (is_placed_for at o found.0) (fits s n k found.0 a && fits s n k found.0 b) found.1 in
    let parts = both_of (fits s n k found.0 a) (fits s n k found.0 b) inner.1 in
    (outer.0, (found.0, parts.0, parts.1))

-- the parts of a choice, of a `when` and of a `current` fit
pub if_fits : (s : System) (n : ℕ) (k : Option ℕ) (j : Kind) (at : Sites) (c a b : FlatTree) → form_fits s n k j at (If c a b) ≡ true
    → (fits s n k kind.Bool c ≡ true) × (fits s n k j a ≡ true) × (fits s n k j b ≡ true)
if_fits s n k j at c a b fit =
    let outer = both_of (fits s n k kind.Bool c) (fits s n k j a && fits s n k j b) fit in
    let parts = both_of (fits s n k j a) (fits s n k j b) outer.1 in (outer.0, parts.0, parts.1)

pub when_fits : (s : System) (n : ℕ) (k : Option ℕ) (j : Kind) (at : Sites) (c : ℕ) (e : FlatTree) → form_fits s n k j at (When c e) ≡ true
    → fits s n (nth_item s.flows c).clock j e ≡ true
when_fits s n k j at c e fit =
    and_second (clock_fits s n (Some c)) (fits s n (nth_item s.flows c).clock j e)
    (and_second (same_clock k (Some c)) (clock_fits s n (Some c) && fits s n (nth_item s.flows c).clock j e) fit)

pub current_fits : (s : System) (n : ℕ) (k : Option ℕ) (j : Kind) (at : Sites) (m : ℕ) (i : Option ℕ) (e : FlatTree)
    → form_fits s n k j at (Current m i e) ≡ true → (clock_fits s n i ≡ true) × (fits s n i j e ≡ true)
current_fits s n k j at m i e fit =
    both_of (clock_fits s n i) (fits s n i j e) (and_second (is_of j (slice_get (memory_kinds s) m)) (clock_fits s n i && fits s n i j e) fit)

-- an item is over the first flows, as many as are said
pub record ItemFits (s : System) (n : ℕ) (x : Item) : Type 0 where
  pub clock : clock_fits s n x.clock ≡ true
  pub kind : Kind
  pub body : fits s n x.clock kind x.body ≡ true

of_test : (s : System) (n : ℕ) (j : Kind) (x : Item) → item_fits s n j x ≡ true → ItemFits s n x
of_test s n j x e = let parts = both_of (clock_fits s n x.clock) (fits s n x.clock j x.body) e in record { clock = parts.0; kind = j; body = parts.1 }

-- the k-th flow is over the first k
pub flow_fits : (s : System) (before : ℕ) (xs : List Item) (k : ℕ) → flows_fit s before xs ≡ true → k < length xs → ItemFits s (before + k) (nth_item xs k)
flow_fits s before [] k e lt = absurd (omega arith)
flow_fits s before (x ∷ xs) zero e lt =
    subst (λ n. ItemFits s n x) (let e : before ≡ before + 0 = omega arith in e)
    (of_test s before (kind_at s.kinds before) x (and_first (item_fits s before (kind_at s.kinds before) x) (flows_fit s (before + 1) xs) e))
flow_fits s before (x ∷ xs) (suc k) e lt =
    subst (λ n. ItemFits s n (nth_item xs k)) (let e : (before + 1) + k ≡ before + suc k = omega arith in e)
    (flow_fits s (before + 1) xs k (and_second (item_fits s before (kind_at s.kinds before) x) (flows_fit s (before + 1) xs) e) (omega arith))

-- a memory is over all flows, and so is an assertion
pub memory_fits : (s : System) (ms : List Kept) (m : ℕ) → memories_fit s ms ≡ true → m < length ms
    → ItemFits s (length s.flows) (nth_item (map (λ x. x.item) ms) m)
memory_fits s [] m e lt = absurd (omega arith)
memory_fits s (x ∷ ms) zero e lt = of_test s (length s.flows) x.kind x.item (both_of (item_fits s (length s.flows) x.kind x.item) (memories_fit s ms) e).0
memory_fits s (x ∷ ms) (suc m) e lt = memory_fits s ms m (both_of (item_fits s (length s.flows) x.kind x.item) (memories_fit s ms) e).1 (omega arith)

pub assertion_fits : (s : System) (xs : List Item) (k : ℕ) → assertions_fit s xs ≡ true → k < length xs → ItemFits s (length s.flows) (nth_item xs k)
assertion_fits s [] k e lt = absurd (omega arith)
assertion_fits s (x ∷ xs) zero e lt = of_test s (length s.flows) kind.Bool x (both_of (item_fits s (length s.flows) kind.Bool x) (assertions_fit s xs) e).0
assertion_fits s (x ∷ xs) (suc k) e lt = assertion_fits s xs k (both_of (item_fits s (length s.flows) kind.Bool x) (assertions_fit s xs) e).1 (omega arith)
