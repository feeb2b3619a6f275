-- What is shown stays shown as the store grows.
use Rattle.std.proofs.Common.{◌≡◌, ℕ, zero, suc, ◌+◌, ◌<◌, ◌≤◌, Bool, true, cond, List, [], ◌∷◌, ◌++◌, length, map, drop, refl, sym, ◌∙◌, ap, subst, arith, inl}
use Rattle.std.proofs.Common.{inr, Option, Some, Result, Ok, Err, IfOk, OnOk, None as Nothing}
use Rattle.std.proofs.lemmas.List.{get_or-set_same, get_or-set_other, length-set, length-map, length-append}
use Rattle.std.proofs.{lemmas.Bool.cases_eq, Math.ListN.drop_of_length-le}
use Rattle.std.specs.Prelude.{slice_get, slice_set, slice_index_or}
use Rattle.rv_types.specs.declared.typed.Kind.TheVariants as kind
use Rattle.rv_diagram.specs.{declared.Triple.Triple, Nodes.Valuation, Nodes.Diagrams, Nodes.value_of, Several.ref_at}
use Rattle.rv_diagram.specs.Growing.{Extends}
use Rattle.rv_diagram.proofs.Growing.{extends_refl}
use Rattle.rv_agreement.specs.{Agreement.Fits, Agreement.AllFit, Trees.More, Trees.Kept, Trees.nth_item, Trees.memory_items, Trees.kind_at, Trees.memory_kinds}
use Rattle.rv_agreement.specs.{Valuations.Reading, Valuations.Truth, Valuations.holds_true, Valuations.read, Valuations.IsSymbolic}
use Rattle.rv_flat.specs.{declared.flat.Flat.Flat, declared.parts.FlatExpr.FlatExpr, declared.parts.FlatMemory.FlatMemory, Inlined.IsTable, Inlined.tree_among}
use Rattle.rv_flat.specs.{Systems.kept_of, Systems.memory_item, FlatInstants.system_of}
use Rattle.rv_control.specs.Named.{named}
use Rattle.rv_symbolic.specs.Linked.{AreRefs}
use Rattle.rv_symbolic.proofs.Extending.{refs_after}
use Rattle.rv_bits.specs.Shown.{refs_at, found, is_there_at, AreTables, AreFlowRefs, IsAfter, AreAfter, IsAround, ReadsTo}
use Rattle.rv_bits.specs.Reads.{trees_in, tree_in, true_at, ShowsTo}
use Rattle.rv_bits.specs.{declared.around.Around.Around, declared.around.Tables.Tables, declared.around.FlowRefs.FlowRefs, Bits.bit, Bits.count_true}
use Rattle.rv_bits.proofs.{Making.any_ref, Making.bits_kept, Making.ref_before, Making.ref_last, Showing.shows_same, Showing.shows_kept, Showing.shows_truth}
use Rattle.rv_base.proofs.Options.{some_same}

pub tables_kept : (f : Flat) (a b : Diagrams) (t : Tables) → Extends a b → AreTables f a.nodes t → AreTables f b.nodes t
tables_kept f a b t e are = record {
  tick_refs = refs_after a b t.ticks e are.tick_refs;
  ticks = λ k v lt. e.kept (ref_at t.ticks k) (any_ref a.nodes t.ticks are.tick_refs k) v ∙ are.ticks k v lt;
  kept_refs = λ m. refs_after a b (refs_at t.kept m) e (are.kept_refs m);
  kept = λ m v lt. shows_kept a b v (kind_at (memory_kinds (system_of f)) m) (refs_at t.kept m) ((found f v).kept m) e (are.kept_refs m) (are.kept m v lt);
  given_refs = λ j. refs_after a b (refs_at t.given j) e (are.given_refs j);
  given = λ j v lt. shows_kept a b v (kind_at (system_of f).inputs j) (refs_at t.given j) ((found f v).given j) e (are.given_refs j) (are.given j v lt);
}

pub flows_kept : (f : Flat) (a b : Diagrams) (r : FlowRefs) → Extends a b → AreFlowRefs f a.nodes r → AreFlowRefs f b.nodes r
flows_kept f a b r e are = record {
  size = are.size;
  on_refs = refs_after a b r.on e are.on_refs;
  bit_refs = λ k. refs_after a b (refs_at r.bits k) e (are.bit_refs k);
  on_shows = λ k v row lt instant. e.kept (ref_at r.on k) (any_ref a.nodes r.on are.on_refs k) v ∙ are.on_shows k v row lt instant;
  shows = λ k v row x lt instant here. shows_kept a b v (kind_at (system_of f).kinds k) (refs_at r.bits k) x e (are.bit_refs k)
      (are.shows k v row x lt instant here);
}

pub around_kept : (a b : Diagrams) (x : Around) → Extends a b → IsAround a x → IsAround b x
around_kept a b x e is = record {
  few = is.few;
  variables = subst (λ n. length x.flat.now.variables ≤ n) (sym e.variables) is.variables;
  table = is.table;
  well = is.well;
  tables = tables_kept x.flat.now a b x.tables.now e is.tables;
  flows = flows_kept x.flat.now a b x.read.now e is.flows;
}

pub one_after_kept : (f : Flat) (a b : Diagrams) (m : ℕ) (refs : List ℕ) → Extends a b → IsAfter f a.nodes m refs → IsAfter f b.nodes m refs
one_after_kept f a b m refs e is = record {
  are_refs = refs_after a b refs e is.are_refs;
  shows = λ v row lt instant. shows_same a.nodes b.nodes v (kind_at (memory_kinds (system_of f)) m) refs refs _ (bits_kept a b refs e is.are_refs v)
      (is.shows v row lt instant);
}

pub after_kept : (f : Flat) (a b : Diagrams) (shown : List (Option (List ℕ))) → Extends a b → AreAfter f a.nodes shown → AreAfter f b.nodes shown
after_kept f a b shown e are = record { size = are.size; each = λ m refs is. one_after_kept f a b m refs e (are.each m refs is) }

-- what one more memory holds is known
pub after_set : (f : Flat) (nodes : List Triple) (shown : List (Option (List ℕ))) (m : ℕ) (refs : List ℕ) → m < length shown → AreAfter f nodes shown
    → IsAfter f nodes m refs
    → AreAfter f nodes (slice_set shown m (Some refs))
after_set f nodes shown m refs lt are is = record {
  size = length-set shown m (Some refs) ∙ are.size;
  each = λ k other e. elim (cases_eq k m) [
    | inl same ↦
        let here : slice_index_or (slice_set shown m (Some refs)) k Nothing ≡ Some refs = ap (λ n. slice_index_or (slice_set shown m (Some refs)) n Nothing)
        same ∙ get_or-set_same shown m (Some refs) Nothing lt in
        let list : refs ≡ other = some_same refs other (sym here ∙ e) in
        subst (λ (l : List ℕ). IsAfter f nodes k l) list (subst (λ n. IsAfter f nodes n refs) (sym same) is)
    | inr apart ↦ are.each k other (sym (get_or-set_other shown m k (Some refs) Nothing apart) ∙ e)
  ];
}

-- COUNTING

count_same : (n : ℕ) (g h : ℕ → Bool) → ((b : ℕ) → b < n → g b ≡ h b) → count_true n g ≡ count_true n h
count_same zero g h same = refl
count_same (suc n) g h same = λ i. count_same n g h (λ b lt. same b (omega arith)) i + cond (same n (omega arith) i) 1 0

count_pushed : (a b : Diagrams) (refs : List ℕ) (r : ℕ) (v : Valuation) → Extends a b → AreRefs a.nodes refs
    → count_true (length (refs ++ r ∷ [])) (bit b.nodes (refs ++ r ∷ []) v) ≡ count_true (length refs) (bit a.nodes refs v) + cond (value_of b.nodes r v) 1 0
count_pushed a b refs r v e are =
    let long : length (refs ++ r ∷ []) ≡ suc (length refs) = length-append refs (r ∷ []) ∙ (let z : length refs + 1 ≡ suc (length refs) = omega arith in z) in
    ap (λ n. count_true n (bit b.nodes (refs ++ r ∷ []) v)) long
    ∙ (λ i. count_same (length refs) (bit b.nodes (refs ++ r ∷ []) v) (bit a.nodes refs v) (λ k lt. ap (λ x. value_of b.nodes x v) (ref_before refs r k lt)
    ∙ bits_kept a b refs e are v k) i
    + cond (ap (λ x. value_of b.nodes x v) (ref_last refs r (length refs) refl) i) 1 0)

-- the expressions that are left
pub trees_left : (x : Around) (es : List FlatExpr) (i : ℕ) (e : FlatExpr) → i < length es → drop i es ≡ e ∷ drop (i + 1) es
    → trees_in x (drop i es) ≡ More (tree_in x e) (trees_in x (drop (i + 1) es))
trees_left x es i e lt is = ap (trees_in x) is

pub fit_more : (x : Around) (es : List FlatExpr) (i : ℕ) (e : FlatExpr) → i < length es → drop i es ≡ e ∷ drop (i + 1) es → (n : ℕ) (k : Option ℕ)
    → AllFit (system_of x.flat.now) n k (trees_in x (drop i es)) → Fits (system_of x.flat.now) n k kind.Bool (tree_in x e) × AllFit (system_of x.flat.now) n k
    (trees_in x (drop (i + 1) es))
fit_more x es i e lt is n k fit = subst (AllFit (system_of x.flat.now) n k) (trees_left x es i e lt is) fit

-- one more of some expressions is read
pub counted_more : (x : Around) (s new : Diagrams) (es : List FlatExpr) (i : ℕ) (e : FlatExpr) (refs bits : List ℕ) → i < length es
    → drop i es ≡ e ∷ drop (i + 1) es → AreRefs s.nodes refs
    → ReadsTo x.flat.now s new (tree_in x e) bits → (v : Valuation) (row : List (Option Reading)) (k : Option ℕ) (total : ℕ)
    → IsSymbolic (system_of x.flat.now) (named x.flat.now v) row
    → AllFit (system_of x.flat.now) (length (system_of x.flat.now).flows) k (trees_in x (drop i es)) → is_there_at x.flat.now v row k ≡ true
    → count_true (length refs) (bit s.nodes refs v) + true_at x.flat.now v row (trees_in x (drop i es)) ≡ total
    → count_true (length (refs ++ ref_at bits 0 ∷ [])) (bit new.nodes (refs ++ ref_at bits 0 ∷ []) v) + true_at x.flat.now v row
    (trees_in x (drop (i + 1) es)) ≡ total
counted_more x s new es i e refs bits lt is are r v row k total instant fit there before =
    let f : Flat = x.flat.now in
    let own : read (system_of f) (named f v) row (tree_in x e) ≡ Truth (bit new.nodes bits v 0) =
    shows_truth new.nodes v bits (read (system_of f) (named f v) row (tree_in x e))
    (r.shows v row k kind.Bool instant (fit_more x es i e lt is (length (system_of f).flows) k fit).0 there) in
    let left : true_at f v row (trees_in x (drop i es)) ≡ cond (holds_true (read (system_of f) (named f v) row (tree_in x e))) 1 0 + true_at f v row
    (trees_in x (drop (i + 1) es)) =
    ap (true_at f v row) (trees_left x es i e lt is) in
    let here : cond (holds_true (read (system_of f) (named f v) row (tree_in x e))) 1 0 ≡ cond (value_of new.nodes (ref_at bits 0) v) 1 0 = ap
    (λ y. cond (holds_true y) 1 0) own in
    let pushed : count_true (length (refs ++ ref_at bits 0 ∷ [])) (bit new.nodes (refs ++ ref_at bits 0 ∷ []) v) ≡ count_true (length refs)
    (bit s.nodes refs v) + cond (value_of new.nodes (ref_at bits 0) v) 1 0 =
    count_pushed s new refs (ref_at bits 0) v r.extends are in
    sums (count_true (length (refs ++ ref_at bits 0 ∷ [])) (bit new.nodes (refs ++ ref_at bits 0 ∷ []) v)) (count_true (length refs) (bit s.nodes refs v))
    (cond (value_of new.nodes (ref_at bits 0) v) 1 0)
    (cond (holds_true (read (system_of f) (named f v) row (tree_in x e))) 1 0) (true_at f v row (trees_in x (drop i es)))
    (true_at f v row (trees_in x (drop (i + 1) es))) total pushed here left before
  where
    sums : (new old one own rest after total : ℕ) → new ≡ old + one → own ≡ one → rest ≡ own + after → old + rest ≡ total → new + after ≡ total
    sums new old one own rest after total p q r s = omega arith

-- the exit of a call, of which a part is left
pub on_ok : {A E : Type 0} (o : Result A E) (P : A → Type 0) (Q : Type 0) → ((r : A) → P r → Q) → IfOk o P → OnOk o Q
on_ok (Ok r) P Q g h = g r h
on_ok (Err e) P Q g h = h

pub both_ok : {A E : Type 0} (o : Result A E) (P Q R : A → Type 0) → ((r : A) → P r → Q r → R r) → IfOk o P → IfOk o Q → IfOk o R
both_ok (Ok r) P Q R g h k = g r h k
both_ok (Err e) P Q R g h k = h

-- no expression is left past the last one
pub none_counted : (x : Around) (es : List FlatExpr) (i : ℕ) (v : Valuation) (row : List (Option Reading)) (count : ℕ) → length es ≤ i
    → count ≡ count + true_at x.flat.now v row (trees_in x (drop i es))
none_counted x es i v row count le =
    let none : true_at x.flat.now v row (trees_in x (drop i es)) ≡ true_at x.flat.now v row (trees_in x []) = ap (λ l. true_at x.flat.now v row (trees_in x l))
    (drop_of_length-le es le) in
    let zero_left : true_at x.flat.now v row (trees_in x []) ≡ 0 = refl in
    omega arith

-- past the memories nothing is shown
pub none_after : (f : Flat) (d : Diagrams) (m : ℕ) (refs : List ℕ) → refs ≡ [] → slice_get f.memories m ≡ Nothing → ShowsTo f d d m refs
none_after f d m refs e past = record {
  extends = extends_refl d;
  is_after = record {
    are_refs = subst (AreRefs d.nodes) (sym e) (λ k lt. absurd (omega arith));
    shows = λ v row lt instant.
        let inside : m < length f.memories = omega (arith, length-map f.memories (kept_of f.memories)) in
        let some : slice_get f.memories m ≡ Some (memory_here f.memories m inside) = memory_is f.memories m inside in
        absurd (some_none (memory_here f.memories m inside) (sym some ∙ past));
  };
}
  where
    some_none : {A : Type 0} (y : A) → Some y ≡ Nothing → ⊥
    some_none y h = cc

    memory_here : (ms : List FlatMemory) (k : ℕ) → k < length ms → FlatMemory
    memory_here [] k lt = absurd (omega arith)
    memory_here (y ∷ ys) zero lt = y
    memory_here (y ∷ ys) (suc k) lt = memory_here ys k (omega arith)

    memory_is : (ms : List FlatMemory) (k : ℕ) (lt : k < length ms) → slice_get ms k ≡ Some (memory_here ms k lt)
    memory_is [] k lt = absurd (omega arith)
    memory_is (y ∷ ys) zero lt = refl
    memory_is (y ∷ ys) (suc k) lt = memory_is ys k (omega arith)

-- a memory as an instant sees it
pub memory_item_at : (f : Flat) (m : ℕ) (memory : FlatMemory) → IsTable f.memories → slice_get f.memories m ≡ Some memory
    → nth_item (memory_items (system_of f)) m ≡ record { clock = memory.clock; body = tree_among f.memories memory.body }
memory_item_at f m memory table is = by f.memories m is
  where
    by : (ms : List FlatMemory) (k : ℕ) → slice_get ms k ≡ Some memory
        → nth_item (map (λ (y : Kept). y.item) (map (kept_of f.memories) ms)) k ≡ memory_item f.memories memory
    by [] k e = let bad : Nothing ≡ Some memory = e in absurd (cc)
    by (y ∷ ys) zero e = ap (memory_item f.memories) (some_same y memory e)
    by (y ∷ ys) (suc k) e = by ys k e
