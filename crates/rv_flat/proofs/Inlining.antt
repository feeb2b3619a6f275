-- The table of the memories has the clock and the tree of each, and a tree among them shows its memories alone.
use Rattle.std.proofs.Common.{◌≡◌, ℕ, zero, suc, ◌<◌, Bool, true, ◌&&◌, List, [], ◌∷◌, length, map, refl, sym, ◌∙◌, ap, subst, arith, inl, inr, Option}
use Rattle.std.proofs.Common.{None as Nothing, Some}
use Rattle.std.proofs.{lemmas.Bool.and_parts, lemmas.Bool.cases_lt, lemmas.Option.slice_get_past, lemmas.Option.slice_get_within, Math.Nat.eq-or-lt_of_le}
use Rattle.std.proofs.{lemmas.Simd.map-map}
use Rattle.std.specs.Prelude.{slice_get}
use Rattle.rv_agreement.specs.Checks.{IsShared, FormIsShared, AreShared, IsInlined}
use Rattle.rv_agreement.specs.Trees.{Item, Kept, System, no_item, nth_item, memory_items}
use Rattle.rv_agreement.specs.Trees as tree
use Rattle.rv_flat.specs.Inlined.{inlined, form_inlined, all_inlined, item_by, table_to, table_of, shown_ends, ends_within, all_end, IsTable}
use Rattle.rv_flat.specs.RawTree.{RawTree, Node, RawForm, RawTrees, Not, Binary, Scale, If, AtMostOne, When, Current, None, More, raw_tree, all_shown}
use Rattle.rv_flat.specs.RawTree.{form_all_shown, each_all_shown}
use Rattle.rv_flat.specs.Systems.{asserted, assertion_item, flow_item, kept_of, memory_item, system_from}
use Rattle.rv_flat.specs.{declared.parts.Bit.Bit, declared.parts.FlatExpr.FlatExpr, declared.parts.FlatFlow.FlatFlow, declared.parts.FlatInput.FlatInput}
use Rattle.rv_flat.specs.{declared.parts.FlatMemory.FlatMemory}
use Rattle.rv_types.proofs.ChainLaws.{no_flag}

-- two tables that agree on the memories that are shown inline alike
module _ (has : ℕ → Bool) (a b : ℕ → Item) (agree : (m : ℕ) → has m ≡ true → a m ≡ b m) where
  mutual
    pub same_inlined : (e : RawTree) → all_shown has e ≡ true → inlined a e ≡ inlined b e
    same_inlined (Node at form) e = ap (tree.Node at) (same_form form e)

    same_form : (form : RawForm) → form_all_shown has form ≡ true → form_inlined a form ≡ form_inlined b form
    same_form (Not x) e = ap tree.Not (same_inlined x e)
    same_form (Binary o x y) e =
        let parts = and_parts (all_shown has x) (all_shown has y) e in
        λ i. tree.Binary o (same_inlined x parts.0 i) (same_inlined y parts.1 i)
    same_form (Scale z x) e = ap (tree.Scale z) (same_inlined x e)
    same_form (If c x y) e =
        let outer = and_parts (all_shown has c) (all_shown has x && all_shown has y) e in
        let parts = and_parts (all_shown has x) (all_shown has y) outer.1 in
        λ i. tree.If (same_inlined c outer.0 i) (same_inlined x parts.0 i) (same_inlined y parts.1 i)
    same_form (AtMostOne es) e = ap tree.AtMostOne (same_each es e)
    same_form (When c x) e = ap (tree.When c) (same_inlined x e)
    same_form (Current m) e = let s = agree m e in λ i. tree.Current m (s i).clock (s i).body
    same_form _ e = refl

    same_each : (es : RawTrees) → each_all_shown has es ≡ true → all_inlined a es ≡ all_inlined b es
    same_each None e = refl
    same_each (More x es) e =
        let parts = and_parts (all_shown has x) (each_all_shown has es) e in
        λ i. tree.More (same_inlined x parts.0 i) (same_each es parts.1 i)

module _ (ms : List FlatMemory) where
  -- where following what a memory shows has ended, following it once more adds nothing
  longer : (n k : ℕ) → ends_within ms n k ≡ true → table_to ms (suc n) k ≡ table_to ms n k
  longer zero k e = no_flag e
  longer (suc n) k e = by (slice_get ms k) e (longer n)
    where
      by : (o : Option FlatMemory) → shown_ends (ends_within ms n) o ≡ true → ((j : ℕ) → ends_within ms n j ≡ true → table_to ms (suc n) j ≡ table_to ms n j)
          → item_by (table_to ms (suc n)) o ≡ item_by (table_to ms n) o
      by Nothing e inner = refl
      by (Some m) e inner =
          λ i. record { clock = m.clock; body = same_inlined (ends_within ms n) (table_to ms (suc n)) (table_to ms n) inner (raw_tree m.body) e i }

  ends_kth : (n k : ℕ) → all_end ms n ≡ true → k < n → ends_within ms (length ms) k ≡ true
  ends_kth zero k e lt = absurd (omega arith)
  ends_kth (suc n) k e lt =
      let parts = and_parts (ends_within ms (length ms) n) (all_end ms n) e in
      elim (eq-or-lt_of_le {n = k} {m = n} (omega arith)) [
        | inl same ↦ subst (λ j. ends_within ms (length ms) j ≡ true) (sym same) parts.0
        | inr below ↦ ends_kth n k parts.1 below
      ]

  -- past the end stands no memory
  past : (n k : ℕ) → slice_get ms k ≡ Nothing → table_to ms n k ≡ no_item
  past zero k e = refl
  past (suc n) k e = ap (item_by (table_to ms n)) e

  pub table_past : (k : ℕ) → slice_get ms k ≡ Nothing → table_of ms k ≡ no_item
  table_past k e = past (length ms) k e

  pub is_table : all_end ms (length ms) ≡ true → IsTable ms
  is_table ends k m e = sym (longer (length ms) k (ends_kth (length ms) k ends (slice_get_within ms k m e))) ∙ ap (item_by (table_of ms)) e

-- a property of memories that all have is one of all that are shown
mutual
  all_any : (e : RawTree) → all_shown (λ m. true) e ≡ true
  all_any (Node at form) = form_any form

  form_any : (form : RawForm) → form_all_shown (λ m. true) form ≡ true
  form_any (Not e) = all_any e
  form_any (Binary o a b) = λ i. all_any a i && all_any b i
  form_any (Scale z e) = all_any e
  form_any (If c a b) = λ i. all_any c i && (all_any a i && all_any b i)
  form_any (AtMostOne es) = each_any es
  form_any (When c e) = all_any e
  form_any _ = refl

  each_any : (es : RawTrees) → each_all_shown (λ m. true) es ≡ true
  each_any None = refl
  each_any (More e es) = λ i. all_any e i && each_any es i

-- In a system whose memories a table has, where the memories that are shown are shared, each tree by the table is.
module _ (s : System) (table : ℕ → Item) (has : ℕ → Bool) (at : (m : ℕ) → nth_item (memory_items s) m ≡ table m)
    (inner : (m : ℕ) → has m ≡ true → IsShared s (table m).body) where
  mutual
    tree_shared : (e : RawTree) → all_shown has e ≡ true → IsShared s (inlined table e)
    tree_shared (Node place form) e = form_shared form e

    form_shared : (form : RawForm) → form_all_shown has form ≡ true → FormIsShared s (form_inlined table form)
    form_shared (Not x) e = tree_shared x e
    form_shared (Binary o x y) e = let parts = and_parts (all_shown has x) (all_shown has y) e in (tree_shared x parts.0, tree_shared y parts.1)
    form_shared (Scale z x) e = tree_shared x e
    form_shared (If c x y) e =
        let outer = and_parts (all_shown has c) (all_shown has x && all_shown has y) e in
        let parts = and_parts (all_shown has x) (all_shown has y) outer.1 in
        (tree_shared c outer.0, tree_shared x parts.0, tree_shared y parts.1)
    form_shared (AtMostOne es) e = each_shared es e
    form_shared (When c x) e = tree_shared x e
    form_shared (Current m) e = (at m, inner m e)
    form_shared _ e = tt

    each_shared : (es : RawTrees) → each_all_shown has es ≡ true → AreShared s (all_inlined table es)
    each_shared None e = tt
    each_shared (More x es) e = let parts = and_parts (all_shown has x) (each_all_shown has es) e in (tree_shared x parts.0, each_shared es parts.1)

-- the items of the memories, where a table has them, and as a system has them
items_are : (all ms : List FlatMemory) (table : ℕ → Item) → ((k : ℕ) (m : FlatMemory) → slice_get ms k ≡ Some m → table k ≡ memory_item all m)
    → ((k : ℕ) → slice_get ms k ≡ Nothing → table k ≡ no_item) → (k : ℕ) → nth_item (map (memory_item all) ms) k ≡ table k
items_are all [] table at past k = sym (past k refl)
items_are all (x ∷ ms) table at past zero = sym (at 0 x refl)
items_are all (x ∷ ms) table at past (suc k) = items_are all ms (λ j. table (suc j)) (λ j. at (suc j)) (λ j. past (suc j)) k

pub items_kept : (all ms : List FlatMemory) → map (λ (x : Kept). x.item) (map (kept_of all) ms) ≡ map (memory_item all) ms
items_kept all ms = map-map (λ (x : Kept). x.item) (kept_of all) ms

pub item_at : (ms : List FlatMemory) → all_end ms (length ms) ≡ true → (m : ℕ) → nth_item (map (memory_item ms) ms) m ≡ table_of ms m
item_at ms ends m = items_are ms ms (table_of ms) (is_table ms ends) (table_past ms) m

-- items that are all shared, by their numbers
all_shared : {A : Type 0} (s : System) (item : A → Item) (xs : List A) → ((x : A) → IsShared s (item x).body) → (k : ℕ)
    → IsShared s (nth_item (map item xs) k).body
all_shared s item [] each k = tt
all_shared s item (x ∷ xs) each zero = each x
all_shared s item (x ∷ xs) each (suc k) = all_shared s item xs each k

-- In the system of some parts, where following what the memories show ends.
module _ (flows : List FlatFlow) (ms : List FlatMemory) (inputs : List FlatInput) (assertions : List FlatExpr) (variables : List Bit)
    (labels : List (List (List ℕ))) (observer : ℕ) (ends : all_end ms (length ms) ≡ true) where
  abbrev system : System
  system = system_from flows ms inputs assertions variables labels observer

  -- the memories are those of the table
  pub memory_at : (m : ℕ) → nth_item (memory_items (system_from flows ms inputs assertions variables labels observer)) m ≡ table_of ms m
  memory_at m = ap (λ xs. nth_item xs m) (items_kept ms ms) ∙ item_at ms ends m

  ends_shared : (n m : ℕ) → ends_within ms n m ≡ true → IsShared system (table_of ms m).body
  ends_shared zero m e = no_flag e
  ends_shared (suc n) m e = by (slice_get ms m) refl e (ends_shared n)
    where
      by : (o : Option FlatMemory) → slice_get ms m ≡ o → shown_ends (ends_within ms n) o ≡ true
          → ((j : ℕ) → ends_within ms n j ≡ true → IsShared system (table_of ms j).body) → IsShared system (table_of ms m).body
      by Nothing is e inner = subst (λ x. IsShared system x.body) (sym (table_past ms m is)) tt
      by (Some x) is e inner = subst (λ y. IsShared system y.body) (sym (is_table ms ends m x is))
          (tree_shared system (table_of ms) (ends_within ms n) memory_at inner (raw_tree x.body) e)

  body_shared : (m : ℕ) → IsShared system (table_of ms m).body
  body_shared m = elim (cases_lt m (length ms)) [
    | inl lt ↦ ends_shared (length ms) m (ends_kth ms (length ms) m ends lt)
    | inr le ↦ subst (λ x. IsShared system x.body) (sym (table_past ms m (slice_get_past ms m le))) tt
  ]

  -- each tree among the memories shows them alone
  pub shared : (e : RawTree) → IsShared (system_from flows ms inputs assertions variables labels observer) (inlined (table_of ms) e)
  shared e = tree_shared system (table_of ms) (λ m. true) memory_at (λ m t. body_shared m) e (all_any e)

  pub is_inlined : IsInlined (system_from flows ms inputs assertions variables labels observer)
  is_inlined = record {
    flows = λ k lt. all_shared system (flow_item ms) flows (λ f. shared (raw_tree f.body)) k;
    memories = λ m lt. subst (λ x. IsShared system x.body) (sym (memory_at m)) (body_shared m);
    assertions = λ k lt. all_shared system (assertion_item ms) assertions (λ e. shared (asserted (raw_tree e)).1) k;
  }
