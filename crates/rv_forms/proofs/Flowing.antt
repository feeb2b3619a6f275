-- The terms of the flows in their order, and of the updates.
use Rattle.std.proofs.Common.{◌≡◌, inl, inr, ℕ, zero, suc, ◌+◌, ◌<◌, ◌≤◌, pos, max, Bool, true, false, cond, List, [], ◌∷◌, ◌++◌, length, map, refl, sym, ◌∙◌}
use Rattle.std.proofs.Common.{ap, subst, arith, length-append, Option, Some, None as Nothing}
use Rattle.std.proofs.{lemmas.Bool.cases_lt, lemmas.List.length-map}
use Rattle.std.specs.Prelude.{slice_get, slice_index_or}
use Rattle.rv_base.specs.Limits.{heaviest}
use Rattle.rv_types.specs.{declared.typed.Kind.Kind, Variables.is_integer}
use Rattle.rv_types.specs.declared.typed.Kind.TheVariants as kind
use Rattle.rv_rows.specs.{declared.linear.Form.Form, Arithmetic.constant_form}
use Rattle.rv_diagram.specs.{declared.Triple.Triple, Nodes.Valuation, Nodes.Diagrams}
use Rattle.rv_diagram.specs.Growing.{Extends}
use Rattle.rv_diagram.proofs.Growing.{extends_refl, extends_trans}
use Rattle.rv_terms.specs.{declared.parted.Part.Part, declared.parted.Term.Term, Parts.form_at, Parts.IsTermOf}
use Rattle.rv_agreement.specs.Trees.{FlatTree, Item, no_item, nth_item, memory_kinds, memory_items, kind_at}
use Rattle.rv_agreement.specs.Valuations.{Reading, Linear, form_of, whole_count, rank, width, reads_at, read, updated, IsSymbolic}
use Rattle.rv_agreement.specs.{Agreement.Fits, Agreement.IsNamed, Agreement.IsWell, Agreement.updates, Evaluation.held, Evaluation.nth}
use Rattle.rv_flat.specs.{declared.flat.Flat.Flat, declared.parts.FlatFlow.FlatFlow, declared.parts.FlatMemory.FlatMemory, Facts.is_light}
use Rattle.rv_flat.specs.{FlatInstants.system_of, Inlined.table_of, Inlined.tree_among, Systems.flow_item, Systems.memory_item, Systems.kept_of}
use Rattle.rv_flat.proofs.{FlowWeights.item_light, FlowWeights.weight_kth, Inlining.memory_at, SystemRuns.kept_items}
use Rattle.rv_control.specs.{Named.named, Symbolic.symbolic}
use Rattle.rv_control.proofs.{Bounded.IsBounded, Bounded.zero_bounded, Readings.is_symbolic, Weighed.light_weight}
use Rattle.rv_bits.specs.{declared.around.FlowRefs.FlowRefs, Shown.Shows, Shown.refs_at, Shown.is_there_at, Shown.clock_bit, Shown.AreFlowRefs}
use Rattle.rv_bits.proofs.{Fitting.fits_more, Listing.element_before, Listing.element_last, Flowing.nothing_some}
use Rattle.rv_forms.specs.Terms.{columns_of, weights_of, weight_in, form_read, flow_read, parts_at, IsWithin, GivesTerm, ReadsAs, AreWholes, IsAfterAs}
use Rattle.rv_forms.specs.Terms.{IsFlowAs, AreUpdatesRead}
use Rattle.rv_forms.specs.{declared.over.Wholes.Wholes, Columns.kind_form, Columns.AreColumnTerms, Columns.IsAdded, Columns.AreUpdatesTo}
use Rattle.rv_agreement.specs.Trees as trees
use Rattle.rv_forms.proofs.Ranks.{rank_next, forms_kth, spelled_form, kind_bounded}
use Rattle.rv_forms.proofs.{Bounds.form_bounded, Bounds.term_within, Bounds.within_more, Kept.one_kept, Kept.wholes_kept, Showing.clock_shown}
use Rattle.rv_base.proofs.{Lists.within_got, Options.some_same}

-- what a list says of what stands at a place of it
pub mapped : {A B : Type 0} (g : A → B) (xs : List A) (k : ℕ) (x : A) (d : B) → slice_get xs k ≡ Some x → slice_index_or (map g xs) k d ≡ g x
mapped g [] k x d e = absurd (nothing_some x e)
mapped g (y ∷ ys) zero x d e = ap g (some_same y x e)
mapped g (y ∷ ys) (suc k) x d e = mapped g ys k x d e

pub past_list : {A : Type 0} (xs : List A) (k : ℕ) → slice_get xs k ≡ Nothing → length xs ≤ k
past_list [] k e = omega arith
past_list (y ∷ ys) zero e = absurd (nothing_some y (sym e))
past_list (y ∷ ys) (suc k) e = let h = past_list ys k e in omega (arith, h)

some_at : {A : Type 0} (xs : List A) (i : ℕ) (d : A) → i < length xs → slice_get xs i ≡ Some (slice_index_or xs i d)
some_at [] i d lt = absurd (omega arith)
some_at (y ∷ ys) zero d lt = refl
some_at (y ∷ ys) (suc i) d lt = some_at ys i d (omega arith)

-- the item of a loop over a list, by its place
pub item_at : {A : Type 0} (xs items : List A) (i n : ℕ) (x : A) → items ≡ xs → i < length items → x ≡ slice_index_or items i x → n ≡ i
    → slice_get xs n ≡ Some x
item_at xs items i n x same lt is at =
    ap (λ k. slice_get xs k) at ∙ ap (λ l. slice_get l i) (sym same) ∙ some_at items i x lt ∙ ap (λ y. Some y) (sym is)

-- what memories and inputs have, by their columns
pub first_wholes : (f : Flat) (nodes : List Triple) (columns first : ℕ) (kept given flows : List Term) → columns ≡ columns_of f
    → first ≡ whole_count (memory_kinds (system_of f)) → AreColumnTerms columns 0 (memory_kinds (system_of f)) kept
    → AreColumnTerms columns first (system_of f).inputs given → flows ≡ []
    → AreWholes f nodes (record { columns = columns; kept = kept; given = given; flows = flows })
first_wholes f nodes columns first kept given flows wide begin are_kept are_given none =
    let s = system_of f in
    let many = length-map s.memories (λ m. m.kind) in
    let kept_count = are_kept.many in
    let given_count = are_given.many in
    let no_flow : length flows ≡ 0 = ap (λ (l : List Term). length l) none in
    record {
      columns = wide;
      many_kept = kept_count ∙ many;
      kept = λ m lt. term_within nodes (columns_of f) 1 (λ v. kind_form (columns_of f) (kind_at (memory_kinds s) m) (0 + rank (memory_kinds s) m))
          (parts_at kept m)
          (subst (λ n. IsTermOf nodes n (λ v. kind_form n (kind_at (memory_kinds s) m) (0 + rank (memory_kinds s) m)) (parts_at kept m)) wide
          (are_kept.each m (omega (arith, kept_count)) nodes)) (λ v. kind_bounded (columns_of f) (kind_at (memory_kinds s) m) (0 + rank (memory_kinds s) m));
      kept_shows = λ m v lt.
          (are_kept.each m (omega (arith, kept_count)) nodes).exact v
          ∙ (λ i. kind_form (wide i) (kind_at (memory_kinds s) m) ((let e : 0 + rank (memory_kinds s) m ≡ rank (memory_kinds s) m = omega arith in e) i))
          ∙ spelled_form (columns_of f) (named f v).test s.labels (kind_at (memory_kinds s) m) ((named f v).kept (slice_index_or (trees.memory_places s) m []))
          (rank (memory_kinds s) m);
      many_given = given_count;
      given = λ j lt. term_within nodes (columns_of f) 1 (λ v. kind_form (columns_of f) (kind_at s.inputs j) (first + rank s.inputs j)) (parts_at given j)
          (subst (λ n. IsTermOf nodes n (λ v. kind_form n (kind_at s.inputs j) (first + rank s.inputs j)) (parts_at given j)) wide
          (are_given.each j (omega (arith, given_count)) nodes)) (λ v. kind_bounded (columns_of f) (kind_at s.inputs j) (first + rank s.inputs j));
      given_shows = λ j v lt.
          (are_given.each j (omega (arith, given_count)) nodes).exact v
          ∙ (λ i. kind_form (wide i) (kind_at s.inputs j) (begin i + rank s.inputs j))
          ∙ spelled_form (columns_of f) (named f v).test s.labels (kind_at s.inputs j) ((named f v).input j) (whole_count (memory_kinds s) + rank s.inputs j);
      few_flows = omega (arith, no_flow);
      flows = λ k lt. absurd (omega (arith, no_flow));
      flows_show = λ k v row lt instant. absurd (omega (arith, no_flow));
    }

-- THE FLOWS

either_bounded : (columns n : ℕ) (b : Bool) (p q : Form) → IsBounded columns n p → IsBounded columns n q → IsBounded columns n (cond b p q)
either_bounded columns n true p q x y = x
either_bounded columns n false p q x y = y

-- a flow by its number
module _ (f : Flat) (n : ℕ) (flow : FlatFlow) (is : slice_get f.flows n ≡ Some flow) where
  pub flow_low : n < length (system_of f).flows
  flow_low = let h = within_got f.flows n flow is in let e = length-map f.flows (flow_item f.memories) in omega (arith, h, e)

  pub flow_item_is : nth_item (system_of f).flows n ≡ record { clock = flow.clock; body = tree_among f.memories flow.body }
  flow_item_is = mapped (flow_item f.memories) f.flows n flow no_item is

  pub flow_kind_is : kind_at (system_of f).kinds n ≡ flow.kind
  flow_kind_is = mapped (λ (g : FlatFlow). g.kind) f.flows n flow kind.Bool is

  pub flow_weight : slice_index_or (weights_of f) n 0 ≡ weight_in f (tree_among f.memories flow.body)
  flow_weight = (let e : n ≡ 0 + n = omega arith in ap (λ i. slice_index_or (weights_of f) i 0) e)
      ∙ weight_kth (system_of f) [] (system_of f).flows n f.flows_fit flow_low
      ∙ ap (λ (x : Item). weight_in f x.body) flow_item_is

  pub flow_light : is_light (weights_of f) (tree_among f.memories flow.body) ≡ true
  flow_light = subst (λ (x : Item). is_light (weights_of f) x.body ≡ true) flow_item_is (item_light (weights_of f) (system_of f).flows n f.flows_light flow_low)

  pub flow_fits : IsWell (system_of f) → Fits (system_of f) n flow.clock flow.kind (tree_among f.memories flow.body)
  flow_fits well = subst (λ (k : Kind). Fits (system_of f) n flow.clock k (tree_among f.memories flow.body)) flow_kind_is
      (subst (λ (x : Item). Fits (system_of f) n x.clock (kind_at (system_of f).kinds n) x.body) flow_item_is (well.flows n flow_low).1)

  pub flow_named : IsWell (system_of f) → IsNamed n flow.clock
  flow_named well = subst (λ (x : Item). IsNamed n x.clock) flow_item_is (well.flows n flow_low).0

  -- what it has
  flow_has : (v : Valuation) (row : List (Option Reading)) → IsSymbolic (system_of f) (named f v) row
      → nth Reading (reads_at (system_of f) (named f v)) row n
      ≡ cond (is_there_at f v row flow.clock) (Some (read (system_of f) (named f v) row (tree_among f.memories flow.body))) Nothing
  flow_has v row instant = instant.holds n flow_low
      ∙ ap (λ (x : Item). cond (is_there_at f v row x.clock) (Some (read (system_of f) (named f v) row x.body)) Nothing) flow_item_is

-- what a flow has where it is no integer, or is absent
no_form : (f : Flat) (nodes : List Triple) (v : Valuation) (j : Kind) (refs : List ℕ) (a : Reading) → is_integer j ≡ false → Shows nodes v j refs a
    → form_read f v a ≡ constant_form (columns_of f) (pos 0)
no_form f nodes v kind.Bool refs a none (t, is, number) = ap (form_read f v) is
no_form f nodes v (kind.Labels i) refs a none (l, is, number) = ap (form_read f v) is
no_form f nodes v kind.Int refs a none shows = absurd (true_false (sym none))
  where
    true_false : false ≡ true → ⊥
    true_false e = cc

pub other_flow : (f : Flat) (d : Diagrams) (r : FlowRefs) (n : ℕ) (j : Kind) (parts : List Part) → AreFlowRefs f d.nodes r → n < length r.on
    → kind_at (system_of f).kinds n ≡ j → is_integer j ≡ false → IsTermOf d.nodes (columns_of f) (λ v. constant_form (columns_of f) (pos 0)) parts
    → IsFlowAs f d d n parts
other_flow f d r n j parts refs low same none is = record {
  extends = extends_refl d;
  within = term_within d.nodes (columns_of f) (slice_index_or (weights_of f) n 0) (λ v. constant_form (columns_of f) (pos 0)) parts is
      (λ v. zero_bounded (columns_of f) (slice_index_or (weights_of f) n 0));
  shows = λ v row instant. is.exact v ∙ sym (by v row instant (nth Reading (reads_at (system_of f) (named f v)) row n) refl);
}
  where
    by : (v : Valuation) (row : List (Option Reading)) → IsSymbolic (system_of f) (named f v) row → (o : Option Reading)
        → nth Reading (reads_at (system_of f) (named f v)) row n ≡ o
        → form_read f v (held Reading (reads_at (system_of f) (named f v)) o) ≡ constant_form (columns_of f) (pos 0)
    by v row instant Nothing e = refl
    by v row instant (Some a) e = no_form f d.nodes v j (refs_at r.bits n) a none
        (subst (λ (k : Kind). Shows d.nodes v k (refs_at r.bits n) a) same (refs.shows n v row a low instant e))

-- an integer flow
pub whole_flow : (f : Flat) (a b c : Diagrams) (r : FlowRefs) (n : ℕ) (flow : FlatFlow) (body nothing parts : List Part) → IsWell (system_of f)
    → slice_get f.flows n ≡ Some flow → flow.kind ≡ kind.Int → AreFlowRefs f b.nodes r → n ≤ length r.on
    → ReadsAs f a b (tree_among f.memories flow.body) body → IsTermOf b.nodes (columns_of f) (λ v. constant_form (columns_of f) (pos 0)) nothing
    → GivesTerm b c (columns_of f) (λ v. cond (clock_bit b.nodes r.on flow.clock v) (form_at b.nodes body v) (form_at b.nodes nothing v)) parts
    → IsFlowAs f a c n parts
whole_flow f a b c r n flow body nothing parts well at whole refs low reads none made =
    let t : FlatTree = tree_among f.memories flow.body in
    let weight : ℕ = weight_in f t in
    let small : IsWithin c.nodes (columns_of f) weight parts =
    term_within c.nodes (columns_of f) weight (λ v. cond (clock_bit b.nodes r.on flow.clock v) (form_at b.nodes body v) (form_at b.nodes nothing v)) parts
    made.is
    (λ v. either_bounded (columns_of f) weight (clock_bit b.nodes r.on flow.clock v) (form_at b.nodes body v) (form_at b.nodes nothing v)
    (form_bounded b.nodes (columns_of f) weight body reads.within v)
    (subst (IsBounded (columns_of f) weight) (sym (none.exact v)) (zero_bounded (columns_of f) weight))) in
    record {
      extends = extends_trans a b c reads.extends made.extends;
      within = subst (λ k. IsWithin c.nodes (columns_of f) k parts) (sym (flow_weight f n flow at)) small;
      shows = λ v row instant.
          let on : clock_bit b.nodes r.on flow.clock v ≡ is_there_at f v row flow.clock =
          clock_shown f b.nodes r refs flow.clock (more flow.clock (flow_named f n flow at well)) v row instant in
          let fits : Fits (system_of f) (length (system_of f).flows) flow.clock kind.Int t =
          subst (λ (k : Kind). Fits (system_of f) (length (system_of f).flows) flow.clock k t) whole
          (fits_more (system_of f) n (length (system_of f).flows) (let h = flow_low f n flow at in omega (arith, h)) flow.clock flow.kind t
          (flow_fits f n flow at well)) in
          made.is.exact v ∙ ap (λ x. cond x (form_at b.nodes body v) (form_at b.nodes nothing v)) on
          ∙ by v (is_there_at f v row flow.clock) (read (system_of f) (named f v) row t)
          (λ there. reads.shows v row flow.clock instant fits there) (none.exact v)
          ∙ sym (ap (λ (o : Option Reading). form_read f v (held Reading (reads_at (system_of f) (named f v)) o)) (flow_has f n flow at v row instant));
    }
  where
    more : (k : Option ℕ) → IsNamed n k → IsNamed (length r.on) k
    more Nothing is = tt
    more (Some i) is = omega arith

    by : (v : Valuation) (there : Bool) (x : Reading) → (there ≡ true → x ≡ Linear (form_at b.nodes body v))
        → form_at b.nodes nothing v ≡ constant_form (columns_of f) (pos 0)
        → cond there (form_at b.nodes body v) (form_at b.nodes nothing v)
        ≡ form_read f v (held Reading (reads_at (system_of f) (named f v)) (cond there (Some x) Nothing))
    by v true x shown off = sym (ap (form_read f v) (shown refl))
    by v false x shown off = off

-- one flow more
pub wholes_pushed : (f : Flat) (a b : Diagrams) (w : Wholes) (t : Term) → length w.flows < length f.flows → AreWholes f a.nodes w
    → IsFlowAs f a b (length w.flows) t.parts
    → AreWholes f b.nodes (record w { flows = w.flows ++ t ∷ [] })
wholes_pushed f a b w t low are flow =
    let kept : AreWholes f b.nodes w = wholes_kept f a b w flow.extends are in
    let n : ℕ = length w.flows in
    let more : List Term = w.flows ++ t ∷ [] in
    let long : length more ≡ n + 1 = length-append w.flows (t ∷ []) in
    let before : (k : ℕ) → k < n → slice_index_or more k (record { parts = [] }) ≡ slice_index_or w.flows k (record { parts = [] }) =
    λ k lt. element_before w.flows t (record { parts = [] }) k lt in
    let last : slice_index_or more n (record { parts = [] }) ≡ t = element_last w.flows t (record { parts = [] }) n refl in
    record {
      columns = kept.columns;
      many_kept = kept.many_kept;
      kept = kept.kept;
      kept_shows = kept.kept_shows;
      many_given = kept.many_given;
      given = kept.given;
      given_shows = kept.given_shows;
      few_flows = omega (arith, long);
      flows = λ k lt. elim (cases_lt k n) [
        | inl below ↦ subst (λ (u : Term). IsWithin b.nodes (columns_of f) (slice_index_or (weights_of f) k 0) u.parts) (sym (before k below))
            (kept.flows k below)
        | inr le ↦
            let same : n ≡ k = omega (arith, long) in
            subst (λ i. IsWithin b.nodes (columns_of f) (slice_index_or (weights_of f) i 0) (parts_at more i)) same
            (subst (λ (u : Term). IsWithin b.nodes (columns_of f) (slice_index_or (weights_of f) n 0) u.parts) (sym last) flow.within)
      ];
      flows_show = λ k v row lt instant. elim (cases_lt k n) [
        | inl below ↦ ap (λ (u : Term). form_at b.nodes u.parts v) (before k below) ∙ kept.flows_show k v row below instant
        | inr le ↦
            let same : n ≡ k = omega (arith, long) in
            subst (λ i. form_at b.nodes (parts_at more i) v ≡ form_read f v (flow_read f v row i)) same
            (ap (λ (u : Term). form_at b.nodes u.parts v) last ∙ flow.shows v row instant)
      ];
    }

-- THE UPDATES

-- a memory by its number
module _ (f : Flat) (m : ℕ) (memory : FlatMemory) (is : slice_get f.memories m ≡ Some memory) where
  pub memory_low : m < length (system_of f).memories
  memory_low = let h = within_got f.memories m memory is in let e = length-map f.memories (kept_of f.memories) in omega (arith, h, e)

  pub memory_kind_is : kind_at (memory_kinds (system_of f)) m ≡ memory.kind
  memory_kind_is = by f.memories m is
    where
      by : (ms : List FlatMemory) (k : ℕ) → slice_get ms k ≡ Some memory
          → slice_index_or (map (λ x. x.kind) (map (kept_of f.memories) ms)) k kind.Bool ≡ memory.kind
      by [] k e = absurd (nothing_some memory e)
      by (y ∷ ys) zero e = ap (λ (x : FlatMemory). x.kind) (some_same y memory e)
      by (y ∷ ys) (suc k) e = by ys k e

module _ (f : Flat) (m : ℕ) (low : m < length (system_of f).memories) where
  pub table_item : nth_item (memory_items (system_of f)) m ≡ table_of f.memories m
  table_item = memory_at f.flows f.memories f.inputs f.assertions f.variables f.labels f.observer f.ends m

  pub table_light : is_light (weights_of f) (table_of f.memories m).body ≡ true
  table_light =
      let same = kept_items f.memories f.memories in
      let many = length-map f.memories (kept_of f.memories) in
      let count = length-map f.memories (memory_item f.memories) in
      subst (λ (x : Item). is_light (weights_of f) x.body ≡ true) table_item
      (subst (λ xs. is_light (weights_of f) (nth_item xs m).body ≡ true) (sym same)
      (item_light (weights_of f) (map (memory_item f.memories) f.memories) m f.memories_light (omega (arith, low, many, count))))

  pub table_fits : IsWell (system_of f)
      → Fits (system_of f) (length (system_of f).flows) (table_of f.memories m).clock (kind_at (memory_kinds (system_of f)) m) (table_of f.memories m).body
  table_fits well =
      subst (λ (x : Item). Fits (system_of f) (length (system_of f).flows) x.clock (kind_at (memory_kinds (system_of f)) m) x.body) table_item
      (well.memories m low).1

  pub table_named : IsWell (system_of f) → IsNamed (length (system_of f).flows) (table_of f.memories m).clock
  table_named well = subst (λ (x : Item). IsNamed (length (system_of f).flows) x.clock) table_item (well.memories m low).0

pub updates_none : (f : Flat) (a : Diagrams) (m : ℕ) (terms : List Term) → m ≡ 0 → rank (memory_kinds (system_of f)) 0 ≡ 0 → terms ≡ []
    → AreUpdatesTo f a a m terms
updates_none f a m terms e first is = record {
  extends = extends_refl a;
  many = ap (λ (l : List Term). length l) is ∙ sym first ∙ ap (rank (memory_kinds (system_of f))) (sym e);
  each = λ k lt. let none : length terms ≡ 0 = ap (λ (l : List Term). length l) is in absurd (omega (arith, none));
}

-- one memory more
pub updates_more : (f : Flat) (a b c : Diagrams) (m : ℕ) (j : Kind) (terms more : List Term) → m < length (memory_kinds (system_of f))
    → kind_at (memory_kinds (system_of f)) m ≡ j → AreUpdatesTo f a b m terms → Extends b c → IsAdded f c.nodes m j terms more → AreUpdatesTo f a c (m + 1) more
updates_more f a b c m j terms more low kind_is before e added = by j kind_is added
  where
    ks : List Kind
    ks = memory_kinds (system_of f)

    -- those of earlier memories
    earlier : (k : ℕ) → k < length terms → (i : ℕ) × (i < m + 1) × (kind_at ks i ≡ kind.Int) × (rank ks i ≡ k) × IsAfterAs f c.nodes i (parts_at terms k)
    earlier k lt =
        let one : (i : ℕ) × (i < m) × (kind_at ks i ≡ kind.Int) × (rank ks i ≡ k) × IsAfterAs f b.nodes i (parts_at terms k) = before.each k lt in
        (one.0, omega (arith, one.1), one.2, one.3, one_kept f b c one.0 (parts_at terms k) e one.4)

    same_terms : (x : Kind) → is_integer x ≡ false → kind_at ks m ≡ x → more ≡ terms → AreUpdatesTo f a c (m + 1) more
    same_terms x none here is = subst (AreUpdatesTo f a c (m + 1)) (sym is) (record {
      extends = extends_trans a b c before.extends e;
      many = let step = rank_next ks m low in
          let off : ◌≡◌ {A = ℕ} (cond (is_integer (kind_at ks m)) 1 0) 0 = ap (λ (y : Kind). cond (is_integer y) 1 0) here ∙ ap (λ y. cond y 1 0) none in
          let many = before.many in
          omega (arith, step, off, many);
      each = earlier;
    })

    by : (x : Kind) → kind_at ks m ≡ x → IsAdded f c.nodes m x terms more → AreUpdatesTo f a c (m + 1) more
    by kind.Bool here is = same_terms kind.Bool refl here is
    by (kind.Labels i) here is = same_terms (kind.Labels i) refl here is
    by kind.Int here (t, is, after) =
        let step = rank_next ks m low in
        let on : ◌≡◌ {A = ℕ} (cond (is_integer (kind_at ks m)) 1 0) 1 = ap (λ (y : Kind). cond (is_integer y) 1 0) here in
        let many = before.many in
        let long = length-append terms (t ∷ []) in
        subst (AreUpdatesTo f a c (m + 1)) (sym is) (record {
          extends = extends_trans a b c before.extends e;
          many = omega (arith, step, on, many, long);
          each = λ k lt. elim (cases_lt k (length terms)) [
            | inl below ↦
                let one = earlier k below in (
                  one.0,
                  one.1,
                  one.2,
                  one.3,
                  subst (λ (u : Term). IsAfterAs f c.nodes one.0 u.parts) (sym (element_before terms t (record { parts = [] }) k below)) one.4,
                )
            | inr le ↦
                let same : length terms ≡ k = omega (arith, long) in (
                  m,
                  omega arith,
                  here,
                  sym many ∙ same,
                  subst (λ i. IsAfterAs f c.nodes m (parts_at (terms ++ t ∷ []) i)) same
                      (subst (λ (u : Term). IsAfterAs f c.nodes m u.parts) (sym (element_last terms t (record { parts = [] }) (length terms) refl)) after),
                )
          ];
        })

-- all memories
pub updates_all : (f : Flat) (a b : Diagrams) (m : ℕ) (terms : List Term) → IsWell (system_of f)
    → rank (memory_kinds (system_of f)) m ≡ whole_count (memory_kinds (system_of f)) → m ≤ length (system_of f).memories → AreUpdatesTo f a b m terms
    → AreUpdatesRead f a b terms
updates_all f a b m terms well full last are = record {
  extends = are.extends;
  many = are.many ∙ full;
  each = λ k lt.
      let one = are.each k lt in
      let low : one.0 < length (system_of f).memories = omega (arith, one.1) in
      let weight = light_weight (weights_of f) (table_of f.memories one.0).body (table_light f one.0 low) in
      within_more b.nodes (columns_of f) (max (weight_in f (table_of f.memories one.0).body) 1) heaviest (parts_at terms k)
      (omega (arith, weight)) one.4.within;
  becomes = λ k v lt.
      let one = are.each k lt in
      let low : one.0 < length (system_of f).memories = omega (arith, one.1) in
      let many = length-map (system_of f).memories (λ x. x.kind) in
      let w = named f v in
      let row = symbolic (system_of f) w in
      let shown : updated (system_of f) w row one.0 ≡ Linear (form_at b.nodes (parts_at terms k) v) = one.4.shows v row low one.2
      (is_symbolic (system_of f) w well) in
      let form : Form = form_of (width (system_of f)) w.test (updated (system_of f) w row one.0) in
      let is : slice_index_or (updates (system_of f) w row) (rank (memory_kinds (system_of f)) one.0) (constant_form (width (system_of f)) (pos 0)) ≡ form =
      forms_kth (memory_kinds (system_of f)) (λ i. form_of (width (system_of f)) w.test (updated (system_of f) w row i)) one.0
      (constant_form (width (system_of f)) (pos 0)) (omega (arith, low, many)) one.2 in
      sym (ap (form_of (width (system_of f)) w.test) shown) ∙ sym is
      ∙ ap (λ i. slice_index_or (updates (system_of f) w row) i (constant_form (width (system_of f)) (pos 0))) one.3;
}
