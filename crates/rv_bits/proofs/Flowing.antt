-- The flows read in their order.
use Rattle.std.proofs.Common.{◌≡◌, ◌⊎◌, ℕ, ◌+◌, ◌<◌, ◌≤◌, Bool, true, false, ◌&&◌, cond, List, [], ◌∷◌, ◌++◌, length, refl, sym, ◌∙◌, ap, subst, arith, inl}
use Rattle.std.proofs.Common.{inr, length-append, Option, Some, None as Nothing}
use Rattle.std.proofs.{lemmas.Bool.cases_lt, Math.ListN.get_or-eq_default}
use Rattle.rv_types.specs.declared.typed.Kind.{Kind}
use Rattle.rv_types.specs.declared.typed.Kind.TheVariants as kind
use Rattle.rv_diagram.specs.{declared.Triple.Triple, Nodes.Valuation, Nodes.Diagrams, Nodes.IsRef, Nodes.value_of, Several.ref_at}
use Rattle.rv_diagram.specs.Growing.{Extends}
use Rattle.rv_diagram.proofs.Growing.{extends_trans}
use Rattle.rv_agreement.specs.Trees.{FlatTree, Item, nth_item, kind_at}
use Rattle.rv_agreement.specs.Valuations.{Reading, Truth, Name, Linear, holds_true, reads_at, read, IsSymbolic}
use Rattle.rv_agreement.specs.{Agreement.Fits, Agreement.IsNamed, Agreement.IsWell, Evaluation.is_on, Evaluation.nth}
use Rattle.rv_flat.specs.{declared.flat.Flat.Flat, FlatInstants.system_of}
use Rattle.rv_control.specs.Named.{named}
use Rattle.rv_symbolic.specs.Linked.{AreRefs}
use Rattle.rv_symbolic.proofs.Extending.{refs_after}
use Rattle.rv_bits.specs.Shown.{Shows, refs_at, is_there_at, clock_bit, AreFlowRefs, IsAfter, ReadsTo}
use Rattle.rv_bits.specs.{declared.around.FlowRefs.FlowRefs, Bits.bit, Flows.on_bit, Flows.AreAfters, Reads.ShowsTo}
use Rattle.rv_bits.proofs.{Making.any_ref, Making.refs_more, Making.ref_before, Making.ref_last, Making.bits_kept, Showing.shows_kept, Showing.shows_truth}
use Rattle.rv_bits.proofs.{Keeping.flows_kept, Keeping.one_after_kept, Listing.element_before, Listing.element_last, Fitting.fits_more}
use Rattle.rv_base.proofs.Options.{some_same}
use Rattle.rv_types.proofs.ChainLaws.{no_flag}

pub reads_longer : (f : Flat) (a b c : Diagrams) (t : FlatTree) (refs : List ℕ) → ReadsTo f a b t refs → Extends b c → ReadsTo f a c t refs
reads_longer f a b c t refs r e = record {
  extends = extends_trans a b c r.extends e;
  are_refs = refs_after b c refs e r.are_refs;
  shows = λ v row k j instant fits there. shows_kept b c v j refs (read (system_of f) (named f v) row t) e r.are_refs (r.shows v row k j instant fits there);
}

clock_kept : (a b : Diagrams) (on : List ℕ) (clock : Option ℕ) (v : Valuation) → Extends a b → AreRefs a.nodes on
    → clock_bit b.nodes on clock v ≡ clock_bit a.nodes on clock v
clock_kept a b on Nothing v e are = refl
clock_kept a b on (Some c) v e are = e.kept (ref_at on c) (any_ref a.nodes on are c) v

pub on_kept : (a b : Diagrams) (on bits : List ℕ) (j : Kind) (clock : Option ℕ) (v : Valuation) → Extends a b → AreRefs a.nodes on → AreRefs a.nodes bits
    → on_bit b.nodes on j clock bits v ≡ on_bit a.nodes on j clock bits v
on_kept a b on bits kind.Bool clock v e are_on are_bits = λ i. clock_kept a b on clock v e are_on i && bits_kept a b bits e are_bits v 0 i
on_kept a b on bits _ clock v e are_on are_bits = refl

-- the truth of what is there
is_on_there : (nodes : List Triple) (on bits : List ℕ) (clock : Option ℕ) (v : Valuation) (j : Kind) (a : Reading) → clock_bit nodes on clock v ≡ true
    → Shows nodes v j bits a → on_bit nodes on j clock bits v ≡ holds_true a
is_on_there nodes on bits clock v kind.Bool a there shows = (λ i. there i && bit nodes bits v 0) ∙ sym (ap holds_true (shows_truth nodes v bits a shows))
is_on_there nodes on bits clock v kind.Int (Linear g) there shows = refl
is_on_there nodes on bits clock v kind.Int (Truth t) there shows = no_flag shows
is_on_there nodes on bits clock v kind.Int (Name l) there shows = no_flag shows
is_on_there nodes on bits clock v (kind.Labels n) a there (l, is, number) = sym (ap holds_true is)

is_off_absent : (nodes : List Triple) (on bits : List ℕ) (clock : Option ℕ) (v : Valuation) (j : Kind) → clock_bit nodes on clock v ≡ false
    → on_bit nodes on j clock bits v ≡ false
is_off_absent nodes on bits clock v kind.Bool off = ap (λ b. b && bit nodes bits v 0) off
is_off_absent nodes on bits clock v _ off = refl

pub nothing_some : {A : Type 0} (x : A) → Nothing ≡ Some x → ⊥
nothing_some x e = cc

module _ (f : Flat) (well : IsWell (system_of f)) (a b : Diagrams) (r : FlowRefs) (n : ℕ) (low : n < length (system_of f).flows) (size : length r.on ≡ n)
    (are : AreFlowRefs f a.nodes r)
    (clock : Option ℕ) (t : FlatTree) (j : Kind) (item : nth_item (system_of f).flows n ≡ record { clock = clock; body = t })
    (same_kind : kind_at (system_of f).kinds n ≡ j)
    (on : ℕ) (bits : List ℕ) (reads : ReadsTo f a b t bits) (is_ref : IsRef b.nodes on)
    (means : (v : Valuation) → value_of b.nodes on v ≡ on_bit b.nodes r.on j clock bits v) where
  abbrev more : FlowRefs
  more = record { on = r.on ++ on ∷ []; bits = r.bits ++ bits ∷ [] }

  kept : AreFlowRefs f b.nodes r
  kept = flows_kept f a b r reads.extends are

  clock_shown : (v : Valuation) (row : List (Option Reading)) → IsSymbolic (system_of f) (named f v) row
      → clock_bit b.nodes r.on clock v ≡ is_there_at f v row clock
  clock_shown v row instant = by clock (subst (λ (x : Item). IsNamed n x.clock) item (well.flows n low).0)
    where
      by : (k : Option ℕ) → IsNamed n k → clock_bit b.nodes r.on k v ≡ is_there_at f v row k
      by Nothing within = refl
      by (Some c) within = kept.on_shows c v row (omega arith) instant

  -- what the flow has
  has : (v : Valuation) (row : List (Option Reading)) → IsSymbolic (system_of f) (named f v) row
      → nth Reading (reads_at (system_of f) (named f v)) row n ≡ cond (is_there_at f v row clock) (Some (read (system_of f) (named f v) row t)) Nothing
  has v row instant = instant.holds n low ∙ ap (λ (x : Item). cond (is_there_at f v row x.clock) (Some (read (system_of f) (named f v) row x.body)) Nothing)
      item

  shown : (v : Valuation) (row : List (Option Reading)) → IsSymbolic (system_of f) (named f v) row → is_there_at f v row clock ≡ true
      → Shows b.nodes v j bits (read (system_of f) (named f v) row t)
  shown v row instant there = reads.shows v row clock j instant
      (fits_more (system_of f) n (length (system_of f).flows) (omega arith) clock j t
      (subst (λ (x : Kind). Fits (system_of f) n clock x t) same_kind (subst (λ (x : Item). Fits (system_of f) n x.clock (kind_at (system_of f).kinds n) x.body)
      item (well.flows n low).1))) there

  on_here : (v : Valuation) (row : List (Option Reading)) → IsSymbolic (system_of f) (named f v) row
      → on_bit b.nodes r.on j clock bits v ≡ is_on Reading (reads_at (system_of f) (named f v)) (nth Reading (reads_at (system_of f) (named f v)) row n)
  on_here v row instant = by (is_there_at f v row clock) (clock_shown v row instant) refl
      ∙ sym (ap (is_on Reading (reads_at (system_of f) (named f v))) (has v row instant))
    where
      by : (there : Bool) → clock_bit b.nodes r.on clock v ≡ there → is_there_at f v row clock ≡ there
          → on_bit b.nodes r.on j clock bits v ≡ is_on Reading (reads_at (system_of f) (named f v))
          (cond there (Some (read (system_of f) (named f v) row t)) Nothing)
      by true e is = is_on_there b.nodes r.on bits clock v j (read (system_of f) (named f v) row t) e (shown v row instant is)
      by false e is = is_off_absent b.nodes r.on bits clock v j e

  shows_here : (v : Valuation) (row : List (Option Reading)) (x : Reading) → IsSymbolic (system_of f) (named f v) row
      → nth Reading (reads_at (system_of f) (named f v)) row n ≡ Some x → Shows b.nodes v j bits x
  shows_here v row x instant is = by (is_there_at f v row clock) refl (sym (has v row instant) ∙ is)
    where
      by : (there : Bool) → is_there_at f v row clock ≡ there → cond there (Some (read (system_of f) (named f v) row t)) Nothing ≡ Some x
          → Shows b.nodes v j bits x
      by true e h = subst (Shows b.nodes v j bits) (some_same (read (system_of f) (named f v) row t) x h) (shown v row instant e)
      by false e h = absurd (nothing_some x h)

  -- one flow more is read
  pub flow_pushed : AreFlowRefs f b.nodes (record { on = r.on ++ on ∷ []; bits = r.bits ++ bits ∷ [] })
  flow_pushed = record {
    size = length-append r.bits (bits ∷ []) ∙ ap (λ k. k + 1) are.size ∙ sym (length-append r.on (on ∷ []));
    on_refs = refs_more b.nodes r.on on kept.on_refs is_ref;
    bit_refs = λ k. by_lists k (cases_lt k n);
    on_shows = λ k v row lt instant. elim (cases_lt k n) [
      | inl below ↦ ap (λ x. value_of b.nodes x v) (ref_before r.on on k (omega arith)) ∙ kept.on_shows k v row (omega arith) instant
      | inr le ↦
          let same : n ≡ k = omega (arith, length-append r.on (on ∷ [])) in
          subst (λ i. value_of b.nodes (ref_at (r.on ++ on ∷ []) i) v ≡ is_on Reading (reads_at (system_of f) (named f v))
          (nth Reading (reads_at (system_of f) (named f v)) row i)) same
          (ap (λ x. value_of b.nodes x v) (ref_last r.on on n size) ∙ means v ∙ on_here v row instant)
    ];
    shows = λ k v row x lt instant is. elim (cases_lt k n) [
      | inl below ↦ subst (λ (l : List ℕ). Shows b.nodes v (kind_at (system_of f).kinds k) l x)
          (sym (element_before r.bits bits [] k (omega (arith, are.size)))) (kept.shows k v row x (omega arith) instant is)
      | inr le ↦
          let same : n ≡ k = omega (arith, length-append r.on (on ∷ [])) in
          subst (λ i. Shows b.nodes v (kind_at (system_of f).kinds i) (refs_at (r.bits ++ bits ∷ []) i) x) same
          (subst (λ (l : List ℕ). Shows b.nodes v (kind_at (system_of f).kinds n) l x) (sym (element_last r.bits bits [] n (are.size ∙ size)))
          (subst (λ (i : Kind). Shows b.nodes v i bits x) (sym same_kind)
          (shows_here v row x instant (ap (λ i. nth Reading (reads_at (system_of f) (named f v)) row i) same ∙ is))))
    ];
  }
    where
      by_lists : (k : ℕ) → (k < n) ⊎ (n ≤ k) → AreRefs b.nodes (refs_at (r.bits ++ bits ∷ []) k)
      by_lists k (inl below) = subst (AreRefs b.nodes) (sym (element_before r.bits bits [] k (omega (arith, are.size)))) (kept.bit_refs k)
      by_lists k (inr le) = past (cases_lt n k)
        where
          past : (n < k) ⊎ (k ≤ n) → AreRefs b.nodes (refs_at (r.bits ++ bits ∷ []) k)
          past (inr same) =
              let e : n ≡ k = omega arith in
              subst (λ i. AreRefs b.nodes (refs_at (r.bits ++ bits ∷ []) i)) e
              (subst (AreRefs b.nodes) (sym (element_last r.bits bits [] n (are.size ∙ size))) reads.are_refs)
          past (inl beyond) = subst (AreRefs b.nodes) (sym (get_or-eq_default (r.bits ++ bits ∷ []) []
              (omega (arith, length-append r.bits (bits ∷ []), are.size)))) (λ i lt. absurd (omega arith))

pub after_pushed : (f : Flat) (a b c : Diagrams) (n : ℕ) (lists : List (List ℕ)) (refs : List ℕ) → AreAfters f a b n lists → ShowsTo f b c n refs
    → AreAfters f a c (n + 1) (lists ++ refs ∷ [])
after_pushed f a b c n lists refs are s = record {
  extends = extends_trans a b c are.extends s.extends;
  size = length-append lists (refs ∷ []) ∙ ap (λ k. k + 1) are.size;
  each = λ m lt. elim (cases_lt m n) [
    | inl below ↦ subst (IsAfter f c.nodes m) (sym (element_before lists refs [] m (omega (arith, are.size))))
        (one_after_kept f b c m (refs_at lists m) s.extends (are.each m below))
    | inr le ↦
        let same : n ≡ m = omega arith in
        subst (λ k. IsAfter f c.nodes k (refs_at (lists ++ refs ∷ []) k)) same
        (subst (IsAfter f c.nodes n) (sym (element_last lists refs [] n are.size)) s.is_after)
  ];
}
