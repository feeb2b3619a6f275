-- At a coded valuation each flow that is present reads as its type, and so does each memory after the instant.
use Rattle.std.proofs.Common.{◌≡◌, ℕ, ◌<◌, ◌≤◌, Bool, true, false, cond, List, [], length, refl, sym, ◌∙◌, ap, subst, arith, Option, Some, None as Nothing}
use Rattle.std.specs.Prelude.{slice_index_or}
use Rattle.rv_base.specs.declared.value.Value.{Value}
use Rattle.rv_base.specs.declared.value.Value.TheVariants as value
use Rattle.rv_tree.specs.{declared.tree.Op.Op, Places.Sites}
use Rattle.rv_tree.specs.declared.tree.Op.TheVariants as op
use Rattle.rv_types.specs.{declared.typed.Kind.Kind, Lists.Side}
use Rattle.rv_types.specs.declared.typed.Kind.TheVariants as kind
use Rattle.rv_rows.specs.declared.linear.Form.{Form}
use Rattle.rv_agreement.specs.Trees.{FlatTree, Node, TreeForm, Constant, Flow, Memory, Ticked, Input, Binary, Scale, If, When, Current, nth_item, System}
use Rattle.rv_agreement.specs.Trees.{memory_items, memory_kinds, memory_places, kind_at}
use Rattle.rv_agreement.specs.Valuations.{Valuation, Reading, constant_reading, operated, spelled, width, reads_at, found_at, holds_true, IsSymbolic, IsCoded}
use Rattle.rv_agreement.specs.Valuations.{IsCodedAs, read, updated}
use Rattle.rv_agreement.specs.{Evaluation.nth, Evaluation.held, Evaluation.is_there, Evaluation.form_value, Agreement.HasKind, Agreement.IsRule, Agreement.Fits}
use Rattle.rv_agreement.specs.{Agreement.FormFits, Agreement.IsWell, Kinding.ReadsAs}
use Rattle.rv_agreement.proofs.Controls.{clock_there}
use Rattle.rv_meaning.proofs.Below.{each_below}

module _ (labels : List ℕ) where
  constant_reads : (n : ℕ) (test : Sites → Side → Bool) (j : Kind) (c : Value) → HasKind labels j c → ReadsAs labels j (constant_reading n test c)
  constant_reads n test kind.Bool (value.Flag b) has = tt
  constant_reads n test kind.Int (value.Whole z) has = tt
  constant_reads n test (kind.Labels i) (value.Label l) has = has
  constant_reads n test _ _ has = absurd has

  spelled_reads : (j : Kind) (bits : ℕ → Bool) (f : Form) → IsCodedAs labels j bits → ReadsAs labels j (spelled labels j bits f)
  spelled_reads (kind.Labels i) bits f coded = coded
  spelled_reads _ bits f coded = tt

  chosen_reads : (b : Bool) (j : Kind) (p q : Reading) → ReadsAs labels j p → ReadsAs labels j q → ReadsAs labels j (cond b p q)
  chosen_reads true j p q first second = first
  chosen_reads false j p q first second = second

  read_as : {j k : Kind} (a : Reading) → j ≡ k → ReadsAs labels k a → ReadsAs labels j a
  read_as a is reads = subst (λ k. ReadsAs labels k a) (sym is) reads

  operated_reads : (n : ℕ) (test : Sites → Side → Bool) (at : Sites) (o : Op) (i j : Kind) (a b : Reading) → IsRule o i j
      → ReadsAs labels j (operated n test at o a b)
  operated_reads n test at op.Arrow i j a b rule = absurd rule
  operated_reads n test at op.Equal i j a b rule = read_as _ rule tt
  operated_reads n test at op.Differs i j a b rule = read_as _ rule tt
  operated_reads n test at op.Plus i j a b rule = read_as _ rule.1 tt
  operated_reads n test at op.Minus i j a b rule = read_as _ rule.1 tt
  operated_reads n test at op.Times i j a b rule = absurd rule
  operated_reads n test at op.Slash i j a b rule = absurd rule
  operated_reads n test at op.Div i j a b rule = absurd rule
  operated_reads n test at op.Mod i j a b rule = absurd rule
  operated_reads n test at _ i j a b rule = read_as _ rule.1 tt

module _ (s : System) (v : Valuation) (row : List (Option Reading)) (well : IsWell s) (coded : IsCoded s v) (instant : IsSymbolic s v row) where
  abbrev there : Option ℕ → Bool
  there k = is_there Reading (reads_at s v) row k

  memory_reads : (m : ℕ) → m < length s.memories → ReadsAs s.labels (kind_at (memory_kinds s) m) ((found_at s v).kept m)
  memory_reads m lt = spelled_reads s.labels (kind_at (memory_kinds s) m) (v.kept (slice_index_or (memory_places s) m [])) _ (coded.memories m lt)

  module _ (n : ℕ) (most : n ≤ length s.flows) (before : (k : ℕ) (a : Reading) → k < n → nth Reading (reads_at s v) row k ≡ Some a
      → ReadsAs s.labels (kind_at s.kinds k) a) where
    flow_reads : (k : Option ℕ) (j : Kind) (c : ℕ) → c < n → there k ≡ true → kind_at s.kinds c ≡ j → (nth_item s.flows c).clock ≡ k
        → ReadsAs s.labels j (held Reading (reads_at s v) (nth Reading (reads_at s v) row c))
    flow_reads k j c lt on kind_is clock_is =
        let present : nth Reading (reads_at s v) row c ≡ Some (read s v row (nth_item s.flows c).body) =
        instant.holds c (omega arith) ∙ ap (λ b. cond b (Some (read s v row (nth_item s.flows c).body)) Nothing) (ap there clock_is ∙ on) in
        subst (λ o. ReadsAs s.labels j (held Reading (reads_at s v) o)) (sym present)
        (subst (λ t. ReadsAs s.labels t (read s v row (nth_item s.flows c).body)) kind_is (before c (read s v row (nth_item s.flows c).body) lt present))

    current_reads : (i : Option ℕ) (j : Kind) (b : Bool) → there i ≡ b → (m : ℕ) (e : FlatTree) → (there i ≡ true → ReadsAs s.labels j (read s v row e))
        → ReadsAs s.labels j ((found_at s v).kept m)
        → ReadsAs s.labels j (cond b (read s v row e) ((found_at s v).kept m))
    current_reads i j true is m e shown kept = shown is
    current_reads i j false is m e shown kept = kept

    mutual
      reads : (k : Option ℕ) (j : Kind) (e : FlatTree) → Fits s n k j e → there k ≡ true → ReadsAs s.labels j (read s v row e)
      reads k j (Node at form) fit on = reads_form k j at form fit on

      reads_form : (k : Option ℕ) (j : Kind) (at : Sites) (form : TreeForm) → FormFits s n k j at form → there k ≡ true
          → ReadsAs s.labels j (form_value Reading (reads_at s v) (found_at s v) row at form)
      reads_form k j at (Constant c) fit on = constant_reads s.labels (width s) v.test j c fit
      reads_form k j at (Flow c) fit on = flow_reads k j c fit.0 on fit.1 fit.2
      reads_form k j at (Memory m) fit on = subst (λ t. ReadsAs s.labels t ((found_at s v).kept m)) fit.1 (memory_reads m fit.0)
      reads_form k j at (Ticked t) fit on = read_as s.labels _ fit.1 tt
      reads_form k j at (Input i) fit on = subst (λ t. ReadsAs s.labels t ((found_at s v).given i)) fit.1
          (spelled_reads s.labels (kind_at s.inputs i) (v.input i) _ (coded.inputs i fit.0))
      reads_form k j at (Binary o a b) fit on = operated_reads s.labels (width s) v.test at o fit.0 j (read s v row a) (read s v row b) fit.1
      reads_form k j at (Scale z e) fit on = read_as s.labels _ fit.0 tt
      reads_form k j at (If c a b) fit on = chosen_reads s.labels (holds_true (read s v row c)) j (read s v row a) (read s v row b) (reads k j a fit.1 on)
          (reads k j b fit.2 on)
      reads_form k j at (When c e) fit on =
          reads (nth_item s.flows c).clock j e fit.2 (clock_there s v row well instant c (omega (arith, fit.1)) (ap there (sym fit.0) ∙ on))
      reads_form k j at (Current m i e) fit on =
          current_reads i j (there i) refl m e (λ shown. reads i j e fit.4 shown)
          (subst (λ t. ReadsAs s.labels t ((found_at s v).kept m)) fit.1 (memory_reads m fit.0))
      reads_form k j at _ fit on = read_as s.labels _ fit.0 tt

  some_of : (b : Bool) (x a : Reading) → cond b (Some x) Nothing ≡ Some a → (b ≡ true) × (x ≡ a)
  some_of true x a e = (refl, let f : x ≡ a = cc in f)
  some_of false x a e = absurd (cc)

  pub flows_read : (k : ℕ) (a : Reading) → k < length s.flows → nth Reading (reads_at s v) row k ≡ Some a → ReadsAs s.labels (kind_at s.kinds k) a
  flows_read k a lt = each_below (λ k. (a : Reading) → nth Reading (reads_at s v) row k ≡ Some a → ReadsAs s.labels (kind_at s.kinds k) a) (length s.flows)
      (λ n less before a is.
      let y = nth_item s.flows n in
      let parts = some_of (there y.clock) (read s v row y.body) a (sym (instant.holds n less) ∙ is) in
      subst (ReadsAs s.labels (kind_at s.kinds n)) parts.1
      (reads n (omega arith) (λ k a low. before k low a) y.clock (kind_at s.kinds n) y.body (well.flows n less).1 parts.0))
      k lt a

  pub expressions_read : (k : Option ℕ) (j : Kind) (e : FlatTree) → Fits s (length s.flows) k j e → there k ≡ true → ReadsAs s.labels j (read s v row e)
  expressions_read = reads (length s.flows) (omega arith) flows_read

  pub memories_read : (m : ℕ) → m < length s.memories → ReadsAs s.labels (kind_at (memory_kinds s) m) (updated s v row m)
  memories_read m lt =
      current_reads (length s.flows) (omega arith) flows_read (nth_item (memory_items s) m).clock (kind_at (memory_kinds s) m)
      (there (nth_item (memory_items s) m).clock) refl m (nth_item (memory_items s) m).body
      (λ shown. reads (length s.flows) (omega arith) flows_read (nth_item (memory_items s) m).clock (kind_at (memory_kinds s) m)
      (nth_item (memory_items s) m).body (well.memories m lt).1 shown)
      (memory_reads m lt)
