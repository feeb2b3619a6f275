-- Codes that name labels, and ticks that have not been.
use Rattle.std.proofs.Common.{◌≡◌, ℕ, suc, ◌+◌, ◌<◌, ◌≤◌, Bool, true, false, not, ◌&&◌, nat_lt, List, ◌∷◌, length, drop, refl, ◌∙◌, ap, arith, Option}
use Rattle.std.proofs.Math.ListN.{drop_of_length-le}
use Rattle.std.specs.Prelude.{slice_index_or}
use Rattle.rv_tree.specs.Places.{Sites}
use Rattle.rv_types.specs.{declared.typed.Kind.Kind, Variables.bits_for}
use Rattle.rv_types.specs.declared.typed.Kind.TheVariants as kind
use Rattle.rv_diagram.specs.Nodes.{Valuation as Numbered, Diagrams, Answers, IsRef, value_of}
use Rattle.rv_diagram.specs.Growing.{Extends}
use Rattle.rv_diagram.proofs.Growing.{extends_refl}
use Rattle.rv_agreement.specs.{Agreement.bit_count, Trees.Kept, Valuations.Valuation}
use Rattle.rv_control.specs.Control.{names_label, memories_named, inputs_named, none_ticked}
use Rattle.rv_symbolic.specs.Growing.{Makes}
use Rattle.rv_control.proofs.Alike.{code_same}

pub label_same : (labels : List ℕ) (j : Kind) (g h : ℕ → Bool) → ((b : ℕ) → b < bit_count labels j → g b ≡ h b)
    → names_label labels j g ≡ names_label labels j h
label_same labels (kind.Labels i) g h same = ap (λ n. nat_lt n (slice_index_or labels i 0)) (code_same (bits_for (slice_index_or labels i 0)) g h same)
label_same labels _ g h same = refl

pub and_step : (all one rest total : Bool) → (all && (one && rest)) ≡ total → ((all && one) && rest) ≡ total
and_step true one rest total e = e
and_step false one rest total e = e

and_done : (all total : Bool) → (all && true) ≡ total → all ≡ total
and_done true total e = e
and_done false total e = e

-- one conjunct more
pub and_more : (s mid new : Diagrams) (all one r : ℕ) (first rest total : Numbered → Bool) → IsRef s.nodes all → Makes s mid first one
    → Answers mid new (λ v. value_of mid.nodes all v && value_of mid.nodes one v) r
    → ((v : Numbered) → (value_of s.nodes all v && (first v && rest v)) ≡ total v) → (v : Numbered) → (value_of new.nodes r v && rest v) ≡ total v
and_more s mid new all one r first rest total is made t before v =
    (λ k. (t.means v ∙ (λ j. made.extends.kept all is v j && made.means v j)) k && rest v)
    ∙ and_step (value_of s.nodes all v) (first v) (rest v) (total v) (before v)

pub and_all : (a b : Diagrams) (all : ℕ) (total : Numbered → Bool) → Extends a b → IsRef b.nodes all
    → ((v : Numbered) → (value_of b.nodes all v && true) ≡ total v) → Makes a b total all
and_all a b all total e is before = record { extends = e; found = is; means = λ v. and_done (value_of b.nodes all v) (total v) (before v) }

pub constant_made : (a : Diagrams) (g : Numbered → Bool) (r : ℕ) → IsRef a.nodes r → ((v : Numbered) → value_of a.nodes r v ≡ g v) → Makes a a g r
constant_made a g r is means = record { extends = extends_refl a; found = is; means = means }

pub memories_split : (labels : List ℕ) (w : Valuation) (ms : List Kept) (i : ℕ) (m : Kept) → drop i ms ≡ m ∷ drop (i + 1) ms
    → memories_named labels w (drop i ms) ≡ (names_label labels m.kind (w.kept m.place) && memories_named labels w (drop (i + 1) ms))
unfolding memories_named
memories_split labels w ms i m left = ap (memories_named labels w) left

pub memories_done : (labels : List ℕ) (w : Valuation) (ms : List Kept) (i : ℕ) → length ms ≤ i → memories_named labels w (drop i ms) ≡ true
unfolding memories_named
memories_done labels w ms i le = ap (memories_named labels w) (drop_of_length-le ms le)

pub inputs_split : (labels : List ℕ) (w : Valuation) (ks : List Kind) (i : ℕ) (j : Kind) → drop i ks ≡ j ∷ drop (i + 1) ks
    → inputs_named labels w i (drop i ks) ≡ (names_label labels j (w.input i) && inputs_named labels w (i + 1) (drop (i + 1) ks))
unfolding inputs_named
inputs_split labels w ks i j left = ap (inputs_named labels w i) left ∙ ap (λ n. names_label labels j (w.input i) && inputs_named labels w n (drop (i + 1) ks))
    (let z : suc i ≡ i + 1 = omega arith in z)

pub inputs_done : (labels : List ℕ) (w : Valuation) (ks : List Kind) (i : ℕ) → length ks ≤ i → inputs_named labels w i (drop i ks) ≡ true
unfolding inputs_named
inputs_done labels w ks i le = ap (inputs_named labels w i) (drop_of_length-le ks le)

pub ticks_split : (w : Valuation) (ts : List (Option Sites)) (i : ℕ) (t : Option Sites) → drop i ts ≡ t ∷ drop (i + 1) ts
    → none_ticked w (drop i ts) ≡ (not (w.ticked t) && none_ticked w (drop (i + 1) ts))
unfolding none_ticked
ticks_split w ts i t left = ap (none_ticked w) left

pub ticks_done : (w : Valuation) (ts : List (Option Sites)) (i : ℕ) → length ts ≤ i → none_ticked w (drop i ts) ≡ true
unfolding none_ticked
ticks_done w ts i le = ap (none_ticked w) (drop_of_length-le ts le)
