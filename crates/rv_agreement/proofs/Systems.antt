-- A flat system that is read from its program has the instants of the program, whatever expressions are read as, and its comparisons.
use Rattle.std.proofs.Common.{◌≡◌, ℕ, ◌<◌, Bool, cond, List, [], ◌++◌, map, length, refl, sym, ◌∙◌, ap, subst, arith, Option, Some, inl, inr, None as Nothing}
use Rattle.std.proofs.lemmas.List.{length-map, get_or-map}
use Rattle.std.proofs.lemmas.List.Elements.{Contains-append_right, Contains-append_cases}
use Rattle.std.specs.{Prelude.slice_index_or, List.Contains}
use Rattle.rv_tree.specs.{Tree.Tree, Tree.ProgramTree, Places.Identifier, Places.Sites, Places.index_of}
use Rattle.rv_types.specs.Instances.{Body, Output, Instance, absolute, clock_in, clock_of_arguments, output_place}
use Rattle.rv_types.specs.Needs.{Giver, Given, Of, Gives}
use Rattle.rv_types.specs.{declared.typed.Clock.Clock, declared.typed.Clock.TheVariants.Base, Lists.delay_place}
use Rattle.rv_meaning.specs.Givers.{AreDefined}
use Rattle.rv_agreement.specs.Trees.{Item, nth_item, System, memory_items}
use Rattle.rv_agreement.specs.Evaluation.{Reads, Found, IsInstant, nth, held, item_value}
use Rattle.rv_agreement.specs.Valuations.{Comparison, comparisons, item_comparisons, all_items, all_comparisons}
use Rattle.rv_agreement.specs.Programs.{FoundAt, given_by, IsInstantOf, Compared, compared, IsComparison, in_flow, in_memory, in_assertion}
use Rattle.rv_agreement.specs.Translation.{Names, Numbers, clock_number, tick_number, flat_of, giver_item, assertion_item, IsTranslated, AreNamed, IsClockOf}
use Rattle.rv_agreement.specs.Translation.{AreIndexed, flat_compared}
use Rattle.rv_agreement.proofs.{Translated.value_read, Translated.on_clock, Translated.compared_read, Matching.read_in, Matching.flow_in, Matching.memory_in}
use Rattle.rv_base.proofs.Lists.{from_map as given_by_map}
use Rattle.rv_types.proofs.Members.{in_flat_map, in_map, nothing_in, of_flat_map}

module _ (V : Type 0) (r : Reads V) (flagged : (b : Bool) → r.truth (r.flag b) ≡ b) (p : ProgramTree) (main : Identifier) (numbers : Numbers) (s : System)
    (translated : IsTranslated p main numbers s)
    (found : Found V) (at_place : FoundAt V) (inputs : (j : ℕ) → found.given j ≡ at_place.given j)
    (names : (q : Sites) (i : Instance) (k : Clock) (e : Tree) → Gives p main q (Of i k (Body e))
    → Names i (λ q. found.kept (index_of numbers.memories q) ≡ at_place.kept q) (λ t. found.ticked (tick_number numbers t) ≡ at_place.ticked t)
    (λ x. Unit {0}) e) where
  module _ (row : List (Option V)) (cells : Sites → Option V) (agrees : (q : Sites) → nth V r row (index_of numbers.flows q) ≡ cells q) where
    -- an item has what gives the flow its value
    item_read : (q : Sites) (g : Giver) → Gives p main q g → item_value V r found row (giver_item p numbers g) ≡ given_by V r p at_place cells g
    item_read q (Given j) gives = ap Some (inputs j)
    item_read q (Of i k (Body e)) gives = λ t.
        cond (on_clock V r flagged p numbers found row at_place cells agrees i (clock_in i k e) t)
        (Some (value_read V r flagged p numbers found row at_place cells agrees i e (names q i k e gives) t)) Nothing
    item_read q (Of i k (Output c j)) gives = λ t.
        cond (on_clock V r flagged p numbers found row at_place cells agrees i (absolute i (clock_of_arguments i c.args)) t)
        (Some (held V r (agrees (output_place p i c.site c.name j) t))) Nothing

  -- an instant of the program is one of the flat system
  pub forward : (cells : Sites → Option V) → ((q : Sites) → nth V r (map cells numbers.flows) (index_of numbers.flows q) ≡ cells q)
      → IsInstantOf V r p main at_place cells → IsInstant V r s found (map cells numbers.flows)
  forward cells agrees instant = record {
    flows = length-map numbers.flows cells ∙ sym translated.many;
    holds = λ k lt.
        let f = translated.flow k lt in
        get_or-map cells numbers.flows k [] Nothing (omega (arith, translated.many, lt))
        ∙ instant (slice_index_or numbers.flows k []) f.0 f.1
        ∙ sym (item_read (map cells numbers.flows) cells agrees (slice_index_or numbers.flows k []) f.0 f.1)
        ∙ ap (item_value V r found (map cells numbers.flows)) (sym f.2);
  }

  -- and the other way round
  pub backward : AreDefined p main → ((q : Sites) → Contains numbers.flows q
      → (index_of numbers.flows q < length numbers.flows) × (slice_index_or numbers.flows (index_of numbers.flows q) [] ≡ q))
      → (row : List (Option V)) → IsInstant V r s found row → IsInstantOf V r p main at_place (λ q. nth V r row (index_of numbers.flows q))
  backward defined index row instant q g gives =
      let w = index q (translated.sequence.flows q (defined.flow q g gives)) in
      let lt : index_of numbers.flows q < length s.flows = omega (arith, translated.many, w.0) in
      let f = translated.flow (index_of numbers.flows q) lt in
      let here : Gives p main q f.0 = subst (λ u. Gives p main u f.0) w.1 f.1 in
      instant.holds (index_of numbers.flows q) lt
      ∙ ap (item_value V r found row) f.2
      ∙ item_read row (λ u. nth V r row (index_of numbers.flows u)) (λ u. refl) q f.0 here
      ∙ ap (given_by V r p at_place (λ u. nth V r row (index_of numbers.flows u))) (defined.one q f.0 g here gives)

pub from_map : {X Y : Type 0} (f : X → Y) (xs : List X) (y : Y) → Contains (map f xs) y → (x : X) × Contains xs x × (y ≡ f x)
from_map f xs y w = let r = given_by_map f xs y w in (r.0, r.1, sym r.2)

-- The comparisons.
module _ (p : ProgramTree) (main : Identifier) (numbers : Numbers) (s : System) (translated : IsTranslated p main numbers s) (defined : AreDefined p main)
    (index : AreIndexed numbers.flows)
    (names : AreNamed p main (λ q. Unit {0}) (λ t. Unit {0}) (IsClockOf numbers s)) where
  -- those of what is read of an expression
  read_in' : (i : Instance) (k : Option Sites) (e : Tree) → Names i (λ q. Unit {0}) (λ t. Unit {0}) (IsClockOf numbers s i) e
      → comparisons s.flows (clock_number numbers k) (flat_of p numbers i e) ≡ map (flat_compared p numbers) (compared p i k e)
  read_in' i k e named = compared_read p numbers s.flows i k e named

  -- an item of the flat system has them
  by_item : (y : Item) (i : Instance) (k : Option Sites) (e : Tree) (c : Compared) → Contains (all_items s) y
      → y ≡ record { clock = clock_number numbers k; body = flat_of p numbers i e }
      → Names i (λ q. Unit {0}) (λ t. Unit {0}) (IsClockOf numbers s i) e → Contains (compared p i k e) c
      → Contains (all_comparisons s) (flat_compared p numbers c)
  by_item y i k e c inside is named w =
      in_flat_map (item_comparisons s.flows) (all_items s) y (flat_compared p numbers c) inside
      (subst (λ z. Contains (item_comparisons s.flows z) (flat_compared p numbers c)) (sym is)
      (subst (λ cs. Contains cs (flat_compared p numbers c)) (sym (read_in' i k e named)) (in_map (flat_compared p numbers) (compared p i k e) c w)))

  pub comparison_there : (c : Compared) → IsComparison p main c → Contains (all_comparisons s) (flat_compared p numbers c)
  comparison_there c (in_flow q i k e gives w) =
      let v = index q (translated.sequence.flows q (defined.flow q (Of i k (Body e)) gives)) in
      let lt : index_of numbers.flows q < length s.flows = omega (arith, translated.many, v.0) in
      let f = translated.flow (index_of numbers.flows q) lt in
      let here : Gives p main q f.0 = subst (λ u. Gives p main u f.0) v.1 f.1 in
      by_item (nth_item s.flows (index_of numbers.flows q)) i (clock_in i k e) e c
      (flow_in s (index_of numbers.flows q) lt)
      (f.2 ∙ ap (giver_item p numbers) (defined.one q f.0 (Of i k (Body e)) here gives)) (names.flows q i k e gives) w
  comparison_there c (in_memory i d inst there w) =
      let v = translated.memory_there i d inst there in
      by_item (nth_item (memory_items s) (index_of numbers.memories (delay_place i d))) i (clock_in i Base d.operand) d.operand c
      (memory_in s (index_of numbers.memories (delay_place i d)) v)
      (translated.memory i d inst there) (names.memories i d inst there) w
  comparison_there c (in_assertion i a inst there w) =
      by_item (assertion_item p numbers i a) i (clock_in i Base a.body) a.body c
      (Contains-append_right s.flows _ _ (Contains-append_right (memory_items s) _ _ (translated.asserts i a inst there)))
      refl (names.assertions i a inst there) w

  -- and no others
  from_item : (y : Item) (i : Instance) (k : Option Sites) (e : Tree) (d : Comparison)
      → y ≡ record { clock = clock_number numbers k; body = flat_of p numbers i e }
      → Names i (λ q. Unit {0}) (λ t. Unit {0}) (IsClockOf numbers s i) e → Contains (item_comparisons s.flows y) d
      → (c : Compared) × Contains (compared p i k e) c × (d ≡ flat_compared p numbers c)
  from_item y i k e d is named w =
      from_map (flat_compared p numbers) (compared p i k e) d
      (subst (λ cs. Contains cs d) (read_in' i k e named) (subst (λ z. Contains (item_comparisons s.flows z) d) is w))

  pub comparison_from : (d : Comparison) → Contains (all_comparisons s) d → (c : Compared) × IsComparison p main c × (d ≡ flat_compared p numbers c)
  comparison_from d w =
      let y = of_flat_map (item_comparisons s.flows) (all_items s) d w in
      elim (Contains-append_cases s.flows (memory_items s ++ s.assertions) y.0 y.1) [
        | inl flow ↦ by_giver y.0 flow (translated.flow flow.0 flow.1) y.2
        | inr rest ↦ elim (Contains-append_cases (memory_items s) s.assertions y.0 rest) [
          | inl memory ↦
              let m = translated.memory_only memory.0 (let lt : memory.0 < length (memory_items s) = memory.1 in simp length-map at lt) in
              let f = from_item y.0 m.0 (clock_in m.0 Base m.1.operand) m.1.operand d (sym (read_in (memory_items s) y.0 memory) ∙ m.4)
              (names.memories m.0 m.1 m.2 m.3) y.2 in
              (f.0, in_memory m.0 m.1 m.2 m.3 f.1, f.2)
          | inr assertion ↦
              let m = translated.asserted assertion.0 assertion.1 in
              let f = from_item y.0 m.0 (clock_in m.0 Base m.1.body) m.1.body d (sym (read_in s.assertions y.0 assertion) ∙ m.4)
              (names.assertions m.0 m.1 m.2 m.3) y.2 in
              (f.0, in_assertion m.0 m.1 m.2 m.3 f.1, f.2)
        ]
      ]
    where
      by_giver : (y : Item) (flow : Contains s.flows y) → ((g : Giver) × Gives p main (slice_index_or numbers.flows flow.0 []) g
          × (nth_item s.flows flow.0 ≡ giver_item p numbers g))
          → Contains (item_comparisons s.flows y) d → (c : Compared) × IsComparison p main c × (d ≡ flat_compared p numbers c)
      by_giver y flow (Given j, gives, is) w = nothing_in d (subst (λ z. Contains (item_comparisons s.flows z) d) (sym (read_in s.flows y flow) ∙ is) w)
      by_giver y flow (Of i k (Body e), gives, is) w =
          let f = from_item y i (clock_in i k e) e d (sym (read_in s.flows y flow) ∙ is) (names.flows (slice_index_or numbers.flows flow.0 []) i k e gives) w in
          (f.0, in_flow (slice_index_or numbers.flows flow.0 []) i k e gives f.1, f.2)
      by_giver y flow (Of i k (Output c j), gives, is) w =
          nothing_in d (subst (λ z. Contains (item_comparisons s.flows z) d) (sym (read_in s.flows y flow) ∙ is) w)
