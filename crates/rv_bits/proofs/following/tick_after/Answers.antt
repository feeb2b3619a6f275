use Rattle.std.proofs.Common.{◌≡◌, ◌∙◌, ◌<◌, ◌||◌, ℕ, List, length, ap, subst, sym, arith, Option, Some, None as Nothing}
use Rattle.std.proofs.lemmas.List.{length-map}
use Rattle.std.specs.Prelude.{slice_index_or}
use Rattle.rv_diagram.specs.{Nodes.Valuation, Nodes.Answers, Nodes.value_of, Several.ref_at}
use Rattle.rv_diagram.proofs.Growing.{grows_extends}
use Rattle.rv_agreement.specs.{Agreement.IsNamed, Valuations.Reading, Valuations.IsSymbolic}
use Rattle.rv_control.specs.Named.{named}
use Rattle.rv_flat.specs.{FlatInstants.system_of, Systems.flow_item}
use Rattle.rv_symbolic.proofs.Extending.{map_ok}
use Rattle.rv_bits.specs.Shown.{is_there_at}
use Rattle.rv_bits.proofs.Nexting.{some_within}
use Rattle.rv_bits.proofs.following.tick_after.Goals as goal

pub returns-in-Some-clause-ok : goal.returns-in-Some-clause-ok
returns-in-Some-clause-ok c =
    let f = c.args.around.now.flat.now in
    let a = c.args.store.now in
    let k = c.args.number in
    let n = c.in-Some.clock in
    let p = c.ref_of-before.result in
    let q = c.ref_of.result in
    let well = c.requires.around.well in
    let clock : slice_index_or (system_of f).tick_clocks k Nothing ≡ Some n = sym c.in-Some.ensures in
    let inside : k < length (system_of f).tick_clocks = some_within (system_of f).tick_clocks k n clock in
    let within : n < length (system_of f).flows = subst (IsNamed (length (system_of f).flows)) clock (well.tick_clocks k inside) in
    let here : n < length c.args.around.now.read.now.on = omega (arith, within, c.requires.all, length-map f.flows (flow_item f.memories)) in
    let tick : (v : Valuation) → value_of a.nodes p v ≡ (named f v).ticked (slice_index_or (system_of f).ticks k Nothing) =
    λ v. ap (λ r. value_of a.nodes r v) (c.ref_of-before.ensures ∙ ap (λ (l : List ℕ). ref_at l k) c.as_slice.ensures)
    ∙ c.requires.around.tables.ticks k v (omega (arith, inside, well.ticks)) in
    let on : (v : Valuation) (row : List (Option Reading)) → IsSymbolic (system_of f) (named f v) row
    → value_of a.nodes q v ≡ is_there_at f v row (slice_index_or (system_of f).tick_clocks k Nothing) =
    λ v row instant. ap (λ r. value_of a.nodes r v) (c.ref_of.ensures ∙ ap (λ (l : List ℕ). ref_at l n) c.as_slice-in-Some.ensures)
    ∙ c.requires.around.flows.on_shows n v row here instant
    ∙ ap (is_there_at f v row) (sym clock) in
    map_ok c.or.result (Answers a c.or.new.self (λ v. value_of a.nodes p v || value_of a.nodes q v)) _
    (λ r t. record {
      extends = grows_extends a c.or.new.self t.grows;
      is_ref = t.found;
      means = λ v row instant. t.means v
          ∙ (λ i. tick v i || on v row instant i);
    })
    c.or.ensures.ok
