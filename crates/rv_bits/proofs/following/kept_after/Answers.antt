use Rattle.std.proofs.Common.{◌≡◌, ◌∙◌, ℕ, List, ap, subst, sym, arith}
use Rattle.rv_tree.specs.Places.{index_of}
use Rattle.rv_flat.specs.{declared.parts.FlatMemory.FlatMemory, FlatInstants.memory_places, FlatInstants.system_of, Systems.memory_places_of}
use Rattle.rv_agreement.specs.Valuations.{updated}
use Rattle.rv_control.specs.{Control.bit_of, Named.named}
use Rattle.rv_bits.specs.{Following.IsKeptBit, Following.kept_ref, Shown.refs_at}
use Rattle.rv_bits.proofs.Nexting.{kept_is_ref, bit_shown, bit_past_all, memory_within}
use Rattle.rv_bits.proofs.following.kept_after.Goals as goal

pub returns-in-Some : goal.returns-in-Some
returns-in-Some c = λ old new are.
    let f = c.args.flat.now in
    let m = c.memory_number-memory.result in
    let kept = c.in-Some.kept.now in
    let b = c.args.number in
    let is = sym c.in-Some.ensures.value in
    let refs = refs_at c.args.after.now m in
    let after = are.each m (memory_within f m kept is) in
    let number : m ≡ index_of (memory_places f) c.args.place.now.sites = c.memory_number-memory.ensures
    ∙ ap (λ (l : List FlatMemory). index_of (memory_places_of l) c.args.place.now.sites) c.as_slice.ensures in
    let found : c.bit_after.result ≡ kept_ref kept.kind refs b = c.bit_after.ensures ∙ ap (λ (l : List ℕ). kept_ref kept.kind l b) c.list_at.ensures in
    subst (IsKeptBit f new.nodes c.args.place.now.sites b) (sym found)
    (record {
      is_ref = kept_is_ref new.nodes kept.kind refs b after.are_refs;
      means = λ v row instant. bit_shown f new.nodes m b kept refs is after v row instant ∙ ap (λ n. bit_of (updated (system_of f) (named f v) row n) b) number;
    })

pub returns-in-None : goal.returns-in-None
returns-in-None c = λ old new are.
    let f = c.args.flat.now in
    let m = c.memory_number-memory.result in
    let b = c.args.number in
    let number : m ≡ index_of (memory_places f) c.args.place.now.sites = c.memory_number-memory.ensures
    ∙ ap (λ (l : List FlatMemory). index_of (memory_places_of l) c.args.place.now.sites) c.as_slice.ensures in
    record {
      is_ref = omega arith;
      means = λ v row instant. bit_past_all f new.nodes m b (sym c.in-None.ensures.value) v row
          ∙ ap (λ n. bit_of (updated (system_of f) (named f v) row n) b) number;
    }
