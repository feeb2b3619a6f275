-- The calls of a node as they are listed.
use Rattle.std.proofs.Common.{◌≡◌, ℕ, ◌<◌, List, [], ◌∷◌, map, length, get_or, sym, ◌∙◌, ap, arith}
use Rattle.std.proofs.lemmas.List.Elements.{Contains-get_or}
use Rattle.std.specs.List.{Contains}
use Rattle.rv_tree.specs.Tree.{None, NodeTree}
use Rattle.rv_types.specs.Instances.{CallTree, calls}
use Rattle.rv_instances.specs.{declared.timed.ClockedCall.ClockedCall, Expanded.ToldCall, Expanded.told, Expanded.call_told, Expanded.calls_told}
use Rattle.rv_instances.proofs.{Known.map_at, Lists.length_map}

-- an element of a list
pub element : {X : Type 0} (xs : List X) (j : ℕ) → j < length xs → X
element [] j lt = absurd (omega (arith, lt))
element (x ∷ xs) j lt = x

no_call : CallTree
no_call = record { at = 0; site = 0; name = []; args = None }

module _ (n : NodeTree) (listed : List ClockedCall) (are : map told listed ≡ calls_told n) where
  sizes : length listed ≡ length (calls n)
  sizes = omega (arith, length_map told listed, length_map (call_told n) (calls n), ap length are)

  -- what is listed is a call
  pub call_listed : (j : ℕ) (x : ClockedCall) → j < length listed → x ≡ get_or listed j x → (c : CallTree) × Contains (calls n) c × (told x ≡ call_told n c)
  call_listed j x lt is =
      let within : j < length (calls n) = omega (arith, lt, sizes) in (
        get_or (calls n) j no_call,
        Contains-get_or (calls n) j no_call within,
        ap told is ∙ sym (map_at told listed j (told x) x lt) ∙ ap (λ (l : List ToldCall). get_or l j (told x)) are
            ∙ map_at (call_told n) (calls n) j (told x) no_call within,
      )

  -- and each call is listed
  pub listed_call : (c : CallTree) → Contains (calls n) c → (j : ℕ) × (j < length listed) × ((x : ClockedCall) → told (get_or listed j x) ≡ call_told n c)
  listed_call c w =
      let within : w.0 < length listed = omega (arith, w.1, sizes) in (
        w.0,
        within,
        λ x.
            sym (map_at told listed w.0 (told x) x within) ∙ ap (λ (l : List ToldCall). get_or l w.0 (told x)) are
            ∙ map_at (call_told n) (calls n) w.0 (told x) c w.1 ∙ ap (call_told n) w.2,
      )
