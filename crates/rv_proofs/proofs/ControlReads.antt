-- A diagram reads the variables of its nodes alone.
use Rattle.std.proofs.Common.{◌≡◌, ℕ, zero, suc, ◌<◌, ◌≤◌, List, length, arith, refl, sym, ◌∙◌}
use Rattle.rv_diagram.specs.{declared.Triple.Triple, declared.frozen.Frozen.Frozen, Nodes.Valuation, Nodes.node_at, Nodes.value_among, Nodes.value_of}
use Rattle.rv_proofs.specs.{Systems.System, Systems.HasSameState, Systems.IsSameValuation, Scopes.IsIn, Ranges.IsControlSet, Ranges.IsCondition}

pub value_among-reads : (nodes : List Triple) (v w : Valuation) → ((i : ℕ) → i < length nodes → v (node_at nodes i).var ≡ w (node_at nodes i).var)
    → (n : ℕ) → n ≤ length nodes → (r : ℕ) → value_among nodes n v r ≡ value_among nodes n w r
unfolding value_among
value_among-reads nodes v w h zero l r = refl
value_among-reads nodes v w h (suc n) l r =
    let here : v (node_at nodes n).var ≡ w (node_at nodes n).var = h n (omega arith) in
    let hi = value_among-reads nodes v w h n (omega arith) (node_at nodes n).hi in
    let lo = value_among-reads nodes v w h n (omega arith) (node_at nodes n).lo in
    let rest = value_among-reads nodes v w h n (omega arith) r in
    rw (here, hi, lo, rest) refl

-- one control state is in a control set or not
pub control_same : (s : System) (set : Frozen) (v w : Valuation) → IsControlSet s set → HasSameState s v w → IsIn set v → IsIn set w
control_same s set v w c h i =
    let same : value_of set.nodes set.root v ≡ value_of set.nodes set.root w
    = value_among-reads set.nodes v w (λ n l. h (node_at set.nodes n).var (c.states n l)) (length set.nodes) (omega arith) set.root in
    sym same ∙ i

-- and one valuation meets a condition or not
pub condition_same : (s : System) (set : Frozen) (v w : Valuation) → IsCondition s set → IsSameValuation s v w → IsIn set v → IsIn set w
condition_same s set v w c h i =
    let same : value_of set.nodes set.root v ≡ value_of set.nodes set.root w
    = value_among-reads set.nodes v w (λ n l. h (node_at set.nodes n).var (c.read n l)) (length set.nodes) (omega arith) set.root in
    sym same ∙ i
