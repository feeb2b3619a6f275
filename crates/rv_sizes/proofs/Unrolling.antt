-- Sums over all instances, by the numbers of nodes.
use Rattle.std.proofs.Common.{◌≡◌, ℕ, zero, suc, ◌+◌, ◌<◌, min, List, [], ◌∷◌, map, length, get_or, refl, sym, ◌∙◌, ap, arith}
use Rattle.std.proofs.lemmas.List.Elements.{Contains-get_or}
use Rattle.rv_tree.specs.{Tree.NodeTree, Tree.ProgramTree, Places.index_of}
use Rattle.rv_types.specs.Instances.{CallTree, calls, Instance, no_node, callee, unrolled}
use Rattle.rv_types.specs.{Names.name_faults, Variables.total}
use Rattle.rv_calls.specs.{declared.calls.Calling.Calling, Callings.calling, Callings.callings_of}
use Rattle.rv_instances.specs.AllInstances.{names_of}
use Rattle.rv_base.specs.Limits.{heaviest}
use Rattle.rv_sizes.specs.{Totals.total_at, Capped.capped}
use Rattle.rv_instances.proofs.Known.{map_at, called, calls_declared}
use Rattle.rv_calls.proofs.Recursions.{table_at}
use Rattle.rv_sizes.proofs.Summing.{total_min}
use Rattle.rv_types.proofs.DifferentPlaces.{total_map, total_same, total_flat_map}

pub total_ones : {X : Type 0} (xs : List X) → total (λ x. 1) xs ≡ length xs
total_ones [] = refl
total_ones (x ∷ xs) = omega (arith, total_ones xs)

module _ (p : ProgramTree) (named : name_faults p ≡ []) (f : NodeTree → ℕ) where
  -- the sum over an instance and those below it is that of its node
  pub unrolled_total : (levels : ℕ) (i : Instance) (k : ℕ) → k < length p.nodes → i.node ≡ get_or p.nodes k no_node
      → total (λ (j : Instance). f j.node) (unrolled p levels i) ≡ total_at (map f p.nodes) (callings_of p) levels k
  unrolled_total zero i k lt is = refl
  unrolled_total (suc levels) i k lt is =
      let cs = calls (get_or p.nodes k no_node) in
      let own : f i.node ≡ get_or (map f p.nodes) k 0 = ap f is ∙ sym (map_at f p.nodes k 0 no_node lt) in
      let below = total_flat_map (λ (j : Instance). f j.node) (λ (c : CallTree). unrolled p levels (callee p i c)) (calls i.node)
      ∙ ap (λ (n : NodeTree). total (λ (c : CallTree). total (λ (j : Instance). f j.node) (unrolled p levels (callee p i c))) (calls n)) is
      ∙ total_same (λ (c : CallTree). total (λ (j : Instance). f j.node) (unrolled p levels (callee p i c)))
      (λ (c : CallTree). total_at (map f p.nodes) (callings_of p) levels (index_of (names_of p) c.name)) (calls (get_or p.nodes k no_node))
      (λ c w.
      let to = called p named c.name (calls_declared p named (get_or p.nodes k no_node) c (Contains-get_or p.nodes k no_node lt) w) in
      unrolled_total levels (callee p i c) (index_of (names_of p) c.name) to.0 to.1)
      ∙ sym (total_map (λ (c : Calling). total_at (map f p.nodes) (callings_of p) levels c.callee) (calling (names_of p)) (calls (get_or p.nodes k no_node)))
      ∙ ap (total (λ (c : Calling). total_at (map f p.nodes) (callings_of p) levels c.callee)) (sym (table_at p named k lt)) in
      (λ j. own j + below j)

-- sums of capped numbers are the same up to 2^40
pub capped_total : {X : Type 0} (f : X → ℕ) (xs : List X) (t : List (List Calling)) (levels k : ℕ)
    → min (total_at (map (λ x. capped (f x)) xs) t levels k) heaviest ≡ min (total_at (map f xs) t levels k) heaviest
capped_total {X = X} f xs t zero k = refl
capped_total {X = X} f xs t (suc levels) k =
    let lower : ℕ → ℕ = total_at (map (λ x. capped (f x)) xs) t levels in
    let whole : ℕ → ℕ = total_at (map f xs) t levels in
    let first = total_min heaviest (λ (c : Calling). min (lower c.callee) heaviest) (λ (c : Calling). lower c.callee) (get_or t k [])
    (get_or (map (λ x. capped (f x)) xs) k 0) (λ c w. refl) in
    let second = total_min heaviest (λ (c : Calling). min (whole c.callee) heaviest) (λ (c : Calling). whole c.callee) (get_or t k [])
    (get_or (map f xs) k 0) (λ c w. refl) in
    let same = total_same (λ (c : Calling). min (lower c.callee) heaviest) (λ (c : Calling). min (whole c.callee) heaviest) (get_or t k [])
    (λ c w. capped_total f xs t levels c.callee) in
    omega (arith, own_capped xs k, first, second, same)
  where
    own_capped : (xs : List X) (k : ℕ) → get_or (map (λ x. capped (f x)) xs) k 0 ≡ min (get_or (map f xs) k 0) heaviest
    own_capped [] k = refl
    own_capped (x ∷ xs) zero = refl
    own_capped (x ∷ xs) (suc k) = own_capped xs k
