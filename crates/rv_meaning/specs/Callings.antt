-- The calls of nodes by the numbers of the nodes that they call.
use Rattle.std.specs.Prelude.{◌≡◌, ℕ, cond, nat_eq, List, [], ◌∷◌, map, Option, Some, slice_get, None as Nothing}
use Rattle.std.specs.HashMap.{HashMap}
use Rattle.std.specs.HashMap as hash
use Rattle.rv_tree.specs.Tree.{NodeTree}
use Rattle.rv_types.specs.Instances.{CallTree}
use Rattle.rv_meaning.specs.{declared.calls.Calling.Calling, declared.numbers.Numbers.Numbers, Leading.callee_at, Numbers.number_in}

-- some calls, where the nodes have these numbers
abbrev pub callings : Numbers → List CallTree → List Calling
callings names cs = map (λ c. record { site = c.site; callee = number_in names c.name }) cs

-- what the first of some calls at a site calls
abbrev pub first_callee : List Calling → ℕ → Option ℕ
first_callee [] s = Nothing
first_callee (c ∷ cs) s = cond (nat_eq c.site s) (Some c.callee) (first_callee cs s)

-- the callee of a call at a site of the node with a number, by tables of the nodes
abbrev pub callee_in : {S : Type 0} → List (HashMap ℕ ℕ S) → ℕ → ℕ → Option ℕ
callee_in tables k s = elim (slice_get tables k) as (λ _. Option ℕ) [ Nothing ↦ Nothing | Some table ↦ hash.get nat_eq table s ]

-- These are the tables of the nodes.
abbrev pub AreCallees : {S : Type 0} → List NodeTree → List (HashMap ℕ ℕ S) → Type 0
AreCallees ns tables = (k s : ℕ) → callee_in tables k s ≡ callee_at ns k s
