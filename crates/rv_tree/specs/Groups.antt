-- Groups of flows: names that share one written type and one clock.
use Rattle.std.specs.Prelude.{◌≡◌, ℕ, ◌<◌, ◌≤◌, List, length, map, get_or, Option, slice_get, option_map}
use Rattle.rv_tree.specs.{declared.tree.Decl.Decl, declared.tree.Name.Name, declared.tree.TypeName.TypeName}

-- the declaration of a flow of this type, on this clock where it has one
abbrev pub flow : TypeName → Option Name → Name → Decl
flow k clock x = record { name = x; kind = k; clock = clock }

-- the names of some flows, and their type
abbrev pub Group : Type 0
Group = List Name × TypeName

-- the flows of a group, on this clock where it has one
abbrev pub flows_of : Group → Option Name → List Decl
flows_of group clock = map (flow group.1 clock) group.0

-- the type of the flow with this number, where there is one
abbrev pub kind_at : List Decl → ℕ → Option TypeName
kind_at decls i = option_map (λ d. d.kind) (slice_get decls i)

-- its clock, where it has one
abbrev pub clock_at : List Decl → ℕ → Option (Option Name)
clock_at decls i = option_map (λ d. d.clock) (slice_get decls i)

-- The flow numbered `first` stands at or before the one numbered `i`, with the same type and clock.
pub record AreAlike (decls : List Decl) (first i : ℕ) : Type 0 where
  pub within : first ≤ i
  pub kind : kind_at decls first ≡ kind_at decls i
  pub clock : clock_at decls first ≡ clock_at decls i

-- Each flow has the number of the first of its group.
pub record AreGroups (firsts : List ℕ) (decls : List Decl) : Type 0 where
  pub long : length firsts ≡ length decls
  pub alike : (i : ℕ) → i < length decls → AreAlike decls (get_or firsts i 0) i
