-- The memories of a node, found by the tables of its expressions.
use Rattle.std.proofs.Common.{◌≡◌, ℕ, Bool, true, false, cond, ◌||◌, nat_eq, List, [], ◌∷◌, ◌++◌, map, unwrap_or, Option, refl, sym, ◌∙◌, ap, ◌+◌, length}
use Rattle.std.proofs.Common.{length-append}
use Rattle.std.proofs.lemmas.List.{append_assoc}
use Rattle.std.specs.{Prelude.slice_index_or, List.list_any, Cmp.nat_eq_equiv, Cmp.partial_equiv_from_equiv}
use Rattle.indexmap.specs.IndexSet.{insert_key}
use Rattle.rv_tree.specs.Tree.{Tree, Node, Named, NodeTree, ProgramTree}
use Rattle.rv_tree.specs.{Places.Identifier, Places.flows, Places.memory_site, Delays.Delay, Delays.node_delays}
use Rattle.rv_types.specs.{declared.typed.Kind.Kind, declared.reading.ProgramTables.ProgramTables, declared.reading.NodeTables.NodeTables}
use Rattle.rv_types.specs.{Delayed.delayed_kinds, Names.texts, Readings.view_of, Scopes.node_scope, Tables.scope_of, Types.Scope, Types.kind_of}
use Rattle.rv_types.specs.{Variables.is_in, Variables.memories_beside, Values.operand_kind}
use Rattle.rv_types.specs.declared.typed.Kind.TheVariants as kind
use Rattle.rv_instances.specs.Timed.{ToldDelay, delay_told, delays_told}
use Rattle.rv_sizes.specs.Memories.{site_in, read_of, sites_read, paired, with_site, kinds_beside, memory_kinds}
use Rattle.rv_base.proofs.Truths.{or_assoc}

-- a site is among some where one of them equals it
pub any_in : (xs : List ℕ) (k : ℕ) → list_any (nat_eq k) xs ≡ is_in xs k
any_in [] k = refl
any_in (x ∷ xs) k = λ i. (partial_equiv_from_equiv nat_eq_equiv).symm k x i || any_in xs k i

-- a site is inserted where it is not among them
pub inserted_site : (xs : List ℕ) (k : ℕ) → insert_key nat_eq xs k ≡ with_site xs k
inserted_site xs k = ap (λ b. cond b xs (xs ++ k ∷ [])) (any_in xs k)

pub in_append : (xs ys : List ℕ) (k : ℕ) → is_in (xs ++ ys) k ≡ (is_in xs k || is_in ys k)
in_append [] ys k = refl
in_append (x ∷ xs) ys k = ap (λ c. nat_eq x k || c) (in_append xs ys k) ∙ sym (or_assoc (nat_eq x k) (is_in xs k) (is_in ys k))

pub swapped : (a b : Bool) → (a || (b || false)) ≡ (b || a)
swapped true true = refl
swapped _ _ = refl

-- the site of a memory, by the names of the flows
site_same : (n : NodeTree) (site : Option ℕ) (e : Tree) → site_in (flows n) site e ≡ memory_site n site e
site_same n site (Node at s (Named x)) = refl
site_same n site (Node at s form) = refl

module _ (p : ProgramTree) (n : NodeTree) (s : Scope) (names : List Identifier) (scope : s ≡ node_scope p n) (flow : names ≡ flows n) where
  read_site : (d : Delay) → (read_of s names d).site ≡ memory_site n d.site d.operand
  read_site d = ap (λ (xs : List Identifier). site_in xs d.site d.operand) flow ∙ site_same n d.site d.operand

  read_kind : (d : Delay) → (read_of s names d).kind ≡ operand_kind p n d.operand
  read_kind d = ap (λ (c : Scope). unwrap_or (kind_of c d.operand) kind.Bool) scope

  -- what is kept of the reads are the types of the memories
  beside_same : (ds : List Delay) (seen other : List ℕ) → ((k : ℕ) → is_in seen k ≡ is_in other k)
      → kinds_beside seen (map (read_of s names) ds) ≡ map (λ (d : Delay). operand_kind p n d.operand) (memories_beside n other ds)
  beside_same [] seen other same = refl
  beside_same (d ∷ ds) seen other same =
      let r = read_of s names d in
      let m = memory_site n d.site d.operand in
      tested (is_in seen r.site) (is_in other m) (same r.site ∙ ap (is_in other) (read_site d)) r.site m (read_site d) r.kind (read_kind d) (beside_same ds)
    where
      tested : (a b : Bool) → a ≡ b → (k m : ℕ) → k ≡ m → (j : Kind) → j ≡ operand_kind p n d.operand
          → ((seen other : List ℕ) → ((k : ℕ) → is_in seen k ≡ is_in other k)
          → kinds_beside seen (map (read_of s names) ds) ≡ map (λ (d : Delay). operand_kind p n d.operand) (memories_beside n other ds))
          → (cond a [] (j ∷ []) ++ kinds_beside (cond a seen (seen ++ k ∷ [])) (map (read_of s names) ds))
          ≡ map (λ (d : Delay). operand_kind p n d.operand) (cond b (memories_beside n other ds) (d ∷ memories_beside n (m ∷ other) ds))
      tested true true e k m at j is more = more seen other same
      tested false false e k m at j is more =
          let both : (i : ℕ) → is_in (seen ++ k ∷ []) i ≡ is_in (m ∷ other) i =
          λ i. in_append seen (k ∷ []) i ∙ (λ t. same i t || (nat_eq (at t) i || false)) ∙ swapped (is_in other i) (nat_eq m i) in
          λ t. is t ∷ more (seen ++ k ∷ []) (m ∷ other) both t
      tested _ _ e k m at j is more = absurd (let b : ⊥ = cc in b)

-- sites and types of the same reads, put together
paired_from : (n : NodeTree) (s : Scope) (names : List Identifier) (ks : List Kind) (ds : List Delay)
    → paired (ks ++ delayed_kinds s ds) (length ks) (sites_read names (map (delay_told n) ds)) ≡ map (read_of s names) ds
paired_from n s names ks [] = refl
paired_from n s names ks (d ∷ ds) =
    let k = unwrap_or (kind_of s d.operand) kind.Bool in
    let here : slice_index_or (ks ++ k ∷ delayed_kinds s ds) (length ks) kind.Bool ≡ k = index_here ks k (delayed_kinds s ds) in
    let on : paired (ks ++ k ∷ delayed_kinds s ds) (length ks + 1) (sites_read names (map (delay_told n) ds)) ≡ map (read_of s names) ds =
    (λ i. paired (sym (append_assoc ks (k ∷ []) (delayed_kinds s ds)) i) (sym (length-append ks (k ∷ [])) i) (sites_read names (map (delay_told n) ds)))
    ∙ paired_from n s names (ks ++ k ∷ []) ds in
    λ i. record { site = site_in names d.site d.operand; kind = here i } ∷ on i
  where
    index_here : (xs : List Kind) (x : Kind) (ys : List Kind) → slice_index_or (xs ++ x ∷ ys) (length xs) kind.Bool ≡ x
    index_here [] x ys = refl
    index_here (y ∷ xs) x ys = index_here xs x ys

-- the types of the memories of a node
pub remembered : (p : ProgramTree) (n : NodeTree) (t : ProgramTables) (own : NodeTables) (ds : List ToldDelay) (ks : List Kind)
    → scope_of (view_of t own) ≡ node_scope p n → texts own.flows ≡ flows n → ds ≡ delays_told n
    → ks ≡ delayed_kinds (scope_of (view_of t own)) (node_delays n) → kinds_beside [] (paired ks 0 (sites_read (texts own.flows) ds)) ≡ memory_kinds p n
remembered p n t own ds ks scope flow are kinds =
    (λ i. kinds_beside [] (paired (kinds i) 0 (sites_read (texts own.flows) (are i))))
    ∙ ap (kinds_beside []) (paired_from n (scope_of (view_of t own)) (texts own.flows) [] (node_delays n))
    ∙ beside_same p n (scope_of (view_of t own)) (texts own.flows) scope flow (node_delays n) [] [] (λ k. refl)
