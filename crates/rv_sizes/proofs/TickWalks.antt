-- The clocks that tick in a node, found among its operators and calls.
use Rattle.std.proofs.Common.{◌≡◌, ℕ, suc, ◌+◌, ◌<◌, Bool, true, false, cond, not, ◌||◌, nat_eq, List, [], ◌∷◌, ◌++◌, length, get_or, map, flat_map, drop}
use Rattle.std.proofs.Common.{drop-cons, refl, sym, ◌∙◌, ap, arith}
use Rattle.std.proofs.lemmas.Grind.{flat_map-append}
use Rattle.std.specs.List.{Contains}
use Rattle.rv_tree.specs.declared.tree.Op.TheVariants as op
use Rattle.rv_tree.specs.{Places.Identifier, Tree.Tree, Tree.Node, Tree.Binary, Tree.NodeTree, Tree.ProgramTree}
use Rattle.rv_types.specs.Instances.{CallTree, calls, taken, node_of}
use Rattle.rv_types.specs.{declared.typed.Clock.Clock, declared.typed.Clock.TheVariants.Base, declared.typed.Clock.TheVariants.On, Clocks.pace}
use Rattle.rv_types.specs.{Clocks.pace_of_all, Variables.is_in, Variables.is_arrow, Variables.node_parts}
use Rattle.rv_instances.specs.{Expanded.ToldCall, Expanded.call_told, Expanded.calls_told, Timed.ToldOperator, Timed.own_operator, Timed.operators_told}
use Rattle.rv_instances.proofs.TimedParts.{node_operators}
use Rattle.rv_sizes.specs.Ticks.{arrows, has_base, sites_of_clocks, ticking, ticking_where}
use Rattle.rv_sizes.specs.TickWalk.{arrow_told, handed_told, is_new_site, with_clock}
use Rattle.rv_sizes.proofs.Remembered.{in_append, swapped}
use Rattle.rv_base.proofs.Lists.{flat_map_same}

-- Different sites, counted one after the other.

in_last : (xs : List ℕ) (c k : ℕ) → is_in (xs ++ c ∷ []) k ≡ is_in (c ∷ xs) k
in_last xs c k = in_append xs (c ∷ []) k ∙ swapped (is_in xs k) (nat_eq c k)

-- only which sites have been seen matters
sites_same : (a b : List ℕ) → ((k : ℕ) → is_in a k ≡ is_in b k) → (ks : List Clock) → sites_of_clocks a ks ≡ sites_of_clocks b ks
sites_same a b same [] = refl
sites_same a b same (Base ∷ ks) = sites_same a b same ks
sites_same a b same (On c ∷ ks) =
    λ i. cond (same c i) (sites_same a b same ks i) (c ∷ sites_same (c ∷ a) (c ∷ b) (λ k. ap (λ t. nat_eq c k || t) (same k)) ks i)

-- one clock more
count_step : (seen next : List ℕ) (k : Clock) (ks : List Clock) (new : Bool) (count all : ℕ) → count + length (sites_of_clocks seen (k ∷ ks)) ≡ all
    → new ≡ is_new_site seen k → next ≡ with_clock seen k
    → cond new (count + 1) count + length (sites_of_clocks next ks) ≡ all
count_step seen next Base ks new count all so_far is at = (λ i. cond (is i) (count + 1) count + length (sites_of_clocks (at i) ks)) ∙ so_far
count_step seen next (On c) ks new count all so_far is at = (λ i. cond (is i) (count + 1) count + length (sites_of_clocks (at i) ks))
    ∙ tested (is_in seen c) so_far
  where
    tested : (b : Bool) → count + length (cond b (sites_of_clocks seen ks) (c ∷ sites_of_clocks (c ∷ seen) ks)) ≡ all
        → cond (not b) (count + 1) count + length (sites_of_clocks (cond b seen (seen ++ c ∷ [])) ks) ≡ all
    tested true e = e
    tested false e = omega (arith, ap length (sites_same (seen ++ c ∷ []) (c ∷ seen) (in_last seen c) ks), e)

pub counted_more : (ks : List Clock) (i : ℕ) (seen next : List ℕ) (new : Bool) (count all : ℕ) → i < length ks
    → count + length (sites_of_clocks seen (drop i ks)) ≡ all → new ≡ is_new_site seen (get_or ks i Base)
    → next ≡ with_clock seen (get_or ks i Base) → cond new (count + 1) count + length (sites_of_clocks next (drop (i + 1) ks)) ≡ all
counted_more ks i seen next new count all lt so_far is at =
    let d : drop i ks ≡ get_or ks i Base ∷ drop (i + 1) ks = drop-cons ks i Base lt
    ∙ (let e : suc i ≡ i + 1 = omega arith in ap (λ j. get_or ks i Base ∷ drop j ks) e) in
    count_step seen next (get_or ks i Base) (drop (i + 1) ks) new count all (ap (λ l. count + length (sites_of_clocks seen l)) (sym d) ∙ so_far) is at

-- The clocks that are found are those that tick.

module _ (n : NodeTree) where
  -- an operator that is a `->`
  arrow_here : (e : Tree) → flat_map arrow_told (own_operator n e) ≡ cond (is_arrow e) (taken Base (pace n e) ∷ []) []
  arrow_here (Node at site (Binary op.Arrow a b)) = refl
  arrow_here (Node at site form) = refl

  arrows_told : (es : List Tree) → flat_map arrow_told (flat_map (own_operator n) es) ≡ arrows n es
  arrows_told [] = refl
  arrows_told (e ∷ es) = flat_map-append arrow_told (own_operator n e) (flat_map (own_operator n) es) ∙ (λ i. arrow_here e i ++ arrows_told es i)

  calls_handed : (on_base : Identifier → Bool) (cs : List CallTree) → flat_map (handed_told on_base) (map (call_told n) cs)
      ≡ flat_map (λ (c : CallTree). cond (on_base c.name) (taken Base (pace_of_all n c.args) ∷ []) []) cs
  calls_handed on_base [] = refl
  calls_handed on_base (c ∷ cs) = ap (λ (l : List Clock). cond (on_base c.name) (taken Base (pace_of_all n c.args) ∷ []) [] ++ l) (calls_handed on_base cs)

  pub ticks_found : (on_base : Identifier → Bool) (os : List ToldOperator) (cs : List ToldCall) → os ≡ operators_told n → cs ≡ calls_told n
      → flat_map arrow_told os ++ flat_map (handed_told on_base) cs ≡ ticking_where n on_base
  ticks_found on_base os cs operators called =
      (λ i. flat_map arrow_told ((operators ∙ node_operators n) i) ++ flat_map (handed_told on_base) (called i))
      ∙ (λ i. arrows_told (node_parts n) i ++ calls_handed on_base (calls n) i)

  -- where it is known which nodes that are called have a tick on their base clock
  pub ticks_known : (on_base : Identifier → Bool) (p : ProgramTree) (levels : ℕ)
      → ((c : CallTree) → Contains (calls n) c → on_base c.name ≡ has_base (ticking p levels (node_of p c.name)))
      → ticking_where n on_base ≡ ticking p (suc levels) n
  ticks_known on_base p levels known =
      ap (λ (ks : List Clock). arrows n (node_parts n) ++ ks)
      (flat_map_same (λ (c : CallTree). cond (on_base c.name) (taken Base (pace_of_all n c.args) ∷ []) [])
      (λ (c : CallTree). cond (has_base (ticking p levels (node_of p c.name))) (taken Base (pace_of_all n c.args) ∷ []) []) (calls n)
      (λ c w. ap (λ b. cond b (taken Base (pace_of_all n c.args) ∷ []) []) (known c w)))
