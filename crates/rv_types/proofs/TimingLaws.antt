-- The clocks of a node, by its tables.
use Rattle.std.proofs.Common.{◌≡◌, suc, ◌<◌, ◌^◌, Bool, cond, List, [], ◌∷◌, ◌++◌, length, map, Option, Some, refl, sym, ap, ◌∙◌, arith, length-append}
use Rattle.std.proofs.Common.{None as Nothing}
use Rattle.std.proofs.lemmas.List.{length-map}
use Rattle.rv_tree.specs.{declared.tree.Name.Name, declared.tree.Decl.Decl, Tree.NodeTree, Places.flows, Places.names, Places.index_of, Places.site_of}
use Rattle.rv_types.specs.{declared.typed.Clock.Clock, declared.typed.Clock.TheVariants.On}
use Rattle.rv_types.specs.{declared.fault.NameFault.TheVariants.ClockClash, Names.texts, Clocks.flow_clocks, Clocks.base_clock, Clocks.declared_clock}
use Rattle.rv_types.specs.{Clocks.chain_clash, Chains.follow, Chains.after, Chains.is_base, Timings.IsTiming, Timings.clock_by, Timings.EndsAt}
use Rattle.rv_types.proofs.ChainLaws.{ends_after}

-- the chain of a declared clock
pub chain_known : (n : NodeTree) (jumps : List Clock) (d : Decl) (c : Name) (b : Bool) → EndsAt n jumps → d.clock ≡ Some c
    → is_base (follow jumps (On (site_of n c.text))) ≡ b → chain_clash n d ≡ cond b [] (ClockClash c.at ∷ [])
chain_known n jumps d c b known is e =
    (λ i. chain_clash n (record d { clock = is i }))
    ∙ (λ i. cond (sym (known (On (site_of n c.text))) i) [] (ClockClash c.at ∷ [])) ∙ (λ i. cond (e i) [] (ClockClash c.at ∷ []))

pub ends_known : (n : NodeTree) (cs jumps : List Clock) → cs ≡ flow_clocks n → ((c : Clock) → is_base (follow jumps c) ≡ is_base (after cs (suc (length cs)) c))
    → EndsAt n jumps
ends_known n cs jumps is far c = far c ∙ (λ i. is_base (after (is i) (suc (length (is i))) c)) ∙ sym (ends_after n (suc (length (flow_clocks n))) c)

by_sites : (n : NodeTree) (xs : List Name) → texts xs ≡ flows n → (c : Option Name) → clock_by xs c ≡ declared_clock n c
by_sites n xs e Nothing = refl
by_sites n xs e (Some c) = λ i. On (index_of (e i) c.text)

-- the clocks of three parts
pub clocks_are : (n : NodeTree) (xs : List Name) (a b c : List Clock) → texts xs ≡ flows n → a ≡ map base_clock n.inputs → b ≡ a ++ map base_clock n.outputs
    → c ≡ b ++ map (λ d. clock_by xs d.clock) n.locals → c ≡ flow_clocks n
clocks_are n xs a b c e f g h =
    h ∙ (λ i. g i ++ map (λ d. by_sites n xs e d.clock i) n.locals) ∙ (λ i. (f i ++ map base_clock n.outputs) ++ map (λ d. declared_clock n d.clock) n.locals)

-- a clock for each flow
pub clocks_many : (n : NodeTree) → length (flow_clocks n) ≡ length (flows n)
clocks_many n = simp (length-append, length-map)

-- the tables of a node
pub timing_of : (n : NodeTree) (xs : List Name) (cs : List Clock) → texts xs ≡ flows n → length xs < 2 ^ 32 → cs ≡ flow_clocks n → IsTiming n xs cs
timing_of n xs cs names few clocks =
    let many : length xs ≡ length (flows n) = sym (length-map xs (λ x. x.text)) ∙ ap length names in
    let same : length cs ≡ length xs = ap length clocks ∙ clocks_many n ∙ sym many in
    record { names_are = names; clocks_are = clocks; few = few; few_clocks = omega arith }
