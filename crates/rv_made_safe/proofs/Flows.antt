-- The flows of both nodes: they are Boolean flows on the base clock, and what each call gives is among those of the main node.
use Rattle.std.proofs.Common.{◌≡◌, ℕ, zero, suc, ◌<◌, ◌≤◌, inl, inr, true, List, [], ◌∷◌, ◌∙◌, refl, sym, ap, subst, map, arith}
use Rattle.std.proofs.lemmas.Bool.{cases_lt}
use Rattle.std.proofs.lemmas.List.Elements.{Contains-append_left, Contains-push, Contains-push_cases}
use Rattle.std.specs.{Prelude.codes, Prelude.Some, Prelude.None as Nothing, List.Contains}
use Rattle.rv_tree.specs.Places.{Identifier, is_flow, names, flows, site_of}
use Rattle.rv_tree.specs.{declared.tree.Decl.Decl, Tree.NodeTree, Tree.ProgramTree}
use Rattle.rv_tree.specs.declared.tree.TypeName.TheVariants as written
use Rattle.rv_types.specs.{declared.typed.Clock.Clock, declared.typed.Clock.TheVariants.Base, Names.decls, Clocks.declared_clock, Clocks.flow_clocks}
use Rattle.rv_types.specs.{Clocks.clock_at, Kinds.kind_in_program, Kinds.flow_kinds, Kinds.flow_kind}
use Rattle.rv_types.specs.declared.typed.Kind.TheVariants as kind
use Rattle.rv_meaning.proofs.NameLemmas.{none_in}
use Rattle.rv_make.specs.{Made.link_name, Chains.Offsets, Chains.boolean, Chains.link_flows, Chains.link_node, Chains.main_node}
use Rattle.rv_made_safe.proofs.Lists.{all_at}
use Rattle.rv_types.proofs.Members.{among_from, cons_cases, in_map, in_tail}
use Rattle.rv_base.proofs.Lists.{contains_got, from_map}

-- the flow of each call is declared
flow_there : (at : ℕ → ℕ) (n i : ℕ) → i < n → Contains (link_flows at n) (boolean (at i) (link_name (suc i)))
flow_there at zero i h = absurd (omega (arith, h))
flow_there at (suc n) i h =
    let newest = boolean (at n) (link_name (suc n)) in
    elim (cases_lt i n) [
      | inl before ↦ Contains-append_left (link_flows at n) (newest ∷ []) (boolean (at i) (link_name (suc i))) (flow_there at n i before)
      | inr least ↦
          let last : n ≡ i = omega arith in
          subst (λ k. Contains (link_flows at (suc n)) (boolean (at k) (link_name (suc k)))) last (Contains-push (link_flows at n) newest)
    ]

-- a Boolean flow on the base clock
pub record IsPlain (d : Decl) : Type 0 where
  pub kind : d.kind ≡ written.Bool
  pub clock : d.clock ≡ Nothing

-- such as `boolean` declares
plain_flow : (at : ℕ) (text : List ℕ) (d : Decl) → boolean at text ≡ d → IsPlain d
plain_flow at text d e = subst IsPlain e (record { kind = refl; clock = refl })

-- the flows of the calls
plain_links : (at : ℕ → ℕ) (n : ℕ) (d : Decl) → Contains (link_flows at n) d → IsPlain d
plain_links at zero d w = absurd (none_in d w)
plain_links at (suc n) d w = elim (Contains-push_cases (link_flows at n) (boolean (at n) (link_name (suc n))) d w) [
  | inl before ↦ plain_links at n d before
  | inr last ↦ plain_flow (at n) (link_name (suc n)) d last
]

-- the flows of the node `link`
pub plain_link : (at : ℕ → ℕ) (d : Decl) → Contains (decls (link_node at)) d → IsPlain d
plain_link at d w = elim (cons_cases (boolean (at 1) (codes "a")) (boolean (at 2) (codes "b") ∷ []) d w) [
  | inl is ↦ plain_flow (at 1) (codes "a") d is
  | inr later ↦ elim (cons_cases (boolean (at 2) (codes "b")) [] d later) [
    | inl is ↦ plain_flow (at 2) (codes "b") d is
    | inr none ↦ absurd (none_in d none)
  ]
]

module _ (o : Offsets) (n : ℕ) where
  -- the input, what each call gives, and what has been seen are flows of the main node
  pub is_flow-link_name : (i : ℕ) → i ≤ n → is_flow (main_node o n) (link_name i) ≡ true
  is_flow-link_name zero h = refl
  is_flow-link_name (suc i) h = among_from (flows (main_node o n)) (link_name (suc i))
      (in_tail (codes "a") (codes "ok" ∷ codes "seen" ∷ links) (link_name (suc i))
      (in_tail (codes "ok") (codes "seen" ∷ links) (link_name (suc i)) (in_tail (codes "seen") links (link_name (suc i)) there)))
    where
      links : List Identifier
      links = names (link_flows o.declared n)

      there : Contains (names (link_flows o.declared n)) (link_name (suc i))
      there =
          let flow = boolean (o.declared i) (link_name (suc i)) in
          in_map (λ (d : Decl). d.name.text) (link_flows o.declared n) flow (flow_there o.declared n i (omega arith))

  -- its flows
  pub plain_main : (d : Decl) → Contains (decls (main_node o n)) d → IsPlain d
  plain_main d w = elim (cons_cases (boolean (o.main 1) (codes "a")) (boolean (o.main 2) (codes "ok") ∷ (main_node o n).locals) d w) [
    | inl is ↦ plain_flow (o.main 1) (codes "a") d is
    | inr second ↦ elim (cons_cases (boolean (o.main 2) (codes "ok")) (main_node o n).locals d second) [
      | inl is ↦ plain_flow (o.main 2) (codes "ok") d is
      | inr third ↦ elim (cons_cases (boolean (o.main 3) (codes "seen")) (link_flows o.declared n) d third) [
        | inl is ↦ plain_flow (o.main 3) (codes "seen") d is
        | inr link ↦ plain_links o.declared n d link
      ]
    ]
  ]

  -- all of them are on the base clock
  pub clock_at-main : (k : ℕ) → clock_at (main_node o n) k ≡ Base
  clock_at-main k = all_at (flow_clocks (main_node o n)) Base base k
    where
      local : List Clock
      local = map (λ (d : Decl). declared_clock (main_node o n) d.clock) (main_node o n).locals

      base : (c : Clock) → Contains (flow_clocks (main_node o n)) c → c ≡ Base
      base c w = elim (cons_cases Base (Base ∷ local) c w) [
        | inl is ↦ sym is
        | inr second ↦ elim (cons_cases Base local c second) [
          | inl is ↦ sym is
          | inr third ↦
              let r = from_map (λ (d : Decl). declared_clock (main_node o n) d.clock) (main_node o n).locals c third in
              let plain = plain_main r.0 (in_tail (boolean (o.main 1) (codes "a")) (boolean (o.main 2) (codes "ok") ∷ (main_node o n).locals) r.0
              (in_tail (boolean (o.main 2) (codes "ok")) (main_node o n).locals r.0 r.1)) in
              sym r.2 ∙ ap (declared_clock (main_node o n)) plain.clock
        ]
      ]

-- where all flows of a node are Boolean, none is an integer
pub no_integer : (p : ProgramTree) (m : NodeTree) → ((d : Decl) → Contains (decls m) d → IsPlain d)
    → (x : Identifier) → flow_kind p m x ≡ Some kind.Int → ⊥
no_integer p m all x e =
    let r = from_map (λ (d : Decl). kind_in_program p d.kind) (decls m) kind.Int (contains_got (flow_kinds p m) (site_of m x) kind.Int e) in
    let is : kind.Bool ≡ kind.Int = ap (kind_in_program p) (sym (all r.0 r.1).kind) ∙ r.2 in
    absurd (cc)
