-- The item of a flow of an instance is on the clock of the flow.
use Rattle.std.proofs.Common.{◌≡◌, ℕ, zero, suc, ◌+◌, ◌<◌, List, [], ◌∷◌, ◌++◌, map, length, get_or, slice_get, refl, sym, ◌∙◌, ap, subst, arith, append_assoc}
use Rattle.std.proofs.Common.{length-append, Some}
use Rattle.std.proofs.{lemmas.List.length-map, lemmas.List.get_or_default, lemmas.List.get_or_append_left, lemmas.List.Elements.All-contains}
use Rattle.std.proofs.lemmas.Option.{slice_get_within}
use Rattle.std.specs.List.{All, Contains}
use Rattle.rv_tree.specs.Places.{Identifier, Sites, flows as flows_of, names, site_of, index_of}
use Rattle.rv_tree.specs.{declared.tree.Decl.Decl, Tree.NodeTree, Tree.ProgramTree}
use Rattle.rv_types.specs.Clocks.{base_clock, declared_clock, clock_at, pace}
use Rattle.rv_types.specs.Instances.{CallTree, calls, Body, Output, Instance, absolute, clock_of, clock_of_arguments, callee, main_instance, node_of}
use Rattle.rv_types.specs.Instances.{output_place, IsInstance, is_main, is_callee, IsFlow, IsNode}
use Rattle.rv_types.specs.Needs.{Giver, Gives, given, by_equation, by_call, IsAmongFirst}
use Rattle.rv_types.specs.{declared.typed.Kind.Kind, declared.typed.Clock.TheVariants.Base, Kinds.kind_in_program, Kinds.decl_kinds, WellFormed.AreWell}
use Rattle.rv_agreement.specs.Trees.{System, nth_item}
use Rattle.rv_agreement.specs.Translation.{Numbers, clock_number, giver_item, IsTranslated, IsClockOf}
use Rattle.rv_flat.proofs.PlaceNumbers.{its_number}
use Rattle.rv_instances.proofs.FlowPlaces.{snoc_parts}
use Rattle.rv_types.proofs.Suiting.{suits_taken}
use Rattle.rv_meaning.proofs.{Acceptable.formed, Defined.same_instance}
use Rattle.rv_types.proofs.Members.{among_from, index_there}

-- inputs and outputs are on the base clock
all_base : (ds es : List Decl) (m : ℕ) → get_or (map base_clock ds ++ map base_clock es) m Base ≡ Base
all_base [] [] m = refl
all_base [] (e ∷ es) zero = refl
all_base [] (e ∷ es) (suc m) = all_base [] es m
all_base (d ∷ ds) es zero = refl
all_base (d ∷ ds) es (suc m) = all_base ds es m

pub base_at : (n : NodeTree) (m : ℕ) → m < length n.inputs + length n.outputs → clock_at n m ≡ Base
base_at n m lt =
    let long = length-append (map base_clock n.inputs) (map base_clock n.outputs) in
    let a = length-map n.inputs base_clock in let b = length-map n.outputs base_clock in
    get_or_append_left (map base_clock n.inputs ++ map base_clock n.outputs) (map (λ (d : Decl). declared_clock n d.clock) n.locals) Base m
    (omega (arith, lt, long, a, b)) ∙ all_base n.inputs n.outputs m

-- they are flows
pub given_site : (n : NodeTree) (m : ℕ) → m < length n.inputs + length n.outputs → m < length (flows_of n)
given_site n m lt =
    let f : Decl → Identifier = λ d. d.name.text in
    let both = length-append (names n.inputs) (names n.outputs) in let all = length-append (names n.inputs ++ names n.outputs) (names n.locals) in
    omega (arith, lt, length-map n.inputs f, length-map n.outputs f, length-map n.locals f, both, all)

module _ (program : ProgramTree) (main : Identifier) (well : AreWell program) (named : IsNode program main) where
  -- a flow of an instance by its site
  pub flow_there : (i : Instance) (m : ℕ) → IsInstance program main i → m < length (flows_of i.node) → IsFlow program main (i.path ++ m ∷ [])
  flow_there i m of lt =
      let x : Identifier = get_or (flows_of i.node) m [] in
      let own : site_of i.node x ≡ m = its_number (flows_of i.node) (formed program main well named i of).once m lt in
      (i, x, of, (m, lt, get_or_default (flows_of i.node) m x [] lt), ap (λ k. i.path ++ k ∷ []) (sym own))

  module _ (numbers : Numbers) where
    -- what gives a flow is on the clock of the flow
    giver_clock : (q : Sites) (g : Giver) (i : Instance) (m : ℕ) → Gives program main q g → IsInstance program main i → q ≡ i.path ++ m ∷ []
        → (giver_item program numbers g).clock ≡ clock_number numbers (absolute i (clock_at i.node m))
    giver_clock q _ i m (given j lt at) of e =
        let r = snoc_parts [] i.path j m (at ∙ e) in
        let one = same_instance program main well named (main_instance program main) i is_main of r.0 in
        sym (ap (λ c. clock_number numbers (absolute (main_instance program main) c)) (base_at (node_of program main) j (omega (arith, lt))))
        ∙ (λ t. clock_number numbers (absolute (one t) (clock_at (one t).node (r.1 t))))
    giver_clock q _ i m (by_equation a x (Body e) inst right at) of is =
        let r = snoc_parts a.path i.path (site_of a.node x) m (at ∙ is) in
        let one = same_instance program main well named a i inst of r.0 in
        ap (λ c. clock_number numbers (absolute a c)) (suits_taken (clock_of a.node x) (pace a.node e)
        ((formed program main well named a inst).body_clock x e right)) ∙ (λ t. clock_number numbers (absolute (one t) (clock_at (one t).node (r.1 t))))
    giver_clock q _ i m (by_equation a x (Output c j) inst right at) of is =
        let r = snoc_parts a.path i.path (site_of a.node x) m (at ∙ is) in
        let one = same_instance program main well named a i inst of r.0 in
        ap (λ c. clock_number numbers (absolute a c)) ((formed program main well named a inst).output_clock x c j right)
        ∙ (λ t. clock_number numbers (absolute (one t) (clock_at (one t).node (r.1 t))))
    giver_clock q _ i m (by_call a c j e inst called arg at) of is =
        let below = (formed program main well named a inst).no_more c j e called arg in
        let r = snoc_parts (a.path ++ c.site ∷ []) i.path j m (append_assoc a.path (c.site ∷ []) (j ∷ []) ∙ at ∙ is) in
        let one = same_instance program main well named (callee program a c) i (is_callee c inst called) of r.0 in
        ap (λ k. clock_number numbers (absolute a k)) (suits_taken (clock_of_arguments a c.args) (pace a.node e)
        ((formed program main well named a inst).argument_clock c j e called arg))
        ∙ sym (ap (λ k. clock_number numbers (absolute (callee program a c) k)) (base_at (node_of program c.name) j (omega (arith, below))))
        ∙ (λ t. clock_number numbers (absolute (one t) (clock_at (one t).node (r.1 t))))

    module _ (s : System) (read : IsTranslated program main numbers s) where
      abbrev pub number : Sites → ℕ
      number q = index_of numbers.flows q

      pub number_at : (q : Sites) → IsFlow program main q → (number q < length numbers.flows) × (get_or numbers.flows (number q) [] ≡ q)
      number_at q is = index_there numbers.flows q (among_from numbers.flows q (read.sequence.flows q is))

      pub number_within : (q : Sites) → IsFlow program main q → number q < length s.flows
      number_within q is = omega (arith, (number_at q is).0, read.many)

      -- the number of a place of the sequence
      pub place_number : (k : ℕ) → k < length numbers.flows → number (get_or numbers.flows k []) ≡ k
      place_number k lt = its_number numbers.flows read.sequence.once k lt

      -- what stands among the first has an earlier number
      pub among_first : (k : ℕ) (qs : List Sites) → k < length numbers.flows → All (IsAmongFirst program main numbers.flows k) qs → (q : Sites)
          → Contains qs q → IsFlow program main q → number q < k
      among_first k qs lt all q w is =
          let r = All-contains (IsAmongFirst program main numbers.flows k) qs q all w in
          omega (arith, r.1, ap number (sym r.2) ∙ place_number r.0 (omega (arith, r.1, lt)))

      -- A flow by its site is on its clock.
      pub item_clock : (i : Instance) (m : ℕ) → IsInstance program main i → m < length (flows_of i.node)
          → (nth_item s.flows (number (i.path ++ m ∷ []))).clock ≡ clock_number numbers (absolute i (clock_at i.node m))
      item_clock i m of lt =
          let q : Sites = i.path ++ m ∷ [] in
          let is = flow_there i m of lt in let r = read.flow (number q) (number_within q is) in
          ap (λ x. x.clock) r.2 ∙ giver_clock q r.0 i m (subst (λ p. Gives program main p r.0) (number_at q is).1 r.1) of refl

      -- The same by its name.
      pub clock_is : (i : Instance) (x : Identifier) → IsInstance program main i → Contains (flows_of i.node) x → IsClockOf numbers s i x
      clock_is i x of w = item_clock i (site_of i.node x) of (index_there (flows_of i.node) x (among_from (flows_of i.node) x w)).0

      -- An output of a call is on the clock of the arguments.
      pub output_clock : (i : Instance) (c : CallTree) (j : ℕ) (k : Kind) → IsInstance program main i → Contains (calls i.node) c
          → slice_get (decl_kinds program (node_of program c.name).outputs) j ≡ Some k
          → (nth_item s.flows (number (output_place program i c.site c.name j))).clock ≡ clock_number numbers (absolute i (clock_of_arguments i c.args))
      output_clock i c j k of called e =
          let n = node_of program c.name in
          let m : ℕ = length n.inputs + j in
          let within = slice_get_within (decl_kinds program n.outputs) j k e in
          let many = length-map n.outputs (λ (d : Decl). kind_in_program program d.kind) in
          let lt : m < length n.inputs + length n.outputs = omega (arith, within, many) in
          ap (λ q. (nth_item s.flows (number q)).clock) (sym (append_assoc i.path (c.site ∷ []) (m ∷ [])))
          ∙ item_clock (callee program i c) m (is_callee c of called) (given_site n m lt)
          ∙ ap (λ k. clock_number numbers (absolute (callee program i c) k)) (base_at n m lt)
