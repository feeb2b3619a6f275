-- In an accepted program each flow has exactly one source, on its own clock.
use Rattle.std.proofs.Common.{◌≡◌, ℕ, ◌<◌, ◌≤◌, ◌↔◌, true, [], ◌∷◌, ◌++◌, length, refl, sym, ◌∙◌, ap, subst, arith, get_or, ◌⊎◌, inl, inr, IsSome, subst₂}
use Rattle.std.proofs.Common.{length-append}
use Rattle.std.proofs.{lemmas.List.get_or_append_left, lemmas.List.get_or_default, lemmas.List.append_assoc, lemmas.List.length-map, lemmas.Bool.cases_order}
use Rattle.std.specs.List.{Contains}
use Rattle.rv_base.specs.declared.value.Value.{Value}
use Rattle.rv_tree.specs.{Tree.ProgramTree, Places.Identifier, Places.Sites, Places.names, Places.flows, Places.site_of}
use Rattle.rv_types.specs.Instances.{CallTree, calls, Right, Body, Output, IsRight, Instance, place, absolute, clock_of, clock_of_arguments, node_of}
use Rattle.rv_types.specs.Instances.{IsArgument, main_instance, callee, IsInstance, is_main, is_callee, IsFlow, IsNode}
use Rattle.rv_types.specs.Needs.{Giver, Given, Of, Gives, given, by_equation, by_call}
use Rattle.rv_types.specs.{Clocks.pace, WellFormed.IsWellFormed, WellFormed.AreWell}
use Rattle.rv_meaning.specs.{Meaning.Cells, Meaning.is_there, Meaning.right_value, Givers.expected, Givers.AreDefined}
use Rattle.rv_types.proofs.Suiting.{suits_taken}
use Rattle.rv_meaning.proofs.{Acceptable.formed, NameLemmas.snoc, NameLemmas.index_at, NameLemmas.arg_same, NameLemmas.masked}

module _ (program : ProgramTree) (main : Identifier) (well : AreWell program) (is_node : IsNode program main) where
  -- each instance is well formed
  wf : (i : Instance) → IsInstance program main i → IsWellFormed program i.node
  wf = formed program main well is_node

  -- the site of a name is its number
  pub site_is : (i : Instance) → IsInstance program main i → (x : Identifier) (j : ℕ) → j < length (flows i.node) → get_or (flows i.node) j [] ≡ x
      → site_of i.node x ≡ j
  site_is i inst x j lt is = let r = index_at (flows i.node) x (j, lt, get_or_default (flows i.node) j x [] lt ∙ is) in ordered (site_of i.node x) r.0 r.1
    where
      ordered : (k : ℕ) → k < length (flows i.node) → get_or (flows i.node) k [] ≡ x → k ≡ j
      ordered k less at = elim (cases_order k j) [
        | inl same ↦ same
        | inr other ↦ elim other [
          | inl below ↦ absurd ((wf i inst).once k j below lt (at ∙ sym is))
          | inr above ↦ absurd ((wf i inst).once j k above less (is ∙ sym at))
        ]
      ]

  -- an input of an instance
  abbrev input : Instance → ℕ → Identifier
  input i j = get_or (names i.node.inputs) j []

  -- there are as many names as inputs
  named : (i : Instance) → length (names i.node.inputs) ≡ length i.node.inputs
  named i = length-map i.node.inputs (λ d. d.name.text)

  -- it is among the names
  input_in : (i : Instance) (j : ℕ) → j < length i.node.inputs → Contains (names i.node.inputs) (input i j)
  input_in i j lt = let lt' : j < length (names i.node.inputs) = omega (arith, named i) in (j, lt', get_or_default (names i.node.inputs) j _ [] lt')

  -- there are no fewer flows than names of inputs
  longer : (i : Instance) → length (names i.node.inputs) ≤ length (flows i.node)
  longer i = let front = length-append (names i.node.inputs) (names i.node.outputs) in
      omega (arith, front, length-append (names i.node.inputs ++ names i.node.outputs) (names i.node.locals))

  -- nor than inputs
  more : (i : Instance) → length i.node.inputs ≤ length (flows i.node)
  more i = omega (arith, named i, longer i)

  -- the inputs are the first flows
  among_inputs : (i : Instance) (j : ℕ) → j < length (names i.node.inputs) → get_or (flows i.node) j [] ≡ get_or (names i.node.inputs) j []
  among_inputs i j lt = let long = length-append (names i.node.inputs) (names i.node.outputs) in
      get_or_append_left (names i.node.inputs ++ names i.node.outputs) (names i.node.locals) [] j (omega arith)
      ∙ get_or_append_left (names i.node.inputs) (names i.node.outputs) [] j lt

  -- so an input is the flow of its number
  flow_at : (i : Instance) (j : ℕ) → j < length i.node.inputs → get_or (flows i.node) j [] ≡ input i j
  flow_at i j lt = among_inputs i j (omega (arith, named i))

  -- it is a flow
  input_flow : (i : Instance) (j : ℕ) → j < length i.node.inputs → Contains (flows i.node) (input i j)
  input_flow i j lt = let lt' : j < length (flows i.node) = omega (arith, more i) in (j, lt', get_or_default (flows i.node) j _ [] lt' ∙ flow_at i j lt)

  -- its number is its site
  input_site : (i : Instance) → IsInstance program main i → (j : ℕ) → j < length i.node.inputs → site_of i.node (input i j) ≡ j
  input_site i inst j lt = site_is i inst (input i j) j (omega (arith, more i)) (flow_at i j lt)

  -- the call sites determine an instance
  pub same_instance : (i j : Instance) → IsInstance program main i → IsInstance program main j → i.path ≡ j.path → i ≡ j
  same_instance _ _ is_main is_main e = refl
  same_instance _ _ is_main (is_callee {i = j} d q at) e = let long = ap length e in absurd (omega (arith, long, length-append j.path (d.site ∷ [])))
  same_instance _ _ (is_callee {i = i} c p at) is_main e = let long = ap length e in absurd (omega (arith, long, length-append i.path (c.site ∷ [])))
  same_instance _ _ (is_callee {i = i} c p at) (is_callee {i = j} d q at') e =
      let r = snoc i.path j.path c.site d.site e in
      let up = same_instance i j p q r.0 in
      let one = (wf j q).sites c d (subst (λ i. Contains (calls i.node) c) up at) at' r.1 in λ k. callee program (up k) (one k)

  -- and a place determines a flow
  pub same_flow : (i j : Instance) (x y : Identifier) → IsInstance program main i → IsInstance program main j → Contains (flows i.node) x
      → Contains (flows j.node) y → place i x ≡ place j y → (i ≡ j) × (x ≡ y)
  same_flow i j x y p q at at' e =
      let r = snoc i.path j.path (site_of i.node x) (site_of j.node y) e in
      let one = same_instance i j p q r.0 in
      (one, sym (index_at (flows i.node) x at).1 ∙ (λ k. get_or (flows (one k).node) (r.1 k) []) ∙ (index_at (flows j.node) y at').1)

  -- an input is no left side
  not_input : (d i : Instance) (j : ℕ) (x : Identifier) (r : Right) → IsInstance program main d → IsInstance program main i → j < length d.node.inputs
      → IsRight i.node x r → place d (input d j) ≡ place i x → ⊥
  not_input d i j x r p q lt right e =
      let left = (wf i q).left x r right in
      let f = same_flow d i (input d j) x p q (input_flow d j lt) left.0 e in
      left.1 (subst (λ z. Contains (names i.node.inputs) z) f.1 (subst (λ (i : Instance). Contains (names i.node.inputs) (input d j)) f.0 (input_in d j lt)))

  -- the place of an input of the main node
  given_place : (j : ℕ) → j < length (node_of program main).inputs → place (main_instance program main) (input (main_instance program main) j) ≡ j ∷ []
  given_place j lt = ap (λ k. k ∷ []) (input_site (main_instance program main) is_main j lt)

  -- the place of an input of a callee
  called_place : (i : Instance) (c : CallTree) (j : ℕ) → IsInstance program main i → Contains (calls i.node) c → j < length (node_of program c.name).inputs
      → place (callee program i c) (input (callee program i c) j) ≡ i.path ++ c.site ∷ j ∷ []
  called_place i c j inst at lt = append_assoc i.path (c.site ∷ []) _ ∙ ap (λ k. i.path ++ c.site ∷ k ∷ [])
      (input_site (callee program i c) (is_callee c inst at) j lt)

  -- what has a giver is a flow
  pub flow_of_giver : (p : Sites) (g : Giver) → Gives program main p g → IsFlow program main p
  flow_of_giver p _ (given j lt is) = let m : Instance = main_instance program main in
      (m, input m j, is_main, input_flow m j lt, sym is ∙ sym (given_place j lt))
  flow_of_giver p _ (by_equation i x r inst right is) = (i, x, inst, ((wf i inst).left x r right).0, sym is)
  flow_of_giver p _ (by_call i c j e inst at arg is) =
      let lt = (wf i inst).no_more c j e at arg in
      let d : Instance = callee program i c in
      (d, input d j, is_callee c inst at, input_flow d j lt, sym is ∙ sym (called_place i c j inst at lt))

  -- each flow has a giver
  source : (p : Sites) → IsFlow program main p → (g : Giver) × Gives program main p g
  source p (i, x, inst, at, is) = of_case ((wf i inst).given_or_defined x at)
    where
      of_input : (i : Instance) → IsInstance program main i → (j : ℕ) → j < length i.node.inputs → i.path ++ j ∷ [] ≡ p → (g : Giver) × Gives program main p g
      of_input _ is_main j lt is = (_, given j lt is)
      of_input _ (is_callee {i = i} c inst at) j lt is =
          let a = (wf i inst).enough c j at lt in (_, by_call i c j a.0 inst at a.1 (sym (append_assoc i.path (c.site ∷ []) (j ∷ [])) ∙ is))

      of_case : Contains (names i.node.inputs) x ⊎ ((r : Right) × IsRight i.node x r) → (g : Giver) × Gives program main p g
      of_case (inl w) =
          let lt' : w.0 < length (flows i.node) = omega (arith, longer i, w.1) in
          let within : w.0 < length i.node.inputs = omega (arith, named i, w.1) in
          let here : get_or (flows i.node) w.0 [] ≡ x = among_inputs i w.0 w.1 ∙ get_or_default (names i.node.inputs) w.0 [] x w.1 ∙ w.2 in
          of_input i inst w.0 within (ap (λ k. i.path ++ k ∷ []) (sym (site_is i inst x w.0 lt' here)) ∙ sym is)
      of_case (inr w) = (_, by_equation i x w.0 inst w.1 (sym is))

  -- and no other
  pub one_giver : (p : Sites) (a b : Giver) → Gives program main p a → Gives program main p b → a ≡ b
  one_giver p _ _ (given j lt is) (given k lt' is') = ap Given (ap (λ l. get_or l 0 0) (is ∙ sym is'))
  one_giver p _ _ (given j lt is) (by_equation i x r inst right is') =
      absurd (not_input (main_instance program main) i j x r is_main inst lt right (given_place j lt ∙ is ∙ sym is'))
  one_giver p _ _ (given j lt is) (by_call i c k e inst at arg is') = let long = ap length (is ∙ sym is') in
      absurd (omega (arith, long, length-append i.path (c.site ∷ k ∷ [])))
  one_giver p _ _ (by_equation i x r inst right is) (given j lt is') =
      absurd (not_input (main_instance program main) i j x r is_main inst lt right (given_place j lt ∙ is' ∙ sym is))
  one_giver p _ _ (by_equation i x r inst right is) (by_equation i' x' r' inst' right' is') =
      let f = same_flow i i' x x' inst inst' ((wf i inst).left x r right).0 ((wf i' inst').left x' r' right').0 (is ∙ sym is') in
      let one = (wf i' inst').one_right x' r r' (subst (λ z. IsRight i'.node z r) f.1 (subst (λ (i : Instance). IsRight i.node x r) f.0 right)) right' in
      λ k. Of (f.0 k) (clock_of (f.0 k).node (f.1 k)) (one k)
  one_giver p _ _ (by_equation i x r inst right is) (by_call i' c j e inst' at arg is') =
      let lt = (wf i' inst').no_more c j e at arg in
      absurd (not_input (callee program i' c) i j x r (is_callee c inst' at) inst lt right (called_place i' c j inst' at lt ∙ is' ∙ sym is))
  one_giver p _ _ (by_call i c k e inst at arg is) (given j lt is') = let long = ap length (is ∙ sym is') in
      absurd (omega (arith, long, length-append i.path (c.site ∷ k ∷ [])))
  one_giver p _ _ (by_call i' c j e inst' at arg is') (by_equation i x r inst right is) =
      let lt = (wf i' inst').no_more c j e at arg in
      absurd (not_input (callee program i' c) i j x r (is_callee c inst' at) inst lt right (called_place i' c j inst' at lt ∙ is' ∙ sym is))
  one_giver p _ _ (by_call i c j e inst at arg is) (by_call i' c' j' e' inst' at' arg' is') =
      let r = snoc (i.path ++ c.site ∷ []) (i'.path ++ c'.site ∷ []) j j'
      (append_assoc i.path (c.site ∷ []) (j ∷ []) ∙ is ∙ sym is' ∙ sym (append_assoc i'.path (c'.site ∷ []) (j' ∷ []))) in
      let up = snoc i.path i'.path c.site c'.site r.0 in
      let one = same_instance i i' inst inst' up.0 in
      let call = (wf i' inst').sites c c' (subst (λ (i : Instance). Contains (calls i.node) c) one at) at' up.1 in
      let same = arg_same c'.args j' e e' (subst₂ (λ es j. IsArgument es j e) (λ k. (call k).args) r.1 arg) arg' in
      λ k. Of (one k) (clock_of_arguments (one k) (call k).args) (Body (same k))

  module _ (starts : Sites → Value) (inputs : ℕ → ℕ → Value) (h : Cells) (t : ℕ) where
    -- what the giver expects is there where the flow's clock is
    on_clock : (i : Instance) (x : Identifier) (g : Giver) → Gives program main (place i x) g → IsInstance program main i → Contains (flows i.node) x
        → IsSome (expected program starts inputs g h t) ↔ (is_there h (absolute i (clock_of i.node x)) t ≡ true)
    on_clock i x _ (given j lt is) inst at =
        let m : Instance = main_instance program main in
        let f = same_flow m i (input m j) x is_main inst (input_flow m j lt) at (given_place j lt ∙ is) in
        masked true _ (inputs t j) (ap (λ k. is_there h (absolute m k) t) (sym ((wf m is_main).base (input m j) (input_in m j lt)))
        ∙ (λ k. is_there h (absolute (f.0 k) (clock_of (f.0 k).node (f.1 k))) t))
    on_clock i x _ (by_equation i' x' r inst' right is) inst at =
        let f = same_flow i' i x' x inst' inst ((wf i' inst').left x' r right).0 at is in
        of_right r right (λ k. is_there h (absolute (f.0 k) (clock_of (f.0 k).node (f.1 k))) t)
      where
        of_right : (r : Right) → IsRight i'.node x' r → is_there h (absolute i' (clock_of i'.node x')) t ≡ is_there h (absolute i (clock_of i.node x)) t
            → IsSome (right_value program starts h i' (clock_of i'.node x') r t) ↔ (is_there h (absolute i (clock_of i.node x)) t ≡ true)
        of_right (Body e) right e' = masked _ _ _ (ap (λ k. is_there h (absolute i' k) t)
            (suits_taken (clock_of i'.node x') (pace i'.node e) ((wf i' inst').body_clock x' e right)) ∙ e')
        of_right (Output c j) right e' = masked _ _ _ (ap (λ k. is_there h (absolute i' k) t) ((wf i' inst').output_clock x' c j right) ∙ e')
    on_clock i x _ (by_call i' c j e inst' at' arg is) inst at =
        let lt = (wf i' inst').no_more c j e at' arg in
        let d : Instance = callee program i' c in
        let f = same_flow d i (input d j) x (is_callee c inst' at') inst (input_flow d j lt) at (called_place i' c j inst' at' lt ∙ is) in
        masked _ _ _ (ap (λ k. is_there h (absolute i' k) t) (suits_taken (clock_of_arguments i' c.args) (pace i'.node e)
        ((wf i' inst').argument_clock c j e at' arg))
        ∙ ap (λ k. is_there h (absolute d k) t) (sym ((wf d (is_callee c inst' at')).base (input d j) (input_in d j lt)))
        ∙ (λ k. is_there h (absolute (f.0 k) (clock_of (f.0 k).node (f.1 k))) t))

  -- each flow has one giver, on its own clock
  pub are_defined : AreDefined program main
  are_defined = record {
    complete = source;
    flow = flow_of_giver;
    one = one_giver;
    clocked = λ i x g starts inputs h t inst at gives. on_clock starts inputs h t i x g gives inst at;
  }
