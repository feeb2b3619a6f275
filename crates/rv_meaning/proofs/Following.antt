-- At the state that a history brings to an instant, each expression has what it has in the history.
use Rattle.std.proofs.Common.{◌≡◌, ℕ, ◌+◌, ◌-ℤ◌, pos, ◌<◌, ◌↔◌, not, cond, nat_le, List, [], ◌∷◌, ◌++◌, refl, sym, ◌∙◌, ap, subst, true, get_or, ◌⊎◌, Option}
use Rattle.std.proofs.Common.{Some, None as Nothing}
use Rattle.std.specs.FinMap as map
use Rattle.std.specs.List.{Contains}
use Rattle.rv_base.specs.{declared.value.Value.Value, declared.value.Value.TheVariants.Flag, declared.value.Value.TheVariants.Whole}
use Rattle.rv_tree.specs.Tree.{Tree, Node, Form, Not, Minus, Pre, Current, When, Binary, If, AtMostOne, Trees, None, More, AssertionTree, ProgramTree}
use Rattle.rv_tree.specs.{Places.Identifier, Places.Sites, Delays.Delay, Delays.delays, Delays.form_delays, Delays.delays_of_all, Delays.node_delays}
use Rattle.rv_types.specs.Instances.{Right, IsRight, alone, in_order, Instance, absolute, clock_in, clock_of, clock_of_arguments, output_place, IsInstance}
use Rattle.rv_types.specs.{declared.typed.Clock.Clock, declared.typed.Clock.TheVariants.Base}
use Rattle.rv_meaning.specs.Meaning.{is_true, number, held, operate, was_there, kept_place, content, form_content, trues, value, right_value}
use Rattle.rv_meaning.specs.Instants.{State, now, form_now, trues_now, value_now, right_now, IsInstant, AllowsAt}
use Rattle.rv_meaning.specs.{Runs.History, Runs.cells, Runs.IsRun, Runs.AssertionsHold, Following.held_before, Following.IsStateAt}
use Rattle.rv_meaning.proofs.NameLemmas.{of_first, of_second}
use Rattle.rv_meaning.proofs.{OneInstant.on_there, DelayParts.of_equation, DelayParts.of_assertion, Standing.argument_stands}
use Rattle.rv_types.proofs.Members.{at_head}

module _ (program : ProgramTree) (starts : Sites → Value) (state : State) (h : History) (t : ℕ)
    (ticks : (k : Option Sites) → state.ticked k ≡ was_there (cells h) k t) (i : Instance) where
  -- the memories of these delays have their values
  abbrev pub Knows : List Delay → Type 0
  Knows ds = (d : Delay) → Contains ds d → state.kept (kept_place i d.site d.operand) ≡ held_before program starts (cells h) i d t

  mutual
    -- an expression has the same in the history and at the state
    pub followed : (e : Tree) → Knows (delays e) → content program starts (cells h) i e t ≡ now program state (get_or h t map.empty) i e
    followed (Node at site form) m = form_followed site form m

    -- by its form
    form_followed : (site : Option ℕ) (form : Form) → Knows (form_delays site form)
        → form_content program starts (cells h) i site form t ≡ form_now program state (get_or h t map.empty) i site form
    form_followed site (Not e) m = ap (λ a. Flag (not (is_true a))) (followed e m)
    form_followed site (Minus e) m = ap (λ a. Whole (pos 0 -ℤ number a)) (followed e m)
    form_followed site (Pre e) m = sym (m (record { site = site; operand = e }) (at_head _ (delays e)))
    form_followed site (Current e) m =
        let own : Delay = record { site = site; operand = e } in
        λ j. cond (on_there h t (clock_in i Base e) j) (followed e (of_second (own ∷ []) (delays e) m) j) (sym (m own (at_head own (delays e))) j)
    form_followed site (When e c) m = followed e m
    form_followed site (Binary o a b) m =
        let tick = sym (ticks (clock_in i Base (Node 0 site (Binary o a b)))) in
        λ j. operate o (not (tick j)) (followed a (of_first (delays a) (delays b) m) j) (followed b (of_second (delays a) (delays b) m) j)
    form_followed site (If a b c) m = let later = of_second (delays a) (delays b ++ delays c) m in λ j. cond
        (is_true (followed a (of_first (delays a) (delays b ++ delays c) m) j))
        (followed b (of_first (delays b) (delays c) later) j)
        (followed c (of_second (delays b) (delays c) later) j)
    form_followed site (AtMostOne es) m = ap (λ n. Flag (nat_le n 1)) (all_followed es m)
    form_followed site _ m = refl

    -- some expressions
    all_followed : (es : Trees) → Knows (delays_of_all es) → trues program starts (cells h) i es t ≡ trues_now program state (get_or h t map.empty) i es
    all_followed None m = refl
    all_followed (More e es) m = λ j.
        cond (is_true (followed e (of_first (delays e) (delays_of_all es) m) j)) 1 0 + all_followed es (of_second (delays e) (delays_of_all es) m) j

  -- and is present alike
  pub value_followed : (k : Clock) (e : Tree) → Knows (delays e) → value program starts (cells h) i k e t ≡ value_now program state (get_or h t map.empty) i k e
  value_followed k e m = λ j. cond (on_there h t (clock_in i k e) j) (Some (followed e m j)) Nothing

  -- so has a right side
  pub right_followed : (x : Identifier) (k : Clock) (r : Right) → IsRight i.node x r → Knows (node_delays i.node)
      → right_value program starts (cells h) i k r t ≡ right_now program state (get_or h t map.empty) i k r
  right_followed x k _ (alone q w is) m = value_followed k q.right (λ d inner. m d (of_equation i.node q d w inner))
  right_followed x k _ (in_order q at site f args n w is several below at_n) m = λ j. cond (on_there h t (absolute i (clock_of_arguments i args)) j)
      (Some (held (cells h t (output_place program i site f n)))) Nothing

-- an assertion with this value holds
abbrev Holds : Option Value → Type 0
Holds o = (o ≡ Nothing) ⊎ (o ≡ Some (Flag true))

module _ (program : ProgramTree) (main : Identifier) (starts : Sites → Value) (inputs : ℕ → ℕ → Value) (h : History) (t : ℕ) (state : State)
    (f : IsStateAt program main starts (cells h) t state) where
  -- the delays of each instance are known
  known : (i : Instance) → IsInstance program main i → Knows program starts state h t f.ticks i (node_delays i.node)
  known i inst d w = f.memories i d inst w

  -- the row of a run is the instant at that state
  pub instant_of_run : (n : ℕ) → IsRun program main starts inputs n h → t < n → IsInstant program main state (inputs t) (get_or h t map.empty)
  instant_of_run n run lt = record {
    places = λ p. run.history.places t p lt;
    given = λ j less. run.given t j lt less;
    equations = λ i x r inst w. run.equations t i x r lt inst w ∙ right_followed program starts state h t f.ticks i x (clock_of i.node x) r w (known i inst);
    arguments = λ i c j e inst at arg. run.arguments t i c j e lt inst at arg
        ∙ value_followed program starts state h t f.ticks i (clock_of_arguments i c.args) e
        (λ d inner. known i inst d ((argument_stands i.node c j e at arg).delays d inner));
    clocks = λ i x inst at.
        let there = run.clocks t i x lt inst at in
        let on = on_there h t (absolute i (clock_of i.node x)) in (λ some. sym on ∙ there.0 some, λ yes. there.1 (on ∙ yes));
  }

  -- the assertions have the same there
  pub assertion_alike : (i : Instance) (a : AssertionTree) → IsInstance program main i → Contains i.node.assertions a
      → value program starts (cells h) i Base a.body t ≡ value_now program state (get_or h t map.empty) i Base a.body
  assertion_alike i a inst w = value_followed program starts state h t f.ticks i Base a.body (λ d inner. known i inst d (of_assertion i.node a d w inner))

  -- so they hold alike
  pub allowed_alike : AssertionsHold program main starts h t ↔ AllowsAt program main state (get_or h t map.empty)
  allowed_alike = (
    λ holds i a inst w. subst Holds (assertion_alike i a inst w) (holds i a inst w),
    λ allows i a inst w. subst Holds (sym (assertion_alike i a inst w)) (allows i a inst w),
  )
