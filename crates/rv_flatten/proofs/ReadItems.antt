-- What is told of givers, memories and assertions of instances, as far as flat items need it.
use Rattle.std.proofs.Common.{◌≡◌, ℕ, ◌+◌, ◌<◌, ◌≤◌, List, length, refl, sym, ◌∙◌, ap, subst, arith, length-append, IsSome}
use Rattle.std.proofs.{lemmas.List.length-map, lemmas.Option.slice_get_within}
use Rattle.std.specs.List.{Contains}
use Rattle.rv_tree.specs.Places.{Identifier, Sites, flows as flows_of, site_of}
use Rattle.rv_tree.specs.{Tree.Tree, Tree.NodeTree, Tree.ProgramTree, Bounded.most}
use Rattle.rv_types.specs.Instances.{CallTree, calls, Right, Body, Output, Instance, clock_taken as taken_clock, clock_of, clock_of_args, node_of}
use Rattle.rv_types.specs.Instances.{callee, IsInstance, is_callee, IsNode}
use Rattle.rv_types.specs.Needs.{Of, Gives, by_equation, by_call}
use Rattle.rv_types.specs.{declared.typed.Clock.Clock, declared.typed.Clock.TheVariants.Base, declared.typed.Clock.TheVariants.On, Clocks.pace}
use Rattle.rv_types.specs.{Clocks.pace_of_all, Kinds.decl_kinds, Kinds.kind_in_program}
use Rattle.rv_types.specs.{Types.kind_of, Scopes.node_scope, Scopes.constant_value, ValueTables.value_by, Variables.node_parts, WellFormed.AreWell}
use Rattle.rv_instances.specs.{declared.answer.Instance.Instance as Numbered, declared.givers.BodyOf.BodyOf, declared.givers.OutputOf.OutputOf}
use Rattle.rv_instances.specs.{declared.reader.Reader.Reader, Expanded.IsExpanded, Expanded.IsKnown, Expanded.program_of, Expanded.main_of, Layouts.IsLayout}
use Rattle.rv_instances.specs.{Layouts.IsNumberOf, Layouts.IsWithin, Layouts.node_at, NumberedNeeds.IsReader, NumberedNeeds.IsGiver, NumberedNeeds.node_read}
use Rattle.rv_instances.specs.{NumberedNeeds.numbers_of, Weights.AreLight}
use Rattle.rv_instances.specs.declared.givers.Giver.TheVariants as told
use Rattle.rv_flatten.specs.{declared.frame.Frame.Frame, Frames.IsFrame, Frames.IsNumbering, NodeReaders.scope_by}
use Rattle.rv_agreement.specs.Translation.{Numbers}
use Rattle.rv_flatten.proofs.{Standing.stands_in, Standing.body_stands, Standing.argument_stands, Standing.output_call, ClockKinds.IsTrueClock}
use Rattle.rv_flatten.proofs.{ClockKinds.clock_taken, ClockKinds.clock_is_true, ClockKinds.paces_are_true, ReadTables.clock_known, MainNames.is_node}
use Rattle.rv_instances.proofs.ExpandedLaws.{node_is}
use Rattle.rv_types.proofs.Suiting.{suits_taken}
use Rattle.rv_meaning.proofs.{Acceptable.node_in, Acceptable.formed, Acceptable.typed}

module _ (p : ProgramTree) (main : Identifier) (instances : List Numbered) (known : IsExpanded p main instances) where
  abbrev well : AreWell p
  well = known.well

  is_named : IsNode p main
  is_named = is_node p main known.declared

  -- the clock of a giver
  pub giver_clock : (q : Sites) (i : Instance) (k : Clock) (r : Right) → Gives p main q (Of i k r) → IsInstance p main i × IsTrueClock p i.node k
  giver_clock q _ _ _ (by_equation i x r of right at) = (of, clock_is_true p i.node (typed p main well is_named i of) (site_of i.node x))
  giver_clock q _ _ _ (by_call i c j e of there arg at) =
      let t = typed p main well is_named i of in
      (of, clock_taken p i.node (pace_of_all i.node c.args) (paces_are_true p i.node t c.args (λ j a arg. let u = t.argument c j a there arg in (u.0, u.1))))

  -- an expression that gives a flow its value
  pub record IsBody (i : Instance) (k : Clock) (e : Tree) : Type 0 where
    pub part : Contains (node_parts i.node) e
    pub some : IsSome (kind_of (node_scope p i.node) e)
    pub clock : taken_clock i k e ≡ k

  pub body_given : (q : Sites) (i : Instance) (k : Clock) (e : Tree) → Gives p main q (Of i k (Body e)) → IsBody i k e
  body_given q _ _ e (by_equation i x _ of right at) = record {
    part = stands_in i.node e (body_stands i.node x e right);
    some = let t = (typed p main well is_named i of).body x e right in subst IsSome (sym t.1) refl;
    clock = suits_taken (clock_of i.node x) (pace i.node e) ((formed p main well is_named i of).body_clock x e right);
  }
  body_given q _ _ _ (by_call i c j e of there arg at) = record {
    part = stands_in i.node e (argument_stands i.node c j e there arg);
    some = let t = (typed p main well is_named i of).argument c j e there arg in subst IsSome (sym t.1) refl;
    clock = suits_taken (clock_of_args i.node c.args) (pace i.node e) ((formed p main well is_named i of).argument_clock c j e there arg);
  }

  -- an output of a call that gives a flow its value
  pub record IsOutput (i : Instance) (k : Clock) (c : CallTree) (j : ℕ) : Type 0 where
    pub there : Contains (calls i.node) c
    pub within : j < length (node_of p c.name).outputs
    pub clock : clock_of_args i.node c.args ≡ k

  pub output_given : (q : Sites) (i : Instance) (k : Clock) (c : CallTree) (j : ℕ) → Gives p main q (Of i k (Output c j)) → IsOutput i k c j
  output_given q _ _ c j (by_equation i x _ of right at) =
      let t = (typed p main well is_named i of).output x c j right in
      let lt = slice_get_within (decl_kinds p (node_of p c.name).outputs) j t.0 t.1 in
      let many = length-map (node_of p c.name).outputs (λ d. kind_in_program p d.kind) in
      record {
        there = output_call i.node x c j right;
        within = omega (arith, lt, many);
        clock = (formed p main well is_named i of).output_clock x c j right;
      }

  -- it is one of few
  pub output_few : (o : OutputOf) → IsGiver p main instances (told.Output o) → o.output < most
  output_few o (q, Of i k (Output c j), gives, stands) =
      let r = output_given q i k c j gives in let of = (giver_clock q i k (Output c j) gives).0 in
      let few = known.bounded.node_flows (node_of p c.name) (node_in p main well is_named (callee p i c) (is_callee c of r.there)) in
      omega (arith, few, outputs_few (node_of p c.name), r.within, stands.3)
    where
      outputs_few : (n : NodeTree) → length n.outputs ≤ length (flows_of n)
      outputs_few n = let many : length (flows_of n) ≡ length n.inputs + length n.outputs + length n.locals = simp (length-append, length-map) in
          omega (arith, many)
  output_few o (q, _, gives, stands) = absurd stands

  -- the number of an instance that is told is one
  pub body_instance : (b : BodyOf) → IsGiver p main instances (told.Body b) → b.instance < length instances
  body_instance b (q, Of i k (Body e), gives, stands) = stands.0.0
  body_instance b (q, _, gives, stands) = absurd stands

  pub output_instance : (o : OutputOf) → IsGiver p main instances (told.Output o) → o.instance < length instances
  output_instance o (q, Of i k (Output c j), gives, stands) = stands.0.0
  output_instance o (q, _, gives, stands) = absurd stands

  -- the number of the flow of a clock has 32 bits
  clock_within : (r : Reader) (n : NodeTree) (k : Clock) → IsReader r → node_read r ≡ n → IsTrueClock p n k → IsWithin (numbers_of r).offset k
  clock_within r n Base reads is t = tt
  clock_within r n (On s) reads is t = omega (arith, clock_known p n s t, reads.room, ap (λ m. length (flows_of m)) is)

  pub body_within : (r : Reader) (b : BodyOf) → IsReader r → node_read r ≡ node_at p instances b.instance → IsGiver p main instances (told.Body b)
      → IsWithin (numbers_of r).offset b.clock
  body_within r b reads is (q, Of i k (Body e), gives, stands) =
      let g = giver_clock q i k (Body e) gives in
      subst (IsWithin (numbers_of r).offset) (sym stands.1)
      (clock_within r i.node k reads (is ∙ node_is p main instances known b.instance i g.0 stands.0.1) g.1)
  body_within r b reads is (q, _, gives, stands) = absurd stands

  pub output_within : (r : Reader) (o : OutputOf) → IsReader r → node_read r ≡ node_at p instances o.instance → IsGiver p main instances (told.Output o)
      → IsWithin (numbers_of r).offset o.clock
  output_within r o reads is (q, Of i k (Output c j), gives, stands) =
      let g = giver_clock q i k (Output c j) gives in
      subst (IsWithin (numbers_of r).offset) (sym stands.1)
      (clock_within r i.node k reads (is ∙ node_is p main instances known o.instance i g.0 stands.0.1) g.1)
  output_within r o reads is (q, _, gives, stands) = absurd stands

-- A frame that is made of what is known.
pub is_frame : (numbers : Numbers) (i : Instance) (x : Frame) → IsKnown x.expanded.now → AreLight (program_of x.expanded.now) (main_of x.expanded.now)
    → IsInstance (program_of x.expanded.now) (main_of x.expanded.now) i
    → IsNumberOf (program_of x.expanded.now) x.expanded.now.instances.now x.reader.instance i → IsReader x.reader
    → node_read x.reader ≡ node_at (program_of x.expanded.now) x.expanded.now.instances.now x.reader.instance
    → scope_by x.tables.now x.own.now ≡ node_scope (program_of x.expanded.now)
    (node_at (program_of x.expanded.now) x.expanded.now.instances.now x.reader.instance)
    → IsLayout (program_of x.expanded.now) (main_of x.expanded.now) x.expanded.now.instances.now x.reader.layout.now
    → value_by x.values.now ≡ constant_value (program_of x.expanded.now)
    → IsNumbering (program_of x.expanded.now) (main_of x.expanded.now) x.expanded.now.instances.now numbers x.numbering.now → IsFrame numbers i x
is_frame numbers i x known light of number reads node scope layout values numbering = record {
  known = known;
  light = light;
  instance = of;
  number = number;
  reader = reads;
  node = node ∙ node_is (program_of x.expanded.now) (main_of x.expanded.now) x.expanded.now.instances.now known.expanded x.reader.instance i of number.1;
  scope = scope ∙ ap (node_scope (program_of x.expanded.now)) (node_is (program_of x.expanded.now) (main_of x.expanded.now) x.expanded.now.instances.now
      known.expanded x.reader.instance i of number.1);
  layout = layout;
  values = values;
  numbering = numbering;
}
