-- Items that are made by the tables of a frame are those of the program.
use Rattle.std.proofs.Common.{◌≡◌, ℕ, ◌+◌, true, List, [], ◌∷◌, ◌++◌, refl, sym, ◌∙◌, ap, subst, Option, IsSome}
use Rattle.std.specs.List.{Contains}
use Rattle.rv_base.specs.declared.value.Value.TheVariants.{Flag}
use Rattle.rv_tree.specs.{Tree.Tree, Tree.AssertionTree, Tree.ProgramTree, Tree.tree_of, Places.Identifier, Places.Sites, Delays.Delay, Delays.node_delays}
use Rattle.rv_types.specs.declared.typed.Kind.TheVariants as kind
use Rattle.rv_types.specs.Instances.{Body, Output, Instance, absolute, clock_in, output_place, IsInstance}
use Rattle.rv_types.specs.{declared.typed.Clock.TheVariants.Base, Types.kind_of, Scopes.node_scope, Scopes.constant_value, ValueTables.value_by, Lists.AreTicks}
use Rattle.rv_types.specs.{Needs.Giver, Needs.Of, Needs.Gives, Variables.node_parts}
use Rattle.rv_instances.specs.Expanded.{IsExpanded, IsKnown, program_of, main_of}
use Rattle.rv_instances.specs.Layouts.{IsHere, IsLayout, IsNumberOf, all_places, here_of, node_at}
use Rattle.rv_instances.specs.NumberedNeeds.{IsReader, clock_number as number_of_clock, node_read, numbers_of, site_in}
use Rattle.rv_instances.specs.{declared.answer.Instance.Instance as Numbered, declared.givers.BodyOf.BodyOf, declared.givers.OutputOf.OutputOf}
use Rattle.rv_instances.specs.{declared.layout.Layout.Layout, Givers.StandsFor, Weights.AreLight}
use Rattle.rv_instances.specs.declared.givers.Giver.TheVariants as told
use Rattle.rv_flatten.specs.Readings.{unplaced, presence, flow_at, raw_of, raw_giver, raw_delay, assertion_of}
use Rattle.rv_flatten.specs.Tables.{path_read, flow_read, clock_read, clock_of_read}
use Rattle.rv_flatten.specs.{declared.frame.Frame.Frame, Frames.IsFrame, Frames.IsNumbering, NodeReaders.scope_by}
use Rattle.rv_flat.specs.RawTree.{RawTree, Node, Constant, Flow, If}
use Rattle.rv_agreement.specs.Translation.{Numbers, clock_number}
use Rattle.rv_flat.proofs.TypedParts.{some_is}
use Rattle.rv_flatten.proofs.ReadItems.{is_frame, giver_clock, body_given, output_given}
use Rattle.rv_flatten.proofs.ReadTables.{path_is, clock_read_is, own_clock_is, output_is}
use Rattle.rv_flatten.proofs.{Standing.stands_in, Standing.operand_stands, Standing.as_assertion, MainNames.is_node}
use Rattle.rv_meaning.proofs.Acceptable.{typed}

-- what a layout has of an instance
abbrev pub HasNumbers : Type 0
HasNumbers = (p : ProgramTree) (main : Identifier) (instances : List Numbered) (l : Layout) (m : ℕ) (i : Instance) → IsExpanded p main instances
    → IsLayout p main instances l → IsInstance p main i → IsNumberOf p instances m i → IsHere p (all_places p instances) i (here_of l m)

module _ (law : HasNumbers) (numbers : Numbers) (x : Frame) (known : IsKnown x.expanded.now)
    (light : AreLight (program_of x.expanded.now) (main_of x.expanded.now))
    (ticks : AreTicks (program_of x.expanded.now) (main_of x.expanded.now) numbers.ticks)
    (reads : IsReader x.reader) (node : node_read x.reader ≡ node_at (program_of x.expanded.now) x.expanded.now.instances.now x.reader.instance)
    (scope : scope_by x.tables.now x.own.now ≡ node_scope (program_of x.expanded.now)
    (node_at (program_of x.expanded.now) x.expanded.now.instances.now x.reader.instance))
    (layout : IsLayout (program_of x.expanded.now) (main_of x.expanded.now) x.expanded.now.instances.now x.reader.layout.now)
    (values : value_by x.values.now ≡ constant_value (program_of x.expanded.now))
    (numbering : IsNumbering (program_of x.expanded.now) (main_of x.expanded.now) x.expanded.now.instances.now numbers x.numbering.now)
  where
    abbrev p : ProgramTree
    p = program_of x.expanded.now

    abbrev main : Identifier
    main = main_of x.expanded.now

    abbrev instances : List Numbered
    instances = x.expanded.now.instances.now

    frame : (i : Instance) → IsInstance p main i → IsNumberOf p instances x.reader.instance i → IsFrame numbers i x
    frame i of number = is_frame numbers i x known light of number reads node scope layout values numbering

    here : (i : Instance) → IsInstance p main i → IsNumberOf p instances x.reader.instance i → IsHere p (all_places p instances) i (numbers_of x.reader)
    here i of number = law p main instances x.reader.layout.now x.reader.instance i known.expanded layout of number

    -- what is made of an expression
    abbrev pub IsMadeOf : Tree → RawTree → Type 0
    IsMadeOf e made = (numbers : Numbers) (i : Instance) → IsFrame numbers i x → AreTicks p main numbers.ticks → Contains (node_parts i.node) e
        → IsSome (kind_of (node_scope p i.node) e) → made ≡ raw_of p numbers i e

    pub body_made : (b : BodyOf) (q : Sites) (g : Giver) (clock : Option ℕ) (body : RawTree) → x.reader.instance ≡ b.instance → Gives p main q g
        → StandsFor p instances (told.Body b) g → clock ≡ clock_read x (number_of_clock (numbers_of x.reader) b.clock) → IsMadeOf (tree_of b.body.now) body
        → (record { clock = clock; body = body }) ≡ raw_giver p numbers g
    body_made b q (Of i k (Body e)) clock body same gives stands clocked made =
        let g = giver_clock p main instances known.expanded q i k (Body e) gives in
        let r = body_given p main instances known.expanded q i k e gives in
        let number : IsNumberOf p instances x.reader.instance i = subst (λ m. IsNumberOf p instances m i) (sym same) stands.0 in
        let f = frame i g.0 number in
        let clock_is : clock ≡ clock_number numbers (absolute i k) = clocked ∙ ap (λ c. clock_read x (number_of_clock (numbers_of x.reader) c)) stands.1
        ∙ clock_read_is numbers i x f (here i g.0 number) k g.1 in
        let own : clock_number numbers (absolute i k) ≡ clock_number numbers (absolute i _) = ap (λ c. clock_number numbers (absolute i c)) (sym r.clock) in
        let t : tree_of b.body.now ≡ e = stands.2 in
        let body_is : body ≡ raw_of p numbers i e =
        made numbers i f ticks (subst (Contains (node_parts i.node)) (sym t) r.part) (subst (λ u. IsSome (kind_of (node_scope p i.node) u)) (sym t) r.some)
        ∙ ap (raw_of p numbers i) t in
        λ j. record { clock = (clock_is ∙ own) j; body = body_is j }
    body_made b q _ clock body same gives stands clocked made = absurd stands

    pub output_made : (o : OutputOf) (q : Sites) (g : Giver) (clock : Option ℕ) (body : RawTree) → x.reader.instance ≡ o.instance → Gives p main q g
        → StandsFor p instances (told.Output o) g → clock ≡ clock_read x (number_of_clock (numbers_of x.reader) o.clock)
        → body ≡ unplaced (Flow (flow_read x ((numbers_of x.reader).output (site_in (tree_of o.call.now)) + o.output)))
        → (record { clock = clock; body = body }) ≡ raw_giver p numbers g
    output_made o q (Of i k (Output c j)) clock body same gives stands clocked made =
        let g = giver_clock p main instances known.expanded q i k (Output c j) gives in
        let r = output_given p main instances known.expanded q i k c j gives in
        let number : IsNumberOf p instances x.reader.instance i = subst (λ m. IsNumberOf p instances m i) (sym same) stands.0 in
        let f = frame i g.0 number in let h = here i g.0 number in
        let clock_is : clock ≡ clock_number numbers (absolute i k) = clocked ∙ ap (λ c. clock_read x (number_of_clock (numbers_of x.reader) c)) stands.1
        ∙ clock_read_is numbers i x f h k g.1 in
        let own : clock_number numbers (absolute i k) ≡ clock_number numbers (absolute i _) = ap (λ c. clock_number numbers (absolute i c)) (sym r.clock) in
        let flow : flow_read x ((numbers_of x.reader).output (site_in (tree_of o.call.now)) + o.output) ≡ _ =
        (λ t. flow_read x ((numbers_of x.reader).output (site_in (stands.2 t)) + stands.3 t)) ∙ output_is numbers i x f h c j r.there r.within in
        let body_is : body ≡ unplaced (flow_at p numbers i (output_place p i c.site c.name j)) = made ∙ (λ t. unplaced (Flow (flow t))) in
        λ t. record { clock = (clock_is ∙ own) t; body = body_is t }
    output_made o q _ clock body same gives stands clocked made = absurd stands

    pub delay_made : (i : Instance) (d : Delay) (e : Tree) (clock : Option ℕ) (body : RawTree) → IsInstance p main i
        → IsNumberOf p instances x.reader.instance i → Contains (node_delays i.node) d → e ≡ d.operand
        → clock ≡ clock_read x (clock_of_read x e) → IsMadeOf e body → (record { clock = clock; body = body }) ≡ raw_delay p numbers i d
    delay_made i d e clock body of number w same clocked made =
        let t = some_is ((typed p main known.expanded.well (is_node p main known.expanded.declared) i of).delay d w) in
        let f = frame i of number in
        let clock_is : clock ≡ clock_number numbers (clock_in i Base d.operand) = clocked ∙ ap (λ u. clock_read x (clock_of_read x u)) same
        ∙ own_clock_is numbers i x f (here i of number) d.operand t.0 t.1 in
        let body_is : body ≡ raw_of p numbers i d.operand =
        made numbers i f ticks (subst (Contains (node_parts i.node)) (sym same) (stands_in i.node d.operand (operand_stands i.node d w)))
        (subst (λ u. IsSome (kind_of (node_scope p i.node) u)) (sym same) (subst IsSome (sym t.1) refl)) ∙ ap (raw_of p numbers i) same in
        λ j. record { clock = clock_is j; body = body_is j }

    pub assertion_made : (i : Instance) (a : AssertionTree) (clock : Option ℕ) (body made : RawTree) → IsInstance p main i
        → IsNumberOf p instances x.reader.instance i → Contains i.node.assertions a → clock ≡ clock_read x (clock_of_read x a.body) → IsMadeOf a.body body
        → made ≡ Node (path_read x ++ a.site ∷ []) (If (unplaced (presence clock)) body (unplaced (Constant (Flag true)))) → made ≡ assertion_of p numbers i a
    assertion_made i a clock body made of number w clocked is made_is =
        let t = (typed p main known.expanded.well (is_node p main known.expanded.declared) i of).assertion a w in
        let f = frame i of number in let h = here i of number in
        let clock_is : clock ≡ clock_number numbers (clock_in i Base a.body) = clocked ∙ own_clock_is numbers i x f h a.body kind.Bool t in
        let body_is : body ≡ raw_of p numbers i a.body = is numbers i f ticks (stands_in i.node a.body (as_assertion a w)) (subst IsSome (sym t) refl) in
        let q = path_is numbers i x f h in
        made_is ∙ (λ j. Node (q j ++ a.site ∷ []) (If (unplaced (presence (clock_is j))) (body_is j) (unplaced (Constant (Flag true)))))
