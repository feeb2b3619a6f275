-- The flows of a flat system as they are made.
use Rattle.std.proofs.Common.{◌≡◌, inl, inr, ℕ, ◌+◌, ◌<◌, List, [], ◌∷◌, ◌++◌, length, Some, unwrap_or, slice_get, slice_index_or, refl, sym}
use Rattle.std.proofs.Common.{◌∙◌, ap, subst, arith}
use Rattle.std.proofs.lemmas.List.{length-append, length-map}
use Rattle.std.proofs.lemmas.Option.{none-some, slice_get_within, slice_get-map, get_or_from_slice_get, slice_get-get_or}
use Rattle.std.specs.{Option.option_map, List.Contains}
use Rattle.rv_tree.specs.{Places.Identifier, Places.Sites, Places.flows, Places.site_of, Tree.ProgramTree}
use Rattle.rv_types.specs.Instances.{Instance, no_node, place, IsInstance}
use Rattle.rv_types.specs.{declared.typed.Kind.Kind, Kinds.flow_kind, Kinds.flow_kinds, Needs.Giver, Needs.Gives}
use Rattle.rv_types.specs.declared.typed.Kind.TheVariants as kind
use Rattle.rv_instances.specs.Flowing.{all_flows, flow_sites, place_at}
use Rattle.rv_instances.specs.{declared.answer.Instance.Instance as Numbered, declared.givers.Giver.Giver as Told, declared.givers.Giver.TheVariants.Input}
use Rattle.rv_instances.specs.{declared.flows.Flow.Flow, Expanded.no_instance, Givers.StandsFor, Layouts.all_places, Layouts.path_at}
use Rattle.rv_flatten.specs.{declared.given.Given.Given, Building.IsGiven, Building.IsMade, Building.kind_at, Building.program_given, Building.main_given}
use Rattle.rv_flat.specs.declared.parts.FlatFlow.{FlatFlow}
use Rattle.rv_agreement.specs.Translation.{Numbers}
use Rattle.rv_meaning.proofs.FlowSites.{kinds_many}
use Rattle.rv_flatten.proofs.{InstanceNumbers.made_of}
use Rattle.rv_instances.proofs.{FlowPlaces.snoc_parts, ExpandedLaws.instance_at, ExpandedLaws.path_is, ExpandedLaws.node_is, ExpandedLaws.same as same_instance}
use Rattle.rv_types.proofs.Members.{among_from, index_there}
use Rattle.rv_base.proofs.Lists.{contains_got, push_cases}

-- The flows so far are made, in the order of the sequence.
pub record AreMadeTo (p : ProgramTree) (main : Identifier) (numbers : Numbers) (sequence : List Sites) (n : ℕ) (fs : List FlatFlow) : Type 0 where
  pub many : length fs ≡ n
  pub each : (k : ℕ) (f : FlatFlow) → slice_get fs k ≡ Some f → IsMade p main numbers (slice_index_or sequence k []) f

module _ (p : ProgramTree) (main : Identifier) (numbers : Numbers) (sequence : List Sites) where
  pub none_made : (fs : List FlatFlow) → fs ≡ [] → AreMadeTo p main numbers sequence 0 fs
  none_made fs e = subst (AreMadeTo p main numbers sequence 0) (sym e) (record { many = refl; each = λ k f is. absurd (none-some f is) })

  pub one_made : (n : ℕ) (fs more : List FlatFlow) (f : FlatFlow) → AreMadeTo p main numbers sequence n fs → more ≡ fs ++ f ∷ []
      → IsMade p main numbers (slice_index_or sequence n []) f → AreMadeTo p main numbers sequence (n + 1) more
  one_made n fs more f are e is = subst (AreMadeTo p main numbers sequence (n + 1)) (sym e) (record {
    many = let size : length (fs ++ f ∷ []) ≡ length fs + 1 = simp (length-append) in omega (arith, are.many, size);
    each = λ k g at. elim (push_cases fs f g k at) [
      | inl there ↦ are.each k g there
      | inr last ↦ subst (IsMade p main numbers (slice_index_or sequence k [])) last.1
          (subst (λ j. IsMade p main numbers (slice_index_or sequence j []) f) (sym (last.0 ∙ are.many)) is)
    ];
  })

module _ (g : Given) (given : IsGiven g) where
  abbrev p : ProgramTree
  p = program_given g

  abbrev main : Identifier
  main = main_given g

  abbrev instances : List Numbered
  instances = g.expanded.now.instances.now

  -- what gives the flow with a number
  pub its_giver : (k : ℕ) (told : Told) → slice_get g.givers.now k ≡ Some told
      → (f : Giver) × Gives p main (place_at (all_places p instances) k) f × StandsFor p instances told f
  its_giver k told at =
      let lt = slice_get_within g.givers.now k told at in let f = given.givers.each k lt in
      (f.0, f.1, subst (λ t. StandsFor p instances t f.0) (get_or_from_slice_get g.givers.now k told (Input 0) at) (given.givers.one k f.0 lt f.1))

  -- there are as many flows as places
  pub flows_size : length (all_places p instances) ≡ length g.flows.now
  flows_size = length-map (all_flows p instances) (flow_sites instances) ∙ ap length (sym given.flows)

  -- the place of a flow
  its_place : (k : ℕ) (f : Flow) → slice_get g.flows.now k ≡ Some f → place_at (all_places p instances) k ≡ flow_sites instances f
  its_place k f at =
      get_or_from_slice_get (all_places p instances) k (flow_sites instances f) []
      (slice_get-map (flow_sites instances) (all_flows p instances) k ∙ ap (option_map (flow_sites instances))
      (ap (λ (l : List Flow). slice_get l k) (sym given.flows) ∙ at))

  -- The type of a flow is that of its name in its node.
  pub its_kind : (k : ℕ) (f : Flow) (i : Instance) (x : Identifier) → slice_get g.flows.now k ≡ Some f → IsInstance p main i → Contains (flows i.node) x
      → place_at (all_places p instances) k ≡ place i x → Some (kind_at g f) ≡ flow_kind p i.node x
  its_kind k f i x at is w same =
      let known = given.known.expanded in
      let lt : f.instance < length instances = given.of f (contains_got g.flows.now k f at) in
      let a = instance_at p main instances known f.instance lt in
      let parts = snoc_parts (path_at instances f.instance) i.path f.site (site_of i.node x) (sym (its_place k f at) ∙ same) in
      let one : a.0 ≡ i = same_instance p main instances known a.0 i a.1 is (sym (path_is p main instances known f.instance a.0 a.2) ∙ parts.0) in
      let node = node_is p main instances known f.instance a.0 a.1 a.2 ∙ ap (λ (j : Instance). j.node) one in
      let kinds : slice_index_or g.kinds.now (slice_index_or instances f.instance no_instance).node [] ≡ flow_kinds p i.node =
      ap (λ (l : List (List Kind)). slice_index_or l (slice_index_or instances f.instance no_instance).node []) given.kinds
      ∙ made_of (flow_kinds p) p.nodes (slice_index_or instances f.instance no_instance).node no_node ∙ ap (flow_kinds p) node in
      let among = index_there (flows i.node) x (among_from (flows i.node) x w) in
      let site : site_of i.node x < length (flow_kinds p i.node) = omega (arith, among.0, kinds_many p i.node) in
      let some : slice_get (flow_kinds p i.node) (site_of i.node x) ≡ Some (slice_index_or (flow_kinds p i.node) (site_of i.node x) kind.Bool)
      = slice_get-get_or (flow_kinds p i.node) (site_of i.node x) kind.Bool site in
      ap (λ (l : List Kind). Some (unwrap_or (slice_get l f.site) kind.Bool)) kinds
      ∙ ap (λ s. Some (unwrap_or (slice_get (flow_kinds p i.node) s) kind.Bool)) parts.1 ∙ ap (λ o. Some (unwrap_or o kind.Bool)) some ∙ sym some
