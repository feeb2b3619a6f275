-- Values of all memories by their places, where it is given what each `pre` and `current` holds, and where those of one
-- flow hold the same.
use Rattle.std.proofs.Common.{◌≡◌, ℕ, false, [], ◌∷◌, ◌++◌, refl, ◌∙◌, ap, Option, Some, None as Nothing}
use Rattle.std.proofs.lemmas.List.{append_assoc}
use Rattle.std.specs.List.{Contains}
use Rattle.rv_base.specs.{declared.value.Value.Value, declared.value.Value.TheVariants.Flag}
use Rattle.rv_tree.specs.{Tree.NodeTree, Tree.ProgramTree, Places.Identifier, Places.Sites, Places.memory_site, Delays.Delay, Delays.node_delays}
use Rattle.rv_tree.specs.Delays.{IsNumbered}
use Rattle.rv_types.specs.Instances.{CallTree, calls, Instance, main_instance, callee, IsInstance, is_main, is_callee, IsNode}
use Rattle.rv_types.specs.WellFormed.{AreWell}
use Rattle.rv_meaning.specs.Meaning.{kept_place}
use Rattle.rv_meaning.proofs.Acceptable.{node_in, formed}
use Rattle.rv_meaning.proofs.States.{first_with, found, IsName, same_memory}

module _ (program : ProgramTree) (held : Instance → Delay → Value) (of_name : Instance → Identifier → Sites → Value)
    (is_of_name : (i : Instance) (d : Delay) (x : Identifier) → IsName i.node d.operand x → held i d ≡ of_name i x (kept_place i d.site d.operand)) where
  -- the site of a delay's memory
  abbrev site_in : Instance → Delay → ℕ
  site_in i d = memory_site i.node d.site d.operand

  -- what a delay holds, if it is there
  abbrev held_by : Instance → Option Delay → Value
  held_by i Nothing = Flag false
  held_by i (Some d) = held i d

  -- what is held below a call, if it is there
  abbrev below : (Instance → Value) → Instance → Option CallTree → Value
  below rest i Nothing = Flag false
  below rest i (Some c) = rest (callee program i c)

  -- what is held at a place, by its sites from an instance on
  abbrev pub held_at : Sites → Instance → Value
  held_at [] i = Flag false
  held_at (s ∷ []) i = held_by i (first_with (site_in i) (node_delays i.node) s)
  held_at (s ∷ r ∷ rest) i = below (held_at (r ∷ rest)) i (first_with (λ (c : CallTree). c.site) (calls i.node) s)

  module _ (main : Identifier) (well : AreWell program) (named : IsNode program main) where
    -- the sites down to an instance lead to it
    leads : (i : Instance) → IsInstance program main i → (s : ℕ) (rest : Sites)
        → held_at (i.path ++ s ∷ rest) (main_instance program main) ≡ held_at (s ∷ rest) i
    leads _ is_main s rest = refl
    leads _ (is_callee {i = i} c p at) s rest =
        let f = found (λ (c : CallTree). c.site) (calls i.node) c at in
        let same : f.0 ≡ c = (formed program main well named i p).sites f.0 c f.2 at f.3 in
        ap (λ q. held_at q (main_instance program main)) (append_assoc i.path (c.site ∷ []) (s ∷ rest))
        ∙ leads i p c.site (s ∷ rest)
        ∙ ap (below (held_at (s ∷ rest)) i) f.1
        ∙ ap (λ d. held_at (s ∷ rest) (callee program i d)) same

    -- at the place of the memory of each `pre` and `current` stands what it holds, where the sites are numbered
    pub holds : ((n : NodeTree) → Contains program.nodes n → IsNumbered n) → (i : Instance) (d : Delay) → IsInstance program main i
        → Contains (node_delays i.node) d
        → held_at (kept_place i d.site d.operand) (main_instance program main) ≡ held i d
    holds numbered i d inst w =
        let f = found (site_in i) (node_delays i.node) d w in
        leads i inst (site_in i d) []
        ∙ ap (held_by i) f.1
        ∙ same_memory i.node (numbered i.node (node_in program main well named i inst)) (held i) (λ x s. of_name i x (i.path ++ s ∷ [])) (is_of_name i)
        f.0 d f.2 w f.3
