-- Each flow has one giver.
use Rattle.std.proofs.Common.{◌≡◌, ℕ, ◌<◌, inl, inr, List, [], ◌∷◌, ◌++◌, length, get_or, refl, sym, ◌∙◌, ap, subst, arith}
use Rattle.std.proofs.lemmas.List.{append_assoc, get_or_append_left, get_or_default}
use Rattle.std.specs.List.{Contains}
use Rattle.rv_tree.specs.Places.{Identifier, Sites, flows, names, site_of, index_of}
use Rattle.rv_tree.specs.{declared.tree.Decl.Decl, Tree.Tree, Tree.Trees, Tree.NodeTree, Tree.ProgramTree}
use Rattle.rv_types.specs.Instances.{CallTree, calls, Right, Body, IsRight, IsArgument, head, tail, Instance, place, clock_of, clock_of_arguments, callee}
use Rattle.rv_types.specs.Instances.{main_instance, IsInstance, is_main, is_callee, IsFlow}
use Rattle.rv_types.specs.{WellFormed.IsWellFormed, Needs.Giver, Needs.Given, Needs.Of, Needs.Gives, Needs.given, Needs.by_equation, Needs.by_call}
use Rattle.rv_instances.specs.{declared.answer.Instance.Instance as Numbered, Expanded.IsExpanded}
use Rattle.rv_instances.proofs.{ExpandedLaws.node_in, ExpandedLaws.same, Flowing.site_there, FlowPlaces.not_empty, FlowPlaces.snoc_parts, Lists.length_map}
use Rattle.rv_types.proofs.WellNodes.{index_front}

-- an argument of a number is one
pub one_argument : (es : Trees) (j : ℕ) (d e : Tree) → IsArgument es j d → IsArgument es j e → d ≡ e
one_argument _ _ d _ (head {es = es}) head = refl
one_argument _ _ d e (tail {es = es} {j = j} v) (tail w) = one_argument es j d e v w

-- the site of an output or argument of a call
split_site : (path : Sites) (c j : ℕ) → path ++ c ∷ j ∷ [] ≡ (path ++ c ∷ []) ++ j ∷ []
split_site path c j = sym (append_assoc path (c ∷ []) (j ∷ []))

-- inputs come first among the flows
inputs_first : (n : NodeTree) → flows n ≡ names n.inputs ++ (names n.outputs ++ names n.locals)
inputs_first n = append_assoc (names n.inputs) (names n.outputs) (names n.locals)

-- the site of an input is below their number
input_site : (n : NodeTree) (x : Identifier) → Contains (names n.inputs) x → site_of n x < length n.inputs
input_site n x w =
    let at = ap (λ (l : List Identifier). index_of l x) (inputs_first n) in
    let size = length_map (λ (d : Decl). d.name.text) n.inputs in
    omega (arith, at, index_front (names n.inputs) (names n.outputs ++ names n.locals) x w, size)

-- and what has such a site is an input
site_input : (n : NodeTree) (x : Identifier) → Contains (flows n) x → site_of n x < length n.inputs → Contains (names n.inputs) x
site_input n x w lt =
    let size = length_map (λ (d : Decl). d.name.text) n.inputs in
    let within : site_of n x < length (names n.inputs) = omega (arith, lt, size) in
    let there = site_there n x w in (
      site_of n x,
      within,
      sym (ap (λ (l : List Identifier). get_or l (site_of n x) x) (inputs_first n)
          ∙ get_or_append_left (names n.inputs) (names n.outputs ++ names n.locals) x (site_of n x) within)
          ∙ get_or_default (flows n) (site_of n x) x [] there.0 ∙ there.1,
    )

module _ (p : ProgramTree) (main : Identifier) (instances : List Numbered) (known : IsExpanded p main instances) where
  formed : (i : Instance) → IsInstance p main i → IsWellFormed p i.node
  formed i is = known.well.formed i.node (node_in p main instances known i is)

  -- an input has no right side
  no_right : (i : Instance) (x : Identifier) (r : Right) → IsInstance p main i → IsRight i.node x r → site_of i.node x < length i.node.inputs → ⊥
  no_right i x r is right lt = let l = (formed i is).left x r right in l.1 (site_input i.node x l.0 lt)

  -- each flow has a giver
  pub flow_giver : (q : Sites) → IsFlow p main q → (f : Giver) × Gives p main q f
  flow_giver q (i, x, inst, w, e) = elim ((formed i inst).given_or_defined x w) [
    | inl input ↦ given_input i x inst input e
    | inr v ↦ (Of i (clock_of i.node x) v.0, by_equation i x v.0 inst v.1 (sym e))
  ]
    where
      given_input : (i : Instance) (x : Identifier) → IsInstance p main i → Contains (names i.node.inputs) x → q ≡ place i x → (f : Giver) × Gives p main q f
      given_input _ x is_main input e = let n = (main_instance p main).node in (Given (site_of n x), given (site_of n x) (input_site n x input) (sym e))
      given_input _ x (is_callee {i = j} c is v) input e =
          let k = site_of (callee p j c).node x in
          let arg = (formed j is).enough c k v (input_site (callee p j c).node x input) in
          (Of j (clock_of_arguments j c.args) (Body arg.0), by_call j c k arg.0 is v arg.1 (split_site j.path c.site k ∙ sym e))

  -- an input is no right side
  not_input : (i a : Instance) (x : Identifier) (r : Right) (j : ℕ) → IsInstance p main i → IsRight i.node x r → IsInstance p main a → j < length a.node.inputs
      → place i x ≡ a.path ++ j ∷ [] → ⊥
  not_input i a x r j is right js lt e =
      let parts = snoc_parts i.path a.path (site_of i.node x) j e in
      let size = ap (λ (b : Instance). length b.node.inputs) (same p main instances known a i js is (sym parts.0)) in
      no_right i x r is right (omega (arith, lt, size, parts.1))

  not_called : (j : ℕ) (path : Sites) (c k : ℕ) → j ∷ [] ≡ path ++ c ∷ k ∷ [] → ⊥
  not_called j path c k e = not_empty path c [] (snoc_parts [] (path ++ c ∷ []) j k (e ∙ split_site path c k)).0

  -- an argument is no right side
  not_both : (i a : Instance) (x : Identifier) (r : Right) (c : CallTree) (j : ℕ) (d : Tree) → IsInstance p main i → IsRight i.node x r → IsInstance p main a
      → Contains (calls a.node) c → IsArgument c.args j d → place i x ≡ a.path ++ c.site ∷ j ∷ [] → ⊥
  not_both i a x r c j d is right js w arg e =
      not_input i (callee p a c) x r j is right (is_callee c js w) ((formed a js).no_more c j d w arg) (e ∙ split_site a.path c.site j)

  -- two equations of one place are one
  same_right : (i a : Instance) (x y : Identifier) (r s : Right) → IsInstance p main i → IsRight i.node x r → IsInstance p main a → IsRight a.node y s
      → place i x ≡ place a y → Of i (clock_of i.node x) r ≡ Of a (clock_of a.node y) s
  same_right i a x y r s is right js other e =
      let parts = snoc_parts i.path a.path (site_of i.node x) (site_of a.node y) e in
      let one : i ≡ a = same p main instances known i a is js parts.0 in
      let second : IsRight i.node y s = subst (λ (b : Instance). IsRight b.node y s) (sym one) other in
      let left = site_there i.node x ((formed i is).left x r right).0 in
      let left_two = site_there i.node y ((formed i is).left y s second).0 in
      let sites : site_of i.node x ≡ site_of i.node y = parts.1 ∙ ap (λ (b : Instance). site_of b.node y) (sym one) in
      let names_one : x ≡ y = sym left.1 ∙ ap (λ k. get_or (flows i.node) k []) sites ∙ left_two.1 in
      let rights : r ≡ s = (formed i is).one_right x r s right (subst (λ z. IsRight i.node z s) (sym names_one) second) in
      λ t. Of (one t) (clock_of (one t).node (names_one t)) (rights t)

  -- and so are two arguments
  same_argument : (i a : Instance) (c d : CallTree) (j k : ℕ) (e f : Tree) → IsInstance p main i → Contains (calls i.node) c → IsArgument c.args j e
      → IsInstance p main a → Contains (calls a.node) d → IsArgument d.args k f
      → i.path ++ c.site ∷ j ∷ [] ≡ a.path ++ d.site ∷ k ∷ [] → Of i (clock_of_arguments i c.args) (Body e) ≡ Of a (clock_of_arguments a d.args) (Body f)
  same_argument i a c d j k e f is w arg js v other g =
      let last = snoc_parts (i.path ++ c.site ∷ []) (a.path ++ d.site ∷ []) j k (sym (split_site i.path c.site j) ∙ g ∙ split_site a.path d.site k) in
      let parts = snoc_parts i.path a.path c.site d.site last.0 in
      let one : i ≡ a = same p main instances known i a is js parts.0 in
      let call : c ≡ d = (formed i is).sites c d w (subst (λ (b : Instance). Contains (calls b.node) d) (sym one) v) parts.1 in
      let body : e ≡ f = one_argument c.args j e f arg (subst (λ (b : CallTree). IsArgument b.args j f) (sym call)
      (subst (λ n. IsArgument d.args n f) (sym last.1) other)) in
      λ t. Of (one t) (clock_of_arguments (one t) (call t).args) (Body (body t))

  -- no flow has two givers
  pub one_giver : (q : Sites) (f g : Giver) → Gives p main q f → Gives p main q g → f ≡ g
  one_giver q _ _ (given j lt e) (given k less f) = ap Given (let same_head : j ∷ [] ≡ k ∷ [] = e ∙ sym f in ap (λ l. get_or l 0 0) same_head)
  one_giver q _ _ (given j lt e) (by_equation i x r is right f) = absurd (not_input i (main_instance p main) x r j is right is_main lt (f ∙ sym e))
  one_giver q _ _ (given j lt e) (by_call i c k d is w arg f) = absurd (not_called j i.path c.site k (e ∙ sym f))
  one_giver q _ _ (by_equation i x r is right e) (given j lt f) = absurd (not_input i (main_instance p main) x r j is right is_main lt (e ∙ sym f))
  one_giver q _ _ (by_equation i x r is right e) (by_equation a y s js other f) = same_right i a x y r s is right js other (e ∙ sym f)
  one_giver q _ _ (by_equation i x r is right e) (by_call a c j d js w arg f) = absurd (not_both i a x r c j d is right js w arg (e ∙ sym f))
  one_giver q _ _ (by_call i c j d is w arg e) (given k lt f) = absurd (not_called k i.path c.site j (f ∙ sym e))
  one_giver q _ _ (by_call a c j d js w arg e) (by_equation i x r is right f) = absurd (not_both i a x r c j d is right js w arg (f ∙ sym e))
  one_giver q _ _ (by_call i c j d is w arg e) (by_call a b k f js v other g) = same_argument i a c b j k d f is w arg js v other (e ∙ sym g)
