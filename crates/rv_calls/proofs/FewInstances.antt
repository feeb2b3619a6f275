-- A list of all instances is no longer than their number.
use Rattle.std.proofs.Common.{◌≡◌, ℕ, zero, suc, ◌<◌, ◌≤◌, true, List, [], ◌∷◌, map, length, get_or, refl, sym, ◌∙◌, ap, subst, arith}
use Rattle.std.proofs.{lemmas.List.get_or_default, lemmas.List.Elements.Contains-append_right}
use Rattle.std.specs.List.{Contains}
use Rattle.rv_tree.specs.{Bounded.IsBounded, Tree.ProgramTree, Places.Identifier, Places.is_among}
use Rattle.rv_types.specs.{Instances.all_instances, Instances.name_at, Names.name_faults, Needs.IsBefore, WellFormed.AreWell, WellFormed.AreSited}
use Rattle.rv_instances.specs.AllInstances.{names_of, AreInstances, numbered}
use Rattle.rv_instances.specs.{declared.answer.Instance.Instance as Numbered, Expanded.IsExpanded, Counts.instance_count}
use Rattle.rv_calls.specs.Reach.{HasNoRecursion}
use Rattle.rv_calls.proofs.AllInstances.{all_found, pigeonhole}
use Rattle.rv_instances.proofs.{Known.name_declared, Lists.length_map}
use Rattle.rv_types.proofs.{Members.in_map, PlaceOrders.not_itself}

-- where the elements of a list stand in another
places_in : (xs ys : List Numbered) → ((x : Numbered) → Contains xs x → Contains ys x) → List ℕ
places_in [] ys each = []
places_in (x ∷ xs) ys each = (each x (0, omega arith, refl)).0 ∷ places_in xs ys (λ y w. each y (Contains-append_right (x ∷ []) xs y w))

places_size : (xs ys : List Numbered) (each : (x : Numbered) → Contains xs x → Contains ys x) → length (places_in xs ys each) ≡ length xs
unfolding places_in
places_size [] ys each = refl
places_size (x ∷ xs) ys each = ap suc (places_size xs ys (λ y w. each y (Contains-append_right (x ∷ []) xs y w)))

place_of : (xs ys : List Numbered) (each : (x : Numbered) → Contains xs x → Contains ys x) (k : ℕ) (d : Numbered) → k < length xs
    → (get_or (places_in xs ys each) k 0 < length ys) × (get_or ys (get_or (places_in xs ys each) k 0) d ≡ get_or xs k d)
unfolding places_in
place_of [] ys each k d lt = absurd (omega (arith, lt))
place_of (x ∷ xs) ys each zero d lt = let w = each x (0, omega arith, refl) in (w.1, get_or_default ys w.0 d x w.1 ∙ w.2)
place_of (x ∷ xs) ys each (suc k) d lt = place_of xs ys (λ y w. each y (Contains-append_right (x ∷ []) xs y w)) k d (omega (arith, lt))

module _ (p : ProgramTree) (main : Identifier) (named : name_faults p ≡ []) (none : HasNoRecursion p) (declared : is_among (names_of p) main ≡ true)
    (instances : List Numbered) (are : AreInstances p main instances) where
  among : (x : Numbered) → Contains instances x → Contains (map (numbered p) (all_instances p main)) x
  among x w =
      let v = are.only x w in
      subst (Contains (map (numbered p) (all_instances p main))) (sym v.2)
      (in_map (numbered p) (all_instances p main) v.0 (all_found p main named none declared v.0 v.1))

  pub few_instances : length instances ≤ instance_count p main
  few_instances =
      let d : Numbered = record { path = []; node = 0 } in
      let size = places_size instances (map (numbered p) (all_instances p main)) among in
      let h = pigeonhole (length (map (numbered p) (all_instances p main))) (places_in instances (map (numbered p) (all_instances p main)) among)
      (λ i lt. (place_of instances (map (numbered p) (all_instances p main)) among i d (omega (arith, lt, size))).0)
      (λ i j less lt e.
      let a = place_of instances (map (numbered p) (all_instances p main)) among i d (omega (arith, less, lt, size)) in
      let b = place_of instances (map (numbered p) (all_instances p main)) among j d (omega (arith, lt, size)) in
      let same : get_or instances i d ≡ get_or instances j d = sym a.1 ∙ ap (λ k. get_or (map (numbered p) (all_instances p main)) k d) e ∙ b.1 in
      not_itself (get_or instances j d).path
      (subst (λ (x : Numbered). IsBefore x.path (get_or instances j d).path) same (are.rising i j d less (omega (arith, lt, size))))) in
      omega (arith, h, size, length_map (numbered p) (all_instances p main))

pub expanded_program : (p : ProgramTree) (main : ℕ) (instances : List Numbered) → IsBounded p → name_faults p ≡ [] → AreSited p → AreWell p → HasNoRecursion p
    → main < length p.nodes → AreInstances p (name_at p main) instances → instance_count p (name_at p main) ≤ 4000 → IsExpanded p (name_at p main) instances
expanded_program p main instances bounded named sited well none lt are few =
    let declared = name_declared p named main lt in
    let all = few_instances p (name_at p main) named none declared instances are in
    record { bounded = bounded; named = named; sited = sited; well = well; declared = declared; all = are; few = omega (arith, few, all) }
