-- Two solutions of one rule are equal.
use Rattle.std.proofs.Common.{◌≡◌, ℕ, ◌<◌, ◌↔◌, List, [], length, refl, sym, ◌∙◌, ap, subst, arith, get_or, Option, Some, IsSome, None as Nothing}
use Rattle.std.proofs.{lemmas.List.ext_get_or, lemmas.List.get_or_default, lemmas.Cmp.nat_list_cmp_total}
use Rattle.std.specs.FinMap as map
use Rattle.std.specs.FinMap.{same_map, slice_cmp-IsAntisymmetric, nat_cmp-IsAntisymmetric}
use Rattle.rv_base.specs.declared.value.Value.{Value}
use Rattle.rv_tree.specs.{Tree.ProgramTree, Places.Identifier, Places.Sites}
use Rattle.rv_meaning.specs.{Runs.History, Runs.flat, Runs.cells, Givers.AreDefined}
use Rattle.rv_types.specs.{Instances.IsFlow, Needs.IsSequence}
use Rattle.rv_meaning.proofs.{Below.each_below, Local.AreAlike, Solutions.Rule, Solutions.IsLocal, Solutions.IsSolution}

-- two rows with the same places and the same cells answer alike
alike_at : (F : Type 0) (a b : Option (Option Value)) → IsSome a ↔ F → IsSome b ↔ F → (F → flat a ≡ flat b) → a ≡ b
alike_at F Nothing Nothing p q e = refl
alike_at F Nothing (Some b) p q e = let bad = p.1 (q.0 refl) in grind arith
alike_at F (Some a) Nothing p q e = let bad = q.1 (p.0 refl) in grind arith
alike_at F (Some a) (Some b) p q e = ap Some (e (p.0 refl))

module _ (program : ProgramTree) (main : Identifier) (made : Rule) (is_local : IsLocal program made) (defined : AreDefined program main) (sequence : List Sites)
    (ordered : IsSequence program main sequence)
    (n : ℕ) (h g : History) (p : IsSolution program main made n h) (q : IsSolution program main made n g) where
  -- the k-th flow of the sequence
  abbrev nth : ℕ → Sites
  nth k = get_or sequence k []

  -- one flow after another at the instant t
  flows : (t : ℕ) → t < n → AreAlike (cells h) (cells g) t → (k : ℕ) → k < length sequence → cells h t (nth k) ≡ cells g t (nth k)
  flows t lt alike = each_below (λ k. cells h t (nth k) ≡ cells g t (nth k)) (length sequence) (λ m less before.
      let s = defined.complete (nth m) (ordered.only m less) in
      p.has t (nth m) s.0 lt s.1
      ∙ is_local h g s.0 t alike (λ j d below. let w = ordered.after m s.0 less s.1 j d below in
      subst (λ r. cells h t r ≡ cells g t r) w.2 (before w.0 w.1))
      ∙ sym (q.has t (nth m) s.0 lt s.1))

  -- all flows at the instant t
  rows : (t : ℕ) → t < n → AreAlike (cells h) (cells g) t → get_or h t map.empty ≡ get_or g t map.empty
  rows t lt alike = same_map nat_list_cmp_total (slice_cmp-IsAntisymmetric nat_cmp-IsAntisymmetric) _ _
      (λ r. alike_at (IsFlow program main r) _ _ (p.history.places t r lt) (q.history.places t r lt)
      (λ f. let w = ordered.flows r f in
      let is : nth w.0 ≡ r = get_or_default sequence w.0 [] r w.1 ∙ w.2 in
      subst (λ r. cells h t r ≡ cells g t r) is (flows t lt alike w.0 w.1)))

  -- all instants before the last
  before : (t : ℕ) → t < n → (r : Sites) → cells h t r ≡ cells g t r
  before = each_below (λ t. (r : Sites) → cells h t r ≡ cells g t r) n (λ t lt alike r. ap (λ m. flat (map.get m r)) (rows t lt (λ s p less. alike s less p)))

  -- so the histories are equal
  pub same : h ≡ g
  same = ext_get_or map.empty h g (p.history.instants ∙ sym q.history.instants)
      (λ t lt. let less : t < n = omega (arith, p.history.instants) in rows t less (λ s p early. before s (omega arith) p))
