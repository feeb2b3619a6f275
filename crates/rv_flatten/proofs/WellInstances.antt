-- What stands in the instances of a program that is not too wide is light.
use Rattle.std.proofs.Common.{◌≡◌, inl, inr, ℕ, ◌≤◌, Bool, true, false, cond, nat_lt, List, [], ◌∷◌, refl, ◌∙◌, ap, subst, arith, Option}
use Rattle.std.proofs.{lemmas.Bool.Decides.nat_tests, lemmas.List.Elements.Contains-append_left, lemmas.List.Elements.Contains-append_right}
use Rattle.std.specs.List.{Contains}
use Rattle.rv_tree.specs.{Tree.Tree, Tree.Node, Tree.Form, Tree.ProgramTree, Places.Identifier, Places.Sites}
use Rattle.rv_types.specs.Instances.{Instance, IsInstance}
use Rattle.rv_base.specs.Limits.{heaviest}
use Rattle.rv_instances.specs.Weights.{weight, too_wide, weighed, IsTooWide}
use Rattle.rv_flatten.proofs.Standing.{Stands, stands_weighed}
use Rattle.rv_types.proofs.{Members.at_head, Members.cons_cases, Members.nothing_in, ChainLaws.no_flag}

-- an expression above the limit is told
too_wide_told : (w : Tree → ℕ) (es : List Tree) (at : ℕ) (site : Option ℕ) (form : Form) → Contains es (Node at site form)
    → nat_lt heaviest (w (Node at site form)) ≡ true → Contains (too_wide w es) at
too_wide_told w [] at site form v e = nothing_in (Node at site form) v
too_wide_told w (Node a s f ∷ es) at site form v e = elim (cons_cases (Node a s f) es (Node at site form) v) [
  | inl is ↦ Contains-append_left (cond (nat_lt heaviest (w (Node a s f))) (a ∷ []) []) (too_wide w es) at
      (here (nat_lt heaviest (w (Node a s f))) is (ap (λ t. nat_lt heaviest (w t)) is ∙ e))
  | inr rest ↦ Contains-append_right (cond (nat_lt heaviest (w (Node a s f))) (a ∷ []) []) (too_wide w es) at (too_wide_told w es at site form rest e)
]
  where
    here : (b : Bool) → Node a s f ≡ Node at site form → b ≡ true → Contains (cond b (a ∷ []) []) at
    here true is e = subst (λ k. Contains (k ∷ []) at) (let same : at ≡ a = cc in same) (at_head at [])
    here false is e = no_flag e

-- what stands in an instance is light where nothing is too wide
pub is_light : (program : ProgramTree) (main : Identifier) (flows : Sites → ℕ) → ((at : ℕ) → IsTooWide program main flows at → ⊥) → (i : Instance) (e : Tree)
    → IsInstance program main i → Stands i.node e → weight program flows i e ≤ heaviest
is_light program main flows none i (Node at site form) of s = by (nat_lt heaviest (weight program flows i (Node at site form))) refl
  where
    by : (b : Bool) → nat_lt heaviest (weight program flows i (Node at site form)) ≡ b → weight program flows i (Node at site form) ≤ heaviest
    by true e = absurd (none at (inr (
      i,
      of,
      too_wide_told (weight program flows i) (weighed i.node) at site form (stands_weighed i.node (Node at site form) s)
          e,
    )))
    by false e = light (weight program flows i (Node at site form)) e
      where
        light : (n : ℕ) → nat_lt heaviest n ≡ false → n ≤ heaviest
        light n e = grind (arith, nat_tests, e)
