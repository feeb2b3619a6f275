-- Trees of which it is a truth that they are equal are equal.
use Rattle.std.proofs.Common.{◌≡◌, ℕ, List, [], refl, ap, arith, Option}
use Rattle.std.proofs.{Math.Logic.∥∥₁_elim, Math.Logic.∥∥₁_map, Props.props}
use Rattle.rv_tree.specs.Tree.{Tree, Node, Form, True, False, Number, Named, Not, Minus, Pre, Current, When, Binary, If, AtMostOne, Call, Trees, None, More}
use Rattle.rv_tree.specs.{declared.tree.Name.Name, declared.tree.Op.Op, declared.tree.Op.TheVariants.And}
use Rattle.rv_flatten.proofs.Searches.{refuted}

-- a number for each form
abbrev tag : Form → ℕ
tag True = 0
tag False = 1
tag (Number n) = 2
tag (Named x) = 3
tag (Not e) = 4
tag (Minus e) = 5
tag (Pre e) = 6
tag (Current e) = 7
tag (When e c) = 8
tag (Binary o a b) = 9
tag (If a b c) = 10
tag (AtMostOne es) = 11
tag (Call f es) = 12

-- the parts of trees and forms, with something for those that have none
abbrev offset : Tree → ℕ
offset (Node at site form) = at

abbrev site_in : Tree → Option ℕ
site_in (Node at site form) = site

abbrev form_in : Tree → Form
form_in (Node at site form) = form

abbrev number_in : Form → ℕ
number_in (Number n) = n
number_in _ = 0

abbrev text_in : Form → List ℕ
text_in (Named x) = x
text_in (Call f es) = f
text_in _ = []

abbrev name_in : Name → Form → Name
name_in d (When e c) = c
name_in d _ = d

abbrev op_in : Form → Op
op_in (Binary o a b) = o
op_in _ = And

abbrev first_in : Tree → Form → Tree
first_in d (Not e) = e
first_in d (Minus e) = e
first_in d (Pre e) = e
first_in d (Current e) = e
first_in d (When e c) = e
first_in d (Binary o a b) = a
first_in d (If a b c) = a
first_in d _ = d

abbrev second_in : Tree → Form → Tree
second_in d (Binary o a b) = b
second_in d (If a b c) = b
second_in d _ = d

abbrev third_in : Tree → Form → Tree
third_in d (If a b c) = c
third_in d _ = d

abbrev trees_in : Form → Trees
trees_in (AtMostOne es) = es
trees_in (Call f es) = es
trees_in _ = None

abbrev head_in : Tree → Trees → Tree
head_in d None = d
head_in d (More e es) = e

abbrev tail_in : Trees → Trees
tail_in None = None
tail_in (More e es) = es

abbrev length_in : Trees → ℕ
length_in None = 0
length_in (More e es) = 1

mutual
  pub same_tree : (a b : Tree) → ∥ a ≡ b ∥₁ → a ≡ b
  same_tree (Node at site form) (Node at' site' form') t =
      let offsets : at ≡ at' = ∥∥₁_elim t (hlevel props) (ap offset) in
      let sites : site ≡ site' = ∥∥₁_elim t (hlevel props) (ap site_in) in
      let forms : form ≡ form' = same_form form form' (∥∥₁_map t (ap form_in)) in
      λ i. Node (offsets i) (sites i) (forms i)

  same_form : (f g : Form) → ∥ f ≡ g ∥₁ → f ≡ g
  same_form True True t = refl
  same_form False False t = refl
  same_form (Number m) (Number n) t = let numbers : m ≡ n = ∥∥₁_elim t (hlevel props) (ap number_in) in ap Number numbers
  same_form (Named x) (Named y) t = let texts : x ≡ y = ∥∥₁_elim t (hlevel props) (ap text_in) in ap Named texts
  same_form (Not a) (Not b) t = ap Not (same_tree a b (∥∥₁_map t (ap (first_in a))))
  same_form (Minus a) (Minus b) t = ap Minus (same_tree a b (∥∥₁_map t (ap (first_in a))))
  same_form (Pre a) (Pre b) t = ap Pre (same_tree a b (∥∥₁_map t (ap (first_in a))))
  same_form (Current a) (Current b) t = ap Current (same_tree a b (∥∥₁_map t (ap (first_in a))))
  same_form (When a c) (When b d) t =
      let names : c ≡ d = ∥∥₁_elim t (hlevel props) (ap (name_in c)) in
      let firsts = same_tree a b (∥∥₁_map t (ap (first_in a))) in
      λ i. When (firsts i) (names i)
  same_form (Binary o a b) (Binary p c d) t =
      let operators : o ≡ p = ∥∥₁_elim t (hlevel props) (ap op_in) in
      let firsts = same_tree a c (∥∥₁_map t (ap (first_in a))) in
      let seconds = same_tree b d (∥∥₁_map t (ap (second_in b))) in
      λ i. Binary (operators i) (firsts i) (seconds i)
  same_form (If a b c) (If d e f) t =
      let firsts = same_tree a d (∥∥₁_map t (ap (first_in a))) in
      let seconds = same_tree b e (∥∥₁_map t (ap (second_in b))) in
      let thirds = same_tree c f (∥∥₁_map t (ap (third_in c))) in
      λ i. If (firsts i) (seconds i) (thirds i)
  same_form (AtMostOne es) (AtMostOne fs) t = ap AtMostOne (same_trees es fs (∥∥₁_map t (ap trees_in)))
  same_form (Call f es) (Call g fs) t =
      let texts : f ≡ g = ∥∥₁_elim t (hlevel props) (ap text_in) in
      let arguments = same_trees es fs (∥∥₁_map t (ap trees_in)) in
      λ i. Call (texts i) (arguments i)
  same_form _ _ t = refuted t (λ e. let tags = ap tag e in omega (arith, tags))

  same_trees : (es fs : Trees) → ∥ es ≡ fs ∥₁ → es ≡ fs
  same_trees None None t = refl
  same_trees (More e es) (More f fs) t =
      let heads = same_tree e f (∥∥₁_map t (ap (head_in e))) in
      let tails = same_trees es fs (∥∥₁_map t (ap tail_in)) in
      λ i. More (heads i) (tails i)
  same_trees _ _ t = refuted t (λ e. let lengths = ap length_in e in omega (arith, lengths))
