-- What is found to be needed has the same numbers as what is needed.
use Rattle.std.proofs.Common.{◌≡◌, ℕ, inl, inr, List, [], ◌∷◌, ◌++◌, unwrap_or, Option, sym, ap, subst}
use Rattle.std.proofs.lemmas.List.Elements.{Contains-append_left, Contains-append_right, Contains-append_cases}
use Rattle.std.specs.List.{Contains}
use Rattle.rv_tree.specs.Tree.{Tree, Node, Form, Named, Not, Minus, Current, When, Binary, If, AtMostOne, Call, Trees, None, More, NodeTree, ProgramTree}
use Rattle.rv_tree.specs.Tree.{tree_of}
use Rattle.rv_types.specs.{declared.typed.Clock.TheVariants.Base, declared.fault.Pace.Pace, Instances.clock_of, Instances.taken, ToldPaces.told_pace}
use Rattle.rv_instances.specs.NumberedNeeds.{IsReader, listed, clock_number, clock_of_expression, flow_number, numbers_needed, form_numbers, numbers_of_all}
use Rattle.rv_instances.specs.NumberedNeeds.{giver_numbers, node_read, numbers_of}
use Rattle.rv_instances.specs.{declared.answer.Instance.Instance as Numbered, declared.givers.Giver.Giver, declared.givers.Giver.TheVariants.Input}
use Rattle.rv_instances.specs.{declared.givers.Giver.TheVariants.Body, declared.givers.Giver.TheVariants.Output, declared.layout.Layout.Layout}
use Rattle.rv_instances.specs.{declared.reader.Reader.Reader, Layouts.Here, Layouts.IsWithin, Layouts.here_of, Layouts.node_at}
use Rattle.rv_instances.proofs.ClockBounds.{low_within, taken_low, told_low}
use Rattle.rv_sequence.specs.Needed.{needed, form_needed, needed_by_all, giver_needed}
use Rattle.rv_types.proofs.Members.{nothing_in}

-- the clock that an expression tells is a flow with a number of 32 bits
pub told_within : (r : Reader) → IsReader r → (e : Tree) (k : Pace) → k ≡ told_pace (node_read r) e → IsWithin (numbers_of r).offset (taken Base k)
told_within r is e k same =
    let n = node_read r in
    subst (IsWithin (numbers_of r).offset) (sym (ap (taken Base) same))
    (low_within n (numbers_of r).offset (taken Base (told_pace n e)) is.room (taken_low n (told_pace n e) (told_low n e)))

-- each number of a list is in another
record Among (xs ys : List ℕ) : Type 0 where
  pub each : (j : ℕ) → Contains xs j → Contains ys j

all_in : (xs : List ℕ) → Among xs xs
all_in xs = record { each = λ j w. w }

none_in : (ys : List ℕ) → Among [] ys
none_in ys = record { each = λ j w. nothing_in j w }

on_left : (xs ys : List ℕ) → Among xs (xs ++ ys)
on_left xs ys = record { each = λ j w. Contains-append_left xs ys j w }

on_right : (xs ys : List ℕ) → Among ys (xs ++ ys)
on_right xs ys = record { each = λ j w. Contains-append_right xs ys j w }

onward : {xs ys zs : List ℕ} → Among xs ys → Among ys zs → Among xs zs
onward a b = record { each = λ j w. b.each j (a.each j w) }

both : {xs ys zs : List ℕ} → Among xs zs → Among ys zs → Among (xs ++ ys) zs
both {xs} {ys} {zs} a b = record { each = λ j w. elim (Contains-append_cases xs ys j w) [ inl v ↦ a.each j v | inr v ↦ b.each j v ] }

-- a list with a first part, and the same with more
wider_left : (l xs ys : List ℕ) → Among (l ++ xs) (l ++ (xs ++ ys))
wider_left l xs ys = both (on_left l (xs ++ ys)) (onward (on_left xs ys) (on_right l (xs ++ ys)))

wider_right : (l xs ys : List ℕ) → Among (l ++ ys) (l ++ (xs ++ ys))
wider_right l xs ys = both (on_left l (xs ++ ys)) (onward (on_right xs ys) (on_right l (xs ++ ys)))

turned : (l xs ys : List ℕ) → Among (ys ++ xs) (l ++ (xs ++ ys))
turned l xs ys = onward (both (on_right xs ys) (on_left xs ys)) (on_right l (xs ++ ys))

module _ (n : NodeTree) (h : Here) where
  -- two lists of what parts need, on a clock
  joined : (l xs ys : List ℕ) {ps qs : List ℕ} → Among ps (l ++ xs) → Among qs (l ++ ys) → Among (ps ++ qs) (l ++ (xs ++ ys))
  joined l xs ys a b = both (onward a (wider_left l xs ys)) (onward b (wider_right l xs ys))

  mutual
    -- what is needed is found, or the clock
    is_found : (k : Option ℕ) (e : Tree) → Among (numbers_needed n h k e) (listed k ++ needed n h e)
    is_found k (Node at site form) = both (on_left (listed k) (form_needed n h site form)) (form_found k site form)

    form_found : (k : Option ℕ) (site : Option ℕ) (form : Form) → Among (form_numbers n h k site form) (listed k ++ form_needed n h site form)
    form_found k site (Named x) = on_right (listed k) (listed (flow_number n h x))
    form_found k site (Not e) = is_found k e
    form_found k site (Minus e) = is_found k e
    form_found k site (Current e) =
        let c = clock_number h (clock_of_expression n e) in onward (is_found c e) (turned (listed k) (needed n h e) (listed c))
    form_found k site (When e x) =
        let c = clock_number h (clock_of n x.text) in onward (is_found c e) (turned (listed k) (needed n h e) (listed c))
    form_found k site (Binary o a b) = joined (listed k) (needed n h a) (needed n h b) (is_found k a) (is_found k b)
    form_found k site (If a b c) =
        joined (listed k) (needed n h a) (needed n h b ++ needed n h c) (is_found k a)
        (joined (listed k) (needed n h b) (needed n h c) (is_found k b) (is_found k c))
    form_found k site (AtMostOne es) = all_found k es
    form_found k site (Call f args) = on_right (listed k) (h.output (unwrap_or site 0) ∷ [])
    form_found k site _ = none_in (listed k ++ [])

    all_found : (k : Option ℕ) (es : Trees) → Among (numbers_of_all n h k es) (listed k ++ needed_by_all n h es)
    all_found k None = none_in (listed k ++ [])
    all_found k (More e es) = joined (listed k) (needed n h e) (needed_by_all n h es) (is_found k e) (all_found k es)

  -- the clock is needed
  own_clock : (k : Option ℕ) (e : Tree) → Among (listed k) (numbers_needed n h k e)
  own_clock k (Node at site form) = on_left (listed k) (form_numbers n h k site form)

  apart : (ps qs : List ℕ) {xs ys : List ℕ} → Among xs ps → Among ys qs → Among (xs ++ ys) (ps ++ qs)
  apart ps qs a b = both (onward a (on_left ps qs)) (onward b (on_right ps qs))

  mutual
    -- what is found is needed
    is_needed : (k : Option ℕ) (e : Tree) → Among (needed n h e) (numbers_needed n h k e)
    is_needed k (Node at site form) = onward (form_is_needed k site form) (on_right (listed k) (form_numbers n h k site form))

    form_is_needed : (k : Option ℕ) (site : Option ℕ) (form : Form) → Among (form_needed n h site form) (form_numbers n h k site form)
    form_is_needed k site (Named x) = all_in (listed (flow_number n h x))
    form_is_needed k site (Not e) = is_needed k e
    form_is_needed k site (Minus e) = is_needed k e
    form_is_needed k site (Current e) = let c = clock_number h (clock_of_expression n e) in both (is_needed c e) (own_clock c e)
    form_is_needed k site (When e x) = let c = clock_number h (clock_of n x.text) in both (is_needed c e) (own_clock c e)
    form_is_needed k site (Binary o a b) = apart (numbers_needed n h k a) (numbers_needed n h k b) (is_needed k a) (is_needed k b)
    form_is_needed k site (If a b c) =
        apart (numbers_needed n h k a) (numbers_needed n h k b ++ numbers_needed n h k c) (is_needed k a)
        (apart (numbers_needed n h k b) (numbers_needed n h k c) (is_needed k b) (is_needed k c))
    form_is_needed k site (AtMostOne es) = all_needed k es
    form_is_needed k site (Call f args) = all_in (h.output (unwrap_or site 0) ∷ [])
    form_is_needed k site _ = none_in []

    all_needed : (k : Option ℕ) (es : Trees) → Among (needed_by_all n h es) (numbers_of_all n h k es)
    all_needed k None = none_in []
    all_needed k (More e es) = apart (numbers_needed n h k e) (numbers_of_all n h k es) (is_needed k e) (all_needed k es)

module _ (p : ProgramTree) (instances : List Numbered) (l : Layout) where
  giver_found : (g : Giver) → Among (giver_numbers p instances l g) (giver_needed p instances l g)
  giver_found (Input j) = none_in []
  giver_found (Body b) = is_found (node_at p instances b.instance) (here_of l b.instance) (clock_number (here_of l b.instance) b.clock) (tree_of b.body.now)
  giver_found (Output o) = all_in (giver_numbers p instances l (Output o))

  giver_is_needed : (g : Giver) → Among (giver_needed p instances l g) (giver_numbers p instances l g)
  giver_is_needed (Input j) = none_in []
  giver_is_needed (Body b) =
      let n = node_at p instances b.instance in
      let h = here_of l b.instance in
      let k = clock_number h b.clock in
      both (own_clock n h k (tree_of b.body.now)) (is_needed n h k (tree_of b.body.now))
  giver_is_needed (Output o) = all_in (giver_numbers p instances l (Output o))

  -- what gives a flow its value is found to need what it needs
  pub needed_found : (g : Giver) (j : ℕ) → Contains (giver_numbers p instances l g) j → Contains (giver_needed p instances l g) j
  needed_found g j w = (giver_found g).each j w

  pub found_needed : (g : Giver) (j : ℕ) → Contains (giver_needed p instances l g) j → Contains (giver_numbers p instances l g) j
  found_needed g j w = (giver_is_needed g).each j w
