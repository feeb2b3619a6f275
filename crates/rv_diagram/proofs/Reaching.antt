-- A diagram that stands by itself takes at most a node for each of its nodes that the root reaches.
use Rattle.std.proofs.Common.{ℕ, zero, suc, ◌+◌, ◌-◌, ◌<◌, ◌≤◌, ◌≡◌, ◌≢◌, ◌⊎◌, Bool, true, false, cond, List, [], ◌∷◌, ◌++◌, length, refl, sym, ap, ◌∙◌, subst}
use Rattle.std.proofs.Common.{⊎_elim, arith, append_assoc}
use Rattle.std.proofs.{lemmas.Bool.cases_eq, lemmas.Bool.cases_lt, lemmas.Bool.cases_Bool, lemmas.List.length_push}
use Rattle.rv_diagram.specs.declared.Triple.{Triple}
use Rattle.rv_diagram.specs.Nodes.{Valuation, node_at, value_of, IsRef, IsReduced, IsOrdered, IsPlaced, BeginsWith, Has, IsFewest, Built, chosen}
use Rattle.rv_diagram.specs.Room.{number_in, HasReached}
use Rattle.rv_diagram.proofs.Needed.{IsNew, begins_same, length-longer, value_of-begins}
use Rattle.rv_diagram.proofs.Building.{built_there, built_equal, built_found, built_push}
use Rattle.rv_diagram.proofs.{Counting.found_or_absent, Meaning.value_of-constant, Thawing.thawed_lo, Thawing.thawed_hi, Thawing.thawed_built}

-- a reduced list with at most one node more has this meaning too
record IsOneMore (nodes : List Triple) (f : Valuation → Bool) : Type 0 where
  pub new : List Triple
  pub reduced : IsReduced new
  pub begins : BeginsWith new nodes
  pub few : length new ≤ length nodes + 1
  pub has : Has new f

begins_through : (a b c : List Triple) → BeginsWith b a → BeginsWith c b → BeginsWith c a
begins_through a b c p q = (p.0 ++ q.0, q.1 ∙ ap (λ (l : List Triple). l ++ q.0) p.1 ∙ append_assoc a p.0 q.0)

has_begins : (longer nodes : List Triple) (f : Valuation → Bool) → BeginsWith longer nodes → Has nodes f → Has longer f
has_begins longer nodes f begins has =
    (has.0, omega (arith, has.1, length-longer longer nodes begins), λ v. value_of-begins longer nodes begins has.0 has.1 v ∙ has.2 v)

more_of : (nodes new : List Triple) (f : Valuation → Bool) (r : ℕ) → Built nodes new f r → length new ≤ length nodes + 1 → IsOneMore nodes f
more_of nodes new f r built few = record { new = new; reduced = built.reduced; begins = built.grown; few = few; has = (r, built.ref, built.means) }

-- with the meanings of a node's children, that of the node
add_node : (nodes frozen : List Triple) → IsReduced nodes → IsOrdered frozen → (r : ℕ) → IsRef frozen r → 2 ≤ r
    → Has nodes (value_of frozen (node_at frozen (r - 2)).lo) → Has nodes (value_of frozen (node_at frozen (r - 2)).hi) → IsOneMore nodes (value_of frozen r)
add_node nodes frozen red ordered r ref two lo hi =
    let t : Triple = record { var = (node_at frozen (r - 2)).var; lo = lo.0; hi = hi.0 } in
    let first : Built nodes nodes (value_of frozen (node_at frozen (r - 2)).lo) lo.0 =
    built_there nodes (value_of frozen (node_at frozen (r - 2)).lo) lo.0 red lo.1 lo.2 in
    let second : Built nodes nodes (value_of frozen (node_at frozen (r - 2)).hi) hi.0 =
    built_there nodes (value_of frozen (node_at frozen (r - 2)).hi) hi.0 red hi.1 hi.2 in
    ⊎_elim
    (λ e. more_of nodes nodes (value_of frozen r) lo.0
    (thawed_built nodes nodes nodes nodes frozen ordered r lo.0 hi.0 lo.0 ref two first second (built_equal nodes t red lo.1 e)) (omega arith))
    (λ differ.
    let fresh : IsNew nodes t = record {
      differ = differ;
      lo = lo.1;
      hi = hi.1;
      lo_greater = thawed_lo nodes nodes nodes frozen ordered r lo.0 ref two first (begins_same nodes);
      hi_greater = thawed_hi nodes nodes frozen ordered r hi.0 ref two second;
    } in
    ⊎_elim
    (λ found. more_of nodes nodes (value_of frozen r) (found.0 + 2)
    (thawed_built nodes nodes nodes nodes frozen ordered r lo.0 hi.0 (found.0 + 2) ref two first second (built_found nodes t found.0 red found.1 found.2))
    (omega arith))
    (λ absent. more_of nodes (nodes ++ t ∷ []) (value_of frozen r) (length nodes + 2)
    (thawed_built nodes nodes nodes (nodes ++ t ∷ []) frozen ordered r lo.0 hi.0 (length nodes + 2) ref two first second (built_push nodes t red fresh absent))
    (omega (arith, length_push nodes t)))
    (found_or_absent nodes t))
    (cases_eq lo.0 hi.0)

-- a list with the meanings of the nodes of the set among the first n
record IsReachedTo (old frozen : List Triple) (p : ℕ → Bool) (n : ℕ) : Type 0 where
  pub new : List Triple
  pub reduced : IsReduced new
  pub begins : BeginsWith new old
  pub few : length new ≤ length old + number_in p n
  pub has : (i : ℕ) → i < n → p i ≡ true → Has new (value_of frozen (i + 2))

-- the meaning of a reference that is a constant, or a node of the set
had : (new frozen : List Triple) (p : ℕ → Bool) (n c : ℕ) → c < n + 2 → (2 ≤ c → p (c - 2) ≡ true)
    → ((i : ℕ) → i < n → p i ≡ true → Has new (value_of frozen (i + 2))) → Has new (value_of frozen c)
had new frozen p n c low inside has = ⊎_elim
    (λ lt. (c, omega arith, λ v. value_of-constant new v c lt ∙ sym (value_of-constant frozen v c lt)))
    (λ two.
    let same : c - 2 + 2 ≡ c = omega arith in
    subst (λ (k : ℕ). Has new (value_of frozen k)) same (has (c - 2) (omega arith) (inside two)))
    (cases_lt c 2)

counted : (p : ℕ → Bool) (n : ℕ) → p n ≡ true → number_in p (suc n) ≡ 1 + number_in p n
counted p n on = ap (λ (b : Bool). cond b 1 0 + number_in p n) on

passed : (p : ℕ → Bool) (n : ℕ) → p n ≡ false → number_in p (suc n) ≡ number_in p n
passed p n off = ap (λ (b : Bool). cond b 1 0 + number_in p n) off ∙ (let none : 0 + number_in p n ≡ number_in p n = omega arith in none)

extend_to : (old frozen : List Triple) (p : ℕ → Bool) (n : ℕ) → (so_far : IsReachedTo old frozen p n) → p n ≡ true
    → IsOneMore so_far.new (value_of frozen (n + 2)) → IsReachedTo old frozen p (suc n)
extend_to old frozen p n so_far on more = record {
  new = more.new;
  reduced = more.reduced;
  begins = begins_through old so_far.new more.new so_far.begins more.begins;
  few = omega (arith, counted p n on, so_far.few, more.few);
  has = λ i low inside. ⊎_elim
      (λ e. subst (λ (k : ℕ). Has more.new (value_of frozen (k + 2))) (sym e) more.has)
      (λ off. has_begins more.new so_far.new (value_of frozen (i + 2)) more.begins (so_far.has i (omega (arith, off)) inside))
      (cases_eq i n);
}

skip_to : (old frozen : List Triple) (p : ℕ → Bool) (n : ℕ) → IsReachedTo old frozen p n → p n ≡ false → IsReachedTo old frozen p (suc n)
skip_to old frozen p n so_far off = record {
  new = so_far.new;
  reduced = so_far.reduced;
  begins = so_far.begins;
  few = omega (arith, passed p n off, so_far.few);
  has = λ i low inside. ⊎_elim
      (λ e. absurd (cc (sym off ∙ sym (ap p e) ∙ inside)))
      (λ differ. so_far.has i (omega (arith, differ)) inside)
      (cases_eq i n);
}

reach_to : (old frozen : List Triple) (root : ℕ) (p : ℕ → Bool) → IsReduced old → IsOrdered frozen → HasReached frozen root p → (n : ℕ) → n ≤ length frozen
    → IsReachedTo old frozen p n
reach_to old frozen root p red ordered reached zero le = record {
  new = old;
  reduced = red;
  begins = begins_same old;
  few = omega arith;
  has = λ i low inside. absurd (omega arith);
}
reach_to old frozen root p red ordered reached (suc n) le =
    let so_far : IsReachedTo old frozen p n = reach_to old frozen root p red ordered reached n (omega arith) in
    let back : n + 2 - 2 ≡ n = omega arith in
    ⊎_elim
    (λ on.
    let nd : IsPlaced frozen n = ordered n (omega arith) in
    let lo : Has so_far.new (value_of frozen (node_at frozen n).lo) =
    had so_far.new frozen p n (node_at frozen n).lo nd.lo_earlier (reached.lo n (omega arith) on) so_far.has in
    let hi : Has so_far.new (value_of frozen (node_at frozen n).hi) =
    had so_far.new frozen p n (node_at frozen n).hi nd.hi_earlier (reached.hi n (omega arith) on) so_far.has in
    extend_to old frozen p n so_far on (add_node so_far.new frozen so_far.reduced ordered (n + 2) (omega arith) (omega arith)
    (subst (λ (k : ℕ). Has so_far.new (value_of frozen (node_at frozen k).lo)) (sym back) lo)
    (subst (λ (k : ℕ). Has so_far.new (value_of frozen (node_at frozen k).hi)) (sym back) hi)))
    (λ off. skip_to old frozen p n so_far off)
    (cases_Bool (p n))

-- the fewest nodes are at most those of any set that has what the root reaches
pub fewest_reached : (old new frozen : List Triple) (root : ℕ) (p : ℕ → Bool) → IsReduced old → IsOrdered frozen → IsRef frozen root
    → HasReached frozen root p → IsFewest old new (value_of frozen root) → length new ≤ length old + number_in p (length frozen)
fewest_reached old new frozen root p red ordered ref reached fewest =
    let all : IsReachedTo old frozen p (length frozen) = reach_to old frozen root p red ordered reached (length frozen) (omega arith) in
    let least : length new ≤ length all.new =
    fewest all.new all.reduced all.begins (had all.new frozen p (length frozen) root ref reached.whole all.has) in
    omega (arith, least, all.few)
