-- The first declarations of different names: the same names are declared, at the same first places.
use Rattle.std.proofs.Common.{◌≡◌, ℕ, Bool, true, false, cond, ◌||◌, List, [], ◌∷◌, ◌++◌, refl, sym, ap, ◌∙◌, nat_lt, append_assoc, Option}
use Rattle.std.proofs.{lemmas.Cmp.nat_list_eq_equiv, lemmas.List.append-nil}
use Rattle.rv_tree.specs.{declared.tree.Name.Name, Places.Identifier, Places.is_same}
use Rattle.rv_types.specs.{declared.fault.NameFault.NameFault, declared.fault.NameFault.TheVariants.DefinedTwice, Names.is_declared, Names.stands_before}
use Rattle.rv_types.specs.{Names.repeated, Names.repeated_after, Firsts.with_name, Firsts.firsts_after, Firsts.firsts, Earliest.first, Earliest.sooner}
use Rattle.rv_types.proofs.{Spaced.same_back, Joined.first_append, Joined.sooner_assoc}
use Rattle.rv_base.proofs.Truths.{or_assoc, or_false, or_true}

or_swap : (a b : Bool) → (a || b) ≡ (b || a)
or_swap true b = sym (or_true b)
or_swap false b = sym (or_false b)

-- names with the same bytes are declared alike
pub declared_alike : (xs : List Name) (t x : Identifier) → is_same t x ≡ true → is_declared xs t ≡ is_declared xs x
declared_alike [] t x h = refl
declared_alike (y ∷ ys) t x h =
    let there : is_same t y.text ≡ is_same x y.text = nat_list_eq_equiv.congr t x y.text h in
    let head : is_same y.text t ≡ is_same y.text x = same_back y.text t ∙ there ∙ same_back x y.text in
    (λ i. head i || declared_alike ys t x h i)

pub declared_append : (xs ys : List Name) (x : Identifier) → is_declared (xs ++ ys) x ≡ (is_declared xs x || is_declared ys x)
declared_append [] ys x = refl
declared_append (z ∷ xs) ys x = ap (λ b. is_same z.text x || b) (declared_append xs ys x)
    ∙ sym (or_assoc (is_same z.text x) (is_declared xs x) (is_declared ys x))

pub before_append : (at : ℕ) (xs ys : List Name) (x : Identifier) → stands_before at (xs ++ ys) x ≡ cond (is_declared xs x) (stands_before at xs x)
    (stands_before at ys x)
before_append at [] ys x = refl
before_append at (z ∷ xs) ys x = tested (is_same z.text x) (is_declared xs x) (stands_before at xs x) (stands_before at ys x) (before_append at xs ys x)
  where
    tested : (b d l r : Bool) → stands_before at (xs ++ ys) x ≡ cond d l r
        → cond b (nat_lt z.at at) (stands_before at (xs ++ ys) x) ≡ cond (b || d) (cond b (nat_lt z.at at) l) r
    tested true d l r e = refl
    tested false d l r e = e

-- a name that is there once more changes nothing
again_declared : (xs ys : List Name) (y : Name) (x : Identifier) → is_declared xs y.text ≡ true → is_declared (xs ++ ys) x ≡ is_declared (xs ++ y ∷ ys) x
again_declared xs ys y x there = declared_append xs ys x ∙ tested (is_same y.text x) refl ∙ sym (declared_append xs (y ∷ ys) x)
  where
    tested : (b : Bool) → is_same y.text x ≡ b → (is_declared xs x || is_declared ys x) ≡ (is_declared xs x || (b || is_declared ys x))
    tested true e =
        let declared : is_declared xs x ≡ true = sym (declared_alike xs y.text x e) ∙ there in
        ap (λ b. b || is_declared ys x) declared ∙ sym (ap (λ b. b || true) declared)
    tested false e = refl

again_before : (at : ℕ) (xs ys : List Name) (y : Name) (x : Identifier) → is_declared xs y.text ≡ true
    → stands_before at (xs ++ ys) x ≡ stands_before at (xs ++ y ∷ ys) x
again_before at xs ys y x there = before_append at xs ys x ∙ tested (is_same y.text x) refl ∙ sym (before_append at xs (y ∷ ys) x)
  where
    tested : (b : Bool) → is_same y.text x ≡ b → cond (is_declared xs x) (stands_before at xs x) (stands_before at ys x) ≡ cond (is_declared xs x)
        (stands_before at xs x) (cond b (nat_lt y.at at) (stands_before at ys x))
    tested true e =
        let declared : is_declared xs x ≡ true = sym (declared_alike xs y.text x e) ∙ there in
        ap (λ b. cond b (stands_before at xs x) (stands_before at ys x)) declared ∙ sym (ap (λ b. cond b (stands_before at xs x) (nat_lt y.at at)) declared)
    tested false e = refl

-- what is read of names, where one that is there once more changes nothing, is read of the first of them
read_after : {X : Type 0} (read : List Name → X) → ((xs ys : List Name) (y : Name) → is_declared xs y.text ≡ true → read (xs ++ ys) ≡ read (xs ++ y ∷ ys))
    → (before xs : List Name) → read (firsts_after before xs) ≡ read (before ++ xs)
read_after read again before [] = ap read (sym (append-nil before))
read_after read again before (y ∷ ys) = read_after read again (with_name before y) ys ∙ tested (is_declared before y.text) refl
  where
    tested : (b : Bool) → is_declared before y.text ≡ b → read (cond b before (before ++ y ∷ []) ++ ys) ≡ read (before ++ y ∷ ys)
    tested true e = again before ys y e
    tested false e = ap read (append_assoc before (y ∷ []) ys)

pub declared_after : (before xs : List Name) (x : Identifier) → is_declared (firsts_after before xs) x ≡ is_declared (before ++ xs) x
declared_after before xs x = read_after (λ l. is_declared l x) (λ xs ys y. again_declared xs ys y x) before xs

pub declared_firsts : (xs : List Name) (x : Identifier) → is_declared (firsts xs) x ≡ is_declared xs x
declared_firsts xs x = declared_after [] xs x

pub before_firsts : (at : ℕ) (xs : List Name) (x : Identifier) → stands_before at (firsts xs) x ≡ stands_before at xs x
before_firsts at xs x = read_after (λ l. stands_before at l x) (λ xs ys y. again_before at xs ys y x) [] xs

-- which names stand before is all that counts for second declarations
pub repeated_alike : (before others xs : List Name) → ((t : Identifier) → is_declared before t ≡ is_declared others t) → repeated before xs ≡ repeated others xs
repeated_alike before others [] same = refl
repeated_alike before others (x ∷ xs) same =
    (λ i. cond (same x.text i) (DefinedTwice x.at ∷ []) [] ++ repeated_alike (x ∷ before) (x ∷ others) xs (λ t. ap (λ b. is_same x.text t || b) (same t)) i)

with_alike : (before : List Name) (x : Name) (t : Identifier) → is_declared (x ∷ before) t ≡ is_declared (with_name before x) t
with_alike before x t = tested (is_declared before x.text) refl
  where
    again : (b : Bool) → is_same x.text t ≡ b → is_declared before x.text ≡ true → (b || is_declared before t) ≡ is_declared before t
    again true h e = sym (sym (declared_alike before x.text t h) ∙ e)
    again false h e = refl

    tested : (b : Bool) → is_declared before x.text ≡ b → is_declared (x ∷ before) t ≡ is_declared (cond b before (before ++ x ∷ [])) t
    tested true e = again (is_same x.text t) refl e
    tested false e = or_swap (is_same x.text t) (is_declared before t) ∙ ap (λ b. is_declared before t || b) (sym (or_false (is_same x.text t)))
        ∙ sym (declared_append before (x ∷ []) t)

pub repeated_next : (before xs : List Name) (x : Name) → repeated (x ∷ before) xs ≡ repeated (with_name before x) xs
repeated_next before xs x = repeated_alike (x ∷ before) (with_name before x) xs (with_alike before x)

pub repeated_append : (before xs ys : List Name) → repeated before (xs ++ ys) ≡ repeated before xs ++ repeated (firsts_after before xs) ys
repeated_append before [] ys = refl
repeated_append before (x ∷ xs) ys =
    let next = repeated_next before (xs ++ ys) x in
    let rest = repeated_append (with_name before x) xs ys in
    let head = repeated_next before xs x in
    ap (λ l. cond (is_declared before x.text) (DefinedTwice x.at ∷ []) [] ++ l)
    (next ∙ rest ∙ (λ i. sym head i ++ repeated (firsts_after (with_name before x) xs) ys))
    ∙ sym (append_assoc (cond (is_declared before x.text) (DefinedTwice x.at ∷ []) []) (repeated (x ∷ before) xs) _)

pub firsts_append : (before xs ys : List Name) → firsts_after before (xs ++ ys) ≡ firsts_after (firsts_after before xs) ys
firsts_append before [] ys = refl
firsts_append before (x ∷ xs) ys = firsts_append (with_name before x) xs ys

-- where no name is repeated all are the first
all_first_after : (before xs : List Name) → repeated before xs ≡ [] → firsts_after before xs ≡ before ++ xs
all_first_after before [] none = sym (append-nil before)
all_first_after before (x ∷ xs) none = tested (is_declared before x.text) refl none
    (λ again. all_first_after (with_name before x) xs (sym (repeated_next before xs x) ∙ again))
  where
    tested : (b : Bool) → is_declared before x.text ≡ b → cond b (DefinedTwice x.at ∷ []) [] ++ repeated (x ∷ before) xs ≡ []
        → (repeated (x ∷ before) xs ≡ [] → firsts_after (with_name before x) xs ≡ with_name before x ++ xs)
        → firsts_after (with_name before x) xs ≡ before ++ x ∷ xs
    tested true e none rest = cc
    tested false e none rest =
        let new : with_name before x ≡ before ++ x ∷ [] = ap (λ b. cond b before (before ++ x ∷ [])) e in
        rest none ∙ ap (λ l. l ++ xs) new ∙ append_assoc before (x ∷ []) xs

pub all_first : (xs : List Name) → repeated [] xs ≡ [] → firsts xs ≡ xs
all_first xs none = all_first_after [] xs none

-- some more declarations of a list that is walked
pub spaces_step : (space new items some rest goal : List Name) → items ≡ some ++ rest → new ≡ firsts_after space some
    → firsts_after space items ≡ goal → firsts_after new rest ≡ goal
spaces_step space new items some rest goal front is done =
    (λ i. firsts_after (is i) rest) ∙ sym (firsts_append space some rest) ∙ (λ i. firsts_after space (sym front i)) ∙ done

pub faults_step : (fault one both goal : Option NameFault) (space new items some rest : List Name) → items ≡ some ++ rest → new ≡ firsts_after space some
    → one ≡ first (repeated space some) → both ≡ sooner fault one
    → sooner fault (first (repeated space items)) ≡ goal → sooner both (first (repeated new rest)) ≡ goal
faults_step fault one both goal space new items some rest front is here joined done =
    let next : first (repeated space (some ++ rest)) ≡ sooner one (first (repeated (firsts_after space some) rest)) =
    ap first (repeated_append space some rest) ∙ first_append (repeated space some) (repeated (firsts_after space some) rest)
    ∙ (λ i. sooner (sym here i) (first (repeated (firsts_after space some) rest))) in
    (λ i. sooner (joined i) (first (repeated (is i) rest))) ∙ sooner_assoc fault one (first (repeated (firsts_after space some) rest))
    ∙ ap (sooner fault) (sym next) ∙ (λ i. sooner fault (first (repeated space (sym front i)))) ∙ done

-- and one more
pub space_step : (space new items rest goal : List Name) (x : Name) → items ≡ x ∷ rest → new ≡ with_name space x
    → firsts_after space items ≡ goal → firsts_after new rest ≡ goal
space_step space new items rest goal x = spaces_step space new items (x ∷ []) rest goal

pub fault_step : (fault one both goal : Option NameFault) (space new items rest : List Name) (x : Name) → items ≡ x ∷ rest → new ≡ with_name space x
    → one ≡ first (cond (is_declared space x.text) (DefinedTwice x.at ∷ []) []) → both ≡ sooner fault one
    → sooner fault (first (repeated space items)) ≡ goal → sooner both (first (repeated new rest)) ≡ goal
fault_step fault one both goal space new items rest x front is here =
    let found = here ∙ ap first (sym (append-nil (cond (is_declared space x.text) (DefinedTwice x.at ∷ []) []))) in
    faults_step fault one both goal space new items (x ∷ []) rest front is found

-- what stands before among the first names does among all
pub after_firsts : (others : List Name) → repeated_after (firsts others) ≡ repeated_after others
after_firsts others = λ i x. cond (before_firsts x.at others x.text i) (DefinedTwice x.at ∷ []) []
