-- `takes` and `fault_of` of `clap` say the same: a step passes where no kind of error comes of it.
use Rattle.std.proofs.Common.{◌≡◌, ◌∙◌, ◌==◌, ◌&&◌, ◌||◌, ap, ap₂, sym, refl, arith, codes, zero, suc, true, false, not, true≢false, Bool, ℕ, List, [], ◌∷◌}
use Rattle.std.proofs.Common.{length, drop, Option, Some, None, is_some}
use Rattle.std.proofs.lemmas.Bool.{eq-eqb, eqb-true, le-leb, leb-false, leb-true, lt-leb, ltb-false, ltb-true, ne_eqb}
use Rattle.std.specs.Prelude.{encode_utf8, find, if◌then◌else◌, nat_le, nat_lt, slice_get}
use Rattle.std.specs.{List.list_all, List.list_any, Option.option_map_or, Str.bytes_eq, Str.chars}
use Rattle.clap.specs.Kinds.{Kinds, check_kinds, or_else, range_kinds, value_kinds, values_kinds}
use Rattle.clap.specs.Walk.{Held, Names, Row, Rule, Step, Text, Waiting, Walk, action_of, answers_to, arg_by_id, arg_by_index, arg_by_long, arg_by_short}
use Rattle.clap.specs.Walk.{attached_value, finished, has_row, is_empty, is_pending, most_values, next, nothing_held, reacted, settled, subcommand}
use Rattle.clap.specs.Walk.{subcommand_met, takes_several, takes_values, trailing, value, values_or_missing, walk, walk_from, walked, with_default, word_met}
use Rattle.clap.specs.Faults.{action_fault, built_fault, bundle_step_fault, check_fault, count_fault, default_fault, defaults_fault, entered_fault}
use Rattle.clap.specs.Faults.{flag_word_fault, flags_fault, given_default_fault, level_fault, long_fault, option_fault, other_fault, positional_fault}
use Rattle.clap.specs.Faults.{react_fault, repeat_fault, set_fault, settle_fault, short_fault, step_fault, stray_fault, turn_fault, use_fault, values_fault}
use Rattle.clap.specs.Faults.{walk_fault, word_fault}
use Rattle.clap.specs.Takes.{action_passes, built_takes, bundle_step_passes, count_passes, default_passes, entered_passes, flag_word_passes, flags_pass}
use Rattle.clap.specs.Takes.{is_given, is_valid, level_passes, long_passes, option_passes, other_passes, positional_passes, react_passes, set_passes}
use Rattle.clap.specs.Takes.{settle_passes, short_passes, step_passes, turn_passes, use_passes, values_pass, walk_passes, word_passes}
use Rattle.clap.specs.{Lexer.long_of, Lexer.short_of, Values.is_request, Values.refused_kind, ValueTests.accepts, Facts.explicit_source, Facts.unwrap_or_range}
use Rattle.clap.specs.{Simple.App, Simple.Shape, Simple.entered, Simple.label_of, Simple.names_of, declared.builder.action.ArgAction.ArgAction}
use Rattle.clap.specs.{declared.builder.value_parser.ValueParser.ValueParser, declared.error.kind.ErrorKind.ErrorKind}
use Rattle.clap.proofs.WalkLemmas.{both}
use Rattle.clap.specs.declared.builder.action.ArgAction.TheVariants as action
use Rattle.clap.specs.declared.error.kind.ErrorKind.TheVariants as kind
use Rattle.rv_base.proofs.Truths.{and_assoc}

-- ---- lists of kinds

full : (k : ErrorKind) (ks : Kinds) → is_empty (k ∷ ks) ≡ false
full k ks = ne_eqb _ _ (λ e. omega arith)

free_both : (a b : Kinds) → is_empty (or_else a b) ≡ (is_empty a && is_empty b)
free_both [] b = refl
free_both (k ∷ ks) b = full k ks ∙ sym (ap (λ x. x && is_empty b) (full k ks))

both_free : (a b : Kinds) (p q : Bool) → is_empty a ≡ p → is_empty b ≡ q → is_empty (or_else a b) ≡ (p && q)
both_free a b p q e f = free_both a b ∙ ap₂ (λ x y. x && y) e f

test_free : (b : Bool) (k : ErrorKind) → is_empty (if b then [] else k ∷ []) ≡ b
test_free true k = refl
test_free false k = refl

or_free : (b : Bool) (ks : Kinds) (p : Bool) → is_empty ks ≡ p → is_empty (if b then [] else ks) ≡ (b || p)
or_free true ks p e = refl
or_free false ks p e = e

and_swap : (a b c : Bool) → (a && (b && c)) ≡ (b && (a && c))
and_swap true true c = refl
and_swap true false c = refl
and_swap false true c = refl
and_swap false false c = refl

-- ---- one use of an argument

values_free : (ignore_case : Bool) (parser : ValueParser) (vs : List Text)
    → is_empty (values_kinds ignore_case parser vs) ≡ list_all (accepts ignore_case parser) vs
values_free ignore_case parser [] = refl
values_free ignore_case parser (v ∷ vs) =
    both_free (value_kinds ignore_case parser v) (values_kinds ignore_case parser vs) _ _
    (test_free (accepts ignore_case parser v) (refused_kind parser)) (values_free ignore_case parser vs)

count_free : (a : Rule) (vs : List Text) (rows : List Row) → is_empty (count_fault a vs rows) ≡ count_passes a vs rows
count_free a [] rows = test_free _ _
count_free a (v ∷ vs) rows = values_free _ _ (v ∷ vs)

repeat_free : (has again : Bool) → is_empty (if has && not again then kind.ArgumentConflict ∷ [] else []) ≡ (not has || again)
repeat_free true true = refl
repeat_free true false = refl
repeat_free false true = refl
repeat_free false false = refl

set_free : (again : Bool) (a : Rule) (vs : List Text) (rows : List Row) → is_empty (set_fault again a vs rows) ≡ set_passes again a vs rows
set_free again a vs rows = both_free (repeat_fault again a.id rows) (values_fault a vs) _ _ (repeat_free (has_row a.id rows) again) (values_free _ _ vs)

action_free : (x : ArgAction) (again : Bool) (a : Rule) (vs : List Text) (rows : List Row)
    → is_empty (action_fault x again a vs rows) ≡ action_passes x again a vs rows
action_free action.Set again a vs rows = set_free again a vs rows
action_free action.SetTrue again a vs rows = set_free again a vs rows
action_free action.SetFalse again a vs rows = set_free again a vs rows
action_free action.Append again a vs rows = values_free _ _ vs
action_free action.Count again a vs rows = count_free a vs rows
action_free _ again a vs rows = refl

le_test : (a b : ℕ) → nat_le a b ≡ not (nat_lt b a)
le_test a b = go (nat_lt b a) refl
  where
    go : (t : Bool) → nat_lt b a ≡ t → nat_le a b ≡ not (nat_lt b a)
    go true e = lt-leb a b (ltb-true b a e) ∙ sym (ap not e)
    go false e = le-leb a b (ltb-false b a e) ∙ sym (ap not e)

eq_test : (a b : ℕ) → (a == b) ≡ (nat_le a b && nat_le b a)
eq_test a b = go (nat_le a b) (nat_le b a) refl refl
  where
    go : (s t : Bool) → nat_le a b ≡ s → nat_le b a ≡ t → (a == b) ≡ (nat_le a b && nat_le b a)
    go true true e f = let x = leb-true a b e in let y = leb-true b a f in eq-eqb a b (omega arith) ∙ sym (ap₂ (λ m n. m && n) e f)
    go false t e f = let x = leb-false a b e in ne_eqb a b (λ same. omega arith) ∙ sym (ap₂ (λ m n. m && n) e f)
    go true false e f = let y = leb-false b a f in ne_eqb a b (λ same. omega arith) ∙ sym (ap₂ (λ m n. m && n) e f)

abbrev by_tests : Bool → Bool → Bool → Bool → Bool → Kinds
by_tests empty same exact few many =
    if empty then kind.InvalidValue ∷ []
    else (if same then (if exact then [] else kind.WrongNumberOfValues ∷ [])
    else (if few then kind.TooFewValues ∷ []
    else (if many then kind.TooManyValues ∷ [] else [])))

tests_free : (empty same exact few many low high : Bool) → (empty ≡ true → low ≡ false)
    → (same ≡ true → exact ≡ (low && high)) → low ≡ not few → high ≡ not many
    → is_empty (by_tests empty same exact few many) ≡ (low && high)
tests_free true same exact few many low high first second third fourth = sym (ap (λ x. x && high) (first refl))
tests_free false true exact few many low high first second third fourth = test_free exact kind.WrongNumberOfValues ∙ second refl
tests_free false false exact true many low high first second third fourth = sym (ap (λ x. x && high) third)
tests_free false false exact false true low high first second third fourth = sym (ap₂ (λ x y. x && y) third fourth)
tests_free false false exact false false low high first second third fourth = sym (ap₂ (λ x y. x && y) third fourth)

range_free : (least most n : ℕ) → is_empty (range_kinds least most n) ≡ (nat_le least n && nat_le n most)
range_free least most n = tests_free (nat_lt 0 least && n == 0) (least == most) (least == n) (nat_lt n least) (nat_lt most n) (nat_le least n) (nat_le n most)
    (λ e. let one = ltb-true 0 least (left (nat_lt 0 least) (n == 0) e) in
    let two = eqb-true n 0 (right (nat_lt 0 least) (n == 0) e) in lt-leb least n (omega arith))
    (λ e. eq_test least n ∙ ap (λ m. nat_le least n && nat_le n m) (eqb-true least most e)) (le_test least n) (le_test n most)
  where
    left : (a b : Bool) → (a && b) ≡ true → a ≡ true
    left true b e = refl
    left false b e = e

    right : (a b : Bool) → (a && b) ≡ true → b ≡ true
    right true b e = e
    right false b e = absurd (true≢false (sym e))

use_free : (again : Bool) (a : Rule) (vs : List Text) (rows : List Row) → is_empty (use_fault again a vs rows) ≡ use_passes again a vs rows
use_free again a vs rows =
    both_free (range_kinds (unwrap_or_range a.range).start_inclusive (most_values a) (length vs))
    (action_fault (action_of a) again a (values_or_missing a vs) rows) _ _
    (range_free (unwrap_or_range a.range).start_inclusive (most_values a) (length vs)) (action_free (action_of a) again a (values_or_missing a vs) rows)
    ∙ and_assoc (nat_le (unwrap_or_range a.range).start_inclusive (length vs)) (nat_le (length vs) (most_values a))
    (action_passes (action_of a) again a (values_or_missing a vs) rows)

-- ---- the walk

module _ (c : List Rule) (again : Bool) where
  settle_free : (h : Held) → is_empty (settle_fault c again h) ≡ settle_passes c again h
  settle_free h = go h.pending
    where
      one : (o : Option Rule) (vs : List Text)
          → is_empty (option_map_or (λ a. use_fault again a vs h.rows) o []) ≡ option_map_or (λ a. use_passes again a vs h.rows) o true
      one None vs = refl
      one (Some a) vs = use_free again a vs h.rows

      go : (p : Option (Text × List Text)) → is_empty (option_map_or (λ q. option_map_or (λ a. use_fault again a q.1 h.rows) (arg_by_id c q.0) []) p [])
          ≡ option_map_or (λ q. option_map_or (λ a. use_passes again a q.1 h.rows) (arg_by_id c q.0) true) p true
      go None = refl
      go (Some q) = one (arg_by_id c q.0) q.1

  react_free : (a : Rule) (vs : List Text) (h : Held) → is_empty (react_fault c again a vs h) ≡ react_passes c again a vs h
  react_free a vs h = both_free (settle_fault c again h) (use_fault again a vs (settled c h).rows) _ _ (settle_free h) (use_free again a vs (settled c h).rows)

  option_free : (a : Rule) (v : Option Text) (h : Held) → is_empty (option_fault c again a v h) ≡ option_passes c again a v h
  option_free a (Some v) h = react_free a (v ∷ []) h
  option_free a None h = settle_free h

  long_free : (found : Option Rule) (v : Option Text) (h : Held) → is_empty (long_fault c again found v h) ≡ long_passes c again found v h
  long_free None v h = refl
  long_free (Some a) v h = go (takes_values a) (is_some v)
    where
      go : (s t : Bool) → is_empty (if s then option_fault c again a v h else (if t then kind.TooManyValues ∷ [] else react_fault c again a [] h))
          ≡ (if s then option_passes c again a v h else (not t && react_passes c again a [] h))
      go true t = option_free a v h
      go false true = refl
      go false false = react_free a [] h

  short_free : (found : Option Rule) (rest : Text) (h : Held) (fails : Held → Kinds) (passes : Held → Bool) → ((x : Held) → is_empty (fails x) ≡ passes x)
      → is_empty (short_fault c again found rest h fails) ≡ short_passes c again found rest h passes
  short_free None rest h fails passes e = refl
  short_free (Some a) rest h fails passes e = go (takes_values a)
    where
      go : (s : Bool) → is_empty (if s then option_fault c again a (attached_value rest) h else or_else (react_fault c again a [] h) (fails (reacted c a [] h)))
          ≡ (if s then option_passes c again a (attached_value rest) h else (react_passes c again a [] h && passes (reacted c a [] h)))
      go true = option_free a (attached_value rest) h
      go false = both_free (react_fault c again a [] h) (fails (reacted c a [] h)) _ _ (react_free a [] h) (e (reacted c a [] h))

  step_of_bundle : (x : Option ℕ) (flags : Text) (skip : ℕ) (h : Held) (fails : Text → ℕ → Held → Kinds) (passes : Text → ℕ → Held → Bool)
      → ((t : Text) (n : ℕ) (y : Held) → is_empty (fails t n y) ≡ passes t n y)
      → is_empty (bundle_step_fault c again x flags skip h fails) ≡ bundle_step_passes c again x flags skip h passes
  step_of_bundle None flags skip h fails passes e = refl
  step_of_bundle (Some x) flags zero h fails passes e =
      let rest = drop (length (encode_utf8 x)) flags in
      short_free (arg_by_short c x) rest h (fails rest 0) (passes rest 0) (e rest 0)
  step_of_bundle (Some x) flags (suc skip) h fails passes e = e (drop (length (encode_utf8 x)) flags) skip h

  flags_free : (k : ℕ) (flags : Text) (skip : ℕ) (h : Held) → is_empty (flags_fault c again k flags skip h) ≡ flags_pass c again k flags skip h
  unfolding flags_fault flags_pass
  flags_free zero flags skip h = refl
  flags_free (suc k) flags skip h = step_of_bundle (slice_get (chars flags) 0) flags skip h (flags_fault c again k) (flags_pass c again k) (flags_free k)

  flag_word_free : (l : Option (Text × Option Text)) (word : Text) (h : Held) → is_empty (flag_word_fault c again l word h) ≡ flag_word_passes c again l word h
  flag_word_free (Some p) word h = long_free (arg_by_long c p.0) p.1 h
  flag_word_free None word h = go (short_of word)
    where
      go : (o : Option Text) → is_empty (option_map_or (λ flags. flags_fault c again (length flags) flags h.skip (record h { skip = 0 })) o [])
          ≡ option_map_or (λ flags. flags_pass c again (length flags) flags h.skip (record h { skip = 0 })) o true
      go None = refl
      go (Some flags) = flags_free (length flags) flags h.skip (record h { skip = 0 })

  positional_free : (a : Rule) (h : Held) → is_empty (positional_fault c again a h) ≡ positional_passes c again a h
  positional_free a h = or_free (is_pending a h.pending && takes_several a) (settle_fault c again h) _ (settle_free h)

module _ (s : Shape) (names : Names) where
  other_free : (name : Option Text) (word : Text) (h : Held) → is_empty (other_fault s name word h) ≡ other_passes s name word h
  other_free (Some name) word h = go (bytes_eq name (codes "help")) s.disable_help_subcommand
    where
      go : (a b : Bool) → is_empty (if a && not b then kind.DisplayHelp ∷ kind.InvalidSubcommand ∷ [] else []) ≡ (not a || b)
      go true true = refl
      go true false = refl
      go false true = refl
      go false false = refl
  other_free None word h =
      or_free (bytes_eq word (45 ∷ 45 ∷ [])) (flag_word_fault s.rules s.args_override_self (long_of word) word h) _
      (flag_word_free s.rules s.args_override_self (long_of word) word h)

  word_free : (is_trailing : Bool) (waiting : Waiting) (word : Text) (h : Held)
      → is_empty (word_fault s names is_trailing waiting word h) ≡ word_passes s names is_trailing waiting word h
  word_free is_trailing waiting word h =
      or_free is_trailing (other_fault s (subcommand_met names waiting word) word h) _ (other_free (subcommand_met names waiting word) word h)

  step_free : (position : ℕ) (h : Held) (step : Step) → is_empty (step_fault s position h step) ≡ step_passes s position h step
  step_free position h (next waiting) = refl
  step_free position h (trailing at) = refl
  step_free position h (subcommand name) = refl
  step_free position h value = go (arg_by_index s.rules position)
    where
      stray : (b : Bool) → is_empty (if b then kind.UnknownArgument ∷ [] else kind.UnknownArgument ∷ kind.InvalidSubcommand ∷ []) ≡ false
      stray true = refl
      stray false = refl

      go : (o : Option Rule) → is_empty (option_map_or (λ a. positional_fault s.rules s.args_override_self a h) o (stray_fault s))
          ≡ option_map_or (λ a. positional_passes s.rules s.args_override_self a h) o false
      go None = stray s.is_leaf
      go (Some a) = positional_free s.rules s.args_override_self a h

  turn_free : (w : Walk) (word : Text) → is_empty (turn_fault s names w word) ≡ turn_passes s names w word
  turn_free w word =
      let met = word_met s.rules names w.is_trailing w.waiting w.position word w.held in
      or_free (is_some w.stopped) (or_else (word_fault s names w.is_trailing w.waiting word w.held) (step_fault s w.position met.0 met.1)) _
      (both_free (word_fault s names w.is_trailing w.waiting word w.held) (step_fault s w.position met.0 met.1) _ _
      (word_free w.is_trailing w.waiting word w.held) (step_free w.position met.0 met.1))

  walk_free : (w : Walk) (words : List Text) → is_empty (walk_fault s names w words) ≡ walk_passes s names w words
  unfolding walk_fault walk_passes
  walk_free w [] = refl
  walk_free w (word ∷ rest) =
      both_free (turn_fault s names w word) (walk_fault s names (walked s.rules names w word) rest) _ _
      (turn_free w word) (walk_free (walked s.rules names w word) rest)

-- ---- after the walk

abbrev no_defaults : List Rule → Bool
no_defaults = list_all (λ a. is_empty a.defaults)

default_free : (rows : List Row) (a : Rule) → is_empty a.defaults ≡ true → default_fault rows a ≡ []
default_free rows a e = ap (λ b. if has_row a.id rows || b then [] else given_default_fault a a.defaults) e ∙ go (has_row a.id rows)
  where
    go : (t : Bool) → (if t || true then [] else given_default_fault a a.defaults) ≡ []
    go true = refl
    go false = refl

defaults_free : (rows : List Row) (rules : List Rule) → no_defaults rules ≡ true → is_empty (defaults_fault rows rules) ≡ true
unfolding defaults_fault
defaults_free rows [] h = refl
defaults_free rows (a ∷ rest) h =
    let parts = both (is_empty a.defaults) _ h in
    both_free (default_fault rows a) (defaults_fault (with_default rows a) rest) true true
    (ap is_empty (default_free rows a parts.0)) (defaults_free (with_default rows a) rest parts.1)

defaults_pass : (rules : List Rule) → no_defaults rules ≡ true → list_all default_passes rules ≡ true
defaults_pass [] h = refl
defaults_pass (a ∷ rest) h =
    let parts = both (is_empty a.defaults) _ h in
    ap₂ (λ x y. x && y) (ap (λ b. b || (not (is_request (action_of a)) && values_pass a a.defaults)) parts.0) (defaults_pass rest parts.1)

lacks : (rows : List Row) (rules : List Rule)
    → list_any (λ a. a.required && not (is_given a.id rows)) rules ≡ not (list_all (λ a. not a.required || is_given a.id rows) rules)
lacks rows [] = refl
lacks rows (a ∷ rest) =
    ap (λ b. (a.required && not (is_given a.id rows)) || b) (lacks rows rest)
    ∙ go a.required (is_given a.id rows) (list_all (λ x. not x.required || is_given x.id rows) rest)
  where
    go : (r g m : Bool) → ((r && not g) || not m) ≡ not ((not r || g) && m)
    go true true m = refl
    go true false m = refl
    go false g m = refl

kinds_free : (a b c : Bool) → is_empty (check_kinds a b c) ≡ (not a && (not b && not c))
kinds_free true b c = refl
kinds_free false true c = refl
kinds_free false false true = refl
kinds_free false false false = refl

first_check : (has wanted any : Bool) → not (not has && (wanted && not any)) ≡ (not wanted || (has || any))
first_check true true any = refl
first_check true false any = refl
first_check false true true = refl
first_check false true false = refl
first_check false false any = refl

second_check : (has wanted : Bool) → not (not has && wanted) ≡ (not wanted || has)
second_check true true = refl
second_check true false = refl
second_check false true = refl
second_check false false = refl

third_check : (excused given : Bool) → not (not excused && not given) ≡ (excused || given)
third_check true given = refl
third_check false true = refl
third_check false false = refl

check_free : (s : Shape) (rows : List Row) (has : Bool) → list_all (λ a. a.is_free) s.rules ≡ true → is_empty (check_fault s rows has) ≡ is_valid s rows has
check_free s rows has free =
    let any = list_any (λ (r : Row). explicit_source r.source) rows in
    let given = list_all (λ (a : Rule). not a.required || is_given a.id rows) s.rules in
    let excused = s.subcommand_negates_reqs && has in
    let wanting = list_any (λ (a : Rule). a.required && not (is_given a.id rows)) s.rules in
    kinds_free (not has && (s.arg_required_else_help && not any)) (not has && s.subcommand_required) (not excused && wanting)
    ∙ ap₂ (λ x y. x && y) (first_check has s.arg_required_else_help any)
    (ap₂ (λ x y. x && y) (second_check has s.subcommand_required)
    (ap (λ b. not (not excused && b)) (lacks rows s.rules) ∙ (third_check excused given ∙ sym (ap (λ b. b && (excused || given)) free))))

-- no default, and no rule on another argument
abbrev pub is_easy : Shape → Bool
is_easy s = no_defaults s.rules && list_all (λ a. a.is_free) s.rules

level_free : (s : Shape) (names : Names) (h : Held) (words : List Text) (has : Bool) (below : Kinds) (q : Bool) → is_easy s ≡ true → is_empty below ≡ q
    → is_empty (level_fault s names h words has below) ≡ (q && level_passes s names h words has)
level_free s names h words has below q easy e =
    let parts = both (no_defaults s.rules) _ easy in
    let end = (walk s.rules names h words).held in
    let settling = settle_fault s.rules s.args_override_self end in
    let filling = defaults_fault (settled s.rules end).rows s.rules in
    let checking = check_fault s (finished s.rules end) has in
    both_free (walk_fault s names (walk_from h) words) (or_else below (or_else settling (or_else filling checking))) _ _ (walk_free s names (walk_from h) words)
    (both_free below (or_else settling (or_else filling checking)) q _ e
    (both_free settling (or_else filling checking) _ _ (settle_free s.rules s.args_override_self end)
    (both_free filling checking _ _ (defaults_free (settled s.rules end).rows s.rules parts.0 ∙ sym (defaults_pass s.rules parts.0))
    (check_free s (finished s.rules end) has parts.1))))
    ∙ and_swap (walk_passes s names (walk_from h) words) q
    (settle_passes s.rules s.args_override_self end && (list_all default_passes s.rules && is_valid s (finished s.rules end) has))

leaves_free : (subs : List Shape) (test : Shape → Bool) (words : List Text) → list_all is_easy subs ≡ true
    → is_empty (option_map_or (λ s. level_fault s [] nothing_held words false []) (find test subs) [])
    ≡ option_map_or (λ s. level_passes s [] nothing_held words false) (find test subs) true
leaves_free [] test words h = refl
leaves_free (s ∷ rest) test words h = go (test s) (leaves_free rest test words (both (is_easy s) _ h).1)
  where
    go : (b : Bool) → is_empty (option_map_or (λ s. level_fault s [] nothing_held words false []) (find test rest) [])
        ≡ option_map_or (λ s. level_passes s [] nothing_held words false) (find test rest) true
        → is_empty (option_map_or (λ s. level_fault s [] nothing_held words false []) (if b then Some s else find test rest) [])
        ≡ option_map_or (λ s. level_passes s [] nothing_held words false) (if b then Some s else find test rest) true
    go true e = level_free s [] nothing_held words false [] true (both (is_easy s) _ h).0 refl
    go false e = e

entered_free : (a : App) (stop : Option (Text × List Text)) → list_all is_easy a.subs ≡ true → is_empty (entered_fault a stop) ≡ entered_passes a stop
entered_free a None h = refl
entered_free a (Some p) h = leaves_free a.subs (λ s. answers_to p.0 (label_of s)) p.1 h

-- a built command takes just the words of which no kind of error comes
pub built_free : (a : App) (h : Held) (words : List Text) → is_easy a.top ≡ true → list_all is_easy a.subs ≡ true
    → is_empty (built_fault a h words) ≡ built_takes a h words
built_free a h words easy leaves =
    let stop = (walk a.top.rules (names_of a) h words).stopped in
    level_free a.top (names_of a) h words (is_some (entered a stop)) (entered_fault a stop) (entered_passes a stop) easy (entered_free a stop leaves)
