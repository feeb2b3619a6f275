-- The command's faults and matches, by the walks of its two levels.
use Rattle.std.proofs.Common.{◌≡◌, ◌∙◌, ap, ap₂, sym, refl, append-nil, codes, false, ℕ, List, [], ◌∷◌, ◌++◌, Option, Some, is_some}
use Rattle.std.specs.List.{fold, slice_index_or}
use Rattle.clap.specs.Walk.{Text, Walk, finished, nothing_held, rows_after, settled, walk_from, walked}
use Rattle.clap.specs.Faults.{check_fault, defaults_fault, entered_fault, level_fault, settle_fault, turn_fault, walk_fault}
use Rattle.clap.specs.{Kinds.Kinds, Kinds.or_else, Simple.App, Simple.Shape, Simple.built, Simple.entered, Simple.names_of, Words.fault_of, Words.subcommand_of}
use Rattle.clap.proofs.{FaultLemmas.stopped_fault, OnLiterals.clap_on_literals}
use Rattle.rv_words.specs.{Asked.Asked, Reaver.prove, Reaver.reaver, Words.command}
use Rattle.rv_words.proofs.Parsed.{meaning, meaning_is}
use Rattle.rv_words.proofs.Plain.{Placeable, gathers, placed, plain_fault, plain_walk, plain_walk_fault}

abbrev pub whole : App
whole = built reaver

abbrev pub start : Walk
start = walk_from nothing_held

-- a subcommand as it is built, by its place
abbrev pub leaf : ℕ → Shape
leaf i = slice_index_or whole.subs i prove

-- the faults of a subcommand, by those of its words and by where the walk over them ends
abbrev pub leaf_faults : Shape → Kinds → Walk → Kinds
leaf_faults s faults w = or_else faults (or_else [] (or_else (settle_fault s.rules s.args_override_self w.held)
    (or_else (defaults_fault (settled s.rules w.held).rows s.rules) (check_fault s (finished s.rules w.held) false))))

-- the same of the command itself
abbrev top_faults : Kinds → Walk → Kinds
top_faults faults w = or_else faults (or_else (entered_fault whole w.stopped) (or_else (settle_fault whole.top.rules whole.top.args_override_self w.held)
    (or_else (defaults_fault (settled whole.top.rules w.held).rows whole.top.rules)
    (check_fault whole.top (finished whole.top.rules w.held) (is_some (entered whole w.stopped))))))

top_is : (program : Text) (words : List Text)
    → fault_of reaver (program ∷ words) ≡ top_faults (walk_fault whole.top (names_of whole) start words)
    (fold (walked whole.top.rules (names_of whole)) start words)
top_is program words = refl

found_is : (program : Text) (words : List Text)
    → subcommand_of reaver (program ∷ words) ≡ entered whole (fold (walked whole.top.rules (names_of whole)) start words).stopped
found_is program words = refl

-- the walk where a subcommand's name stands first
abbrev stopped_at : Text → List Text → Walk
stopped_at name words = record start { stopped = Some (name, words) }

walk_is : (name : Text) (words : List Text) → walked whole.top.rules (names_of whole) start name ≡ stopped_at name []
    → fold (walked whole.top.rules (names_of whole)) start (name ∷ words) ≡ stopped_at name words
walk_is name words here =
    ap (λ w. fold (walked whole.top.rules (names_of whole)) w words) here ∙ gathers whole.top.rules (names_of whole) start name [] words

faults_are : (name : Text) (words : List Text) → walked whole.top.rules (names_of whole) start name ≡ stopped_at name []
    → turn_fault whole.top (names_of whole) start name ≡ [] → walk_fault whole.top (names_of whole) start (name ∷ words) ≡ []
unfolding walk_fault
faults_are name words here none =
    ap₂ or_else none (ap (λ w. walk_fault whole.top (names_of whole) w words) here ∙ stopped_fault whole.top (names_of whole) start (name, []) words)

-- what the words mean, by the subcommand, by the faults of its words and by where the walk over them ends
abbrev pub meant : Shape → Text → Kinds → Walk → Option Asked
meant s name faults w = meaning (or_else (leaf_faults s faults w) []) (Some (name, finished s.rules w.held))

by_leaf : (s : Shape) (name program : Text) (words : List Text) → walked whole.top.rules (names_of whole) start name ≡ stopped_at name []
    → turn_fault whole.top (names_of whole) start name ≡ []
    → top_faults [] (stopped_at name words) ≡ or_else (level_fault s [] nothing_held words false []) []
    → entered whole (Some (name, words)) ≡ Some (name, rows_after s.rules [] words)
    → command (program ∷ name ∷ words) ≡ meant s name (walk_fault s [] start words) (fold (walked s.rules []) start words)
by_leaf s name program words here none below found =
    sym (meaning_is (program ∷ name ∷ words))
    ∙ ap₂ meaning
    (top_is program (name ∷ words) ∙ (ap₂ top_faults (faults_are name words here none) (walk_is name words here) ∙ below))
    (found_is program (name ∷ words) ∙ (ap (λ (w : Walk). entered whole w.stopped) (walk_is name words here) ∙ found))

pub by_prove : (program : Text) (words : List Text)
    → command (program ∷ codes "prove" ∷ words)
    ≡ meant (leaf 0) (codes "prove") (walk_fault (leaf 0) [] start words) (fold (walked (leaf 0).rules []) start words)
unfolding clap_on_literals
by_prove program words = by_leaf (leaf 0) (codes "prove") program words refl refl refl refl

pub by_check : (program : Text) (words : List Text)
    → command (program ∷ codes "check" ∷ words)
    ≡ meant (leaf 1) (codes "check") (walk_fault (leaf 1) [] start words) (fold (walked (leaf 1).rules []) start words)
unfolding clap_on_literals
by_check program words = by_leaf (leaf 1) (codes "check") program words refl refl refl refl

pub by_replay : (program : Text) (words : List Text)
    → command (program ∷ codes "replay" ∷ words)
    ≡ meant (leaf 2) (codes "replay") (walk_fault (leaf 2) [] start words) (fold (walked (leaf 2).rules []) start words)
unfolding clap_on_literals
by_replay program words = by_leaf (leaf 2) (codes "replay") program words refl refl refl refl

pub by_make : (program : Text) (words : List Text)
    → command (program ∷ codes "make" ∷ words)
    ≡ meant (leaf 3) (codes "make") (walk_fault (leaf 3) [] start words) (fold (walked (leaf 3).rules []) start words)
unfolding clap_on_literals
by_make program words = by_leaf (leaf 3) (codes "make") program words refl refl refl refl

pub by_tour : (program : Text) (words : List Text)
    → command (program ∷ codes "tour" ∷ words)
    ≡ meant (leaf 4) (codes "tour") (walk_fault (leaf 4) [] start words) (fold (walked (leaf 4).rules []) start words)
unfolding clap_on_literals
by_tour program words = by_leaf (leaf 4) (codes "tour") program words refl refl refl refl

-- where the words begin with plain ones
pub by_plain : (s : Shape) (name : Text) (words rest : List Text) → Placeable s.rules start words
    → meant s name (walk_fault s [] start (words ++ rest)) (fold (walked s.rules []) start (words ++ rest))
    ≡ meant s name (plain_fault s start words (walk_fault s [] (fold (placed s.rules) start words) rest))
    (fold (walked s.rules []) (fold (placed s.rules) start words) rest)
by_plain s name words rest plain = ap₂ (meant s name) (plain_walk_fault s start words rest plain) (plain_walk s.rules start words rest plain)

pub no_more : (s : Shape) (w : Walk) → walk_fault s [] w [] ≡ []
unfolding walk_fault
no_more s w = refl

-- where they are all plain
pub by_words : (s : Shape) (name : Text) (words : List Text) → Placeable s.rules start words
    → meant s name (walk_fault s [] start words) (fold (walked s.rules []) start words)
    ≡ meant s name (plain_fault s start words []) (fold (placed s.rules) start words)
by_words s name words plain =
    ap (λ (xs : List Text). meant s name (walk_fault s [] start xs) (fold (walked s.rules []) start xs)) (sym (append-nil words))
    ∙ (by_plain s name words [] plain
    ∙ ap (λ f. meant s name (plain_fault s start words f) (fold (placed s.rules) start words)) (no_more s (fold (placed s.rules) start words)))

-- past one word that has no fault
pub past_word : (s : Shape) (w after : Walk) (word : Text) (rest : List Text) → walked s.rules [] w word ≡ after → turn_fault s [] w word ≡ []
    → walk_fault s [] w (word ∷ rest) ≡ walk_fault s [] after rest
unfolding walk_fault
past_word s w after word rest is none = ap₂ or_else none (ap (λ v. walk_fault s [] v rest) is)

-- where a word has no fault and those behind it are plain, what is meant is by the walk past the word
pub behind : (s : Shape) (name word : List ℕ) (after : Walk) (words : List (List ℕ)) → walked s.rules [] start word ≡ after → turn_fault s [] start word ≡ []
    → Placeable s.rules after words
    → meant s name (walk_fault s [] start (word ∷ words)) (fold (walked s.rules []) start (word ∷ words))
    ≡ meant s name (plain_fault s after words []) (fold (placed s.rules) after words)
behind s name word after words is none plain =
    let faults = past_word s start after word words is none ∙ (ap (walk_fault s [] after) (sym (append-nil words))
    ∙ (plain_walk_fault s after words [] plain ∙ ap (plain_fault s after words) (no_more s (fold (placed s.rules) after words)))) in
    let ends = ap (λ w. fold (walked s.rules []) w words) is ∙ (ap (fold (walked s.rules []) after) (sym (append-nil words))
    ∙ plain_walk s.rules after words [] plain) in
    ap₂ (meant s name) faults ends
