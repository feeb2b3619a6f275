-- What the walk over the words makes of words that are no flags, whatever their text.
use Rattle.std.proofs.Common.{◌≡◌, ◌∙◌, ◌==◌, ◌&&◌, ◌++◌, ap, ap₂, sym, refl, true, false, Bool, ℕ, List, [], ◌∷◌, Some, None, is_some, append-nil}
use Rattle.std.proofs.Common.{append_assoc}
use Rattle.std.specs.{Prelude.⊤, Prelude.if◌then◌else◌, Prelude.option_and_then, List.fold, Option.option_map_or, Str.bytes_eq}
use Rattle.clap.specs.Walk.{Held, Names, Rule, Step, Text, Waiting, Walk, after_step, idle, long_or_other, option, plain_word, positional, short_or_plain}
use Rattle.clap.specs.Walk.{subcommand_met, subcommand_or_other, trailing, walked, walked_from, word_met}
use Rattle.clap.specs.Faults.{bundle_fault, flag_word_fault, other_fault, step_fault, turn_fault, walk_fault, word_fault}
use Rattle.clap.specs.{Lexer.long_of, Lexer.long_of_rest, Lexer.short_of, Lexer.short_of_rest, Lexer.strip_byte, Kinds.Kinds, Kinds.or_else, Simple.Shape}
use Rattle.rv_words.specs.Plain.{is_plain}
use Rattle.rv_base.proofs.Truths.{of_not_true}

-- a plain word is not `--`, and neither a long nor a short flag
plain_parts : (word : Text) → is_plain word ≡ true → (bytes_eq word (45 ∷ 45 ∷ []) ≡ false) × (long_of word ≡ None) × (short_of word ≡ None)
plain_parts [] h = (refl, refl, refl)
plain_parts (x ∷ []) h = one (x == 45)
  where
    one : (b : Bool) → ((b && false) ≡ false) × (option_and_then long_of_rest (option_and_then (strip_byte 45) (if b then Some [] else None)) ≡ None)
        × (option_and_then short_of_rest (if b then Some [] else None) ≡ None)
    one true = (refl, refl, refl)
    one false = (refl, refl, refl)
plain_parts (x ∷ y ∷ rest) h =
    let other : (x == 45) ≡ false = of_not_true (x == 45) h in (
      ap (λ b. b && bytes_eq (y ∷ rest) (45 ∷ [])) other,
      ap (λ b. option_and_then long_of_rest (option_and_then (strip_byte 45) (if b then Some (y ∷ rest) else None))) other,
      ap (λ b. option_and_then short_of_rest (if b then Some (y ∷ rest) else None)) other,
    )

-- the walk after a word that is no flag, where there are no subcommands
abbrev pub placed : List Rule → Walk → Text → Walk
placed c w word = after_step c word w (plain_word c w.waiting word w.held).0 (plain_word c w.waiting word w.held).1

no_name : (waiting : Waiting) (word : Text) → subcommand_met [] waiting word ≡ None
no_name idle word = refl
no_name (option id) word = refl
no_name positional word = refl

met_plain : (c : List Rule) (waiting : Waiting) (position : ℕ) (word : Text) (h : Held) → is_plain word ≡ true
    → word_met c [] false waiting position word h ≡ plain_word c waiting word h
met_plain c waiting position word h plain =
    let parts = plain_parts word plain in
    ap (λ name. subcommand_or_other c name waiting position word h) (no_name waiting word)
    ∙ (ap (λ b. if b then (h, trailing position) else long_or_other c waiting word (long_of word) h) parts.0
    ∙ (ap (λ l. long_or_other c waiting word l h) parts.1 ∙ ap (λ s. short_or_plain c waiting word s h) parts.2))

met_here : (c : List Rule) (w : Walk) (word : Text) → is_plain word ≡ true → w.is_trailing ≡ false
    → word_met c [] w.is_trailing w.waiting w.position word w.held ≡ plain_word c w.waiting word w.held
met_here c w word plain before = ap (λ b. word_met c [] b w.waiting w.position word w.held) before ∙ met_plain c w.waiting w.position word w.held plain

placed_is : (c : List Rule) (w : Walk) (word : Text) → is_plain word ≡ true → w.is_trailing ≡ false → w.stopped ≡ None → walked c [] w word ≡ placed c w word
unfolding walked
placed_is c w word plain before going =
    ap (λ o. walked_from c [] o w word) going ∙ ap (λ (m : Held × Step). after_step c word w m.0 m.1) (met_here c w word plain before)

-- the words are plain, and the walk takes each as such
abbrev pub Placeable : List Rule → Walk → List Text → Type 0
Placeable c w [] = ⊤
Placeable c w (x ∷ xs) = (is_plain x ≡ true) × (w.is_trailing ≡ false) × (w.stopped ≡ None) × Placeable c (placed c w x) xs

pub plain_walk : (c : List Rule) (w : Walk) (words rest : List Text) → Placeable c w words
    → fold (walked c []) w (words ++ rest) ≡ fold (walked c []) (fold (placed c) w words) rest
plain_walk c w [] rest h = refl
plain_walk c w (x ∷ xs) rest h = ap (λ v. fold (walked c []) v (xs ++ rest)) (placed_is c w x h.0 h.1 h.2) ∙ plain_walk c (placed c w x) xs rest h.3

-- the faults of a plain word
abbrev pub placed_fault : Shape → Walk → Text → Kinds
placed_fault s w word = step_fault s w.position (plain_word s.rules w.waiting word w.held).0 (plain_word s.rules w.waiting word w.held).1

no_word_fault : (s : Shape) (waiting : Waiting) (word : Text) (h : Held) → is_plain word ≡ true → word_fault s [] false waiting word h ≡ []
no_word_fault s waiting word h plain =
    let parts = plain_parts word plain in
    ap (λ name. other_fault s name word h) (no_name waiting word)
    ∙ (ap (λ b. if b then [] else flag_word_fault s.rules s.args_override_self (long_of word) word h) parts.0
    ∙ (ap (λ l. flag_word_fault s.rules s.args_override_self l word h) parts.1
    ∙ ap (λ o. option_map_or (λ flags. bundle_fault s.rules s.args_override_self flags h) o []) parts.2))

turn_is : (s : Shape) (w : Walk) (word : Text) → is_plain word ≡ true → w.is_trailing ≡ false → w.stopped ≡ None
    → turn_fault s [] w word ≡ placed_fault s w word
turn_is s w word plain before going =
    ap (λ o. if is_some o then [] else or_else (word_fault s [] w.is_trailing w.waiting word w.held)
    (step_fault s w.position (word_met s.rules [] w.is_trailing w.waiting w.position word w.held).0
    (word_met s.rules [] w.is_trailing w.waiting w.position word w.held).1)) going
    ∙ ap₂ (λ f (m : Held × Step). or_else f (step_fault s w.position m.0 m.1))
    (ap (λ b. word_fault s [] b w.waiting word w.held) before ∙ no_word_fault s w.waiting word w.held plain)
    (met_here s.rules w word plain before)

abbrev pub plain_fault : Shape → Walk → List Text → Kinds → Kinds
plain_fault s w [] last = last
plain_fault s w (x ∷ xs) last = or_else (placed_fault s w x) (plain_fault s (placed s.rules w x) xs last)

pub plain_walk_fault : (s : Shape) (w : Walk) (words rest : List Text) → Placeable s.rules w words
    → walk_fault s [] w (words ++ rest) ≡ plain_fault s w words (walk_fault s [] (fold (placed s.rules) w words) rest)
unfolding walk_fault
plain_walk_fault s w [] rest h = refl
plain_walk_fault s w (x ∷ xs) rest h =
    ap₂ or_else (turn_is s w x h.0 h.1 h.2)
    (ap (λ v. walk_fault s [] v (xs ++ rest)) (placed_is s.rules w x h.0 h.1 h.2) ∙ plain_walk_fault s (placed s.rules w x) xs rest h.3)

-- past a subcommand's name the walk only gathers the words
pub gathers : (c : List Rule) (names : Names) (w : Walk) (name : Text) (gathered words : List Text)
    → fold (walked c names) (record w { stopped = Some (name, gathered) }) words ≡ record w { stopped = Some (name, gathered ++ words) }
unfolding walked
gathers c names w name gathered [] = ap (λ l. record w { stopped = Some (name, l) }) (sym (append-nil gathered))
gathers c names w name gathered (x ∷ xs) =
    gathers c names w name (gathered ++ x ∷ []) xs ∙ ap (λ l. record w { stopped = Some (name, l) }) (append_assoc gathered (x ∷ []) xs)
