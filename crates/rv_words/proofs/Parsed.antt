-- From what `clap` says of a parse to what the words mean.
use Rattle.std.proofs.Common.{◌≡◌, ◌∙◌, ap, ap₂, sym, subst, refl, arith, inl, inr, true, false, Bool, List, [], ◌∷◌, Option, None}
use Rattle.std.proofs.Common.{option_map, ◌≢◌}
use Rattle.std.specs.Prelude.{Result, Ok, Err, IfOk, IsErrAnd, IsErrOf}
use Rattle.std.proofs.lemmas.Bool.{ne_eqb}
use Rattle.std.specs.{Prelude.if◌then◌else◌, Prelude.option_and_then}
use Rattle.clap.specs.Words.{App, FailsBy, HasKind, HasMatchesOf, IsAmong, Kinds, Row, Text, fault_of, is_simple, is_simple_and_free, kind_of, subcommand_of}
use Rattle.clap.specs.Words.{subcommand_rows_of}
use Rattle.clap.specs.{Walk.is_empty, declared.error.Error.Error, declared.error.kind.ErrorKind.ErrorKind}
use Rattle.clap.specs.{declared.error.kind.ErrorKind.TheVariants.OutOfMemory, declared.parser.matches.ArgMatches.ArgMatches}
use Rattle.rv_base.specs.declared.memory.Memory.{Memory}
use Rattle.rv_base.specs.declared.memory.Memory.TheVariants as memory
use Rattle.rv_words.specs.{Asked.Asked, Reaver.reaver, Words.asked_by, Words.command, Words.said, declared.command.Command.Command}

reaver_simple : is_simple reaver ≡ true
reaver_simple = refl

reaver_free : is_simple_and_free reaver ≡ true
reaver_free = refl

-- what words mean, by the kinds of error and what was found
abbrev pub meaning : Kinds → Option (Text × List Row) → Option Asked
meaning faults found = if is_empty faults then option_and_then (λ p. asked_by p.0 p.1) found else None

pub meaning_is : (words : List Text) → meaning (fault_of reaver words) (subcommand_of reaver words) ≡ command words
meaning_is words = refl

-- what a command that is the product's found on the words
found_is : (app : App) (words : List Text) (m : ArgMatches) → app ≡ reaver → HasMatchesOf app words m → subcommand_rows_of m ≡ subcommand_of reaver words
found_is app words m is h = (h (ap is_simple is ∙ reaver_simple)).1 ∙ ap (λ (a : App). subcommand_of a words) is

no_fault : (app : App) (words : List Text) → app ≡ reaver → (is_simple_and_free app ≡ true → fault_of app words ≡ []) → fault_of reaver words ≡ []
no_fault app words is h = ap (λ (a : App). fault_of a words) (sym is) ∙ h (ap is_simple_and_free is ∙ reaver_free)

among : (k : ErrorKind) (ks : Kinds) → IsAmong k ks → is_empty ks ≡ false
among k [] h = absurd h
among k (x ∷ xs) h = ne_eqb _ _ (λ e. omega arith)

-- what is read of the library's answer on the words is what they mean
module _ (app : App) (words : List Text) (is : app ≡ reaver) where
  -- it found a subcommand or none
  pub parsed : (m : ArgMatches) → HasMatchesOf app words m → (is_simple_and_free app ≡ true → fault_of app words ≡ [])
      → option_and_then (λ p. asked_by p.0 p.1) (subcommand_rows_of m) ≡ command words
  parsed m matches passes = ap₂ meaning (sym (no_fault app words is passes)) (found_is app words m is matches) ∙ meaning_is words

  -- it refused the words
  pub refused : (e : Error) → (is_simple_and_free app ≡ true → HasKind (fault_of app words) e) → (kind_of e ≡ OutOfMemory → ⊥) → None ≡ command words
  refused e fails other = go (fault_of reaver words) (subcommand_of reaver words)
      (subst (λ (a : App). HasKind (fault_of a words) e) is (fails (ap is_simple_and_free is ∙ reaver_free))) ∙ meaning_is words
    where
      go : (ks : Kinds) (found : Option (Text × List Row)) → HasKind ks e → None ≡ meaning ks found
      go ks found h = elim h [
        | inl memory ↦ absurd (other memory)
        | inr some ↦ ap (λ (b : Bool). if b then option_and_then (λ p. asked_by p.0 p.1) found else None) (sym (among (kind_of e) ks some))
      ]

  pub answered : (answer : Result ArgMatches Error) (result : Result (Option Command) Memory) → IfOk answer (HasMatchesOf app words)
      → (is_simple_and_free app ≡ true → FailsBy (fault_of app words) answer)
      → (IsErrAnd answer (λ e. kind_of e ≡ OutOfMemory) → IsErrOf result memory.Memory)
      → (IsErrAnd answer (λ e. kind_of e ≢ OutOfMemory) → result ≡ Ok None)
      → IfOk answer (λ m. IfOk result (λ found. option_map said found ≡ option_and_then (λ p. asked_by p.0 p.1) (subcommand_rows_of m)))
      → IfOk result (λ found. option_map said found ≡ command words)
  answered answer (Err e) matches fails wants none found = tt
  answered (Ok m) (Ok found) matches fails wants none is_found = is_found ∙ parsed m matches fails
  answered (Err e) (Ok found) matches fails wants none is_found =
      let other : kind_of e ≡ OutOfMemory → ⊥ = λ memory. never found (wants memory) in
      ap (option_map said) (inner found None (none other)) ∙ refused e fails other
    where
      never : (found : Option Command) → IsErrOf (Ok found) memory.Memory → ⊥
      never found h = cc

      inner : (a b : Option Command) → (let told : Result (Option Command) Memory = Ok a in told) ≡ Ok b → a ≡ b
      inner a b h = cc
