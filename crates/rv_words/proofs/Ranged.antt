-- The numbers of a command are within their ranges.
use Rattle.std.proofs.Common.{◌≡◌, ℕ, Bool, true, false, List, Option, Some, None, refl, subst, arith, ◌&&◌}
use Rattle.std.proofs.{lemmas.Bool.leb-true, lemmas.Option.option_and_then_some, NetLemmas.Options.map_some}
use Rattle.std.specs.Prelude.{option_map, option_and_then, if◌then◌else◌, nat_le, codes}
use Rattle.std.specs.{Option.option_map_or, Str.bytes_eq, Str.Parse.digits_value}
use Rattle.clap.specs.{Words.Row, Words.Text, Words.fault_of, Words.first_of, Words.subcommand_of, Walk.is_empty}
use Rattle.rv_words.specs.Words.{acceleration_of, asked_by, checking, command, count_of, digits_of, is_numeral, locations_of, names_of, nodes_of, proving}
use Rattle.rv_words.specs.Words.{replaying}
use Rattle.rv_words.specs.{Asked.Asked, Asked.prove, Asked.check, Asked.replay, Asked.make, Asked.tour, Ranges.HasRanges, Ranges.IsUpTo, Reaver.reaver}
use Rattle.rv_base.proofs.{Options.some_same, Truths.both_of}

-- what a choice between something and none gives
chosen : {X : Type 0} (b : Bool) (o : Option X) (x : X) → (if b then o else None) ≡ Some x → (b ≡ true) × (o ≡ Some x)
chosen true o x e = (refl, e)
chosen false o x e = absurd (let bad : ⊥ = cc in bad)

pub digits-in_range : (most : ℕ) (text : Text) (n : ℕ) → digits_of 1 most text ≡ Some n → IsUpTo most n
digits-in_range most text n e =
    let d = digits_value 10 text in
    let parts = chosen (is_numeral text && nat_le 1 d && nat_le d most) (Some d) n e in
    let first = both_of (is_numeral text && nat_le 1 d) (nat_le d most) parts.0 in
    let second = both_of (is_numeral text) (nat_le 1 d) first.0 in
    subst (IsUpTo most) (some_same d n parts.1) (leb-true 1 d second.1, leb-true d most first.1)

-- what an option says, or its default
limited : (most default : ℕ) (o : Option Text) (n : ℕ) → IsUpTo most default → option_map_or (digits_of 1 most) o (Some default) ≡ Some n → IsUpTo most n
limited most default None n is e = subst (IsUpTo most) (some_same default n e) is
limited most default (Some text) n is e = digits-in_range most text n e

nodes-in_range : (rows : List Row) (n : ℕ) → nodes_of rows ≡ Some n → IsUpTo 33554432 n
nodes-in_range rows n e = limited 33554432 4194304 (first_of (codes "nodes") rows) n (omega arith, omega arith) e

locations-in_range : (rows : List Row) (n : ℕ) → locations_of rows ≡ Some n → IsUpTo 4096 n
locations-in_range rows n e = limited 4096 256 (first_of (codes "locations") rows) n (omega arith, omega arith) e

count-in_range : (rows : List Row) (n : ℕ) → count_of rows ≡ Some n → IsUpTo 2000 n
count-in_range rows n e =
    option_and_then_some (digits_of 1 2000) (first_of (codes "count") rows) n e (λ text there read. digits-in_range 2000 text n read)

module _ (rows : List Row) (a : Asked) where
  proving-in_range : proving rows ≡ Some a → HasRanges a
  proving-in_range e = option_and_then_some _ (names_of rows) a e (λ names there found.
      option_and_then_some _ (nodes_of rows) a found (λ nodes limit placed.
      option_and_then_some _ (locations_of rows) a placed (λ locations several answered.
      map_some (λ accelerate. prove names.0 names.1 nodes locations accelerate) (acceleration_of rows) a answered (λ accelerate said is.
      subst HasRanges is (nodes-in_range rows nodes limit, locations-in_range rows locations several)))))

  checking-in_range : checking rows ≡ Some a → HasRanges a
  checking-in_range e = option_and_then_some _ (names_of rows) a e (λ names there found.
      option_and_then_some _ (first_of (codes "invariant") rows) a found (λ invariant beside placed.
      map_some (λ nodes. check names.0 names.1 invariant nodes) (nodes_of rows) a placed (λ nodes limit is.
      subst HasRanges is (nodes-in_range rows nodes limit))))

  replaying-in_range : replaying rows ≡ Some a → HasRanges a
  replaying-in_range e = option_and_then_some _ (names_of rows) a e (λ names there found.
      map_some (replay names.0 names.1) (first_of (codes "trace") rows) a found (λ trace beside is. subst HasRanges is tt))

  making-in_range : option_map make (count_of rows) ≡ Some a → HasRanges a
  making-in_range e = map_some make (count_of rows) a e (λ count there is. subst HasRanges is (count-in_range rows count there))

  touring-in_range : option_map tour (count_of rows) ≡ Some a → HasRanges a
  touring-in_range e = map_some tour (count_of rows) a e (λ count there is. subst HasRanges is (count-in_range rows count there))

  -- one of the five, or none
  five : (p c r m t : Bool) → (if p then proving rows else (if c then checking rows else
      (if r then replaying rows else (if m then option_map make (count_of rows)
      else (if t then option_map tour (count_of rows) else None))))) ≡ Some a → HasRanges a
  five true c r m t e = proving-in_range e
  five false true r m t e = checking-in_range e
  five false false true m t e = replaying-in_range e
  five false false false true t e = making-in_range e
  five false false false false true e = touring-in_range e
  five false false false false false e = absurd (let bad : ⊥ = cc in bad)

  pub asked-in_range : (name : Text) → asked_by name rows ≡ Some a → HasRanges a
  asked-in_range name e =
      five (bytes_eq name (codes "prove")) (bytes_eq name (codes "check")) (bytes_eq name (codes "replay")) (bytes_eq name (codes "make"))
      (bytes_eq name (codes "tour")) e

pub command-in_range : (words : List Text) (a : Asked) → command words ≡ Some a → HasRanges a
command-in_range words a e =
    let parts = chosen (is_empty (fault_of reaver words)) (option_and_then (λ (found : Text × List Row). asked_by found.0 found.1) (subcommand_of reaver words))
    a e in
    option_and_then_some (λ (found : Text × List Row). asked_by found.0 found.1) (subcommand_of reaver words) a parts.1
    (λ found there is. asked-in_range found.1 a found.0 is)
