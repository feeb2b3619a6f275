-- What the words of the command line mean.
use Rattle.std.specs.Prelude.{String, ℕ, Bool, true, false, List, map, length, codes, Option, Some, None, ◌&&◌, option_map, option_and_then, if◌then◌else◌}
use Rattle.std.specs.Prelude.{nat_le}
use Rattle.std.specs.{List.list_all, Option.option_map_or, Char.is_ascii_digit, Str.bytes_eq, Str.Parse.digits_value, String.string_bytes, Global.Global}
use Rattle.clap.specs.{Words.Row, Words.Text, Words.fault_of, Words.first_of, Words.subcommand_of, Walk.is_empty}
use Rattle.rv_words.specs.{Asked.Asked, Reaver.reaver, declared.command.Command.Command}
use Rattle.rv_words.specs.Asked as asked
use Rattle.rv_words.specs.declared.command.Command.TheVariants as read

-- The words as texts.
abbrev pub texts : List (String Global) → List Text
texts words = map (λ word. string_bytes word) words

-- One to ten ASCII decimal digits.
abbrev pub is_numeral : Text → Bool
is_numeral text = nat_le 1 (length text) && nat_le (length text) 10 && list_all (λ byte. is_ascii_digit byte) text

-- The number that one to ten decimal digits write, leading zeros allowed, where it lies from `least` to `most`; none of any
-- other text.
abbrev pub digits_of : ℕ → ℕ → Text → Option ℕ
digits_of least most text =
    if is_numeral text && nat_le least (digits_value 10 text) && nat_le (digits_value 10 text) most
    then Some (digits_value 10 text) else None

-- Exactly `yes` or `no`.
abbrev pub answer_of : Text → Option Bool
answer_of text = if bytes_eq text (codes "yes") then Some true else (if bytes_eq text (codes "no") then Some false else None)

-- What an option says, read by `reads`, and the default where it is left out.
abbrev pub option_or : {X : Type 0} → X → (Text → Option X) → Text → List Row → Option X
option_or default reads id rows = option_map_or reads (first_of id rows) (Some default)

-- `--nodes`: from 1 to 33,554,432, and 4,194,304 where it is left out.
abbrev pub nodes_of : List Row → Option ℕ
nodes_of = option_or 4194304 (digits_of 1 33554432) (codes "nodes")

-- `--locations`: from 1 to 4,096, and 256 where it is left out.
abbrev pub locations_of : List Row → Option ℕ
locations_of = option_or 256 (digits_of 1 4096) (codes "locations")

-- `--accelerate`: yes where it is left out.
abbrev pub acceleration_of : List Row → Option Bool
acceleration_of = option_or true answer_of (codes "accelerate")

-- The names of the file and the node.
abbrev pub names_of : List Row → Option (Text × Text)
names_of rows = option_and_then (λ file. option_map (λ node. (file, node)) (first_of (codes "node") rows)) (first_of (codes "file") rows)

-- What `prove` asks for, by the matches of its arguments.
abbrev pub proving : List Row → Option Asked
proving rows = option_and_then (λ names. option_and_then (λ nodes. option_and_then (λ locations. option_map
    (λ accelerate. asked.prove names.0 names.1 nodes locations accelerate) (acceleration_of rows)) (locations_of rows)) (nodes_of rows))
    (names_of rows)

-- What `check` asks for.
abbrev pub checking : List Row → Option Asked
checking rows = option_and_then (λ names. option_and_then (λ invariant. option_map
    (λ nodes. asked.check names.0 names.1 invariant nodes) (nodes_of rows)) (first_of (codes "invariant") rows)) (names_of rows)

-- What `replay` asks for.
abbrev pub replaying : List Row → Option Asked
replaying rows = option_and_then (λ names. option_map (asked.replay names.0 names.1) (first_of (codes "trace") rows)) (names_of rows)

-- N of `make` and `tour`: from 1 to 2,000.
abbrev pub count_of : List Row → Option ℕ
count_of rows = option_and_then (digits_of 1 2000) (first_of (codes "count") rows)

-- What a subcommand with these matches asks for.
abbrev pub asked_by : Text → List Row → Option Asked
asked_by name rows =
    if bytes_eq name (codes "prove") then proving rows
    else (if bytes_eq name (codes "check") then checking rows
    else (if bytes_eq name (codes "replay") then replaying rows
    else (if bytes_eq name (codes "make") then option_map asked.make (count_of rows)
    else (if bytes_eq name (codes "tour") then option_map asked.tour (count_of rows)
    else None))))

-- What the words ask for, none where they are no command. The first word is the program's name. By `clap`'s definition `fault_of` no
-- kind of error but want of memory comes of a parse of these words (which is to say that its definition `takes` holds of them:
-- `taken_words`), and by its definition `subcommand_of` it finds the name of the subcommand and the matches of its arguments. Of
-- their texts the numbers and `yes` or `no` are then read.
abbrev pub command : List Text → Option Asked
command words =
    if is_empty (fault_of reaver words) then option_and_then (λ found. asked_by found.0 found.1) (subcommand_of reaver words) else None

-- A command that was read, as plain values.
abbrev pub said : Command → Asked
said (read.Prove p) = asked.prove p.file.now p.node.now p.nodes p.locations p.accelerate
said (read.Check c) = asked.check c.file.now c.node.now c.invariant.now c.nodes
said (read.Replay r) = asked.replay r.file.now r.node.now r.trace.now
said (read.Make count) = asked.make count
said (read.Tour count) = asked.tour count
