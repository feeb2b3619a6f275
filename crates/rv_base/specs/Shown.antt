-- What a put that failed has shown.
use Rattle.std.specs.{Prelude.ℕ, Prelude.◌≤◌, Prelude.List, Prelude.length, Prelude.take, Prelude.Option, Io.KnownBytes.Appends}

-- The bytes have grown by a prefix of the piece.
abbrev pub AppendsPrefix : Option (List ℕ) → Option (List ℕ) → List ℕ → Type 0
AppendsPrefix old new piece = (n : ℕ) × (n ≤ length piece) × Appends old new (take n piece)
