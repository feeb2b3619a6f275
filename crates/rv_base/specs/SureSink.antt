-- A sink in memory that never fails, as its callers see it.
use Rattle.std.specs.Prelude.{ℕ, List}
use Rattle.rv_base.specs.declared.sure_sink.SureSink.{SureSink}

-- What was shown.
abbrev pub shown_by : SureSink → List ℕ
shown_by sink = sink.bytes.items

-- How many pieces were shown.
abbrev pub puts_of : SureSink → ℕ
puts_of sink = sink.puts
