-- A sink in memory as its callers see it.
use Rattle.std.specs.Prelude.{ℕ, List}
use Rattle.rv_base.specs.declared.memory_sink.MemorySink.{MemorySink}

-- What was shown.
abbrev pub shown_by : MemorySink → List ℕ
shown_by sink = sink.bytes.items

-- The numbers of the puts that fail.
abbrev pub failing_calls : MemorySink → List ℕ
failing_calls sink = sink.failing.items

-- How many puts there were, those that ended for want of memory not counted: the number of the next one.
abbrev pub calls_of : MemorySink → ℕ
calls_of sink = sink.calls

-- How many puts have failed.
abbrev pub faults_of : MemorySink → ℕ
faults_of sink = sink.faults
