-- Standard output as its callers see it.
use Rattle.std.specs.Prelude.{ℕ}
use Rattle.rv_machine.specs.declared.standard_out.StandardOut.{StandardOut}

-- How many puts have failed.
abbrev pub faults_of : {R : Type 0} → StandardOut R → ℕ
faults_of out = out.faults

-- How many pieces it was given.
abbrev pub puts_of : {R : Type 0} → StandardOut R → ℕ
puts_of out = out.puts
