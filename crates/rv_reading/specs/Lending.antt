-- What becomes of a reading whose store is lent.
use Rattle.std.specs.{Prelude.[], Borrow.Lends, Borrow.MutBor, Borrow.Fml}
use Rattle.rv_diagram.specs.Nodes.{Diagrams}
use Rattle.rv_diagram.specs.contracts.store.Store as store
use Rattle.rv_reading.specs.{declared.reading.Reading.Reading, contracts.reading.Reading.the_row}
use mir.Syntax.{named}

-- The reading ends with the store that is left, and is otherwise as it was.
abbrev pub LendsStore : MutBor Reading → MutBor Diagrams → Fml
LendsStore r s = Lends (the_row (record { mir = named 1; lft = [] })) store.the_row r s (λ w. record r.now { store = w })
