use Rattle.rv_proofs.proofs.Rooms.{has_room, stays_small, premise_of_kept, premise_of_test}
use Rattle.rv_proofs.proofs.control.rows_have_room.Goals as goal

pub returns-clause-kept : goal.returns-clause-kept
returns-clause-kept c = premise_of_kept

pub returns-clause-test : goal.returns-clause-test
returns-clause-test c = premise_of_test

pub returns-clause-room : goal.returns-clause-room
returns-clause-room c s r forms is size fits count updates = has_room s is r forms size fits count updates

pub returns-clause-small : goal.returns-clause-small
returns-clause-small c s r forms new is size fits count updates sub = stays_small s is r forms size fits count updates new sub
