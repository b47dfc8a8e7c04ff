-- `plate::room_tests` meets its contract: the neighbours are found, and the tests are those of `flood_tests`.
-- Assumes nothing.
use Rattle.plate.proofs.Rooms.{room_asks}
use Rattle.plate.proofs.room_tests.Goals as goal

pub neighbours-requires-clause-ports : goal.neighbours-requires-clause-ports
neighbours-requires-clause-ports c = room_asks _ _ _ _ _ _ c.requires
