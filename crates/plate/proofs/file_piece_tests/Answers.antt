-- `plate::file_piece_tests` meets its contract: the front of the array has the ports of the file's pairs, which are within the limits.
-- Assumes nothing.
use mathlib.Core.Path.{◌≡◌, ap, ◌∙◌}
use Prim.Native.Nat.{◌*◌}
use native.Mathlib.Omega.{arith}
use lib.ListN.{length, take}
use Rattle.rules.specs.Files.{plate_file, ends_in}
use Rattle.laws.proofs.Refusals.{length_ends}
use Rattle.plate.proofs.Copies.{ends_front, piece_tests_as, tested_pairs, tested_whole}
use Rattle.plate.proofs.file_piece_tests.Goals as goal
use Rattle.plate.proofs.file_piece_tests.Goals.{After-ends_in-ends}

pub overflow_mul-darts : goal.overflow_mul-darts
overflow_mul-darts c = omega (arith, c.counts-head.ensures.1, (tested_pairs c.args.file.now c.requires).1)

pub slice_bounds-ends-end : goal.slice_bounds-ends-end
slice_bounds-ends-end c = omega (arith, c.counts-head.ensures.1, c.ends_in-ends.ensures.1, (tested_pairs c.args.file.now c.requires).1)

-- the part of the array that is lent
front : (c : After-ends_in-ends) → take (2 * c.counts-head.result.channels) c.ends_in-ends.result ≡ ends_in plate_file c.args.file.now
front c = ends_front _ _ c.counts-head.ensures.1 _ (tested_pairs _ c.requires).1 (tested_pairs _ c.requires).0 c.ends_in-ends.ensures.0

pub slice_bounds-piece_tests-end : goal.slice_bounds-piece_tests-end
slice_bounds-piece_tests-end c = omega (arith, ap length (front (goal.at.slice_bounds-piece_tests-end c).After-ends_in-ends), length_ends plate_file c.args.file.now, c.counts-head.ensures.1)

pub piece_tests-requires : goal.piece_tests-requires
piece_tests-requires c = tested_whole _ c.requires _ _ c.counts-head.ensures.0 (front (goal.at.piece_tests-requires c).After-ends_in-ends)

pub returns : goal.returns
returns c = c.piece_tests.ensures ∙ piece_tests_as _ _ c.counts-head.ensures.1 _ _ _ c.counts-head.ensures.0 (front (goal.at.returns c).After-ends_in-ends)
