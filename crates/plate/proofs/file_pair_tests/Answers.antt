-- `plate::file_pair_tests` meets its contract: the front of the array has the ports of the file's pairs.
-- Assumes nothing.
use mathlib.Core.Path.{◌≡◌, ap, ◌∙◌}
use Prim.Native.Nat.{◌*◌}
use native.Mathlib.Omega.{arith}
use lib.ListN.{length, take}
use Rattle.rules.specs.Files.{plate_file, ends_in}
use Rattle.laws.proofs.Refusals.{length_ends}
use Rattle.plate.proofs.Copies.{ends_front, pair_tests_as}
use Rattle.plate.proofs.file_pair_tests.Goals as goal
use Rattle.plate.proofs.file_pair_tests.Goals.{After-ends_in-ends}

-- the part of the array that is lent
front : (c : After-ends_in-ends) → take (2 * c.counts-head.result.channels) c.ends_in-ends.result ≡ ends_in plate_file c.args.file.now
front c = ends_front _ _ c.counts-head.ensures.1 _ c.requires.few c.requires.long c.ends_in-ends.ensures.0

pub slice_bounds-pair_tests-end : goal.slice_bounds-pair_tests-end
slice_bounds-pair_tests-end c = omega (arith, ap length (front (goal.at.slice_bounds-pair_tests-end c).After-ends_in-ends), length_ends plate_file c.args.file.now, c.counts-head.ensures.1)

pub pair_tests-requires : goal.pair_tests-requires
pair_tests-requires c = omega (arith, ap length (front (goal.at.pair_tests-requires c).After-ends_in-ends), length_ends plate_file c.args.file.now)

pub returns : goal.returns
returns c = c.pair_tests.ensures ∙ pair_tests_as _ _ c.counts-head.ensures.1 _ _ _ c.counts-head.ensures.0 (front (goal.at.returns c).After-ends_in-ends)
