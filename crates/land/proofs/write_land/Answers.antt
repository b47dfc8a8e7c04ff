-- `land::write_land` meets its contract. The loop's invariant: k darts stand in the buffer from `at` on, and those left of the land are those left to walk (`Writing`).
-- Assumes nothing.
use Prim.Native.Nat.{◌<◌}
use mathlib.Core.Path.{◌≡◌, refl}
use native.Mathlib.Omega.{arith}
use lib.ListN.{length}
use Rattle.land.proofs.Walking.{left_dart}
use Rattle.land.proofs.Writing.{write_start, write_size, write_step, write_end}
use Rattle.land.proofs.write_land.Goals as goal
use Rattle.land.proofs.write_land.Goals.{At-loop-k}

-- the buffer is as long as it was
size : (c : At-loop-k) → length c.loop-k.out ≡ length c.args.out.now
size c = write_size _ _ _ _ _ _ _ _ c.requires.n_in_bounds c.loop-k.invariant

-- the dart at hand is one
dart : (c : At-loop-k) → c.loop-k.k < c.args.n → c.loop-k.dart < 65536
dart c h = let p = left_dart _ _ _ _ h c.loop-k.invariant.left in omega (arith, p.few, p.inside.0)

pub loop-k-init : goal.loop-k-init
loop-k-init c = write_start _ _ _ _ _ c.requires.darts

pub overflow_cast-out : goal.overflow_cast-out
overflow_cast-out c = omega (arith, dart (goal.at.overflow_cast-out c).At-loop-k c.loop-k-test.true)

pub bounds-out-at : goal.bounds-out-at
bounds-out-at c = omega (arith, size (goal.at.bounds-out-at c).At-loop-k)

pub after-dart-requires : goal.after-dart-requires
after-dart-requires c = left_dart _ _ _ _ c.loop-k-test.true c.loop-k.invariant.left

pub loop-k-preserved : goal.loop-k-preserved
loop-k-preserved c = write_step _ _ _ _ _ _ _ _ _ _ c.requires.n_in_bounds c.loop-k-test.true refl c.after-dart.ensures c.loop-k.invariant

pub overflow_add-result : goal.overflow_add-result
overflow_add-result c = omega (arith, c.loop-k.invariant.left.most)

pub shape_of-out : goal.shape_of-out
shape_of-out c = size (goal.at.shape_of-out c).At-loop-k

pub returns : goal.returns
returns c = write_end _ _ _ _ _ _ _ _ c.loop-k-test.false c.loop-k.invariant
