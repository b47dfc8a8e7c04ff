-- Document 01, "Laying": the turns t, and the first darts fs and lengths ns of n lands, as one path changes them, and as the first cycle leaves them.
--   from_port ends x l                         the land l from its first dart that leaves x on
--   stretch_a ends x y l                       its stretch A from x to y
--   stretch_b ends x y l                       its stretch B from y to x
--   IsStretch m r                             r is the first dart of the stretch m, its last dart, and how many it has
--   Found ends x y l r                        r tells this of both stretches of the land l
--   Renewed ls n fs ns fs' ns'                the first n first darts and lengths have become those of the lands ls, and no other has changed
--   Divisible ends t fs ns n i x y q          the path q from x to y can be laid in land i
--   new_turns, new_lands ends t fs ns n i x y q the turns and the lands of the split
--   Divided ends t fs ns n i x y q t' fs' ns' it is laid: turns and lands are those of the split, and the first darts and lengths kept are theirs
--   Cyclic t fs ns l                          the darts l can be laid as the first cycle
--   Begun t fs ns l t' fs' ns'                they are laid: turns and lands are those after the first cycle, and the first darts and lengths kept are theirs
-- Assumes nothing.
use Rattle.std.specs.Prelude.{◌≡◌, ◌≢◌, false, List, [], ◌∷◌, ◌++◌, map, ℕ, ◌+◌, ◌%◌, ◌<◌, ◌≤◌, T, length, get_or, take, drop, replicate}
use Rattle.rules.specs.Terms.{reverse, missing, laid, visits, listed}
use Rattle.rules.specs.Laying.{back, first, last, before, since, around, split_turns, split_lands}
use Rattle.laws.proofs.Counts.{count}
use Rattle.laws.proofs.Sound.{Sound}
use Rattle.land.specs.Walks.{lands}
use Rattle.split.specs.declared.Stretch.{Stretch}
use Rattle.split.specs.declared.Stretches.{Stretches}

-- ---- the stretches of a land

abbrev pub from_port : List ℕ → ℕ → List ℕ → List ℕ
from_port ends x l = since ends x l ++ before ends x l

abbrev pub stretch_a : List ℕ → ℕ → ℕ → List ℕ → List ℕ
stretch_a ends x y l = before ends y (from_port ends x l)

abbrev pub stretch_b : List ℕ → ℕ → ℕ → List ℕ → List ℕ
stretch_b ends x y l = since ends y (from_port ends x l)

pub record IsStretch (m : List ℕ) (r : Stretch) : Type 0 where
  pub first : r.first ≡ first m
  pub last : r.last ≡ last m
  pub size : r.size ≡ length m

pub record Found (ends : List ℕ) (x y : ℕ) (l : List ℕ) (r : Stretches) : Type 0 where
  pub a : IsStretch (stretch_a ends x y l) r.a
  pub b : IsStretch (stretch_b ends x y l) r.b

-- ---- the lands, by first darts and lengths

pub record Renewed (ls : List (List ℕ)) (n : ℕ) (fs ns fs' ns' : List ℕ) : Type 0 where
  pub firsts : take n fs' ≡ map first ls
  pub lens : take n ns' ≡ map length ls
  pub other_firsts : drop n fs' ≡ drop n fs
  pub other_lens : drop n ns' ≡ drop n ns
  pub starts : length fs' ≡ length fs
  pub sizes : length ns' ≡ length ns

-- ---- the split

-- The lands are sound and there is room for one more; x and y are two ports that land i visits; the path has a dart, and its darts are unlaid and go over no channel twice.
pub record Divisible (ends t fs ns : List ℕ) (n i x y : ℕ) (q : List ℕ) : Type 0 where
  pub sound : Sound t (lands t fs ns n)
  pub even : length t % 2 ≡ 0
  pub few : length t < missing
  pub ports : length ends ≡ length t
  pub land : i < n
  pub starts : n < length fs
  pub sizes : n < length ns
  pub apart : x ≢ y
  pub visits_x : T (visits ends (get_or (lands t fs ns n) i []) x)
  pub visits_y : T (visits ends (get_or (lands t fs ns n) i []) y)
  pub some : 1 ≤ length q
  pub fresh : (z : ℕ) → 1 ≤ count z q → (laid t z ≡ false) × (z < length t)
  pub once : (z : ℕ) → count z q + count (reverse z) q ≤ 1

abbrev pub new_turns : List ℕ → List ℕ → List ℕ → List ℕ → ℕ → ℕ → ℕ → ℕ → List ℕ → List ℕ
new_turns ends t fs ns n i x y q =
    let l = get_or (lands t fs ns n) i [] in
    split_turns (stretch_a ends x y l) (stretch_b ends x y l) q t

abbrev pub new_lands : List ℕ → List ℕ → List ℕ → List ℕ → ℕ → ℕ → ℕ → ℕ → List ℕ → List (List ℕ)
new_lands ends t fs ns n i x y q =
    let l = get_or (lands t fs ns n) i [] in
    split_lands i (stretch_a ends x y l) (stretch_b ends x y l) q (lands t fs ns n)

pub record Divided (ends t fs ns : List ℕ) (n i x y : ℕ) (q t' fs' ns' : List ℕ) : Type 0 where
  pub turns : t' ≡ new_turns ends t fs ns n i x y q
  pub lands : lands t' fs' ns' (n + 1) ≡ new_lands ends t fs ns n i x y q
  pub renewed : Renewed (new_lands ends t fs ns n i x y q) (n + 1) fs ns fs' ns'

-- ---- the first cycle

-- There is room for two lands; the cycle has a dart, and its darts go over no channel twice.
pub record Cyclic (t fs ns l : List ℕ) : Type 0 where
  pub even : length t % 2 ≡ 0
  pub few : length t < missing
  pub starts : 2 ≤ length fs
  pub sizes : 2 ≤ length ns
  pub some : 1 ≤ length l
  pub darts : (z : ℕ) → 1 ≤ count z l → z < length t
  pub once : (z : ℕ) → count z l + count (reverse z) l ≤ 1

pub record Begun (t fs ns l t' fs' ns' : List ℕ) : Type 0 where
  pub turns : t' ≡ around l (around (back l) (replicate (length t) missing))
  pub lands : lands t' fs' ns' 2 ≡ listed l ∷ listed (back l) ∷ []
  pub renewed : Renewed (listed l ∷ listed (back l) ∷ []) 2 fs ns fs' ns'
