-- A story read back is what it tells.
-- cycle_of_lem, paths_of_lem: the first cycle and the paths. told_of: a story of darts below m can be listed.
-- Assumes nothing.
use mathlib.Core.Path.{◌≡◌, refl, sym, ap, ◌∙◌, subst}
use mathlib.Core.List.{List, [], ◌∷◌, ◌++◌, map}
use Prim.Native.Nat.{ℕ, suc, ◌+◌, ◌<◌, ◌≤◌}
use native.Mathlib.Omega.{arith}
use lib.ListN.{length, get_or, drop, length-append}
use lib.Seq.{take-append_seam, drop-append_seam}
use Rattle.rules.specs.Lists.{concat}
use Rattle.rules.specs.Laying.{Path}
use Rattle.laws.proofs.Lists.{All}
use Rattle.land.specs.Walks.{Below}
use Rattle.step.specs.Stories.{entry_of, story_of}
use Rattle.lines.specs.Story.{cycle_of, paths_in, paths_of, Entries, Told}

-- the entries of a story
abbrev entries : List Path → List ℕ
entries ps = concat (map entry_of ps)

pub cycle_of_lem : (cyc : List ℕ) (ps : List Path) → cycle_of (story_of cyc ps) ≡ cyc
unfolding cycle_of story_of
cycle_of_lem cyc ps = take-append_seam cyc (entries ps)

behind : (cyc : List ℕ) (ps : List Path) → drop (1 + length cyc) (story_of cyc ps) ≡ entries ps
unfolding story_of
behind cyc ps = ap (λ (k : ℕ). drop k (length cyc ∷ (cyc ++ entries ps))) one ∙ drop-append_seam cyc (entries ps)
  where
    one : 1 + length cyc ≡ suc (length cyc)
    one = omega arith

-- behind an entry
next : (q : Path) (s : List ℕ) → drop (3 + length q.darts) (q.fragment ∷ q.land ∷ length q.darts ∷ (q.darts ++ s)) ≡ s
next q s = ap (λ (k : ℕ). drop k (q.fragment ∷ q.land ∷ length q.darts ∷ (q.darts ++ s))) three ∙ drop-append_seam q.darts s
  where
    three : 3 + length q.darts ≡ suc (suc (suc (length q.darts)))
    three = omega arith

pub paths_in_lem : (ps : List Path) → paths_in (length ps) (entries ps) ≡ ps
unfolding paths_in entry_of concat
paths_in_lem [] = refl
paths_in_lem (q ∷ ps) =
    ap (λ (l : List ℕ). record { fragment = q.fragment; land = q.land; darts = l } ∷ paths_in (length ps) (drop (3 + length q.darts) (entries (q ∷ ps)))) (take-append_seam q.darts (entries ps))
    ∙ ap (λ (s : List ℕ). q ∷ paths_in (length ps) s) (next q (entries ps)) ∙ ap (λ (l : List Path). q ∷ l) (paths_in_lem ps)

story_size_lem : (cyc : List ℕ) (ps : List Path) → length (story_of cyc ps) ≡ suc (length cyc + length (entries ps))
unfolding story_of
story_size_lem cyc ps = ap suc (length-append cyc (entries ps))

number : (cyc : List ℕ) (ps : List Path) → get_or (story_of cyc ps) 0 0 ≡ length cyc
unfolding story_of
number cyc ps = refl

-- behind the first cycle
after : (cyc : List ℕ) (ps : List Path) → drop (1 + get_or (story_of cyc ps) 0 0) (story_of cyc ps) ≡ entries ps
after cyc ps = ap (λ (k : ℕ). drop (1 + k) (story_of cyc ps)) (number cyc ps) ∙ behind cyc ps

pub paths_of_lem : (cyc : List ℕ) (ps : List Path) → paths_of (length ps) (story_of cyc ps) ≡ ps
unfolding paths_of
paths_of_lem cyc ps = ap (paths_in (length ps)) (after cyc ps) ∙ paths_in_lem ps

-- ---- what listing it asks

entries_of : (m : ℕ) (ps : List Path) → All (λ q. (0 < length q.darts) × Below m q.darts) ps → Entries m (length ps) (entries ps)
unfolding entry_of concat
entries_of m [] a = tt
entries_of m (q ∷ ps) a = (
  omega (arith, length-append q.darts (entries ps)),
  a.0.0,
  subst (Below m) (sym (take-append_seam q.darts (entries ps))) a.0.1,
  subst (Entries m (length ps)) (sym (next q (entries ps))) (entries_of m ps a.1),
)

pub told_of : (m : ℕ) (cyc : List ℕ) (ps : List Path) → Below m cyc → All (λ q. (0 < length q.darts) × Below m q.darts) ps → Told m (length ps) (story_of cyc ps)
told_of m cyc ps h a = record {
  some = long;
  cycle = subst (Below m) (sym (cycle_of_lem cyc ps)) h;
  paths = subst (Entries m (length ps)) (sym (after cyc ps)) (entries_of m ps a);
}
  where
    long : 1 + get_or (story_of cyc ps) 0 0 ≤ length (story_of cyc ps)
    long = omega (arith, number cyc ps, story_size_lem cyc ps)
