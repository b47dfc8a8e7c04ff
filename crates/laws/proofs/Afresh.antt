-- Walked afresh along the turns, every land that is kept comes out as it is listed (document 01, "Terms" and "Laying").
-- walk_run, walk_land: a walk along a run, and along a land, comes back with it. afresh: so it is with sound turns and lands. afresh_laid_out: so it is with every plate that is read, laid with at most n paths.
-- Assumes nothing.
use mathlib.Core.Path.{◌≡◌, sym, ◌∙◌}
use mathlib.Core.List.{List, ◌∷◌, []}
use Prim.Native.Nat.{ℕ, ◌<◌, zero, suc, ◌≤◌}
use native.Mathlib.Nat.{not-suc-le-zero}
use native.Mathlib.Omega.{arith}
use lib.ListN.{length, get_or}
use Rattle.rules.specs.Terms.{laid, next, walk}
use Rattle.rules.specs.Refusals.{given, Plate, read_plate}
use Rattle.rules.specs.Laying.{first, laid_out}
use Rattle.laws.proofs.Tests.{eqb_yes, eqb_no}
use Rattle.laws.proofs.Counts.{T_flag, flag_le, is_self, count, absent_head, absent_rest, pigeon}
use Rattle.laws.proofs.Runs.{Run, Land}
use Rattle.laws.proofs.Links.{laid_lt}
use Rattle.laws.proofs.Sound.{all_at, count_at, Sound}
use Rattle.laws.proofs.Reading.{kept_laid_out}

-- ---- a walk along a run

pub walk_run : (t : List ℕ) (n a d : ℕ) (l : List ℕ) → Run t d l a → count a l ≡ 0 → length l < n → walk t n a d ≡ d ∷ l
unfolding walk
walk_run t zero a d l h k b = absurd (not-suc-le-zero b)
walk_run t (suc n) a d [] h k b = rw (eqb_yes (next t d) a h)
walk_run t (suc n) a d (x ∷ l) h k b =
    rw (eqb_no (next t d) a (λ e. absent_head a x l k (sym e ∙ h.0)), h.0, walk_run t n a x l h.1 (absent_rest a x l k) (omega arith))

pub walk_land : (t l : List ℕ) → Land t l → ((z : ℕ) → count z l ≤ 1) → length l ≤ length t → walk t (length t) (first l) (first l) ≡ l
unfolding first count
walk_land t [] h u b = absurd h
walk_land t (d ∷ l) h u b = walk_run t (length t) d d l h (omega (arith, u d, is_self d)) (omega arith)

-- ---- lands that are sound

pub afresh : (t : List ℕ) (ls : List (List ℕ)) → Sound t ls → (i : ℕ) → i < length ls
    → walk t (length t) (first (get_or ls i [])) (first (get_or ls i [])) ≡ get_or ls i []
afresh t ls S i h =
    let l = get_or ls i [] in
    let once : (z : ℕ) → count z l ≤ 1 = (λ z. omega (arith, count_at z ls i, S.cover z, flag_le (laid t z))) in
    let in-t : (z : ℕ) → 1 ≤ count z l → z < length t = (λ z k. laid_lt t z (T_flag (laid t z) (omega (arith, count_at z ls i, S.cover z)))) in
    walk_land t l (all_at (Land t) ls i h S.follow) once (pigeon (length t) l in-t once)

-- ---- a plate that is read, laid with any number of paths

pub afresh_laid_out : (b : List ℕ) (p : Plate) → read_plate b ≡ given p → (n i : ℕ) → i < length (laid_out p n).state.lands
    → walk (laid_out p n).state.turns (length (laid_out p n).state.turns) (first (get_or (laid_out p n).state.lands i [])) (first (get_or (laid_out p n).state.lands i []))
    ≡ get_or (laid_out p n).state.lands i []
afresh_laid_out b p h n i l = afresh (laid_out p n).state.turns (laid_out p n).state.lands (kept_laid_out b p h n).sound i l
