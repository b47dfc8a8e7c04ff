-- A file that has what the tests look for is not refused (document 01, "Refusal numbers" 1 to 9 and 12 to 15): the other direction of "Refusals", for any format.
-- refuse_none, refuse_at_none: a test that holds nowhere refuses nothing. ..-pass: the stages. lent_pass: buffers that are long enough.
-- Assumes nothing.
use mathlib.Core.Path.{◌≡◌, refl}
use mathlib.Core.Logic.{⊎_elim}
use mathlib.Core.Bool.{Bool, true, false, not, ◌||◌}
use mathlib.Core.List.{List, [], ◌∷◌}
use Prim.Native.Nat.{ℕ, ◌*◌, ◌≤◌, ◌<◌}
use native.Mathlib.Nat.{not-suc-le-zero}
use native.Mathlib.Omega.{arith}
use lib.Dec.{T, eqb, ltb, ltb→lt, leb, leb→le, T_not, not_T}
use lib.ListN.{length, get_or}
use Rattle.rules.specs.Lists.{from, any, all, seek, number}
use Rattle.rules.specs.Terms.{leaves, reverse, enters, darts_at}
use Rattle.rules.specs.Files.{Format, ports_in, channels_in, pairs_at, ends_in, file_length}
use Rattle.rules.specs.Refusals.{Test, passed, refuse, refuse_at, short, other_mark, other_version, mark_tests, outside, other_length, count_tests, strange, loop, same_pair, met_earlier, place_of_channel, pair_tests, file_tests, itself, wild_turn, away_turn, one_ring, broken_ring, turn_tests, Lent, lent_test}
use Rattle.laws.proofs.Tests.{cond_cases, eq_eqb, ne_neqb, or_T}
use Rattle.laws.proofs.Lists.{All, T_all, any_T, from_lt, seek_found}
use Rattle.laws.proofs.Trails.{leaves_reverse}
use Rattle.laws.proofs.Runs.{reverse_below}
use Rattle.laws.proofs.Refusals.{Marked, Sized, Paired, Tested}

-- ---- a test that holds nowhere

pub refuse_none : (n : ℕ) (bad : Bool) → T (not bad) → refuse n bad ≡ passed
unfolding refuse
refuse_none n true h = absurd h
refuse_none n false h = refl

pub refuse_at_none : (n : ℕ) (place : ℕ → ℕ) (bad : ℕ → Bool) (m : ℕ) → ((k : ℕ) → k < m → T (not (bad k))) → refuse_at n place bad m ≡ passed
unfolding refuse_at
refuse_at_none n place bad m h =
    cond_cases (λ (t : Test). t ≡ passed) (ltb (seek bad 0 m) m)
    (λ t. let l = ltb→lt (seek bad 0 m) m t in absurd (T_not (bad (seek bad 0 m)) (h (seek bad 0 m) l) (seek_found bad 0 m (omega arith))))
    (λ t. refl)

neither : (a b : Bool) → (T a → ⊥) → (T b → ⊥) → T (not (a || b))
neither a b f g = not_T (a || b) (λ t. ⊎_elim f g (or_T a b t))

not_not_T : (a : Bool) → T a → T (not (not a))
not_not_T true t = tt
not_not_T false t = absurd t

-- ---- 1 to 3

pub marked_pass : (f : Format) (b : List ℕ) → Marked f b → mark_tests f b ≡ passed
unfolding mark_tests short other_mark other_version
marked_pass f b M =
    rw (
      refuse_none 1 (short f b) (not_T (ltb (length b) (pairs_at f)) (λ t. not-suc-le-zero {n = 0} (omega (arith, ltb→lt (length b) (pairs_at f) t, M.long)))),
      refuse_none 2 (other_mark f b) (not_not_T (all (λ i. eqb (get_or b i 0) (get_or f.mark i 0)) (from 0 3)) (T_all _ (from 0 3) (λ i k. eq_eqb (get_or b i 0) (get_or f.mark i 0) (M.mark i (omega (arith, from_lt i 0 3 k)))))),
      refuse_none 3 (other_version f b) (not_not_T (eqb (number 2 3 b) f.version) (eq_eqb (number 2 3 b) f.version M.version)),
    )

-- ---- 4 to 6

pub outside_none : (low high n : ℕ) → low ≤ n → n ≤ high → T (not (outside low high n))
unfolding outside
outside_none low high n a b =
    neither (ltb n low) (ltb high n) (λ t. not-suc-le-zero {n = 0} (omega (arith, ltb→lt n low t))) (λ t. not-suc-le-zero {n = 0} (omega (arith, ltb→lt high n t)))

pub sized_pass : (f : Format) (b : List ℕ) → Sized f b → count_tests f b ≡ passed
unfolding count_tests other_length
sized_pass f b S =
    rw (
      refuse_none 4 (outside f.limits.least_ports f.limits.most_ports (ports_in f b)) (outside_none _ _ _ S.ports.0 S.ports.1),
      refuse_none 5 (outside f.limits.least_channels f.limits.most_channels (channels_in f b)) (outside_none _ _ _ S.channels.0 S.channels.1),
      refuse_none 6 (other_length f b) (not_not_T (eqb (length b) (file_length f (channels_in f b))) (eq_eqb (length b) (file_length f (channels_in f b)) S.size)),
    )

-- ---- 7 to 9

pub paired_pass : (v : ℕ) (ends : List ℕ) (e : ℕ) → Paired v ends e → pair_tests v ends e ≡ passed
unfolding pair_tests strange loop met_earlier
paired_pass v ends e P =
    rw (
      refuse_at_none 7 place_of_channel (strange v ends) e
          (λ k l. neither (leb v (leaves ends (2 * k))) (leb v (enters ends (2 * k)))
          (λ t. not-suc-le-zero {n = 0} (omega (arith, leb→le v (leaves ends (2 * k)) t, P.inn (2 * k) (omega arith))))
          (λ t. not-suc-le-zero {n = 0} (omega (arith, leb→le v (enters ends (2 * k)) t, P.inn (reverse (2 * k)) (reverse_below (2 * k) e (omega arith)), leaves_reverse ends (2 * k))))),
      refuse_at_none 8 place_of_channel (loop ends) e (λ k l. ne_neqb (leaves ends (2 * k)) (enters ends (2 * k)) (P.loops (2 * k) (omega arith))),
      refuse_at_none 9 place_of_channel (met_earlier ends) e
          (λ k l. not_T (met_earlier ends k) (λ t. let r = any_T (λ j. same_pair ends j k) (from 0 k) t in
          T_not (same_pair ends r.0 k) (P.again r.0 k (omega (arith, from_lt r.0 0 k r.1)) l) r.2)),
    )

pub tested_pass : (f : Format) (b : List ℕ) → Tested f b → file_tests f b ≡ passed
unfolding file_tests
tested_pass f b t = rw (marked_pass f b t.marked, sized_pass f b t.sized, paired_pass (ports_in f b) (ends_in f b) (channels_in f b) t.paired)

-- ---- 12 to 14

-- Turns that are darts and leave the port of their dart, in one ring at each port, are not refused.
pub turns_pass : (v : ℕ) (ends t : List ℕ) → ((d : ℕ) → d < length ends → get_or t d 0 < length ends) → ((d : ℕ) → d < length ends → leaves ends (get_or t d 0) ≡ leaves ends d)
    → ((p : ℕ) → p < v → T (one_ring t (darts_at ends p))) → turn_tests v ends t ≡ passed
unfolding turn_tests wild_turn away_turn broken_ring
turns_pass v ends t wild stays rings =
    rw (
      refuse_at_none 12 itself (wild_turn ends t) (length ends) (λ d l. not_T (wild_turn ends t d) (λ k. not-suc-le-zero {n = 0} (omega (arith, leb→le (length ends) (get_or t d 0) k, wild d l)))),
      refuse_at_none 13 itself (away_turn ends t) (length ends) (λ d l. not_not_T (eqb (leaves ends (get_or t d 0)) (leaves ends d)) (eq_eqb (leaves ends (get_or t d 0)) (leaves ends d) (stays d l))),
      refuse_at_none 14 itself (broken_ring ends t) v (λ p l. not_not_T (one_ring t (darts_at ends p)) (rings p l)),
    )

-- ---- 15

pub lent_pass : (ls : List Lent) → All (λ l. l.needed ≤ l.lent) ls → lent_test ls ≡ passed
unfolding lent_test any
lent_pass ls a = refuse_none 15 _ (long_enough ls a)
  where
    long_enough : (ms : List Lent) → All (λ l. l.needed ≤ l.lent) ms → T (not (any (λ l. ltb l.lent l.needed) ms))
    long_enough [] e = tt
    long_enough (m ∷ ms) e =
        neither (ltb m.lent m.needed) (any (λ l. ltb l.lent l.needed) ms)
        (λ t. not-suc-le-zero {n = 0} (omega (arith, ltb→lt m.lent m.needed t, e.0))) (T_not (any (λ l. ltb l.lent l.needed) ms) (long_enough ms e.1))
