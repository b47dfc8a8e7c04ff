-- What the tests of a file leave (document 01, "Refusal numbers" 1 to 11), for any format: each stage that refuses nothing guarantees a record of facts.
--   Given a             the answer a is no refusal
--   Marked f b          1 to 3: the bytes b are long enough, with the mark and the version of the format f
--   Sized f b           4 to 6: the counts are within the limits, and the length is that of the layout
--   Paired v ends e     7 to 9: of e channels, every end is below v, no channel has equal ends, and no two have the same
--   Tested f b          1 to 9 together
-- bind_given, then_given: where an answer is given, each stage before it was. refuse_passed, refuse_at_passed: a test that refuses nothing holds nowhere. ..Tests-passed: the stages. paired_once: a dart is determined by the ports that it leaves and enters.
-- Assumes nothing.
use mathlib.Core.Path.{◌≡◌, subst, sym, ap, refl, ◌∙◌}
use mathlib.Core.Logic.{⊎_elim, ◌≢◌, ◌⊎◌, inl, inr}
use mathlib.Core.Bool.{Bool, not, true, false, ◌&&◌, cond}
use mathlib.Core.List.{List}
use Prim.Native.Nat.{ℕ, ◌<◌, ◌≤◌, ◌*◌, ◌/◌, zero, suc, ◌+◌}
use native.Mathlib.Nat.{not-suc-le-zero}
use native.Mathlib.Decide.{dec_lt}
use native.Mathlib.Omega.{arith}
use lib.Dec.{T, ltb, nltb→le, eqb, eqb→eq, leb, nleb→lt, T_not}
use lib.ListN.{length, get_or}
use Rattle.rules.specs.Lists.{from, all, seek, at, number, numbers}
use Rattle.rules.specs.Terms.{leaves, reverse, enters}
use Rattle.rules.specs.Files.{Format, ports_in, channels_in, pairs_at, ends_in, turns_at, turns_in, file_length}
use Rattle.rules.specs.Ways.{in_play, reached}
use Rattle.rules.specs.Refusals.{Answer, given, refused, ◌>>=◌, Test, ◌>>◌, passed, refuse, refuse_at, short, other_mark, other_version, mark_tests, outside, other_length, count_tests, strange, loop, same_pair, met_earlier, place_of_channel, pair_tests, file_tests, itself, apart, cuts, piece_tests}
use Rattle.laws.proofs.Tests.{cond_cases, eq_eqb, neqb_ne, ne_neqb, T_and, T_or₁, T_or₂, not_and, not_or, not_not}
use Rattle.laws.proofs.Lists.{not_any, all_T, count_from, seek_none}
use Rattle.laws.proofs.Runs.{channel_darts}
use Rattle.laws.proofs.Trails.{leaves_reverse, enters_reverse}
use Rattle.laws.proofs.Reaches.{whole_of, play_dart, Linked, reached_iff, but, Uncut, uncut_of}

-- ---- answers in a row

abbrev pub Given : {A : Type 0} → Answer A → Type 0
Given (given a) = Unit {0}
Given (refused n p) = ⊥

pub refused_not : {A : Type 0} (n p : ℕ) (x : A) → refused n p ≡ given x → ⊥
refused_not {A} n p x h = subst (λ (a : Answer A). Given a) (sym h) tt

pub given_inj : {A : Type 0} (x y : A) → given x ≡ given y → x ≡ y
given_inj {A} x y h = ap value h
  where
    value : Answer A → A
    value (given a) = a
    value (refused n p) = x

pub bind_given : {A B : Type 0} (a : Answer A) (f : A → Answer B) (y : B) → (a >>= f) ≡ given y → (x : A) × (a ≡ given x) × (f x ≡ given y)
bind_given (given x) f y h = (x, refl, h)
bind_given (refused n p) f y h = absurd (refused_not n p y h)

pub then_given : {B : Type 0} (t : Test) (a : Answer B) (y : B) → (t >> a) ≡ given y → (t ≡ passed) × (a ≡ given y)
then_given (given u) a y h = (refl, h)
then_given (refused n p) a y h = absurd (refused_not n p y h)

-- ---- a test that refuses nothing

pub refuse_passed : (n : ℕ) (bad : Bool) → refuse n bad ≡ passed → T (not bad)
unfolding refuse
refuse_passed n true h = absurd (refused_not n 0 tt h)
refuse_passed n false h = tt

pub refuse_at_passed : (n : ℕ) (place : ℕ → ℕ) (bad : ℕ → Bool) (m : ℕ) → refuse_at n place bad m ≡ passed → (k : ℕ) → k < m → T (not (bad k))
unfolding refuse_at
refuse_at_passed n place bad m h k l =
    cond_cases (λ (t : Test). t ≡ passed → T (not (bad k))) (ltb (seek bad 0 m) m)
    (λ t e. absurd (refused_not n (place (seek bad 0 m)) tt e))
    (λ t e. seek_none bad 0 m (omega (arith, nltb→le (seek bad 0 m) m t)) k (omega arith) (omega arith))
    h

-- ---- 1 to 3

pub record Marked (f : Format) (b : List ℕ) : Type 0 where
  pub long : pairs_at f ≤ length b
  pub mark : (i : ℕ) → i < 3 → get_or b i 0 ≡ get_or f.mark i 0
  pub version : number 2 3 b ≡ f.version

pub mark_tests_passed : (f : Format) (b : List ℕ) → mark_tests f b ≡ passed → Marked f b
unfolding mark_tests short other_mark other_version
mark_tests_passed f b h =
    let t1 = then_given (refuse 1 (short f b)) _ tt h in
    let t2 = then_given (refuse 2 (other_mark f b)) _ tt t1.1 in
    let same = not_not (all (λ i. eqb (get_or b i 0) (get_or f.mark i 0)) (from 0 3)) (refuse_passed 2 (other_mark f b) t2.0) in
    record {
      long = nltb→le (length b) (pairs_at f) (refuse_passed 1 (short f b) t1.0);
      mark = λ i l. eqb→eq (get_or b i 0) (get_or f.mark i 0) (all_T (λ i. eqb (get_or b i 0) (get_or f.mark i 0)) (from 0 3) i same (count_from i 0 3 (omega arith) (omega arith)));
      version = eqb→eq (number 2 3 b) f.version (not_not (eqb (number 2 3 b) f.version) (refuse_passed 3 (other_version f b) t2.1));
    }

-- ---- 4 to 6

pub outside_not : (low high n : ℕ) → T (not (outside low high n)) → (low ≤ n) × (n ≤ high)
unfolding outside
outside_not low high n h = let w = not_or (ltb n low) (ltb high n) h in (nltb→le n low w.0, nltb→le high n w.1)

pub record Sized (f : Format) (b : List ℕ) : Type 0 where
  pub ports : (f.limits.least_ports ≤ ports_in f b) × (ports_in f b ≤ f.limits.most_ports)
  pub channels : (f.limits.least_channels ≤ channels_in f b) × (channels_in f b ≤ f.limits.most_channels)
  pub size : length b ≡ file_length f (channels_in f b)

pub count_tests_passed : (f : Format) (b : List ℕ) → count_tests f b ≡ passed → Sized f b
unfolding count_tests other_length
count_tests_passed f b h =
    let t4 = then_given (refuse 4 (outside f.limits.least_ports f.limits.most_ports (ports_in f b))) _ tt h in
    let t5 = then_given (refuse 5 (outside f.limits.least_channels f.limits.most_channels (channels_in f b))) _ tt t4.1 in
    record {
      ports = outside_not f.limits.least_ports f.limits.most_ports (ports_in f b) (refuse_passed 4 _ t4.0);
      channels = outside_not f.limits.least_channels f.limits.most_channels (channels_in f b) (refuse_passed 5 _ t5.0);
      size = eqb→eq (length b) (file_length f (channels_in f b)) (not_not (eqb (length b) (file_length f (channels_in f b))) (refuse_passed 6 _ t5.1));
    }

-- ---- 7 to 9

-- what holds of both darts of every channel holds of every dart
pub each_dart : (P : ℕ → Type 0) (e : ℕ) → ((k : ℕ) → k < e → P (2 * k) × P (reverse (2 * k))) → (d : ℕ) → d < 2 * e → P d
each_dart P e h d l =
    let r = h (d / 2) (omega arith) in
    ⊎_elim (λ q. subst P (sym q) r.0) (λ q. subst P (sym q) r.1) (channel_darts d (d / 2) refl)

pub record Paired (v : ℕ) (ends : List ℕ) (e : ℕ) : Type 0 where
  pub inn : (d : ℕ) → d < 2 * e → leaves ends d < v
  pub loops : (d : ℕ) → d < 2 * e → leaves ends d ≢ enters ends d
  pub again : (j k : ℕ) → j < k → k < e → T (not (same_pair ends j k))

pub pair_tests_passed : (v : ℕ) (ends : List ℕ) (e : ℕ) → pair_tests v ends e ≡ passed → Paired v ends e
unfolding pair_tests strange loop met_earlier
pair_tests_passed v ends e h =
    let t7 = then_given (refuse_at 7 place_of_channel (strange v ends) e) _ tt h in
    let t8 = then_given (refuse_at 8 place_of_channel (loop ends) e) _ tt t7.1 in
    record {
      inn = each_dart (λ d. leaves ends d < v) e (λ k l.
          let w = not_or (leb v (leaves ends (2 * k))) (leb v (enters ends (2 * k))) (refuse_at_passed 7 place_of_channel (strange v ends) e t7.0 k l) in
          (nleb→lt v (leaves ends (2 * k)) w.0, rw (leaves_reverse ends (2 * k)) (nleb→lt v (enters ends (2 * k)) w.1)));
      loops = each_dart (λ d. leaves ends d ≢ enters ends d) e (λ k l.
          let ne : leaves ends (2 * k) ≢ enters ends (2 * k) = neqb_ne (leaves ends (2 * k)) (enters ends (2 * k)) (refuse_at_passed 8 place_of_channel (loop ends) e t8.0 k l) in
          (ne, (λ q. ne (sym (enters_reverse ends (2 * k)) ∙ sym q ∙ leaves_reverse ends (2 * k)))));
      again = λ j k l m. not_any (λ i. same_pair ends i k) (from 0 k) j (refuse_at_passed 9 place_of_channel (met_earlier ends) e t8.1 k m) (count_from j 0 k (omega arith) (omega arith));
    }

-- a dart's ends, as its channel's
pub channel_ends : (ends : List ℕ) (d : ℕ) → ((leaves ends d ≡ leaves ends (2 * (d / 2))) × (enters ends d ≡ enters ends (2 * (d / 2))))
    ⊎ ((leaves ends d ≡ enters ends (2 * (d / 2))) × (enters ends d ≡ leaves ends (2 * (d / 2))))
channel_ends ends d =
    ⊎_elim (λ q. inl (ap (leaves ends) q, ap (enters ends) q))
    (λ q. inr (ap (leaves ends) q ∙ leaves_reverse ends (2 * (d / 2)), ap (enters ends) q ∙ enters_reverse ends (2 * (d / 2)))) (channel_darts d (d / 2) refl)

-- darts with the same ends are of channels with the same pair
pub same_pair_lem : (ends : List ℕ) (d c : ℕ) → leaves ends d ≡ leaves ends c → enters ends d ≡ enters ends c → T (same_pair ends (d / 2) (c / 2))
unfolding same_pair
same_pair_lem ends d c h k =
    ⊎_elim
    (λ a. ⊎_elim (λ b. straight (sym a.0 ∙ h ∙ b.0) (sym a.1 ∙ k ∙ b.1)) (λ b. crossed (sym a.0 ∙ h ∙ b.0) (sym a.1 ∙ k ∙ b.1)) (channel_ends ends c))
    (λ a. ⊎_elim (λ b. crossed (sym a.1 ∙ k ∙ b.1) (sym a.0 ∙ h ∙ b.0)) (λ b. straight (sym a.1 ∙ k ∙ b.1) (sym a.0 ∙ h ∙ b.0)) (channel_ends ends c))
    (channel_ends ends d)
  where
    i : ℕ
    i = 2 * (d / 2)

    j : ℕ
    j = 2 * (c / 2)

    straight : leaves ends i ≡ leaves ends j → enters ends i ≡ enters ends j → T (same_pair ends (d / 2) (c / 2))
    straight p q =
        T_or₁ (eqb (leaves ends i) (leaves ends j) && eqb (enters ends i) (enters ends j)) (eqb (leaves ends i) (enters ends j) && eqb (enters ends i) (leaves ends j))
        (T_and (eqb (leaves ends i) (leaves ends j)) (eqb (enters ends i) (enters ends j)) (eq_eqb (leaves ends i) (leaves ends j) p) (eq_eqb (enters ends i) (enters ends j) q))

    crossed : leaves ends i ≡ enters ends j → enters ends i ≡ leaves ends j → T (same_pair ends (d / 2) (c / 2))
    crossed p q =
        T_or₂ (eqb (leaves ends i) (leaves ends j) && eqb (enters ends i) (enters ends j)) (eqb (leaves ends i) (enters ends j) && eqb (enters ends i) (leaves ends j))
        (T_and (eqb (leaves ends i) (enters ends j)) (eqb (enters ends i) (leaves ends j)) (eq_eqb (leaves ends i) (enters ends j) p) (eq_eqb (enters ends i) (leaves ends j) q))

pub paired_once : (v : ℕ) (ends : List ℕ) (e : ℕ) → Paired v ends e → (d c : ℕ) → d < 2 * e → c < 2 * e → leaves ends d ≡ leaves ends c → enters ends d ≡ enters ends c → d ≡ c
paired_once v ends e P d c hd hc h k = go (dec_lt (d / 2) (c / 2)) (dec_lt (c / 2) (d / 2))
  where
    one : d / 2 ≡ c / 2 → d ≡ c
    one m =
        ⊎_elim
        (λ p. ⊎_elim (λ q. p ∙ sym q) (λ q. absurd (P.loops d hd (h ∙ ap (leaves ends) (q ∙ ap reverse (sym p)) ∙ leaves_reverse ends d))) (channel_darts c (c / 2) refl))
        (λ p. ⊎_elim (λ q. absurd (P.loops c hc (sym h ∙ ap (leaves ends) (p ∙ ap reverse (sym q)) ∙ leaves_reverse ends c))) (λ q. p ∙ sym q) (channel_darts c (c / 2) refl))
        (channel_darts d (c / 2) m)

    go : Dec (d / 2 < c / 2) → Dec (c / 2 < d / 2) → d ≡ c
    go (yes l) m = absurd (T_not (same_pair ends (d / 2) (c / 2)) (P.again (d / 2) (c / 2) l (omega arith)) (same_pair_lem ends d c h k))
    go (no l) (yes m) = absurd (T_not (same_pair ends (c / 2) (d / 2)) (P.again (c / 2) (d / 2) m (omega arith)) (same_pair_lem ends c d (sym h) (sym k)))
    go (no l) (no m) = one (omega arith)

-- ---- 1 to 9

pub record Tested (f : Format) (b : List ℕ) : Type 0 where
  pub marked : Marked f b
  pub sized : Sized f b
  pub paired : Paired (ports_in f b) (ends_in f b) (channels_in f b)

pub file_tests_passed : (f : Format) (b : List ℕ) → file_tests f b ≡ passed → Tested f b
unfolding file_tests
file_tests_passed f b h =
    let t1 = then_given (mark_tests f b) _ tt h in
    let t2 = then_given (count_tests f b) _ tt t1.1 in
    record {
      marked = mark_tests_passed f b t1.0;
      sized = count_tests_passed f b t2.0;
      paired = pair_tests_passed (ports_in f b) (ends_in f b) (channels_in f b) t2.1;
    }

-- ---- the ends

pub length_numbers : (w n i : ℕ) (b : List ℕ) → length (numbers w n i b) ≡ n
unfolding numbers
length_numbers w zero i b = refl
length_numbers w (suc n) i b = ap suc (length_numbers w n (i + w) b)

pub length_ends : (f : Format) (b : List ℕ) → length (ends_in f b) ≡ 2 * channels_in f b
unfolding ends_in
length_ends f b = length_numbers f.port_bytes (2 * channels_in f b) (pairs_at f) b

pub length_turns : (f : Format) (b : List ℕ) → length (turns_in f b) ≡ 2 * channels_in f b
unfolding turns_in
length_turns f b = length_numbers f.turn_bytes (2 * channels_in f b) (turns_at f (channels_in f b)) b

-- ---- 10 and 11

module _ (v : ℕ) (ends : List ℕ) (play : List Bool) (h : piece_tests v ends play ≡ passed) where
  pub apart_passed : (p : ℕ) → p < v → T (not (apart v ends play p))
  unfolding piece_tests
  apart_passed = refuse_at_passed 10 itself (apart v ends play) v (then_given (refuse_at 10 itself (apart v ends play) v) _ tt h).0

  pub cuts_passed : (c : ℕ) → c < v → T (not (cuts v ends play c))
  unfolding piece_tests
  cuts_passed = refuse_at_passed 11 itself (cuts v ends play) v (then_given (refuse_at 10 itself (apart v ends play) v) _ tt h).1

  module _ (size2 : length ends ≡ 2 * length play) (inn : (d : ℕ) → d < length ends → leaves ends d < v) where
    -- ports that are reached are linked
    pub reached_linked : (free : ℕ → Bool) (y p : ℕ) → y < v → T (at (reached v ends play free y) p) → Linked ends (in_play play) free p y
    unfolding reached
    reached_linked free y p b t =
        (reached_iff v ends (in_play play) free (whole_of ends (in_play play) (play_dart ends play size2)) (λ d k. inn d (play_dart ends play size2 d k)) y b p).0 t

    -- every port is linked to port 0
    pub pieces_joined : (p : ℕ) → p < v → Linked ends (in_play play) (λ q. true) p 0
    unfolding apart
    pieces_joined p l = reached_linked (λ q. true) 0 p (omega arith) (not_not (at (reached v ends play (λ q. true) 0) p) (apart_passed p l))

    -- no port cuts
    pub pieces_uncut : 2 ≤ v → Uncut v ends play
    unfolding cuts
    pieces_uncut two = uncut_of v ends play (λ c lc. (lowest c, (other c).1, found c lc))
      where
        -- the lowest port but c
        lowest : ℕ → ℕ
        lowest c = cond (eqb c 0) 1 0

        other : (c : ℕ) → (lowest c < v) × (lowest c ≢ c)
        other c =
            cond_cases (λ (z : ℕ). (z < v) × (z ≢ c)) (eqb c 0)
            (λ t. (omega arith, (λ e. not-suc-le-zero {n = 0} (omega (arith, eqb→eq c 0 t)))))
            (λ t. (omega arith, (λ e. neqb_ne c 0 t (sym e))))

        found : (c : ℕ) → c < v → (z : ℕ) → z < v → z ≢ c → Linked ends (in_play play) (but c) z (lowest c)
        found c lc z lz nz =
            reached_linked (but c) (lowest c) z (other c).0
            (not_not (at (reached v ends play (but c) (lowest c)) z)
            (not_and (not (eqb z c)) (not (at (reached v ends play (but c) (lowest c)) z))
            (not_any (λ r. not (eqb r c) && not (at (reached v ends play (but c) (lowest c)) r)) (from 0 v) z (cuts_passed c lc) (count_from z 0 v (omega arith) (omega arith)))
            (ne_neqb z c nz)))
