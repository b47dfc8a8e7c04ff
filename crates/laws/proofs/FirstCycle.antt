-- The first cycle (document 01, "Laying"): where the channels in play touch three ports and none cuts these, a way leads back without its channel, and the state that it leaves has all that rounds keep. So has the state after any number of paths.
--   blank, reversed, full      n missing turns; these with the reverse of a cycle linked; and with the cycle linked, too
--   ok_c, a, b, q               of a first cycle with channel c: the darts in play without c's, the first end of c, its second end, the path back from b to a
-- sound_cycle: a cycle of darts that goes over no channel twice, and its reverse, are two lands. round_way: a way back without the channel. start_..: what holds of the cycle. kept_start: the first state.
-- kept_started, kept_laying: the state after at most n paths, begun with any channel in play, and with the lowest.
-- Assumes nothing.
use mathlib.Core.Path.{◌≡◌, refl, sym, ap, ◌∙◌, subst}
use mathlib.Core.Logic.{⊎_elim, ◌⊎◌, ◌≢◌, inl, inr}
use mathlib.Core.Bool.{false, Bool, ◌&&◌, not, true, ◌||◌}
use mathlib.Core.List.{List, ◌∷◌, ◌++◌, [], map}
use Prim.Native.Nat.{ℕ, zero, suc, ◌<◌, ◌≤◌, ◌+◌, ◌/◌, ◌*◌}
use native.Mathlib.Nat.{eq-zero-or-pos}
use native.Mathlib.Omega.{arith}
use lib.Dec.{T, eqb, T_not, eqb_refl}
use lib.ListN.{replicate, length, length-replicate, length-map}
use Rattle.rules.specs.Lists.{at}
use Rattle.rules.specs.Terms.{leaves, reverse, enters, missing, there, laid, listed}
use Rattle.rules.specs.Ways.{path, in_play}
use Rattle.rules.specs.Laying.{back, link, around, cycle, start, rounds, first_channel, laying}
use Rattle.laws.proofs.Tests.{neqb_ne, ne_neqb, and_T, T_and}
use Rattle.laws.proofs.Counts.{flag, flag_T, T_flag, flag_inj, is_not, is_cases, is_le, count, zero_of, count_map, map_from, Distinct, distinct_of, distinct_le}
use Rattle.laws.proofs.Lists.{all_of, seek_finds}
use Rattle.laws.proofs.Sets.{at_lt}
use Rattle.laws.proofs.Runs.{reverse_reverse, reverse_channel, reverse_other, channel_darts, channel_of, count_back, length_back, Land, run_keep, land_listed, count_listed, length_listed}
use Rattle.laws.proofs.Links.{Inside, inside_as, AllThere, there_lt, length_link, link_other, link_run, laid_link, laid_link_other}
use Rattle.laws.proofs.Trails.{leaves_reverse, enters_reverse, Trail, trail_once, trail_end, trail_leaves, inner_le}
use Rattle.laws.proofs.Reaches.{whole_of, play_dart, dart_reverse, play_reverse, Touched, Wide, Way, way_start, Linked, linked_join, reached_iff, but}
use Rattle.laws.proofs.Paths.{darts_of, LeadsTo, leads_trail, leads_usable, path_good}
use Rattle.laws.proofs.Sound.{count_all, Sound}
use Rattle.laws.proofs.Euler.{length_all, Counted, Ports}
use Rattle.laws.proofs.Rounds.{Layable, Kept, kept_rounds}

pub laid_blank : (n z : ℕ) → laid (replicate n missing) z ≡ false
unfolding laid there
laid_blank zero z = refl
laid_blank (suc n) zero = refl
laid_blank (suc n) (suc z) = laid_blank n z

pub back_head : (d : ℕ) (q : List ℕ) → (e : ℕ) × ((r : List ℕ) × (back (d ∷ q) ≡ e ∷ r))
unfolding back
back_head d q = go (back q)
  where
    go : (m : List ℕ) → (e : ℕ) × ((r : List ℕ) × (m ++ (reverse d ∷ []) ≡ e ∷ r))
    go [] = (reverse d, ([], refl))
    go (e ∷ m) = (e, (m ++ (reverse d ∷ []), refl))

-- ---- a cycle of darts, on a blank sheet

module _ (n : ℕ) (small : n < missing) (even : (z : ℕ) → z < n → reverse z < n) (d : ℕ) (q : List ℕ) (e : ℕ) (r : List ℕ)
    (turned : back (d ∷ q) ≡ e ∷ r)
    (darts : (z : ℕ) → 1 ≤ count z (d ∷ q) → z < n) (once : (z : ℕ) → count z (d ∷ q) + count (reverse z) (d ∷ q) ≤ 1) where
  abbrev blank : List ℕ
  blank = replicate n missing

  abbrev reversed : List ℕ
  reversed = link e r e blank

  abbrev pub full : List ℕ
  full = link d q d reversed

  counted : (z : ℕ) → count z (e ∷ r) ≡ count (reverse z) (d ∷ q)
  counted z = sym (ap (count z) turned) ∙ count_back z (d ∷ q)

  darts' : (z : ℕ) → 1 ≤ count z (e ∷ r) → z < n
  darts' z h = subst (λ (w : ℕ). w < n) (reverse_reverse z) (even (reverse z) (darts (reverse z) (omega (arith, counted z))))

  in_e : Inside blank (e ∷ r)
  in_e = all_of (λ d. reverse d < length blank) (e ∷ r) (λ z h. omega (arith, even z (darts' z h), length-replicate n missing))

  in_d : Inside reversed (d ∷ q)
  in_d = inside_as blank reversed (length_link e r e blank) (d ∷ q) (all_of (λ d. reverse d < length blank) (d ∷ q) (λ z h. omega (arith, even z (darts z h), length-replicate n missing)))

  land_d : Land full (d ∷ q)
  land_d = link_run d q d reversed in_d (distinct_of (d ∷ q) (λ z. omega (arith, once z)))

  land_e : Land full (e ∷ r)
  land_e =
      run_keep reversed full e r e (λ z h. link_other d q d reversed z (omega (arith, once z, counted z)))
      (link_run e r e blank in_e (distinct_of (e ∷ r) (λ z. omega (arith, once (reverse z), counted z, ap (λ (w : ℕ). count w (d ∷ q)) (reverse_reverse z)))))

  th_d : AllThere (d ∷ q)
  th_d = all_of (λ d. T (there d)) (d ∷ q) (λ z h. there_lt z (omega (arith, darts z h)))

  th_e : AllThere (e ∷ r)
  th_e = all_of (λ d. T (there d)) (e ∷ r) (λ z h. there_lt z (omega (arith, darts' z h)))

  pub laid_full : (z : ℕ) → flag (laid full z) ≡ count z (d ∷ q) + count z (e ∷ r)
  laid_full z =
      let back₁ : count (reverse z) (e ∷ r) ≡ count z (d ∷ q) = counted (reverse z) ∙ ap (λ (w : ℕ). count w (d ∷ q)) (reverse_reverse z) in
      ⊎_elim
      (λ a.
      ⊎_elim
      (λ b. ap flag (laid_link_other d q d reversed z a ∙ laid_link_other e r e blank z b ∙ laid_blank n z) ∙ omega (arith, back₁, counted z))
      (λ p. ap flag (laid_link_other d q d reversed z a) ∙ flag_T (laid reversed z) (laid_link e r e blank z in_e th_e.1 th_e.0 p) ∙ omega (arith, back₁, counted z, once z))
      (eq-zero-or-pos (count (reverse z) (e ∷ r))))
      (λ p. flag_T (laid full z) (laid_link d q d reversed z in_d th_d.1 th_d.0 p) ∙ omega (arith, counted z, once z))
      (eq-zero-or-pos (count (reverse z) (d ∷ q)))

  pub sound_cycle : Sound full (listed (d ∷ q) ∷ listed (e ∷ r) ∷ [])
  unfolding count_all
  sound_cycle = record {
    follow = (land_listed full (d ∷ q) land_d, (land_listed full (e ∷ r) land_e, tt));
    cover = λ z. omega (arith, count_listed z (d ∷ q), count_listed z (e ∷ r), laid_full z);
    pair = λ z. flag_inj (laid full (reverse z)) (laid full z)
        (omega (arith, laid_full z, laid_full (reverse z), counted z, counted (reverse z), ap (λ (w : ℕ). count w (d ∷ q)) (reverse_reverse z)));
  }

-- ---- the way back without the channel

module _ (np : ℕ) (ps : List ℕ) (on : List Bool) (G : Layable np ps on) (many : Wide ps on) (c : ℕ) (o : T (at on c)) where
  abbrev ok_c : ℕ → Bool
  ok_c d = in_play on d && not (eqb (d / 2) c)

  abbrev a : ℕ
  a = leaves ps (2 * c)

  abbrev b : ℕ
  b = enters ps (2 * c)

  pub start_channel : 2 * c < length ps
  start_channel = omega (arith, at_lt on c o, G.size2)

  -- a way that avoids an end of the channel does not use it
  pub way_avoids : (p : ℕ) → ((d : ℕ) → d / 2 ≡ c → (leaves ps d ≡ p) ⊎ (enters ps d ≡ p)) → (free : ℕ → Bool) → ((q : ℕ) → T (free q))
      → (x : ℕ) (w : List ℕ) (y : ℕ) → Way ps (in_play on) (but p) x w y → y ≢ p → Way ps ok_c free x w y
  way_avoids p e free f x [] y h n = h
  way_avoids p e free f x (d ∷ w) y h n =
      let away : enters ps d ≢ p = neqb_ne (enters ps d) p (way_start ps (in_play on) (but p) (enters ps d) w y h.3 (ne_neqb y p n)) in
      let off : d / 2 ≢ c = (λ q. ⊎_elim (λ k. neqb_ne x p h.2 (sym h.1 ∙ k)) away (e d q)) in
      (T_and (in_play on d) (not (eqb (d / 2) c)) h.0 (ne_neqb (d / 2) c off), h.1, f x, way_avoids p e free f (enters ps d) w y h.3 n)

  -- both ends of the channel's darts
  end_a : (d : ℕ) → d / 2 ≡ c → (leaves ps d ≡ a) ⊎ (enters ps d ≡ a)
  end_a d e = ⊎_elim (λ q. inl (ap (leaves ps) q)) (λ q. inr (ap (enters ps) q ∙ enters_reverse ps (2 * c))) (channel_darts d c e)

  end_b : (d : ℕ) → d / 2 ≡ c → (leaves ps d ≡ b) ⊎ (enters ps d ≡ b)
  end_b d e = ⊎_elim (λ q. inr (ap (enters ps) q)) (λ q. inl (ap (leaves ps) q ∙ leaves_reverse ps (2 * c))) (channel_darts d c e)

  a_in : a < np
  a_in = G.inn (2 * c) start_channel

  -- the channel's darts are in play, and touch its ends
  start_play : T (in_play on (2 * c))
  start_play = rw (channel_of c) o

  touch_a : Touched ps on a
  touch_a = (2 * c, start_play, refl)

  touch_b : Touched ps on b
  touch_b = (reverse (2 * c), play_reverse on (2 * c) start_play, leaves_reverse ps (2 * c))

  -- from b to a third port without a, and on to a without b
  pub round_way : (free : ℕ → Bool) → ((q : ℕ) → T (free q)) → Linked ps ok_c free b a
  round_way free f =
      let w = many a b in
      let ab = G.loops (2 * c) start_channel in
      let v = G.whole a b w.0 touch_a touch_b w.1 (λ e. ab (sym e)) w.2 in
      let u = G.whole b w.0 a touch_b w.1 touch_a w.3 ab in
      linked_join ps ok_c free (v.0, way_avoids a end_a free f b v.0 w.0 v.1 w.2) (u.0, way_avoids b end_b free f w.0 u.0 a u.1 ab)

  -- ---- the first state

  abbrev q : List ℕ
  q = path np ps ok_c (λ p. true) b a

  pub start_dart : (d : ℕ) → T (ok_c d) → d < length ps
  start_dart d h = play_dart ps on G.size2 d (and_T (in_play on d) (not (eqb (d / 2) c)) h).0

  pub start_path : LeadsTo ps ok_c b q a × Distinct (b ∷ map (enters ps) q) × ((z : ℕ) → 1 ≤ count z q → T (true || eqb (leaves ps z) b))
  start_path =
      path_good np ps ok_c (λ p. true) b a (darts_of ps G.few) (whole_of ps ok_c start_dart) a_in
      ((reached_iff np ps ok_c (λ p. true || eqb p b) (whole_of ps ok_c start_dart) (λ d h. G.inn d (start_dart d h)) a a_in b).1 (round_way (λ p. true || eqb p b) (λ p. tt)))

  pub start_trail : Trail ps b q a
  start_trail = leads_trail ps ok_c b q a start_path.0

  -- the channel is not on the way
  pub start_avoids : (z : ℕ) → z / 2 ≡ c → count z q ≡ 0
  start_avoids z e =
      zero_of (count z q)
      (λ h. T_not (eqb (z / 2) c) (and_T (in_play on z) (not (eqb (z / 2) c)) (leads_usable ps ok_c b q a start_path.0 z h)).1 (rw e (eqb_refl c)))

  pub start_once : (z : ℕ) → count z (2 * c ∷ q) + count (reverse z) (2 * c ∷ q) ≤ 1
  unfolding count
  start_once z =
      ⊎_elim
      (λ e. let h : z / 2 ≡ c = ap (λ (w : ℕ). w / 2) e ∙ channel_of c in
      omega (arith, start_avoids z h, start_avoids (reverse z) (reverse_channel z ∙ h), is_le z (2 * c), is_not (reverse z) (2 * c) (λ k. reverse_other z (k ∙ sym e))))
      (λ n. ⊎_elim
      (λ e. let h : z / 2 ≡ c = sym (reverse_channel z) ∙ ap (λ (w : ℕ). w / 2) e ∙ channel_of c in omega (arith, start_avoids z h, start_avoids (reverse z) (reverse_channel z ∙ h), is_le (reverse z) (2 * c)))
      (λ m. omega (arith, trail_once ps b q a start_trail start_path.1 z))
      (is_cases (reverse z) (2 * c)))
      (is_cases z (2 * c))

  pub start_darts : (z : ℕ) → 1 ≤ count z (2 * c ∷ q) → z < length ps
  unfolding count
  start_darts z h = ⊎_elim (λ e. omega (arith, start_channel)) (λ n. start_dart z (leads_usable ps ok_c b q a start_path.0 z (omega arith))) (is_cases z (2 * c))

  pub start_way : Trail ps a (2 * c ∷ q) a
  start_way = (refl, start_trail)

  -- its darts are in play
  pub cycle_play : (z : ℕ) → 1 ≤ count z (2 * c ∷ q) → T (in_play on z)
  unfolding count
  cycle_play z h =
      ⊎_elim (λ e. subst (λ (w : ℕ). T (in_play on w)) (sym e) start_play)
      (λ n. (and_T (in_play on z) (not (eqb (z / 2) c)) (leads_usable ps ok_c b q a start_path.0 z (omega arith))).0) (is_cases z (2 * c))

  pub cycle_laid : (t : List ℕ) → ((z : ℕ) → flag (laid t z) ≡ count z (2 * c ∷ q) + count z (back (2 * c ∷ q))) → (z : ℕ) → T (laid t z) → T (in_play on z)
  cycle_laid t laid_so z h =
      ⊎_elim
      (λ n. subst (λ (w : ℕ). T (in_play on w)) (reverse_reverse z) (play_reverse on (reverse z) (cycle_play (reverse z) (omega (arith, laid_so z, flag_T (laid t z) h, count_back z (2 * c ∷ q))))))
      (cycle_play z) (eq-zero-or-pos (count z (2 * c ∷ q)))

  -- the ports of the cycle are the laid ones
  pub start_ports : (t : List ℕ) → ((z : ℕ) → flag (laid t z) ≡ count z (2 * c ∷ q) + count z (back (2 * c ∷ q))) → Ports ps t (map (enters ps) (2 * c ∷ q))
  start_ports t laid_so = record { some = λ z h. one (leaves ps z) (some_of z h); only = only_of }
    where
      one : (p : ℕ) → 1 ≤ count p (map (enters ps) (2 * c ∷ q)) → count p (map (enters ps) (2 * c ∷ q)) ≡ 1
      one p h = omega (arith, distinct_le (map (enters ps) (2 * c ∷ q)) start_path.1 p)

      some_of : (z : ℕ) → T (laid t z) → 1 ≤ count (leaves ps z) (map (enters ps) (2 * c ∷ q))
      some_of z h =
          ⊎_elim
          (λ n. subst (λ (w : ℕ). 1 ≤ count w (map (enters ps) (2 * c ∷ q))) (enters_reverse ps z)
          (omega (arith, count_map (enters ps) (reverse z) (2 * c ∷ q), count_back z (2 * c ∷ q), laid_so z, flag_T (laid t z) h)))
          (λ k. ⊎_elim (λ e. subst (λ (w : ℕ). 1 ≤ count w (map (enters ps) (2 * c ∷ q))) (sym e) (trail_end ps a (2 * c) q a start_way)) (λ e. omega (arith, inner_le ps (2 * c) q (leaves ps z)))
          (trail_leaves ps a (2 * c) q a z start_way k))
          (eq-zero-or-pos (count z (2 * c ∷ q)))

      only_of : (p : ℕ) → 1 ≤ count p (map (enters ps) (2 * c ∷ q)) → (z : ℕ) × T (laid t z) × (leaves ps z ≡ p)
      only_of p h =
          let w = map_from (enters ps) (2 * c ∷ q) p h in
          (reverse w.0, T_flag (laid t (reverse w.0)) (omega (arith, laid_so (reverse w.0), count_back (reverse w.0) (2 * c ∷ q), ap (λ (v : ℕ). count v (2 * c ∷ q)) (reverse_reverse w.0), w.1)), leaves_reverse ps w.0 ∙ w.2)

  pub start_counted : Counted (length (map (enters ps) (2 * c ∷ q))) (listed (2 * c ∷ q) ∷ listed (back (2 * c ∷ q)) ∷ [])
  unfolding length_all
  start_counted = omega (arith, length-map q (enters ps), length_listed (2 * c ∷ q), length_listed (back (2 * c ∷ q)), length_back (2 * c ∷ q))

  pub kept_start : Kept ps on (start np ps on c)
  unfolding start cycle around
  kept_start =
      let h = back_head (2 * c) q in
      record {
        play = cycle_laid _ (λ z. rw h.1.1 (laid_full (length ps) G.few (dart_reverse ps on G.size2) (2 * c) q h.0 h.1.0 h.1.1 start_darts start_once z));
        sound = rw h.1.1 (sound_cycle (length ps) G.few (dart_reverse ps on G.size2) (2 * c) q h.0 h.1.0 h.1.1 start_darts start_once);
        long = rw h.1.1 (length_link (2 * c) q (2 * c) _ ∙ length_link h.0 h.1.0 h.0 _ ∙ length-replicate (length ps) missing);
        some = omega arith;
        number = omega arith;
        ports = (map (enters ps) (2 * c ∷ q), start_ports _ (λ z. rw h.1.1 (laid_full (length ps) G.few (dart_reverse ps on G.size2) (2 * c) q h.0 h.1.0 h.1.1 start_darts start_once z)), start_counted);
      }

-- ---- laying

-- first cycle with any channel in play, then at most n paths
pub kept_started : (np : ℕ) (ps : List ℕ) (on : List Bool) → Layable np ps on → Wide ps on → (c : ℕ) → T (at on c) → (n : ℕ) → Kept ps on (rounds np ps on n (start np ps on c)).state
kept_started np ps on G many c o n = kept_rounds np ps on G n (start np ps on c) (kept_start np ps on G many c o)

-- the first channel is in play, where one is
pub first_play : (np : ℕ) (ps : List ℕ) (on : List Bool) (c : ℕ) → T (at on c) → T (at on (first_channel np ps on))
unfolding first_channel
first_play np ps on c o = seek_finds (at on) 0 (length on) c (omega arith) (omega (arith, at_lt on c o)) o

-- The turns and lands are sound whatever the number of paths.
pub kept_laying : (np : ℕ) (ps : List ℕ) (on : List Bool) → Layable np ps on → Wide ps on → (c : ℕ) → T (at on c) → (n : ℕ) → Kept ps on (laying np ps on n).state
unfolding laying
kept_laying np ps on G many c o n = kept_started np ps on G many (first_channel np ps on) (first_play np ps on c o) n
