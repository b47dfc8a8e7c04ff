-- The contacts that are left for the fragment of channel k, as the code finds them: by a flood from its seed port and what the ports met touch; or, where it is a single channel, by its two ends.
--   cs               the contacts of the fragment of channel k
-- inside_reached: the fragment's ports are what a flood from the seed port reaches. spread_flood, spread_none: the fragment has spread. rooted_left, single_left: the contacts that are left in the two cases. both_rising: two ends, the smaller first. two_read: the first two contacts.
-- Assumes nothing.
use mathlib.Core.Path.{◌≡◌, refl, sym, ap, ◌∙◌, subst}
use mathlib.Core.Logic.{◌≢◌, ⊎_elim}
use mathlib.Core.Bool.{Bool, true, false, cond, not}
use mathlib.Core.List.{List, [], ◌∷◌}
use Prim.Native.Nat.{ℕ, ◌+◌, ◌*◌, ◌≤◌, ◌<◌, min, max}
use native.Mathlib.Nat.{not-suc-le-zero}
use native.Mathlib.Decide.{dec_lt}
use native.Mathlib.Omega.{arith}
use borrow.Author.Tests.{lt-ltb, le-ltb}
use lib.Dec.{T, ltb}
use lib.ListN.{length, get_or, take, replicate, length-replicate}
use lib.Seq.{get_or-take, length-take-le}
use Rattle.rules.specs.Lists.{from, keep, at}
use Rattle.rules.specs.Terms.{leaves, enters}
use Rattle.rules.specs.Ways.{iter, larger, in_play, reached}
use Rattle.rules.specs.Laying.{fragment_at, contacts_of}
use Rattle.laws.proofs.Tests.{or_T, T_or₁}
use Rattle.laws.proofs.Counts.{flag, flag_T, flag_F, T_flag, count}
use Rattle.laws.proofs.Sets.{at_lt}
use Rattle.laws.proofs.Runs.{channel_of}
use Rattle.laws.proofs.Reaches.{play_dart}
use Rattle.laws.proofs.Fragments.{unlaid, inside, length_inside}
use Rattle.laws.proofs.Lists.{place_count}
use Rattle.reach.specs.Floods.{Sized, joined, around, Flooded}
use Rattle.reach.proofs.Meeting.{enters_in}
use Rattle.reach.proofs.Around.{length_joined}
use Rattle.fragment.specs.Fragments.{Loopless, touch_from, rising, Shut, Spread, Contacts}
use Rattle.fragment.specs.Rounds.{two_of}
use Rattle.fragment.proofs.Spreading.{seed_place, same_set, seed_only, inside_iff, inside_none, same_reach, reverse_first}
use Rattle.fragment.proofs.Marking.{joined_at}
use Rattle.fragment.proofs.Touching.{length_touch_from, rooted_contacts, single_rising, single_falling}

pub inside_reached : (v : ℕ) (ends : List ℕ) (play lp : List Bool) (k : ℕ) → inside v ends play lp k ≡ reached v ends play (unlaid lp) (seed_place v ends lp k)
unfolding reached
inside_reached v ends play lp k = ap (iter (larger ends (in_play play) (unlaid lp)) v) (seed_only v ends play lp k)

-- ---- a fragment spreads

-- from its seed port, by a flood
module _ (v : ℕ) (ends : List ℕ) (play lp : List Bool) (sized : Sized v ends play) (lpv : length lp ≡ v) (marks : List Bool) (shut : Shut ends play lp marks)
    (k : ℕ) (p : ℕ) (e : p ≡ seed_place v ends lp k) (inn : p < v) (clear : at marks (seed_place v ends lp k) ≡ false) where
  pub clear_here : at marks p ≡ false
  clear_here = ap (at marks) e ∙ clear

  flood_inside : around ends play marks p ≡ inside v ends play lp k
  flood_inside =
      ap (λ (n : ℕ). reached n ends play (λ q. not (at marks q)) p) (shut.long ∙ lpv)
      ∙ same_reach v ends play lp sized marks lpv shut p inn (rw clear_here tt)
      ∙ ap (reached v ends play (unlaid lp)) e
      ∙ sym (inside_reached v ends play lp k)

  pub spread_flood : (queue : List ℕ) (marks' : List Bool) (queue' : List ℕ) (n : ℕ) → Flooded ends play marks queue p marks' queue' n → Spread v ends play lp k marks marks' queue' n
  unfolding fragment_at
  spread_flood queue marks' queue' n f = record {
    marked = f.marked ∙ ap (joined marks) flood_inside;
    listed = λ z. f.listed z ∙ ap (λ (s : List Bool). flag (at s z)) flood_inside;
    most = f.most;
  }

-- over no port, where both ends of channel k are laid
module _ (v : ℕ) (ends : List ℕ) (play lp : List Bool) (sized : Sized v ends play) (marks : List Bool) (long : length marks ≡ v) (k : ℕ) (out : v ≤ seed_place v ends lp k) where
  joined_none : marks ≡ joined marks (inside v ends play lp k)
  joined_none =
      same_set marks (joined marks (inside v ends play lp k)) (sym (length_joined marks (inside v ends play lp k)))
      (λ p t. subst T (sym (joined_at marks (inside v ends play lp k) (length_inside v ends play lp k ∙ sym long) p)) (T_or₁ (at marks p) (at (inside v ends play lp k) p) t))
      (λ p t. ⊎_elim (λ m. m) (λ i. absurd (inside_none v ends play lp sized k p out i)) (or_T (at marks p) (at (inside v ends play lp k) p) (subst T (joined_at marks (inside v ends play lp k) (length_inside v ends play lp k ∙ sym long) p) t)))

  pub spread_none : (queue : List ℕ) → Spread v ends play lp k marks marks queue 0
  unfolding fragment_at count
  spread_none queue = record {
    marked = joined_none;
    listed = λ z. sym (flag_F (at (inside v ends play lp k) z) (inside_none v ends play lp sized k z out));
    most = omega arith;
  }

-- ---- what is left when it has spread

module _ (v : ℕ) (ends : List ℕ) (play lp : List Bool) (sized : Sized v ends play) (k : ℕ) (marks marks' : List Bool) (queue : List ℕ) (n : ℕ)
    (s : Spread v ends play lp k marks marks' queue n) where
  listed_inside : (z : ℕ) → count z (take n queue) ≡ flag (at (inside v ends play lp k) z)
  unfolding fragment_at
  listed_inside z = s.listed z

  -- what the queue holds are ports of the fragment
  in_queue : (i : ℕ) → i < n → T (at (inside v ends play lp k) (get_or queue i 0))
  in_queue i h =
      let z = get_or (take n queue) i 0 in
      let c : 1 ≤ count z (take n queue) = place_count (take n queue) i (omega (arith, length-take-le n queue s.most)) in
      subst (λ (y : ℕ). T (at (inside v ends play lp k) y)) (get_or-take n queue i 0 h) (T_flag (at (inside v ends play lp k) z) (omega (arith, listed_inside z)))

  pub spread_ports : (i : ℕ) → i < n → get_or queue i 0 < v
  spread_ports i h = omega (arith, at_lt (inside v ends play lp k) (get_or queue i 0) (in_queue i h), length_inside v ends play lp k)

  -- there is a port where and only where there is a seed port
  some_seed : n ≢ 0 → seed_place v ends lp k < v
  some_seed h = go (dec_lt (seed_place v ends lp k) v)
    where
      go : Dec (seed_place v ends lp k < v) → seed_place v ends lp k < v
      go (yes b) = b
      go (no b) = absurd (inside_none v ends play lp sized k (get_or queue 0 0) (omega arith) (in_queue 0 (omega arith)))

  pub none_seed : n ≡ 0 → v ≤ seed_place v ends lp k
  unfolding count
  none_seed e = go (dec_lt (seed_place v ends lp k) v)
    where
      go : Dec (seed_place v ends lp k < v) → v ≤ seed_place v ends lp k
      go (yes b) =
          let p = seed_place v ends lp k in
          let none : count p (take n queue) ≡ 0 = ap (λ (m : ℕ). count p (take m queue)) e in
          absurd (not-suc-le-zero {n = 0} (omega (arith, none, listed_inside p, flag_T (at (inside v ends play lp k) p) ((inside_iff v ends play lp sized k b p).1 ([], refl)))))
      go (no b) = omega arith

  pub rooted_left : n ≢ 0 → (touched : List Bool) (contacts : List ℕ) (r : ℕ) → touched ≡ touch_from ends play lp (take n queue) (replicate v false)
      → r ≤ length contacts → take r contacts ≡ keep (at touched) (from 0 (length touched)) → Contacts v ends play lp k marks marks' contacts r
  rooted_left some touched contacts r t h c = record {
    most = h;
    list =
        c ∙ ap (λ (m : ℕ). keep (at touched) (from 0 m)) (ap length t ∙ length_touch_from ends play lp (take n queue) (replicate v false) ∙ length-replicate v false)
        ∙ ap (λ (r : List Bool). keep (at r) (from 0 v)) t
        ∙ sym (rooted_contacts v ends play lp sized k (some_seed some) (take n queue) listed_inside);
    marked = s.marked;
  }

  -- ---- a single channel

  module _ (loopless : Loopless ends) (o : at play k ≡ true) where
    dart : 2 * k < length ends
    dart = play_dart ends play sized.channels (2 * k) (rw (channel_of k, o) tt)

    pub two_ports : 2 ≤ v
    two_ports =
        let a = sized.ports (2 * k) dart in
        let b = enters_in v ends play sized (2 * k) dart in
        let ne = loopless (2 * k) dart in
        omega arith

    single_both : v ≤ seed_place v ends lp k → contacts_of v ends play lp (fragment_at v ends play lp k) ≡ rising (leaves ends (2 * k)) (enters ends (2 * k))
    unfolding rising
    single_both out = go (dec_lt (leaves ends (2 * k)) (enters ends (2 * k)))
      where
        go : Dec (leaves ends (2 * k) < enters ends (2 * k)) → contacts_of v ends play lp (fragment_at v ends play lp k)
            ≡ cond (ltb (leaves ends (2 * k)) (enters ends (2 * k))) (leaves ends (2 * k) ∷ enters ends (2 * k) ∷ []) (enters ends (2 * k) ∷ leaves ends (2 * k) ∷ [])
        go (yes h) = single_rising v ends play lp sized k (rw o tt) out h (enters_in v ends play sized (2 * k) dart) ∙ sym (rw (lt-ltb (leaves ends (2 * k)) (enters ends (2 * k)) h))
        go (no h) =
            let ne = loopless (2 * k) dart in
            let le : enters ends (2 * k) < leaves ends (2 * k) = omega arith in
            single_falling v ends play lp sized k (rw o tt) out le (sized.ports (2 * k) dart) ∙ sym (rw (le-ltb (leaves ends (2 * k)) (enters ends (2 * k)) (omega arith)))

    pub single_left : n ≡ 0 → (contacts : List ℕ) (r : ℕ) → r ≤ length contacts → take r contacts ≡ rising (leaves ends (2 * k)) (enters ends (2 * k)) → Contacts v ends play lp k marks marks' contacts r
    single_left e contacts r h c = record { most = h; list = c ∙ sym (single_both (none_seed e)); marked = s.marked }

-- ---- two ends, written in order

module _ (ends : List ℕ) (k a b : ℕ) (first : a ≡ get_or ends (2 * k) 0) (second : b ≡ get_or ends (2 * k + 1) 0) where
  ends_read : rising (leaves ends (2 * k)) (enters ends (2 * k)) ≡ rising a b
  unfolding leaves enters
  ends_read = rw (reverse_first k, first, second)

  -- the smaller and the larger
  pub both_rising : (x y : ℕ) → x ≡ min a b → y ≡ max a b → x ∷ y ∷ [] ≡ rising (leaves ends (2 * k)) (enters ends (2 * k))
  unfolding rising
  both_rising x y e f = go (dec_lt a b)
    where
      pair : (u w : ℕ) → x ≡ u → y ≡ w → x ∷ y ∷ [] ≡ u ∷ w ∷ []
      pair u w p q = rw (p, q)

      go : Dec (a < b) → x ∷ y ∷ [] ≡ rising (leaves ends (2 * k)) (enters ends (2 * k))
      go (yes h) = pair a b (omega (arith, e)) (omega (arith, f)) ∙ sym (ends_read ∙ rw (lt-ltb a b h))
      go (no h) = pair b a (omega (arith, e)) (omega (arith, f)) ∙ sym (ends_read ∙ rw (le-ltb a b (omega arith)))

-- ---- the two smallest contacts

module _ (v : ℕ) (ends : List ℕ) (play lp : List Bool) (k : ℕ) (marks marks' : List Bool) (contacts : List ℕ) (r : ℕ) (c : Contacts v ends play lp k marks marks' contacts r) where
  abbrev cs : List ℕ
  cs = contacts_of v ends play lp (fragment_at v ends play lp k)

  long : length cs ≡ r
  long = sym (ap length c.list) ∙ length-take-le r contacts c.most

  read : (i : ℕ) → i < length cs → get_or contacts i 0 ≡ get_or cs i 0
  read i h = sym (get_or-take r contacts i 0 (omega (arith, long))) ∙ ap (λ (l : List ℕ). get_or l i 0) c.list

  pub two_read : 2 ≤ length cs → (x y : ℕ) → x ≡ get_or contacts 0 0 → y ≡ get_or contacts 1 0 → record { x = x; y = y } ≡ two_of cs
  two_read h x y e f = ap (λ (z : ℕ). record { x = z; y = y }) (e ∙ read 0 (omega arith)) ∙ ap (λ (z : ℕ). record { x = get_or cs 0 0; y = z }) (f ∙ read 1 (omega arith))
