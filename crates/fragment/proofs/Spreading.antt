-- The fragment of channel k spreads from its seed port: its ports are those that channels in play link to that port through unlaid ports, and there are none where both ends of k are laid.
--   seed_place v ends lp k        the seed port as a number: v, past the last port, where there is none
-- same_set: two sets that hold of the same. seed_only: the seed is the seed port alone. seed_unlaid: that port is unlaid. seed_first, seed_second, seed_neither, seed_cases: by the ends of channel k. read_..: the seed port, as the code reads it.
-- seed_is, some_place, some_below, none_place, unmarked_place, place_unmarked: the seed port, where there is one, and that number.
-- inside_iff, inside_none: what the fragment's ports are. inside_step, inside_back: they are closed. same_reach: ports that are marked already do not change what the spread reaches.
-- Assumes nothing.
use mathlib.Core.Path.{◌≡◌, refl, sym, ap, ◌∙◌, subst}
use mathlib.Core.Logic.{◌↔◌}
use mathlib.Core.Bool.{Bool, true, false, cond, not}
use mathlib.Core.List.{List, [], ◌∷◌}
use Prim.Native.Nat.{ℕ, ◌+◌, ◌*◌, ◌≤◌, ◌<◌}
use native.Mathlib.Decide.{dec_lt}
use native.Mathlib.Omega.{arith}
use lib.Dec.{T, T_not, not_T}
use lib.ListN.{length, get_or, replicate, length-replicate, get_or-eq_default}
use lib.Seq.{set_out, ext_get_or}
use Rattle.std.specs.Prelude.{⊤, Option, Some, None, MatchOption}
use Rattle.std.specs.Option.{unwrap_or}
use Rattle.rules.specs.Lists.{at}
use Rattle.rules.specs.Terms.{leaves, enters, reverse}
use Rattle.rules.specs.Ways.{only, iter, larger, in_play, reached}
use Rattle.rules.specs.Laying.{seed}
use Rattle.laws.proofs.Tests.{cond_cases, T_is, T_isnt, same_flag}
use Rattle.laws.proofs.Sets.{at_none, length_only, iter_length}
use Rattle.laws.proofs.Trails.{leaves_reverse, enters_reverse}
use Rattle.laws.proofs.Reaches.{Whole, whole_of, play_dart, play_reverse, Way, Linked, reached_from, reached_iff, length_larger}
use Rattle.laws.proofs.Fragments.{unlaid, inside}
use Rattle.reach.specs.Floods.{Sized}
use Rattle.reach.proofs.Meeting.{enters_in}
use Rattle.fragment.specs.Fragments.{seed_port, Unmarked, Shut}

-- ---- two sets with the same ports

pub same_set : (s r : List Bool) → length s ≡ length r → ((p : ℕ) → T (at s p) → T (at r p)) → ((p : ℕ) → T (at r p) → T (at s p)) → s ≡ r
unfolding at
same_set s r e f g = ext_get_or false s r e (λ p h. same_flag (at s p) (at r p) (f p) (g p))

-- ---- the seed

pub reverse_first : (k : ℕ) → reverse (2 * k) ≡ 2 * k + 1
unfolding reverse
reverse_first k = omega arith

unfoldable pub seed_place : ℕ → List ℕ → List Bool → ℕ → ℕ
seed_place v ends lp k = cond (at lp (leaves ends (2 * k))) (cond (at lp (enters ends (2 * k))) v (enters ends (2 * k))) (leaves ends (2 * k))

module _ (v : ℕ) (ends : List ℕ) (play lp : List Bool) where
  pub seed_only : (k : ℕ) → seed v ends play lp k ≡ only v (seed_place v ends lp k)
  unfolding seed seed_place
  seed_only k = go (at lp (leaves ends (2 * k))) (at lp (enters ends (2 * k)))
    where
      go : (b c : Bool) → cond b (cond c (replicate v false) (only v (enters ends (2 * k)))) (only v (leaves ends (2 * k)))
          ≡ only v (cond b (cond c v (enters ends (2 * k))) (leaves ends (2 * k)))
      go true true = sym (set_out (replicate v false) v true (omega (arith, length-replicate v false)))
      go true false = refl
      go false c = refl

  pub seed_unlaid : (k : ℕ) → length lp ≡ v → T (unlaid lp (seed_place v ends lp k))
  unfolding seed_place at
  seed_unlaid k e = go (at lp (leaves ends (2 * k))) refl (at lp (enters ends (2 * k))) refl
    where
      go : (b : Bool) → at lp (leaves ends (2 * k)) ≡ b → (c : Bool) → at lp (enters ends (2 * k)) ≡ c → T (unlaid lp (cond b (cond c v (enters ends (2 * k))) (leaves ends (2 * k))))
      go true a true b = rw (get_or-eq_default lp false {n = v} (omega arith)) tt
      go true a false b = rw b tt
      go false a c b = rw a tt

  pub seed_first : (k : ℕ) → T (unlaid lp (leaves ends (2 * k))) → seed_place v ends lp k ≡ leaves ends (2 * k)
  unfolding seed_place
  seed_first k h = rw (T_isnt (at lp (leaves ends (2 * k))) (T_not (at lp (leaves ends (2 * k))) h))

  pub seed_second : (k : ℕ) → T (at lp (leaves ends (2 * k))) → T (unlaid lp (enters ends (2 * k))) → seed_place v ends lp k ≡ enters ends (2 * k)
  unfolding seed_place
  seed_second k h u = rw (T_is (at lp (leaves ends (2 * k))) h, T_isnt (at lp (enters ends (2 * k))) (T_not (at lp (enters ends (2 * k))) u))

  pub seed_neither : (k : ℕ) → T (at lp (leaves ends (2 * k))) → T (at lp (enters ends (2 * k))) → seed_place v ends lp k ≡ v
  unfolding seed_place
  seed_neither k h u = rw (T_is (at lp (leaves ends (2 * k))) h, T_is (at lp (enters ends (2 * k))) u)

  -- by the ends of channel k: the first is unlaid, the second alone is, or neither
  pub seed_cases : (P : ℕ → Type 0) (k : ℕ) → (T (unlaid lp (leaves ends (2 * k))) → P (leaves ends (2 * k)))
      → (T (at lp (leaves ends (2 * k))) → T (unlaid lp (enters ends (2 * k))) → P (enters ends (2 * k)))
      → (T (at lp (leaves ends (2 * k))) → T (at lp (enters ends (2 * k))) → P v) → P (seed_place v ends lp k)
  unfolding seed_place
  seed_cases P k f g h = cond_cases P (at lp (leaves ends (2 * k))) (λ a. cond_cases P (at lp (enters ends (2 * k))) (h a) (g a)) f

  -- as the code reads it at the ends of channel k
  module _ (k : ℕ) where
    seed_read : seed_port ends lp k ≡ cond (at lp (get_or ends (2 * k) 0)) (cond (at lp (get_or ends (2 * k + 1) 0)) None (Some (get_or ends (2 * k + 1) 0))) (Some (get_or ends (2 * k) 0))
    unfolding seed_port leaves enters
    seed_read = rw (reverse_first k)

    pub read_first : at lp (get_or ends (2 * k) 0) ≡ false → Some (get_or ends (2 * k) 0) ≡ seed_port ends lp k
    read_first e = sym (rw e at seed_read)

    pub read_second : at lp (get_or ends (2 * k) 0) ≡ true → at lp (get_or ends (2 * k + 1) 0) ≡ false → Some (get_or ends (2 * k + 1) 0) ≡ seed_port ends lp k
    read_second e f = sym (rw (e, f) at seed_read)

    pub read_neither : at lp (get_or ends (2 * k) 0) ≡ true → at lp (get_or ends (2 * k + 1) 0) ≡ true → None ≡ seed_port ends lp k
    read_neither e f = sym (rw (e, f) at seed_read)

    -- the port, where there is one, and its number
    seed_is : seed_place v ends lp k ≡ unwrap_or (seed_port ends lp k) v
    unfolding seed_port seed_place
    seed_is = go (at lp (leaves ends (2 * k))) (at lp (enters ends (2 * k)))
      where
        go : (b c : Bool) → cond b (cond c v (enters ends (2 * k))) (leaves ends (2 * k)) ≡ unwrap_or (cond {A = Option ℕ} b (cond c None (Some (enters ends (2 * k)))) (Some (leaves ends (2 * k)))) v
        go true true = refl
        go true false = refl
        go false c = refl

    pub some_place : (p : ℕ) → Some p ≡ seed_port ends lp k → p ≡ seed_place v ends lp k
    some_place p e = ap (λ o. unwrap_or o v) e ∙ sym seed_is

    pub none_place : None ≡ seed_port ends lp k → v ≡ seed_place v ends lp k
    none_place e = ap (λ o. unwrap_or o v) e ∙ sym seed_is

    pub some_below : Sized v ends play → 2 * k < length ends → (p : ℕ) → Some p ≡ seed_port ends lp k → p < v
    unfolding seed_port
    some_below sized h p = go (at lp (leaves ends (2 * k))) (at lp (enters ends (2 * k)))
      where
        none_some : None ≡ Some p → ⊥
        none_some e = cc

        go : (b c : Bool) → Some p ≡ cond {A = Option ℕ} b (cond c None (Some (enters ends (2 * k)))) (Some (leaves ends (2 * k))) → p < v
        go true true e = absurd (none_some (sym e))
        go true false e = omega (arith, ap (λ o. unwrap_or o 0) e, enters_in v ends play sized (2 * k) h)
        go false c e = omega (arith, ap (λ o. unwrap_or o 0) e, sized.ports (2 * k) h)

    module _ (marks : List Bool) where
      pub unmarked_place : length marks ≡ v → Unmarked ends lp marks k → at marks (seed_place v ends lp k) ≡ false
      unfolding at
      unmarked_place long u = go (seed_port ends lp k) seed_is u
        where
          go : (o : Option ℕ) → seed_place v ends lp k ≡ unwrap_or o v → MatchOption o ⊤ (λ p. at marks p ≡ false) → at marks (seed_place v ends lp k) ≡ false
          go None e w = ap (at marks) e ∙ get_or-eq_default marks false {n = v} (omega (arith, long))
          go (Some p) e w = ap (at marks) e ∙ w

      pub place_unmarked : at marks (seed_place v ends lp k) ≡ false → Unmarked ends lp marks k
      place_unmarked u = go (seed_port ends lp k) seed_is
        where
          go : (o : Option ℕ) → seed_place v ends lp k ≡ unwrap_or o v → MatchOption o ⊤ (λ p. at marks p ≡ false)
          go None e = tt
          go (Some p) e = ap (at marks) (sym e) ∙ u

  module _ (sized : Sized v ends play) where
    play_whole : Whole ends (in_play play)
    play_whole = whole_of ends (in_play play) (play_dart ends play sized.channels)

    play_port : (d : ℕ) → T (in_play play d) → leaves ends d < v
    play_port d t = sized.ports d (play_dart ends play sized.channels d t)

    -- ---- the ports of the fragment

    module _ (k : ℕ) (inn : seed_place v ends lp k < v) where
      pub inside_iff : (p : ℕ) → T (at (inside v ends play lp k) p) ↔ Linked ends (in_play play) (unlaid lp) p (seed_place v ends lp k)
      inside_iff p =
          subst (λ (s : List Bool). T (at (iter (larger ends (in_play play) (unlaid lp)) v s) p) ↔ Linked ends (in_play play) (unlaid lp) p (seed_place v ends lp k)) (sym (seed_only k))
          (reached_iff v ends (in_play play) (unlaid lp) play_whole play_port (seed_place v ends lp k) inn p)

    pub inside_none : (k p : ℕ) → v ≤ seed_place v ends lp k → T (at (inside v ends play lp k) p) → ⊥
    inside_none k p h t =
        let r = reached_from ends (in_play play) (unlaid lp) v (seed v ends play lp k) p t in
        at_none v r.0 (subst (λ (s : List Bool). T (at s r.0)) (seed_only k ∙ set_out (replicate v false) (seed_place v ends lp k) true (omega (arith, length-replicate v false))) r.1)

    -- they are closed: what a channel in play joins to them is one of them, where it is unlaid
    pub inside_step : (k d : ℕ) → T (in_play play d) → T (unlaid lp (leaves ends d)) → T (at (inside v ends play lp k) (enters ends d)) → T (at (inside v ends play lp k) (leaves ends d))
    inside_step k d o u t = go (dec_lt (seed_place v ends lp k) v)
      where
        go : Dec (seed_place v ends lp k < v) → T (at (inside v ends play lp k) (leaves ends d))
        go (yes h) = let w = (inside_iff k h (enters ends d)).0 t in (inside_iff k h (leaves ends d)).1 (d ∷ w.0, (o, refl, u, w.1))
        go (no h) = absurd (inside_none k (enters ends d) (omega arith) t)

    pub inside_back : (k d : ℕ) → T (in_play play d) → T (unlaid lp (enters ends d)) → T (at (inside v ends play lp k) (leaves ends d)) → T (at (inside v ends play lp k) (enters ends d))
    inside_back k d o u t =
        rw (← leaves_reverse ends d) (inside_step k (reverse d) (play_reverse play d o) (rw (leaves_reverse ends d) u) (rw (enters_reverse ends d) t))

    -- ---- marks

    module _ (marks : List Bool) (lpv : length lp ≡ v) (shut : Shut ends play lp marks) (p : ℕ) (inn : p < v) (clear : T (not (at marks p))) where
      clear_unlaid : (q : ℕ) → T (not (at marks q)) → T (unlaid lp q)
      clear_unlaid q h = not_T (at lp q) (λ t. T_not (at marks q) h (shut.holds q t))

      -- a way through unlaid ports to a port without a mark meets no mark
      clear_start : (z : ℕ) (w : List ℕ) → Way ends (in_play play) (unlaid lp) z w p → T (not (at marks z))
      clear_start z [] h = subst (λ (x : ℕ). T (not (at marks x))) (sym h) clear
      clear_start z (d ∷ w) h =
          let n = clear_start (enters ends d) w h.3 in
          not_T (at marks z) (λ t.
          T_not (at marks (enters ends d)) n
          (shut.shut d h.0 (subst (λ (x : ℕ). T (unlaid lp x)) (sym h.1) h.2) (clear_unlaid (enters ends d) n) (subst (λ (x : ℕ). T (at marks x)) (sym h.1) t)))

      clear_way : (z : ℕ) (w : List ℕ) → Way ends (in_play play) (unlaid lp) z w p → Way ends (in_play play) (λ q. not (at marks q)) z w p
      clear_way z [] h = h
      clear_way z (d ∷ w) h = (h.0, h.1, clear_start z (d ∷ w) h, clear_way (enters ends d) w h.3)

      unlaid_way : (z : ℕ) (w : List ℕ) → Way ends (in_play play) (λ q. not (at marks q)) z w p → Way ends (in_play play) (unlaid lp) z w p
      unlaid_way z [] h = h
      unlaid_way z (d ∷ w) h = (h.0, h.1, clear_unlaid z h.2, unlaid_way (enters ends d) w h.3)

      -- a spread that stops at the marks reaches what one reaches that stops at the laid ports
      pub same_reach : reached v ends play (λ q. not (at marks q)) p ≡ reached v ends play (unlaid lp) p
      unfolding reached
      same_reach =
          let f = reached_iff v ends (in_play play) (λ q. not (at marks q)) play_whole play_port p inn in
          let g = reached_iff v ends (in_play play) (unlaid lp) play_whole play_port p inn in
          same_set (reached v ends play (λ q. not (at marks q)) p) (reached v ends play (unlaid lp) p)
          (long (λ q. not (at marks q)) ∙ sym (long (unlaid lp)))
          (λ q t. let w = (f q).0 t in (g q).1 (w.0, unlaid_way q w.0 w.1))
          (λ q t. let w = (g q).0 t in (f q).1 (w.0, clear_way q w.0 w.1))
        where
          long : (free : ℕ → Bool) → length (reached v ends play free p) ≡ v
          long free = iter_length (larger ends (in_play play) free) (length_larger ends (in_play play) free) v (only v p) ∙ length_only v p
