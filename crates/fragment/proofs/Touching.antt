-- The contacts of a fragment: the laid ports that darts in play enter from its ports; or, where it is one channel between two laid ports, the two ends.
--   Touches ends play lp z d          dart d is in play and enters the laid port z
--   test v ends play lp sized k p     port p is a contact of the fragment of channel k
-- touch_.., touch_all_.., touch_from_..: what is touched. rooted_contacts: the contacts, read off what is touched. keep_..: a list that keeps two numbers. single_rising, single_falling: the contacts of a single channel.
-- Assumes nothing.
use mathlib.Core.Path.{◌≡◌, refl, sym, ap, ◌∙◌, subst, fun_ext}
use mathlib.Core.Logic.{◌≢◌, ◌⊎◌, inl, inr, ⊎_elim}
use mathlib.Core.Bool.{Bool, true, false, ◌&&◌}
use mathlib.Core.List.{List, [], ◌∷◌}
use Prim.Native.Nat.{ℕ, zero, suc, ◌+◌, ◌-◌, ◌*◌, ◌/◌, ◌≤◌, ◌<◌}
use native.Mathlib.Nat.{not-suc-le-zero}
use native.Mathlib.Omega.{arith}
use lib.Dec.{T, eqb, eqb→eq, T_not}
use lib.ListN.{length, replicate, length-set, length-replicate}
use Rattle.rules.specs.Lists.{from, any, keep, at}
use Rattle.rules.specs.Terms.{leaves, enters, reverse, darts_at}
use Rattle.rules.specs.Ways.{in_play}
use Rattle.rules.specs.Laying.{fragment_at, contacts_of}
use Rattle.laws.proofs.Tests.{cond_cases, T_is, T_isnt, eq_eqb, and_T, T_and, same_flag}
use Rattle.laws.proofs.Counts.{flag, flag_T, T_flag, is, is_self, is_cases, is_apart, count}
use Rattle.laws.proofs.Lists.{any_T, T_any, count_from}
use Rattle.laws.proofs.Sets.{at_set_same, at_set_keeps, at_set_from, at_none, Sub}
use Rattle.laws.proofs.Runs.{reverse_channel, channel_darts, channel_of}
use Rattle.laws.proofs.Trails.{leaves_reverse, enters_reverse}
use Rattle.laws.proofs.Reaches.{play_dart, play_reverse}
use Rattle.laws.proofs.Fragments.{inside, inside_unlaid, of_fragment, of_cases, of_own_lem, of_leaves, of_play, of_reverse}
use Rattle.reach.specs.Floods.{Sized}
use Rattle.reach.proofs.Meeting.{enters_in}
use Rattle.reach.proofs.Flooding.{darts_leave, leaving_darts}
use Rattle.fragment.specs.Fragments.{touch, touch_all, touch_from}
use Rattle.fragment.proofs.Spreading.{seed_place, seed_cases, seed_first, seed_second, seed_neither, inside_iff, inside_none}

-- ---- what is touched

module _ (ends : List ℕ) (play lp : List Bool) where
  -- dart d touches port z
  abbrev pub Touches : ℕ → ℕ → Type 0
  Touches z d = T (in_play play d) × T (at lp (enters ends d)) × (enters ends d ≡ z)

  pub length_touch : (d : ℕ) (s : List Bool) → length (touch ends play lp d s) ≡ length s
  unfolding touch
  length_touch d s = cond_cases (λ (r : List Bool). length r ≡ length s) (in_play play d && at lp (enters ends d)) (λ t. length-set s (enters ends d) true) (λ t. refl)

  touch_keeps : (d : ℕ) (s : List Bool) → Sub s (touch ends play lp d s)
  unfolding touch
  touch_keeps d s z h = cond_cases (λ (r : List Bool). T (at r z)) (in_play play d && at lp (enters ends d)) (λ t. at_set_keeps s (enters ends d) z h) (λ t. h)

  touch_from_lem : (d : ℕ) (s : List Bool) (z : ℕ) → T (at (touch ends play lp d s) z) → T (at s z) ⊎ Touches z d
  unfolding touch
  touch_from_lem d s z =
      cond_cases (λ (r : List Bool). T (at r z) → T (at s z) ⊎ Touches z d) (in_play play d && at lp (enters ends d))
      (λ t h. ⊎_elim (λ e. let w = and_T (in_play play d) (at lp (enters ends d)) t in inr (w.0, w.1, sym e)) inl (at_set_from s (enters ends d) z h)) (λ t h. inl h)

  touch_adds : (d : ℕ) (s : List Bool) (z : ℕ) → z < length s → Touches z d → T (at (touch ends play lp d s) z)
  unfolding touch
  touch_adds d s z b (o, l, e) = rw (T_is (in_play play d && at lp (enters ends d)) (T_and (in_play play d) (at lp (enters ends d)) o l), e) (at_set_same s z b)

  pub length_touch_all : (ds : List ℕ) (s : List Bool) → length (touch_all ends play lp ds s) ≡ length s
  unfolding touch_all
  length_touch_all [] s = refl
  length_touch_all (d ∷ ds) s = length_touch_all ds (touch ends play lp d s) ∙ length_touch d s

  touch_all_keeps : (ds : List ℕ) (s : List Bool) → Sub s (touch_all ends play lp ds s)
  unfolding touch_all
  touch_all_keeps [] s z h = h
  touch_all_keeps (d ∷ ds) s z h = touch_all_keeps ds (touch ends play lp d s) z (touch_keeps d s z h)

  touch_all_from : (ds : List ℕ) (s : List Bool) (z : ℕ) → T (at (touch_all ends play lp ds s) z) → T (at s z) ⊎ ((d : ℕ) × (1 ≤ count d ds) × Touches z d)
  unfolding touch_all count
  touch_all_from [] s z h = inl h
  touch_all_from (d ∷ ds) s z h =
      ⊎_elim (λ k. ⊎_elim inl (λ w. inr (d, omega (arith, is_self d), w)) (touch_from_lem d s z k)) (λ w. inr (w.0, omega (arith, w.1), w.2))
      (touch_all_from ds (touch ends play lp d s) z h)

  touch_all_adds : (ds : List ℕ) (s : List Bool) (z d : ℕ) → z < length s → 1 ≤ count d ds → Touches z d → T (at (touch_all ends play lp ds s) z)
  unfolding touch_all count
  touch_all_adds [] s z d b h w = absurd (not-suc-le-zero h)
  touch_all_adds (x ∷ ds) s z d b h w =
      ⊎_elim (λ e. touch_all_keeps ds (touch ends play lp x s) z (touch_adds x s z b (subst (Touches z) e w)))
      (λ n. touch_all_adds ds (touch ends play lp x s) z d (omega (arith, length_touch x s)) (omega arith) w) (is_cases d x)

  pub length_touch_from : (ps : List ℕ) (s : List Bool) → length (touch_from ends play lp ps s) ≡ length s
  unfolding touch_from
  length_touch_from [] s = refl
  length_touch_from (p ∷ ps) s = length_touch_from ps (touch_all ends play lp (darts_at ends p) s) ∙ length_touch_all (darts_at ends p) s

  touch_from_keeps : (ps : List ℕ) (s : List Bool) → Sub s (touch_from ends play lp ps s)
  unfolding touch_from
  touch_from_keeps [] s z h = h
  touch_from_keeps (p ∷ ps) s z h = touch_from_keeps ps (touch_all ends play lp (darts_at ends p) s) z (touch_all_keeps (darts_at ends p) s z h)

  touch_from_from : (ps : List ℕ) (s : List Bool) (z : ℕ) → T (at (touch_from ends play lp ps s) z) → T (at s z) ⊎ ((d : ℕ) × (1 ≤ count (leaves ends d) ps) × Touches z d)
  unfolding touch_from count
  touch_from_from [] s z h = inl h
  touch_from_from (p ∷ ps) s z h =
      ⊎_elim
      (λ k. ⊎_elim inl (λ w. inr (w.0, omega (arith, ap (λ (q : ℕ). is q p) (darts_leave ends p w.0 w.1), is_self p), w.2)) (touch_all_from (darts_at ends p) s z k))
      (λ w. inr (w.0, omega (arith, w.1), w.2))
      (touch_from_from ps (touch_all ends play lp (darts_at ends p) s) z h)

  touch_from_adds : (ps : List ℕ) (s : List Bool) (z d : ℕ) → z < length s → d < length ends → 1 ≤ count (leaves ends d) ps → Touches z d → T (at (touch_from ends play lp ps s) z)
  unfolding touch_from count
  touch_from_adds [] s z d b c h w = absurd (not-suc-le-zero h)
  touch_from_adds (p ∷ ps) s z d b c h w =
      ⊎_elim (λ e. touch_from_keeps ps (touch_all ends play lp (darts_at ends p) s) z (touch_all_adds (darts_at ends p) s z d b (leaving_darts ends p d c e) w))
      (λ n. touch_from_adds ps (touch_all ends play lp (darts_at ends p) s) z d (omega (arith, length_touch_all (darts_at ends p) s)) c (omega arith) w) (is_cases (leaves ends d) p)

-- ---- the contacts of a fragment that has ports

module _ (v : ℕ) (ends : List ℕ) (play lp : List Bool) (sized : Sized v ends play) (k : ℕ) where
  abbrev test : ℕ → Bool
  test p = at lp p && any (λ d. of_fragment v ends play lp k d && eqb (leaves ends d) p) (from 0 (length ends))

  -- what a contact is
  test_from : (p : ℕ) → T (test p) → T (at lp p) × ((d : ℕ) × T (of_fragment v ends play lp k d) × (leaves ends d ≡ p))
  test_from p t =
      let a = and_T (at lp p) (any (λ d. of_fragment v ends play lp k d && eqb (leaves ends d) p) (from 0 (length ends))) t in
      let r = any_T (λ d. of_fragment v ends play lp k d && eqb (leaves ends d) p) (from 0 (length ends)) a.1 in
      let b = and_T (of_fragment v ends play lp k r.0) (eqb (leaves ends r.0) p) r.2 in
      (a.0, (r.0, b.0, eqb→eq (leaves ends r.0) p b.1))

  test_to : (p d : ℕ) → T (at lp p) → T (of_fragment v ends play lp k d) → leaves ends d ≡ p → T (test p)
  test_to p d l h e =
      T_and (at lp p) (any (λ c. of_fragment v ends play lp k c && eqb (leaves ends c) p) (from 0 (length ends))) l
      (T_any (λ c. of_fragment v ends play lp k c && eqb (leaves ends c) p) (from 0 (length ends)) d
      (count_from d 0 (length ends) (omega arith) (omega (arith, play_dart ends play sized.channels d (of_play v ends play lp k d h))))
      (T_and (of_fragment v ends play lp k d) (eqb (leaves ends d) p) h (eq_eqb (leaves ends d) p e)))

  module _ (inn : seed_place v ends lp k < v) where
    seed_inside : T (at (inside v ends play lp k) (seed_place v ends lp k))
    seed_inside = (inside_iff v ends play lp sized k inn (seed_place v ends lp k)).1 ([], refl)

    -- a dart of the fragment that leaves a laid port enters one of its ports
    enters_inside : (d : ℕ) → T (of_fragment v ends play lp k d) → T (at lp (leaves ends d)) → T (at (inside v ends play lp k) (enters ends d))
    enters_inside d h l =
        ⊎_elim (λ e. ⊎_elim (λ q. own (2 * k) q (first (subst (λ (c : ℕ). T (at lp (leaves ends c))) q l))) (λ q. own (reverse (2 * k)) q (second (subst (λ (c : ℕ). T (at lp (leaves ends c))) q l))) (channel_darts d k e))
        (λ e. ⊎_elim (λ i. absurd (T_not (at lp (leaves ends d)) (inside_unlaid v ends play lp k (leaves ends d) i) l)) (λ i. i) e)
        (of_cases v ends play lp k d h)
      where
        own : (c : ℕ) → d ≡ c → seed_place v ends lp k ≡ enters ends c → T (at (inside v ends play lp k) (enters ends d))
        own c q e = subst (λ (p : ℕ). T (at (inside v ends play lp k) p)) (e ∙ ap (enters ends) (sym q)) seed_inside

        other : (b : Bool) → at lp (enters ends (2 * k)) ≡ b → T (at lp (leaves ends (2 * k))) → seed_place v ends lp k ≡ enters ends (2 * k)
        other true e a = absurd (not-suc-le-zero {n = 0} (omega (arith, seed_neither v ends play lp k a (rw e tt))))
        other false e a = seed_second v ends play lp k a (rw e tt)

        first : T (at lp (leaves ends (2 * k))) → seed_place v ends lp k ≡ enters ends (2 * k)
        first a = other (at lp (enters ends (2 * k))) refl a

        another : (b : Bool) → at lp (leaves ends (2 * k)) ≡ b → T (at lp (enters ends (2 * k))) → seed_place v ends lp k ≡ leaves ends (2 * k)
        another true e a = absurd (not-suc-le-zero {n = 0} (omega (arith, seed_neither v ends play lp k (rw e tt) a)))
        another false e a = seed_first v ends play lp k (rw e tt)

        second : T (at lp (leaves ends (reverse (2 * k)))) → seed_place v ends lp k ≡ enters ends (reverse (2 * k))
        second a = another (at lp (leaves ends (2 * k))) refl (subst (λ (p : ℕ). T (at lp p)) (leaves_reverse ends (2 * k)) a) ∙ sym (enters_reverse ends (2 * k))

    -- the contacts are what the darts of its ports touch
    pub rooted_contacts : (ps : List ℕ) → ((z : ℕ) → count z ps ≡ flag (at (inside v ends play lp k) z))
        → contacts_of v ends play lp (fragment_at v ends play lp k) ≡ keep (at (touch_from ends play lp ps (replicate v false))) (from 0 v)
    unfolding contacts_of
    rooted_contacts ps h = ap (λ (f : ℕ → Bool). keep f (from 0 v)) (fun_ext (λ p. same_flag (test p) (at touched p) (to p) (back p)))
      where
        touched : List Bool
        touched = touch_from ends play lp ps (replicate v false)

        to : (p : ℕ) → T (test p) → T (at touched p)
        to p t =
            let r = test_from p t in
            let d = r.1.0 in
            let o = of_play v ends play lp k d r.1.1 in
            let i : T (at (inside v ends play lp k) (enters ends d)) = enters_inside d r.1.1 (subst (λ (q : ℕ). T (at lp q)) (sym r.1.2) r.0) in
            let c = play_dart ends play sized.channels (reverse d) (play_reverse play d o) in
            let e : enters ends (reverse d) ≡ p = enters_reverse ends d ∙ r.1.2 in
            touch_from_adds ends play lp ps (replicate v false) p (reverse d)
            (omega (arith, length-replicate v false, r.1.2, sized.ports d (play_dart ends play sized.channels d o))) c
            (omega (arith, ap (λ (q : ℕ). count q ps) (leaves_reverse ends d), h (enters ends d), flag_T (at (inside v ends play lp k) (enters ends d)) i))
            (play_reverse play d o, subst (λ (q : ℕ). T (at lp q)) (sym e) r.0, e)

        back : (p : ℕ) → T (at touched p) → T (test p)
        back p t =
            ⊎_elim (λ n. absurd (at_none v p n))
            (λ w.
            let d = w.0 in
            let i : T (at (inside v ends play lp k) (leaves ends d)) = T_flag (at (inside v ends play lp k) (leaves ends d)) (omega (arith, w.1, h (leaves ends d))) in
            test_to p (reverse d) (subst (λ (q : ℕ). T (at lp q)) w.2.2 w.2.1) (of_reverse v ends play lp k d (of_leaves v ends play lp k d w.2.0 i)) (leaves_reverse ends d ∙ w.2.2))
            (touch_from_from ends play lp ps (replicate v false) p t)

-- ---- the contacts of a single channel

keep_past : (f : ℕ → Bool) (i n : ℕ) → ((p : ℕ) → i ≤ p → T (f p) → ⊥) → keep f (from i n) ≡ []
unfolding keep from
keep_past f i zero h = refl
keep_past f i (suc n) h = rw (T_isnt (f i) (h i (omega arith))) (keep_past f (suc i) n (λ p a. h p (omega arith)))

-- a is the lowest that passes
keep_next : (f : ℕ → Bool) (i n a : ℕ) → i ≤ a → a < i + n → T (f a) → ((p : ℕ) → i ≤ p → p < a → T (f p) → ⊥) → keep f (from i n) ≡ a ∷ keep f (from (suc a) (i + n - suc a))
unfolding keep from
keep_next f i zero a h k t u = absurd (not-suc-le-zero {n = 0} (omega arith))
keep_next f i (suc n) a h k t u =
    ⊎_elim
    (λ e. rw (T_is (f i) (subst (λ (p : ℕ). T (f p)) (sym e) t)) (ap (λ (p : ℕ). p ∷ keep f (from (suc p) n)) e ∙ ap (λ (m : ℕ). a ∷ keep f (from (suc a) m)) (left e)))
    (λ m.
    let ne : i ≢ a = is_apart i a m in
    rw (T_isnt (f i) (u i (omega arith) (omega arith))) (keep_next f (suc i) n a (omega arith) (omega arith) t (λ p b. u p (omega arith)) ∙ ap (λ (m : ℕ). a ∷ keep f (from (suc a) m)) same))
    (is_cases i a)
  where
    left : i ≡ a → n ≡ i + suc n - suc a
    left e = omega arith

    same : suc i + n - suc a ≡ i + suc n - suc a
    same = omega arith

keep_two : (f : ℕ → Bool) (v a b : ℕ) → a < b → b < v → T (f a) → T (f b) → ((p : ℕ) → T (f p) → (p ≡ a) ⊎ (p ≡ b)) → keep f (from 0 v) ≡ a ∷ b ∷ []
keep_two f v a b h k ta tb u =
    keep_next f 0 v a (omega arith) (omega arith) ta (λ p x y t. ⊎_elim (λ e. omega arith) (λ e. omega arith) (u p t))
    ∙ ap (λ (l : List ℕ). a ∷ l)
    (keep_next f (suc a) (0 + v - suc a) b (omega arith) (omega arith) tb (λ p x y t. ⊎_elim (λ e. omega arith) (λ e. omega arith) (u p t))
    ∙ ap (λ (l : List ℕ). b ∷ l) (keep_past f (suc b) (suc a + (0 + v - suc a) - suc b) (λ p x t. ⊎_elim (λ e. omega arith) (λ e. omega arith) (u p t))))

module _ (v : ℕ) (ends : List ℕ) (play lp : List Bool) (sized : Sized v ends play) (k : ℕ) (o : T (at play k)) (out : v ≤ seed_place v ends lp k) where
  -- both ends are laid
  both_laid : T (at lp (leaves ends (2 * k))) × T (at lp (enters ends (2 * k)))
  both_laid =
      seed_cases v ends play lp (λ (p : ℕ). v ≤ p → T (at lp (leaves ends (2 * k))) × T (at lp (enters ends (2 * k)))) k
      (λ a h. absurd (not-suc-le-zero {n = 0} (omega (arith, sized.ports (2 * k) dart)))) (λ a b h. absurd (not-suc-le-zero {n = 0} (omega (arith, enters_in v ends play sized (2 * k) dart)))) (λ a b h. (a, b)) out
    where
      dart : 2 * k < length ends
      dart = play_dart ends play sized.channels (2 * k) (rw (channel_of k) o)

  own_darts : (d : ℕ) → T (of_fragment v ends play lp k d) → d / 2 ≡ k
  own_darts d h =
      ⊎_elim (λ e. e) (λ e. ⊎_elim (λ i. absurd (inside_none v ends play lp sized k (leaves ends d) out i)) (λ i. absurd (inside_none v ends play lp sized k (enters ends d) out i)) e) (of_cases v ends play lp k d h)

  ends_only : (p : ℕ) → T (test v ends play lp sized k p) → (p ≡ leaves ends (2 * k)) ⊎ (p ≡ enters ends (2 * k))
  ends_only p t =
      let r = test_from v ends play lp sized k p t in
      ⊎_elim (λ q. inl (sym r.1.2 ∙ ap (leaves ends) q)) (λ q. inr (sym r.1.2 ∙ ap (leaves ends) q ∙ leaves_reverse ends (2 * k))) (channel_darts r.1.0 k (own_darts r.1.0 r.1.1))

  first_end : T (test v ends play lp sized k (leaves ends (2 * k)))
  first_end = test_to v ends play lp sized k (leaves ends (2 * k)) (2 * k) both_laid.0 (of_own_lem v ends play lp k (2 * k) o (channel_of k)) refl

  second_end : T (test v ends play lp sized k (enters ends (2 * k)))
  second_end =
      test_to v ends play lp sized k (enters ends (2 * k)) (reverse (2 * k)) both_laid.1 (of_own_lem v ends play lp k (reverse (2 * k)) o (reverse_channel (2 * k) ∙ channel_of k)) (leaves_reverse ends (2 * k))

  pub single_rising : leaves ends (2 * k) < enters ends (2 * k) → enters ends (2 * k) < v → contacts_of v ends play lp (fragment_at v ends play lp k) ≡ leaves ends (2 * k) ∷ enters ends (2 * k) ∷ []
  unfolding contacts_of
  single_rising h b = keep_two (test v ends play lp sized k) v (leaves ends (2 * k)) (enters ends (2 * k)) h b first_end second_end ends_only

  pub single_falling : enters ends (2 * k) < leaves ends (2 * k) → leaves ends (2 * k) < v → contacts_of v ends play lp (fragment_at v ends play lp k) ≡ enters ends (2 * k) ∷ leaves ends (2 * k) ∷ []
  unfolding contacts_of
  single_falling h b = keep_two (test v ends play lp sized k) v (enters ends (2 * k)) (leaves ends (2 * k)) h b second_end first_end (λ p t. ⊎_elim inr inl (ends_only p t))
