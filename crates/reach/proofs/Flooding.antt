-- The loop of `flood`. Every port met is linked to p, and the ports before the head of the queue have every neighbour in play marked. At the end the ports met are closed, so that they are those around p.
--   Linked_in ends play M z p                       a way leads from port z to p, by channels in play and through ports without a mark in M
--   Flood ends play M p s h                         the state s of a flood from p over the marks M, of whose ports the first h are done
--   Flow ends play M p q₀ n₀ marks queue n h        the same of the marks and the first n of the queue, which had n₀ ports when it was q₀
-- flood_start, flood_step, flood_listed, flood_marked: a state at the beginning, after one port, and what it comes to. start, step, end: the same with the code's marks and queue.
-- Assumes nothing.
use mathlib.Core.Path.{◌≡◌, refl, sym, ap, ◌∙◌, subst}
use mathlib.Core.Logic.{◌≢◌, ⊎_elim}
use mathlib.Core.Bool.{Bool, true, false, not, ◌||◌}
use mathlib.Core.List.{List, [], ◌∷◌}
use Prim.Native.Nat.{ℕ, ◌+◌, ◌≤◌, ◌<◌}
use native.Mathlib.Nat.{not-suc-le-zero, zero-add}
use native.Mathlib.Decide.{dec_lt}
use native.Mathlib.Omega.{arith}
use lib.Dec.{T, eqb, eqb→eq, T_not, not_T}
use lib.ListN.{length, get_or, set, take, length-append, length-set, get_or-eq_default, get_or-append}
use lib.Seq.{ext_get_or, get_or-take, length-take-le, take-suc-set, drop-set-lt}
use Rattle.rules.specs.Lists.{from, at}
use Rattle.rules.specs.Terms.{leaves, reverse, enters, darts_at}
use Rattle.rules.specs.Ways.{reached, in_play}
use Rattle.laws.proofs.Tests.{eqb_yes}
use Rattle.laws.proofs.Counts.{flag, flag_T, flag_F, T_flag, flag_le, flag_inj, is_self, is_cases, is_apart, count, count_append}
use Rattle.laws.proofs.Lists.{keep_T, T_keep, count_from, place_count, place_of}
use Rattle.laws.proofs.Sets.{at_lt}
use Rattle.laws.proofs.Trails.{leaves_reverse, enters_reverse}
use Rattle.laws.proofs.Reaches.{Way, Linked, reached_iff, whole_of, play_dart, play_reverse}
use Rattle.reach.specs.Floods.{joined, around, Sized, Flooded}
use Rattle.reach.specs.Meets.{Met, met_in, meet_all, Room, Held}
use Rattle.laws.proofs.Seeking.{length_map_from, get_or_map_from}
use Rattle.reach.proofs.Meeting.{flag_set, Gains, gains_keeps, gains_count, meet_all_gains, meet_all_from, meet_all_marks, held_trans, room_on}

-- ---- places of a list

-- ---- the darts of a port

pub darts_leave : (ends : List ℕ) (p d : ℕ) → 1 ≤ count d (darts_at ends p) → leaves ends d ≡ p
unfolding darts_at
darts_leave ends p d h = eqb→eq (leaves ends d) p (keep_T (λ e. eqb (leaves ends e) p) (from 0 (length ends)) d h)

pub leaving_darts : (ends : List ℕ) (p d : ℕ) → d < length ends → leaves ends d ≡ p → 1 ≤ count d (darts_at ends p)
unfolding darts_at
leaving_darts ends p d h e =
    T_keep (λ k. eqb (leaves ends k) p) (from 0 (length ends)) d (count_from d 0 (length ends) (omega arith) (omega arith)) (rw (eqb_yes (leaves ends d) p e) tt)

-- every number, as a dart, enters one of the ports
enters_all : (v : ℕ) (ends : List ℕ) (play : List Bool) → Sized v ends play → 0 < v → (d : ℕ) → enters ends d < v
unfolding enters leaves
enters_all v ends play z h d = go (dec_lt (reverse d) (length ends))
  where
    go : Dec (reverse d < length ends) → get_or ends (reverse d) 0 < v
    go (yes b) = z.ports (reverse d) b
    go (no b) = let e : get_or ends (reverse d) 0 ≡ 0 = get_or-eq_default ends 0 (omega arith) in omega arith

-- ---- the invariant over a state

abbrev pub Linked_in : List ℕ → List Bool → List Bool → ℕ → ℕ → Type 0
Linked_in ends play M z p = Linked ends (in_play play) (λ q. not (at M q)) z p

pub record Flood (ends : List ℕ) (play M : List Bool) (p : ℕ) (s : Met) (h : ℕ) : Type 0 where
  -- the ports met are marked, and no others than were
  pub exact : (z : ℕ) → flag (at M z) + count z s.queue ≡ flag (at s.marks z)
  pub long : length s.marks ≡ length M
  pub linked : (z : ℕ) → 1 ≤ count z s.queue → Linked_in ends play M z p
  -- what a dart in play enters from one of the first h ports is marked
  pub closed : (i : ℕ) → i < h → (d : ℕ) → d < length ends → leaves ends d ≡ get_or s.queue i 0 → T (in_play play d) → T (at s.marks (enters ends d))
  pub begun : 1 ≤ count p s.queue
  pub most : h ≤ length s.queue

pub flood_start : (ends : List ℕ) (play M : List Bool) (p : ℕ) → p < length M → at M p ≡ false → Flood ends play M p (record { marks = set M p true; queue = p ∷ [] }) 0
unfolding count
flood_start ends play M p b e = record {
  exact = λ z. omega (arith, flag_set M p z b (rw e tt));
  long = length-set M p true;
  linked = λ z h. ⊎_elim (λ k. ([], k)) (λ m. absurd (not-suc-le-zero {n = 0} (omega arith))) (is_cases z p);
  closed = λ i h. absurd (not-suc-le-zero h);
  begun = omega (arith, is_self p);
  most = omega arith;
}

module _ (ends : List ℕ) (play M : List Bool) (p : ℕ) (sized : Sized (length M) ends play) (inside : p < length M) (s : Met) (h : ℕ) (f : Flood ends play M p s h) where
  all_in : (d : ℕ) → enters ends d < length M
  all_in = enters_all (length M) ends play sized (omega arith)

  -- ---- one port more is done

  module _ (b : h < length s.queue) where
    abbrev here : ℕ
    here = get_or s.queue h 0

    abbrev after : Met
    after = meet_all ends play (darts_at ends here) s

    gains : Gains s after
    gains = meet_all_gains ends play (length M) all_in (darts_at ends here) s f.long

    exact_after : (z : ℕ) → flag (at M z) + count z after.queue ≡ flag (at after.marks z)
    exact_after z = omega (arith, f.exact z, gains_count s after gains z)

    fresh_after : (z : ℕ) → 1 ≤ count z after.queue → T (not (at M z))
    fresh_after z k = not_T (at M z) (λ t. not-suc-le-zero {n = 0} (omega (arith, exact_after z, flag_T (at M z) t, flag_le (at after.marks z))))

    -- a port that a dart enters from here is linked through here
    linked_on : (z d : ℕ) → T (not (at M z)) → leaves ends d ≡ here → T (in_play play d) → enters ends d ≡ z → Linked_in ends play M z p
    linked_on z d n e i k =
        let w = f.linked here (place_count s.queue h b) in (
          reverse d ∷ w.0,
          (play_reverse play d i, leaves_reverse ends d ∙ k, n, subst (λ (x : ℕ). Way ends (in_play play) (λ q. not (at M q)) x w.0 p) (sym (enters_reverse ends d ∙ e)) w.1),
        )

    -- the ports that were there stand where they stood
    same_place : (i : ℕ) → i < length s.queue → get_or after.queue i 0 ≡ get_or s.queue i 0
    same_place i k = ap (λ (l : List ℕ). get_or l i 0) gains.list ∙ get_or-append s.queue gains.new 0 i k

    pub flood_step : Flood ends play M p after (h + 1)
    flood_step = record {
      exact = exact_after;
      long = gains.long ∙ f.long;
      linked = λ z k.
          ⊎_elim (f.linked z) (λ w. linked_on z w.0 (fresh_after z k) (darts_leave ends here w.0 w.1) w.2 w.3)
          (meet_all_from ends play (length M) all_in (darts_at ends here) s z k);
      closed = λ i k d c e t.
          ⊎_elim
          (λ q.
          meet_all_marks ends play (length M) all_in (darts_at ends here) s f.long d
          (leaving_darts ends here d c (e ∙ same_place i (omega arith) ∙ ap (λ (j : ℕ). get_or s.queue j 0) q)) t)
          (λ m.
          let ne : i ≢ h = is_apart i h m in
          gains_keeps s after gains (enters ends d) (f.closed i (omega arith) d c (e ∙ same_place i (omega arith)) t))
          (is_cases i h);
      begun = omega (arith, f.begun, ap (count p) gains.list, count_append p s.queue gains.new);
      most = omega (arith, ap length gains.list, length-append s.queue gains.new);
    }

  -- ---- all are done

  module _ (over : length s.queue ≤ h) where
    abbrev R : List Bool
    R = around ends play M p

    reached_is : (z : ℕ) → T (at R z) → Linked_in ends play M z p
    unfolding reached
    reached_is z =
        (reached_iff (length M) ends (in_play play) (λ q. not (at M q)) (whole_of ends (in_play play) (play_dart ends play sized.channels))
        (λ d t. sized.ports d (play_dart ends play sized.channels d t)) p inside z).0

    is_reached : (z : ℕ) → Linked_in ends play M z p → T (at R z)
    unfolding reached
    is_reached z =
        (reached_iff (length M) ends (in_play play) (λ q. not (at M q)) (whole_of ends (in_play play) (play_dart ends play sized.channels))
        (λ d t. sized.ports d (play_dart ends play sized.channels d t)) p inside z).1

    -- the ports met are closed: a way that ends at p begins at one of them
    way_met : (w : List ℕ) (z : ℕ) → Way ends (in_play play) (λ q. not (at M q)) z w p → 1 ≤ count z s.queue
    way_met [] z e = subst (λ (x : ℕ). 1 ≤ count x s.queue) (sym e) f.begun
    way_met (d ∷ w) z k =
        let r = place_of s.queue (enters ends d) (way_met w (enters ends d) k.3) in
        let back : T (in_play play (reverse d)) = play_reverse play d k.0 in
        let t : T (at s.marks (enters ends (reverse d))) = f.closed r.0 (omega (arith, r.1)) (reverse d) (play_dart ends play sized.channels (reverse d) back) (leaves_reverse ends d ∙ sym r.2) back in
        let u : T (at s.marks z) = subst (λ (x : ℕ). T (at s.marks x)) (enters_reverse ends d ∙ k.1) t in
        omega (arith, f.exact z, flag_T (at s.marks z) u, flag_F (at M z) (T_not (at M z) k.2))

    pub flood_listed : (z : ℕ) → count z s.queue ≡ flag (at R z)
    flood_listed z = go (at R z) refl
      where
        go : (b : Bool) → at R z ≡ b → count z s.queue ≡ flag b
        go true e =
            let w = reached_is z (rw e tt) in
            omega (arith, f.exact z, flag_le (at s.marks z), way_met w.0 z w.1)
        go false e = omega (arith, none)
          where
            none : 1 ≤ count z s.queue → ⊥
            none k = subst T e (is_reached z (f.linked z k))

    either : (x y m : Bool) → flag x + flag y ≡ flag m → m ≡ (x || y)
    either true true m e = absurd (not-suc-le-zero {n = 0} (omega (arith, flag_le m)))
    either true false m e = flag_inj m true (omega arith)
    either false true m e = flag_inj m true (omega arith)
    either false false m e = flag_inj m false (omega arith)

    pub flood_marked : s.marks ≡ joined M R
    unfolding joined at
    flood_marked =
        ext_get_or false s.marks (joined M R) (f.long ∙ sym (length_map_from (λ q. at M q || at R q) 0 (length M)))
        (λ z k.
        either (at M z) (at R z) (at s.marks z) (omega (arith, f.exact z, flood_listed z))
        ∙ ap (λ (q : ℕ). at M q || at R q) (sym (zero-add z)) ∙ sym (get_or_map_from (λ q. at M q || at R q) 0 (length M) z false (omega (arith, f.long))))

-- ---- the invariant over the marks and the queue of the code

pub record Flow (ends : List ℕ) (play M : List Bool) (p : ℕ) (q₀ : List ℕ) (n₀ : ℕ) (marks : List Bool) (queue : List ℕ) (n h : ℕ) : Type 0 where
  pub flood : Flood ends play M p (met_in marks queue n) h
  pub held : Held (met_in marks queue n) q₀ n₀ marks queue n
  pub room : Room marks queue n

-- the ports of the queue are ports
pub room_port : (marks : List Bool) (queue : List ℕ) (n i : ℕ) → Room marks queue n → i < n → get_or queue i 0 < length marks
room_port marks queue n i r h =
    let k : 1 ≤ count (get_or (take n queue) i 0) (take n queue) = place_count (take n queue) i (omega (arith, length-take-le n queue r.most)) in
    subst (λ (z : ℕ). z < length marks) (get_or-take n queue i 0 h) (at_lt marks (get_or (take n queue) i 0) (T_flag (at marks (get_or (take n queue) i 0)) (omega (arith, r.fair (get_or (take n queue) i 0)))))

pub start : (ends : List ℕ) (play M : List Bool) (queue : List ℕ) (p : ℕ) → p < length M → at M p ≡ false → length queue ≡ length M → length M ≤ 65536
    → Flow ends play M p queue 1 (set M p true) (set queue 0 p) 1 0
unfolding count
start ends play M queue p b e l k = record {
  flood = subst (λ (t : Met). Flood ends play M p t 0) (sym one) (flood_start ends play M p b e);
  held = record { state = refl; least = omega arith; most = long; rest = drop-set-lt 1 queue 0 p (omega arith); size = length-set queue 0 p };
  room = record {
    places = omega (arith, length-set queue 0 p, length-set M p true);
    small = omega (arith, length-set M p true);
    most = long;
    fair = λ z. omega (arith, flag_set M p z b (rw e tt), ap (λ (t : Met). count z t.queue) one);
  };
}
  where
    long : 1 ≤ length (set queue 0 p)
    long = omega (arith, length-set queue 0 p)

    one : met_in (set M p true) (set queue 0 p) 1 ≡ record { marks = set M p true; queue = p ∷ [] }
    one = ap (λ (l : List ℕ). record { marks = set M p true; queue = l }) (take-suc-set queue 0 p (omega arith))

module _ (ends : List ℕ) (play M : List Bool) (p : ℕ) (q₀ : List ℕ) (n₀ : ℕ) (marks : List Bool) (queue : List ℕ) (n h : ℕ) (sized : Sized (length M) ends play) (inside : p < length M)
    (f : Flow ends play M p q₀ n₀ marks queue n h) where
  length_met : length (take n queue) ≡ n
  length_met = length-take-le n queue f.room.most

  pub step : h < n → (marks' : List Bool) (queue' : List ℕ) (n' : ℕ) → Held (meet_all ends play (darts_at ends (get_or queue h 0)) (met_in marks queue n)) queue n marks' queue' n'
      → Flow ends play M p q₀ n₀ marks' queue' n' (h + 1)
  step b marks' queue' n' k = record {
    flood = subst (λ (t : Met). Flood ends play M p t (h + 1)) (ap (λ (y : ℕ). meet_all ends play (darts_at ends y) (met_in marks queue n)) at_head ∙ sym k.state) (flood_step ends play M p sized inside (met_in marks queue n) h f.flood (omega (arith, length_met)));
    held = held_trans (met_in marks queue n) (met_in marks' queue' n') q₀ n₀ marks queue n marks' queue' n' f.held (record { state = refl; least = k.least; most = k.most; rest = k.rest; size = k.size });
    room = room_on (meet_all ends play (darts_at ends (get_or queue h 0)) (met_in marks queue n)) marks queue n marks' queue' n' f.room
        (meet_all_gains ends play (length M) (enters_all (length M) ends play sized (omega arith)) (darts_at ends (get_or queue h 0)) (met_in marks queue n) f.flood.long) k;
  }
    where
      at_head : get_or (take n queue) h 0 ≡ get_or queue h 0
      at_head = get_or-take n queue h 0 b

  pub end : n ≤ h → Flooded ends play M q₀ p marks queue n
  end b = record {
    marked = flood_marked ends play M p sized inside (met_in marks queue n) h f.flood (omega (arith, length_met));
    listed = flood_listed ends play M p sized inside (met_in marks queue n) h f.flood (omega (arith, length_met));
    most = f.room.most;
    rest = f.held.rest;
    size = f.held.size;
  }
