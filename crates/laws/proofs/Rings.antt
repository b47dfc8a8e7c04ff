-- Whatever the number of paths, the laid darts of each port form one ring (document 01, refusal 14, of the laid darts).
--   c                   of a first cycle: its darts
--   t, u, way           of one path more: the turns before and after, the path's darts
--   Ringed ps t         every laid dart's port has its laid darts in one ring
-- back_append, inner_cut, land_step, land_ends: the corners of a path and of a land. ring_woven: a port that had laid darts keeps its ring, with the path's dart put in. ring_between: a port between the path's ends gets a ring of two. ringed_cycled, ringed_parted: so after the first cycle, and after a path.
-- ringed_laying, turn_injective_laying, turns_reach_laying, one_ring_laying, unbroken_laying: so after at most n paths.
-- Assumes nothing.
use mathlib.Core.Path.{◌≡◌, refl, sym, ap, ◌∙◌, subst}
use mathlib.Core.Logic.{◌≢◌, ⊎_elim}
use mathlib.Core.Bool.{Bool, false, not}
use mathlib.Core.List.{List, [], ◌∷◌, ◌++◌, map, append-nil, append_assoc}
use Prim.Native.Nat.{ℕ, ◌≤◌, ◌<◌}
use native.Mathlib.Nat.{not-suc-le-zero, eq-zero-or-pos}
use native.Mathlib.Omega.{arith}
use lib.Dec.{T, T_not, not_T}
use lib.ListN.{length, get_or}
use Rattle.rules.specs.Lists.{at, keep}
use Rattle.rules.specs.Terms.{leaves, enters, reverse, laid, next, darts_at, onward}
use Rattle.rules.specs.Refusals.{one_ring, broken_ring}
use Rattle.rules.specs.Laying.{State, back, first, last, laying}
use Rattle.laws.proofs.Tests.{T_isnt}
use Rattle.laws.proofs.Counts.{flag, flag_T, flag_F, T_flag, flag_le, is, is_self, is_not, is_cases, is_apart, count, count_head, count_append, zero_of, map_from, count_map, distinct_of, distinct_le}
use Rattle.laws.proofs.Lists.{All}
use Rattle.laws.proofs.Runs.{reverse_reverse, count_back, Land, run_cut, land_turn, last_in_lem}
use Rattle.laws.proofs.Trails.{enters_reverse, Trail, inner, trail_leaves, trail_enters}
use Rattle.laws.proofs.Corners.{Closed, closed_of, closed_turn}
use Rattle.laws.proofs.Sound.{Sound}
use Rattle.laws.proofs.Reaches.{Wide}
use Rattle.laws.proofs.Rounds.{Layable}
use Rattle.laws.proofs.FirstCycle.{kept_laying}
use Rattle.laws.proofs.Steps.{Cycled, Parted, parted_old, steps_laying}
use Rattle.laws.proofs.Turns.{run_last, closed_cycled, closed_parted, turn_laid, turn_port, closed_laying}
use Rattle.laws.proofs.Visits.{trail_ports, parted_once, parted_ports}
use Rattle.laws.proofs.Sweeps.{cut_at, once_at, map_one, sweep_reach, sweep_inj, laid_at, laid_at_in, laid_at_all, RingAt, ring_in, ring_once, ring_from, one_ring_lem, ring_two, woven, circle_woven, count_woven_old, count_woven_new}
use Rattle.laws.proofs.NewTurns.{back_last, back_first, trail_last, land_unlisted, after_x, after_y, old_after_x, old_after_y, old_stays, leaves_after_x, leaves_after_y, new_kept, new_made, turn_after_x, turn_after_y, turns_follow, only_after_x, only_after_y}

-- ---- corners

pub back_append : (l m : List ℕ) → back (l ++ m) ≡ back m ++ back l
unfolding back
back_append [] m = sym (append-nil (back m))
back_append (d ∷ l) m = ap (λ (v : List ℕ). v ++ (reverse d ∷ [])) (back_append l m) ∙ append_assoc (back m) (back l) (reverse d ∷ [])

-- where two darts follow each other, their reverses follow each other the other way
pub back_corner : (l : List ℕ) (w v : ℕ) (r : List ℕ) → back (l ++ w ∷ v ∷ r) ≡ back r ++ reverse v ∷ reverse w ∷ back l
unfolding back
back_corner l w v r =
    back_append l (w ∷ v ∷ r) ∙ append_assoc (back r ++ (reverse v ∷ [])) (reverse w ∷ []) (back l) ∙ append_assoc (back r) (reverse v ∷ []) (reverse w ∷ back l)

-- a port between the ends of a path: one dart enters it, and the next leaves it
pub inner_cut : (ps : List ℕ) (p d : ℕ) (q : List ℕ) (y v : ℕ) → Trail ps p (d ∷ q) y → 1 ≤ count v (inner ps (d ∷ q))
    → (l : List ℕ) × ((w : ℕ) × ((e : ℕ) × ((r : List ℕ) × (d ∷ q ≡ l ++ w ∷ e ∷ r) × (enters ps w ≡ v) × (leaves ps e ≡ v))))
unfolding count inner
inner_cut ps p d [] y v h c = absurd (not-suc-le-zero c)
inner_cut ps p d (e ∷ q) y v h c =
    ⊎_elim (λ k. ([], (d, (e, (q, refl, sym k, h.1.0 ∙ sym k)))))
    (λ n.
    let r = inner_cut ps (enters ps d) e q y v h.1 (omega arith) in
    (d ∷ r.0, (r.1.0, (r.1.1.0, (r.1.1.1.0, ap (λ (m : List ℕ). d ∷ m) r.1.1.1.1, r.1.1.1.2, r.1.1.1.3)))))
    (is_cases v (enters ps d))

pub land_step : (t l : List ℕ) (w v : ℕ) (r : List ℕ) → Land t (l ++ w ∷ v ∷ r) → next t w ≡ v
land_step t [] w v r h = h.0
land_step t (d ∷ l) w v r h = (run_cut t d l w (v ∷ r) d h).1.0

pub land_ends : (t l : List ℕ) → Land t l → next t (last l) ≡ first l
unfolding first
land_ends t [] h = absurd h
land_ends t (d ∷ l) h = run_last t d l d h

-- ---- one ring at each port

abbrev pub Ringed : List ℕ → List ℕ → Type 0
Ringed ps t = (d : ℕ) → T (laid t d) → RingAt ps t (leaves ps d)

-- ---- the first cycle

module _ (ps : List ℕ) (s : State) (K : Sound s.turns s.lands) (C : Cycled ps s) where
  abbrev c : List ℕ
  c = C.d ∷ C.q

  same_ports : (p : ℕ) → count p (map (leaves ps) c) ≡ count p (map (enters ps) c)
  same_ports p = omega (arith, trail_ports ps C.port c C.port C.way p)

  enters_once : (p : ℕ) → count p (map (enters ps) c) ≤ 1
  enters_once = distinct_le (map (enters ps) c) C.once

  lands_of_lem : Land s.turns c × Land s.turns (back c)
  lands_of_lem =
      let h = subst (All (Land s.turns)) C.lands K.follow in
      (land_unlisted s.turns c h.0, land_unlisted s.turns (back c) h.1.0)

  -- the ring of a port that v leaves: the cycle from v on ends with the dart that enters the port
  ring_cycle : (p v : ℕ) → 1 ≤ count v c → leaves ps v ≡ p → RingAt ps s.turns p
  unfolding next first
  ring_cycle p v h e =
      let t = s.turns in
      let r = cut_at v c h in
      let l = r.0 in
      let m = r.1.0 in
      let w = last (v ∷ (m ++ l)) in
      let land : Land t ((v ∷ m) ++ l) = land_turn t l (v ∷ m) (subst (Land t) r.1.1 lands_of_lem.0) in
      let other : Land t (back ((v ∷ m) ++ l)) =
      subst (Land t) (sym (back_append (v ∷ m) l)) (land_turn t (back (v ∷ m)) (back l) (subst (Land t) (ap back r.1.1 ∙ back_append l (v ∷ m)) lands_of_lem.1)) in
      let closed : Closed ps ((v ∷ m) ++ l) = closed_turn ps l (v ∷ m) (subst (Closed ps) r.1.1 (closed_of ps C.port c C.way)) in
      let turn : next t (reverse v) ≡ reverse w = ap (next t) (sym (back_last v (m ++ l))) ∙ land_ends t (back (v ∷ (m ++ l))) other ∙ back_first v (m ++ l) in
      ring_two ps t p c (λ o. omega (arith, same_ports o, enters_once o)) enters_once w v
      (omega (arith, last_in_lem v (m ++ l), count_append w (v ∷ m) l, count_append w l (v ∷ m), ap (count w) r.1.1)) (trail_last ps (leaves ps v) v (m ++ l) (leaves ps v) closed ∙ e)
      h e (ap (λ (o : ℕ). get_or t o 0) (sym (reverse_reverse v)) ∙ turn) (land_ends t (v ∷ (m ++ l)) land) (λ y k. C.after y)

  pub ringed_cycled : Ringed ps s.turns
  ringed_cycled d h =
      let here : 1 ≤ count (leaves ps d) (map (leaves ps) c) =
      ⊎_elim
      (λ n. omega (arith, same_ports (leaves ps d), count_map (enters ps) (reverse d) c, count_back d c, C.after d, flag_T (laid s.turns d) h, ap (λ (p : ℕ). count p (map (enters ps) c)) (enters_reverse ps d)))
      (λ k. omega (arith, count_map (leaves ps) d c)) (eq-zero-or-pos (count d c)) in
      let v = map_from (leaves ps) c (leaves ps d) here in
      ring_cycle (leaves ps d) v.0 v.1 v.2

-- ---- one path

module _ (ps : List ℕ) (s z : State) (K : Sound s.turns s.lands) (L : Sound z.turns z.lands) (D : Parted ps s z) (C : All (Closed ps) s.lands) where
  abbrev t : List ℕ
  t = s.turns

  abbrev u : List ℕ
  u = z.turns

  abbrev way : List ℕ
  way = D.d ∷ D.q

  leaves_once : (p : ℕ) → count p (map (leaves ps) way) ≤ 1
  leaves_once p = omega (arith, parted_ports ps s z K D p, parted_once ps s z K D p)

  way_once : (p : ℕ) → count p (map (enters ps) way) ≤ 1
  way_once p = omega (arith, parted_once ps s z K D p)

  -- ---- a port that had laid darts

  module _ (p : ℕ) (R : RingAt ps t p) where
    -- v comes after o alone
    one_before : (v o : ℕ) → T (laid t o) → leaves ps o ≡ p → get_or u o 0 ≡ v → ((w : ℕ) → T (laid t w) → get_or u w 0 ≡ v → w ≡ o) → count v (map (λ d. get_or u d 0) R.darts) ≡ 1
    one_before v o h e k f =
        map_one (λ d. get_or u d 0) v o R.darts
        (λ w c. ⊎_elim
        (λ j. omega (arith, is_self o, ap (is o) (f w (ring_in ps t p R w c).1 (sym j)), is_self v, ap (is v) j))
        (λ n. n ∙ sym (is_not o w (λ q. is_apart v (get_or u w 0) n (sym k ∙ ap (λ (i : ℕ). get_or u i 0) q))))
        (is_cases v (get_or u w 0)))
        ∙ R.here o e ∙ flag_T (laid t o) h

    -- nothing that is not laid afterwards comes after a dart of the ring
    none_before : (v : ℕ) → flag (laid u v) ≡ 0 → count v (map (λ d. get_or u d 0) R.darts) ≡ 0
    none_before v n =
        zero_of _ (λ c.
        let w = map_from (λ d. get_or u d 0) R.darts v c in
        let lw : T (laid u w.0) = T_flag (laid u w.0) (omega (arith, old_stays ps s z K D w.0 (ring_in ps t p R w.0 w.1).1)) in
        omega (arith, n, flag_T (laid u v) (subst (λ (i : ℕ). T (laid u i)) w.2 (turn_laid ps z L w.0 lw))))

    -- nor what leaves another port
    away_before : (v : ℕ) → leaves ps v ≢ p → count v (map (λ d. get_or u d 0) R.darts) ≡ 0
    away_before v n =
        zero_of _ (λ c.
        let w = map_from (λ d. get_or u d 0) R.darts v c in
        let i = ring_in ps t p R w.0 w.1 in
        let lw : T (laid u w.0) = T_flag (laid u w.0) (omega (arith, old_stays ps s z K D w.0 i.1)) in
        n (ap (leaves ps) (sym w.2) ∙ turn_port ps z L (closed_parted ps s z K D C) w.0 lw ∙ i.0))

    module _ (old : count p (inner ps way) ≡ 0) where
      -- a dart of the path at the port is the first one
      at_start : (v : ℕ) → leaves ps v ≡ p → 1 ≤ count v way → (v ≡ D.d) × (p ≡ D.x)
      at_start v e c =
          ⊎_elim
          (λ k. (
            ⊎_elim (λ q. q) (λ n. absurd (not-suc-le-zero {n = 0} (omega (arith, c, once_at (leaves ps) way leaves_once D.d (count_head D.d D.q) v (k ∙ sym D.way.0))))) (is_cases v D.d),
            sym e ∙ k,
          ))
          (λ i. absurd (not-suc-le-zero {n = 0} (omega (arith, i, old, ap (λ (r : ℕ). count r (inner ps way)) e))))
          (trail_leaves ps D.x D.d D.q D.y v D.way c)

      at_end : (v : ℕ) → leaves ps v ≡ p → 1 ≤ count v (back way) → (v ≡ reverse (last way)) × (p ≡ D.y)
      at_end v e c =
          let cr : 1 ≤ count (reverse v) way = omega (arith, c, count_back v way) in
          ⊎_elim
          (λ k. (
            ⊎_elim (λ q. sym (reverse_reverse v) ∙ ap reverse q)
                (λ n. absurd (not-suc-le-zero {n = 0} (omega (arith, cr, once_at (enters ps) way way_once (last way) (last_in_lem D.d D.q) (reverse v) (k ∙ sym (trail_last ps D.x D.d D.q D.y D.way)))))) (is_cases (reverse v) (last way)),
            sym e ∙ sym (enters_reverse ps v) ∙ k,
          ))
          (λ i. absurd (not-suc-le-zero {n = 0} (omega (arith, i, old, ap (λ (r : ℕ). count r (inner ps way)) (enters_reverse ps v ∙ e)))))
          (trail_enters ps D.x D.d D.q D.y (reverse v) D.way cr)

      -- a new dart at the port comes after one dart of the ring
      new_here : (v : ℕ) → laid t v ≡ false → leaves ps v ≡ p → count v (map (λ d. get_or u d 0) R.darts) ≡ flag (laid u v)
      new_here v f e =
          ⊎_elim
          (λ n. ⊎_elim (λ m. none_before v (omega (arith, D.after v, ap flag f)) ∙ sym (omega (arith, D.after v, ap flag f)))
          (λ c.
          let h = at_end v e c in
          one_before v (after_y ps s z K D) (old_after_y ps s z K D) (leaves_after_y ps s z K D C ∙ sym h.1) (turn_after_y ps s z K D L ∙ sym h.0) (λ w l k. only_after_y ps s z K D L w l (k ∙ h.0))
          ∙ sym (omega (arith, D.after v, flag_le (laid u v))))
          (eq-zero-or-pos (count v (back way))))
          (λ c.
          let h = at_start v e c in
          one_before v (after_x ps s z K D) (old_after_x ps s z K D) (leaves_after_x ps s z K D C ∙ sym h.1) (turn_after_x ps s z K D L ∙ sym h.0) (λ w l k. only_after_x ps s z K D L w l (k ∙ h.0))
          ∙ sym (omega (arith, D.after v, flag_le (laid u v))))
          (eq-zero-or-pos (count v way))

      woven_here : (v : ℕ) → leaves ps v ≡ p → count v (woven t u R.darts) ≡ flag (laid u v)
      woven_here v e =
          ⊎_elim
          (λ n.
          let f = T_isnt (laid t v) (λ k. omega (arith, n, flag_T (laid t v) k)) in
          omega (arith, count_woven_new t u v f R.darts, R.here v e, new_here v f e))
          (λ k.
          let h = T_flag (laid t v) k in
          omega (arith, count_woven_old t u v h R.darts, R.here v e, flag_T (laid t v) h, old_stays ps s z K D v h))
          (eq-zero-or-pos (flag (laid t v)))

      woven_away : (v : ℕ) → leaves ps v ≢ p → count v (woven t u R.darts) ≡ 0
      woven_away v e =
          ⊎_elim
          (λ n. omega (arith, count_woven_new t u v (T_isnt (laid t v) (λ k. omega (arith, n, flag_T (laid t v) k))) R.darts, R.away v e, away_before v e))
          (λ k. omega (arith, count_woven_old t u v (T_flag (laid t v) k) R.darts, R.away v e))
          (eq-zero-or-pos (flag (laid t v)))

      pub ring_woven : (Q : RingAt ps u p) × (Q.darts ≡ woven t u R.darts)
      ring_woven = (
        record {
          darts = woven t u R.darts;
          round = circle_woven t u R.darts (λ w c. turns_follow ps s z K D L w (ring_in ps t p R w c).1) R.round;
          here = woven_here;
          away = woven_away;
        },
        refl,
      )

  -- ---- a port between the path's ends

  pub ring_between : (p : ℕ) → 1 ≤ count p (inner ps way) → RingAt ps u p
  unfolding next count
  ring_between p h =
      let r = inner_cut ps D.x D.d D.q D.y p D.way h in
      let l = r.0 in
      let w = r.1.0 in
      let v = r.1.1.0 in
      let m = r.1.1.1.0 in
      let e : way ≡ l ++ w ∷ v ∷ m = r.1.1.1.1 in
      let A = D.a ∷ D.m in
      let B = D.b ∷ D.n in
      let kept : Land u (l ++ w ∷ v ∷ (m ++ B)) = subst (Land u) (ap (λ (k : List ℕ). k ++ B) e ∙ append_assoc l (w ∷ v ∷ m) B) (new_kept ps s z K D L) in
      let made : Land u (back m ++ reverse v ∷ reverse w ∷ (back l ++ A)) =
      subst (Land u) (ap (λ (k : List ℕ). back k ++ A) e ∙ ap (λ (k : List ℕ). k ++ A) (back_corner l w v m) ∙ append_assoc (back m) (reverse v ∷ reverse w ∷ back l) A) (new_made ps s z K D L) in
      ring_two ps u p way leaves_once way_once w v
      (omega (arith, ap (count w) e, count_append w l (w ∷ v ∷ m), is_self w)) r.1.1.1.2
      (omega (arith, ap (count v) e, count_append v l (w ∷ v ∷ m), is_self v)) r.1.1.1.3
      (ap (λ (o : ℕ). get_or u o 0) (sym (reverse_reverse v)) ∙ land_step u (back m) (reverse v) (reverse w) (back l ++ A) made) (land_step u l w v (m ++ B) kept)
      (λ y k. omega (arith, D.after y, flag_F (laid t y) (λ o. omega (arith, h, D.between y o, ap (λ (i : ℕ). count i (inner ps way)) k))))

  -- a port of laid darts that is not between the path's ends had laid darts
  pub ring_before : Ringed ps t → (w : ℕ) → T (laid u w) → count (leaves ps w) (inner ps way) ≡ 0 → RingAt ps t (leaves ps w)
  ring_before H w h n =
      ⊎_elim
      (λ f. ⊎_elim
      (λ m. ⊎_elim
      (λ e. subst (RingAt ps t) (D.from_y ∙ sym e ∙ enters_reverse ps w) (H D.b (parted_old ps s z K D D.b (omega (arith, count_append D.b (D.a ∷ D.m) (D.b ∷ D.n), count_head D.b D.n)))))
      (λ i. absurd (not-suc-le-zero {n = 0} (omega (arith, i, n, ap (λ (r : ℕ). count r (inner ps way)) (enters_reverse ps w)))))
      (trail_enters ps D.x D.d D.q D.y (reverse w) D.way (omega (arith, count_back w way, D.after w, flag_T (laid u w) h))))
      (λ c. ⊎_elim
      (λ e. subst (RingAt ps t) (D.from_x ∙ sym e) (H D.a (parted_old ps s z K D D.a (omega (arith, count_append D.a (D.a ∷ D.m) (D.b ∷ D.n), count_head D.a D.m)))))
      (λ i. absurd (not-suc-le-zero {n = 0} (omega (arith, i, n))))
      (trail_leaves ps D.x D.d D.q D.y w D.way c))
      (eq-zero-or-pos (count w way)))
      (λ k. H w (T_flag (laid t w) k))
      (eq-zero-or-pos (flag (laid t w)))

  pub ringed_parted : Ringed ps t → Ringed ps u
  ringed_parted H w h =
      ⊎_elim (λ n. (ring_woven (leaves ps w) (ring_before H w h n) n).0) (ring_between (leaves ps w)) (eq-zero-or-pos (count (leaves ps w) (inner ps way)))

-- ---- what a ring at each port says

module _ (ps : List ℕ) (s : State) (K : Sound s.turns s.lands) (long : length s.turns ≡ length ps) (H : Ringed ps s.turns) where
  pub turns_reach : (d e : ℕ) → T (laid s.turns d) → T (laid s.turns e) → leaves ps d ≡ leaves ps e
      → (n : ℕ) × (n < length (keep (laid s.turns) (darts_at ps (leaves ps d)))) × (onward s.turns n d ≡ e)
  turns_reach d e hd he k =
      let r = ring_from ps s.turns (leaves ps d) (H d hd) long d refl hd in
      let w = sweep_reach s.turns d r.0 d r.1 e (omega (arith, r.2 e, (H d hd).here e (sym k), flag_T (laid s.turns e) he)) in
      (w.0, omega (arith, w.1, r.3), w.2)

  pub turn_injective : All (Closed ps) s.lands → (d e : ℕ) → T (laid s.turns d) → T (laid s.turns e) → get_or s.turns d 0 ≡ get_or s.turns e 0 → d ≡ e
  turn_injective C d e hd he k =
      let p : leaves ps e ≡ leaves ps d = sym (turn_port ps s K C e he) ∙ ap (leaves ps) (sym k) ∙ turn_port ps s K C d hd in
      let r = ring_from ps s.turns (leaves ps d) (H d hd) long d refl hd in
      let u = distinct_of (d ∷ r.0) (λ w. omega (arith, r.2 w, ring_once ps s.turns (leaves ps d) (H d hd) w)) in
      sweep_inj s.turns d r.0 d u.1 u.0 r.1 d e (count_head d r.0) (omega (arith, r.2 e, (H d hd).here e p, flag_T (laid s.turns e) he)) k

  pub one_ring_each : (p : ℕ) → T (one_ring s.turns (keep (laid s.turns) (darts_at ps p)))
  unfolding one_ring
  one_ring_each p = go (laid_at ps s.turns p) refl
    where
      go : (D : List ℕ) → laid_at ps s.turns p ≡ D → T (one_ring s.turns D)
      go [] e = tt
      go (d ∷ D) e =
          let c : 1 ≤ count d (laid_at ps s.turns p) = omega (arith, ap (count d) e, count_head d D) in
          let i = laid_at_in ps s.turns p d c in
          subst (λ (m : List ℕ). T (one_ring s.turns m)) (ap (laid_at ps s.turns) i.0 ∙ e) (one_ring_lem ps s.turns (leaves ps d) (H d i.1) long)

-- ---- any number of paths

module _ (np : ℕ) (ps : List ℕ) (on : List Bool) (G : Layable np ps on) (many : Wide ps on) (c : ℕ) (o : T (at on c)) where
  pub ringed_laying : (n : ℕ) → Ringed ps (laying np ps on n).state.turns
  ringed_laying n =
      (steps_laying np ps on G many (λ s. All (Closed ps) s.lands × Ringed ps s.turns)
      (λ s K C. (closed_cycled ps s C, ringed_cycled ps s K.sound C)) (λ s z K L D h. (closed_parted ps s z K.sound D h.0, ringed_parted ps s z K.sound L.sound D h.0 h.1)) c o n).1

  -- From a laid dart, fewer turns than its port has laid darts lead to each other laid dart of the port.
  pub turns_reach_laying : (n d e : ℕ) → T (laid (laying np ps on n).state.turns d) → T (laid (laying np ps on n).state.turns e) → leaves ps d ≡ leaves ps e
      → (k : ℕ) × (k < length (keep (laid (laying np ps on n).state.turns) (darts_at ps (leaves ps d)))) × (onward (laying np ps on n).state.turns k d ≡ e)
  turns_reach_laying n = turns_reach ps (laying np ps on n).state (kept_laying np ps on G many c o n).sound (kept_laying np ps on G many c o n).long (ringed_laying n)

  -- No two laid darts have the same turn.
  pub turn_injective_laying : (n d e : ℕ) → T (laid (laying np ps on n).state.turns d) → T (laid (laying np ps on n).state.turns e)
      → get_or (laying np ps on n).state.turns d 0 ≡ get_or (laying np ps on n).state.turns e 0 → d ≡ e
  turn_injective_laying n = turn_injective ps (laying np ps on n).state (kept_laying np ps on G many c o n).sound (kept_laying np ps on G many c o n).long (ringed_laying n) (closed_laying np ps on G many c o n)

  -- A port's laid darts, where it has any, form one ring.
  pub one_ring_laying : (n p : ℕ) → T (one_ring (laying np ps on n).state.turns (keep (laid (laying np ps on n).state.turns) (darts_at ps p)))
  one_ring_laying n = one_ring_each ps (laying np ps on n).state (kept_laying np ps on G many c o n).sound (kept_laying np ps on G many c o n).long (ringed_laying n)

  -- Where all darts are laid, refusal 14 is given for no port.
  pub unbroken_laying : (n : ℕ) → ((d : ℕ) → d < length ps → T (laid (laying np ps on n).state.turns d)) → (p : ℕ) → T (not (broken_ring ps (laying np ps on n).state.turns p))
  unfolding broken_ring
  unbroken_laying n h p =
      let t = (laying np ps on n).state.turns in
      not_T (not (one_ring t (darts_at ps p))) (λ k. T_not (one_ring t (darts_at ps p)) k (subst (λ (m : List ℕ). T (one_ring t m)) (laid_at_all ps t h p) (one_ring_laying n p)))
