-- What one path changes, and what it leaves as it was (document 01, "Laying", the path and the split), whatever the number of paths before it.
--   Changed ps s z      the state z is s with one path more: one land is divided in two and every other stays dart for dart; turns change at the path's ports only; older darts keep their cyclic order
--   t, u, way           of one path more: the turns before and after, the path's darts
-- rings_keep: round each laid dart the older darts come in the order they had. changed_parted: what one path changes. changed_lay: so it is with the path that is laid after at most n paths, for a sensible choice with an admissible land.
-- Assumes nothing.
use mathlib.Core.Path.{◌≡◌, refl, sym, ap, ◌∙◌}
use mathlib.Core.Logic.{◌≢◌, ◌⊎◌, inl, inr}
use mathlib.Core.Bool.{Bool}
use mathlib.Core.List.{List, [], ◌∷◌, ◌++◌, map}
use Prim.Native.Nat.{ℕ, ◌≤◌, ◌<◌, ◌+◌}
use native.Mathlib.Omega.{arith}
use lib.Dec.{T}
use lib.ListN.{length, get_or, set, length-set}
use lib.Seq.{get_or-append_seam}
use Rattle.rules.specs.Lists.{at, keep}
use Rattle.rules.specs.Terms.{leaves, enters, reverse, missing, laid, listed, darts_at, ring}
use Rattle.rules.specs.Laying.{State, Choice, back, first, last, lay, laying}
use Rattle.laws.proofs.Counts.{flag, flag_T, T_flag, flag_le, count, Distinct}
use Rattle.laws.proofs.Lists.{All}
use Rattle.laws.proofs.Split.{count_split, length_split}
use Rattle.laws.proofs.Trails.{Trail, trail_cut, inner}
use Rattle.laws.proofs.Corners.{Closed}
use Rattle.laws.proofs.Sound.{count_at, Sound}
use Rattle.laws.proofs.Choices.{Open, Sensible}
use Rattle.laws.proofs.Reaches.{Wide}
use Rattle.laws.proofs.Rounds.{Layable, kept_lay}
use Rattle.laws.proofs.FirstCycle.{kept_laying}
use Rattle.laws.proofs.Steps.{Parted, parted_same, parted_lands, parted_kept, parted_others, parted_lay}
use Rattle.laws.proofs.Turns.{closed_turned, closed_laying, turn_laid}
use Rattle.laws.proofs.Sweeps.{sweep_ring, RingAt, ring_in, ring_length, ring_from, woven, sweep_woven, keep_woven, Follows}
use Rattle.laws.proofs.NewTurns.{back_first, turns_where, turns_follow, turn_after_x, turn_after_y, old_stays}
use Rattle.laws.proofs.Rings.{Ringed, ring_woven, ringed_laying}

pub record Changed (ps : List ℕ) (s z : State) : Type 0 where
  -- ---- the path, from x to y: its darts both ways are laid, and none of them was
  pub x : ℕ
  pub y : ℕ
  pub apart : x ≢ y
  pub path : List ℕ
  pub way : Trail ps x path y
  -- it comes to no port twice, and no laid dart leaves a port between its ends
  pub once : Distinct (x ∷ map (enters ps) path)
  pub between : (w : ℕ) → T (laid s.turns w) → count (leaves ps w) (inner ps path) ≡ 0
  -- the darts laid afterwards
  pub laid_after : (w : ℕ) → flag (laid z.turns w) ≡ flag (laid s.turns w) + (count w path + count w (back path))
  -- ---- the one land that it divides: A from x to y, then B from y to x, read from its dart at x on
  pub land : ℕ
  pub below : land < length s.lands
  pub A : List ℕ
  pub B : List ℕ
  pub way_a : Trail ps x A y
  pub way_b : Trail ps y B x
  pub stretches : (u : List ℕ) × ((v : List ℕ) × (get_or s.lands land [] ≡ u ++ v) × (A ++ B ≡ v ++ u))
  -- The path followed by B keeps the land's number; the reversed path followed by A takes the next unused number; nothing else.
  pub lands : z.lands ≡ set s.lands land (listed (path ++ B)) ++ (listed (back path ++ A) ∷ [])
  pub kept : get_or z.lands land [] ≡ listed (path ++ B)
  pub made : get_or z.lands (length s.lands) [] ≡ listed (back path ++ A)
  -- every other land stays dart for dart
  pub others : (j : ℕ) → j < length s.lands → j ≢ land → get_or z.lands j [] ≡ get_or s.lands j []
  -- the two have the darts of the one, and the path's both ways, each once
  pub darts : (w : ℕ) → count w (get_or z.lands land []) + count w (get_or z.lands (length s.lands) []) ≡ count w (get_or s.lands land []) + (count w path + count w (back path))
  pub each : (w : ℕ) → count w (get_or s.lands land []) + (count w path + count w (back path)) ≤ 1
  -- the state's paths get this one behind them, with this land's number (and the name of a fragment, which is not said here: SamePath says it)
  pub name : ℕ
  pub paths : z.paths ≡ s.paths ++ (record { fragment = name; land = land; darts = path } ∷ [])
  -- ---- the turns: they change only at ports of the path
  pub turns : (w : ℕ) → get_or z.turns w missing ≢ get_or s.turns w missing → 1 ≤ count (leaves ps w) (x ∷ map (enters ps) path)
  -- At x the path's first dart comes directly after the reverse of B's last dart; at y the reversed path's first dart comes directly after the reverse of A's last dart.
  pub at_x : get_or z.turns (reverse (last B)) 0 ≡ first path
  pub at_y : get_or z.turns (reverse (last A)) 0 ≡ first (back path)
  -- after an older dart comes what came before, or a dart of the path and then what came before
  pub order : (w : ℕ) → T (laid s.turns w)
      → (get_or z.turns w 0 ≡ get_or s.turns w 0)
      ⊎ ((1 ≤ count (get_or z.turns w 0) path + count (get_or z.turns w 0) (back path)) × (get_or z.turns (get_or z.turns w 0) 0 ≡ get_or s.turns w 0))
  -- round a port, from an older dart on, the older darts are the ring that they were
  pub rings : (w : ℕ) → T (laid s.turns w)
      → keep (laid s.turns) (ring z.turns (length (keep (laid z.turns) (darts_at ps (leaves ps w)))) w)
      ≡ ring s.turns (length (keep (laid s.turns) (darts_at ps (leaves ps w)))) w

module _ (ps : List ℕ) (s z : State) (K : Sound s.turns s.lands) (L : Sound z.turns z.lands) (D : Parted ps s z) (C : All (Closed ps) s.lands) (long : length s.turns ≡ length ps) where
  abbrev t : List ℕ
  t = s.turns

  abbrev u : List ℕ
  u = z.turns

  abbrev way : List ℕ
  way = D.d ∷ D.q

  -- ---- the older darts round a port

  pub rings_keep : Ringed ps t → (w : ℕ) → T (laid t w)
      → keep (laid t) (ring u (length (keep (laid u) (darts_at ps (leaves ps w)))) w) ≡ ring t (length (keep (laid t) (darts_at ps (leaves ps w)))) w
  unfolding woven
  rings_keep H w h =
      let p = leaves ps w in
      let r = ring_from ps t p (H w h) long w refl h in
      let m = r.0 in
      let R : RingAt ps t p = record { darts = w ∷ m; round = r.1; here = λ v e. r.2 v ∙ (H w h).here v e; away = λ v n. r.2 v ∙ (H w h).away v n } in
      let Q = ring_woven ps s z K L D C p R (D.between w h) in
      let n : length (woven t u (w ∷ m)) ≡ length (keep (laid u) (darts_at ps p)) = ap length (sym Q.1) ∙ ring_length ps u p Q.0 (ap length D.turns ∙ length_split (D.a ∷ D.m) (D.b ∷ D.n) way t ∙ long) in
      let f : (v : ℕ) → 1 ≤ count v (w ∷ m) → T (laid t v) = (λ v c. (ring_in ps t p R v c).1) in
      let new : ring u (length (woven t u (w ∷ m))) w ≡ woven t u (w ∷ m) = sweep_ring u w _ w (sweep_woven t u w m w (λ v c. turns_follow ps s z K D L v (f v c)) r.1) in
      ap (λ (k : ℕ). keep (laid t) (ring u k w)) (sym n) ∙ ap (keep (laid t)) new ∙ keep_woven t u (w ∷ m) f ∙ sym (sweep_ring t w m w r.1) ∙ ap (λ (k : ℕ). ring t k w) r.3

  -- what comes after an older dart
  order_of : (w : ℕ) → T (laid t w) → Follows t u w → (get_or u w 0 ≡ get_or t w 0) ⊎ ((1 ≤ count (get_or u w 0) way + count (get_or u w 0) (back way)) × (get_or u (get_or u w 0) 0 ≡ get_or t w 0))
  order_of w h (inl e) = inl e.1
  order_of w h (inr e) = inr (omega (arith, D.after (get_or u w 0), ap flag e.0, flag_T (laid u (get_or u w 0)) (turn_laid ps z L w (T_flag (laid u w) (omega (arith, old_stays ps s z K D w h))))), e.1)

  -- ---- the lands

  land_made : get_or z.lands (length s.lands) [] ≡ listed (back way ++ D.a ∷ D.m)
  land_made =
      ap (λ (k : List (List ℕ)). get_or k (length s.lands) []) (parted_lands ps s z D)
      ∙ ap (λ (k : ℕ). get_or (set s.lands D.land (listed (way ++ D.b ∷ D.n)) ++ (listed (back way ++ D.a ∷ D.m) ∷ [])) k []) (sym (length-set s.lands D.land (listed (way ++ D.b ∷ D.n))))
      ∙ get_or-append_seam (set s.lands D.land (listed (way ++ D.b ∷ D.n))) (listed (back way ++ D.a ∷ D.m)) [] []

  pub changed_parted : Ringed ps t → Changed ps s z
  unfolding first
  changed_parted H =
      let A = D.a ∷ D.m in
      let B = D.b ∷ D.n in
      let both = trail_cut ps (leaves ps D.a) A D.b D.n (leaves ps D.a) (closed_turned ps s z D C) in
      record {
        x = D.x;
        y = D.y;
        apart = D.apart;
        path = way;
        way = D.way;
        once = D.once;
        between = D.between;
        laid_after = D.after;
        land = D.land;
        below = D.below;
        A = A;
        B = B;
        way_a = rw (← D.from_x, ← D.from_y) both.0;
        way_b = rw (← D.from_x, ← D.from_y) both.1;
        stretches = D.turned;
        lands = parted_lands ps s z D;
        kept = parted_kept ps s z D;
        made = land_made;
        others = parted_others ps s z D;
        darts = λ w. omega (arith, ap (count w) (parted_kept ps s z D), ap (count w) land_made, count_split w A B way, parted_same ps s z D w);
        each = λ w. omega (arith, count_at w s.lands D.land, K.cover w, D.after w, flag_le (laid u w));
        name = D.paths.0;
        paths = D.paths.1;
        turns = turns_where ps s z K D C;
        at_x = turn_after_x ps s z K D L;
        at_y = turn_after_y ps s z K D L ∙ sym (back_first D.d D.q);
        order = λ w h. order_of w h (turns_follow ps s z K D L w h);
        rings = rings_keep H;
      }

-- ---- any number of paths before

pub changed_lay : (np : ℕ) (ps : List ℕ) (on : List Bool) → Layable np ps on → Wide ps on → (c : ℕ) → T (at on c)
    → (n : ℕ) (e : Choice) → Sensible np ps on (laying np ps on n).state e → Open e → Changed ps (laying np ps on n).state (lay np ps on (laying np ps on n).state e)
changed_lay np ps on G many c o n e i p =
    let s = (laying np ps on n).state in
    let K = kept_laying np ps on G many c o n in
    changed_parted ps s (lay np ps on s e) K.sound (kept_lay np ps on G s K e i p).sound (parted_lay np ps on G s K e i p) (closed_laying np ps on G many c o n) K.long (ringed_laying np ps on G many c o n)
