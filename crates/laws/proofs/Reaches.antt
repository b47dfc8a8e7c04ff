-- What is reached (rules, "Ways"): a set of ports that has grown as often as there are ports holds exactly the ports from which a way leads to it.
--   Whole ps ok             every usable number is a dart of the plate
--   Joins ps ok free s p d  dart d is usable and leads from the free port p into s
--   Way ps ok free p w y    the darts w lead from p to y: usable darts, each from a free port
--   Linked ps ok free p y   some way leads from p to y
--   but c p                 port p is not c
--   Uncut np ps on          no port cuts: between any two others a way leads that avoids it, by channels in play
--   Touched ps on p         a channel in play touches port p
--   Firm ps on              no port cuts what the channels in play touch: between any two others of these ports a way leads that avoids it, by channels in play
--   Wide ps on              the channels in play touch three ports: one other than any two
-- mark_.., grow_..: what one step adds. way_append, way_back, linked_join: ways are joined and walked backwards. reached_iff: the ports reached from y are those from which a way leads to y. uncut_of: no port cuts where without each every port is linked to one. touched_in: a port that is touched is a port. firm_of, wide_of: where no port cuts, none cuts what is touched, and three are touched.
-- Assumes nothing.
use mathlib.Core.Path.{◌≡◌, refl, subst, sym, ◌∙◌}
use mathlib.Core.Logic.{◌⊎◌, ⊎_elim, inr, inl, ◌↔◌, ◌≢◌}
use mathlib.Core.Bool.{Bool, ◌&&◌, true, not}
use mathlib.Core.List.{List, [], ◌∷◌, ◌++◌}
use Prim.Native.Nat.{ℕ, ◌≤◌, ◌<◌, ◌*◌, ◌/◌, zero, suc}
use native.Mathlib.Nat.{not-suc-le-zero}
use native.Mathlib.Omega.{arith}
use lib.Dec.{T, eqb}
use lib.ListN.{length, length-set}
use Rattle.rules.specs.Lists.{from, at}
use Rattle.rules.specs.Terms.{leaves, reverse, enters}
use Rattle.rules.specs.Ways.{only, iter, mark, grow, larger, in_play}
use Rattle.rules.specs.Laying.{back}
use Rattle.laws.proofs.Tests.{cond_cases, T_is, ne_neqb, and_T, T_and}
use Rattle.laws.proofs.Counts.{is_self, is_cases, is_apart, count}
use Rattle.laws.proofs.Lists.{count_from}
use Rattle.laws.proofs.Sets.{at_lt, at_set_same, at_set_keeps, at_set_from, only_is, only_self, length_only, Sub, size_only, iter_more, iter_length, iter_closed}
use Rattle.laws.proofs.Runs.{reverse_below, reverse_channel}
use Rattle.laws.proofs.Trails.{leaves_reverse, enters_reverse}

-- ---- usable darts

abbrev pub Whole : List ℕ → (ℕ → Bool) → Type 0
Whole ps ok = (d : ℕ) → T (ok d) → 1 ≤ count d (from 0 (length ps))

pub whole_of : (ps : List ℕ) (ok : ℕ → Bool) → ((d : ℕ) → T (ok d) → d < length ps) → Whole ps ok
whole_of ps ok h d k = count_from d 0 (length ps) (omega arith) (omega (arith, h d k))

-- a dart of a channel in play is a dart of the plate
pub play_dart : (ps : List ℕ) (on : List Bool) → length ps ≡ 2 * length on → (d : ℕ) → T (in_play on d) → d < length ps
play_dart ps on e d h = omega (arith, at_lt on (d / 2) h)

-- and so is the reverse of a dart
pub dart_reverse : (ps : List ℕ) (on : List Bool) → length ps ≡ 2 * length on → (d : ℕ) → d < length ps → reverse d < length ps
dart_reverse ps on e d h = omega (arith, reverse_below d (length on) (omega arith))

pub play_reverse : (on : List Bool) (d : ℕ) → T (in_play on d) → T (in_play on (reverse d))
play_reverse on d h = rw (reverse_channel d) h

module _ (ps : List ℕ) (ok free : ℕ → Bool) where
  -- ---- one step

  abbrev pub Joins : List Bool → ℕ → ℕ → Type 0
  Joins s p d = T (ok d) × T (at s (enters ps d)) × T (free p) × (leaves ps d ≡ p)

  pub length_mark : (s : List Bool) (d : ℕ) (r : List Bool) → length (mark ps ok free s d r) ≡ length r
  unfolding mark
  length_mark s d r =
      cond_cases (λ (m : List Bool). length m ≡ length r) (ok d && at s (enters ps d) && free (leaves ps d)) (λ t. length-set r (leaves ps d) true) (λ t. refl)

  pub mark_keeps : (s : List Bool) (d : ℕ) (r : List Bool) → Sub r (mark ps ok free s d r)
  unfolding mark
  mark_keeps s d r p h =
      cond_cases (λ (m : List Bool). T (at m p)) (ok d && at s (enters ps d) && free (leaves ps d)) (λ t. at_set_keeps r (leaves ps d) p h) (λ t. h)

  pub mark_from : (s : List Bool) (d : ℕ) (r : List Bool) (p : ℕ) → T (at (mark ps ok free s d r) p) → T (at r p) ⊎ Joins s p d
  unfolding mark
  mark_from s d r p =
      cond_cases (λ (m : List Bool). T (at m p) → T (at r p) ⊎ Joins s p d) (ok d && at s (enters ps d) && free (leaves ps d))
      (λ t h. ⊎_elim (λ e. inr (joined e t)) (λ k. inl k) (at_set_from r (leaves ps d) p h)) (λ t h. inl h)
    where
      joined : p ≡ leaves ps d → T (ok d && at s (enters ps d) && free (leaves ps d)) → Joins s p d
      joined e t =
          let u = and_T (ok d && at s (enters ps d)) (free (leaves ps d)) t in
          let w = and_T (ok d) (at s (enters ps d)) u.0 in
          (w.0, w.1, subst (λ (i : ℕ). T (free i)) (sym e) u.1, sym e)

  pub mark_adds : (s : List Bool) (d : ℕ) (r : List Bool) (p : ℕ) → p < length r → Joins s p d → T (at (mark ps ok free s d r) p)
  unfolding mark
  mark_adds s d r p b (k, i, f, e) =
      let test = T_and (ok d && at s (enters ps d)) (free (leaves ps d)) (T_and (ok d) (at s (enters ps d)) k i) (subst (λ (z : ℕ). T (free z)) (sym e) f) in
      rw (T_is (ok d && at s (enters ps d) && free (leaves ps d)) test, e) (at_set_same r p b)

  pub length_grow : (s : List Bool) (ds : List ℕ) (r : List Bool) → length (grow ps ok free s ds r) ≡ length r
  unfolding grow
  length_grow s [] r = refl
  length_grow s (d ∷ ds) r = length_grow s ds (mark ps ok free s d r) ∙ length_mark s d r

  pub grow_keeps : (s : List Bool) (ds : List ℕ) (r : List Bool) → Sub r (grow ps ok free s ds r)
  unfolding grow
  grow_keeps s [] r p t = t
  grow_keeps s (d ∷ ds) r p t = grow_keeps s ds (mark ps ok free s d r) p (mark_keeps s d r p t)

  -- what is added is joined
  pub grow_from : (s : List Bool) (ds : List ℕ) (r : List Bool) (p : ℕ) → T (at (grow ps ok free s ds r) p)
      → T (at r p) ⊎ ((d : ℕ) × (1 ≤ count d ds) × Joins s p d)
  unfolding grow count
  grow_from s [] r p t = inl t
  grow_from s (d ∷ ds) r p t =
      ⊎_elim
      (λ k. ⊎_elim inl (λ j. inr (d, omega (arith, is_self d), j)) (mark_from s d r p k))
      (λ w. inr (w.0, omega (arith, w.1), w.2))
      (grow_from s ds (mark ps ok free s d r) p t)

  -- what is joined is added
  pub grow_adds : (s : List Bool) (ds : List ℕ) (r : List Bool) (p d : ℕ) → p < length r → 1 ≤ count d ds → Joins s p d
      → T (at (grow ps ok free s ds r) p)
  unfolding grow count
  grow_adds s [] r p d b h j = absurd (not-suc-le-zero h)
  grow_adds s (e ∷ ds) r p d b h j =
      ⊎_elim
      (λ q. grow_keeps s ds (mark ps ok free s e r) p (mark_adds s e r p b (subst (Joins s p) q j)))
      (λ q. grow_adds s ds (mark ps ok free s e r) p d (rw (length_mark s e r) b) (omega arith) j)
      (is_cases d e)

  pub larger_keeps : (s : List Bool) → Sub s (larger ps ok free s)
  larger_keeps s = grow_keeps s (from 0 (length ps)) s

  pub length_larger : (s : List Bool) → length (larger ps ok free s) ≡ length s
  length_larger s = length_grow s (from 0 (length ps)) s

  -- ---- ways

  abbrev pub Way : ℕ → List ℕ → ℕ → Type 0
  Way p [] y = p ≡ y
  Way p (d ∷ w) y = T (ok d) × (leaves ps d ≡ p) × T (free p) × Way (enters ps d) w y

  pub way_append : (p : ℕ) (v : List ℕ) (x : ℕ) (w : List ℕ) (y : ℕ) → Way p v x → Way x w y → Way p (v ++ w) y
  way_append p [] x w y h k = subst (λ (z : ℕ). Way z w y) (sym h) k
  way_append p (d ∷ v) x w y h k = (h.0, h.1, h.2, way_append (enters ps d) v x w y h.3 k)

  -- a way begins at a free port, or at its end
  pub way_start : (p : ℕ) (w : List ℕ) (y : ℕ) → Way p w y → T (free y) → T (free p)
  way_start p [] y h f = subst (λ (z : ℕ). T (free z)) (sym h) f
  way_start p (d ∷ w) y h f = h.2

  -- walked backwards, where reverses of usable darts are usable
  pub way_back : ((d : ℕ) → T (ok d) → T (ok (reverse d))) → (p : ℕ) (w : List ℕ) (y : ℕ) → Way p w y → T (free y) → Way y (back w) p
  unfolding back
  way_back turn p [] y h f = sym h
  way_back turn p (d ∷ w) y h f =
      way_append y (back w) (enters ps d) (reverse d ∷ []) p (way_back turn (enters ps d) w y h.3 f)
      (turn d h.0, leaves_reverse ps d, way_start (enters ps d) w y h.3 f, enters_reverse ps d ∙ h.1)

  abbrev pub Linked : ℕ → ℕ → Type 0
  Linked p y = (w : List ℕ) × Way p w y

  pub linked_join : {p x y : ℕ} → Linked p x → Linked x y → Linked p y
  linked_join {p} {x} {y} v w = (v.0 ++ w.0, way_append p v.0 x w.0 y v.1 w.1)

  pub linked_back : ((d : ℕ) → T (ok d) → T (ok (reverse d))) → {p y : ℕ} → T (free y) → Linked p y → Linked y p
  linked_back turn {p} {y} f v = (back v.0, way_back turn p v.0 y v.1 f)

  -- ---- what is reached

  pub reached_from : (n : ℕ) (s : List Bool) (p : ℕ) → T (at (iter (larger ps ok free) n s) p) → (y : ℕ) × T (at s y) × Linked p y
  unfolding iter
  reached_from zero s p t = (p, t, ([], refl))
  reached_from (suc n) s p t =
      let r = reached_from n (larger ps ok free s) p t in
      ⊎_elim (λ k. (r.0, k, r.2))
      (λ j. (enters ps j.0, j.2.1, (r.2.0 ++ (j.0 ∷ []), way_append p r.2.0 r.0 (j.0 ∷ []) (enters ps j.0) r.2.1 (j.2.0, j.2.3, j.2.2, refl))))
      (grow_from s (from 0 (length ps)) s r.0 r.1)

  module _ (hw : Whole ps ok) (s : List Bool) (e : larger ps ok free s ≡ s) (ports : (d : ℕ) → T (ok d) → leaves ps d < length s) where
    -- a closed set holds every port from which a way leads into it
    pub way_closed : (p : ℕ) (w : List ℕ) (y : ℕ) → Way p w y → T (at s y) → T (at s p)
    way_closed p [] y h t = subst (λ (z : ℕ). T (at s z)) (sym h) t
    way_closed p (d ∷ w) y h t =
        subst (λ (r : List Bool). T (at r p)) e
        (grow_adds s (from 0 (length ps)) s p d (subst (λ (z : ℕ). z < length s) h.1 (ports d h.0)) (hw d h.0)
        (h.0, way_closed (enters ps d) w y h.3 t, h.2, h.1))

-- The ports reached from y: those from which a way leads to y, and no others.
pub reached_iff : (np : ℕ) (ps : List ℕ) (ok free : ℕ → Bool) → Whole ps ok → ((d : ℕ) → T (ok d) → leaves ps d < np) → (y : ℕ) → y < np
    → (p : ℕ) → T (at (iter (larger ps ok free) np (only np y)) p) ↔ Linked ps ok free p y
reached_iff np ps ok free hw ports y hy p = (
  (λ t. let r = reached_from ps ok free np (only np y) p t in (r.2.0, subst (λ (z : ℕ). Way ps ok free p r.2.0 z) (only_is np y r.0 r.1) r.2.1)),
  (λ w. way_closed ps ok free hw (iter (larger ps ok free) np (only np y))
      (iter_closed (larger ps ok free) (length_larger ps ok free) (larger_keeps ps ok free) np (only np y) (omega (arith, length_only np y, size_only np y hy)))
      (λ d k. omega (arith, ports d k, iter_length (larger ps ok free) (length_larger ps ok free) np (only np y), length_only np y)) p w.0 y w.1 (iter_more (larger ps ok free) (larger_keeps ps ok free) np (only np y) y (only_self np y hy))),
)

-- ---- no cut port

abbrev pub but : ℕ → ℕ → Bool
but c p = not (eqb p c)

abbrev pub Uncut : ℕ → List ℕ → List Bool → Type 0
Uncut np ps on = (c p q : ℕ) → c < np → p < np → q < np → p ≢ c → q ≢ c → Linked ps (in_play on) (but c) p q

-- where without c every port is linked to one
pub uncut_of : (np : ℕ) (ps : List ℕ) (on : List Bool)
    → ((c : ℕ) → c < np → (o : ℕ) × (o ≢ c) × ((p : ℕ) → p < np → p ≢ c → Linked ps (in_play on) (but c) p o)) → Uncut np ps on
uncut_of np ps on h c p q lc lp lq hp hq =
    let o = h c lc in
    linked_join ps (in_play on) (but c) (o.2 p lp hp) (linked_back ps (in_play on) (but c) (play_reverse on) (ne_neqb o.0 c o.1) (o.2 q lq hq))

-- ---- the ports that channels in play touch

abbrev pub Touched : List ℕ → List Bool → ℕ → Type 0
Touched ps on p = (d : ℕ) × T (in_play on d) × (leaves ps d ≡ p)

abbrev pub Firm : List ℕ → List Bool → Type 0
Firm ps on = (c p q : ℕ) → Touched ps on c → Touched ps on p → Touched ps on q → p ≢ c → q ≢ c → Linked ps (in_play on) (but c) p q

abbrev pub Wide : List ℕ → List Bool → Type 0
Wide ps on = (a b : ℕ) → (w : ℕ) × Touched ps on w × (w ≢ a) × (w ≢ b)

module _ (np : ℕ) (ps : List ℕ) (on : List Bool) where
  pub touched_in : length ps ≡ 2 * length on → ((d : ℕ) → d < length ps → leaves ps d < np) → (p : ℕ) → Touched ps on p → p < np
  touched_in size2 inn p t = subst (λ (r : ℕ). r < np) t.2 (inn t.0 (play_dart ps on size2 t.0 t.1))

  pub firm_of : ((p : ℕ) → Touched ps on p → p < np) → Uncut np ps on → Firm ps on
  firm_of inn h c p q tc tp tq = h c p q (inn c tc) (inn p tp) (inn q tq)

  -- of three ports one is other than any two
  pub third : 3 ≤ np → (a b : ℕ) → (w : ℕ) × (w < np) × (w ≢ a) × (w ≢ b)
  third many a b =
      ⊎_elim
      (λ e. ⊎_elim (λ f. (2, omega arith, omega arith, omega arith)) (λ n. (1, omega arith, omega arith, is_apart 1 b n)) (is_cases 1 b))
      (λ n. ⊎_elim
      (λ e. ⊎_elim (λ f. (2, omega arith, omega arith, omega arith)) (λ m. (1, omega arith, is_apart 1 a m, omega arith)) (is_cases 1 a))
      (λ m. (0, omega arith, is_apart 0 a n, is_apart 0 b m)) (is_cases 0 b))
      (is_cases 0 a)

  -- a port from which a way leads to another is touched
  pub linked_touched : (ok free : ℕ → Bool) → ((d : ℕ) → T (ok d) → T (in_play on d)) → (p q : ℕ) → p ≢ q → Linked ps ok free p q → Touched ps on p
  linked_touched ok free play p q ne ([], h) = absurd (ne h)
  linked_touched ok free play p q ne (d ∷ w, h) = (d, play d h.0, h.1)

  pub wide_of : 3 ≤ np → Uncut np ps on → Wide ps on
  wide_of many h a b =
      let w = third many a b in
      let v = third many w.0 w.0 in
      let c = third many w.0 v.0 in
      (w.0, linked_touched (in_play on) (but c.0) (λ d o. o) w.0 v.0 (λ e. v.2 (sym e)) (h c.0 w.0 v.0 c.1 w.1 v.1 (λ e. c.2 (sym e)) (λ e. c.3 (sym e))), w.2, w.3)
