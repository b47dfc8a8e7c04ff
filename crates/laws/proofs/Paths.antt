-- The path that is laid is a path (rules, "Ways"): where x can be reached from y at all, it leads from x to y by usable darts through free ports, and comes to no port twice.
--   Darts ds                     no number of ds is the mark of a missing turn
--   Leads ps ok p s d            dart d is usable, leaves p and enters s
--   Upto ps m b                  b is a dart, and enters no port beyond m
--   LeadsTo ps ok p q y          the darts q lead from p to y, usable each
--   all_darts ps ok free         the darts of the plate
--   Ladder ps ok free y s ss     s grew from the first of ss, that from the second, and so on, and the last is y alone
--   New p ss                     p is not in the first of ss
--   Found ps ok free n y x ss    ss is the ladder below a set of n ports that holds x first
-- nearest_good, nearest_best: the dart that is taken leads into the set, and no other leads to a smaller port. descend_..: what holds of the darts taken. layers_good: the sets are a ladder. path_good is the sum of it.
-- Assumes nothing.
use mathlib.Core.Path.{◌≡◌, subst, sym, refl, ap, ◌∙◌}
use mathlib.Core.Logic.{⊎_elim, ◌⊎◌, inr, inl}
use mathlib.Core.Bool.{Bool, ◌&&◌, not, ◌||◌}
use mathlib.Core.List.{List, [], ◌∷◌, map}
use Prim.Native.Nat.{ℕ, ◌≤◌, ◌<◌, suc, zero}
use native.Mathlib.Nat.{not-suc-le-zero}
use native.Mathlib.Omega.{arith}
use lib.Dec.{T, eqb, eqb→eq, eqb_refl, ltb, T_not, ltb→lt, nltb→le}
use lib.ListN.{length}
use Rattle.rules.specs.Lists.{from, at}
use Rattle.rules.specs.Terms.{leaves, enters, missing, there}
use Rattle.rules.specs.Ways.{only, iter, larger, layers, leads, closer, nearest, descend, path}
use Rattle.laws.proofs.Tests.{cond_cases, and_T, T_and, or_T, not_and, not_or, not_not}
use Rattle.laws.proofs.Counts.{is_self, is_cases, count, zero_of, Distinct}
use Rattle.laws.proofs.Lists.{from_lt}
use Rattle.laws.proofs.Sets.{at_lt, only_is, only_self, length_only}
use Rattle.laws.proofs.Links.{there_lt}
use Rattle.laws.proofs.Trails.{Trail}
use Rattle.laws.proofs.Reaches.{Whole, length_grow, grow_keeps, grow_from, grow_adds, length_larger}

abbrev pub Darts : List ℕ → Type 0
Darts ds = (d : ℕ) → 1 ≤ count d ds → T (there d)

pub darts_of : (ps : List ℕ) → length ps < missing → Darts (from 0 (length ps))
darts_of ps few d h = there_lt d (omega (arith, from_lt d 0 (length ps) h))

abbrev pub Leads : List ℕ → (ℕ → Bool) → ℕ → List Bool → ℕ → Type 0
Leads ps ok p s d = T (ok d) × (leaves ps d ≡ p) × T (at s (enters ps d))

abbrev pub Upto : List ℕ → ℕ → ℕ → Type 0
Upto ps m b = T (there b) × (enters ps b ≤ m)

abbrev pub LeadsTo : List ℕ → (ℕ → Bool) → ℕ → List ℕ → ℕ → Type 0
LeadsTo ps ok p [] y = p ≡ y
LeadsTo ps ok p (d ∷ q) y = T (ok d) × (leaves ps d ≡ p) × LeadsTo ps ok (enters ps d) q y

abbrev pub New : ℕ → List (List Bool) → Type 0
New p [] = Unit {0}
New p (s ∷ ss) = T (at s p) → ⊥

-- ---- the nearest dart

module _ (ps : List ℕ) (ok : ℕ → Bool) where
  pub leads_T : (p : ℕ) (s : List Bool) (d : ℕ) → T (leads ps ok p s d) → Leads ps ok p s d
  unfolding leads
  leads_T p s d t =
      let u = and_T (ok d && eqb (leaves ps d) p) (at s (enters ps d)) t in
      let w = and_T (ok d) (eqb (leaves ps d) p) u.0 in
      (w.0, eqb→eq (leaves ps d) p w.1, u.1)

  pub T_leads : (p : ℕ) (s : List Bool) (d : ℕ) → Leads ps ok p s d → T (leads ps ok p s d)
  unfolding leads
  T_leads p s d (k, e, i) =
      T_and (ok d && eqb (leaves ps d) p) (at s (enters ps d)) (T_and (ok d) (eqb (leaves ps d) p) k (rw e (eqb_refl p))) i

  pub closer_from : (P : ℕ → Type 0) (p : ℕ) (s : List Bool) (d b : ℕ) → P b → (Leads ps ok p s d → P d) → P (closer ps ok p s d b)
  unfolding closer
  closer_from P p s d b h g =
      cond_cases P (leads ps ok p s d && (not (there b) || ltb (enters ps d) (enters ps b)))
      (λ t. g (leads_T p s d (and_T (leads ps ok p s d) (not (there b) || ltb (enters ps d) (enters ps b)) t).0)) (λ t. h)

  pub closer_keeps : (p : ℕ) (s : List Bool) (d b m : ℕ) → T (there d) → Upto ps m b → Upto ps m (closer ps ok p s d b)
  unfolding closer
  closer_keeps p s d b m k h =
      cond_cases (Upto ps m) (leads ps ok p s d && (not (there b) || ltb (enters ps d) (enters ps b)))
      (λ t. (
        k,
        ⊎_elim (λ n. absurd (T_not (there b) n h.0)) (λ l. omega (arith, h.1, ltb→lt (enters ps d) (enters ps b) l))
            (or_T (not (there b)) (ltb (enters ps d) (enters ps b)) (and_T (leads ps ok p s d) (not (there b) || ltb (enters ps d) (enters ps b)) t).1),
      ))
      (λ t. h)

  pub closer_best : (p : ℕ) (s : List Bool) (d b : ℕ) → T (there d) → Leads ps ok p s d → Upto ps (enters ps d) (closer ps ok p s d b)
  unfolding closer
  closer_best p s d b k j =
      cond_cases (Upto ps (enters ps d)) (leads ps ok p s d && (not (there b) || ltb (enters ps d) (enters ps b)))
      (λ t. (k, omega arith))
      (λ t.
      let w = not_or (not (there b)) (ltb (enters ps d) (enters ps b)) (not_and (leads ps ok p s d) (not (there b) || ltb (enters ps d) (enters ps b)) t (T_leads p s d j)) in
      (not_not (there b) w.0, nltb→le (enters ps d) (enters ps b) w.1))

  -- the nearest dart leads into s, or there is none
  pub nearest_good : (p : ℕ) (s : List Bool) (ds : List ℕ) (b : ℕ) → (b ≡ missing) ⊎ Leads ps ok p s b
      → (nearest ps ok p s ds b ≡ missing) ⊎ Leads ps ok p s (nearest ps ok p s ds b)
  unfolding nearest
  nearest_good p s [] b h = h
  nearest_good p s (d ∷ ds) b h =
      nearest_good p s ds (closer ps ok p s d b) (closer_from (λ (z : ℕ). (z ≡ missing) ⊎ Leads ps ok p s z) p s d b h inr)

  pub nearest_keeps : (p : ℕ) (s : List Bool) (ds : List ℕ) (b m : ℕ) → Darts ds → Upto ps m b → Upto ps m (nearest ps ok p s ds b)
  unfolding nearest count
  nearest_keeps p s [] b m h k = k
  nearest_keeps p s (d ∷ ds) b m h k =
      nearest_keeps p s ds (closer ps ok p s d b) m (λ e c. h e (omega arith)) (closer_keeps p s d b m (h d (omega (arith, is_self d))) k)

  -- no dart of ds that leads into s goes to a smaller port
  pub nearest_best : (p : ℕ) (s : List Bool) (ds : List ℕ) (b e : ℕ) → Darts ds → 1 ≤ count e ds → Leads ps ok p s e
      → Upto ps (enters ps e) (nearest ps ok p s ds b)
  unfolding nearest count
  nearest_best p s [] b e h c j = absurd (not-suc-le-zero c)
  nearest_best p s (d ∷ ds) b e h c j =
      ⊎_elim
      (λ q. nearest_keeps p s ds (closer ps ok p s d b) (enters ps e) (λ f i. h f (omega arith))
      (subst (λ (z : ℕ). Upto ps (enters ps z) (closer ps ok p s d b)) (sym q)
      (closer_best p s d b (h d (omega (arith, is_self d))) (subst (Leads ps ok p s) q j))))
      (λ q. nearest_best p s ds (closer ps ok p s d b) e (λ f i. h f (omega arith)) (omega arith) j)
      (is_cases e d)

module _ (ps : List ℕ) (ok free : ℕ → Bool) where
  -- ---- the darts from set to set

  abbrev pub all_darts : List ℕ
  all_darts = from 0 (length ps)

  abbrev pub Ladder : ℕ → List Bool → List (List Bool) → Type 0
  Ladder y s [] = ((p : ℕ) → T (at s p) → p ≡ y) × T (at s y)
  Ladder y s (r ∷ rs) = (s ≡ larger ps ok free r) × Ladder y r rs

  -- the dart that `descend` takes
  pub descend_step : (p : ℕ) (s r : List Bool) → Darts all_darts → s ≡ larger ps ok free r → (T (at r p) → ⊥) → T (at s p)
      → T (free p) × Leads ps ok p r (nearest ps ok p r all_darts missing)
  unfolding there
  descend_step p s r h e n t =
      ⊎_elim (λ k. absurd (n k))
      (λ w. (
        w.2.2,
        ⊎_elim (λ z. absurd (subst (λ (d : ℕ). T (there d)) z (nearest_best ps ok p r all_darts missing w.0 h w.1 (w.2.0, w.2.3, w.2.1)).0))
            (λ j. j)
            (nearest_good ps ok p r all_darts missing (inl refl)),
      ))
      (grow_from ps ok free r all_darts r p (rw e at t))

  -- the port that the dart leads to is new to the next of the sets, too
  pub new_step : (y p : ℕ) (s r : List Bool) (rs : List (List Bool)) (d : ℕ) → Whole ps ok → Ladder y r rs → (T (at r p) → ⊥) → p < length r → T (free p)
      → Leads ps ok p r d → New (enters ps d) rs
  new_step y p s r [] d hw l n b f j = tt
  new_step y p s r (r' ∷ rs) d hw l n b f j =
      λ k. n (rw l.0 (grow_adds ps ok free r' all_darts r' p d (subst (λ (m : ℕ). p < m) (ap length l.0 ∙ length_grow ps ok free r' all_darts r') b) (hw d j.0) (j.0, k, f, j.1)))

  pub ladder_below : (p : ℕ) (s r : List Bool) → s ≡ larger ps ok free r → T (at s p) → p < length r
  ladder_below p s r e t = subst (λ (m : ℕ). p < m) (ap length e ∙ length_grow ps ok free r all_darts r) (at_lt s p t)

  pub descend_good : (y p : ℕ) (s : List Bool) (ss : List (List Bool)) → Darts all_darts → Whole ps ok → Ladder y s ss → New p ss → T (at s p)
      → LeadsTo ps ok p (descend ps ok p ss) y
  unfolding descend
  descend_good y p s [] h hw l n t = l.0 p t
  descend_good y p s (r ∷ rs) h hw l n t =
      let g = descend_step p s r h l.0 n t in
      let d = nearest ps ok p r all_darts missing in (
        g.1.0,
        g.1.1,
        descend_good y (enters ps d) r rs h hw l.1 (new_step y p s r rs d hw l.1 n (ladder_below p s r l.0 t) g.0 g.1) g.1.2,
      )

  -- every port that it comes to lies in the first of the sets
  pub descend_in : (y p : ℕ) (s r : List Bool) (rs : List (List Bool)) → Darts all_darts → Whole ps ok → Ladder y s (r ∷ rs) → New p (r ∷ rs) → T (at s p)
      → (z : ℕ) → 1 ≤ count z (map (enters ps) (descend ps ok p (r ∷ rs))) → T (at r z)
  unfolding descend count
  descend_in y p s r [] h hw l n t z c =
      let g = descend_step p s r h l.0 n t in
      ⊎_elim (λ e. rw e g.1.2) (λ e. absurd (not-suc-le-zero {n = 0} (omega arith))) (is_cases z (enters ps (nearest ps ok p r all_darts missing)))
  descend_in y p s r (r' ∷ rs) h hw l n t z c =
      let g = descend_step p s r h l.0 n t in
      let d = nearest ps ok p r all_darts missing in
      ⊎_elim (λ e. rw e g.1.2)
      (λ e. rw l.1.0 (grow_keeps ps ok free r' all_darts r' z
      (descend_in y (enters ps d) r r' rs h hw l.1 (new_step y p s r (r' ∷ rs) d hw l.1 n (ladder_below p s r l.0 t) g.0 g.1) g.1.2 z (omega arith))))
      (is_cases z (enters ps d))

  -- it comes to no port twice, and not back to p
  pub descend_distinct : (y p : ℕ) (s : List Bool) (ss : List (List Bool)) → Darts all_darts → Whole ps ok → Ladder y s ss → New p ss → T (at s p)
      → Distinct (p ∷ map (enters ps) (descend ps ok p ss))
  unfolding descend count
  descend_distinct y p s [] h hw l n t = (refl, tt)
  descend_distinct y p s (r ∷ rs) h hw l n t =
      let g = descend_step p s r h l.0 n t in
      let d = nearest ps ok p r all_darts missing in (
        zero_of (count p (map (enters ps) (descend ps ok p (r ∷ rs)))) (λ c. n (descend_in y p s r rs h hw l n t p c)),
        descend_distinct y (enters ps d) r rs h hw l.1 (new_step y p s r rs d hw l.1 n (ladder_below p s r l.0 t) g.0 g.1) g.1.2,
      )

  -- every dart of it leaves a free port
  pub descend_free : (y p : ℕ) (s : List Bool) (ss : List (List Bool)) → Darts all_darts → Whole ps ok → Ladder y s ss → New p ss → T (at s p)
      → (z : ℕ) → 1 ≤ count z (descend ps ok p ss) → T (free (leaves ps z))
  unfolding descend count
  descend_free y p s [] h hw l n t z c = absurd (not-suc-le-zero c)
  descend_free y p s (r ∷ rs) h hw l n t z c =
      let g = descend_step p s r h l.0 n t in
      let d = nearest ps ok p r all_darts missing in
      ⊎_elim (λ e. subst (λ (w : ℕ). T (free w)) (sym g.1.1 ∙ ap (leaves ps) (sym e)) g.0)
      (λ e. descend_free y (enters ps d) r rs h hw l.1 (new_step y p s r rs d hw l.1 n (ladder_below p s r l.0 t) g.0 g.1) g.1.2 z (omega arith))
      (is_cases z d)

  -- ---- the sets

  abbrev pub Found : ℕ → ℕ → ℕ → List (List Bool) → Type 0
  Found n y x ss = (s : List Bool) × Ladder y s ss × New x ss × T (at s x) × (length s ≡ n)

  pub layers_good : (y x n : ℕ) (s : List Bool) (ss : List (List Bool)) → Ladder y s ss → New x ss → T (at (iter (larger ps ok free) n s) x)
      → Found (length s) y x (layers ps ok free x (suc n) s ss)
  unfolding layers iter
  layers_good y x zero s ss l n t = cond_cases (Found (length s) y x) (at s x) (λ k. (s, l, n, k, refl)) (λ k. absurd (T_not (at s x) k t))
  layers_good y x (suc m) s ss l n t =
      cond_cases (Found (length s) y x) (at s x) (λ k. (s, l, n, k, refl))
      (λ k.
      let f = layers_good y x m (larger ps ok free s) (s ∷ ss) (refl, l) (λ w. T_not (at s x) k w) t in
      (f.0, f.1, f.2, f.3, f.4 ∙ length_larger ps ok free s))

-- ---- the path

pub leads_trail : (ps : List ℕ) (ok : ℕ → Bool) (p : ℕ) (q : List ℕ) (y : ℕ) → LeadsTo ps ok p q y → Trail ps p q y
leads_trail ps ok p [] y h = h
leads_trail ps ok p (d ∷ q) y h = (h.1, leads_trail ps ok (enters ps d) q y h.2)

pub leads_usable : (ps : List ℕ) (ok : ℕ → Bool) (p : ℕ) (q : List ℕ) (y : ℕ) → LeadsTo ps ok p q y → (z : ℕ) → 1 ≤ count z q → T (ok z)
unfolding count
leads_usable ps ok p [] y h z c = absurd (not-suc-le-zero c)
leads_usable ps ok p (d ∷ q) y h z c =
    ⊎_elim (λ e. subst (λ (w : ℕ). T (ok w)) (sym e) h.0) (λ n. leads_usable ps ok (enters ps d) q y h.2 z (omega arith)) (is_cases z d)

-- the sets that the path descends through; x itself counts as free
pub path_found : (np : ℕ) (ps : List ℕ) (ok free : ℕ → Bool) (x y : ℕ) → y < np → T (at (iter (larger ps ok free) np (only np y)) x)
    → Found ps ok free np y x (layers ps ok free x (suc np) (only np y) [])
path_found np ps ok free x y hy t =
    let f = layers_good ps ok free y x np (only np y) [] (only_is np y, only_self np y hy) tt t in
    (f.0, f.1, f.2, f.3, f.4 ∙ length_only np y)

-- The path from x to y: where x can be reached from y at all, it leads from x to y by usable darts, comes to no port twice,
-- and leaves only x and free ports.
pub path_good : (np : ℕ) (ps : List ℕ) (ok free : ℕ → Bool) (x y : ℕ)
    → Darts (from 0 (length ps)) → Whole ps ok
    → y < np → T (at (iter (larger ps ok (λ p. free p || eqb p x)) np (only np y)) x)
    → LeadsTo ps ok x (path np ps ok free x y) y × Distinct (x ∷ map (enters ps) (path np ps ok free x y))
    × ((z : ℕ) → 1 ≤ count z (path np ps ok free x y) → T (free (leaves ps z) || eqb (leaves ps z) x))
unfolding path
path_good np ps ok free x y h hw hy t =
    let f = path_found np ps ok (λ p. free p || eqb p x) x y hy t in (
      descend_good ps ok (λ p. free p || eqb p x) y x f.0 _ h hw f.1 f.2 f.3,
      descend_distinct ps ok (λ p. free p || eqb p x) y x f.0 _ h hw f.1 f.2 f.3,
      descend_free ps ok (λ p. free p || eqb p x) y x f.0 _ h hw f.1 f.2 f.3,
    )
