-- Trails: darts in a row, each of which leaves the port that the one before enters.
--   Trail ps p q y      the darts q lead from port p to port y
--   inner ps q          the ports between the ends of the trail q
-- trail_append, trail_cut, trail_back: trails are joined, cut and walked backwards. trail_once: one that comes to no port twice goes over no channel twice, either way. trail_leaves, trail_enters: its darts leave and enter its ends and the ports between.
-- Assumes nothing.
use mathlib.Core.Path.{◌≡◌, refl, ap, ◌∙◌, sym, subst}
use mathlib.Core.Logic.{◌≢◌, ⊎_elim, ◌⊎◌, inl, inr}
use mathlib.Core.List.{List, [], ◌∷◌, ◌++◌, map}
use Prim.Native.Nat.{ℕ, ◌/◌, ◌*◌, ◌+◌, ◌≤◌}
use native.Mathlib.Nat.{not-suc-le-zero}
use native.Mathlib.Omega.{arith}
use lib.ListN.{get_or, length}
use Rattle.rules.specs.Terms.{leaves, reverse, enters}
use Rattle.rules.specs.Laying.{back}
use Rattle.laws.proofs.Counts.{is, is_self, is_not, is_cases, count, count_map, Distinct}
use Rattle.laws.proofs.Runs.{reverse_reverse, reverse_other, channel_darts}

-- ---- the ports of a reverse

pub leaves_reverse : (ps : List ℕ) (z : ℕ) → leaves ps (reverse z) ≡ enters ps z
unfolding leaves enters
leaves_reverse ps z = refl

pub enters_reverse : (ps : List ℕ) (d : ℕ) → enters ps (reverse d) ≡ leaves ps d
unfolding enters leaves
enters_reverse ps d = ap (λ (i : ℕ). get_or ps i 0) (reverse_reverse d)

-- the second end of a channel
pub second_end : (ps : List ℕ) (k : ℕ) → get_or ps (2 * k + 1) 0 ≡ enters ps (2 * k)
unfolding enters reverse
second_end ps k = ap (λ (d : ℕ). get_or ps d 0) (omega arith)

-- the two darts of a channel, as they leave different ports
pub channel_opposite : (ps : List ℕ) (k d e : ℕ) → d / 2 ≡ k → e / 2 ≡ k → leaves ps d ≢ leaves ps e → enters ps d ≡ leaves ps e
channel_opposite ps k d e hd he ne =
    ⊎_elim
    (λ p. ⊎_elim (λ q. absurd (ne (ap (leaves ps) (p ∙ sym q)))) (λ q. ap (enters ps) p ∙ sym (leaves_reverse ps (2 * k)) ∙ ap (leaves ps) (sym q)) (channel_darts e k he))
    (λ p. ⊎_elim (λ q. ap (enters ps) p ∙ enters_reverse ps (2 * k) ∙ ap (leaves ps) (sym q)) (λ q. absurd (ne (ap (leaves ps) (p ∙ sym q)))) (channel_darts e k he))
    (channel_darts d k hd)

-- ---- trails

abbrev pub Trail : List ℕ → ℕ → List ℕ → ℕ → Type 0
Trail ps p [] y = p ≡ y
Trail ps p (d ∷ q) y = (leaves ps d ≡ p) × Trail ps (enters ps d) q y

pub trail_append : (ps : List ℕ) (p : ℕ) (v : List ℕ) (x : ℕ) (w : List ℕ) (y : ℕ) → Trail ps p v x → Trail ps x w y → Trail ps p (v ++ w) y
trail_append ps p [] x w y h k = subst (λ (z : ℕ). Trail ps z w y) (sym h) k
trail_append ps p (d ∷ v) x w y h k = (h.0, trail_append ps (enters ps d) v x w y h.1 k)

pub trail_cut : (ps : List ℕ) (p : ℕ) (v : List ℕ) (e : ℕ) (w : List ℕ) (y : ℕ) → Trail ps p (v ++ e ∷ w) y → Trail ps p v (leaves ps e) × Trail ps (leaves ps e) (e ∷ w) y
trail_cut ps p [] e w y h = (sym h.0, (refl, h.1))
trail_cut ps p (d ∷ v) e w y h = let r = trail_cut ps (enters ps d) v e w y h.1 in ((h.0, r.0), r.1)

pub trail_back : (ps : List ℕ) (p : ℕ) (q : List ℕ) (y : ℕ) → Trail ps p q y → Trail ps y (back q) p
unfolding back
trail_back ps p [] y h = sym h
trail_back ps p (d ∷ q) y h =
    trail_append ps y (back q) (enters ps d) (reverse d ∷ []) p (trail_back ps (enters ps d) q y h.1) (leaves_reverse ps d, enters_reverse ps d ∙ h.0)

-- a path that comes to no port twice goes over no channel twice, either way
pub trail_once : (ps : List ℕ) (p : ℕ) (q : List ℕ) (y : ℕ) → Trail ps p q y → Distinct (p ∷ map (enters ps) q) → (z : ℕ) → count z q + count (reverse z) q ≤ 1
unfolding count
trail_once ps p [] y t u z = omega arith
trail_once ps p (d ∷ q) y t u z =
    ⊎_elim (λ e. omega (arith, is_self z, ap (is z) (sym e), no_reverse e, is_not (reverse z) d (λ k. reverse_other z (k ∙ sym e)), no_same e))
    (λ n.
    ⊎_elim (λ e. omega (arith, is_self (reverse z), ap (is (reverse z)) (sym e), no_reverse' e, no_same' e))
    (λ m. omega (arith, trail_once ps (enters ps d) q y t.1 u.1 z)) (is_cases (reverse z) d))
    (is_cases z d)
  where
    -- d is z: z is not met again, nor its reverse
    no_same : z ≡ d → count z q ≡ 0
    no_same e = omega (arith, count_map (enters ps) z q, ap (λ (w : ℕ). count (enters ps w) (map (enters ps) q)) e, u.1.0)

    no_reverse : z ≡ d → count (reverse z) q ≡ 0
    no_reverse e = omega (arith, count_map (enters ps) (reverse z) q, ap (λ (w : ℕ). count w (map (enters ps) q)) (enters_reverse ps z ∙ ap (leaves ps) e ∙ t.0), u.0)

    no_same' : reverse z ≡ d → count (reverse z) q ≡ 0
    no_same' e = omega (arith, count_map (enters ps) (reverse z) q, ap (λ (w : ℕ). count (enters ps w) (map (enters ps) q)) e, u.1.0)

    no_reverse' : reverse z ≡ d → count z q ≡ 0
    no_reverse' e = omega (arith, count_map (enters ps) z q, ap (λ (w : ℕ). count w (map (enters ps) q)) (ap (enters ps) (sym (reverse_reverse z) ∙ ap reverse e) ∙ enters_reverse ps d ∙ t.0), u.0)

pub trail_end : (ps : List ℕ) (p d : ℕ) (q : List ℕ) (y : ℕ) → Trail ps p (d ∷ q) y → 1 ≤ count y (map (enters ps) (d ∷ q))
unfolding count
trail_end ps p d [] y t = omega (arith, is_self y, ap (is y) t.1)
trail_end ps p d (e ∷ q) y t = omega (arith, trail_end ps (enters ps d) e q y t.1)

-- ---- the ports between the ends

-- the ports between the ends of a path
unfoldable pub inner : List ℕ → List ℕ → List ℕ
inner ps [] = []
inner ps (d ∷ []) = []
inner ps (d ∷ e ∷ q) = enters ps d ∷ inner ps (e ∷ q)

pub length_inner : (ps : List ℕ) (d : ℕ) (q : List ℕ) → length (inner ps (d ∷ q)) + 1 ≡ length (d ∷ q)
unfolding inner
length_inner ps d [] = omega arith
length_inner ps d (e ∷ q) = omega (arith, length_inner ps e q)

-- each dart of a path leaves its start or a port between, and enters its end or a port between
pub trail_leaves : (ps : List ℕ) (p d : ℕ) (q : List ℕ) (y z : ℕ) → Trail ps p (d ∷ q) y → 1 ≤ count z (d ∷ q) → (leaves ps z ≡ p) ⊎ (1 ≤ count (leaves ps z) (inner ps (d ∷ q)))
unfolding count inner
trail_leaves ps p d [] y z t h = ⊎_elim (λ e. inl (ap (leaves ps) e ∙ t.0)) (λ n. absurd (not-suc-le-zero {n = 0} (omega arith))) (is_cases z d)
trail_leaves ps p d (e ∷ q) y z t h =
    ⊎_elim (λ k. inl (ap (leaves ps) k ∙ t.0))
    (λ n. ⊎_elim
    (λ k. inr (omega (arith, is_self (enters ps d), ap (λ (w : ℕ). is w (enters ps d)) k)))
    (λ k. inr (omega arith))
    (trail_leaves ps (enters ps d) e q y z t.1 (omega arith)))
    (is_cases z d)

pub trail_enters : (ps : List ℕ) (p d : ℕ) (q : List ℕ) (y z : ℕ) → Trail ps p (d ∷ q) y → 1 ≤ count z (d ∷ q) → (enters ps z ≡ y) ⊎ (1 ≤ count (enters ps z) (inner ps (d ∷ q)))
unfolding count inner
trail_enters ps p d [] y z t h = ⊎_elim (λ e. inl (ap (enters ps) e ∙ t.1)) (λ n. absurd (not-suc-le-zero {n = 0} (omega arith))) (is_cases z d)
trail_enters ps p d (e ∷ q) y z t h =
    ⊎_elim (λ k. inr (omega (arith, is_self (enters ps d), ap (λ (w : ℕ). is (enters ps w) (enters ps d)) k)))
    (λ n. ⊎_elim inl (λ k. inr (omega arith)) (trail_enters ps (enters ps d) e q y z t.1 (omega arith)))
    (is_cases z d)

-- a port between is entered
pub inner_enters : (ps : List ℕ) (d : ℕ) (q : List ℕ) (p : ℕ) → 1 ≤ count p (inner ps (d ∷ q)) → (z : ℕ) × (1 ≤ count z (d ∷ q)) × (enters ps z ≡ p)
unfolding count inner
inner_enters ps d [] p h = absurd (not-suc-le-zero h)
inner_enters ps d (e ∷ q) p h =
    ⊎_elim (λ k. (d, omega (arith, is_self d), sym k)) (λ n. let r = inner_enters ps e q p (omega arith) in (r.0, omega (arith, r.1), r.2)) (is_cases p (enters ps d))

pub inner_leaves : (ps : List ℕ) (p d : ℕ) (q : List ℕ) (y r : ℕ) → Trail ps p (d ∷ q) y → 1 ≤ count r (inner ps (d ∷ q)) → (z : ℕ) × (1 ≤ count z (d ∷ q)) × (leaves ps z ≡ r)
unfolding count inner
inner_leaves ps p d [] y r t h = absurd (not-suc-le-zero h)
inner_leaves ps p d (e ∷ q) y r t h =
    ⊎_elim (λ k. (e, omega (arith, is_self e), t.1.0 ∙ sym k)) (λ n. let w = inner_leaves ps (enters ps d) e q y r t.1 (omega arith) in (w.0, omega (arith, w.1), w.2)) (is_cases r (enters ps d))

pub inner_le : (ps : List ℕ) (d : ℕ) (q : List ℕ) (r : ℕ) → count r (inner ps (d ∷ q)) ≤ count r (map (enters ps) (d ∷ q))
unfolding count inner
inner_le ps d [] r = omega arith
inner_le ps d (e ∷ q) r = omega (arith, inner_le ps e q r)
