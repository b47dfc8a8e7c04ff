-- The loop of `neighbours`, from the last dart down.
--   since ends d p                    the lowest dart from d on that leaves port p
--   Chained ends v first more d       the tables of v ports are right for the darts from d on
-- start, step, first_end, more_end: the invariant at the beginning, after one dart, and what it comes to.
-- Assumes nothing.
use mathlib.Core.Path.{◌≡◌, sym, ap, ◌∙◌, subst}
use mathlib.Core.Logic.{◌≢◌, ⊎_elim}
use mathlib.Core.List.{List}
use Prim.Native.Nat.{ℕ, suc, ◌-◌, ◌≤◌, ◌<◌}
use native.Mathlib.Nat.{not-suc-le-zero, zero-add}
use native.Mathlib.Omega.{arith}
use lib.Dec.{eqb}
use lib.ListN.{length, get_or, set, length-set, replicate, length-replicate, get_or-replicate}
use lib.Seq.{get_or-set_same, get_or-set_other, ext_get_or}
use Rattle.rules.specs.Lists.{seek}
use Rattle.rules.specs.Terms.{leaves}
use Rattle.laws.proofs.Tests.{eqb_yes, eqb_no}
use Rattle.laws.proofs.Counts.{is_cases, is_apart}
use Rattle.reach.specs.Neighbours.{first_dart, more_dart, first_darts, more_darts}
use Rattle.laws.proofs.Seeking.{seek_here, seek_on, seek_over, length_map_from, get_or_map_from}

-- the lowest dart from d on that leaves port p
abbrev pub since : List ℕ → ℕ → ℕ → ℕ
since ends d p = seek (λ e. eqb (leaves ends e) p) d (length ends - d)

pub record Chained (ends : List ℕ) (v : ℕ) (first more : List ℕ) (d : ℕ) : Type 0 where
  pub most : d ≤ length ends
  pub ports : length first ≡ v
  pub darts : length more ≡ length ends
  pub firsts : (p : ℕ) → p < v → get_or first p 0 ≡ since ends d p
  pub mores : (e : ℕ) → d ≤ e → e < length ends → get_or more e 0 ≡ more_dart ends e

pub start : (ends : List ℕ) (v : ℕ) (first more : List ℕ) → first ≡ replicate v (length ends) → length more ≡ length ends
    → Chained ends v first more (length ends)
start ends v first more e l = record {
  most = omega arith;
  ports = ap length e ∙ length-replicate v (length ends);
  darts = l;
  firsts = λ p h.
      ap (λ (s : List ℕ). get_or s p 0) e ∙ get_or-replicate v p (length ends) 0 h ∙ sym (seek_over (λ k. eqb (leaves ends k) p) (length ends) (length ends) (omega arith));
  mores = λ k a b. absurd (not-suc-le-zero {n = 0} (omega arith));
}

module _ (ends : List ℕ) (v : ℕ) (first more : List ℕ) (d : ℕ) (g : Chained ends v first more (suc d)) (inside : leaves ends d < v) where
  -- what the table has for the port that d leaves is the dart after d there
  next : get_or first (leaves ends d) 0 ≡ more_dart ends d
  unfolding more_dart
  next = g.firsts (leaves ends d) inside

  pub step : Chained ends v (set first (leaves ends d) d) (set more d (get_or first (leaves ends d) 0)) d
  step = record {
    most = omega (arith, g.most);
    ports = length-set first (leaves ends d) d ∙ g.ports;
    darts = length-set more d (get_or first (leaves ends d) 0) ∙ g.darts;
    firsts = λ p h.
        ⊎_elim
        (λ e. ap (λ (q : ℕ). get_or (set first (leaves ends d) d) q 0) e ∙ get_or-set_same first (leaves ends d) d 0 (omega (arith, g.ports))
        ∙ sym (seek_here (λ k. eqb (leaves ends k) p) d (length ends) (eqb_yes (leaves ends d) p (sym e)) (omega (arith, g.most))))
        (λ m.
        get_or-set_other first (leaves ends d) p d 0 (is_apart p (leaves ends d) m) ∙ g.firsts p h
        ∙ sym (seek_on (λ k. eqb (leaves ends k) p) d (length ends) (eqb_no (leaves ends d) p (λ e. is_apart p (leaves ends d) m (sym e))) (omega (arith, g.most))))
        (is_cases p (leaves ends d));
    mores = λ e a b.
        ⊎_elim
        (λ q. ap (λ (k : ℕ). get_or (set more d (get_or first (leaves ends d) 0)) k 0) q ∙ get_or-set_same more d (get_or first (leaves ends d) 0) 0 (omega (arith, g.darts, g.most))
        ∙ next ∙ ap (more_dart ends) (sym q))
        (λ m.
        let ne : e ≢ d = is_apart e d m in
        get_or-set_other more d e (get_or first (leaves ends d) 0) 0 ne ∙ g.mores e (omega arith) b)
        (is_cases e d);
  }

-- the same for the dart before d
pub step_before : (ends : List ℕ) (v : ℕ) (first more : List ℕ) (d : ℕ) → Chained ends v first more d → 0 < d → leaves ends (d - 1) < v
    → Chained ends v (set first (leaves ends (d - 1)) (d - 1)) (set more (d - 1) (get_or first (leaves ends (d - 1)) 0)) (d - 1)
step_before ends v first more d g h inside = step ends v first more (d - 1) (subst (Chained ends v first more) one g) inside
  where
    one : d ≡ suc (d - 1)
    one = omega arith

module _ (ends : List ℕ) (v : ℕ) (first more : List ℕ) (g : Chained ends v first more 0) where
  pub first_end : first ≡ first_darts v ends
  unfolding first_darts first_dart
  first_end =
      ext_get_or 0 first (first_darts v ends) (g.ports ∙ sym (length_map_from (first_dart ends) 0 v))
      (λ p h.
      let b : p < v = omega (arith, g.ports) in
      let zero-off : length ends - 0 ≡ length ends = omega arith in
      g.firsts p b ∙ ap (λ (n : ℕ). seek (λ e. eqb (leaves ends e) p) 0 n) zero-off ∙ ap (first_dart ends) (sym (zero-add p)) ∙ sym (get_or_map_from (first_dart ends) 0 v p 0 b))

  pub more_end : more ≡ more_darts ends
  unfolding more_darts
  more_end =
      ext_get_or 0 more (more_darts ends) (g.darts ∙ sym (length_map_from (more_dart ends) 0 (length ends)))
      (λ e h.
      let b : e < length ends = omega (arith, g.darts) in
      g.mores e (omega arith) b ∙ ap (more_dart ends) (sym (zero-add e)) ∙ sym (get_or_map_from (more_dart ends) 0 (length ends) e 0 b))
