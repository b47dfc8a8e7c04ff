-- What the turns say of darts, ports and channels: a read of a turn, the laid ports, and whether all is laid.
--   Covering ends t v r d       what is left of the darts from d on makes of r all laid ports
-- same_default: a read inside a list. laid_read: a turn that is not the mark. over_out, over_in: one channel. covering_..: the loop of `laid_ports`. all_over: all channels are laid where all are over.
-- Assumes nothing.
use mathlib.Core.Path.{◌≡◌, refl, sym, ap, ◌∙◌}
use mathlib.Core.Logic.{◌⊎◌, inl, inr}
use mathlib.Core.Bool.{Bool, true, false, cond, not, ◌||◌}
use mathlib.Core.List.{List, [], ◌∷◌}
use Prim.Native.Nat.{ℕ, zero, suc, ◌+◌, ◌-◌, ◌*◌, ◌≤◌, ◌<◌}
use native.Mathlib.Nat.{not-suc-le-zero}
use native.Mathlib.Omega.{arith}
use lib.Dec.{eqb}
use lib.ListN.{length, get_or, set, replicate, length-set}
use Rattle.rules.specs.Lists.{from, all, at}
use Rattle.rules.specs.Terms.{leaves, laid, there, missing}
use Rattle.rules.specs.Laying.{laid_ports, all_laid}
use Rattle.laws.proofs.Tests.{cond_cases, or_false}
use Rattle.fragment.specs.Fragments.{over}
use Rattle.fragment.proofs.Rising.{from_cut, from_over}

-- ---- one turn

same_default : (l : List ℕ) (i a b : ℕ) → i < length l → get_or l i a ≡ get_or l i b
same_default [] i a b h = absurd (not-suc-le-zero h)
same_default (x ∷ l) zero a b h = refl
same_default (x ∷ l) (suc i) a b h = same_default l i a b (omega arith)

pub laid_read : (t : List ℕ) (d : ℕ) → d < length t → not (eqb (get_or t d 0) missing) ≡ laid t d
unfolding laid there
laid_read t d h = ap (λ (x : ℕ). not (eqb x missing)) (same_default t d 0 missing h)

-- ---- the laid ports

pub record Covering (ends t : List ℕ) (v : ℕ) (r : List Bool) (d : ℕ) : Type 0 where
  pub most : d ≤ length ends
  pub size : length r ≡ v
  pub rest : laid_ports ends t (from d (length ends - d)) r ≡ laid_ports ends t (from 0 (length ends)) (replicate v false)

covering_next : (ends t : List ℕ) (v : ℕ) (r : List Bool) (d : ℕ) (r' : List Bool) → Covering ends t v r d → d < length ends
    → r' ≡ cond (laid t d) (set r (leaves ends d) true) r → Covering ends t v r' (d + 1)
unfolding laid_ports
covering_next ends t v r d r' c h e = record {
  most = omega arith;
  size = ap length e ∙ cond_cases (λ (s : List Bool). length s ≡ length r) (laid t d) (λ k. length-set r (leaves ends d) true) (λ k. refl) ∙ c.size;
  rest =
      ap (laid_ports ends t (from (d + 1) (length ends - (d + 1)))) e
      ∙ ap (λ (ds : List ℕ). laid_ports ends t ds r) (sym (from_cut d (length ends) h))
      ∙ c.rest;
}

-- one dart, either way
pub covering_step : (ends t : List ℕ) (v : ℕ) (r : List Bool) (d : ℕ) (r' : List Bool) → Covering ends t v r d → d < length ends
    → ((laid t d ≡ true) × (r' ≡ set r (leaves ends d) true)) ⊎ ((laid t d ≡ false) × (r' ≡ r)) → Covering ends t v r' (d + 1)
covering_step ends t v r d r' c h (inl w) = covering_next ends t v r d r' c h (w.1 ∙ rw w.0)
covering_step ends t v r d r' c h (inr w) = covering_next ends t v r d r' c h (w.1 ∙ rw w.0)

pub covering_end : (ends t : List ℕ) (v : ℕ) (r : List Bool) (d : ℕ) → Covering ends t v r d → length ends ≤ d → r ≡ laid_ports ends t (from 0 (length ends)) (replicate v false)
unfolding laid_ports
covering_end ends t v r d c h = ap (λ (ds : List ℕ). laid_ports ends t ds r) (sym (from_over d (length ends) h)) ∙ c.rest

-- ---- channels that are over

pub over_out : (play : List Bool) (t : List ℕ) (k : ℕ) → at play k ≡ false → over play t k ≡ true
unfolding over
over_out play t k e = rw e (last (laid t (2 * k)))
  where
    last : (b : Bool) → (b || true) ≡ true
    last true = refl
    last false = refl

pub over_in : (play : List Bool) (t : List ℕ) (k : ℕ) → at play k ≡ true → over play t k ≡ laid t (2 * k)
unfolding over
over_in play t k e = rw e (or_false (laid t (2 * k)))

pub all_over : (v : ℕ) (ends : List ℕ) (play : List Bool) (t : List ℕ) → all_laid v ends play t ≡ all (over play t) (from 0 (length play))
unfolding all_laid over
all_over v ends play t = refl
