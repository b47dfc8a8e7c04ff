-- The loops that find the contacts of a fragment: over the darts of a port, over the ports of a fragment, and over all ports, rising.
--   Touched ends play lp p s₀ s d          the darts of port p from d on are left
--   Felt ends play lp ps s₀ s i            the ports of ps from place i on are left
--   Collected f v size out n p             the first n of `out`, which has `size` places, are the ports below p that pass the test f; v ports in all
-- touch_out, touch_unlaid, touch_laid: one dart. touched_.., felt_.., collected_..: the three loops. Each of the form "what is left, from here, gives what the whole gives from the start".
-- Assumes nothing.
use mathlib.Core.Path.{◌≡◌, refl, sym, ap, ◌∙◌}
use mathlib.Core.Logic.{◌⊎◌, inl, inr}
use mathlib.Core.Bool.{Bool, true, false, cond}
use mathlib.Core.List.{List, [], ◌∷◌, ◌++◌, append_assoc, append-nil}
use Prim.Native.Nat.{ℕ, ◌+◌, ◌-◌, ◌≤◌, ◌<◌}
use native.Mathlib.Numerals.{add-one}
use native.Mathlib.Omega.{arith}
use lib.ListN.{length, get_or, set, take, drop, length-set, drop_of_length-le}
use lib.Seq.{take-suc-set, drop-cons}
use Rattle.rules.specs.Lists.{from, keep, at}
use Rattle.rules.specs.Terms.{leaves, enters, darts_at}
use Rattle.rules.specs.Ways.{in_play}
use Rattle.reach.specs.Neighbours.{first_dart, more_dart}
use Rattle.reach.proofs.Chains.{chain, chain_none, chain_first, chain_more, first_leaves, more_leaves}
use Rattle.fragment.specs.Fragments.{touch, touch_all, touch_from}
use Rattle.fragment.proofs.Rising.{from_cut, from_over}
use Rattle.fragment.proofs.Touching.{length_touch, length_touch_all}

-- ---- one dart

module _ (ends : List ℕ) (play lp : List Bool) (d : ℕ) (s : List Bool) where
  pub touch_out : in_play play d ≡ false → touch ends play lp d s ≡ s
  unfolding touch
  touch_out e = rw e

  pub touch_unlaid : in_play play d ≡ true → at lp (enters ends d) ≡ false → touch ends play lp d s ≡ s
  unfolding touch
  touch_unlaid e l = rw (e, l)

  pub touch_laid : in_play play d ≡ true → at lp (enters ends d) ≡ true → touch ends play lp d s ≡ set s (enters ends d) true
  unfolding touch
  touch_laid e l = rw (e, l)

-- ---- the darts of a port

pub record Touched (ends : List ℕ) (play lp : List Bool) (p : ℕ) (s₀ s : List Bool) (d : ℕ) : Type 0 where
  pub rest : touch_all ends play lp (chain ends p d) s ≡ touch_all ends play lp (darts_at ends p) s₀
  pub long : length s ≡ length s₀
  pub here : d < length ends → leaves ends d ≡ p

module _ (ends : List ℕ) (play lp : List Bool) (p : ℕ) (s₀ : List Bool) where
  pub touched_start : (d : ℕ) → d ≡ first_dart ends p → Touched ends play lp p s₀ s₀ d
  touched_start d e = rw e (record {
    rest = ap (λ (ds : List ℕ). touch_all ends play lp ds s₀) (sym (chain_first ends p));
    long = refl;
    here = first_leaves ends p;
  })

  pub touched_step : (s : List Bool) (d : ℕ) → Touched ends play lp p s₀ s d → d < length ends → (s' : List Bool) (d' : ℕ) → s' ≡ touch ends play lp d s → d' ≡ more_dart ends d → Touched ends play lp p s₀ s' d'
  unfolding touch_all
  touched_step s d w h s' d' e q = rw (e, q) (record {
    rest = ap (λ (ds : List ℕ). touch_all ends play lp ds s) (sym (chain_more ends p d h (w.here h))) ∙ w.rest;
    long = length_touch ends play lp d s ∙ w.long;
    here = λ k. more_leaves ends d h k ∙ w.here h;
  })

  pub touched_end : (s : List Bool) (d : ℕ) → Touched ends play lp p s₀ s d → length ends ≤ d → s ≡ touch_all ends play lp (darts_at ends p) s₀
  unfolding touch_all
  touched_end s d w h = ap (λ (ds : List ℕ). touch_all ends play lp ds s) (sym (chain_none ends p d h)) ∙ w.rest

-- ---- the ports of the fragment

pub record Felt (ends : List ℕ) (play lp : List Bool) (ps : List ℕ) (s₀ s : List Bool) (i : ℕ) : Type 0 where
  pub most : i ≤ length ps
  pub rest : touch_from ends play lp (drop i ps) s ≡ touch_from ends play lp ps s₀
  pub long : length s ≡ length s₀

module _ (ends : List ℕ) (play lp : List Bool) (ps : List ℕ) (s₀ : List Bool) where
  pub felt_step : (s : List Bool) (i : ℕ) → Felt ends play lp ps s₀ s i → i < length ps → (s' : List Bool)
      → s' ≡ touch_all ends play lp (darts_at ends (get_or ps i 0)) s → Felt ends play lp ps s₀ s' (i + 1)
  unfolding touch_from
  felt_step s i w h s' q = record {
    most = omega arith;
    rest = ap (touch_from ends play lp (drop (i + 1) ps)) q ∙ ap (λ (qs : List ℕ). touch_from ends play lp qs s) (sym front) ∙ w.rest;
    long = ap length q ∙ length_touch_all ends play lp (darts_at ends (get_or ps i 0)) s ∙ w.long;
  }
    where
      front : drop i ps ≡ get_or ps i 0 ∷ drop (i + 1) ps
      front = drop-cons ps i 0 h ∙ ap (λ (j : ℕ). get_or ps i 0 ∷ drop j ps) (sym (add-one i))

  pub felt_end : (s : List Bool) (i : ℕ) → Felt ends play lp ps s₀ s i → length ps ≤ i → s ≡ touch_from ends play lp ps s₀
  unfolding touch_from
  felt_end s i w h = ap (λ (qs : List ℕ). touch_from ends play lp qs s) (sym (drop_of_length-le ps {i = i} h)) ∙ w.rest

-- ---- all ports, rising

pub record Collected (f : ℕ → Bool) (v : ℕ) (size : ℕ) (out : List ℕ) (n p : ℕ) : Type 0 where
  pub most : p ≤ v
  pub few : n ≤ p
  pub long : length out ≡ size
  pub rest : take n out ++ keep f (from p (v - p)) ≡ keep f (from 0 v)

module _ (f : ℕ → Bool) (v size : ℕ) (room : v ≤ size) where
  collected_in : (out : List ℕ) (n p : ℕ) → Collected f v size out n p → p < v → f p ≡ true → Collected f v size (set out n p) (n + 1) (p + 1)
  unfolding keep
  collected_in out n p c h e = record {
    most = omega arith;
    few = omega (arith, c.few);
    long = length-set out n p ∙ c.long;
    rest =
        ap (λ (l : List ℕ). l ++ keep f (from (p + 1) (v - (p + 1)))) (ap (λ (j : ℕ). take j (set out n p)) (add-one n) ∙ take-suc-set out n p (omega (arith, c.few, c.long)))
        ∙ append_assoc (take n out) (p ∷ []) (keep f (from (p + 1) (v - (p + 1))))
        ∙ ap (λ (b : Bool). take n out ++ cond b (p ∷ keep f (from (p + 1) (v - (p + 1)))) (keep f (from (p + 1) (v - (p + 1))))) (sym e)
        ∙ ap (λ (l : List ℕ). take n out ++ keep f l) (sym (from_cut p v h))
        ∙ c.rest;
  }

  collected_out : (out : List ℕ) (n p : ℕ) → Collected f v size out n p → p < v → f p ≡ false → Collected f v size out n (p + 1)
  unfolding keep
  collected_out out n p c h e = record {
    most = omega arith;
    few = omega (arith, c.few);
    long = c.long;
    rest =
        ap (λ (b : Bool). take n out ++ cond b (p ∷ keep f (from (p + 1) (v - (p + 1)))) (keep f (from (p + 1) (v - (p + 1))))) (sym e)
        ∙ ap (λ (l : List ℕ). take n out ++ keep f l) (sym (from_cut p v h))
        ∙ c.rest;
  }

  -- one port, either way
  pub collected_step : (out : List ℕ) (n p : ℕ) (out' : List ℕ) (n' : ℕ) → Collected f v size out n p → p < v
      → ((f p ≡ true) × (out' ≡ set out n p) × (n' ≡ n + 1)) ⊎ ((f p ≡ false) × (out' ≡ out) × (n' ≡ n)) → Collected f v size out' n' (p + 1)
  collected_step out n p out' n' c h (inl w) = rw (w.1, w.2) (collected_in out n p c h w.0)
  collected_step out n p out' n' c h (inr w) = rw (w.1, w.2) (collected_out out n p c h w.0)

  pub collected_end : (out : List ℕ) (n p : ℕ) → Collected f v size out n p → v ≤ p → take n out ≡ keep f (from 0 v)
  unfolding keep
  collected_end out n p c h =
      sym (append-nil (take n out)) ∙ ap (λ (l : List ℕ). take n out ++ keep f l) (sym (from_over p v h)) ∙ c.rest
