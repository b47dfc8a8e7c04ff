-- The loop of `distances`: after j passes the ports within mark i are those from which i channels lead to y, for each i up to j.
--   Measuring v ends ok free x y far j     the marks after j passes: none above j, those within j are what j passes reach, and the sets below j begin the definition's list
-- iter_last: a step more at the end. start, step, end: the loop's beginning, a turn, and its end; more: where x has no mark, fewer passes are made than there are ports.
-- Assumes nothing.
use mathlib.Core.Path.{◌≡◌, refl, sym, ap, ◌∙◌, subst}
use mathlib.Core.Bool.{Bool, false}
use mathlib.Core.List.{List, [], ◌∷◌}
use Prim.Native.Nat.{ℕ, zero, suc, ◌+◌, ◌-◌, ◌≤◌, ◌<◌}
use native.Mathlib.Decide.{dec_lt}
use native.Mathlib.Numerals.{add-one}
use native.Mathlib.Omega.{arith}
use lib.Dec.{T}
use lib.ListN.{length, get_or, length-set, length-replicate, replicate}
use Rattle.rules.specs.Lists.{from, at}
use Rattle.rules.specs.Terms.{missing}
use Rattle.rules.specs.Ways.{only, iter, grow, larger, layers, in_play}
use Rattle.way.specs.Marks.{free_or, begun, within, below, Passed, reached_by, sets}
use Rattle.way.proofs.Within.{begun_within, below_same, in_within, out_within}

pub iter_last : (f : List Bool → List Bool) (n : ℕ) (s : List Bool) → iter f (suc n) s ≡ f (iter f n s)
unfolding iter
iter_last f zero s = refl
iter_last f (suc n) s = iter_last f n (f s)

pub record Measuring (v : ℕ) (ends : List ℕ) (ok free : List Bool) (x y : ℕ) (far : List ℕ) (j : ℕ) : Type 0 where
  pub size : length far ≡ v
  pub most : j ≤ v
  pub none : (i : ℕ) → j ≤ i → i < missing → within far i ≡ within far j
  pub stage : within far j ≡ reached_by v ends ok free x y j
  pub rest : layers ends (in_play ok) (free_or free x) x (suc v - j) (within far j) (below far j) ≡ sets v ends ok free x y

module _ (v : ℕ) (ends : List ℕ) (ok free : List Bool) (x y : ℕ) where
  pub start : (far : List ℕ) → far ≡ begun v y → Measuring v ends ok free x y far 0
  unfolding iter below
  start far e = rw e (record {
    size = length-set (replicate v missing) y 0 ∙ length-replicate v missing;
    most = omega arith;
    none = λ i a b. begun_within v y i b ∙ sym (begun_within v y 0 (omega arith));
    stage = begun_within v y 0 (omega arith);
    rest =
        ap (λ (n : ℕ). layers ends (in_play ok) (free_or free x) x n (within (begun v y) 0) []) (omega arith)
        ∙ ap (λ (s : List Bool). layers ends (in_play ok) (free_or free x) x (suc v) s []) (begun_within v y 0 (omega arith));
  })

  module _ (far : List ℕ) (j : ℕ) (m : Measuring v ends ok free x y far j) (hx : x < v) where
    -- fewer passes than ports, where x has no mark: as many passes as ports reach it
    pub more : T (at (reached_by v ends ok free x y v) x) → j < get_or far x 0 → j < v
    more t h = go (dec_lt j v)
      where
        go : Dec (j < v) → j < v
        go (yes l) = l
        go (no l) =
            let e : j ≡ v = omega (arith, m.most) in
            let o : at (within far j) x ≡ false = out_within far j x (omega (arith, m.size)) h in
            absurd (subst T (ap (λ (s : List Bool). at s x) (ap (reached_by v ends ok free x y) (sym e) ∙ sym m.stage) ∙ o) t)

    -- what the list of sets is where x has its mark
    pub end : get_or far x 0 ≤ j → below far j ≡ sets v ends ok free x y
    unfolding layers
    end h =
        sym (ap (λ (n : ℕ). layers ends (in_play ok) (free_or free x) x n (within far j) (below far j)) fuel
        ∙ rw (in_within far j x (omega (arith, m.size)) h) refl)
        ∙ m.rest
      where
        fuel : suc v - j ≡ suc (v - j)
        fuel = omega (arith, m.most)

    module _ (far' : List ℕ) (p : Passed ends ok free x j far far') (h : j < get_or far x 0) (l : j < v) (small : v < missing) where
      -- from j + 1 on every set has grown by one step
      larger_at : (i : ℕ) → j < i → i < missing → within far' i ≡ larger ends (in_play ok) (free_or free x) (within far j)
      larger_at i a b =
          p.grown i a b
          ∙ ap (grow ends (in_play ok) (free_or free x) (within far j) (from 0 (length ends))) (m.none i (omega arith) b)

      went : layers ends (in_play ok) (free_or free x) x (suc v - j) (within far j) (below far j)
          ≡ layers ends (in_play ok) (free_or free x) x (suc v - suc j) (larger ends (in_play ok) (free_or free x) (within far j)) (within far j ∷ below far j)
      unfolding layers
      went =
          ap (λ (n : ℕ). layers ends (in_play ok) (free_or free x) x n (within far j) (below far j)) fuel
          ∙ rw (out_within far j x (omega (arith, m.size)) h) refl
        where
          fuel : suc v - j ≡ suc (suc v - suc j)
          fuel = omega arith

      kept : below far' (suc j) ≡ within far j ∷ below far j
      unfolding below
      kept = below_same far far' (suc j) (λ i b. p.kept i (omega arith))

      next : Measuring v ends ok free x y far' (suc j)
      next = record {
        size = p.size ∙ m.size;
        most = omega arith;
        none = λ i a b. larger_at i (omega arith) b ∙ sym (larger_at (suc j) (omega arith) (omega arith));
        stage =
            larger_at (suc j) (omega arith) (omega arith)
            ∙ ap (larger ends (in_play ok) (free_or free x)) m.stage
            ∙ sym (iter_last (larger ends (in_play ok) (free_or free x)) j (only v y));
        rest =
            ap (λ (s : List Bool). layers ends (in_play ok) (free_or free x) x (suc v - suc j) s (below far' (suc j))) (larger_at (suc j) (omega arith) (omega arith))
            ∙ ap (layers ends (in_play ok) (free_or free x) x (suc v - suc j) (larger ends (in_play ok) (free_or free x) (within far j))) kept
            ∙ sym went ∙ m.rest;
      }

      pub step : Measuring v ends ok free x y far' (j + 1)
      step = subst (Measuring v ends ok free x y far') (sym (add-one j)) next
