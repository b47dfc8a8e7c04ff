-- The loop of `pass`: the darts before d have joined their ports to the marked ones.
--   joining ends ok free x s d              dart d is usable, enters s, and leaves x or a free port
--   Passing ends ok free x j far₀ far d     of the marks far₀ at the start far is left when the darts before d are done: marks up to j are as they were, and the darts from d on make of the sets above j what all darts make of those at the start
--   grows ends ok free x j far₀ ds r        r with the ports that the darts ds join to those marked j or less at the start
-- start: the loop's beginning. taken, left: a turn, by what the code does with the dart. end: after all darts the marks are those of the pass.
-- Assumes nothing.
use mathlib.Core.Path.{◌≡◌, refl, sym, ap, ◌∙◌}
use mathlib.Core.Bool.{Bool, true, false, cond, ◌&&◌}
use mathlib.Core.List.{List}
use Prim.Native.Nat.{ℕ, suc, ◌+◌, ◌-◌, ◌≤◌, ◌<◌}
use native.Mathlib.Numerals.{add-one}
use native.Mathlib.Omega.{arith}
use lib.ListN.{length, set}
use Rattle.rules.specs.Lists.{from, at}
use Rattle.rules.specs.Terms.{missing, leaves, enters}
use Rattle.rules.specs.Ways.{mark, grow, in_play}
use Rattle.way.specs.Marks.{free_or, lowered, within, Passed}
use Rattle.way.proofs.Within.{length_lowered, lowered_above, lowered_under}

-- dart d joins a port to those within s
abbrev pub joining : List ℕ → List Bool → List Bool → ℕ → List Bool → ℕ → Bool
joining ends ok free x s d = in_play ok d && at s (enters ends d) && free_or free x (leaves ends d)

pub record Passing (ends : List ℕ) (ok free : List Bool) (x j : ℕ) (far₀ far : List ℕ) (d : ℕ) : Type 0 where
  pub most : d ≤ length ends
  pub size : length far ≡ length far₀
  pub kept : (i : ℕ) → i ≤ j → within far i ≡ within far₀ i
  pub rest : (i : ℕ) → j < i → i < missing
      → grow ends (in_play ok) (free_or free x) (within far₀ j) (from d (length ends - d)) (within far i)
      ≡ grow ends (in_play ok) (free_or free x) (within far₀ j) (from 0 (length ends)) (within far₀ i)

module _ (ends : List ℕ) (ok free : List Bool) (x j : ℕ) (far₀ : List ℕ) where
  abbrev grows : List ℕ → List Bool → List Bool
  grows ds r = grow ends (in_play ok) (free_or free x) (within far₀ j) ds r

  pub start : Passing ends ok free x j far₀ far₀ 0
  start = record {
    most = omega arith;
    size = refl;
    kept = λ i h. refl;
    rest = λ i a b. ap (λ (n : ℕ). grows (from 0 n) (within far₀ i)) (omega arith);
  }

  -- one more dart, whatever it does to the marks
  next : (far far' : List ℕ) (d : ℕ) → Passing ends ok free x j far₀ far d → d < length ends → length far' ≡ length far
      → ((i : ℕ) → i ≤ j → within far' i ≡ within far i)
      → ((i : ℕ) → j < i → within far' i ≡ mark ends (in_play ok) (free_or free x) (within far₀ j) d (within far i))
      → Passing ends ok free x j far₀ far' (d + 1)
  unfolding from grow
  next far far' d g h e u a = record {
    most = omega arith;
    size = e ∙ g.size;
    kept = λ i k. u i k ∙ g.kept i k;
    rest = λ i k b.
        ap (λ (q : ℕ). grows (from q (length ends - (d + 1))) (within far' i)) (add-one d)
        ∙ ap (grows (from (suc d) (length ends - (d + 1)))) (a i k)
        ∙ ap (λ (n : ℕ). grows (from d n) (within far i)) (sym fuel)
        ∙ g.rest i k b;
  }
    where
      fuel : length ends - d ≡ suc (length ends - (d + 1))
      fuel = omega arith

  -- what `mark` makes of a set, by the test that the code makes
  marks : (far : List ℕ) (d i : ℕ) (b : Bool) → Passing ends ok free x j far₀ far d → b ≡ joining ends ok free x (within far j) d
      → mark ends (in_play ok) (free_or free x) (within far₀ j) d (within far i) ≡ cond b (set (within far i) (leaves ends d) true) (within far i)
  unfolding mark
  marks far d i b g e =
      ap (λ (t : Bool). cond t (set (within far i) (leaves ends d) true) (within far i))
      (ap (λ (s : List Bool). joining ends ok free x s d) (sym (g.kept j (omega arith))) ∙ sym e)

  pub taken : (far : List ℕ) (d : ℕ) (b : Bool) → Passing ends ok free x j far₀ far d → d < length ends → leaves ends d < length far
      → b ≡ joining ends ok free x (within far j) d → b ≡ true → (far' : List ℕ) → far' ≡ lowered far (leaves ends d) (j + 1)
      → Passing ends ok free x j far₀ far' (d + 1)
  taken far d b g h k e t far' q =
      rw q (next far (lowered far (leaves ends d) (j + 1)) d g h (length_lowered far (leaves ends d) (j + 1))
      (λ i a. lowered_under far (leaves ends d) (j + 1) i (omega arith))
      (λ i a. lowered_above far (leaves ends d) (j + 1) i k (omega arith)
      ∙ sym (marks far d i b g e ∙ ap (λ (c : Bool). cond c (set (within far i) (leaves ends d) true) (within far i)) t)))

  pub left : (far : List ℕ) (d : ℕ) (b : Bool) → Passing ends ok free x j far₀ far d → d < length ends
      → b ≡ joining ends ok free x (within far j) d → b ≡ false → (far' : List ℕ) → far' ≡ far
      → Passing ends ok free x j far₀ far' (d + 1)
  left far d b g h e t far' q =
      rw q (next far far d g h refl (λ i a. refl)
      (λ i a. sym (marks far d i b g e ∙ ap (λ (c : Bool). cond c (set (within far i) (leaves ends d) true) (within far i)) t)))

  pub end : (far : List ℕ) (d : ℕ) → Passing ends ok free x j far₀ far d → length ends ≤ d → Passed ends ok free x j far₀ far
  unfolding from grow
  end far d g h = record {
    size = g.size;
    kept = g.kept;
    grown = λ i a b. ap (λ (n : ℕ). grows (from d n) (within far i)) (sym none) ∙ g.rest i a b;
  }
    where
      none : length ends - d ≡ 0
      none = omega arith
