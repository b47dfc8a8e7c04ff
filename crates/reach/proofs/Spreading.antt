-- The loop of `spread`.
--   Spread ends play p m₀ q₀ n₀ m q n d      of the darts of port p those from d on are left to be met: the rest from here comes to what the whole comes to from the start
-- first_read, more_read: what the code reads in the tables. start, step, end: the invariant at the beginning, after one dart, and what it comes to.
-- Assumes nothing.
use mathlib.Core.Path.{◌≡◌, refl, sym, ap, ◌∙◌}
use mathlib.Core.Bool.{Bool}
use mathlib.Core.List.{List}
use Prim.Native.Nat.{ℕ, ◌≤◌, ◌<◌}
use native.Mathlib.Omega.{arith}
use lib.ListN.{length, get_or}
use Rattle.rules.specs.Terms.{leaves, enters, darts_at}
use Rattle.reach.specs.Neighbours.{first_dart, more_dart}
use Rattle.reach.specs.Floods.{Tables}
use Rattle.reach.specs.Meets.{Met, met_in, meet, meet_all, Room, Held}
use Rattle.reach.proofs.Chains.{chain, chain_none, chain_first, chain_more, first_at, first_leaves, length_first_darts, more_at, more_leaves, length_more_darts}
use Rattle.reach.proofs.Meeting.{Gains, meet_gains, held_trans, room_on}

-- ---- reads of the tables

module _ (v : ℕ) (ends first more : List ℕ) (t : Tables v ends first more) where
  pub first_long : length first ≡ v
  first_long = ap length t.firsts ∙ length_first_darts v ends

  pub first_read : (p : ℕ) → p < v → get_or first p 0 ≡ first_dart ends p
  first_read p h = ap (λ (l : List ℕ). get_or l p 0) t.firsts ∙ first_at v ends p h

  pub more_long : length more ≡ length ends
  more_long = ap length t.mores ∙ length_more_darts ends

  pub more_read : (d : ℕ) → d < length ends → get_or more d 0 ≡ more_dart ends d
  more_read d h = ap (λ (l : List ℕ). get_or l d 0) t.mores ∙ more_at ends d h

-- ---- the loop

pub record Spread (ends : List ℕ) (play : List Bool) (p : ℕ) (m₀ : List Bool) (q₀ : List ℕ) (n₀ : ℕ) (m : List Bool) (q : List ℕ) (n d : ℕ) : Type 0 where
  pub rest : meet_all ends play (chain ends p d) (met_in m q n) ≡ meet_all ends play (darts_at ends p) (met_in m₀ q₀ n₀)
  pub held : Held (met_in m q n) q₀ n₀ m q n
  pub room : Room m q n
  pub long : length m ≡ length m₀
  -- the dart at hand leaves the port
  pub here : d < length ends → leaves ends d ≡ p

module _ (ends : List ℕ) (play : List Bool) (p : ℕ) (m₀ : List Bool) (q₀ : List ℕ) (n₀ : ℕ) where
  pub start : (d : ℕ) → Room m₀ q₀ n₀ → d ≡ first_dart ends p → Spread ends play p m₀ q₀ n₀ m₀ q₀ n₀ d
  start d r e = rw e (record {
    rest = ap (λ (l : List ℕ). meet_all ends play l (met_in m₀ q₀ n₀)) (sym (chain_first ends p));
    held = record { state = refl; least = omega arith; most = r.most; rest = refl; size = refl };
    room = r;
    long = refl;
    here = first_leaves ends p;
  })

  pub step : (m : List Bool) (q : List ℕ) (n d : ℕ) → Spread ends play p m₀ q₀ n₀ m q n d → d < length ends → enters ends d < length m₀
      → (m' : List Bool) (q' : List ℕ) (n' d' : ℕ) → Held (meet ends play d (met_in m q n)) q n m' q' n' → d' ≡ more_dart ends d → Spread ends play p m₀ q₀ n₀ m' q' n' d'
  unfolding meet_all
  step m q n d s b i m' q' n' d' h e = rw e (record {
    rest =
        ap (λ (t : Met). meet_all ends play (chain ends p (more_dart ends d)) t) h.state
        ∙ ap (λ (l : List ℕ). meet_all ends play l (met_in m q n)) (sym (chain_more ends p d b (s.here b)))
        ∙ s.rest;
    held = held_trans (met_in m q n) (met_in m' q' n') q₀ n₀ m q n m' q' n' s.held (record { state = refl; least = h.least; most = h.most; rest = h.rest; size = h.size });
    room = room_on (meet ends play d (met_in m q n)) m q n m' q' n' s.room gains h;
    long = ap (λ (t : Met). length t.marks) h.state ∙ gains.long ∙ s.long;
    here = λ k. more_leaves ends d b k ∙ s.here b;
  })
    where
      gains : Gains (met_in m q n) (meet ends play d (met_in m q n))
      gains = meet_gains ends play d (met_in m q n) (omega (arith, s.long))

  pub end : (m : List Bool) (q : List ℕ) (n d : ℕ) → Spread ends play p m₀ q₀ n₀ m q n d → length ends ≤ d
      → Held (meet_all ends play (darts_at ends p) (met_in m₀ q₀ n₀)) q₀ n₀ m q n
  unfolding meet_all
  end m q n d s b = record {
    state = ap (λ (l : List ℕ). meet_all ends play l (met_in m q n)) (sym (chain_none ends p d b)) ∙ s.rest;
    least = s.held.least;
    most = s.held.most;
    rest = s.held.rest;
    size = s.held.size;
  }
