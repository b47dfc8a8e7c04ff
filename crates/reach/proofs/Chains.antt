-- The neighbours of a port, read off the two tables: from the first dart that leaves it, each leads to the next, and they are the darts of the port, rising.
--   chain ends p d      the darts from d on that leave port p
-- first_at, more_at: what the tables have. chain_first, chain_more, chain_none: the whole chain begins at the port's first dart, goes on at each dart's next and ends where there is none.
-- first_leaves, more_leaves, more_up: these darts leave the port, and rise.
-- Assumes nothing.
use mathlib.Core.Path.{◌≡◌, refl, sym, ap, ◌∙◌}
use mathlib.Core.Bool.{Bool, true, false, cond}
use mathlib.Core.List.{List, [], ◌∷◌}
use Prim.Native.Nat.{ℕ, zero, suc, ◌+◌, ◌-◌, ◌≤◌, ◌<◌}
use native.Mathlib.Nat.{zero-add}
use native.Mathlib.Omega.{arith}
use lib.Dec.{eqb, eqb→eq}
use lib.ListN.{length, get_or}
use Rattle.rules.specs.Lists.{from, keep, seek}
use Rattle.rules.specs.Terms.{leaves, darts_at}
use Rattle.laws.proofs.Tests.{eqb_yes}
use Rattle.laws.proofs.Lists.{seek_ge, seek_found}
use Rattle.reach.specs.Neighbours.{first_dart, more_dart, first_darts, more_darts}
use Rattle.laws.proofs.Seeking.{length_map_from, get_or_map_from}

-- ---- what the tables have

pub first_at : (v : ℕ) (ends : List ℕ) (p : ℕ) → p < v → get_or (first_darts v ends) p 0 ≡ first_dart ends p
unfolding first_darts
first_at v ends p h = get_or_map_from (first_dart ends) 0 v p 0 h ∙ ap (first_dart ends) (zero-add p)

pub length_first_darts : (v : ℕ) (ends : List ℕ) → length (first_darts v ends) ≡ v
unfolding first_darts
length_first_darts v ends = length_map_from (first_dart ends) 0 v

pub more_at : (ends : List ℕ) (d : ℕ) → d < length ends → get_or (more_darts ends) d 0 ≡ more_dart ends d
unfolding more_darts
more_at ends d h = get_or_map_from (more_dart ends) 0 (length ends) d 0 h ∙ ap (more_dart ends) (zero-add d)

pub length_more_darts : (ends : List ℕ) → length (more_darts ends) ≡ length ends
unfolding more_darts
length_more_darts ends = length_map_from (more_dart ends) 0 (length ends)

-- ---- these darts leave the port, and rise

pub first_leaves : (ends : List ℕ) (p : ℕ) → first_dart ends p < length ends → leaves ends (first_dart ends p) ≡ p
unfolding first_dart
first_leaves ends p h = eqb→eq (leaves ends (first_dart ends p)) p (seek_found (λ d. eqb (leaves ends d) p) 0 (length ends) (omega arith))

pub more_leaves : (ends : List ℕ) (d : ℕ) → d < length ends → more_dart ends d < length ends → leaves ends (more_dart ends d) ≡ leaves ends d
unfolding more_dart
more_leaves ends d b h =
    eqb→eq (leaves ends (more_dart ends d)) (leaves ends d) (seek_found (λ e. eqb (leaves ends e) (leaves ends d)) (suc d) (length ends - suc d) (omega arith))

pub more_up : (ends : List ℕ) (d : ℕ) → d < more_dart ends d
unfolding more_dart
more_up ends d = seek_ge (λ e. eqb (leaves ends e) (leaves ends d)) (suc d) (length ends - suc d)

-- ---- the chain of a port

-- what passes from i on is what passes from the first that passes
keep_skip : (f : ℕ → Bool) (i n : ℕ) → keep f (from i n) ≡ keep f (from (seek f i n) (i + n - seek f i n))
unfolding keep from seek
keep_skip f i zero = ap (λ (k : ℕ). keep f (from i k)) none
  where
    none : 0 ≡ i + 0 - i
    none = omega arith
keep_skip f i (suc n) = go (f i) refl (keep_skip f (suc i) n)
  where
    all : suc n ≡ i + suc n - i
    all = omega arith

    go : (b : Bool) → f i ≡ b → keep f (from (suc i) n) ≡ keep f (from (seek f (suc i) n) (suc i + n - seek f (suc i) n))
        → keep f (from i (suc n)) ≡ keep f (from (cond b i (seek f (suc i) n)) (i + suc n - cond b i (seek f (suc i) n)))
    go true e h = ap (λ (k : ℕ). keep f (from i k)) all
    go false e h = rw e (h ∙ ap (λ (k : ℕ). keep f (from (seek f (suc i) n) (k - seek f (suc i) n))) (omega arith))

abbrev pub chain : List ℕ → ℕ → ℕ → List ℕ
chain ends p d = keep (λ e. eqb (leaves ends e) p) (from d (length ends - d))

pub chain_none : (ends : List ℕ) (p d : ℕ) → length ends ≤ d → chain ends p d ≡ []
unfolding keep from
chain_none ends p d h = ap (λ (k : ℕ). keep (λ e. eqb (leaves ends e) p) (from d k)) none
  where
    none : length ends - d ≡ 0
    none = omega arith

pub chain_first : (ends : List ℕ) (p : ℕ) → darts_at ends p ≡ chain ends p (first_dart ends p)
unfolding darts_at first_dart
chain_first ends p =
    keep_skip (λ e. eqb (leaves ends e) p) 0 (length ends) ∙ ap (λ (k : ℕ). keep (λ e. eqb (leaves ends e) p) (from (first_dart ends p) (k - first_dart ends p))) (zero-add (length ends))

pub chain_more : (ends : List ℕ) (p d : ℕ) → d < length ends → leaves ends d ≡ p → chain ends p d ≡ d ∷ chain ends p (more_dart ends d)
unfolding keep from more_dart
chain_more ends p d h e =
    ap (λ (k : ℕ). keep test (from d k)) fuel
    ∙ rw (eqb_yes (leaves ends d) p e) (ap (λ (l : List ℕ). d ∷ l)
    (keep_skip test (suc d) (length ends - suc d) ∙ ap (λ (k : ℕ). keep test (from (seek test (suc d) (length ends - suc d)) (k - seek test (suc d) (length ends - suc d)))) up
    ∙ ap (λ (q : ℕ). chain ends p (seek (λ k. eqb (leaves ends k) q) (suc d) (length ends - suc d))) (sym e)))
  where
    test : ℕ → Bool
    test k = eqb (leaves ends k) p

    fuel : length ends - d ≡ suc (length ends - suc d)
    fuel = omega arith

    up : suc d + (length ends - suc d) ≡ length ends
    up = omega arith
