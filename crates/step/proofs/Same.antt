-- A path (rules, "Ways") depends on the darts that may be used and on the ports that they leave, and on no others.
--   uses, frees          ok and ok' agree on every dart, free and free' on the port that each dart leaves
-- path_same, iter_same: where they agree, the path and the reached ports agree. own_is: the channels of a fragment, a flag each, are its darts. but_is: so it is with the channels in play without one. free_is: where every port is free.
-- Assumes nothing.
use mathlib.Core.Path.{◌≡◌, refl, sym, ap, ◌∙◌, subst}
use mathlib.Core.Logic.{⊎_elim}
use mathlib.Core.Bool.{Bool, true, false, cond, not, ◌&&◌, ◌||◌}
use mathlib.Core.List.{List, [], ◌∷◌, map}
use Prim.Native.Nat.{ℕ, zero, suc, ◌+◌, ◌*◌, ◌/◌, ◌<◌}
use native.Mathlib.Omega.{arith}
use lib.Dec.{T, eqb}
use lib.ListN.{length, get_or, set, replicate, get_or-replicate}
use lib.Seq.{get_or-set_same, get_or-set_other}
use Rattle.rules.specs.Lists.{from, at}
use Rattle.rules.specs.Terms.{missing, leaves, enters, reverse}
use Rattle.rules.specs.Ways.{only, iter, mark, grow, larger, layers, leads, closer, nearest, descend, path, in_play}
use Rattle.rules.specs.Laying.{Fragment, within}
use Rattle.laws.proofs.Tests.{eqb_yes, eqb_no, same_flag, and_true}
use Rattle.laws.proofs.Counts.{is_cases, is_apart}
use Rattle.laws.proofs.Lists.{All, all_of, from_lt}
use Rattle.laws.proofs.Runs.{reverse_reverse, channel_darts}
use Rattle.laws.proofs.Fragments.{within_reverse}
use Rattle.laws.proofs.Seeking.{get_or_map_from}

-- every one of 0, .., n − 1 is below n
all_from : (n : ℕ) → All (λ d. d < n) (from 0 n)
all_from n = all_of (λ d. d < n) (from 0 n) (λ z h. omega (arith, from_lt z 0 n h))

module _ (ends : List ℕ) (ok ok' : ℕ → Bool) (uses : (d : ℕ) → d < length ends → ok d ≡ ok' d) where
  -- ---- the ports reached

  module _ (free free' : ℕ → Bool) (frees : (d : ℕ) → d < length ends → free (leaves ends d) ≡ free' (leaves ends d)) where
    mark_same : (s : List Bool) (d : ℕ) (r : List Bool) → d < length ends → mark ends ok free s d r ≡ mark ends ok' free' s d r
    unfolding mark
    mark_same s d r h = rw (uses d h, frees d h) refl

    grow_same : (s : List Bool) (ds : List ℕ) (r : List Bool) → All (λ d. d < length ends) ds → grow ends ok free s ds r ≡ grow ends ok' free' s ds r
    unfolding grow
    grow_same s [] r a = refl
    grow_same s (d ∷ ds) r a = ap (grow ends ok free s ds) (mark_same s d r a.0) ∙ grow_same s ds (mark ends ok' free' s d r) a.1

    larger_same : (s : List Bool) → larger ends ok free s ≡ larger ends ok' free' s
    larger_same s = grow_same s (from 0 (length ends)) s (all_from (length ends))

    pub iter_same : (n : ℕ) (s : List Bool) → iter (larger ends ok free) n s ≡ iter (larger ends ok' free') n s
    unfolding iter
    iter_same zero s = refl
    iter_same (suc n) s = ap (iter (larger ends ok free) n) (larger_same s) ∙ iter_same n (larger ends ok' free' s)

    layers_same : (x n : ℕ) (s : List Bool) (ss : List (List Bool)) → layers ends ok free x n s ss ≡ layers ends ok' free' x n s ss
    unfolding layers
    layers_same x zero s ss = refl
    layers_same x (suc n) s ss =
        ap (λ (r : List (List Bool)). cond (at s x) ss r)
        (ap (λ (m : List Bool). layers ends ok free x n m (s ∷ ss)) (larger_same s) ∙ layers_same x n (larger ends ok' free' s) (s ∷ ss))

  -- ---- the descent

  closer_same : (p : ℕ) (s : List Bool) (d b : ℕ) → d < length ends → closer ends ok p s d b ≡ closer ends ok' p s d b
  unfolding closer leads
  closer_same p s d b h = rw (uses d h) refl

  nearest_same : (p : ℕ) (s : List Bool) (ds : List ℕ) (b : ℕ) → All (λ d. d < length ends) ds → nearest ends ok p s ds b ≡ nearest ends ok' p s ds b
  unfolding nearest
  nearest_same p s [] b a = refl
  nearest_same p s (d ∷ ds) b a = ap (nearest ends ok p s ds) (closer_same p s d b a.0) ∙ nearest_same p s ds (closer ends ok' p s d b) a.1

  descend_same : (p : ℕ) (ss : List (List Bool)) → descend ends ok p ss ≡ descend ends ok' p ss
  unfolding descend
  descend_same p [] = refl
  descend_same p (s ∷ ss) =
      ap (λ (d : ℕ). d ∷ descend ends ok (enters ends d) ss) (nearest_same p s (from 0 (length ends)) missing (all_from (length ends)))
      ∙ ap (λ (q : List ℕ). nearest ends ok' p s (from 0 (length ends)) missing ∷ q) (descend_same (enters ends (nearest ends ok' p s (from 0 (length ends)) missing)) ss)

  pub path_same : (free free' : ℕ → Bool) → ((d : ℕ) → d < length ends → free (leaves ends d) ≡ free' (leaves ends d)) → (n x y : ℕ) → path n ends ok free x y ≡ path n ends ok' free' x y
  unfolding path
  path_same free free' frees n x y =
      ap (descend ends ok x)
      (layers_same (λ p. free p || eqb p x) (λ p. free' p || eqb p x) (λ d h. ap (λ (b : Bool). b || eqb (leaves ends d) x) (frees d h)) x (suc n) (only n y) [])
      ∙ descend_same x (layers ends ok' (λ p. free' p || eqb p x) x (suc n) (only n y) [])

-- ---- the flags that the code holds

zero_add : (n : ℕ) → 0 + n ≡ n
zero_add n = omega arith

-- both darts of a channel are a fragment's, or neither
within_even : (v : ℕ) (ends : List ℕ) (play : List Bool) (f : Fragment) (d : ℕ) → within v ends play f (2 * (d / 2)) ≡ within v ends play f d
within_even v ends play f d =
    ⊎_elim (λ e. ap (within v ends play f) (sym e))
    (λ e. same_flag _ _ (λ t. subst (λ (z : ℕ). T (within v ends play f z)) (sym e) (within_reverse v ends play f (2 * (d / 2)) t))
    (λ t. subst (λ (z : ℕ). T (within v ends play f z)) (ap reverse e ∙ reverse_reverse (2 * (d / 2))) (within_reverse v ends play f d t)))
    (channel_darts d (d / 2) refl)

pub own_is : (v : ℕ) (ends : List ℕ) (play : List Bool) (f : Fragment) (own : List Bool) → length ends ≡ 2 * length play
    → own ≡ map (λ j. within v ends play f (2 * j)) (from 0 (length play)) → (d : ℕ) → d < length ends → in_play own d ≡ within v ends play f d
unfolding at
own_is v ends play f own e h d l =
    ap (λ (m : List Bool). get_or m (d / 2) false) h
    ∙ get_or_map_from (λ j. within v ends play f (2 * j)) 0 (length play) (d / 2) false (omega (arith, e))
    ∙ ap (λ (k : ℕ). within v ends play f (2 * k)) (zero_add (d / 2))
    ∙ within_even v ends play f d

and_false : (b : Bool) → b && false ≡ false
and_false true = refl
and_false false = refl

pub but_is : (play : List Bool) (c : ℕ) → c < length play → (d : ℕ) → in_play (set play c false) d ≡ (in_play play d && not (eqb (d / 2) c))
unfolding at
but_is play c l d =
    ⊎_elim
    (λ e. ap (λ (k : ℕ). get_or (set play c false) k false) e ∙ get_or-set_same play c false false l
    ∙ sym (ap (λ (b : Bool). in_play play d && not b) (eqb_yes (d / 2) c e) ∙ and_false (in_play play d)))
    (λ n. get_or-set_other play c (d / 2) false false (is_apart (d / 2) c n)
    ∙ sym (ap (λ (b : Bool). in_play play d && not b) (eqb_no (d / 2) c (is_apart (d / 2) c n)) ∙ and_true (in_play play d)))
    (is_cases (d / 2) c)

pub free_is : (v p : ℕ) → p < v → at (replicate v true) p ≡ true
unfolding at
free_is v p l = get_or-replicate v p true false l

-- every flag set
