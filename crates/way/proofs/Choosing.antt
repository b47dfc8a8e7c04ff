-- The nearest dart of a port: only the darts that leave the port count, so that the search through all darts may follow the chain of the port's own.
--   Choosing ends ok p s d b     d is on the chain of p, and b is the best of its darts before d, if any is: the rest of the chain makes of b what all darts make of none
--   better ends ok s d b         of dart d and the best dart b so far, the one to take at the port that d leaves
--   led ends ok s d b t          t says whether dart d is usable and enters s
-- dart_some, dart_same, number_same: a dart is read off its number, and the number off the dart. dart_found: what is a dart is found.
-- nearest_keep: the nearest of all darts is the nearest of those that leave p. start, step, end: the beginning of the loop of `nearest`, a turn, and its end.
-- not_led, first_found, smaller, no_smaller: the better of two darts, by the tests that the code of `closer` makes.
-- Assumes nothing.
use mathlib.Core.Path.{◌≡◌, refl, sym, ap, ◌∙◌, subst}
use mathlib.Core.Logic.{◌≢◌}
use mathlib.Core.Bool.{Bool, true, false, not, cond, ◌&&◌, ◌||◌}
use mathlib.Core.List.{List, [], ◌∷◌}
use Prim.Native.Nat.{ℕ, ◌≤◌, ◌<◌}
use native.Mathlib.Nat.{not-suc-le-zero}
use native.Mathlib.Omega.{arith}
use borrow.Author.Tests.{eq-eqb, ne_eqb, eqb-true, lt-ltb, le-ltb}
use lib.Dec.{T, eqb, ltb}
use lib.ListN.{length}
use Rattle.std.specs.Option.{IfSome, IsSome}
use Rattle.std.specs.declared.option.Option.{Option}
use Rattle.std.specs.declared.option.Option.TheVariants.{Some, None}
use Rattle.rules.specs.Lists.{from, keep, at}
use Rattle.rules.specs.Terms.{missing, there, leaves, enters, darts_at}
use Rattle.rules.specs.Ways.{leads, closer, nearest}
use Rattle.laws.proofs.Tests.{cond_cases, and_T, neqb_ne, and_true}
use Rattle.laws.proofs.Paths.{leads_T}
use Rattle.way.specs.Marks.{number_of, dart_of}
use Rattle.reach.specs.Neighbours.{first_dart, more_dart}
use Rattle.reach.proofs.Chains.{chain, chain_none, chain_first, chain_more, first_leaves, more_leaves}

-- ---- a dart, or none

pub dart_some : (d : ℕ) → d < missing → dart_of d ≡ Some d
unfolding there
dart_some d h = rw (ne_eqb d missing (λ e. not-suc-le-zero {n = 0} (omega arith))) refl

pub dart_same : (n : ℕ) (b : Option ℕ) → n < missing → IfSome b (λ e. e < n) → b ≡ dart_of (number_of b)
unfolding there
dart_same n None h k = refl
dart_same n (Some d) h k = sym (dart_some d (omega arith))

pub number_same : (d : ℕ) → number_of (dart_of d) ≡ d
unfolding there
number_same d = by_test (eqb d missing) refl
  where
    by_test : (t : Bool) → eqb d missing ≡ t → number_of (cond {A = Option ℕ} (not t) (Some d) None) ≡ d
    by_test true e = sym (eqb-true d missing e)
    by_test false e = refl

pub dart_found : (n d : ℕ) (b : Option ℕ) → n < missing → ((e : ℕ) → e ≡ d → e < n) → b ≡ dart_of d → IsSome b
dart_found n d b few inside e = let h : d < n = inside d refl in rw (e ∙ dart_some d (omega arith)) refl

module _ (ends : List ℕ) (ok : ℕ → Bool) (p : ℕ) (s : List Bool) where
  -- a dart that leaves another port is not taken
  closer_other : (d b : ℕ) → T (not (eqb (leaves ends d) p)) → closer ends ok p s d b ≡ b
  unfolding closer
  closer_other d b h =
      cond_cases (λ (r : ℕ). r ≡ b) (leads ends ok p s d && (not (there b) || ltb (enters ends d) (enters ends b)))
      (λ t. absurd (neqb_ne (leaves ends d) p h (leads_T ends ok p s d (and_T (leads ends ok p s d) (not (there b) || ltb (enters ends d) (enters ends b)) t).0).1))
      (λ t. refl)

  -- what is taken is a dart, or there is none
  closer_dart : (d : ℕ) (b : Option ℕ) → d < length ends → length ends < missing → IfSome b (λ e. e < length ends) → IfSome (dart_of (closer ends ok p s d (number_of b))) (λ e. e < length ends)
  unfolding closer
  closer_dart d b h few k =
      cond_cases (λ (r : ℕ). IfSome (dart_of r) (λ e. e < length ends)) (leads ends ok p s d && (not (there (number_of b)) || ltb (enters ends d) (enters ends (number_of b))))
      (λ t. subst (λ (o : Option ℕ). IfSome o (λ e. e < length ends)) (sym (dart_some d (omega arith))) h)
      (λ t. subst (λ (o : Option ℕ). IfSome o (λ e. e < length ends)) (dart_same (length ends) b few k) k)

  -- the nearest of some darts is the nearest of those of them that leave p
  pub nearest_keep : (ds : List ℕ) (b : ℕ) → nearest ends ok p s ds b ≡ nearest ends ok p s (keep (λ d. eqb (leaves ends d) p) ds) b
  unfolding keep nearest
  nearest_keep [] b = refl
  nearest_keep (d ∷ ds) b =
      cond_cases (λ (m : List ℕ). nearest ends ok p s (d ∷ ds) b ≡ nearest ends ok p s m b) (eqb (leaves ends d) p)
      (λ t. nearest_keep ds (closer ends ok p s d b)) (λ t. ap (nearest ends ok p s ds) (closer_other d b t) ∙ nearest_keep ds b)

-- ---- the loop

pub record Choosing (ends : List ℕ) (ok : ℕ → Bool) (p : ℕ) (s : List Bool) (d : ℕ) (b : Option ℕ) : Type 0 where
  pub best : IfSome b (λ e. e < length ends)
  pub here : d < length ends → leaves ends d ≡ p
  pub rest : nearest ends ok p s (chain ends p d) (number_of b) ≡ nearest ends ok p s (from 0 (length ends)) missing

module _ (ends : List ℕ) (ok : ℕ → Bool) (p : ℕ) (s : List Bool) where
  pub start : (d : ℕ) → d ≡ first_dart ends p → Choosing ends ok p s d None
  unfolding darts_at
  start d e = rw e (record {
    best = tt;
    here = first_leaves ends p;
    rest = ap (λ (ds : List ℕ). nearest ends ok p s ds missing) (sym (chain_first ends p)) ∙ sym (nearest_keep ends ok p s (from 0 (length ends)) missing);
  })

  pub step : (d : ℕ) (b : Option ℕ) → Choosing ends ok p s d b → d < length ends → length ends < missing → (d' : ℕ) (b' : Option ℕ) → d' ≡ more_dart ends d → b' ≡ dart_of (closer ends ok (leaves ends d) s d (number_of b))
      → Choosing ends ok p s d' b'
  unfolding nearest
  step d b g h few d' b' e q = rw (e, q ∙ ap (λ (r : ℕ). dart_of (closer ends ok r s d (number_of b))) (g.here h)) (record {
    best = closer_dart ends ok p s d b h few g.best;
    here = λ k. more_leaves ends d h k ∙ g.here h;
    rest =
        ap (nearest ends ok p s (chain ends p (more_dart ends d))) (number_same (closer ends ok p s d (number_of b)))
        ∙ ap (λ (ds : List ℕ). nearest ends ok p s ds (number_of b)) (sym (chain_more ends p d h (g.here h))) ∙ g.rest;
  })

  pub end : (d : ℕ) (b : Option ℕ) → Choosing ends ok p s d b → length ends ≤ d → length ends < missing → b ≡ dart_of (nearest ends ok p s (from 0 (length ends)) missing)
  unfolding nearest
  end d b g h few = dart_same (length ends) b few g.best ∙ ap dart_of (ap (λ (ds : List ℕ). nearest ends ok p s ds (number_of b)) (sym (chain_none ends p d h)) ∙ g.rest)

-- ---- the better of two darts

module _ (ends : List ℕ) (ok : ℕ → Bool) (s : List Bool) (d : ℕ) (b : Option ℕ) (few : length ends < missing) (h : d < length ends) where
  -- of dart d, at the port that it leaves, and b
  abbrev pub better : Option ℕ
  better = dart_of (closer ends ok (leaves ends d) s d (number_of b))

  -- dart d is usable and enters s, or not
  abbrev pub led : Bool → Type 0
  led t = (ok d && at s (enters ends d)) ≡ t

  leads_as : (t : Bool) → led t → leads ends ok (leaves ends d) s d ≡ t
  unfolding leads
  leads_as t e = rw (eq-eqb (leaves ends d) (leaves ends d) refl) (rw (and_true (ok d)) e)

  pub not_led : IfSome b (λ e. e < length ends) → led false → b ≡ better
  unfolding closer
  not_led k e = dart_same (length ends) b few k ∙ ap dart_of (rw (leads_as false e) refl)

  module _ (e : led true) where
    pub first_found : b ≡ None → Some d ≡ better
    unfolding closer there
    first_found m = sym (dart_some d (omega arith)) ∙ ap dart_of (rw (leads_as true e, m) refl)

    module _ (x : ℕ) (m : b ≡ Some x) (k : x < length ends) where
      others : number_of b ≢ missing
      others q = not-suc-le-zero {n = 0} (omega (arith, ap number_of m))

      pub smaller : enters ends d < enters ends x → Some d ≡ better
      unfolding closer there
      smaller l = sym (dart_some d (omega arith)) ∙ ap dart_of (rw (leads_as true e, ne_eqb (number_of b) missing others, ap number_of m, lt-ltb (enters ends d) (enters ends x) l) refl)

      pub no_smaller : enters ends x ≤ enters ends d → Some x ≡ better
      unfolding closer there
      no_smaller l = sym (dart_some x (omega arith)) ∙ ap dart_of (rw (leads_as true e, ne_eqb (number_of b) missing others, ap number_of m, le-ltb (enters ends d) (enters ends x) l) refl)
