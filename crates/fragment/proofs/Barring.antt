-- The two numbers of a channel, before and after its fragment is weighed.
-- passed_as, passed_none: numbers that are the same; zeros, which tell nothing. bars_places: the numbers have their places. moved_stored: they are told anew. bars_none: where nothing is known.
-- Assumes nothing.
use mathlib.Core.Path.{◌≡◌, sym, ◌∙◌, subst}
use mathlib.Core.Bool.{Bool, true}
use mathlib.Core.List.{List}
use Prim.Native.Nat.{ℕ, ◌+◌, ◌*◌, ◌<◌}
use native.Mathlib.Nat.{not-suc-le-zero}
use native.Mathlib.Omega.{arith}
use lib.ListN.{length, get_or, set, replicate, length-set, length-replicate}
use lib.Seq.{get_or-set_same, get_or-set_other}
use Rattle.rules.specs.Lists.{at}
use Rattle.laws.proofs.Sets.{at_lt}
use Rattle.laws.proofs.Lists.{replicate_at}
use Rattle.reach.specs.Floods.{Sized}
use Rattle.fragment.specs.Bars.{Bars, Passed, Moved}

module _ (ends cs : List ℕ) (ls : List (List ℕ)) where
  pub passed_as : (a b a' b' : ℕ) → a' ≡ a → b' ≡ b → Passed ends cs ls a b → Passed ends cs ls a' b'
  passed_as a b a' b' e f p = subst (λ (x : ℕ). Passed ends cs ls x b') (sym e) (subst (Passed ends cs ls a) (sym f) p)

  pub passed_none : (a b : ℕ) → a ≡ 0 → b ≡ 0 → Passed ends cs ls a b
  passed_none a b e f = record {
    first = omega arith;
    second = omega arith;
    low = λ i h. absurd (not-suc-le-zero {n = 0} (omega arith));
    between = λ i h l. absurd (not-suc-le-zero {n = 0} (omega arith));
  }

module _ (ends cs : List ℕ) (ls : List (List ℕ)) (k : ℕ) (bars : List ℕ) where
  pub moved_stored : (a b : ℕ) → 2 * k + 1 < length bars → Passed ends cs ls a b → Moved ends cs ls k bars (set (set bars (2 * k) a) (2 * k + 1) b)
  moved_stored a b h p =
      let first : get_or (set (set bars (2 * k) a) (2 * k + 1) b) (2 * k) 0 ≡ a = get_or-set_other (set bars (2 * k) a) (2 * k + 1) (2 * k) b 0 (omega arith) ∙ get_or-set_same bars (2 * k) a 0 (omega arith) in
      let second : get_or (set (set bars (2 * k) a) (2 * k + 1) b) (2 * k + 1) 0 ≡ b = get_or-set_same (set bars (2 * k) a) (2 * k + 1) b 0 (omega (arith, length-set bars (2 * k) a)) in
      record {
        long = length-set (set bars (2 * k) a) (2 * k + 1) b ∙ length-set bars (2 * k) a;
        passed = passed_as ends cs ls a b _ _ first second p;
        others = λ j n n'. get_or-set_other (set bars (2 * k) a) (2 * k + 1) j b 0 n' ∙ get_or-set_other bars (2 * k) j a 0 n;
      }

module _ (v : ℕ) (ends : List ℕ) (play : List Bool) (t : List ℕ) (ls : List (List ℕ)) (bars : List ℕ) (B : Bars v ends play t ls bars) (k : ℕ) (on : at play k ≡ true) where
  pub bars_places : Sized v ends play → 2 * k + 1 < length bars
  bars_places s = omega (arith, at_lt play k (rw on tt), s.channels, B.long)

-- ---- where nothing is known

pub bars_none : (v : ℕ) (ends : List ℕ) (play : List Bool) (t : List ℕ) (ls : List (List ℕ)) (n : ℕ) → n ≡ length ends → Bars v ends play t ls (replicate n 0)
bars_none v ends play t ls n e = record {
  long = length-replicate n 0 ∙ e;
  most = λ j. omega (arith, replicate_at {A = ℕ} n j 0);
  told = λ k p. passed_none ends _ ls _ _ (replicate_at {A = ℕ} n (2 * k) 0) (replicate_at {A = ℕ} n (2 * k + 1) 0);
}
