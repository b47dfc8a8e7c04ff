-- One split of a land (document 01, "Laying", the split): a land that is A from x to y and B from y to x, and a path q from x to y.
-- split_kept, split_made: the path and then B are a land of the new turns, and so are the path reversed and then A. split_others: so is every land that shares no dart with them. split_other: no other turn changes.
-- before_since: a land is what stands before its first dart at a port, and since. count_split: the new lands have the darts of the old one, and the path's both ways.
-- laid_split: the darts that are laid afterwards are those laid before, and the path's both ways.
-- Assumes nothing.
use mathlib.Core.Path.{◌≡◌, refl, ap, ◌∙◌, sym, subst}
use mathlib.Core.Logic.{◌≢◌, ⊎_elim}
use mathlib.Core.Bool.{Bool, cond, true, false}
use mathlib.Core.List.{List, ◌++◌, [], ◌∷◌}
use Prim.Native.Nat.{ℕ, ◌≤◌, ◌+◌}
use native.Mathlib.Nat.{eq-zero-or-pos, not-suc-le-zero}
use native.Mathlib.Omega.{arith}
use lib.Dec.{eqb, T, eqb→eq}
use lib.ListN.{length}
use Rattle.rules.specs.Lists.{any}
use Rattle.rules.specs.Terms.{leaves, reverse, there, laid, next, listed, visits}
use Rattle.rules.specs.Laying.{back, first, last, before, since, link, split_turns}
use Rattle.laws.proofs.Tests.{eqb_no}
use Rattle.laws.proofs.Counts.{flag, flag_T, is, is_not, is_cases, count, count_append, Distinct, distinct_of}
use Rattle.laws.proofs.Lists.{any_T, T_any}
use Rattle.laws.proofs.Runs.{reverse_reverse, count_back, Run, Land, run_append, run_keep, count_listed, last_in_lem, count_last, run_end}
use Rattle.laws.proofs.Links.{Inside, inside_as, inside_last, AllThere, length_link, link_other, link_run, laid_link, laid_link_other}

-- ---- the stretches of a land

pub before_since : (ps : List ℕ) (p : ℕ) (l : List ℕ) → before ps p l ++ since ps p l ≡ l
unfolding before since
before_since ps p [] = refl
before_since ps p (d ∷ l) = go (eqb (leaves ps d) p) (before_since ps p l)
  where
    go : (b : Bool) → before ps p l ++ since ps p l ≡ l → cond b [] (d ∷ before ps p l) ++ cond b (d ∷ l) (since ps p l) ≡ d ∷ l
    go true e = refl
    go false e = ap (λ (m : List ℕ). d ∷ m) e

pub since_head : (ps : List ℕ) (p : ℕ) (l : List ℕ) → T (visits ps l p) → (d : ℕ) × ((r : List ℕ) × (since ps p l ≡ d ∷ r) × (leaves ps d ≡ p))
unfolding since visits any
since_head ps p [] t = absurd t
since_head ps p (d ∷ l) t = go (eqb (leaves ps d) p) refl (λ h. since_head ps p l h)
  where
    go : (b : Bool) → eqb (leaves ps d) p ≡ b → (T (visits ps l p) → (e : ℕ) × ((r : List ℕ) × (since ps p l ≡ e ∷ r) × (leaves ps e ≡ p)))
        → (e : ℕ) × ((r : List ℕ) × (since ps p (d ∷ l) ≡ e ∷ r) × (leaves ps e ≡ p))
    go true e k = (d, (l, rw e, eqb→eq (leaves ps d) p (rw e tt)))
    go false e k = let r = k (rw e at t) in (r.0, (r.1.0, rw e r.1.1, r.1.2))

pub before_head : (ps : List ℕ) (p d : ℕ) (l : List ℕ) → leaves ps d ≢ p → before ps p (d ∷ l) ≡ d ∷ before ps p l
unfolding before
before_head ps p d l h = rw (eqb_no (leaves ps d) p h)

-- what is visited is visited by whatever has the same darts
pub visits_same : (ps : List ℕ) (p : ℕ) (l m : List ℕ) → ((z : ℕ) → count z l ≡ count z m) → T (visits ps l p) → T (visits ps m p)
unfolding visits
visits_same ps p l m e t =
    let r = any_T (λ d. eqb (leaves ps d) p) l t in
    T_any (λ d. eqb (leaves ps d) p) m r.0 (omega (arith, e r.0, r.1)) r.2

-- ---- the two lands

-- a stretch d ∷ a, closed by the run m from its last dart to its first, is a land
pub land_closes : (t u m : List ℕ) (d : ℕ) (a : List ℕ) (e : ℕ)
    → ((z : ℕ) → 1 ≤ count z (d ∷ a) → z ≢ last (d ∷ a) → next u z ≡ next t z)
    → Distinct (d ∷ a) → Run t d a e → Run u (last (d ∷ a)) m d → Land u (m ++ d ∷ a)
land_closes t u [] d a e same u' h k = run_end t u d a e d same k u' h
land_closes t u (r ∷ m) d a e same u' h k = run_append u r m d a r k.1 (run_end t u d a e r same k.0 u' h)

module _ (t : List ℕ) (x : ℕ) (a : List ℕ) (y : ℕ) (b q : List ℕ)
    (once : (z : ℕ) → count z (x ∷ a) + count z (y ∷ b) + (count z q + count z (back q)) ≤ 1)
    (in_a : Inside t (x ∷ a)) (in_b : Inside t (y ∷ b)) (in_q : Inside t q) (in_r : Inside t (back q)) where
  -- only the turns of the reverses of A's last dart, of B's and of the path's darts change
  pub split_other : (z : ℕ) → z ≢ last (x ∷ a) → z ≢ last (y ∷ b) → count z q + count z (back q) ≡ 0 → next (split_turns (x ∷ a) (y ∷ b) q t) z ≡ next t z
  unfolding split_turns count first
  split_other z na nb h =
      link_other (last (y ∷ b)) q y (link (last (x ∷ a)) (back q) x t) z (omega (arith, is_not z (last (y ∷ b)) nb))
      ∙ link_other (last (x ∷ a)) (back q) x t z (omega (arith, is_not z (last (x ∷ a)) na))

  -- the path, then B
  pub split_kept : Run t y b x → Land (split_turns (x ∷ a) (y ∷ b) q t) (q ++ y ∷ b)
  unfolding split_turns count first
  split_kept h =
      land_closes t (split_turns (x ∷ a) (y ∷ b) q t) q y b x
      (λ z i n. split_other z (λ e. omega (arith, once z, last_in_lem x a, ap (λ (w : ℕ). count w (x ∷ a)) e)) n (omega (arith, once z)))
      (distinct_of (y ∷ b) (λ z. omega (arith, once z)))
      h
      (link_run (last (y ∷ b)) q y (link (last (x ∷ a)) (back q) x t) (
      inside_as t (link (last (x ∷ a)) (back q) x t) (length_link (last (x ∷ a)) (back q) x t) (last (y ∷ b) ∷ q) (inside_last t y b in_b, in_q)
      ) (omega (arith, once (last (y ∷ b)), last_in_lem y b), distinct_of q (λ z. omega (arith, once z))))

  -- the path reversed, then A
  pub split_made : Run t x a y → Land (split_turns (x ∷ a) (y ∷ b) q t) (back q ++ x ∷ a)
  unfolding split_turns count first
  split_made h =
      land_closes t (split_turns (x ∷ a) (y ∷ b) q t) (back q) x a y
      (λ z i n. split_other z n (λ e. omega (arith, once z, last_in_lem y b, ap (λ (w : ℕ). count w (y ∷ b)) e)) (omega (arith, once z)))
      (distinct_of (x ∷ a) (λ z. omega (arith, once z)))
      h
      (run_keep (link (last (x ∷ a)) (back q) x t) (split_turns (x ∷ a) (y ∷ b) q t) (last (x ∷ a)) (back q) x
      (λ z i. link_other (last (y ∷ b)) q y (link (last (x ∷ a)) (back q) x t) z (omega (arith, once z, count_last z x a, count_last z y b)))
      (link_run (last (x ∷ a)) (back q) x t (inside_last t x a in_a, in_r) (omega (arith, once (last (x ∷ a)), last_in_lem x a), distinct_of (back q) (λ z. omega (arith, once z)))))

  -- a land that has none of these darts
  pub split_others : (d : ℕ) (l : List ℕ) → ((z : ℕ) → 1 ≤ count z (d ∷ l) → count z (x ∷ a) + count z (y ∷ b) + (count z q + count z (back q)) ≡ 0)
      → Land t (d ∷ l) → Land (split_turns (x ∷ a) (y ∷ b) q t) (d ∷ l)
  split_others d l far h =
      run_keep t (split_turns (x ∷ a) (y ∷ b) q t) d l d (λ z k. split_other z (λ e. omega (arith, far z k, last_in_lem x a, ap (λ (w : ℕ). count w (x ∷ a)) e)) (λ e. omega (arith, far z k, last_in_lem y b, ap (λ (w : ℕ). count w (y ∷ b)) e)) (omega (arith, far z k))) h

pub count_split : (z : ℕ) (a b q : List ℕ)
    → count z (listed (q ++ b)) + count z (listed (back q ++ a)) ≡ count z (a ++ b) + (count z q + count z (back q))
count_split z a b q =
    omega (arith, count_listed z (q ++ b), count_listed z (back q ++ a), count_append z q b, count_append z (back q) a, count_append z a b)

pub length_split : (a b q t : List ℕ) → length (split_turns a b q t) ≡ length t
unfolding split_turns
length_split a b q t = length_link _ q _ _ ∙ length_link _ (back q) _ t

-- ---- the darts that a split lays

module _ (t : List ℕ) (x : ℕ) (a : List ℕ) (y : ℕ) (b q : List ℕ)
    (in_a : Inside t (last (x ∷ a) ∷ back q)) (in_b : Inside t (last (y ∷ b) ∷ q))
    (thA : AllThere (back q)) (thB : AllThere q) (thx : T (there x)) (thy : T (there y))
    (pair : (z : ℕ) → laid t (reverse z) ≡ laid t z)
    (lastA : T (laid t (last (x ∷ a)))) (lastB : T (laid t (last (y ∷ b))))
    (new : (z : ℕ) → 1 ≤ count z q + count z (back q) → laid t z ≡ false)
    (one : (z : ℕ) → count z q + count z (back q) ≤ 1) where
  -- the length does not change under a link
  before_last : Inside (link (last (x ∷ a)) (back q) x t) (last (y ∷ b) ∷ q)
  before_last = inside_as t (link (last (x ∷ a)) (back q) x t) (length_link (last (x ∷ a)) (back q) x t) (last (y ∷ b) ∷ q) in_b

  -- a dart that is laid already or is the path's is laid once
  laid_once : (z : ℕ) → (count z q + count z (back q) ≡ 0 → T (laid t z)) → flag (laid t z) + (count z q + count z (back q)) ≡ 1
  laid_once z h =
      ⊎_elim (λ e. omega (arith, flag_T (laid t z) (h e))) (λ p. omega (arith, one z, ap flag (new z p))) (eq-zero-or-pos (count z q + count z (back q)))

  -- the reverse of a dart of the path is the path's, too
  swap : (z : ℕ) → (count (reverse z) q ≡ count z (back q)) × (count (reverse z) (back q) ≡ count z q)
  swap z = (sym (count_back z q), count_back (reverse z) q ∙ ap (λ (w : ℕ). count w q) (reverse_reverse z))

  -- so is the reverse of a laid dart
  end_laid : (d z : ℕ) → T (laid t d) → 1 ≤ is (reverse z) d → T (laid t z)
  end_laid d z h p = ⊎_elim (λ k. subst (λ (c : Bool). T c) (ap (laid t) (sym k) ∙ pair z) h) (λ n. absurd (not-suc-le-zero {n = 0} (omega arith))) (is_cases (reverse z) d)

  pub laid_split : (z : ℕ) → flag (laid (split_turns (x ∷ a) (y ∷ b) q t) z) ≡ flag (laid t z) + (count z q + count z (back q))
  unfolding split_turns first count
  laid_split z =
      ⊎_elim
      (λ e.
      ⊎_elim
      (λ f.
      ap flag (laid_link_other (last (y ∷ b)) q y (link (last (x ∷ a)) (back q) x t) z e ∙ laid_link_other (last (x ∷ a)) (back q) x t z f)
      ∙ omega (arith, (swap z).0, (swap z).1))
      (λ p.
      ap flag (laid_link_other (last (y ∷ b)) q y (link (last (x ∷ a)) (back q) x t) z e)
      ∙ flag_T (laid (link (last (x ∷ a)) (back q) x t) z) (laid_link (last (x ∷ a)) (back q) x t z in_a thA thx p)
      ∙ sym (laid_once z (λ n. end_laid (last (x ∷ a)) z lastA (omega (arith, (swap z).1)))))
      (eq-zero-or-pos (count (reverse z) (last (x ∷ a) ∷ back q))))
      (λ p.
      flag_T (laid (link (last (y ∷ b)) q y (link (last (x ∷ a)) (back q) x t)) z)
      (laid_link (last (y ∷ b)) q y (link (last (x ∷ a)) (back q) x t) z before_last thB thy p)
      ∙ sym (laid_once z (λ n. end_laid (last (y ∷ b)) z lastB (omega (arith, (swap z).0)))))
      (eq-zero-or-pos (count (reverse z) (last (y ∷ b) ∷ q)))
