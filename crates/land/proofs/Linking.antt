-- Linking, dart by dart.
--   Linked t₀ d e t x q     the turns t lead from d through q to x: linking on from x gives what linking from d through q and on gives
-- path_gives, back_gives, gives_..: the darts that come to `link_each`. linked_step, linked_end: turn and end of its loop. back_snoc: a path walked backwards begins with the reverse of its last dart; back_is: it has the reverses of the darts, the last one's first.
-- Assumes nothing.
use mathlib.Core.Path.{◌≡◌, refl, sym, ap, ◌∙◌, subst}
use mathlib.Core.List.{List, [], ◌∷◌, ◌++◌}
use Prim.Native.Nat.{ℕ, zero, suc, ◌<◌}
use native.Mathlib.Omega.{arith}
use Rattle.std.specs.Prelude.{Option, Some, None, map, reverse as backwards}
use Rattle.std.specs.Iterator.{AlwaysYields, Yields}
use Rattle.std.proofs.lemmas.Iterator.{YieldsList}
use Rattle.std.proofs.lemmas.Iterator.Consumers.{YieldsList-at, YieldsList-turn, YieldsList-end}
use Rattle.std.proofs.lemmas.List.{append-nil, append_assoc, map-append, reverse-append, get_or_default}
use lib.ListN.{length, get_or, set, length-set}
use Rattle.rules.specs.Terms.{reverse}
use Rattle.rules.specs.Laying.{back, link}
use Rattle.land.specs.Walks.{Below, Darts, Gives}
use Rattle.land.proofs.Walking.{reverse_inside}
use Rattle.land.proofs.Laws.{append_below}

-- ---- darts of a path

pub below_at : (n : ℕ) (l : List ℕ) (i : ℕ) → i < length l → Below n l → get_or l i 0 < n
below_at n [] i k h = omega arith
below_at n (d ∷ l) zero k h = h.0
below_at n (d ∷ l) (suc i) k h = below_at n l i (omega arith) h.1

pub back_snoc : (l : List ℕ) (x : ℕ) → back (l ++ (x ∷ [])) ≡ reverse x ∷ back l
unfolding back
back_snoc [] x = refl
back_snoc (d ∷ l) x = ap (λ (m : List ℕ). m ++ (reverse d ∷ [])) (back_snoc l x)

-- ---- the darts that come: those of a path, as they stand in it, and their reverses, the last one's first

path_is : (q : List ℕ) → map (λ x. x) q ≡ q
path_is [] = refl
path_is (d ∷ q) = ap (λ (l : List ℕ). d ∷ l) (path_is q)

back_is : (q : List ℕ) → map reverse (backwards q) ≡ back q
unfolding back
back_is [] = refl
back_is (d ∷ q) =
    ap (map reverse) (reverse-append (d ∷ []) q) ∙ map-append reverse (backwards q) (d ∷ []) ∙ ap (λ (l : List ℕ). l ++ (reverse d ∷ [])) (back_is q)

module _ {S : Type 0} {steps : S → Option ℕ → S → Type 0} {s : S} where
  pub path_gives : (q : List ℕ) → YieldsList steps (λ x. x) s (map (λ x. x) q) → Gives steps s q
  path_gives q h = record { runs = subst (AlwaysYields steps (λ x. x) s) (path_is q) h.runs }

  pub back_gives : (q : List ℕ) → YieldsList steps (λ x. x) s (map reverse (backwards q)) → Gives steps s (back q)
  back_gives q h = record { runs = subst (AlwaysYields steps (λ x. x) s) (back_is q) h.runs }

  -- where the darts u have come and x comes, x is the next of l; where none comes, they are l
  module _ {i : S} {l : List ℕ} (g : Gives steps s l) (e : i ≡ s) (u : List ℕ) (t : S) (y : Yields steps i u t) (r : Option ℕ) (t' : S) where
    yields : YieldsList steps (λ x. x) i l
    yields = YieldsList-at e (record { runs = g.runs })

    pub gives_turn : (x : ℕ) → r ≡ Some x → steps t r t' → (length u < length l) × (x ≡ get_or l (length u) x)
    gives_turn x = YieldsList-turn yields u t y r t' x

    pub gives_end : r ≡ None → steps t r t' → u ≡ l
    gives_end n k = sym (path_is u) ∙ (YieldsList-end yields u t y r t' n k).0

-- they can be walked as those of the path can
pub back_darts : (t : List ℕ) (d : ℕ) (q : List ℕ) → Darts t (d ∷ q) → Darts t (d ∷ back q)
unfolding back
back_darts t d q p = record { even = p.even; few = p.few; inside = (p.inside.0, go q p.inside.1) }
  where
    go : (l : List ℕ) → Below (length t) l → Below (length t) (back l)
    go [] b = tt
    go (x ∷ l) b = append_below (length t) (back l) (reverse x ∷ []) (go l b.1) (reverse_inside (length t) x p.even b.0, tt)

-- a dart that comes is one of the path
pub next_dart : (t : List ℕ) (d y k : ℕ) (q : List ℕ) → Darts t (d ∷ q) → (k < length q) × (y ≡ get_or q k y) → y < length t
next_dart t d y k q p h = rw h.1 (rw (get_or_default q k y 0 h.0) (below_at (length t) q k h.0 p.inside.1))

-- the turns t lead from d through q to x
pub record Linked (t₀ : List ℕ) (d e : ℕ) (t : List ℕ) (x : ℕ) (q : List ℕ) : Type 0 where
  pub size : length t ≡ length t₀
  pub dart : x < length t₀
  pub on : (r : List ℕ) → link x r e t ≡ link d (q ++ r) e t₀

-- one dart more, the next of the darts q
pub linked_step : (t₀ : List ℕ) (d e : ℕ) (t : List ℕ) (x y : ℕ) (u q t' : List ℕ) → Darts t₀ (d ∷ q) → (length u < length q) × (y ≡ get_or q (length u) y) → t' ≡ set t (reverse x) y
    → Linked t₀ d e t x u → Linked t₀ d e t' y (u ++ (y ∷ []))
unfolding link
linked_step t₀ d e t x y u q t' p h s w = record {
  size = ap length s ∙ length-set t (reverse x) y ∙ w.size;
  dart = next_dart t₀ d y (length u) q p h;
  on = λ r. ap (link y r e) s ∙ w.on (y ∷ r) ∙ ap (λ (l : List ℕ). link d l e t₀) (sym (append_assoc u (y ∷ []) r));
}

-- the last dart
pub linked_end : (t₀ : List ℕ) (d e : ℕ) (t : List ℕ) (x : ℕ) (u t' : List ℕ) → t' ≡ set t (reverse x) e → Linked t₀ d e t x u → t' ≡ link d u e t₀
unfolding link
linked_end t₀ d e t x u t' s w = s ∙ w.on [] ∙ ap (λ (l : List ℕ). link d l e t₀) (append-nil u)
