-- The loop of `descend`: the first n darts of the route are written, and p is the port that they lead to.
--   route ends ok far x k                        the darts that lead from x through the sets below mark k
--   front w o n                                  the first n of w, and behind them what o has there
--   Descending ends ok far x k out₀ out p n      the first n darts of the route are written over out₀, and the rest of the route begins at p
-- start, step, end: the loop's beginning, a turn, and its end. dart: what is taken next is a dart. good, written: where x is reached, the route is the path, and every number of it is a dart.
-- Assumes nothing.
use mathlib.Core.Path.{◌≡◌, refl, sym, ap, ◌∙◌, subst}
use mathlib.Core.Bool.{Bool}
use mathlib.Core.List.{List, [], ◌∷◌, ◌++◌}
use Prim.Native.Nat.{ℕ, zero, suc, ◌+◌, ◌-◌, ◌≤◌, ◌<◌, ◌*◌}
use native.Mathlib.Nat.{zero-add, not-suc-le-zero}
use native.Mathlib.Numerals.{add-one}
use native.Mathlib.Omega.{arith}
use lib.Dec.{T}
use lib.ListN.{length, get_or, set, take, drop}
use lib.Seq.{paste, paste-suc, length-paste, take_all}
use Rattle.rules.specs.Lists.{from, at}
use Rattle.rules.specs.Terms.{missing, enters}
use Rattle.rules.specs.Ways.{in_play, nearest, descend, path}
use Rattle.laws.proofs.Lists.{All, all_of, drop_head}
use Rattle.laws.proofs.Reaches.{whole_of, play_dart}
use Rattle.laws.proofs.Paths.{darts_of, leads_usable, path_good}
use Rattle.laws.proofs.Shortest.{length_descend}
use Rattle.way.specs.Marks.{within, below, reached_by, sets, AllDarts}
use Rattle.way.proofs.Within.{length_below}

-- ---- a list written over the front of another

abbrev pub front : List ℕ → List ℕ → ℕ → List ℕ
front w o n = take n w ++ drop n o

front_paste : (w o : List ℕ) (n : ℕ) → paste o 0 w n ≡ front w o n
front_paste w o n = ap (λ (m : ℕ). take n w ++ drop m o) (zero-add n)

front_next : (w o : List ℕ) (n : ℕ) → n < length w → n < length o → set (front w o n) n (get_or w n 0) ≡ front w o (suc n)
front_next w o n h k =
    ap (λ (l : List ℕ). set l n (get_or w n 0)) (sym (front_paste w o n))
    ∙ ap (λ (i : ℕ). set (paste o 0 w n) i (get_or w n 0)) (sym (zero-add n))
    ∙ paste-suc o 0 w n 0 (omega arith) h
    ∙ front_paste w o (suc n)

pub length_front : (w o : List ℕ) (n : ℕ) → n ≤ length w → n ≤ length o → length (front w o n) ≡ length o
length_front w o n h k = ap length (sym (front_paste w o n)) ∙ length-paste o 0 w n (omega arith) h

all_at : (P : ℕ → Type 0) (l : List ℕ) → All P l → (i : ℕ) → i < length l → P (get_or l i 0)
all_at P [] a i h = absurd (not-suc-le-zero h)
all_at P (d ∷ l) a zero h = a.0
all_at P (d ∷ l) a (suc i) h = all_at P l a.1 i (omega arith)

-- ---- the loop

abbrev pub route : List ℕ → List Bool → List ℕ → ℕ → ℕ → List ℕ
route ends ok far x k = descend ends (in_play ok) x (below far k)

pub length_route : (ends : List ℕ) (ok : List Bool) (far : List ℕ) (x k : ℕ) → length (route ends ok far x k) ≡ k
length_route ends ok far x k = length_descend ends (in_play ok) x (below far k) ∙ length_below far k

pub record Descending (ends : List ℕ) (ok : List Bool) (far : List ℕ) (x k : ℕ) (out₀ out : List ℕ) (p n : ℕ) : Type 0 where
  pub most : n ≤ k
  pub port : p < length far
  pub held : out ≡ front (route ends ok far x k) out₀ n
  pub rest : drop n (route ends ok far x k) ≡ route ends ok far p (k - n)

module _ (ends : List ℕ) (ok : List Bool) (far : List ℕ) (x k : ℕ) (out₀ : List ℕ) where
  pub start : x < length far → Descending ends ok far x k out₀ out₀ x 0
  start h = record { most = omega arith; port = h; held = refl; rest = ap (route ends ok far x) (omega arith) }

  module _ (room : k ≤ length out₀) (out : List ℕ) (p n : ℕ) (g : Descending ends ok far x k out₀ out p n) where
    pub same : length out ≡ length out₀
    same = ap length g.held ∙ length_front (route ends ok far x k) out₀ n (omega (arith, g.most, length_route ends ok far x k)) (omega (arith, g.most))

    pub end : k ≤ n → out ≡ route ends ok far x k ++ drop k out₀
    end h =
        let e : n ≡ k = omega (arith, g.most) in
        g.held
        ∙ ap (front (route ends ok far x k) out₀) e
        ∙ ap (λ (l : List ℕ). l ++ drop k out₀) (take_all k (route ends ok far x k) (omega (arith, length_route ends ok far x k)))

    module _ (h : n < k) (darts : AllDarts ends (route ends ok far x k)) (d : ℕ)
        (e : d ≡ nearest ends (in_play ok) p (within far (k - n - 1)) (from 0 (length ends)) missing) where
      head : drop n (route ends ok far x k) ≡ d ∷ route ends ok far (enters ends d) (k - n - 1)
      unfolding descend below
      head = g.rest ∙ ap (route ends ok far p) fuel ∙ rw (sym e) refl
        where
          fuel : k - n ≡ suc (k - n - 1)
          fuel = omega arith

      pub dart : d < length ends
      dart = subst (λ (z : ℕ). z < length ends) (drop_head (route ends ok far x k) n d (route ends ok far (enters ends d) (k - n - 1)) head).0
          (all_at (λ z. z < length ends) (route ends ok far x k) darts n (omega (arith, length_route ends ok far x k)))

      pub step : enters ends d < length far → Descending ends ok far x k out₀ (set out n d) (enters ends d) (n + 1)
      step b =
          let t = drop_head (route ends ok far x k) n d (route ends ok far (enters ends d) (k - n - 1)) head in
          record {
            most = omega arith;
            port = b;
            held =
                ap (λ (o : List ℕ). set o n d) g.held
                ∙ ap (set (front (route ends ok far x k) out₀ n) n) (sym t.0)
                ∙ front_next (route ends ok far x k) out₀ n (omega (arith, length_route ends ok far x k)) (omega arith)
                ∙ ap (front (route ends ok far x k) out₀) (sym (add-one n));
            rest = t.1 ∙ ap (route ends ok far (enters ends d)) (omega arith);
          }

      pub step_as : (q : ℕ) → q ≡ enters ends d → enters ends d < length far → Descending ends ok far x k out₀ (set out n d) q (n + 1)
      step_as q a l = rw a (step l)

-- ---- the path

module _ (v : ℕ) (ends : List ℕ) (ok free : List Bool) (x y : ℕ) (far : List ℕ) (k : ℕ) (e : below far k ≡ sets v ends ok free x y) where
  -- the path is the route through the sets that the marks give
  route_is : path v ends (in_play ok) (at free) x y ≡ route ends ok far x k
  unfolding path
  route_is = ap (descend ends (in_play ok) x) (sym e)

  -- where x is reached, every number of it is a dart
  pub good : length ends < missing → length ends ≡ 2 * length ok → y < v → T (at (reached_by v ends ok free x y v) x) → AllDarts ends (route ends ok far x k)
  good few even hy t =
      let g = path_good v ends (in_play ok) (at free) x y (darts_of ends few) (whole_of ends (in_play ok) (play_dart ends ok even)) hy t in
      subst (AllDarts ends) route_is
      (all_of (λ d. d < length ends) (path v ends (in_play ok) (at free) x y)
      (λ d c. play_dart ends ok even d (leads_usable ends (in_play ok) x (path v ends (in_play ok) (at free) x y) y g.0 d c)))

  -- what is written is the path
  pub written : (out out' : List ℕ) → out' ≡ route ends ok far x k ++ drop k out
      → (k ≡ length (path v ends (in_play ok) (at free) x y)) × (out' ≡ path v ends (in_play ok) (at free) x y ++ drop (length (path v ends (in_play ok) (at free) x y)) out)
  written out out' h =
      let n : k ≡ length (path v ends (in_play ok) (at free) x y) = sym (ap length route_is ∙ length_route ends ok far x k) in
      (n, h ∙ ap (λ (w : List ℕ). w ++ drop k out) (sym route_is) ∙ ap (λ (m : ℕ). path v ends (in_play ok) (at free) x y ++ drop m out) n)
