-- The stretches of a land that visits two ports x and y: A from x to y, B from y to x, neither of them empty.
--   Corners ends t l x y     the land l follows the turns t and visits x and y, which are two ports
--   r, a, b                  the land from its first dart at x on, and its stretches A and B
--   land                     the land of the n darts from d on
-- stretch_same, stretch_land, stretch_y, stretch_a_lem, stretch_b_lem, stretch_cut, stretch_size, some_a, some_b: from x on the land is A and then B, and neither is empty. head_x, walk_x, walk_b: it is what is walked from A's first dart, and B what is walked from B's. darts_x, darts_b: they can be walked.
-- seek_darts, seek_visits, found_size, found_darts, found_all: what `stretches_at` asks of the functions that it calls, and what it answers.
-- Assumes nothing.
use mathlib.Core.Path.{◌≡◌, sym, ap, ◌∙◌, subst}
use mathlib.Core.Logic.{◌≢◌}
use mathlib.Core.List.{List, ◌∷◌, ◌++◌}
use Prim.Native.Nat.{ℕ, suc, ◌+◌, ◌-◌, ◌<◌, ◌≤◌}
use native.Mathlib.Omega.{arith}
use lib.Dec.{T}
use lib.ListN.{length, length-append}
use Rattle.rules.specs.Terms.{visits}
use Rattle.rules.specs.Laying.{first, last, before, since}
use Rattle.laws.proofs.Counts.{count, count_append}
use Rattle.laws.proofs.Runs.{Land, land_turn, run_cut}
use Rattle.laws.proofs.Split.{before_since, since_head, before_head, visits_same}
use Rattle.land.specs.declared.Seen.{Seen}
use Rattle.land.specs.Walks.{land_from, next_by, Below, Darts, Sought}
use Rattle.land.proofs.Laws.{length_from, from_last, from_run, below_append, append_below, darts_fewer, turned_since, sought_last}
use Rattle.split.specs.Halves.{from_port, stretch_a, stretch_b, Found}

pub record Corners (ends t l : List ℕ) (x y : ℕ) : Type 0 where
  pub land : Land t l
  pub apart : x ≢ y
  pub visits_x : T (visits ends l x)
  pub visits_y : T (visits ends l y)

-- ---- from x on the land is A and then B

module _ (ends t l : List ℕ) (x y : ℕ) (C : Corners ends t l x y) where
  abbrev r : List ℕ
  r = from_port ends x l

  abbrev a : List ℕ
  a = stretch_a ends x y l

  abbrev b : List ℕ
  b = stretch_b ends x y l

  pub stretch_same : (z : ℕ) → count z l ≡ count z r
  stretch_same z = omega (arith, count_append z (since ends x l) (before ends x l), count_append z (before ends x l) (since ends x l), ap (count z) (before_since ends x l))

  pub stretch_land : Land t r
  stretch_land = land_turn t (before ends x l) (since ends x l) (subst (Land t) (sym (before_since ends x l)) C.land)

  pub stretch_y : T (visits ends r y)
  stretch_y = visits_same ends y l r stretch_same C.visits_y

  pub stretch_a_lem : (d : ℕ) × ((m : List ℕ) × (a ≡ d ∷ m))
  stretch_a_lem =
      let h = since_head ends x l C.visits_x in
      (h.0, (_, ap (λ (m : List ℕ). before ends y (m ++ before ends x l)) h.1.1 ∙ before_head ends y h.0 (h.1.0 ++ before ends x l) (λ e. C.apart (sym h.1.2 ∙ e))))

  pub stretch_b_lem : (d : ℕ) × ((m : List ℕ) × (b ≡ d ∷ m))
  stretch_b_lem =
      let h = since_head ends y r stretch_y in
      (h.0, (h.1.0, h.1.1))

  pub stretch_cut : r ≡ (stretch_a_lem.0 ∷ stretch_a_lem.1.0) ++ (stretch_b_lem.0 ∷ stretch_b_lem.1.0)
  stretch_cut = sym (before_since ends y r) ∙ ap (λ (m : List ℕ). m ++ b) stretch_a_lem.1.1 ∙ ap (λ (m : List ℕ). (stretch_a_lem.0 ∷ stretch_a_lem.1.0) ++ m) stretch_b_lem.1.1

  pub stretch_size : length l ≡ length a + length b
  stretch_size = omega (arith, length-append (since ends x l) (before ends x l), length-append (before ends x l) (since ends x l), ap length (before_since ends x l), length-append a b, ap length (before_since ends y r))

  pub some_a : 1 ≤ length a
  some_a = omega (arith, ap length stretch_a_lem.1.1)

  pub some_b : 1 ≤ length b
  some_b = omega (arith, ap length stretch_b_lem.1.1)

  -- A's first dart is the first that leaves x
  pub head_x : first (since ends x l) ≡ first a
  unfolding first stretch_a_lem
  head_x =
      let h = since_head ends x l C.visits_x in
      ap first h.1.1 ∙ sym (ap first stretch_a_lem.1.1)

  -- the walk from A's first dart
  pub walk_x : land_from t (length l) (first a) ≡ r
  walk_x = ap (land_from t (length l)) (sym head_x) ∙ turned_since ends t x l C.land C.visits_x

  -- the walk from B's first dart
  pub walk_b : land_from t (length b) (first b) ≡ b
  unfolding first
  walk_b =
      let B = stretch_b_lem in
      let h = (run_cut t stretch_a_lem.0 stretch_a_lem.1.0 B.0 B.1.0 stretch_a_lem.0 (subst (Land t) stretch_cut stretch_land)).1 in
      ap (λ (m : List ℕ). land_from t (length m) (first m)) B.1.1 ∙ from_run t B.0 B.1.0 stretch_a_lem.0 h ∙ sym B.1.1

  pub darts_x : Darts t l → Darts t r
  darts_x p =
      let s = below_append (length t) (before ends x l) (since ends x l) (subst (λ (m : List ℕ). Below (length t) m) (sym (before_since ends x l)) p.inside) in
      record { even = p.even; few = p.few; inside = append_below (length t) (since ends x l) (before ends x l) s.1 s.0 }

  pub darts_b : Darts t l → Darts t b
  darts_b p =
      let w = darts_x p in
      record { even = w.even; few = w.few; inside = (below_append (length t) a b (subst (λ (m : List ℕ). Below (length t) m) (sym (before_since ends y r)) w.inside)).1 }

-- ---- `stretches_at`

-- the land of the n darts from d on; s and u are what the searches for x and for y tell
module _ (ends t : List ℕ) (d n x y : ℕ) (C : Corners ends t (land_from t n d) x y) (p : Darts t (land_from t n d)) (s : Seen) (S : Sought ends x d (land_from t n d) s) where
  abbrev land : List ℕ
  land = land_from t n d

  -- from x on
  from_x_lem : land_from t n s.dart ≡ from_port ends x land
  from_x_lem = ap (land_from t n) (S.dart ∙ head_x ends t land x y C) ∙ ap (λ (k : ℕ). land_from t k (first (stretch_a ends x y land))) (sym (length_from t n d)) ∙ walk_x ends t land x y C

  pub seek_darts : Darts t (land_from t n s.dart)
  seek_darts = subst (Darts t) (sym from_x_lem) (darts_x ends t land x y C p)

  pub seek_visits : T (visits ends (land_from t n s.dart) y)
  seek_visits = subst (λ (m : List ℕ). T (visits ends m y)) (sym from_x_lem) (stretch_y ends t land x y C)

  module _ (u : Seen) (U : Sought ends y s.dart (land_from t n s.dart) u) where
    sought : Sought ends y s.dart (from_port ends x land) u
    sought = subst (λ (m : List ℕ). Sought ends y s.dart m u) from_x_lem U

    pub found_size : (u.steps ≡ length (stretch_a ends x y land)) × (n ≡ u.steps + length (stretch_b ends x y land)) × (u.steps < n)
    found_size =
        let e = sought.steps in
        let k = stretch_size ends t land x y C in
        (e, omega (arith, length_from t n d), omega (arith, length_from t n d, some_b ends t land x y C))

    size : n - u.steps ≡ length (stretch_b ends x y land)
    size = omega (arith, found_size.1)

    pub found_darts : Darts t (land_from t (n - u.steps - 1) u.dart)
    found_darts =
        darts_fewer t (n - u.steps - 1) (n - u.steps) u.dart (omega arith)
        (subst (Darts t) (sym (ap (λ (k : ℕ). land_from t k u.dart) size ∙ ap (land_from t (length (stretch_b ends x y land))) sought.dart ∙ walk_b ends t land x y C)) (darts_b ends t land x y C p))

    pub found_all : (e : ℕ) → e ≡ next_by t (n - u.steps - 1) u.dart
        → Found ends x y land (record { a = record { first = s.dart; last = u.last; size = u.steps }; b = record { first = u.dart; last = e; size = n - u.steps } })
    found_all e h = record {
      a = record {
        first = S.dart ∙ head_x ends t land x y C;
        last = sought_last ends y s.dart (from_port ends x land) u sought (omega (arith, found_size.0, some_a ends t land x y C));
        size = found_size.0;
      };
      b = record {
        first = sought.dart;
        last = h ∙ sym (from_last t (n - u.steps - 1) u.dart) ∙ ap (λ (k : ℕ). last (land_from t k u.dart)) whole ∙ ap (λ (k : ℕ). last (land_from t (length (stretch_b ends x y land)) k)) sought.dart ∙ ap last (walk_b ends t land x y C);
        size = size;
      };
    }
      where
        whole : suc (n - u.steps - 1) ≡ length (stretch_b ends x y land)
        whole = omega (arith, size, some_b ends t land x y C)
