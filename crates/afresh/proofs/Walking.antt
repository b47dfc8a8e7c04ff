-- The loop of `walk_land`.
--   Walk t a o s n darts seen d k l     on the way round the land of a, at dart d, with the darts l still to come: to put and mark d and l, from here, gives what to put and mark the whole land gives from the start;
--       o, s, n: the darts, the marks and the place at the start;  darts, seen, k: those at hand
-- start, step, stop: the invariant at the beginning, after a dart, and what it comes to where the next dart is a.
-- Assumes nothing.
use mathlib.Core.Path.{◌≡◌, refl, sym, ap, ◌∙◌, subst}
use mathlib.Core.Logic.{◌≢◌}
use mathlib.Core.Bool.{Bool, true}
use mathlib.Core.List.{List, [], ◌∷◌, ◌++◌}
use Prim.Native.Nat.{ℕ, ◌+◌, ◌≤◌, ◌<◌}
use native.Mathlib.Numerals.{add-one}
use native.Mathlib.Omega.{arith}
use lib.ListN.{length, take, drop, set, length-set}
use lib.Seq.{sets, sets-eq}
use Rattle.rules.specs.Terms.{next}
use Rattle.laws.proofs.Counts.{is_self, count, absent_head, absent_rest, count_head}
use Rattle.laws.proofs.Runs.{Run}
use Rattle.laws.proofs.Permuting.{land_of, LandOf}
use Rattle.afresh.specs.Marks.{marked}

pub record Walk (t : List ℕ) (a : ℕ) (o : List ℕ) (s : List Bool) (n : ℕ) (darts : List ℕ) (seen : List Bool) (d k : ℕ) (l : List ℕ) : Type 0 where
  pub run : Run t d l a
  -- a does not come again before the end
  pub none : count a l ≡ 0
  pub inside : (z : ℕ) → 1 ≤ count z (d ∷ l) → z < length t
  pub room : k + length (d ∷ l) ≡ n + length (land_of t a)
  pub put : sets darts k (d ∷ l) ≡ sets o n (land_of t a)
  pub mark : marked (d ∷ l) seen ≡ marked (land_of t a) s
  pub darts_long : length darts ≡ length o
  pub seen_long : length seen ≡ length s

module _ (t : List ℕ) (a : ℕ) (o : List ℕ) (s : List Bool) (n : ℕ) where
  pub start : (l : List ℕ) → LandOf t a l → Walk t a o s n o s a n l
  unfolding count
  start l r = record {
    run = r.run;
    none = omega (arith, r.once a, is_self a);
    inside = r.inside;
    room = ap (λ (m : List ℕ). n + length m) (sym r.walked);
    put = ap (sets o n) (sym r.walked);
    mark = ap (λ (m : List ℕ). marked m s) (sym r.walked);
    darts_long = refl;
    seen_long = refl;
  }

  module _ (darts : List ℕ) (seen : List Bool) (d k : ℕ) where
    -- the dart at hand is a dart, and has a place
    pub dart_in : (l : List ℕ) → Walk t a o s n darts seen d k l → d < length t
    dart_in l w = w.inside d (count_head d l)

    pub place_in : (l : List ℕ) → Walk t a o s n darts seen d k l → n + length (land_of t a) ≤ length o → k < length darts
    place_in l w h = omega (arith, w.room, w.darts_long)

    pub step : (l : List ℕ) → Walk t a o s n darts seen d k l → next t d ≢ a → (m : List ℕ) × Walk t a o s n (set darts k d) (set seen d true) (next t d) (k + 1) m
    unfolding marked count
    step [] w ne = absurd (ne w.run)
    step (x ∷ l) w ne = (
      l,
      subst (λ (y : ℕ). Walk t a o s n (set darts k d) (set seen d true) y (k + 1) l) (sym w.run.0) (record {
        run = w.run.1;
        none = absent_rest a x l w.none;
        inside = λ z h. w.inside z (omega arith);
        room = omega (arith, w.room);
        put = ap (λ (i : ℕ). sets (set darts k d) i (x ∷ l)) (add-one k) ∙ w.put;
        mark = w.mark;
        darts_long = length-set darts k d ∙ w.darts_long;
        seen_long = length-set seen d true ∙ w.seen_long;
      }),
    )

    pub stop : (l : List ℕ) → Walk t a o s n darts seen d k l → next t d ≡ a → n + length (land_of t a) ≤ length o
        → (k + 1 ≡ n + length (land_of t a)) × (set darts k d ≡ take n o ++ land_of t a ++ drop (n + length (land_of t a)) o) × (set seen d true ≡ marked (land_of t a) s)
    unfolding marked
    stop [] w e h = (omega (arith, w.room), w.put ∙ sets-eq (land_of t a) o n h, w.mark)
    stop (x ∷ l) w e h = absurd (absent_head a x l w.none (sym e ∙ w.run.0))

    -- the same, as the code says it: x is d as it is put, and e is the dart after d
    pub step_as : (l : List ℕ) → Walk t a o s n darts seen d k l → (x e : ℕ) → x ≡ d → e ≡ next t d → (e ≡ a → ⊥) → (m : List ℕ) × Walk t a o s n (set darts k x) (set seen d true) e (k + 1) m
    step_as l w x e p q ne = rw (p, q) (step l w (λ h. ne (q ∙ h)))

    pub stop_as : (l : List ℕ) → Walk t a o s n darts seen d k l → (x : ℕ) → x ≡ d → next t d ≡ a → n + length (land_of t a) ≤ length o
        → (k + 1 ≡ n + length (land_of t a)) × (set darts k x ≡ take n o ++ land_of t a ++ drop (n + length (land_of t a)) o) × (set seen d true ≡ marked (land_of t a) s)
    stop_as l w x p e h = let r = stop l w e h in (r.0, ap (set darts k) p ∙ r.1, r.2)
