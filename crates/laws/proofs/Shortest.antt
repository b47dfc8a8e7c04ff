-- The path that is laid has the fewest channels, and among those the smallest list of ports (document 01, "Laying", the path).
--   Lex u v         compared from the front, u comes before v or begins it; where they are as long, u is no larger
--   free_x, sets     of a path from x: the free ports with x, and the sets that it descends through
-- path_fewest: no way from x to y is shorter than the path. path_least: no way as short comes through a smaller list of ports. (Of a ladder of sets: ladder_fewest, descend_least.)
-- Assumes nothing.
use mathlib.Core.Path.{◌≡◌, refl, ap, subst, sym, ◌∙◌}
use mathlib.Core.Logic.{◌⊎◌, inl, inr, ⊎_elim}
use mathlib.Core.Bool.{Bool, ◌||◌}
use mathlib.Core.List.{List, [], ◌∷◌, map}
use Prim.Native.Nat.{ℕ, ◌<◌, ◌≤◌, suc}
use native.Mathlib.Nat.{not-suc-le-zero, suc-ne-zero, suc_inj}
use native.Mathlib.Decide.{dec_lt}
use native.Mathlib.Omega.{arith}
use lib.Dec.{T, eqb}
use lib.ListN.{length}
use Rattle.rules.specs.Lists.{from, at}
use Rattle.rules.specs.Terms.{leaves, enters, missing}
use Rattle.rules.specs.Ways.{only, layers, nearest, descend, path}
use Rattle.laws.proofs.Reaches.{Whole, length_grow, grow_keeps, grow_adds, Way, reached_iff}
use Rattle.laws.proofs.Paths.{Darts, New, nearest_best, Ladder, descend_step, new_step, ladder_below, Found, path_found}

abbrev pub Lex : List ℕ → List ℕ → Type 0
Lex [] v = Unit {0}
Lex (a ∷ u) [] = ⊥
Lex (a ∷ u) (b ∷ v) = (a < b) ⊎ ((a ≡ b) × Lex u v)

lt_or_eq : (a b : ℕ) → a ≤ b → (a < b) ⊎ (a ≡ b)
lt_or_eq a b h = go (dec_lt a b)
  where
    go : Dec (a < b) → (a < b) ⊎ (a ≡ b)
    go (yes k) = inl k
    go (no k) = inr (omega arith)

pub length_descend : (ps : List ℕ) (ok : ℕ → Bool) (p : ℕ) (ss : List (List Bool)) → length (descend ps ok p ss) ≡ length ss
unfolding descend
length_descend ps ok p [] = refl
length_descend ps ok p (s ∷ ss) = ap suc (length_descend ps ok (enters ps (nearest ps ok p s (from 0 (length ps)) missing)) ss)

module _ (np : ℕ) (ps : List ℕ) (ok free : ℕ → Bool) (hd : Darts (from 0 (length ps))) (hw : Whole ps ok)
    (ports : (d : ℕ) → T (ok d) → leaves ps d < np) where
  -- a port from which y is as near as the ladder is long lies in its top
  pub ladder_in : (y p : ℕ) (s : List Bool) (ss : List (List Bool)) (w : List ℕ) → length s ≡ np → Ladder ps ok free y s ss → Way ps ok free p w y → length w ≤ length ss → T (at s p)
  ladder_in y p s [] [] e l h b = subst (λ (z : ℕ). T (at s z)) (sym h) l.1
  ladder_in y p s [] (d ∷ w) e l h b = absurd (not-suc-le-zero b)
  ladder_in y p s (r ∷ rs) [] e l h b =
      rw l.0 (grow_keeps ps ok free r (from 0 (length ps)) r p
      (ladder_in y p r rs [] (sym (length_grow ps ok free r (from 0 (length ps)) r) ∙ ap length (sym l.0) ∙ e) l.1 h (omega arith)))
  ladder_in y p s (r ∷ rs) (d ∷ w) e l h b =
      let e' : length r ≡ np = sym (length_grow ps ok free r (from 0 (length ps)) r) ∙ ap length (sym l.0) ∙ e in
      rw l.0 (grow_adds ps ok free r (from 0 (length ps)) r p d (subst (λ (z : ℕ). z < length r) h.1 (omega (arith, ports d h.0))) (hw d h.0)
      (h.0, ladder_in y (enters ps d) r rs w e' l.1 h.3 (omega arith), h.2, h.1))

  -- no way from x to y is shorter than the ladder
  pub ladder_fewest : (y x : ℕ) (s : List Bool) (ss : List (List Bool)) (w : List ℕ) → length s ≡ np → Ladder ps ok free y s ss → New x ss
      → Way ps ok free x w y → length ss ≤ length w
  ladder_fewest y x s [] w e l n h = omega arith
  ladder_fewest y x s (r ∷ rs) w e l n h = go (dec_lt (length w) (suc (length rs)))
    where
      go : Dec (length w < suc (length rs)) → suc (length rs) ≤ length w
      go (yes k) = absurd (n (ladder_in y x r rs w (sym (length_grow ps ok free r (from 0 (length ps)) r) ∙ ap length (sym l.0) ∙ e) l.1 h (omega arith)))
      go (no k) = omega arith

  pub descend_least : (y p : ℕ) (s : List Bool) (ss : List (List Bool)) (w : List ℕ) → length s ≡ np → Ladder ps ok free y s ss → New p ss → T (at s p)
      → Way ps ok free p w y → length w ≡ length ss → Lex (map (enters ps) (descend ps ok p ss)) (map (enters ps) w)
  unfolding descend
  descend_least y p s [] w e l n t h k = tt
  descend_least y p s (r ∷ rs) [] e l n t h k = absurd (suc-ne-zero (length rs) (sym k))
  descend_least y p s (r ∷ rs) (d ∷ w) e l n t h k =
      let e' : length r ≡ np = sym (length_grow ps ok free r (from 0 (length ps)) r) ∙ ap length (sym l.0) ∙ e in
      let g = descend_step ps ok free p s r hd l.0 n t in
      let c = nearest ps ok p r (from 0 (length ps)) missing in
      let best = nearest_best ps ok p r (from 0 (length ps)) missing d hd (hw d h.0) (h.0, h.1, ladder_in y (enters ps d) r rs w e' l.1 h.3 (omega arith)) in
      ⊎_elim inl
      (λ q. inr (
        q,
        descend_least y (enters ps c) r rs w e' l.1 (new_step ps ok free y p s r rs c hw l.1 n (ladder_below ps ok free p s r l.0 t) g.0 g.1) g.1.2
            (subst (λ (z : ℕ). Way ps ok free z w y) (sym q) h.3) (suc_inj k),
      ))
      (lt_or_eq (enters ps c) (enters ps d) best.1)

-- ---- the path

module _ (np : ℕ) (ps : List ℕ) (ok free : ℕ → Bool) (x y : ℕ) (hd : Darts (from 0 (length ps))) (hw : Whole ps ok)
    (ports : (d : ℕ) → T (ok d) → leaves ps d < np) (hy : y < np)
    (w : List ℕ) (h : Way ps ok (λ p. free p || eqb p x) x w y) where
  abbrev free_x : ℕ → Bool
  free_x p = free p || eqb p x

  abbrev sets : List (List Bool)
  sets = layers ps ok free_x x (suc np) (only np y) []

  found : Found ps ok free_x np y x sets
  found = path_found np ps ok free_x x y hy ((reached_iff np ps ok free_x hw ports y hy x).1 (w, h))

  pub path_fewest : length (path np ps ok free x y) ≤ length w
  unfolding path
  path_fewest =
      let f = found in
      rw (length_descend ps ok x sets) (ladder_fewest np ps ok free_x hd hw ports y x f.0 sets w f.4 f.1 f.2 h)

  pub path_least : length w ≡ length (path np ps ok free x y) → Lex (map (enters ps) (path np ps ok free x y)) (map (enters ps) w)
  unfolding path
  path_least e =
      let f = found in
      descend_least np ps ok free_x hd hw ports y x f.0 sets w f.4 f.1 f.2 f.3 h (e ∙ length_descend ps ok x sets)
