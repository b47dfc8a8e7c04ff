-- What a lent buffer holds while lands are written into it; o₀ is the buffer before, o now.
--   Writing t d n o₀ at o e k      k of the n darts from d on stand in it from index `at` on, and e is the next
--   Joining t fs ns n o₀ o at i    the darts of the first i of n lands stand in it up to index `at`
-- write_.., join_..: start, turn and end of the loops of `write_land` and `write_lands`; write_size, join_size: its length does not change.
-- Assumes nothing.
use mathlib.Core.Path.{◌≡◌, refl, sym, ap, ◌∙◌, subst}
use mathlib.Core.List.{List, [], ◌++◌}
use Prim.Native.Nat.{ℕ, ◌+◌, ◌-◌, ◌<◌, ◌≤◌}
use native.Mathlib.Numerals.{add-one}
use native.Mathlib.Omega.{arith}
use lib.ListN.{length, get_or, set, take, drop, length-append, length-drop, drop_of_length-le}
use lib.Seq.{paste, paste-zero, paste-suc, length-paste, length-take-le, drop-drop, take_all, take-add, take_at, drop_at, take-length}
use Rattle.rules.specs.Lists.{concat}
use Rattle.rules.specs.Terms.{next}
use Rattle.laws.proofs.Lists.{drop_head}
use Rattle.land.specs.Walks.{land_from, lands, Darts, Walkable, Written}
use Rattle.land.proofs.Walking.{from_step, from_start, Left, left_start, left_step}
use Rattle.land.proofs.Laws.{length_from, length_lands, lands_cut}

-- ---- one land

pub record Writing (t : List ℕ) (d n : ℕ) (o₀ : List ℕ) (at : ℕ) (o : List ℕ) (e k : ℕ) : Type 0 where
  pub left : Left t n k e
  pub rest : drop k (land_from t n d) ≡ land_from t (n - k) e
  pub held : o ≡ paste o₀ at (land_from t n d) k

pub write_start : (t : List ℕ) (d n : ℕ) (o : List ℕ) (at : ℕ) → Darts t (land_from t n d) → Writing t d n o at o d 0
write_start t d n o at h = record { left = left_start t n d h; rest = from_start t n d; held = paste-zero o at (land_from t n d) }

pub write_size : (t : List ℕ) (d n : ℕ) (o₀ : List ℕ) (at : ℕ) (o : List ℕ) (e k : ℕ) → at + n ≤ length o₀ → Writing t d n o₀ at o e k → length o ≡ length o₀
write_size t d n o₀ at o e k h w =
    ap length w.held ∙ length-paste o₀ at (land_from t n d) k (omega (arith, w.left.most)) (omega (arith, w.left.most, length_from t n d))

pub write_step : (t : List ℕ) (d n : ℕ) (o₀ : List ℕ) (at : ℕ) (o : List ℕ) (e k x e' : ℕ) → at + n ≤ length o₀ → k < n → x ≡ e → e' ≡ next t e
    → Writing t d n o₀ at o e k → Writing t d n o₀ at (set o (at + k) x) e' (k + 1)
write_step t d n o₀ at o e k x e' room h v s w = record {
  left = left_step t n k e e' h s w.left;
  rest = here.1;
  held =
      ap (λ (m : List ℕ). set m (at + k) x) w.held
      ∙ ap (set (paste o₀ at (land_from t n d) k) (at + k)) (v ∙ sym here.0)
      ∙ paste-suc o₀ at (land_from t n d) k 0 (omega arith) (omega (arith, length_from t n d))
      ∙ ap (paste o₀ at (land_from t n d)) (sym (add-one k));
}
  where
    here : (get_or (land_from t n d) k 0 ≡ e) × (drop (k + 1) (land_from t n d) ≡ land_from t (n - (k + 1)) e')
    here = drop_head (land_from t n d) k e (land_from t (n - (k + 1)) e') (w.rest ∙ from_step t n k e e' h s)

pub write_end : (t : List ℕ) (d n : ℕ) (o₀ : List ℕ) (at : ℕ) (o : List ℕ) (e k : ℕ) → n ≤ k → Writing t d n o₀ at o e k
    → (at + n ≡ at + n) × (o ≡ take at o₀ ++ land_from t n d ++ drop (at + n) o₀)
write_end t d n o₀ at o e k h w = (
  refl,
  w.held ∙ ap (paste o₀ at (land_from t n d)) all
      ∙ ap (λ (m : List ℕ). take at o₀ ++ m ++ drop (at + n) o₀) (take_all n (land_from t n d) (omega (arith, length_from t n d))),
)
  where
    all : k ≡ n
    all = omega (arith, w.left.most)

-- ---- the lands one after another

pub record Joining (t fs ns : List ℕ) (n : ℕ) (o₀ o : List ℕ) (at i : ℕ) : Type 0 where
  pub most : i ≤ n
  pub fits : at ≤ length (concat (lands t fs ns n))
  pub rest : drop at (concat (lands t fs ns n)) ≡ concat (drop i (lands t fs ns n))
  pub held : o ≡ take at (concat (lands t fs ns n)) ++ drop at o₀

pub join_start : (t fs ns : List ℕ) (n : ℕ) (o : List ℕ) → Joining t fs ns n o o 0 0
join_start t fs ns n o = record { most = omega arith; fits = omega arith; rest = refl; held = refl }

module _ (t fs ns : List ℕ) (n : ℕ) (o₀ o : List ℕ) (at i : ℕ) (w : Walkable t fs ns n) (room : length (concat (lands t fs ns n)) ≤ length o₀) (j : Joining t fs ns n o₀ o at i) where
  front : length (take at (concat (lands t fs ns n))) ≡ at
  front = length-take-le at (concat (lands t fs ns n)) j.fits

  pub join_size : length o ≡ length o₀
  join_size =
      ap length j.held ∙ length-append (take at (concat (lands t fs ns n))) (drop at o₀)
      ∙ omega (arith, front, length-drop at o₀, j.fits)

  -- the land of number i, of `len` darts from d on
  module _ (len d : ℕ) (h : i < n) (l : len ≡ get_or ns i 0) (f : d ≡ get_or fs i 0) where
    cut : drop at (concat (lands t fs ns n)) ≡ land_from t len d ++ concat (drop (i + 1) (lands t fs ns n))
    unfolding concat
    cut = j.rest ∙ ap concat (lands_cut t fs ns n w i len d h l f)

    pub join_fits : at + len ≤ length (concat (lands t fs ns n))
    join_fits =
        omega (arith, j.fits, length-drop at (concat (lands t fs ns n)), ap length cut, length-append (land_from t len d) (concat (drop (i + 1) (lands t fs ns n))), length_from t len d)

    pub join_step : (o' : List ℕ) (at' : ℕ) → at' ≡ at + len → o' ≡ take at o ++ land_from t len d ++ drop (at + len) o → Joining t fs ns n o₀ o' at' (i + 1)
    join_step o' at' e k = subst (λ (x : ℕ). Joining t fs ns n o₀ o' x (i + 1)) (sym e) (record { most = omega arith; fits = join_fits; rest = left; held = whole })
      where
        left : drop (at + len) (concat (lands t fs ns n)) ≡ concat (drop (i + 1) (lands t fs ns n))
        left =
            sym (drop-drop len at (concat (lands t fs ns n))) ∙ ap (drop len) cut
            ∙ drop_at (land_from t len d) (concat (drop (i + 1) (lands t fs ns n))) len (length_from t len d)

        longer : take (at + len) (concat (lands t fs ns n)) ≡ take at (concat (lands t fs ns n)) ++ land_from t len d
        longer =
            take-add at len (concat (lands t fs ns n))
            ∙ ap (λ (m : List ℕ). take at (concat (lands t fs ns n)) ++ take len m) cut
            ∙ ap (λ (m : List ℕ). take at (concat (lands t fs ns n)) ++ m) (take_at (land_from t len d) (concat (drop (i + 1) (lands t fs ns n))) len (length_from t len d))

        before : take at o ≡ take at (concat (lands t fs ns n))
        before = ap (take at) j.held ∙ take_at (take at (concat (lands t fs ns n))) (drop at o₀) at front

        after : drop (at + len) o ≡ drop (at + len) o₀
        after =
            sym (drop-drop len at o) ∙ ap (λ (m : List ℕ). drop len (drop at m)) j.held
            ∙ ap (drop len) (drop_at (take at (concat (lands t fs ns n))) (drop at o₀) at front)
            ∙ drop-drop len at o₀

        whole : o' ≡ take (at + len) (concat (lands t fs ns n)) ++ drop (at + len) o₀
        whole =
            k ∙ ap (λ (m : List ℕ). m ++ land_from t len d ++ drop (at + len) o) before
            ∙ ap (λ (m : List ℕ). take at (concat (lands t fs ns n)) ++ land_from t len d ++ m) after
            ∙ ap (λ (m : List ℕ). m ++ drop (at + len) o₀) (sym longer)

  pub join_end : n ≤ i → Written (concat (lands t fs ns n)) o₀ o at
  unfolding concat
  join_end h =
      let over : length (lands t fs ns n) ≤ i = omega (arith, length_lands t fs ns n w.starts w.sizes) in
      let none : drop at (concat (lands t fs ns n)) ≡ [] = j.rest ∙ ap concat (drop_of_length-le (lands t fs ns n) over) in
      let all : at ≡ length (concat (lands t fs ns n)) = omega (arith, j.fits, length-drop at (concat (lands t fs ns n)), ap length none) in
      record {
        count = all;
        held = j.held ∙ ap (λ (k : ℕ). take k (concat (lands t fs ns n)) ++ drop k o₀) all
            ∙ ap (λ (m : List ℕ). m ++ drop (length (concat (lands t fs ns n))) o₀) (take-length (concat (lands t fs ns n)));
      }
