-- What laying one path, and the first cycle, leaves in the slices (specs, "Rooms").
--   put st f out         the buffer st with the part from f on replaced by out
-- slice_path, slice_cycle: the path and the cycle as they stand in the story. laid_path: what is held after a path. laid_cycle: what is held after the first cycle.
-- Assumes nothing.
use mathlib.Core.Path.{◌≡◌, refl, sym, ap, ◌∙◌, subst}
use mathlib.Core.Bool.{Bool}
use mathlib.Core.List.{List, ◌∷◌, ◌++◌}
use Prim.Native.Nat.{ℕ, ◌+◌, ◌-◌, ◌*◌, ◌≤◌}
use native.Mathlib.Omega.{arith}
use lib.ListN.{length, get_or, set, take, drop}
use Rattle.rules.specs.Laying.{State, Choice, lay, start, cycle, first_channel, first_cycle}
use Rattle.laws.proofs.Rounds.{Layable}
use Rattle.split.specs.Halves.{Divisible, Divided, Cyclic, Begun}
use Rattle.step.specs.Stories.{story_of}
use Rattle.step.specs.Rooms.{contacts_at, path_at, Standing, Chosen, Plan}
use Rattle.step.proofs.Writing.{back, entered_path, entered, cycled_buffer, cycled_path, cycled}
use Rattle.step.proofs.Telling.{can_divide, did_divide, end_room, can_begin, did_begin}

abbrev pub put : List ℕ → ℕ → List ℕ → List ℕ
put st f out = take f st ++ (out ++ drop (length st - f) (drop f st))

-- the path as it stands in the story
pub slice_path : (st q out : List ℕ) (f n : ℕ) → n ≡ length q → out ≡ q ++ drop (length q) (take (length st - f) (drop f st)) → f + length q ≤ length st → take (f + n - f) (drop f (put st f out)) ≡ q
slice_path st q out f n e h r = rw (e, h) (entered_path st q f r)

module _ (v : ℕ) (ends : List ℕ) (play : List Bool) (G : Layable v ends play) (s : State) (c : Choice) (t fs ns st : List ℕ) (n p : ℕ) (lp : List Bool) (name land : ℕ)
    (C : Chosen v ends play s c t fs ns st n p lp name land) (x y size : ℕ) (out : List ℕ)
    (ex : x ≡ get_or (contacts_at v ends play lp name) 0 0) (ey : y ≡ get_or (contacts_at v ends play lp name) 1 0) (es : size ≡ length (path_at v ends play lp name))
    (eo : out ≡ path_at v ends play lp name ++ drop (length (path_at v ends play lp name)) (take (length st - (p + 3)) (drop (p + 3) st))) where
  abbrev q : List ℕ
  q = path_at v ends play lp name

  slice : take (p + 3 + size - (p + 3)) (drop (p + 3) (put st (p + 3) out)) ≡ q
  slice = slice_path st q out (p + 3) size es eo (end_room v ends play G s c t fs ns st n p lp name land C)

  pub ask_divide : Divisible ends t fs ns n land x y (take (p + 3 + size - (p + 3)) (drop (p + 3) (put st (p + 3) out)))
  ask_divide = can_divide v ends play G s c t fs ns st n p lp name land C x y (take (p + 3 + size - (p + 3)) (drop (p + 3) (put st (p + 3) out))) ex ey slice

  pub laid_path : (t' fs' ns' st' : List ℕ) → Divided ends t fs ns n land x y (take (p + 3 + size - (p + 3)) (drop (p + 3) (put st (p + 3) out))) t' fs' ns'
      → st' ≡ set (set (set (put st (p + 3) out) p name) (p + 1) land) (p + 2) size → length st' ≡ length st
      → Standing v ends play (lay v ends play s c) t' fs' ns' st' (n + 1) (p + 3 + size)
  laid_path t' fs' ns' st' D e l =
      let w : st' ≡ set (set (set (back st (p + 3) q) p name) (p + 1) land) (p + 2) (length q)
      = e ∙ ap (λ (m : ℕ). set (set (set (put st (p + 3) out) p name) (p + 1) land) (p + 2) m) es ∙ ap (λ (m : List ℕ). set (set (set (put st (p + 3) m) p name) (p + 1) land) (p + 2) (length q)) eo in
      subst (λ (m : ℕ). Standing v ends play (lay v ends play s c) t' fs' ns' st' (n + 1) (p + 3 + m)) (sym es)
      (did_divide v ends play G s c t fs ns st n p lp name land C x y q ex ey refl t' fs' ns' st'
      (subst (λ (m : List ℕ). Divided ends t fs ns n land x y m t' fs' ns') slice D) l
      (ap (take (p + 3 + length q)) w ∙ entered st (story_of (first_cycle v ends play) s.paths) q p name land C.stands.told (end_room v ends play G s c t fs ns st n p lp name land C)))

-- ---- the first cycle

module _ (v : ℕ) (ends : List ℕ) (play : List Bool) (L : Plan v ends play) (t fs ns st q out : List ℕ) (n d m : ℕ) (ec : d ∷ q ≡ cycle v ends play (first_channel v ends play))
    (en : n ≡ length q) (em : m ≡ n + 1) (eo : out ≡ q ++ drop (length q) (take (length st - 2) (drop 2 st))) (h : 2 + length q ≤ length st)
    (lt : length t ≡ length ends) (lf : length play + 2 ≤ length fs) (ln : length play + 2 ≤ length ns) (ls : 4 * length play + v + 4 ≤ length st) where
  abbrev buffer : List ℕ
  buffer = set (set (put st 2 out) 0 m) 1 d

  buffer_is : buffer ≡ cycled_buffer st q d
  buffer_is =
      ap (λ (k : ℕ). set (set (put st 2 out) 0 k) 1 d) (em ∙ ap (λ (k : ℕ). k + 1) en) ∙ ap (λ (w : List ℕ). set (set (put st 2 w) 0 (length q + 1)) 1 d) eo

  slice_cycle : take (n + 2 - 1) (drop 1 buffer) ≡ d ∷ q
  slice_cycle = ap (λ (k : ℕ). take (k + 2 - 1) (drop 1 buffer)) en ∙ ap (λ (w : List ℕ). take (length q + 2 - 1) (drop 1 w)) buffer_is ∙ cycled_path st q d h

  pub ask_begin : Cyclic t fs ns (take (n + 2 - 1) (drop 1 (set (set (put st 2 out) 0 m) 1 d)))
  ask_begin = can_begin v ends play L t fs ns (take (n + 2 - 1) (drop 1 buffer)) (slice_cycle ∙ ec) lt lf ln

  pub laid_cycle : (t' fs' ns' st' : List ℕ) → Begun t fs ns (take (n + 2 - 1) (drop 1 (set (set (put st 2 out) 0 m) 1 d))) t' fs' ns' → st' ≡ set (set (put st 2 out) 0 m) 1 d → length st' ≡ length st
      → Standing v ends play (start v ends play (first_channel v ends play)) t' fs' ns' st' 2 (n + 2)
  laid_cycle t' fs' ns' st' B e l =
      let k : length (d ∷ q) + 1 ≡ n + 2 = omega (arith, en) in
      subst (λ (w : ℕ). Standing v ends play (start v ends play (first_channel v ends play)) t' fs' ns' st' 2 w) k
      (did_begin v ends play L t fs ns (d ∷ q) t' fs' ns' st' ec lt lf ln (omega arith) (subst (λ (w : List ℕ). Begun t fs ns w t' fs' ns') slice_cycle B)
      (ap (λ (w : ℕ). take w st') (k ∙ ap (λ (w : ℕ). w + 2) en) ∙ ap (take (length q + 2)) (e ∙ buffer_is) ∙ cycled st q d h))
