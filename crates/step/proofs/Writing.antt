-- The story (specs, "Stories") as it is written: an entry behind what stands there, and the first cycle at the front.
--   three st n           the first n + 3 of st, the last three by name
-- story_more: the story with one path more. entered: the entry of a path, written behind the story. entered_path: the path in it. cycled, cycled_path: so it is with the first cycle.
-- Assumes nothing.
use mathlib.Core.Path.{◌≡◌, refl, sym, ap, ◌∙◌, subst}
use mathlib.Core.List.{List, [], ◌∷◌, ◌++◌, map, append-nil, append_assoc}
use Prim.Native.Nat.{ℕ, suc, ◌+◌, ◌-◌, ◌≤◌}
use native.Mathlib.Omega.{arith}
use lib.ListN.{length, get_or, set, take, drop, length-append, length-take, length-drop}
use lib.Seq.{take-add, drop-cons, take_at, drop_at, length-take-le}
use Rattle.rules.specs.Lists.{concat}
use Rattle.rules.specs.Laying.{Path}
use Rattle.step.specs.Stories.{entry_of, story_of}

-- ---- one path more

concat_more : (ps : List Path) (q : Path) → concat (map entry_of (ps ++ (q ∷ []))) ≡ concat (map entry_of ps) ++ entry_of q
unfolding concat
concat_more [] q = append-nil (entry_of q)
concat_more (p ∷ ps) q = ap (λ (l : List ℕ). entry_of p ++ l) (concat_more ps q) ∙ sym (append_assoc (entry_of p) (concat (map entry_of ps)) (entry_of q))

pub story_more : (cyc : List ℕ) (ps : List Path) (q : Path) → story_of cyc (ps ++ (q ∷ [])) ≡ story_of cyc ps ++ entry_of q
unfolding story_of
story_more cyc ps q = ap (λ (l : List ℕ). length cyc ∷ cyc ++ l) (concat_more ps q) ∙ ap (λ (l : List ℕ). length cyc ∷ l) (sym (append_assoc cyc (concat (map entry_of ps)) (entry_of q)))

-- ---- the entry of a path

three : (st : List ℕ) (n : ℕ) → n + 3 ≤ length st → take (n + 3) st ≡ take n st ++ (get_or st n 0 ∷ get_or st (suc n) 0 ∷ get_or st (suc (suc n)) 0 ∷ [])
three st n h =
    take-add n 3 st ∙ ap (λ (l : List ℕ). take n st ++ take 3 l)
    (drop-cons st n 0 (omega arith) ∙ ap (λ (l : List ℕ). get_or st n 0 ∷ l)
    (drop-cons st (suc n) 0 (omega arith) ∙ ap (λ (l : List ℕ). get_or st (suc n) 0 ∷ l) (drop-cons st (suc (suc n)) 0 (omega arith))))

written : (s r : List ℕ) (a b c k i m : ℕ) → set (set (set (s ++ (a ∷ b ∷ c ∷ r)) (length s) k) (suc (length s)) i) (suc (suc (length s))) m ≡ s ++ (k ∷ i ∷ m ∷ r)
written [] r a b c k i m = refl
written (x ∷ s) r a b c k i m = ap (λ (l : List ℕ). x ∷ l) (written s r a b c k i m)

-- the tail of a buffer from f on, put back with q at its front
abbrev pub back : List ℕ → ℕ → List ℕ → List ℕ
back st f q = take f st ++ ((q ++ drop (length q) (take (length st - f) (drop f st))) ++ drop (length st - f) (drop f st))

pub entered_path : (st q : List ℕ) (f : ℕ) → f + length q ≤ length st → take (f + length q - f) (drop f (back st f q)) ≡ q
entered_path st q f h =
    let e : f + length q - f ≡ length q = omega arith in
    let l : length (take f st) ≡ f = length-take-le f st (omega arith) in
    rw (e, drop_at (take f st) ((q ++ drop (length q) (take (length st - f) (drop f st))) ++ drop (length st - f) (drop f st)) f l)
    (rw (append_assoc q (drop (length q) (take (length st - f) (drop f st))) (drop (length st - f) (drop f st))) (take_at q (drop (length q) (take (length st - f) (drop f st)) ++ drop (length st - f) (drop f st)) (length q) refl))

pub entered : (st s q : List ℕ) (n k i : ℕ) → take n st ≡ s → n + 3 + length q ≤ length st
    → take (n + 3 + length q) (set (set (set (back st (n + 3) q) n k) (n + 1) i) (n + 2) (length q)) ≡ s ++ (k ∷ i ∷ length q ∷ q)
entered st s q n k i e h =
    let l : length s ≡ n = ap length (sym e) ∙ length-take-le n st (omega arith) in
    let r = drop (length q) (take (length st - (n + 3)) (drop (n + 3) st)) ++ drop (length st - (n + 3)) (drop (n + 3) st) in
    let a = get_or st n 0 in
    let b = get_or st (suc n) 0 in
    let c = get_or st (suc (suc n)) 0 in
    let n1 : n + 1 ≡ suc n = omega arith in
    let n2 : n + 2 ≡ suc (suc n) = omega arith in
    let p : back st (n + 3) q ≡ s ++ (a ∷ b ∷ c ∷ (q ++ r))
    = ap (λ (m : List ℕ). m ++ ((q ++ drop (length q) (take (length st - (n + 3)) (drop (n + 3) st))) ++ drop (length st - (n + 3)) (drop (n + 3) st))) (three st n (omega arith) ∙ ap (λ (m : List ℕ). m ++ (a ∷ b ∷ c ∷ [])) e)
    ∙ append_assoc s (a ∷ b ∷ c ∷ []) _
    ∙ ap (λ (m : List ℕ). s ++ (a ∷ b ∷ c ∷ m)) (append_assoc q (drop (length q) (take (length st - (n + 3)) (drop (n + 3) st))) (drop (length st - (n + 3)) (drop (n + 3) st))) in
    let w : set (set (set (s ++ (a ∷ b ∷ c ∷ (q ++ r))) n k) (n + 1) i) (n + 2) (length q) ≡ s ++ (k ∷ i ∷ length q ∷ (q ++ r))
    = rw (n1, n2) (subst (λ (m : ℕ). set (set (set (s ++ (a ∷ b ∷ c ∷ (q ++ r))) m k) (suc m) i) (suc (suc m)) (length q) ≡ s ++ (k ∷ i ∷ length q ∷ (q ++ r))) l (written s (q ++ r) a b c k i (length q))) in
    ap (λ (m : List ℕ). take (n + 3 + length q) (set (set (set m n k) (n + 1) i) (n + 2) (length q))) p
    ∙ ap (take (n + 3 + length q)) (w ∙ sym (append_assoc s (k ∷ i ∷ length q ∷ q) r))
    ∙ take_at (s ++ (k ∷ i ∷ length q ∷ q)) r (n + 3 + length q) (length-append s (k ∷ i ∷ length q ∷ q) ∙ omega (arith, l))

-- ---- the first cycle

two : (st : List ℕ) → 2 ≤ length st → take 2 st ≡ get_or st 0 0 ∷ get_or st 1 0 ∷ []
two st h = ap (take 2) (drop-cons st 0 0 (omega arith) ∙ ap (λ (l : List ℕ). get_or st 0 0 ∷ l) (drop-cons st 1 0 (omega arith)))

-- the buffer with the number n + 1 and the dart d before q
abbrev pub cycled_buffer : List ℕ → List ℕ → ℕ → List ℕ
cycled_buffer st q d = set (set (back st 2 q) 0 (length q + 1)) 1 d

cycled_all : (st q : List ℕ) (d : ℕ) → 2 + length q ≤ length st
    → cycled_buffer st q d ≡ ((length q + 1) ∷ d ∷ q) ++ (drop (length q) (take (length st - 2) (drop 2 st)) ++ drop (length st - 2) (drop 2 st))
cycled_all st q d h =
    ap (λ (m : List ℕ). set (set (m ++ ((q ++ drop (length q) (take (length st - 2) (drop 2 st))) ++ drop (length st - 2) (drop 2 st))) 0 (length q + 1)) 1 d) (two st (omega arith))
    ∙ ap (λ (m : List ℕ). (length q + 1) ∷ d ∷ m) (append_assoc q (drop (length q) (take (length st - 2) (drop 2 st))) (drop (length st - 2) (drop 2 st)))

pub cycled_path : (st q : List ℕ) (d : ℕ) → 2 + length q ≤ length st → take (length q + 2 - 1) (drop 1 (cycled_buffer st q d)) ≡ d ∷ q
cycled_path st q d h =
    let e : length q + 2 - 1 ≡ suc (length q) = omega arith in
    rw (e, cycled_all st q d h) (take_at (d ∷ q) (drop (length q) (take (length st - 2) (drop 2 st)) ++ drop (length st - 2) (drop 2 st)) (suc (length q)) refl)

pub cycled : (st q : List ℕ) (d : ℕ) → 2 + length q ≤ length st → take (length q + 2) (cycled_buffer st q d) ≡ story_of (d ∷ q) []
unfolding story_of concat
cycled st q d h =
    let e : length q + 2 ≡ suc (suc (length q)) = omega arith in
    let n : length q + 1 ≡ suc (length q) = omega arith in
    rw (e, cycled_all st q d h) (take_at ((length q + 1) ∷ d ∷ q) (drop (length q) (take (length st - 2) (drop 2 st)) ++ drop (length st - 2) (drop 2 st)) (suc (suc (length q))) refl ∙ ap (λ (m : ℕ). m ∷ d ∷ q) n ∙ ap (λ (m : List ℕ). suc (length q) ∷ d ∷ m) (sym (append-nil q)))

-- the part of a buffer from f on
pub part_long : (st : List ℕ) (f v : ℕ) → f + v ≤ length st → v ≤ length (take (length st - f) (drop f st))
part_long st f v h = simp (length-take, length-drop) (omega arith)

-- what is written at the front of a part fits it
pub front_room : (st q out w : List ℕ) (f : ℕ) → out ≡ q ++ w → length out ≡ length (take (length st - f) (drop f st)) → f ≤ length st → f + length q ≤ length st
front_room st q out w f e l h =
    let p : length out ≡ length q + length w = ap length e ∙ length-append q w in
    let m : length (take (length st - f) (drop f st)) ≡ length st - f = simp (length-take, length-drop) (omega arith) in
    omega (arith, p, l, m)
