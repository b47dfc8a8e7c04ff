-- The bytes of a sheet (rules, `file_of`), as they are put into a buffer one part behind the other.
-- put_mid: a part that was lent, put back. put_head: the bytes before the pairs. put_turn: the bytes of one turn more. put_sheet: the three parts of a sheet.
-- pairs_start: the pairs begin at byte 8. part_size, middle_size, whole, mid_size: a part of the buffer that is lent, what is written whole, and the buffer when it comes back.
-- Assumes nothing.
use mathlib.Core.Path.{◌≡◌, refl, sym, ap, ◌∙◌}
use mathlib.Core.List.{List, [], ◌∷◌, ◌++◌, map, append_assoc, append-nil, map-append}
use Prim.Native.Nat.{ℕ, suc, ◌+◌, ◌-◌, ◌*◌, ◌%◌, ◌≤◌, ◌<◌}
use native.Mathlib.Numerals.{add-one}
use native.Mathlib.Omega.{arith}
use lib.ListN.{length, get_or, set, take, drop, length-append, length-take, length-drop, drop_of_length-le}
use lib.Seq.{take_at, drop_at, take_all, drop-drop, take-suc, drop-cons}
use Rattle.rules.specs.Lists.{concat, text, bytes}
use Rattle.rules.specs.Files.{sheet_file, pairs_at, file_length, file_of}
use Rattle.laws.proofs.RoundTrip.{length_parts}
use Rattle.plate.proofs.Laws.{length_sheet}
use Rattle.draft.specs.Parts.{head_of}

-- ---- stores

-- a part of the buffer that was lent, when it comes back
pub put_mid : (o ys vs : List ℕ) (at end : ℕ) → at ≤ end → ys ≡ vs → take at o ++ (ys ++ drop (end - at) (drop at o)) ≡ take at o ++ vs ++ drop end o
put_mid o ys vs at end h e =
    ap (λ (l : List ℕ). take at o ++ (l ++ drop (end - at) (drop at o))) e ∙ ap (λ (l : List ℕ). take at o ++ (vs ++ l)) (drop-drop (end - at) at o ∙ ap (λ (n : ℕ). drop n o) all) ∙ sym (append_assoc (take at o) vs (drop end o))
  where
    all : at + (end - at) ≡ end
    all = omega arith

head_size : (v e : ℕ) → length (head_of v e) ≡ 8
unfolding head_of bytes text
head_size v e = refl

pub pairs_start : pairs_at sheet_file ≡ 8
unfolding pairs_at
pairs_start = refl

-- the mark is stored in as many bytes as were lent
pub marked : (o x : List ℕ) → pairs_at sheet_file ≤ length o → x ≡ sheet_file.mark → length (x ++ drop 3 o) ≡ length o
unfolding text
marked o x h e = length-append x (drop 3 o) ∙ omega (arith, ap length e, length-drop 3 o, pairs_start, h)

-- the bytes before the pairs, stored one behind the other
pub put_head : (v e : ℕ) (o x y z : List ℕ) → v < 256 → pairs_at sheet_file ≤ length o → x ≡ sheet_file.mark ++ drop 3 o → y ≡ take 3 x ++ bytes 2 sheet_file.version ++ drop 5 x
    → z ≡ take 6 (set y 5 v) ++ bytes 2 e ++ drop 8 (set y 5 v) → z ≡ head_of v e ++ drop (pairs_at sheet_file) o
unfolding head_of bytes text pairs_at
put_head v e o x y z h l p q r =
    r ∙ ap (λ (w : List ℕ). take 6 (set w 5 v) ++ bytes 2 e ++ drop 8 (set w 5 v)) (q ∙ ap (λ (w : List ℕ). take 3 w ++ bytes 2 sheet_file.version ++ drop 5 w) (p ∙ ap (λ (w : List ℕ). sheet_file.mark ++ w) five))
    ∙ ap (λ (n : ℕ). sheet_file.mark ++ bytes 2 sheet_file.version ++ (n ∷ []) ++ bytes 2 e ++ drop 8 o) small
  where
    five : drop 3 o ≡ get_or o 3 0 ∷ get_or o 4 0 ∷ get_or o 5 0 ∷ get_or o 6 0 ∷ get_or o 7 0 ∷ drop 8 o
    five =
        drop-cons o 3 0 (omega arith)
        ∙ ap (λ (w : List ℕ). get_or o 3 0 ∷ w) (drop-cons o 4 0 (omega arith)
        ∙ ap (λ (w : List ℕ). get_or o 4 0 ∷ w) (drop-cons o 5 0 (omega arith)
        ∙ ap (λ (w : List ℕ). get_or o 5 0 ∷ w) (drop-cons o 6 0 (omega arith) ∙ ap (λ (w : List ℕ). get_or o 6 0 ∷ w) (drop-cons o 7 0 (omega arith)))))

    small : v ≡ v % 256
    small = omega arith

-- ---- parts of the buffer

pub part_size : (xs : List ℕ) (a : ℕ) → a ≤ length xs → length (take (length xs - a) (drop a xs)) ≡ length xs - a
part_size xs a h = simp (length-take, length-drop) (omega arith)

pub middle_size : (o : List ℕ) (at n : ℕ) → at + n ≤ length o → length (take (at + n - at) (drop at o)) ≡ n
middle_size o at n h = simp (length-take, length-drop) (omega arith)

-- a part that is written whole
pub whole : (vs part : List ℕ) → length part ≡ length vs → vs ++ drop (length vs) part ≡ vs
whole vs part e = ap (λ (l : List ℕ). vs ++ l) (drop_of_length-le part (omega (arith, e))) ∙ append-nil vs

-- the buffer is as long as before
pub mid_size : (o ys : List ℕ) (at n : ℕ) → at + n ≤ length o → length ys ≡ n → length (take at o ++ (ys ++ drop (at + n - at) (drop at o))) ≡ length o
mid_size o ys at n h e = simp (length-append, length-take, length-drop) (omega (arith, e))

-- the buffer xs begins with w; its part from there on is written and comes back as ys, which begins with vs
put_behind : (old w vs xs ys : List ℕ) (a k : ℕ) → length w ≡ a → a ≤ length old → xs ≡ w ++ drop a old → ys ≡ vs ++ drop k (take (length xs - a) (drop a xs))
    → take a xs ++ (ys ++ drop (length xs - a) (drop a xs)) ≡ w ++ vs ++ drop (a + k) old
put_behind old w vs xs ys a k e h p q =
    let behind : drop a xs ≡ drop a old = ap (drop a) p ∙ drop_at w (drop a old) a e in
    let size : length xs ≡ length old = ap length p ∙ simp (length-append, length-drop) (omega arith) in
    let l : length (drop a old) ≤ length xs - a = simp length-drop (omega (arith, size)) in
    rw (q, behind, take_all (length xs - a) (drop a old) l, drop_of_length-le (drop a old) l, drop-drop k a old, p, take_at w (drop a old) a e) (simp (append_assoc, append-nil))

-- ---- the turns

concat_append : (a b : List (List ℕ)) → concat (a ++ b) ≡ concat a ++ concat b
unfolding concat
concat_append [] b = refl
concat_append (l ∷ a) b = ap (λ (m : List ℕ). l ++ m) (concat_append a b) ∙ sym (append_assoc l (concat a) (concat b))

turns_more : (ts : List ℕ) (i : ℕ) → i < length ts → concat (map (bytes 2) (take (i + 1) ts)) ≡ concat (map (bytes 2) (take i ts)) ++ bytes 2 (get_or ts i 0)
unfolding concat
turns_more ts i h =
    rw (add-one, take-suc ts i 0 h, map-append (bytes 2) (take i ts) (get_or ts i 0 ∷ []), concat_append (map (bytes 2) (take i ts)) (bytes 2 (get_or ts i 0) ∷ []))
    (ap (λ (m : List ℕ). concat (map (bytes 2) (take i ts)) ++ m) (append-nil (bytes 2 (get_or ts i 0))))

pub put_turn : (ts o part new : List ℕ) (i : ℕ) → i < length ts → 2 * length ts ≤ length o → part ≡ concat (map (bytes 2) (take i ts)) ++ drop (2 * i) o → new ≡ take (2 * i) part ++ bytes 2 (get_or ts i 0) ++ drop (2 * i + 2) part
    → new ≡ concat (map (bytes 2) (take (i + 1) ts)) ++ drop (2 * (i + 1)) o
put_turn ts o part new i h g p r =
    let w = concat (map (bytes 2) (take i ts)) in
    let n : length w ≡ 2 * i = length_parts 2 (take i ts) ∙ simp length-take (omega arith) in
    let m : 2 * (i + 1) ≡ 2 * i + 2 = omega arith in
    r ∙ ap (λ (l : List ℕ). take (2 * i) l ++ bytes 2 (get_or ts i 0) ++ drop (2 * i + 2) l) p
    ∙ ap (λ (l : List ℕ). l ++ bytes 2 (get_or ts i 0) ++ drop (2 * i + 2) (w ++ drop (2 * i) o)) (take_at w (drop (2 * i) o) (2 * i) n)
    ∙ ap (λ (l : List ℕ). w ++ bytes 2 (get_or ts i 0) ++ l) (sym (drop-drop 2 (2 * i) (w ++ drop (2 * i) o)) ∙ ap (drop 2) (drop_at w (drop (2 * i) o) (2 * i) n) ∙ drop-drop 2 (2 * i) o)
    ∙ rw (m, turns_more ts i h) refl

-- ---- the pairs

-- numbers below 256 are their own bytes
pairs_bytes : (l : List ℕ) → ((i : ℕ) → i < length l → get_or l i 0 < 256) → concat (map (bytes 1) l) ≡ l
unfolding concat bytes
pairs_bytes [] h = refl
pairs_bytes (p ∷ l) h =
    let e : p % 256 ≡ p = omega (arith, h 0 (omega arith)) in
    ap (λ (q : ℕ). q ∷ concat (map (bytes 1) l)) e ∙ ap (λ (m : List ℕ). p ∷ m) (pairs_bytes l (λ i k. h (suc i) (omega arith)))

-- ---- the sheet

sheet_parts : (v e : ℕ) (pairs turns : List ℕ) → ((i : ℕ) → i < length pairs → get_or pairs i 0 < 256) → file_of sheet_file v e pairs turns ≡ head_of v e ++ pairs ++ concat (map (bytes 2) turns)
unfolding file_of head_of
sheet_parts v e pairs turns h = ap (λ (m : List ℕ). head_of v e ++ m ++ concat (map (bytes 2) turns)) (pairs_bytes pairs h)

-- the three parts, one put behind the other
pub put_sheet : (v e : ℕ) (o pairs turns x y xs z : List ℕ) → length pairs ≡ 2 * e → length turns ≡ 2 * e → file_length sheet_file e ≤ length o → ((i : ℕ) → i < length pairs → get_or pairs i 0 < 256)
    → x ≡ head_of v e ++ drop (pairs_at sheet_file) o → y ≡ pairs → xs ≡ take 8 x ++ (y ++ drop (8 + length pairs - 8) (drop 8 x))
    → z ≡ concat (map (bytes 2) turns) ++ drop (2 * length turns) (take (length xs - (8 + length pairs)) (drop (8 + length pairs) xs))
    → take (8 + length pairs) xs ++ (z ++ drop (length xs - (8 + length pairs)) (drop (8 + length pairs) xs)) ≡ file_of sheet_file v e pairs turns ++ drop (file_length sheet_file e) o
put_sheet v e o pairs turns x y xs z p t h b ex ey es ez =
    let long = length_sheet e in
    let head : x ≡ head_of v e ++ drop 8 o = ex ∙ ap (λ (n : ℕ). head_of v e ++ drop n o) pairs_start in
    let behind : drop (8 + length pairs) x ≡ drop (8 + length pairs) o = sym (drop-drop (length pairs) 8 x) ∙ ap (drop (length pairs)) (ap (drop 8) head ∙ drop_at (head_of v e) (drop 8 o) 8 (head_size v e)) ∙ drop-drop (length pairs) 8 o in
    let first : xs ≡ head_of v e ++ pairs ++ drop (8 + length pairs) o =
    es ∙ put_mid x y pairs 8 (8 + length pairs) (omega arith) ey ∙ ap (λ (l : List ℕ). l ++ pairs ++ drop (8 + length pairs) x) (ap (take 8) head ∙ take_at (head_of v e) (drop 8 o) 8 (head_size v e))
    ∙ ap (λ (l : List ℕ). head_of v e ++ pairs ++ l) behind in
    let n : length (head_of v e ++ pairs) ≡ 8 + length pairs = simp length-append (omega (arith, head_size v e)) in
    let m : 8 + length pairs + 2 * length turns ≡ file_length sheet_file e = omega arith in
    put_behind o (head_of v e ++ pairs) (concat (map (bytes 2) turns)) xs z (8 + length pairs) (2 * length turns) n (omega arith) first ez
    ∙ ap (λ (l : List ℕ). l ++ drop (8 + length pairs + 2 * length turns) o) (sym (sheet_parts v e pairs turns b)) ∙ ap (λ (k : ℕ). file_of sheet_file v e pairs turns ++ drop k o) m
