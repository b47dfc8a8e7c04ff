-- The table of refusals (document 01, "Refusal numbers"), row by row: a file is refused with the number and the place of the first row that applies, and given where none does.
--   Row                         a number, and what it means that its refusal applies with the place p
--   Refuses rs n p              n and p are the number and a place of the first row of rs that applies
--   Passes rs                   no row of rs applies
--   Exact a x rs                the answer a is the refusal that the rows rs give and, where none applies, x; it gives nothing else
--   plain n C, placed n m P     a row with place 0, where C holds; one whose place is the lowest number below m of which P holds
--   SamePair ends j k           channels j and k have the same pair, either way round
--   file_rows, piece_rows, turn_rows, lent_row, stuck_row      the rows 1 to 9, 10 and 11, 12 to 14, 15, and 16
--   plate_rows, sheet_rows        the rows of a plate file, and of a turn sheet
-- exact_then: tests in a row. exact_one, exact_either: the rows determine the answer. read_plate_exact, read_turns_exact: the two kinds of file. lay_plate_exact, write_sheet_exact, write_listing_exact, read_sheet_exact, judge_sheet_exact: the calls.
-- Assumes nothing.
use mathlib.Core.Path.{◌≡◌, refl, subst, sym, ap, ◌∙◌}
use mathlib.Core.Logic.{⊎_elim, ◌≢◌, ◌⊎◌, inl, inr, ◌↔◌}
use mathlib.Core.Bool.{Bool, not, true, false, ◌&&◌}
use mathlib.Core.List.{List, [], ◌∷◌, ◌++◌}
use Prim.Native.Nat.{ℕ, ◌<◌, ◌≤◌, ◌*◌}
use native.Mathlib.Omega.{arith}
use lib.Dec.{T, ltb, ltb→lt, lt→ltb, eqb, eqb→eq, leb, leb→le, le→leb, not_T}
use lib.ListN.{length, get_or, replicate, length-replicate}
use Rattle.rules.specs.Lists.{from, any, all, number}
use Rattle.rules.specs.Terms.{leaves, enters}
use Rattle.rules.specs.Files.{Format, plate_file, sheet_file, ports_in, channels_in, pairs_at, ends_in, turns_in, file_length, file_of}
use Rattle.rules.specs.Refusals.{Answer, given, refused, ◌>>=◌, Test, ◌>>◌, passed, refuse, refuse_at, short, other_mark, other_version, mark_tests, outside, other_length, count_tests, strange, loop, same_pair, met_earlier, pair_tests, file_tests, itself, apart, cuts, piece_tests, wild_turn, away_turn, broken_ring, turn_tests, Plate, read_plate, Sheet, read_turns, Lent, lent_test}
use Rattle.rules.specs.Laying.{State, STUCK, FLAT, PARTIAL, Word, Outcome, without_cap, laid_out, lands_of_flat, lay_plate}
use Rattle.rules.specs.Sheets.{judged, judge_sheet, read_sheet, stuck_test, write_sheet}
use Rattle.rules.specs.Listing.{listing, most_listing, write_listing}
use Rattle.laws.proofs.Tests.{eq_eqb, neqb_ne, ne_neqb, and_T, T_and, or_T, T_or₁, T_or₂}
use Rattle.laws.proofs.Lists.{any_T, T_any, not_all, all_T, count_from, from_lt}
use Rattle.laws.proofs.Refusals.{refused_not, given_inj, file_tests_passed, length_ends}
use Rattle.laws.proofs.Reading.{plate_in}
use Rattle.laws.proofs.FragmentMeaning.{In, any_in, in_any}
use Rattle.laws.proofs.Counting.{stuck_flat, stuck_partial}
use Rattle.laws.proofs.RefusalMeaning.{refused_inj, then_refused, then_given_iff, LowestWhere, Tells, refuse_at_number, refuse_at_none, refuse_at_clear, refuse_at_itself, Apart, Cuts, apart_tells, cuts_tells, Wild, Away, Broken, wild_tells, away_tells, broken_tells, pass_12, pass_13}

-- ---- rows

pub record Row : Type 1 where
  pub number : ℕ
  pub applies : ℕ → Type 0

abbrev pub Refuses : List Row → ℕ → ℕ → Type 0
Refuses [] n p = ⊥
Refuses (r ∷ rs) n p = ((n ≡ r.number) × r.applies p) ⊎ (((q : ℕ) → r.applies q → ⊥) × Refuses rs n p)

abbrev pub Passes : List Row → Type 0
Passes [] = Unit {0}
Passes (r ∷ rs) = ((q : ℕ) → r.applies q → ⊥) × Passes rs

pub record Exact {A : Type 0} (a : Answer A) (x : A) (rs : List Row) : Type 0 where
  pub refusals : (n p : ℕ) → (a ≡ refused n p) ↔ Refuses rs n p
  pub gives : (a ≡ given x) ↔ Passes rs
  pub only : (y : A) → a ≡ given y → y ≡ x

refuses_append : (rs ss : List Row) (n p : ℕ) → Refuses (rs ++ ss) n p ↔ (Refuses rs n p ⊎ (Passes rs × Refuses ss n p))
refuses_append [] ss n p = ((λ h. inr (tt, h)), (λ h. ⊎_elim (λ k. absurd k) (λ k. k.1) h))
refuses_append (r ∷ rs) ss n p =
    let i = refuses_append rs ss n p in (
      (λ h. ⊎_elim (λ k. inl (inl k)) (λ k. ⊎_elim (λ x. inl (inr (k.0, x))) (λ x. inr ((k.0, x.0), x.1)) (i.0 k.1)) h),
      (λ h. ⊎_elim (λ k. ⊎_elim (λ x. inl x) (λ x. inr (x.0, i.1 (inl x.1))) k) (λ k. inr (k.0.0, i.1 (inr (k.0.1, k.1)))) h),
    )

passes_append : (rs ss : List Row) → Passes (rs ++ ss) ↔ (Passes rs × Passes ss)
passes_append [] ss = ((λ h. (tt, h)), (λ h. h.1))
passes_append (r ∷ rs) ss = let i = passes_append rs ss in ((λ h. ((h.0, (i.0 h.1).0), (i.0 h.1).1)), (λ h. (h.0.0, i.1 (h.0.1, h.1))))

-- Tests in a row: the first that refuses is the one.
pub exact_then : {B : Type 0} (t : Test) (a : Answer B) (y : B) (rs ss : List Row) → Exact t tt rs → (Passes rs → Exact a y ss) → Exact (t >> a) y (rs ++ ss)
exact_then t a y rs ss E F = record {
  refusals = λ n p. (
    (λ h. (refuses_append rs ss n p).1 (⊎_elim (λ k. inl ((E.refusals n p).0 k)) (λ k. let c = E.gives.0 k.0 in inr (c, ((F c).refusals n p).0 k.1)) ((then_refused t a n p).0 h))),
    (λ h. (then_refused t a n p).1 (⊎_elim (λ k. inl ((E.refusals n p).1 k)) (λ k. inr (E.gives.1 k.0, ((F k.0).refusals n p).1 k.1)) ((refuses_append rs ss n p).0 h))),
  );
  gives = (
    (λ h. let k = (then_given_iff t a y).0 h in let c = E.gives.0 k.0 in (passes_append rs ss).1 (c, (F c).gives.0 k.1)),
    (λ h. let k = (passes_append rs ss).0 h in (then_given_iff t a y).1 (E.gives.1 k.0, (F k.0).gives.1 k.1)),
  );
  only = λ z h. let k = (then_given_iff t a z).0 h in (F (E.gives.0 k.0)).only z k.1;
}

-- The rows leave no choice: one refusal, with one place, or none.
pub exact_one : {A : Type 0} (a : Answer A) (x : A) (rs : List Row) → Exact a x rs → (n p m q : ℕ) → Refuses rs n p → Refuses rs m q → (n ≡ m) × (p ≡ q)
exact_one a x rs E n p m q h k = refused_inj n p m q (sym ((E.refusals n p).1 h) ∙ (E.refusals m q).1 k)

pub exact_either : {A : Type 0} (a : Answer A) (x : A) (rs : List Row) → Exact a x rs → (Passes rs) ⊎ ((n : ℕ) × ((p : ℕ) × Refuses rs n p))
exact_either (given y) x rs E = inl (E.gives.0 (ap given (E.only y refl)))
exact_either (refused n p) x rs E = inr (n, (p, (E.refusals n p).0 refl))

exact_given : {A : Type 0} (x : A) → Exact (given x) x []
exact_given x = record { refusals = λ n p. ((λ h. refused_not n p x (sym h)), (λ h. absurd h)); gives = ((λ h. tt), (λ h. refl)); only = λ y h. given_inj y x (sym h) }

-- ---- one test

-- a refusal with place 0, where C holds
abbrev pub plain : ℕ → Type 0 → Row
plain n C = record { number = n; applies = λ p. (p ≡ 0) × C }

-- a refusal at the lowest of m numbers of which P holds
abbrev pub placed : ℕ → ℕ → (ℕ → Type 0) → Row
placed n m P = record { number = n; applies = LowestWhere P m }

exact_refuse : (n : ℕ) (bad : Bool) (C : Type 0) → T bad ↔ C → Exact (refuse n bad) tt (plain n C ∷ [])
unfolding refuse
exact_refuse n true C e = record {
  refusals = λ k p. (
    (λ h. let i = refused_inj n 0 k p h in inl (sym i.0, (sym i.1, e.0 tt))),
    (λ h. ⊎_elim (λ j. λ i. refused (sym j.0 i) (sym j.1.0 i)) (λ j. absurd j.1) h),
  );
  gives = ((λ h. absurd (refused_not n 0 tt h)), (λ h. absurd (h.0 0 (refl, e.0 tt))));
  only = λ y h. refl;
}
exact_refuse n false C e = record {
  refusals = λ k p. ((λ h. absurd (refused_not k p tt (sym h))), (λ h. ⊎_elim (λ j. absurd (e.1 j.1.1)) (λ j. absurd j.1) h));
  gives = ((λ h. ((λ q k. e.1 k.1), tt)), (λ h. refl));
  only = λ y h. refl;
}

exact_refuse_at : (n : ℕ) (bad : ℕ → Bool) (m : ℕ) (P : ℕ → Type 0) → Tells bad m P → Exact (refuse_at n itself bad m) tt (placed n m P ∷ [])
exact_refuse_at n bad m P tells = record {
  refusals = λ k p. (
    (λ h. let e = refuse_at_number n itself bad m k p h in inl (sym e, (refuse_at_itself n bad m P tells p).0 (subst (λ (z : ℕ). refuse_at n itself bad m ≡ refused z p) (sym e) h))),
    (λ h. ⊎_elim (λ j. subst (λ (z : ℕ). refuse_at n itself bad m ≡ refused z p) (sym j.0) ((refuse_at_itself n bad m P tells p).1 j.1)) (λ j. absurd j.1) h),
  );
  gives = ((λ h. ((λ q k. (refuse_at_none n itself bad m P tells).0 h q k.0 k.1), tt)), (λ h. refuse_at_clear n itself bad m P tells h.0));
  only = λ y h. refl;
}

-- ---- 1 to 9

abbrev pub SamePair : List ℕ → ℕ → ℕ → Type 0
SamePair ends j k =
    ((leaves ends (2 * j) ≡ leaves ends (2 * k)) × (enters ends (2 * j) ≡ enters ends (2 * k)))
    ⊎ ((leaves ends (2 * j) ≡ enters ends (2 * k)) × (enters ends (2 * j) ≡ leaves ends (2 * k)))

abbrev pub mark_rows : Format → List ℕ → List Row
mark_rows f b =
    -- fewer than 8 bytes
    plain 1 (length b < pairs_at f)
    -- wrong mark
    ∷ plain 2 ((i : ℕ) × (i < 3) × (get_or b i 0 ≢ get_or f.mark i 0))
    -- version not 1
    ∷ plain 3 (number 2 3 b ≢ f.version)
    ∷ []

abbrev pub count_rows : Format → List ℕ → List Row
count_rows f b =
    -- V outside 3..200
    plain 4 ((ports_in f b < f.limits.least_ports) ⊎ (f.limits.most_ports < ports_in f b))
    -- E outside 3..600
    ∷ plain 5 ((channels_in f b < f.limits.least_channels) ⊎ (f.limits.most_channels < channels_in f b))
    -- length differs from the layout
    ∷ plain 6 (length b ≢ file_length f (channels_in f b))
    ∷ []

abbrev pub pair_rows : ℕ → List ℕ → ℕ → List Row
pair_rows v ends e =
    -- a port number of V or more
    placed 7 e (λ k. (v ≤ leaves ends (2 * k)) ⊎ (v ≤ enters ends (2 * k)))
    -- both ends of a channel equal
    ∷ placed 8 e (λ k. leaves ends (2 * k) ≡ enters ends (2 * k))
    -- a pair met earlier, either way round
    ∷ placed 9 e (λ k. (j : ℕ) × (j < k) × SamePair ends j k)
    ∷ []

abbrev pub file_rows : Format → List ℕ → List Row
file_rows f b = mark_rows f b ++ count_rows f b ++ pair_rows (ports_in f b) (ends_in f b) (channels_in f b)

marks_exact : (f : Format) (b : List ℕ) → Exact (mark_tests f b) tt (mark_rows f b)
unfolding mark_tests short other_mark other_version
marks_exact f b =
    exact_then (refuse 1 (short f b)) _ tt _ _ (exact_refuse 1 (short f b) _ (ltb→lt (length b) (pairs_at f), lt→ltb (length b) (pairs_at f)))
    (λ c. exact_then (refuse 2 (other_mark f b)) _ tt _ _ (exact_refuse 2 (other_mark f b) _ (differs, differ))
    (λ d. exact_refuse 3 (other_version f b) _ (neqb_ne (number 2 3 b) f.version, ne_neqb (number 2 3 b) f.version)))
  where
    same : ℕ → Bool
    same i = eqb (get_or b i 0) (get_or f.mark i 0)

    differs : T (not (all same (from 0 3))) → (i : ℕ) × (i < 3) × (get_or b i 0 ≢ get_or f.mark i 0)
    differs t = let r = not_all same (from 0 3) t in (r.0, omega (arith, from_lt r.0 0 3 r.1), neqb_ne (get_or b r.0 0) (get_or f.mark r.0 0) r.2)

    differ : (i : ℕ) × (i < 3) × (get_or b i 0 ≢ get_or f.mark i 0) → T (not (all same (from 0 3)))
    differ h = not_T (all same (from 0 3)) (λ t. h.2 (eqb→eq (get_or b h.0 0) (get_or f.mark h.0 0) (all_T same (from 0 3) h.0 t (count_from h.0 0 3 (omega arith) (omega (arith, h.1))))))

outside_iff : (low high n : ℕ) → T (outside low high n) ↔ ((n < low) ⊎ (high < n))
unfolding outside
outside_iff low high n = (
  (λ t. ⊎_elim (λ k. inl (ltb→lt n low k)) (λ k. inr (ltb→lt high n k)) (or_T (ltb n low) (ltb high n) t)),
  (λ h. ⊎_elim (λ k. T_or₁ (ltb n low) (ltb high n) (lt→ltb n low k)) (λ k. T_or₂ (ltb n low) (ltb high n) (lt→ltb high n k)) h),
)

counts_exact : (f : Format) (b : List ℕ) → Exact (count_tests f b) tt (count_rows f b)
unfolding count_tests other_length
counts_exact f b =
    exact_then (refuse 4 (outside f.limits.least_ports f.limits.most_ports (ports_in f b))) _ tt _ _ (exact_refuse 4 _ _ (outside_iff f.limits.least_ports f.limits.most_ports (ports_in f b)))
    (λ c. exact_then (refuse 5 (outside f.limits.least_channels f.limits.most_channels (channels_in f b))) _ tt _ _ (exact_refuse 5 _ _ (outside_iff f.limits.least_channels f.limits.most_channels (channels_in f b)))
    (λ d. exact_refuse 6 (other_length f b) _ (neqb_ne (length b) (file_length f (channels_in f b)), ne_neqb (length b) (file_length f (channels_in f b)))))

same_iff : (ends : List ℕ) (j k : ℕ) → T (same_pair ends j k) ↔ SamePair ends j k
unfolding same_pair
same_iff ends j k = (
  (λ t. ⊎_elim
      (λ h. let a = and_T (eqb jl kl) (eqb je ke) h in inl (eqb→eq jl kl a.0, eqb→eq je ke a.1))
      (λ h. let a = and_T (eqb jl ke) (eqb je kl) h in inr (eqb→eq jl ke a.0, eqb→eq je kl a.1))
      (or_T (eqb jl kl && eqb je ke) (eqb jl ke && eqb je kl) t)),
  (λ h. ⊎_elim
      (λ a. T_or₁ (eqb jl kl && eqb je ke) (eqb jl ke && eqb je kl) (T_and (eqb jl kl) (eqb je ke) (eq_eqb jl kl a.0) (eq_eqb je ke a.1)))
      (λ a. T_or₂ (eqb jl kl && eqb je ke) (eqb jl ke && eqb je kl) (T_and (eqb jl ke) (eqb je kl) (eq_eqb jl ke a.0) (eq_eqb je kl a.1))) h),
)
  where
    jl : ℕ
    jl = leaves ends (2 * j)

    je : ℕ
    je = enters ends (2 * j)

    kl : ℕ
    kl = leaves ends (2 * k)

    ke : ℕ
    ke = enters ends (2 * k)

pairs_exact : (v : ℕ) (ends : List ℕ) (e : ℕ) → Exact (pair_tests v ends e) tt (pair_rows v ends e)
unfolding pair_tests strange loop met_earlier
pairs_exact v ends e =
    exact_then (refuse_at 7 itself (strange v ends) e) _ tt _ _ (exact_refuse_at 7 (strange v ends) e _ strange_tells)
    (λ c. exact_then (refuse_at 8 itself (loop ends) e) _ tt _ _ (exact_refuse_at 8 (loop ends) e _ (λ k l. (eqb→eq (leaves ends (2 * k)) (enters ends (2 * k)), eq_eqb (leaves ends (2 * k)) (enters ends (2 * k)))))
    (λ d. exact_refuse_at 9 (met_earlier ends) e _ met_tells))
  where
    strange_tells : Tells (strange v ends) e (λ k. (v ≤ leaves ends (2 * k)) ⊎ (v ≤ enters ends (2 * k)))
    strange_tells k l = (
      (λ t. ⊎_elim (λ h. inl (leb→le v (leaves ends (2 * k)) h)) (λ h. inr (leb→le v (enters ends (2 * k)) h)) (or_T (leb v (leaves ends (2 * k))) (leb v (enters ends (2 * k))) t)),
      (λ h. ⊎_elim (λ i. T_or₁ (leb v (leaves ends (2 * k))) (leb v (enters ends (2 * k))) (le→leb v (leaves ends (2 * k)) i)) (λ i. T_or₂ (leb v (leaves ends (2 * k))) (leb v (enters ends (2 * k))) (le→leb v (enters ends (2 * k)) i)) h),
    )

    met_tells : Tells (met_earlier ends) e (λ k. (j : ℕ) × (j < k) × SamePair ends j k)
    met_tells k l = (
      (λ t. let r = any_T (λ j. same_pair ends j k) (from 0 k) t in (r.0, omega (arith, from_lt r.0 0 k r.1), (same_iff ends r.0 k).0 r.2)),
      (λ h. T_any (λ j. same_pair ends j k) (from 0 k) h.0 (count_from h.0 0 k (omega arith) (omega (arith, h.1))) ((same_iff ends h.0 k).1 h.2)),
    )

-- Rows 1 to 9.
pub file_tests_exact : (f : Format) (b : List ℕ) → Exact (file_tests f b) tt (file_rows f b)
unfolding file_tests
file_tests_exact f b =
    exact_then (mark_tests f b) _ tt _ _ (marks_exact f b) (λ c. exact_then (count_tests f b) _ tt _ _ (counts_exact f b) (λ d. pairs_exact (ports_in f b) (ends_in f b) (channels_in f b)))

-- ---- 10 to 14

abbrev pub piece_rows : ℕ → List ℕ → List Bool → List Row
piece_rows v ends play =
    -- a port not reachable from port 0
    placed 10 v (Apart ends play)
    -- removing one port leaves the others in two or more pieces
    ∷ placed 11 v (Cuts v ends play)
    ∷ []

abbrev pub turn_rows : ℕ → List ℕ → List ℕ → List Row
turn_rows v ends turns =
    -- a turn of 2E or more
    placed 12 (length ends) (Wild ends turns)
    -- a turn that leaves another port
    ∷ placed 13 (length ends) (Away ends turns)
    -- a port's darts, where it has any, do not form one ring
    ∷ placed 14 v (Broken ends turns)
    ∷ []

pieces_exact : (v : ℕ) (ends : List ℕ) (play : List Bool) → length ends ≡ 2 * length play → ((d : ℕ) → d < length ends → leaves ends d < v) → 2 ≤ v → Exact (piece_tests v ends play) tt (piece_rows v ends play)
unfolding piece_tests
pieces_exact v ends play size2 inn two =
    exact_then (refuse_at 10 itself (apart v ends play) v) _ tt _ _ (exact_refuse_at 10 (apart v ends play) v _ (apart_tells v ends play size2 inn two))
    (λ c. exact_refuse_at 11 (cuts v ends play) v _ (cuts_tells v ends play size2 inn two))

turns_exact : (v : ℕ) (ends t : List ℕ) → Exact (turn_tests v ends t) tt (turn_rows v ends t)
unfolding turn_tests
turns_exact v ends t =
    let e12 = exact_refuse_at 12 (wild_turn ends t) (length ends) (Wild ends t) (wild_tells v ends t) in
    let e13 = exact_refuse_at 13 (away_turn ends t) (length ends) (Away ends t) (away_tells v ends t) in
    exact_then (refuse_at 12 itself (wild_turn ends t) (length ends)) _ tt _ _ e12
    (λ c. exact_then (refuse_at 13 itself (away_turn ends t) (length ends)) _ tt _ _ e13
    (λ d. exact_refuse_at 14 (broken_ring ends t) v (Broken ends t) (broken_tells v ends t ((pass_12 v ends t).0 (e12.gives.1 c)) ((pass_13 v ends t).0 (e13.gives.1 d)))))

-- ---- a plate file

abbrev pub plate_rows : List ℕ → List Row
plate_rows b = file_rows plate_file b ++ piece_rows (ports_in plate_file b) (ends_in plate_file b) (replicate (channels_in plate_file b) true)

-- what follows where rows 1 to 9 pass
plate_pieces : (b : List ℕ) → Passes (file_rows plate_file b)
    → Exact (piece_tests (ports_in plate_file b) (ends_in plate_file b) (replicate (channels_in plate_file b) true)) tt (piece_rows (ports_in plate_file b) (ends_in plate_file b) (replicate (channels_in plate_file b) true))
plate_pieces b c =
    let t = file_tests_passed plate_file b ((file_tests_exact plate_file b).gives.1 c) in
    let size = length_ends plate_file b in
    pieces_exact (ports_in plate_file b) (ends_in plate_file b) (replicate (channels_in plate_file b) true)
    (omega (arith, size, length-replicate (channels_in plate_file b) true)) (λ d l. t.paired.inn d (omega (arith, size))) (omega (arith, t.sized.ports.0))

-- a plate that is read, and then more
bind_two : {A B : Type 0} (t u : Test) (x : A) (f : A → Answer B) → ((t >> (u >> given x)) >>= f) ≡ (t >> (u >> f x))
bind_two (given a) (given b) x f = refl
bind_two (given a) (refused n p) x f = refl
bind_two (refused n p) u x f = refl

plate_then : {B : Type 0} (b : List ℕ) (f : Plate → Answer B) (y : B) (ss : List Row) → Exact (f (plate_in b)) y ss → Exact (read_plate b >>= f) y (plate_rows b ++ ss)
unfolding read_plate
plate_then b f y ss E =
    let v = ports_in plate_file b in
    let ends = ends_in plate_file b in
    let play = replicate (channels_in plate_file b) true in
    subst (λ a. Exact a y (plate_rows b ++ ss)) (sym (bind_two (file_tests plate_file b) (piece_tests v ends play) (plate_in b) f))
    (exact_then (file_tests plate_file b) (piece_tests v ends play >> f (plate_in b)) y (file_rows plate_file b) (piece_rows v ends play ++ ss) (file_tests_exact plate_file b)
    (λ c. exact_then (piece_tests v ends play) (f (plate_in b)) y (piece_rows v ends play) ss (plate_pieces b c) (λ d. E)))

-- Plates: 1-11.
pub read_plate_exact : (b : List ℕ) → Exact (read_plate b) (plate_in b) (plate_rows b)
unfolding read_plate
read_plate_exact b =
    let v = ports_in plate_file b in
    let ends = ends_in plate_file b in
    let play = replicate (channels_in plate_file b) true in
    exact_then (file_tests plate_file b) (piece_tests v ends play >> given (plate_in b)) (plate_in b) (file_rows plate_file b) (piece_rows v ends play) (file_tests_exact plate_file b)
    (λ c. exact_then (piece_tests v ends play) (given (plate_in b)) (plate_in b) (piece_rows v ends play) [] (plate_pieces b c) (λ d. exact_given (plate_in b)))

-- ---- 15 and 16

-- a lent result buffer too short
abbrev pub lent_row : List Lent → Row
lent_row ls = plain 15 ((l : Lent) × In l ls × (l.lent < l.needed))

-- a sheet is to be written and the answer is STUCK; the place is the name of the fragment
abbrev pub stuck_row : Outcome → Row
stuck_row o = record { number = 16; applies = λ p. (o.word ≡ STUCK) × (o.name ≡ p) }

lent_exact : (ls : List Lent) → Exact (lent_test ls) tt (lent_row ls ∷ [])
unfolding lent_test
lent_exact ls = exact_refuse 15 (any (λ l. ltb l.lent l.needed) ls) _ (
  (λ t. let r = any_in (λ l. ltb l.lent l.needed) ls t in (r.0, r.1, ltb→lt r.0.lent r.0.needed r.2)),
  (λ h. in_any (λ l. ltb l.lent l.needed) ls h.0 h.1 (lt→ltb h.0.lent h.0.needed h.2)),
)

exact_clear : (r : Row) → ((q : ℕ) → r.applies q → ⊥) → Exact passed tt (r ∷ [])
exact_clear r h = record {
  refusals = λ n p. ((λ e. absurd (refused_not n p tt (sym e))), (λ k. ⊎_elim (λ j. absurd (h p j.1)) (λ j. absurd j.1) k));
  gives = ((λ e. (h, tt)), (λ k. refl));
  only = λ y h. refl;
}

stuck_word : (w : Word) (k : ℕ) (s : State) → Exact (stuck_test (record { word = w; name = k; state = s })) tt (stuck_row (record { word = w; name = k; state = s }) ∷ [])
unfolding stuck_test
stuck_word FLAT k s = exact_clear _ (λ q h. stuck_flat (sym h.0))
stuck_word PARTIAL k s = exact_clear _ (λ q h. stuck_partial (sym h.0))
stuck_word STUCK k s = record {
  refusals = λ n p. (
    (λ h. let i = refused_inj 16 k n p h in inl (sym i.0, (refl, i.1))),
    (λ h. ⊎_elim (λ j. λ i. refused (sym j.0 i) (j.1.1 i)) (λ j. absurd j.1) h),
  );
  gives = ((λ h. absurd (refused_not 16 k tt h)), (λ h. absurd (h.0 k (refl, refl))));
  only = λ y h. refl;
}

stuck_exact : (o : Outcome) → Exact (stuck_test o) tt (stuck_row o ∷ [])
stuck_exact o = stuck_word o.word o.name o.state

-- ---- the calls

-- Laying: 1-11, then 15. Buffers needed: 2E turns, 2E land darts, E−V+2 land lengths.
abbrev pub lay_needs : Plate → ℕ → ℕ → ℕ → List Lent
lay_needs p turns lands lengths =
    record { needed = 2 * p.channels; lent = turns } ∷ record { needed = 2 * p.channels; lent = lands } ∷ record { needed = lands_of_flat p; lent = lengths } ∷ []

pub lay_plate_exact : (b : List ℕ) (n turns lands lengths : ℕ)
    → Exact (lay_plate b n turns lands lengths) (record { plate = plate_in b; outcome = laid_out (plate_in b) n }) (plate_rows b ++ lent_row (lay_needs (plate_in b) turns lands lengths) ∷ [])
unfolding lay_plate
lay_plate_exact b n turns lands lengths =
    plate_then b _ _ (lent_row (lay_needs (plate_in b) turns lands lengths) ∷ [])
    (exact_then (lent_test (lay_needs (plate_in b) turns lands lengths)) _ _ _ [] (lent_exact (lay_needs (plate_in b) turns lands lengths)) (λ c. exact_given _))

-- Writing a sheet: 1-11, then 15, then 16. Buffer needed: 8+6E bytes.
abbrev pub write_needs : Plate → ℕ → List Lent
write_needs p bytes = record { needed = file_length sheet_file p.channels; lent = bytes } ∷ []

pub write_sheet_exact : (b : List ℕ) (bytes : ℕ)
    → Exact (write_sheet b bytes) (file_of sheet_file (plate_in b).ports (plate_in b).channels (plate_in b).ends (laid_out (plate_in b) without_cap).state.turns)
    (plate_rows b ++ lent_row (write_needs (plate_in b) bytes) ∷ stuck_row (laid_out (plate_in b) without_cap) ∷ [])
unfolding write_sheet
write_sheet_exact b bytes =
    plate_then b _ _ (lent_row (write_needs (plate_in b) bytes) ∷ stuck_row (laid_out (plate_in b) without_cap) ∷ [])
    (exact_then (lent_test (write_needs (plate_in b) bytes)) _ _ _ (stuck_row (laid_out (plate_in b) without_cap) ∷ []) (lent_exact (write_needs (plate_in b) bytes))
    (λ c. exact_then (stuck_test (laid_out (plate_in b) without_cap)) _ _ _ [] (stuck_exact (laid_out (plate_in b) without_cap)) (λ d. exact_given _)))

-- Listing: 15 alone; a refused file has a listing.
abbrev pub list_needs : ℕ → List Lent
list_needs bytes = record { needed = most_listing; lent = bytes } ∷ []

pub write_listing_exact : (b : List ℕ) (bytes : ℕ) → Exact (write_listing b bytes) (listing b) (lent_row (list_needs bytes) ∷ [])
unfolding write_listing
write_listing_exact b bytes = exact_then (lent_test (list_needs bytes)) _ _ _ [] (lent_exact (list_needs bytes)) (λ c. exact_given _)

-- Turn sheets: 1-9, 12-14, and no 10 or 11.
abbrev pub sheet_in : List ℕ → Sheet
sheet_in b = record { ports = ports_in sheet_file b; channels = channels_in sheet_file b; ends = ends_in sheet_file b; turns = turns_in sheet_file b }

abbrev pub sheet_rows : List ℕ → List Row
sheet_rows b = file_rows sheet_file b ++ turn_rows (ports_in sheet_file b) (ends_in sheet_file b) (turns_in sheet_file b)

sheet_then : {B : Type 0} (b : List ℕ) (f : Sheet → Answer B) (y : B) (ss : List Row) → Exact (f (sheet_in b)) y ss → Exact (read_turns b >>= f) y (sheet_rows b ++ ss)
unfolding read_turns
sheet_then b f y ss E =
    let v = ports_in sheet_file b in
    let ends = ends_in sheet_file b in
    let t = turns_in sheet_file b in
    subst (λ a. Exact a y (sheet_rows b ++ ss)) (sym (bind_two (file_tests sheet_file b) (turn_tests v ends t) (sheet_in b) f))
    (exact_then (file_tests sheet_file b) (turn_tests v ends t >> f (sheet_in b)) y (file_rows sheet_file b) (turn_rows v ends t ++ ss) (file_tests_exact sheet_file b)
    (λ c. exact_then (turn_tests v ends t) (f (sheet_in b)) y (turn_rows v ends t) ss (turns_exact v ends t) (λ d. E)))

pub read_turns_exact : (b : List ℕ) → Exact (read_turns b) (sheet_in b) (sheet_rows b)
unfolding read_turns
read_turns_exact b =
    let v = ports_in sheet_file b in
    let ends = ends_in sheet_file b in
    let t = turns_in sheet_file b in
    exact_then (file_tests sheet_file b) (turn_tests v ends t >> given (sheet_in b)) (sheet_in b) (file_rows sheet_file b) (turn_rows v ends t) (file_tests_exact sheet_file b)
    (λ c. exact_then (turn_tests v ends t) (given (sheet_in b)) (sheet_in b) (turn_rows v ends t) [] (turns_exact v ends t) (λ d. exact_given (sheet_in b)))

-- Judging a sheet: no result buffer, so no 15.
pub judge_sheet_exact : (b : List ℕ) → Exact (judge_sheet b) (judged (sheet_in b)) (sheet_rows b)
unfolding judge_sheet
judge_sheet_exact b = sheet_then b (λ s. given (judged s)) (judged (sheet_in b)) [] (exact_given (judged (sheet_in b)))

-- Reading a sheet: 1-9, 12-14, 15. Buffers needed: 2E darts and E lengths.
abbrev pub read_needs : Sheet → ℕ → ℕ → List Lent
read_needs s darts lengths = record { needed = 2 * s.channels; lent = darts } ∷ record { needed = s.channels; lent = lengths } ∷ []

pub read_sheet_exact : (b : List ℕ) (darts lengths : ℕ) → Exact (read_sheet b darts lengths) (judged (sheet_in b)) (sheet_rows b ++ lent_row (read_needs (sheet_in b) darts lengths) ∷ [])
unfolding read_sheet
read_sheet_exact b darts lengths =
    sheet_then b _ _ (lent_row (read_needs (sheet_in b) darts lengths) ∷ [])
    (exact_then (lent_test (read_needs (sheet_in b) darts lengths)) _ _ _ [] (lent_exact (read_needs (sheet_in b) darts lengths)) (λ c. exact_given _))
