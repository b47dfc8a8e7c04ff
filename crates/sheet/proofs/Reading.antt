-- The reading of a sheet in stages (rules, "Sheets" and "Refusals").
--   turn_part b         tests 12 to 14 of the file b
--   lent_part b d l     test 15 of the file b, d and l elements being lent
-- lent_passed, passed_lent: test 15 is passed where nothing lent is too short, and only there. sheet_stages: the reading is tests 1 to 9, then 12 to 14, then 15, then the lands. stop_1, stop_2, stop_3: the first of them that refuses decides. go: what is left where all are passed.
-- answer_unique: two answers that stand for the same are the same. judge_same: buffers for the largest plate are never too short, so the answer is that of judging.
-- Assumes nothing.
use mathlib.Core.Path.{◌≡◌, refl, sym, ap, ◌∙◌}
use mathlib.Core.Bool.{Bool, false, ◌||◌}
use mathlib.Core.List.{List, map}
use Prim.Native.Nat.{ℕ, ◌*◌, ◌≤◌}
use native.Mathlib.Omega.{arith}
use lib.Dec.{ltb, nltb→le}
use lib.ListN.{length}
use borrow.Author.Tests.{le-ltb}
use Rattle.std.specs.Prelude.{Result, Ok, Err}
use Rattle.rules.specs.Lists.{any, concat}
use Rattle.rules.specs.Terms.{missing}
use Rattle.rules.specs.Files.{sheet_file, limits1, ports_in, channels_in, ends_in, turns_in}
use Rattle.rules.specs.Refusals.{Answer, given, refused, passed, refuse, ◌>>◌, ◌>>=◌, lent_test, file_tests, turn_tests, read_turns, Sheet as RuleSheet, Test as RuleTest}
use Rattle.rules.specs.Laying.{filled}
use Rattle.rules.specs.Sheets.{Count as RuleCount, Judged, is_flat, judged, judge_sheet, read_sheet, counted, darts_read, lengths_read}
use Rattle.laws.proofs.Tests.{not_or}
use Rattle.laws.proofs.Refusals.{refused_not, given_inj, refuse_passed, file_tests_passed}
use Rattle.laws.proofs.RefusalTable.{sheet_in}
use Rattle.laws.proofs.AcceptedSheet.{read_turns_given}
use Rattle.plate.specs.declared.Refusal.{Refusal}
use Rattle.plate.specs.declared.Kind.TheVariants.{Sheet as SheetKind}
use Rattle.plate.specs.Answers.{format_of, number_of, test_of}
use Rattle.plate.specs.State.{most_darts}
use Rattle.plate.proofs.Laws.{test_passed, stops, goes, refusal_unique}
use Rattle.sheet.specs.declared.Count.{Count}
use Rattle.sheet.specs.Answers.{answer_of}
use Rattle.sheet.specs.Stages.{lent_for, lands_in, read_into}

-- ---- test 15

module _ (e darts lengths : ℕ) where
  lent_passed : 2 * e ≤ darts → e ≤ lengths → lent_test (lent_for e darts lengths) ≡ passed
  unfolding lent_test refuse any
  lent_passed g h = rw (le-ltb darts (2 * e) g, le-ltb lengths e h)

  passed_lent : lent_test (lent_for e darts lengths) ≡ passed → (2 * e ≤ darts) × (e ≤ lengths)
  unfolding lent_test any
  passed_lent h =
      let w = not_or (ltb darts (2 * e)) (ltb lengths e || false) (refuse_passed 15 (ltb darts (2 * e) || (ltb lengths e || false)) h) in
      (nltb→le darts (2 * e) w.0, nltb→le lengths e (not_or (ltb lengths e) false w.1).0)

-- ---- the stages of a reading

abbrev pub turn_part : List ℕ → RuleTest
turn_part b = turn_tests (ports_in sheet_file b) (ends_in sheet_file b) (turns_in sheet_file b)

abbrev pub lent_part : List ℕ → ℕ → ℕ → RuleTest
lent_part b d l = lent_test (lent_for (channels_in sheet_file b) d l)

stages : {A B : Type 0} (s t : RuleTest) (u : A → RuleTest) (a : A) (f : A → B) → ((s >> (t >> given a)) >>= λ x. (u x >> given (f x))) ≡ (s >> (t >> (u a >> given (f a))))
stages (given x) (given y) u a f = refl
stages (given x) (refused n p) u a f = refl
stages (refused n p) t u a f = refl

sheet_stages : (b : List ℕ) (d l : ℕ) → read_sheet b d l ≡ (file_tests sheet_file b >> (turn_part b >> (lent_part b d l >> given (judged (sheet_in b)))))
unfolding read_sheet read_turns
sheet_stages b d l = stages (file_tests sheet_file b) (turn_part b) (λ (s : RuleSheet). lent_test (lent_for s.channels d l)) (sheet_in b) judged

-- ---- the code's stages

abbrev Tested : Type 0
Tested = Result (Unit {0}) Refusal

-- what a reading answers and leaves, as its contract has it
abbrev pub Reads : Answer Judged → Result Count Refusal → List ℕ → List ℕ → List ℕ → List ℕ → Type 0
Reads A r darts darts' lengths lengths' = (answer_of r ≡ counted A) × (darts' ≡ darts_read A darts) × (lengths' ≡ lengths_read A lengths)

-- a refused reading: the refusal, and the buffers as they were
refusing : (A : Answer Judged) (x : Refusal) (r : Result Count Refusal) (darts lengths : List ℕ) → r ≡ Err x → A ≡ refused (number_of x.fault) x.place → Reads A r darts darts lengths lengths
unfolding answer_of counted darts_read lengths_read
refusing A x r darts lengths p e = rw (p, e) (refl, refl, refl)

module _ (b darts lengths : List ℕ) (t : Tested) (p : test_of t ≡ file_tests (format_of SheetKind) b) where
  first_is : test_of t ≡ file_tests sheet_file b
  unfolding format_of
  first_is = p

  abbrev last : Answer Judged
  last = lent_part b (length darts) (length lengths) >> given (judged (sheet_in b))

  all_stages : read_into b darts lengths ≡ (file_tests sheet_file b >> (turn_part b >> last))
  all_stages = sheet_stages b (length darts) (length lengths)

  pub stop_1 : (x : Refusal) (r : Result Count Refusal) → r ≡ Err x → t ≡ Err x → Reads (read_into b darts lengths) r darts darts lengths lengths
  stop_1 x r g e = refusing _ x r darts lengths g (all_stages ∙ stops t x (file_tests sheet_file b) (turn_part b >> last) first_is e)

  pub tested : t ≡ Ok tt → file_tests sheet_file b ≡ passed
  tested e = test_passed t (file_tests sheet_file b) first_is e

  module _ (d : t ≡ Ok tt) (u : Tested) (q : test_of u ≡ turn_part b) where
    second : read_into b darts lengths ≡ (turn_part b >> last)
    second = all_stages ∙ goes t (file_tests sheet_file b) (turn_part b >> last) first_is d

    pub stop_2 : (x : Refusal) (r : Result Count Refusal) → r ≡ Err x → u ≡ Err x → Reads (read_into b darts lengths) r darts darts lengths lengths
    stop_2 x r g e = refusing _ x r darts lengths g (second ∙ stops u x (turn_part b) last q e)

    pub turned : u ≡ Ok tt → turn_part b ≡ passed
    turned e = test_passed u (turn_part b) q e

    module _ (f : u ≡ Ok tt) (w : Tested) (n : ℕ) (k : n ≡ channels_in sheet_file b) (o : test_of w ≡ lent_test (lent_for n (length darts) (length lengths))) where
      lent_is : test_of w ≡ lent_part b (length darts) (length lengths)
      lent_is = o ∙ rw k

      third : read_into b darts lengths ≡ last
      third = second ∙ goes u (turn_part b) last q f

      pub stop_3 : (x : Refusal) (r : Result Count Refusal) → r ≡ Err x → w ≡ Err x → Reads (read_into b darts lengths) r darts darts lengths lengths
      stop_3 x r g e = refusing _ x r darts lengths g (third ∙ stops w x (lent_part b (length darts) (length lengths)) (given (judged (sheet_in b))) lent_is e)

      pub room : w ≡ Ok tt → (2 * channels_in sheet_file b ≤ length darts) × (channels_in sheet_file b ≤ length lengths)
      room e = passed_lent (channels_in sheet_file b) (length darts) (length lengths) (test_passed w (lent_part b (length darts) (length lengths)) lent_is e)

      reads : w ≡ Ok tt → read_into b darts lengths ≡ given (judged (sheet_in b))
      reads e = third ∙ goes w (lent_part b (length darts) (length lengths)) (given (judged (sheet_in b))) lent_is e

      pub go : w ≡ Ok tt → (c : Count) (darts' lengths' : List ℕ) → c.lands ≡ length (lands_in b) → c.flat ≡ is_flat (ports_in sheet_file b) (channels_in sheet_file b) (length (lands_in b))
          → darts' ≡ filled (concat (lands_in b)) missing (2 * channels_in sheet_file b) darts → lengths' ≡ filled (map length (lands_in b)) 0 (channels_in sheet_file b) lengths
          → Reads (read_into b darts lengths) (Ok c) darts darts' lengths lengths'
      unfolding answer_of counted darts_read lengths_read judged
      go e c darts' lengths' pl pf pd pe = rw (reads e) (rw (pl, pf) refl, pd, pe)

-- ---- an answer is determined by what it stands for

count_same : (c d : Count) → c.lands ≡ d.lands → c.flat ≡ d.flat → c ≡ d
count_same c d p q = ap (λ (n : ℕ). count n c.flat) p ∙ ap (count d.lands) q
  where
    count : ℕ → Bool → Count
    count n f = record { lands = n; flat = f }

pub answer_unique : (r s : Result Count Refusal) → answer_of r ≡ answer_of s → r ≡ s
unfolding answer_of
answer_unique (Ok c) (Ok d) e = let q = given_inj _ _ e in ap Ok (count_same c d (ap (λ (z : RuleCount). z.lands) q) (ap (λ (z : RuleCount). z.flat) q))
answer_unique (Ok c) (Err x) e = absurd (refused_not (number_of x.fault) x.place _ (sym e))
answer_unique (Err x) (Ok c) e = absurd (refused_not (number_of x.fault) x.place _ e)
answer_unique (Err x) (Err y) e = ap Err (refusal_unique x y e)

-- ---- judging

-- answers in a row, where the test between refuses nothing
same_answer : {A : Type 0} (a : Answer A) (u : A → RuleTest) (f : A → Judged) → ((s : A) → a ≡ given s → u s ≡ passed) → (a >>= λ s. (u s >> given (f s))) ≡ (a >>= λ s. given (f s))
same_answer (given s) u f h = ap (λ (t : RuleTest). t >> given (f s)) (h s refl)
same_answer (refused n p) u f h = refl

pub judge_same : (b : List ℕ) (d l : ℕ) → most_darts ≤ d → limits1.most_channels ≤ l → read_sheet b d l ≡ judge_sheet b
unfolding read_sheet judge_sheet
judge_same b d l p q =
    same_answer (read_turns b) (λ (s : RuleSheet). lent_test (lent_for s.channels d l)) judged
    (λ s e.
    let g = read_turns_given b s e in
    let few : s.channels ≤ 600 = omega (arith, (file_tests_passed sheet_file b g.0).sized.channels.1, ap (λ (z : RuleSheet). z.channels) g.2) in
    lent_passed s.channels d l (omega arith) (omega arith))
