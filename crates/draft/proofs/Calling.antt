-- The writing call (rules, `write_sheet`) by what reading and laying gave: a refusal, a buffer too short, a plate that is STUCK, or a sheet.
--   Unstuck w            the code's word w is not STUCK
-- unread_all, short_all, stuck_all, flat_all: in each of the four cases, what the code answers and leaves is what document 01 gives.
-- unstuck_of: another word is not STUCK. stuck_small: the name of a fragment is a small number.
-- Assumes nothing.
use mathlib.Core.Path.{◌≡◌, refl, sym, ap, ◌∙◌, subst}
use mathlib.Core.Logic.{◌≢◌}
use mathlib.Core.Bool.{true}
use mathlib.Core.List.{List, [], ◌++◌, append-nil}
use Prim.Native.Nat.{ℕ, ◌+◌, ◌-◌, ◌*◌, ◌/◌, ◌≤◌, ◌<◌}
use native.Mathlib.Omega.{arith}
use borrow.Author.Tests.{lt-ltb}
use lib.ListN.{length, drop, replicate}
use lib.Seq.{drop-nil}
use Rattle.std.specs.Prelude.{Result, Ok, Err}
use Rattle.rules.specs.Lists.{any}
use Rattle.rules.specs.Files.{sheet_file, file_length, file_of}
use Rattle.rules.specs.Refusals.{Answer, given, refused, refuse, lent_test, Plate as RulePlate, read_plate, pairs_of}
use Rattle.rules.specs.Laying.{bytes_left, Told, Outcome, FLAT, STUCK, PARTIAL, without_cap, laid_out, told, filled, turns_left}
use Rattle.rules.specs.Sheets.{write_sheet}
use Rattle.laws.proofs.Refusals.{given_inj}
use Rattle.laws.proofs.Reading.{accepted, kept_laid_out}
use Rattle.laws.proofs.RoundTrip.{length_of, sheet_fits, wild_flat, write_given, write_refused}
use Rattle.laws.proofs.Small.{laid_name}
use Rattle.laws.proofs.Demands.{whole_not_partial}
use Rattle.plate.specs.declared.Plate.{Plate}
use Rattle.plate.specs.declared.Refusal.{Refusal}
use Rattle.plate.specs.declared.Fault.TheVariants.{Lent, Stuck as StuckFault}
use Rattle.plate.specs.Answers.{number_of, reading_of}
use Rattle.plate.proofs.Laws.{plate_in, Known, unread, pairs_ends}
use Rattle.rounds.specs.declared.Word.{Word}
use Rattle.rounds.specs.declared.Word.TheVariants.{Flat, Stuck, Partial}
use Rattle.rounds.specs.Words.{word_in, name_in}
use Rattle.laid.specs.declared.Laid.{Laid}
use Rattle.laid.specs.Answers.{told_of, laid_answer}
use Rattle.laid.specs.Sheets.{Sheet}
use Rattle.laid.proofs.Leaving.{laid_told, laid_turns}
use Rattle.draft.specs.Answers.{written_answer, done}

-- ---- what an answer stands for

refused_all : (a : Answer (List ℕ)) (y : Refusal) → a ≡ refused (number_of y.fault) y.place → (old : List ℕ) → (written_answer (Err y) ≡ done a) × (old ≡ bytes_left a old)
unfolding written_answer done bytes_left
refused_all a y e old = (sym (ap done e), sym (ap (λ (x : Answer (List ℕ)). bytes_left x old) e))

given_all : (a : Answer (List ℕ)) (s old new : List ℕ) → a ≡ given s → new ≡ s ++ drop (length s) old → (written_answer (Ok tt) ≡ done a) × (new ≡ bytes_left a old)
unfolding written_answer done bytes_left
given_all a s old new e h = (sym (ap done e), h ∙ sym (ap (λ (x : Answer (List ℕ)). bytes_left x old) e))

-- ---- files that are refused, and buffers too short

write_unread : (b : List ℕ) (m k q : ℕ) → read_plate b ≡ refused k q → write_sheet b m ≡ refused k q
unfolding write_sheet
write_unread b m k q e = rw e

write_short : (b : List ℕ) (m : ℕ) (p : RulePlate) → read_plate b ≡ given p → m < file_length sheet_file p.channels → write_sheet b m ≡ refused 15 0
unfolding write_sheet lent_test refuse any
write_short b m p e h = rw (e, lt-ltb m (file_length sheet_file p.channels) h)

pub unread_all : (b : List ℕ) (r : Result Plate Refusal) → reading_of r b ≡ read_plate b → (x : Refusal) → r ≡ Err x → (s : Result (Unit {0}) Refusal) → s ≡ Err x → (old : List ℕ)
    → (written_answer s ≡ done (write_sheet b (length old))) × (old ≡ bytes_left (write_sheet b (length old)) old)
unread_all b r e x d s h old =
    let w = refused_all (write_sheet b (length old)) x (write_unread b (length old) (number_of x.fault) x.place (unread b r e x d)) old in
    (ap written_answer h ∙ w.0, w.1)

pub short_all : (b : List ℕ) (p : Plate) → Known b p → (old : List ℕ) → length old < file_length sheet_file p.channels
    → (written_answer (Err (record { fault = Lent; place = 0 })) ≡ done (write_sheet b (length old))) × (old ≡ bytes_left (write_sheet b (length old)) old)
short_all b p k old h =
    refused_all (write_sheet b (length old)) (record { fault = Lent; place = 0 })
    (write_short b (length old) (plate_in b) k.answer (subst (λ (c : ℕ). length old < file_length sheet_file c) k.channels h)) old

-- ---- a plate that was laid

abbrev pub Unstuck : Word → Type 0
Unstuck Flat = Unit {0}
Unstuck (Stuck n) = ⊥
Unstuck Partial = Unit {0}

pub unstuck_of : (w : Word) → ((name : ℕ) → w ≡ Stuck name → ⊥) → Unstuck w
unstuck_of Flat h = tt
unstuck_of (Stuck n) h = absurd (h n refl)
unstuck_of Partial h = tt

-- where it is not, and the word is not PARTIAL, the word is FLAT
flat_of : (w : Word) → word_in w ≢ PARTIAL → Unstuck w → word_in w ≡ FLAT
flat_of Flat h u = refl
flat_of (Stuck n) h u = absurd u
flat_of Partial h u = absurd (h refl)

module _ (b : List ℕ) (p : Plate) (k : Known b p) where
  abbrev P : RulePlate
  P = plate_in b

  abbrev o : Outcome
  o = laid_out P without_cap

  module _ (pairs : List ℕ) (e : pairs ≡ pairs_of b) (m : ℕ) (t l ns : List ℕ) (r : Laid) (S : Sheet p.ports pairs (replicate (length pairs / 2) true) without_cap m t l ns r) (em : m ≡ p.channels + 2 - p.ports) where
    said : told_of r ≡ record { word = o.word; paths = length o.state.paths; name = o.name }
    unfolding told laid_answer
    said = given_inj _ _ (laid_told b p k without_cap pairs e m t l ns r S em (given (record { plate = P; outcome = o })) refl)

    turns_of : t ≡ o.state.turns
    unfolding turns_left filled
    turns_of =
        let z : 2 * P.channels - length o.state.turns ≡ 0 = omega (arith, (kept_laid_out b P k.answer without_cap).long, (accepted b P k.answer).size) in
        let left = laid_turns b p k without_cap pairs e m t l ns r S em (given (record { plate = P; outcome = o })) refl [] in
        sym (append-nil t) ∙ ap (λ (x : List ℕ). t ++ x) (sym (drop-nil (2 * p.channels))) ∙ left
        ∙ rw (z, drop-nil {A = ℕ} (2 * P.channels)) (append-nil (o.state.turns ++ []) ∙ append-nil o.state.turns)

    -- the word STUCK has the name
    stuck_said : (n : ℕ) → r.word ≡ Stuck n → (o.word ≡ STUCK) × (o.name ≡ n)
    stuck_said n d = (sym (ap (λ (x : Told). x.word) said) ∙ ap word_in d, sym (ap (λ (x : Told). x.name) said) ∙ ap name_in d)

    pub stuck_small : (n : ℕ) → r.word ≡ Stuck n → n < 65536
    stuck_small n d =
        let w = stuck_said n d in
        omega (arith, laid_name b P k.answer without_cap w.0, w.1, k.channels, k.most_channels_lem)

    stuck_refused : (lent : ℕ) → file_length sheet_file P.channels ≤ lent → (n : ℕ) → r.word ≡ Stuck n → write_sheet b lent ≡ refused 16 n
    stuck_refused lent enough n d =
        let w = stuck_said n d in
        (write_refused b P k.answer lent enough).1 w.0 ∙ ap (refused 16) w.1

    -- any other word is FLAT
    flat_said : Unstuck r.word → o.word ≡ FLAT
    flat_said u = sym word ∙ flat_of r.word (λ h. whole_not_partial b P k.answer 0 (sym word ∙ h)) u
      where
        word : word_in r.word ≡ o.word
        word = ap (λ (x : Told). x.word) said

    -- the sheet that the code puts is the one that document 01 gives
    sheet_of : file_of sheet_file p.ports p.channels pairs t ≡ file_of sheet_file P.ports P.channels P.ends o.state.turns
    sheet_of =
        ap (λ (v : ℕ). file_of sheet_file v p.channels pairs t) k.ports ∙ ap (λ (c : ℕ). file_of sheet_file P.ports c pairs t) k.channels
        ∙ ap (λ (w : List ℕ). file_of sheet_file P.ports P.channels w t) (e ∙ pairs_ends b p k) ∙ ap (file_of sheet_file P.ports P.channels P.ends) turns_of

    sheet_length : o.word ≡ FLAT → length (file_of sheet_file P.ports P.channels P.ends o.state.turns) ≡ file_length sheet_file p.channels
    sheet_length w =
        let K = kept_laid_out b P k.answer without_cap in
        let A = accepted b P k.answer in
        length_of sheet_file P.ports P.channels P.ends o.state.turns
        (sheet_fits b P k.answer o.state.turns K.long (λ d i. omega (arith, K.long, A.size, A.channels.1, wild_flat b P k.answer without_cap w d (omega (arith, K.long)))))
        ∙ ap (file_length sheet_file) (sym k.channels)

    module _ (old : List ℕ) (enough : file_length sheet_file p.channels ≤ length old) where
      enough' : file_length sheet_file P.channels ≤ length old
      enough' = subst (λ (c : ℕ). file_length sheet_file c ≤ length old) k.channels enough

      pub stuck_all : (n : ℕ) → r.word ≡ Stuck n → (written_answer (Err (record { fault = StuckFault; place = n })) ≡ done (write_sheet b (length old))) × (old ≡ bytes_left (write_sheet b (length old)) old)
      stuck_all n d = refused_all (write_sheet b (length old)) (record { fault = StuckFault; place = n }) (stuck_refused (length old) enough' n d) old

      pub flat_all : Unstuck r.word → (new put : List ℕ) → put ≡ t → new ≡ file_of sheet_file p.ports p.channels pairs put ++ drop (file_length sheet_file p.channels) old
          → (written_answer (Ok tt) ≡ done (write_sheet b (length old))) × (new ≡ bytes_left (write_sheet b (length old)) old)
      flat_all u new put g h =
          let w = flat_said u in
          let s = file_of sheet_file P.ports P.channels P.ends o.state.turns in
          given_all (write_sheet b (length old)) s old new ((write_given b P k.answer (length old) enough').1 w)
          (h ∙ ap (λ (x : List ℕ). x ++ drop (file_length sheet_file p.channels) old) (ap (file_of sheet_file p.ports p.channels pairs) g ∙ sheet_of) ∙ ap (λ (n : ℕ). s ++ drop n old) (sym (sheet_length w)))
