-- A sheet that is written reads back (document 01, "Files", "Reading a sheet" and refusal 16).
--   Fits f v e ends turns     the numbers fit the bytes that the format f gives them, and the lists have 2e entries
-- number_bytes, numbers_bytes: bytes that are written are the number, or the numbers, that they were written for. ..-of: the parts of a file that is written, and its length; tested_of: what 1 to 9 look for.
-- sheet_fits, sheet_passes, sheet_reads: the sheet of an accepted plate with any turns passes 1 to 9, and is read as it was written where the turns pass 12 to 14.
-- wild_flat, turns_read, sheet_read, sheet_judged: the sheet of a plate that is FLAT passes 12; where each turn stays at its port and each port's darts form one ring it passes 13 and 14, and is judged flat with the lands that were kept, in order of first dart.
-- whole_word: without a cap the word is FLAT or STUCK. write_given, write_refused, write_word: the sheet is written exactly where it is FLAT, and refused with 16 and the name exactly where it is STUCK.
-- Assumes nothing.
use mathlib.Core.Path.{◌≡◌, refl, subst, sym, ap, ◌∙◌}
use mathlib.Core.Logic.{◌⊎◌, inl, inr, ⊎_elim, ◌↔◌}
use mathlib.Core.Bool.{true}
use mathlib.Core.List.{List, [], ◌∷◌, ◌++◌, map, append_assoc, append-nil}
use Prim.Native.Nat.{ℕ, zero, suc, ◌+◌, ◌*◌, ◌/◌, ◌%◌, ◌^◌, ◌≤◌, ◌<◌}
use native.Mathlib.Nat.{pow-suc, suc-mul}
use native.Mathlib.Omega.{arith}
use lib.Dec.{T}
use lib.ListN.{length, get_or, length-append, get_or-append}
use lib.Seq.{get_or-append-add}
use Rattle.rules.specs.Lists.{concat, text, bytes, number, numbers}
use Rattle.rules.specs.Terms.{leaves, darts_at}
use Rattle.rules.specs.Files.{Format, plate_file, sheet_file, ports_in, channels_in, pairs_at, ends_in, turns_at, turns_in, file_length, file_of}
use Rattle.rules.specs.Refusals.{given, refused, ◌>>◌, passed, file_tests, one_ring, turn_tests, Plate, read_plate, read_turns}
use Rattle.rules.specs.Laying.{Word, FLAT, STUCK, PARTIAL, without_cap, laid_out, lands_of_flat}
use Rattle.rules.specs.Sheets.{is_flat, judged, judge_sheet, stuck_test, write_sheet}
use Rattle.laws.proofs.Tests.{eqb_yes}
use Rattle.laws.proofs.Lists.{All}
use Rattle.laws.proofs.Links.{laid_lt}
use Rattle.laws.proofs.Refusals.{refused_not, given_inj, Paired, Tested, file_tests_passed}
use Rattle.laws.proofs.Reading.{read_plate_given, accepted, kept_laid_out}
use Rattle.laws.proofs.InOrder.{in_order, length_in_order, lands_of_laid_out}
use Rattle.laws.proofs.Counting.{flat_laid, paths_most, lands_flat}
use Rattle.laws.proofs.Turns.{turn_laid}
use Rattle.laws.proofs.Passing.{tested_pass, turns_pass, lent_pass}
use Rattle.laws.proofs.Verdicts.{whole_laid_out}

-- ---- numbers in bytes

pub length_bytes : (w n : ℕ) → length (bytes w n) ≡ w
unfolding bytes
length_bytes zero n = refl
length_bytes (suc w) n = ap suc (length_bytes w (n / 256))

-- what stands behind other bytes
pub number_skip : (w : ℕ) (l b : List ℕ) (i : ℕ) → number w (length l + i) (l ++ b) ≡ number w i b
unfolding number
number_skip zero l b i = refl
number_skip (suc w) l b i =
    let e : suc (length l + i) ≡ length l + suc i = omega arith in
    rw (get_or-append-add l b i 0, e, number_skip w l b (suc i))

-- A number that fits is read as it was written.
pub number_bytes : (w n : ℕ) (b : List ℕ) → n < 256 ^ w → number w 0 (bytes w n ++ b) ≡ n
unfolding number bytes
number_bytes zero n b h = omega arith
number_bytes (suc w) n b h =
    let r : number w 1 (n % 256 ∷ (bytes w (n / 256) ++ b)) ≡ n / 256 =
    number_skip w (n % 256 ∷ []) (bytes w (n / 256) ++ b) 0 ∙ number_bytes w (n / 256) b (omega (arith, pow-suc 256 w)) in
    omega (arith, r)

pub numbers_skip : (w n : ℕ) (l b : List ℕ) (i : ℕ) → numbers w n (length l + i) (l ++ b) ≡ numbers w n i b
unfolding numbers
numbers_skip w zero l b i = refl
numbers_skip w (suc n) l b i =
    let e : length l + i + w ≡ length l + (i + w) = omega arith in
    rw (number_skip w l b i, e, numbers_skip w n l b (i + w))

-- So are several.
pub numbers_bytes : (w : ℕ) (l b : List ℕ) → All (λ n. n < 256 ^ w) l → numbers w (length l) 0 (concat (map (bytes w) l) ++ b) ≡ l
unfolding numbers concat
numbers_bytes w [] b a = refl
numbers_bytes w (n ∷ l) b a =
    let rest : List ℕ = concat (map (bytes w) l) ++ b in
    let e : 0 + w ≡ length (bytes w n) + 0 = omega (arith, length_bytes w n) in
    rw (append_assoc (bytes w n) (concat (map (bytes w) l)) b, number_bytes w n rest a.0, e, numbers_skip w (length l) (bytes w n) rest 0, numbers_bytes w l b a.1)

pub length_parts : (w : ℕ) (l : List ℕ) → length (concat (map (bytes w) l)) ≡ length l * w
unfolding concat
length_parts w [] = omega arith
length_parts w (n ∷ l) = length-append (bytes w n) (concat (map (bytes w) l)) ∙ omega (arith, length_bytes w n, length_parts w l, suc-mul (length l) w)

-- ---- the parts of a file that is written

pub number_at : (w n i : ℕ) (l m b : List ℕ) → b ≡ l ++ (bytes w n ++ m) → i ≡ length l → n < 256 ^ w → number w i b ≡ n
number_at w n i l m b e k h =
    let k' : i ≡ length l + 0 = omega arith in
    rw (e, k', number_skip w l (bytes w n ++ m) 0) (number_bytes w n m h)

pub numbers_at : (w n i : ℕ) (v l m b : List ℕ) → b ≡ l ++ (concat (map (bytes w) v) ++ m) → i ≡ length l → n ≡ length v → All (λ x. x < 256 ^ w) v → numbers w n i b ≡ v
numbers_at w n i v l m b e k c h =
    let k' : i ≡ length l + 0 = omega arith in
    rw (e, k', c, numbers_skip w (length v) l (concat (map (bytes w) v) ++ m) 0) (numbers_bytes w v m h)

pub record Fits (f : Format) (v e : ℕ) (ends turns : List ℕ) : Type 0 where
  pub mark_size : length f.mark ≡ 3
  pub version_fits : f.version < 256 ^ 2
  pub ports_fit : v < 256 ^ f.port_bytes
  pub channels_fit : e < 256 ^ 2
  pub ends_size : length ends ≡ 2 * e
  pub ends_fit : All (λ p. p < 256 ^ f.port_bytes) ends
  pub turns_size : length turns ≡ 2 * e
  pub turns_fit : All (λ d. d < 256 ^ f.turn_bytes) turns

module _ (f : Format) (v e : ℕ) (ends turns : List ℕ) (F : Fits f v e ends turns) where
  -- the bytes of the version, of V, of E, of the pairs and of the turns
  abbrev parts_after : List ℕ
  parts_after = concat (map (bytes f.port_bytes) ends) ++ concat (map (bytes f.turn_bytes) turns)

  pub mark_of : (i : ℕ) → i < 3 → get_or (file_of f v e ends turns) i 0 ≡ get_or f.mark i 0
  unfolding file_of
  mark_of i l =
      let rest : List ℕ = bytes 2 f.version ++ (bytes f.port_bytes v ++ (bytes 2 e ++ parts_after)) in
      let cut : file_of f v e ends turns ≡ f.mark ++ rest = simp append_assoc in
      rw cut (get_or-append f.mark rest 0 i (omega (arith, F.mark_size)))

  pub version_of : number 2 3 (file_of f v e ends turns) ≡ f.version
  unfolding file_of
  version_of = number_at 2 f.version 3 f.mark (bytes f.port_bytes v ++ (bytes 2 e ++ parts_after)) (file_of f v e ends turns) (simp append_assoc) (sym F.mark_size) F.version_fits

  pub ports_in_of : ports_in f (file_of f v e ends turns) ≡ v
  unfolding file_of ports_in
  ports_in_of =
      number_at f.port_bytes v 5 (f.mark ++ bytes 2 f.version) (bytes 2 e ++ parts_after) (file_of f v e ends turns) (simp append_assoc)
      (omega (arith, F.mark_size, length-append f.mark (bytes 2 f.version), length_bytes 2 f.version)) F.ports_fit

  length_head : length (f.mark ++ bytes 2 f.version ++ bytes f.port_bytes v) ≡ 5 + f.port_bytes
  length_head =
      omega (arith, F.mark_size, length-append f.mark (bytes 2 f.version), length_bytes 2 f.version, length-append (f.mark ++ bytes 2 f.version) (bytes f.port_bytes v), length_bytes f.port_bytes v)

  pub channels_in_of : channels_in f (file_of f v e ends turns) ≡ e
  unfolding file_of channels_in
  channels_in_of = number_at 2 e (5 + f.port_bytes) (f.mark ++ bytes 2 f.version ++ bytes f.port_bytes v) parts_after (file_of f v e ends turns) (simp append_assoc) (sym length_head) F.channels_fit

  length_first : length (f.mark ++ bytes 2 f.version ++ bytes f.port_bytes v ++ bytes 2 e) ≡ pairs_at f
  unfolding pairs_at
  length_first = omega (arith, length_head, length-append (f.mark ++ bytes 2 f.version ++ bytes f.port_bytes v) (bytes 2 e), length_bytes 2 e)

  pub ends_in_of : ends_in f (file_of f v e ends turns) ≡ ends
  unfolding file_of ends_in
  ends_in_of =
      numbers_at f.port_bytes (2 * channels_in f (file_of f v e ends turns)) (pairs_at f) ends (f.mark ++ bytes 2 f.version ++ bytes f.port_bytes v ++ bytes 2 e) (concat (map (bytes f.turn_bytes) turns)) (file_of f v e ends turns)
      (simp append_assoc) (sym length_first) (ap (λ (n : ℕ). 2 * n) channels_in_of ∙ sym F.ends_size) F.ends_fit

  length_pairs : length (f.mark ++ bytes 2 f.version ++ bytes f.port_bytes v ++ bytes 2 e ++ concat (map (bytes f.port_bytes) ends)) ≡ turns_at f e
  unfolding turns_at
  length_pairs =
      length-append (f.mark ++ bytes 2 f.version ++ bytes f.port_bytes v ++ bytes 2 e) (concat (map (bytes f.port_bytes) ends))
      ∙ omega (arith, length_first, length_parts f.port_bytes ends, ap (λ (n : ℕ). n * f.port_bytes) F.ends_size)

  pub turns_in_of : turns_in f (file_of f v e ends turns) ≡ turns
  unfolding file_of turns_in
  turns_in_of =
      numbers_at f.turn_bytes (2 * channels_in f (file_of f v e ends turns)) (turns_at f (channels_in f (file_of f v e ends turns))) turns
      (f.mark ++ bytes 2 f.version ++ bytes f.port_bytes v ++ bytes 2 e ++ concat (map (bytes f.port_bytes) ends)) [] (file_of f v e ends turns)
      (simp (append_assoc, append-nil)) (ap (turns_at f) channels_in_of ∙ sym length_pairs) (ap (λ (n : ℕ). 2 * n) channels_in_of ∙ sym F.turns_size) F.turns_fit

  pub length_of : length (file_of f v e ends turns) ≡ file_length f e
  unfolding file_of file_length
  length_of =
      length-append (f.mark ++ bytes 2 f.version ++ bytes f.port_bytes v ++ bytes 2 e ++ concat (map (bytes f.port_bytes) ends)) (concat (map (bytes f.turn_bytes) turns))
      ∙ omega (arith, length_pairs, length_parts f.turn_bytes turns, ap (λ (n : ℕ). n * f.turn_bytes) F.turns_size)

  length_at_least : pairs_at f ≤ file_length f e
  unfolding file_length turns_at
  length_at_least = omega arith

  -- A file whose counts are within the limits and whose pairs pass 7 to 9 is not refused.
  pub tested_of : (f.limits.least_ports ≤ v) × (v ≤ f.limits.most_ports) → (f.limits.least_channels ≤ e) × (e ≤ f.limits.most_channels) → Paired v ends e → Tested f (file_of f v e ends turns)
  tested_of hv he P = record {
    marked = record { long = omega (arith, length_of, length_at_least); mark = mark_of; version = version_of };
    sized = record { ports = rw ports_in_of hv; channels = rw channels_in_of he; size = length_of ∙ ap (file_length f) (sym channels_in_of) };
    paired = rw (ports_in_of, ends_in_of, channels_in_of) P;
  }

-- ---- the sheet of a plate

all_get : (P : ℕ → Type 0) (l : List ℕ) → ((i : ℕ) → i < length l → P (get_or l i 0)) → All P l
all_get P [] h = tt
all_get P (x ∷ l) h = (h 0 (omega arith), all_get P l (λ i k. h (suc i) (omega arith)))

module _ (b : List ℕ) (p : Plate) (h : read_plate b ≡ given p) where
  pub paired_read : Paired p.ports p.ends p.channels
  paired_read =
      let g = read_plate_given b p h in
      subst (λ (q : Plate). Paired q.ports q.ends q.channels) g.2 (file_tests_passed plate_file b g.0).paired

  module _ (t : List ℕ) (size : length t ≡ length p.ends) (small : (d : ℕ) → d < length t → get_or t d 0 < 65536) where
    pub sheet_fits : Fits sheet_file p.ports p.channels p.ends t
    unfolding text leaves
    sheet_fits =
        let A = accepted b p h in
        record {
          mark_size = refl;
          version_fits = omega arith;
          ports_fit = omega (arith, A.ports.1);
          channels_fit = omega (arith, A.channels.1);
          ends_size = A.size;
          ends_fit = all_get (λ n. n < 256 ^ 1) p.ends (λ d l. omega (arith, A.inn d l, A.ports.1));
          turns_size = size ∙ A.size;
          turns_fit = all_get (λ n. n < 256 ^ 2) t (λ d l. omega (arith, small d l));
        }

    -- Whatever the turns, 1 to 9 refuse nothing.
    pub sheet_passes : file_tests sheet_file (file_of sheet_file p.ports p.channels p.ends t) ≡ passed
    sheet_passes =
        let A = accepted b p h in
        tested_pass sheet_file (file_of sheet_file p.ports p.channels p.ends t) (tested_of sheet_file p.ports p.channels p.ends t sheet_fits A.ports A.channels paired_read)

    -- Where 12 to 14 refuse nothing either, it is read as it was written.
    pub sheet_reads : turn_tests p.ports p.ends t ≡ passed
        → read_turns (file_of sheet_file p.ports p.channels p.ends t) ≡ given (record { ports = p.ports; channels = p.channels; ends = p.ends; turns = t })
    unfolding read_turns
    sheet_reads k =
        let F = sheet_fits in
        rw (
          sheet_passes,
          ports_in_of sheet_file p.ports p.channels p.ends t F,
          channels_in_of sheet_file p.ports p.channels p.ends t F,
          ends_in_of sheet_file p.ports p.channels p.ends t F,
          turns_in_of sheet_file p.ports p.channels p.ends t F,
          k,
        )

  -- ---- FLAT: the sheet of what is laid

  module _ (n : ℕ) (w : (laid_out p n).word ≡ FLAT) where
    -- no turn is 2E or more
    pub wild_flat : (d : ℕ) → d < length p.ends → get_or (laid_out p n).state.turns d 0 < length p.ends
    wild_flat d l =
        let K = kept_laid_out b p h n in
        let t = (laid_out p n).state.turns in
        omega (arith, K.long, laid_lt t (get_or t d 0) (turn_laid p.ends (laid_out p n).state K.sound d (flat_laid b p h n w d l)))

    module _ (stays : (d : ℕ) → d < length p.ends → leaves p.ends (get_or (laid_out p n).state.turns d 0) ≡ leaves p.ends d)
        (rings : (q : ℕ) → q < p.ports → T (one_ring (laid_out p n).state.turns (darts_at p.ends q))) where
      -- 12 to 14 refuse nothing.
      pub turns_read : turn_tests p.ports p.ends (laid_out p n).state.turns ≡ passed
      turns_read = turns_pass p.ports p.ends (laid_out p n).state.turns wild_flat stays rings

      pub sheet_read : read_turns (file_of sheet_file p.ports p.channels p.ends (laid_out p n).state.turns)
          ≡ given (record { ports = p.ports; channels = p.channels; ends = p.ends; turns = (laid_out p n).state.turns })
      sheet_read =
          let K = kept_laid_out b p h n in
          sheet_reads (laid_out p n).state.turns K.long (λ d l. omega (arith, K.long, wild_flat d (omega (arith, K.long)), (accepted b p h).size, (accepted b p h).channels.1)) turns_read

      -- The sheet that is written for a FLAT plate is judged flat, with the lands that were kept, in order of first dart.
      pub sheet_judged : judge_sheet (file_of sheet_file p.ports p.channels p.ends (laid_out p n).state.turns)
          ≡ given (record { channels = p.channels; lands = in_order (laid_out p n).state.lands; flat = true })
      unfolding judge_sheet judged is_flat lands_of_flat
      sheet_judged =
          let ls = (laid_out p n).state.lands in
          let e : p.ports + length (in_order ls) ≡ p.channels + 2 = omega (arith, length_in_order ls, lands_flat b p h n w, paths_most b p h n) in
          rw (sheet_read, lands_of_laid_out b p h n, eqb_yes (p.ports + length (in_order ls)) (p.channels + 2) e)

  -- ---- writing

  -- Without a cap the word is FLAT or STUCK: no plate takes as many paths as are allowed.
  pub whole_word : ((laid_out p without_cap).word ≡ FLAT) ⊎ ((laid_out p without_cap).word ≡ STUCK)
  whole_word = go (laid_out p without_cap).word refl
    where
      go : (w : Word) → (laid_out p without_cap).word ≡ w → ((laid_out p without_cap).word ≡ FLAT) ⊎ ((laid_out p without_cap).word ≡ STUCK)
      go FLAT e = inl e
      go STUCK e = inr e
      go PARTIAL e = absurd (whole_laid_out b p h e)

  module _ (lent : ℕ) (enough : file_length sheet_file p.channels ≤ lent) where
    write_as : write_sheet b lent ≡ (stuck_test (laid_out p without_cap) >> given (file_of sheet_file p.ports p.channels p.ends (laid_out p without_cap).state.turns))
    unfolding write_sheet
    write_as = rw (h, lent_pass (record { needed = file_length sheet_file p.channels; lent = lent } ∷ []) (enough, tt))

    write_flat : (laid_out p without_cap).word ≡ FLAT → write_sheet b lent ≡ given (file_of sheet_file p.ports p.channels p.ends (laid_out p without_cap).state.turns)
    unfolding stuck_test
    write_flat w = write_as ∙ rw w refl

    write_stuck : (laid_out p without_cap).word ≡ STUCK → write_sheet b lent ≡ refused 16 (laid_out p without_cap).name
    unfolding stuck_test
    write_stuck w = write_as ∙ rw w refl

    -- The sheet is written exactly where the word is FLAT.
    pub write_given : (write_sheet b lent ≡ given (file_of sheet_file p.ports p.channels p.ends (laid_out p without_cap).state.turns)) ↔ ((laid_out p without_cap).word ≡ FLAT)
    write_given = ((λ e. ⊎_elim (λ w. w) (λ w. absurd (refused_not 16 (laid_out p without_cap).name _ (sym (write_stuck w) ∙ e))) whole_word), write_flat)

    -- It is refused with 16 and the name exactly where the word is STUCK.
    pub write_refused : (write_sheet b lent ≡ refused 16 (laid_out p without_cap).name) ↔ ((laid_out p without_cap).word ≡ STUCK)
    write_refused = ((λ e. ⊎_elim (λ w. absurd (refused_not 16 (laid_out p without_cap).name _ (sym e ∙ write_flat w))) (λ w. w) whole_word), write_stuck)

    -- What is written is the sheet of a FLAT plate.
    pub write_word : (s : List ℕ) → write_sheet b lent ≡ given s → ((laid_out p without_cap).word ≡ FLAT) × (s ≡ file_of sheet_file p.ports p.channels p.ends (laid_out p without_cap).state.turns)
    write_word s e =
        ⊎_elim (λ w. (w, given_inj s _ (sym e ∙ write_flat w))) (λ w. absurd (refused_not 16 (laid_out p without_cap).name s (sym (write_stuck w) ∙ e))) whole_word
