-- The listing call (specs, "Calls"): what its functions ask of each other, and its three cases.
-- filed_ports, filed_channels, filed_darts: a plate that was read is within the limits. filed_plan: it can be laid. ask_lines: a buffer with place for any listing has room for its lines. ask_net, ask_walkable, ask_held, ask_room: it can be listed when it is laid. listed_of: that is its listing. filed_as, same_lines: the same of the parts of arrays that are lent. filed_of: the plate of a file that was read.
-- refusal_told: the refusal of the reading is that of the file, with its number and place. read_lines, refused_lines: what is written for a plate, and for a refusal, is the file's listing. ask_refused: there is room for the latter. written: the listing stands in the buffer then. call_short: what the call gives (`Answers`) where too few bytes are lent. call_told, call_left: what it gives where the listing is written. count_within: the bytes written are among those lent.
-- Assumes nothing.
use mathlib.Core.Path.{◌≡◌, sym, ap, ◌∙◌, subst}
use mathlib.Core.Bool.{Bool, true}
use mathlib.Core.List.{List, [], ◌∷◌, ◌++◌}
use Prim.Native.Nat.{ℕ, ◌+◌, ◌/◌, ◌<◌, ◌≤◌}
use native.Mathlib.Decide.{dec_lt}
use native.Mathlib.Omega.{arith}
use borrow.Author.Tests.{lt-ltb, le-ltb}
use lib.ListN.{length, take, drop, replicate, length-replicate}
use Rattle.std.specs.Prelude.{Some, Result, Ok, Err}
use Rattle.std.proofs.lemmas.Option.{same_Some}
use Rattle.rules.specs.Lists.{any}
use Rattle.rules.specs.Files.{limits1}
use Rattle.rules.specs.Refusals.{Answer, given, refused, refuse, lent_test, Plate as RulePlate, read_plate, pairs_of}
use Rattle.rules.specs.Laying.{without_cap, first_cycle, laying, whole_plate, laid_out, bytes_left, bytes_told}
use Rattle.rules.specs.Listing.{line, laid_lines, listing_of, listing, most_listing, write_listing}
use Rattle.laws.proofs.Refusals.{given_inj, refused_not}
use Rattle.laws.proofs.Reading.{Accepted, accepted}
use Rattle.plate.specs.declared.Plate.{Plate}
use Rattle.plate.specs.declared.Refusal.{Refusal}
use Rattle.plate.specs.declared.Fault.TheVariants.{Lent}
use Rattle.plate.specs.State.{most_darts}
use Rattle.plate.specs.Answers.{number_of, reading_of, refusal_in}
use Rattle.plate.proofs.Laws.{plate_in, Known, unread}
use Rattle.print.specs.declared.Out.{Out}
use Rattle.print.specs.Puts.{Put, Room, Wrote}
use Rattle.print.proofs.Putting.{put_as, wrote_as}
use Rattle.rounds.specs.declared.End.{End}
use Rattle.step.specs.Rooms.{Plan}
use Rattle.rounds.specs.Rooms.{Left}
use Rattle.desk.proofs.Plans.{plan_of, same_ends, same_play}
use Rattle.reach.specs.Neighbours.{Ports}
use Rattle.reach.specs.Floods.{Sized, Tables}
use Rattle.land.specs.Walks.{Walkable}
use Rattle.lines.specs.Story.{cycle_of}
use Rattle.lines.specs.Lines.{plate_of, outcome_of, Held}
use Rattle.text.specs.Calls.{listed_answer, lines_of, Filed}
use Rattle.text.proofs.Bound.{listing_most}
use Rattle.text.proofs.Handing.{walkable_of, held_of, listing_of_lem}

-- ---- a plate that was read

module _ (v : ℕ) (ends : List ℕ) (play : List Bool) (F : Filed v ends play) where
  abbrev P : RulePlate
  P = plate_of v (length play) ends

  A : Accepted P
  A = accepted F.file P F.answer

  pub filed_ports : v ≤ limits1.most_ports
  filed_ports = A.ports.1

  pub filed_channels : length play ≤ limits1.most_channels
  filed_channels = A.channels.1

  pub filed_darts : length ends ≤ most_darts
  filed_darts = omega (arith, A.size, filed_channels)

  pub filed_plan : Plan v ends play
  filed_plan = subst (Plan v ends) (sym F.whole) (plan_of P A)

  pub lines_are : lines_of v ends play ≡ listing F.file
  unfolding lines_of listing listing_of laid_out
  lines_are = ap (λ (w : List Bool). laid_lines P (first_cycle v ends w) (laying v ends w without_cap)) F.whole ∙ sym (ap listing_of F.answer)

  -- there is room for its lines
  pub ask_lines : (m : ℕ) → most_listing ≤ m → 0 + length (lines_of v ends play) ≤ m
  ask_lines m l = omega (arith, ap length lines_are, listing_most F.file)

  -- the turns t are read where they were lent from
  module _ (first more t' fs ns st : List ℕ) (r : End) (E : Left v ends play without_cap first more t' fs ns st r) (el : length first ≡ v) (t : List ℕ) (et : t ≡ t') where
    E' : Left v ends (whole_plate P) without_cap first more t fs ns st r
    E' = subst (λ (w : List ℕ). Left v ends (whole_plate P) without_cap first more w fs ns st r) (sym et) (subst (λ (w : List Bool). Left v ends w without_cap first more t' fs ns st r) F.whole E)

    pub ask_net : Sized (length first) ends play × Tables (length first) ends first more
    ask_net = (
      record { ports = subst (λ (k : ℕ). Ports k ends) (sym el) (λ d l. filed_plan.layable.inn d l); channels = filed_plan.layable.size2 },
      subst (λ (k : ℕ). Tables k ends first more) (sym el) E.tables,
    )

    pub ask_walkable : Walkable t fs ns r.lands
    ask_walkable = walkable_of F.file P F.answer first more t fs ns st r E'

    pub ask_held : Held (length first) ends t (take r.story st) r.paths r.word
    ask_held = subst (λ (k : ℕ). Held k ends t (take r.story st) r.paths r.word) (sym el) (held_of F.file P F.answer first more t fs ns st r E')

    -- what is written is the listing
    abbrev lines : List ℕ
    lines = laid_lines (plate_of (length first) (length play) ends) (cycle_of (take r.story st)) (outcome_of r.word t fs ns r.lands (take r.story st) r.paths)

    lines_so : lines ≡ lines_of v ends play
    lines_so =
        ap (λ (k : ℕ). laid_lines (plate_of k (length play) ends) (cycle_of (take r.story st)) (outcome_of r.word t fs ns r.lands (take r.story st) r.paths)) el
        ∙ listing_of_lem F.file P F.answer first more t fs ns st r E'
        ∙ sym lines_are

    module _ (l : List ℕ) (e : lines_of v ends play ≡ l) (o : Out) where
      pub ask_room : Room l o → Room lines o
      ask_room h = omega (arith, h, ap length (lines_so ∙ e))

      pub listed_of : (o' : Out) → Wrote lines o o' → Wrote l o o'
      listed_of o' w = wrote_as (lines_so ∙ e) w

-- a plate whose pairs are copied to the front of an array, and whose channels are all in play
module _ (v : ℕ) (pairs : List ℕ) (F : Filed v pairs (replicate (length pairs / 2) true)) where
  pub pairs_few : (length pairs ≤ most_darts) × (length pairs / 2 ≤ limits1.most_channels)
  pairs_few = (filed_darts v pairs (replicate (length pairs / 2) true) F, omega (arith, filed_darts v pairs (replicate (length pairs / 2) true) F))

  -- v places for the ports, the pairs, and every channel in play
  module _ (u : ℕ) (ends : List ℕ) (play : List Bool) (eu : u ≡ v) (ep : ends ≡ pairs) (eq : play ≡ replicate (length pairs / 2) true) where
    pub filed_as : Filed u ends play
    filed_as = subst (λ (k : ℕ). Filed k ends play) (sym eu) (subst (λ (w : List ℕ). Filed v w play) (sym ep) (subst (Filed v pairs) (sym eq) F))

    pub same_lines : lines_of u ends play ≡ lines_of v pairs (replicate (length pairs / 2) true)
    same_lines = ap (λ (k : ℕ). lines_of k ends play) eu ∙ ap (λ (w : List ℕ). lines_of v w play) ep ∙ ap (lines_of v pairs) eq

-- the plate of a file that was read, by its pairs
module _ (b : List ℕ) (p : Plate) (k : Known b p) (pairs : List ℕ) (e : pairs ≡ pairs_of b) where
  pub filed_of : Filed p.ports pairs (replicate (length pairs / 2) true)
  filed_of = record {
    file = b;
    answer = k.answer ∙ ap given plate_is;
    whole = ap (λ (m : ℕ). replicate m true) (sym (length-replicate (length pairs / 2) true));
  }
    where
      channels : (plate_in b).channels ≡ length (replicate (length pairs / 2) true)
      channels = sym (length-replicate (plate_in b).channels true) ∙ ap length (sym (same_play b p k pairs e))

      plate_is : plate_in b ≡ plate_of p.ports (length (replicate (length pairs / 2) true)) pairs
      plate_is =
          ap (λ (v : ℕ). plate_of v (plate_in b).channels (plate_in b).ends) (sym k.ports)
          ∙ ap (λ (n : ℕ). plate_of p.ports n (plate_in b).ends) channels
          ∙ ap (plate_of p.ports (length (replicate (length pairs / 2) true))) (sym (same_ends b p k pairs e))

-- ---- the call

short_refused : (b : List ℕ) (lent : ℕ) → lent < most_listing → write_listing b lent ≡ refused 15 0
unfolding write_listing lent_test refuse any
short_refused b lent h = rw (lt-ltb lent most_listing h)

long_given : (b : List ℕ) (lent : ℕ) → most_listing ≤ lent → write_listing b lent ≡ given (listing b)
unfolding write_listing lent_test refuse any
long_given b lent h = rw (le-ltb lent most_listing h)

-- what the call answers and leaves for the file b, `old` being lent
abbrev pub Answers : List ℕ → List ℕ → Result ℕ Refusal → List ℕ → Type 0
Answers b old r new = (listed_answer r ≡ bytes_told (write_listing b (length old))) × (new ≡ bytes_left (write_listing b (length old)) old)

pub call_short : (b old : List ℕ) → length old < most_listing → Answers b old (Err (record { fault = Lent; place = 0 })) old
unfolding listed_answer bytes_told bytes_left
call_short b old h =
    let e = short_refused b (length old) h in
    (sym (ap bytes_told e), sym (ap (λ (a : Answer (List ℕ)). bytes_left a old) e))

-- the listing, written from the front of the buffer
module _ (b old : List ℕ) (h : most_listing ≤ length old) (now : List ℕ) (r : ℕ) (w : Put (listing b) 0 old now r) where
  all : 0 + length (listing b) ≡ length (listing b)
  all = omega arith

  pub call_told : listed_answer (Ok r) ≡ bytes_told (write_listing b (length old))
  unfolding listed_answer bytes_told
  call_told = ap given (w.stop ∙ all) ∙ sym (ap bytes_told (long_given b (length old) h))

  pub call_left : (new : List ℕ) → new ≡ now → new ≡ bytes_left (write_listing b (length old)) old
  unfolding bytes_left
  call_left new e = e ∙ w.held ∙ ap (λ (k : ℕ). listing b ++ drop k old) all ∙ sym (ap (λ (a : Answer (List ℕ)). bytes_left a old) (long_given b (length old) h))

pub written : (b l old : List ℕ) (o o' : Out) → l ≡ listing b → o ≡ o' → Put l 0 old o'.bytes.now o'.at → Put (listing b) 0 old o.bytes.now o.at
written b l old o o' e d w = subst (λ (x : Out). Put (listing b) 0 old x.bytes.now x.at) (sym d) (put_as e w)

-- a plate that was read
pub read_lines : (b : List ℕ) (p : Plate) (k : Known b p) (pairs : List ℕ) (e : pairs ≡ pairs_of b) → lines_of p.ports pairs (replicate (length pairs / 2) true) ≡ listing b
unfolding filed_of
read_lines b p k pairs e = lines_are p.ports pairs (replicate (length pairs / 2) true) (filed_of b p k pairs e)

-- a file that was refused
pub refusal_told : (b : List ℕ) (r : Result Plate Refusal) → reading_of r b ≡ read_plate b → (y : Refusal) → r ≡ Err y → (x : Refusal) → Some x ≡ refusal_in r → (n : ℕ) → n ≡ number_of x.fault → read_plate b ≡ refused n x.place
refusal_told b r e y d x h n m =
    let s : x ≡ y = same_Some x y (h ∙ ap refusal_in d) in
    unread b r e y d ∙ ap (λ (w : Refusal). refused (number_of w.fault) w.place) (sym s) ∙ ap (λ (k : ℕ). refused k x.place) (sym m)

module _ (b : List ℕ) (n q : ℕ) (h : read_plate b ≡ refused n q) where
  pub refused_lines : line "REFUSED" (n ∷ q ∷ []) ≡ listing b
  unfolding listing listing_of
  refused_lines = sym (ap listing_of h)

  pub ask_refused : (m : ℕ) → most_listing ≤ m → 0 + length (line "REFUSED" (n ∷ q ∷ [])) ≤ m
  ask_refused m l = omega (arith, ap length refused_lines, listing_most b)

-- the bytes written are among those lent
pub count_within : (b : List ℕ) (lent size : ℕ) (r : Result ℕ Refusal) (n : ℕ) → r ≡ Ok n → listed_answer r ≡ bytes_told (write_listing b lent) → size ≡ lent → n ≤ size
unfolding listed_answer bytes_told
count_within b lent size r n d e h = go (dec_lt lent most_listing)
  where
    told : given n ≡ bytes_told (write_listing b lent)
    told = sym (ap listed_answer d) ∙ e

    go : Dec (lent < most_listing) → n ≤ size
    go (yes l) = absurd (refused_not 15 0 n (sym (told ∙ ap bytes_told (short_refused b lent l))))
    go (no l) = omega (arith, given_inj _ _ (told ∙ ap bytes_told (long_given b lent (omega arith))), listing_most b, h)
