-- `text::listing` meets its contract: a buffer too short, a file that is refused and a plate that is read are the three cases of the call (Calling).
-- Assumes nothing.
use Rattle.std.proofs.Common.{rules}
use mathlib.Core.Path.{◌≡◌, refl, sym, ◌∙◌}
use mathlib.Core.Bool.{true}
use mathlib.Core.List.{List}
use Prim.Native.Nat.{ℕ, ◌/◌}
use native.Mathlib.Omega.{arith}
use Rattle.std.specs.Prelude.{Ok}
use lib.ListN.{length, replicate}
use Rattle.rules.specs.Refusals.{refused, read_plate, pairs_of}
use Rattle.rules.specs.Listing.{listing}
use Rattle.plate.proofs.Laws.{Known, known, read_is, part_told}
use Rattle.print.specs.Puts.{Put}
use Rattle.text.specs.Calls.{Filed}
use Rattle.text.proofs.Calling.{filed_ports, filed_darts, filed_of, ask_lines, ask_refused, read_lines, refusal_told, refused_lines, written, call_short, call_told, call_left}
use Rattle.text.proofs.listing.Goals as goal
use Rattle.text.proofs.listing.Goals.{After-pairs, After-number, In-Ok, in-Ok, in-Err}

-- the plate that was read, and its pairs
plate : (c : In-Ok) → Known c.args.file.now c.in-Ok.p
plate c = known _ _ c.read-got.ensures _ c.in-Ok.is

pairs : (c : After-pairs) → c.pairs.result.now ≡ pairs_of c.args.file.now
pairs c = part_told _ (Ok c.in-Ok.p) (read_is _ _ c.read-got.ensures _ c.in-Ok.is) _ c.pairs.ensures

filed : (c : In-Ok) (l : List ℕ) → l ≡ pairs_of c.args.file.now → Filed c.in-Ok.p.ports l (replicate (length l / 2) true)
filed c l e = filed_of _ _ (plate c) l e

-- the refusal, with its number and place
refusal : (c : After-number) → read_plate c.args.file.now ≡ refused c.number.result c.unwrap-x.result.place
refusal c = refusal_told _ _ c.read-got.ensures _ c.in-Err.is _ (sym c.unwrap-x.ensures ∙ c.refusal_in.ensures) _ c.number.ensures

pub returns-then-out-lt-MOST_LISTING : goal.returns-then-out-lt-MOST_LISTING
returns-then-out-lt-MOST_LISTING c =
    let w = call_short c.args.file.now c.args.out.now (omega (arith, c.if-out-lt-MOST_LISTING.true)) in
    record { answer = w.0; bytes = w.1 }

pub list_pairs-requires-clause-limits : goal.list_pairs-requires-clause-limits
list_pairs-requires-clause-limits c =
    let was = goal.at.list_pairs-requires-clause-limits c in
    let F = filed was.In-Ok _ (pairs was.After-pairs) in
    (filed_ports _ _ _ F, filed_darts _ _ _ F)

pub list_pairs-requires-clause-filed : goal.list_pairs-requires-clause-filed
list_pairs-requires-clause-filed c =
    let was = goal.at.list_pairs-requires-clause-filed c in
    filed was.In-Ok _ (pairs was.After-pairs)

pub list_pairs-requires-clause-room : goal.list_pairs-requires-clause-room
list_pairs-requires-clause-room c =
    let was = goal.at.list_pairs-requires-clause-room c in
    ask_lines _ _ _ (filed was.In-Ok _ (pairs was.After-pairs)) _ c.if-out-lt-MOST_LISTING.false

pub unwrap-x-requires : goal.unwrap-x-requires
unwrap-x-requires c = rw (c.refusal_in.ensures, c.in-Err.is) refl

pub refused_line-requires : goal.refused_line-requires
refused_line-requires c = ask_refused _ _ _ (refusal (goal.at.refused_line-requires c).After-number) _ c.if-out-lt-MOST_LISTING.false

-- the listing is written in either case
pub returns : goal.returns
returns c =
    let b = c.args.file.now in
    let w : Put (listing b) 0 c.args.out.now c.match-got.out.bytes.now c.match-got.out.at = elim c.match-got.branch [
      | in-Ok w ↦ written b _ c.args.out.now _ _ (read_lines b w.in-Ok.p (known _ _ c.read-got.ensures _ w.in-Ok.is) _ (part_told _ (Ok w.in-Ok.p) (read_is _ _ c.read-got.ensures _ w.in-Ok.is) _ w.pairs.ensures)) w.out-is w.list_pairs.ensures.put
      | in-Err w ↦ written b _ c.args.out.now _ _ (refused_lines b _ _ (refusal_told _ _ c.read-got.ensures _ w.in-Err.is _ (sym w.unwrap-x.ensures ∙ w.refusal_in.ensures) _ w.number.ensures)) w.out-is w.refused_line.ensures.put
    ] in
    record { answer = call_told b c.args.out.now c.if-out-lt-MOST_LISTING.false _ _ w; bytes = call_left b c.args.out.now c.if-out-lt-MOST_LISTING.false _ _ w _ (search rules) }
