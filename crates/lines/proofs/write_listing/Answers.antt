-- `lines::write_listing` meets its contract: the first line, the first cycle, the paths, the word, and where the word is FLAT the lands and ports, one behind another.
-- Assumes nothing.
use mathlib.Core.Path.{◌≡◌, refl}
use Rattle.print.proofs.Putting.{begin, room, step, finish, Cut}
use Prim.Native.Nat.{ℕ, ◌%◌}
use native.Mathlib.Omega.{arith}
use lib.ListN.{length}
use mathlib.Core.List.{[]}
use Rattle.rules.specs.Listing.{head_line, laid_lines}
use Rattle.lines.specs.Story.{cycle_of}
use Rattle.lines.specs.Lines.{plate_of, outcome_of}
use Rattle.lines.proofs.Whole.{after_head, laid_head, laid_cycle, laid_paths, laid_word, laid_flat, laid_none, other_of, told_cycle}
use Rattle.lines.proofs.write_listing.Goals as goal
use Rattle.lines.proofs.write_listing.Goals.{Start}

-- the numbers of ports and channels
abbrev v : Start → ℕ
v c = length c.args.net.first.now

abbrev e : Start → ℕ
e c = length c.args.net.play.now

-- the darts come in pairs
pairs : (c : Start) → length c.args.net.ends.now % 2 ≡ 0
pairs c = omega (arith, c.args.net.sized.channels)

-- the first line apart
headed : (c : Start) → Cut (laid_lines (plate_of (v c) (e c) c.args.net.ends.now) (cycle_of c.args.story.now) (outcome_of c.args.word c.args.kept.turns.now c.args.kept.firsts.now c.args.kept.lens.now c.args.kept.count c.args.story.now c.args.paths))
    (head_line (plate_of (v c) (e c) []))
    (after_head (v c) (e c) c.args.net.ends.now c.args.word c.args.kept.turns.now c.args.kept.firsts.now c.args.kept.lens.now c.args.kept.count c.args.story.now c.args.paths)
headed c = laid_head _ _ _ _ _ _ _ _ _ _

pub head_line-requires : goal.head_line-requires
head_line-requires c = room c.requires.room (begin _ c.args.out.now) (headed (goal.at.head_line-requires c).Start)

pub cycle_line-requires : goal.cycle_line-requires
cycle_line-requires c = record { darts = record { even = pairs (goal.at.cycle_line-requires c).Start; few = c.requires.held.few; inside = told_cycle _ _ _ c.requires.held.told _ refl }; room = room c.requires.room (step c.requires.room (begin _ c.args.out.now) (headed (goal.at.cycle_line-requires c).Start) c.head_line.ensures) (laid_cycle _ _ _ _ _ _ _ _ _ _ _ refl) }

pub path_lines-requires-clause-room : goal.path_lines-requires-clause-room
path_lines-requires-clause-room c = room c.requires.room (step c.requires.room (step c.requires.room (begin _ c.args.out.now) (headed (goal.at.path_lines-requires-clause-room c).Start) c.head_line.ensures) (laid_cycle _ _ _ _ _ _ _ _ _ _ _ refl) c.cycle_line.ensures) (laid_paths _ _ _ _ _ _ _ _ _ _ _ refl)

pub word_line-requires : goal.word_line-requires
word_line-requires c = room c.requires.room (step c.requires.room (step c.requires.room (step c.requires.room (begin _ c.args.out.now) (headed (goal.at.word_line-requires c).Start) c.head_line.ensures) (laid_cycle _ _ _ _ _ _ _ _ _ _ _ refl) c.cycle_line.ensures) (laid_paths _ _ _ _ _ _ _ _ _ _ _ refl) c.path_lines.ensures) (laid_word _ _ _ _ _ _ _ _ _ _)

pub returns-in_default : goal.returns-in_default
returns-in_default c = finish c.requires.room (step c.requires.room (step c.requires.room (step c.requires.room (step c.requires.room (begin _ c.args.out.now) (headed (goal.at.returns-in_default c).Start) c.head_line.ensures) (laid_cycle _ _ _ _ _ _ _ _ _ _ _ refl) c.cycle_line.ensures) (laid_paths _ _ _ _ _ _ _ _ _ _ _ refl) c.path_lines.ensures) (laid_word _ _ _ _ _ _ _ _ _ _) c.word_line.ensures) (laid_none _ _ _ _ _ _ _ _ _ _ (other_of c.args.word c.in_default.not-Flat))

pub sheet_lines-requires-clause-room : goal.sheet_lines-requires-clause-room
sheet_lines-requires-clause-room c = room c.requires.room (step c.requires.room (step c.requires.room (step c.requires.room (step c.requires.room (begin _ c.args.out.now) (headed (goal.at.sheet_lines-requires-clause-room c).Start) c.head_line.ensures) (laid_cycle _ _ _ _ _ _ _ _ _ _ _ refl) c.cycle_line.ensures) (laid_paths _ _ _ _ _ _ _ _ _ _ _ refl) c.path_lines.ensures) (laid_word _ _ _ _ _ _ _ _ _ _) c.word_line.ensures) (laid_flat _ _ _ _ _ _ _ _ _ _ c.in-Flat.is)

pub returns-in-Flat : goal.returns-in-Flat
returns-in-Flat c = finish c.requires.room (step c.requires.room (step c.requires.room (step c.requires.room (step c.requires.room (step c.requires.room (begin _ c.args.out.now) (headed (goal.at.returns-in-Flat c).Start) c.head_line.ensures) (laid_cycle _ _ _ _ _ _ _ _ _ _ _ refl) c.cycle_line.ensures) (laid_paths _ _ _ _ _ _ _ _ _ _ _ refl) c.path_lines.ensures) (laid_word _ _ _ _ _ _ _ _ _ _) c.word_line.ensures) (laid_flat _ _ _ _ _ _ _ _ _ _ c.in-Flat.is) c.sheet_lines.ensures) refl
