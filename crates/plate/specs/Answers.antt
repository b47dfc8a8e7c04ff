-- What the code's answers stand for: document 01's formats, numbers and values for each case of the reader's answers.
--   format_of kind        the format that a kind of file has
--   number_of f           document 01's number of the refusal for a fault
--   test_of t             what a test gave: leave to go on, or a refusal with its number and place
--   reading_by told r b   what reading the file b gave: the read plate, or a refusal, of which `told` says which number and place it has
--   reading_of r b        the same of the reader's own refusals
--   refusal_in r          the refusal of a reading that has one
-- Assumes nothing.
use Rattle.std.specs.Prelude.{List, ℕ, Option, Some, None, Result, Ok, Err}
use Rattle.rules.specs.Files.{Format, plate_file, sheet_file, ends_in}
use Rattle.rules.specs.Refusals.{Answer, given, refused, passed, Test as RuleTest, Plate as RulePlate}
use Rattle.plate.specs.declared.Kind.{Kind}
use Rattle.plate.specs.declared.Kind.TheVariants.{Plate as PlateKind, Sheet as SheetKind}
use Rattle.plate.specs.declared.Fault.{Fault}
use Rattle.plate.specs.declared.Fault.TheVariants.{Short, OtherMark, OtherVersion, PortsOutside, ChannelsOutside, OtherLength, Strange, Loop, MetEarlier, Apart, Cuts, WildTurn, AwayTurn, BrokenRing, Lent, Stuck}
use Rattle.plate.specs.declared.Refusal.{Refusal}
use Rattle.plate.specs.declared.Plate.{Plate}

unfoldable pub format_of : Kind → Format
format_of PlateKind = plate_file
format_of SheetKind = sheet_file

abbrev pub number_of : Fault → ℕ
number_of Short = 1
number_of OtherMark = 2
number_of OtherVersion = 3
number_of PortsOutside = 4
number_of ChannelsOutside = 5
number_of OtherLength = 6
number_of Strange = 7
number_of Loop = 8
number_of MetEarlier = 9
number_of Apart = 10
number_of Cuts = 11
number_of WildTurn = 12
number_of AwayTurn = 13
number_of BrokenRing = 14
number_of Lent = 15
number_of Stuck = 16

unfoldable pub test_of : Result (Unit {0}) Refusal → RuleTest
test_of (Ok u) = passed
test_of (Err x) = refused (number_of x.fault) x.place

unfoldable pub reading_by : {E : Type 0} → (E → ℕ × ℕ) → Result Plate E → List ℕ → Answer RulePlate
reading_by told (Ok p) b = given (record { ports = p.ports; channels = p.channels; ends = ends_in plate_file b })
reading_by told (Err x) b = refused (told x).0 (told x).1

abbrev pub reading_of : Result Plate Refusal → List ℕ → Answer RulePlate
reading_of r b = reading_by (λ x. (number_of x.fault, x.place)) r b

abbrev pub refusal_in : {E : Type 0} → Result Plate E → Option E
refusal_in (Ok p) = None
refusal_in (Err x) = Some x
