-- What the code's answers say of a laying.
--   said_by_round v           what a verdict of the code says of itself: the end with FLAT or STUCK, or a path for its choice
--   said_by_cap p n x         after p paths: the end with PARTIAL where n are allowed, otherwise x
--   first_said x y           x, or where x does not end the laying y
--   after_round v p n        what follows a round with the verdict v after p paths: what it says of itself goes before n
--   word_in w, name_in w      document 01's word, and the name, 0 where it is not STUCK
--   said_by r                what the end of a laying says: word, number of paths, name
--   said_of o                what an outcome says
-- Assumes nothing.
use Rattle.std.specs.Prelude.{cond, ℕ, eqb, length}
use Rattle.std.specs.declared.ops.ControlFlow.{ControlFlow}
use Rattle.std.specs.declared.ops.ControlFlow.TheVariants.{Continue, Break}
use Rattle.rules.specs.Laying.{Word as RuleWord, FLAT, STUCK, PARTIAL, Outcome, Told}
use Rattle.fragment.specs.declared.Choice.{Choice}
use Rattle.fragment.specs.declared.Verdict.{Verdict}
use Rattle.fragment.specs.declared.Verdict.TheVariants.{Flat as SaidFlat, Stuck as SaidStuck, Ready as SaidReady}
use Rattle.rounds.specs.declared.Word.{Word}
use Rattle.rounds.specs.declared.Word.TheVariants.{Flat, Stuck, Partial}
use Rattle.rounds.specs.declared.End.{End}

abbrev pub said_by_round : Verdict → ControlFlow Word Choice
said_by_round SaidFlat = Break Flat
said_by_round (SaidStuck k) = Break (Stuck k)
said_by_round (SaidReady c) = Continue c

abbrev pub said_by_cap : ℕ → ℕ → ControlFlow Word Choice → ControlFlow Word Choice
said_by_cap p n x = cond (eqb p n) (Break Partial) x

abbrev pub first_said : ControlFlow Word Choice → ControlFlow Word Choice → ControlFlow Word Choice
first_said (Break w) y = Break w
first_said (Continue c) y = y

abbrev pub after_round : Verdict → ℕ → ℕ → ControlFlow Word Choice
after_round v p n = first_said (said_by_round v) (said_by_cap p n (said_by_round v))

abbrev pub word_in : Word → RuleWord
word_in Flat = FLAT
word_in (Stuck k) = STUCK
word_in Partial = PARTIAL

abbrev pub name_in : Word → ℕ
name_in Flat = 0
name_in (Stuck k) = k
name_in Partial = 0

abbrev pub said_by : End → Told
said_by r = record { word = word_in r.word; paths = r.paths; name = name_in r.word }

abbrev pub said_of : Outcome → Told
said_of o = record { word = o.word; paths = length o.state.paths; name = o.name }
