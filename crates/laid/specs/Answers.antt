-- What the code's answers stand for: document 01's word, number of paths and name, or its refusal.
--   laid_of e          what laying answers for its end: the word and the number of paths
--   told_of r          what laying answers, as document 01 says it: the word, the number of paths and the name, 0 where it is not STUCK
--   laid_answer r      what the laying call answers: that, or the refusal
-- Assumes nothing.
use Rattle.std.specs.Prelude.{Result, Ok, Err}
use Rattle.rules.specs.Refusals.{Answer, given, refused}
use Rattle.rules.specs.Laying.{Told}
use Rattle.plate.specs.declared.Refusal.{Refusal}
use Rattle.plate.specs.Answers.{number_of}
use Rattle.rounds.specs.declared.End.{End}
use Rattle.rounds.specs.Words.{word_in, name_in}
use Rattle.laid.specs.declared.Laid.{Laid}

abbrev pub laid_of : End → Laid
laid_of e = record { word = e.word; paths = e.paths }

abbrev pub told_of : Laid → Told
told_of r = record { word = word_in r.word; paths = r.paths; name = name_in r.word }

unfoldable pub laid_answer : Result Laid Refusal → Answer Told
laid_answer (Ok r) = given (told_of r)
laid_answer (Err x) = refused (number_of x.fault) x.place
