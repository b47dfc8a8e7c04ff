-- Laying the pairs of a plate has one result: two results that meet its postcondition (`Reads.Post`, which is its `ensures`) for the same arguments are equal (plate, `OneResult`).
--   LeftBy A      what laying leaves: the answer, of type A, and the three slices lent
-- told_unique, laid_unique: two answers that stand for the same are the same. same: a result is its parts.
-- Assumes nothing.
use mathlib.Core.Path.{◌≡◌, refl, sym, ap, ◌∙◌}
use mathlib.Core.List.{List}
use Prim.Native.Nat.{ℕ}
use Rattle.std.specs.Prelude.{Result, Ok, Err}
use Rattle.rules.specs.Laying.{Word as RuleWord, Told, FLAT, STUCK, PARTIAL}
use Rattle.laws.proofs.Refusals.{given_inj, refused_not}
use Rattle.plate.specs.declared.Refusal.{Refusal}
use Rattle.plate.specs.Answers.{number_of}
use Rattle.plate.proofs.Laws.{refusal_unique}
use Rattle.plate.proofs.Unique.{OneResult}
use Rattle.rounds.specs.declared.Word.{Word}
use Rattle.rounds.specs.declared.Word.TheVariants.{Flat, Stuck, Partial}
use Rattle.rounds.specs.Words.{word_in, name_in}
use Rattle.laid.specs.declared.Laid.{Laid}
use Rattle.laid.specs.Answers.{told_of, laid_answer}
use Rattle.laid.proofs.lay_pairs.Kinds as lay-pairs-kinds
use Rattle.laid.proofs.lay_pairs.Reads as lay-pairs-reads

-- ---- an answer is determined by what it stands for

-- the word of the code for this word and name; the answer that stands for what was told
abbrev word_as : RuleWord → ℕ → Word
word_as FLAT k = Flat
word_as STUCK k = Stuck k
word_as PARTIAL k = Partial

word_back : (w : Word) → word_as (word_in w) (name_in w) ≡ w
word_back Flat = refl
word_back (Stuck k) = refl
word_back Partial = refl

abbrev laid_for : Told → Laid
laid_for t = record { word = word_as t.word t.name; paths = t.paths }

laid_for_lem : (r : Laid) → laid_for (told_of r) ≡ r
laid_for_lem r = ap (λ (w : Word). record { word = w; paths = r.paths }) (word_back r.word)

pub told_unique : (r s : Laid) → told_of r ≡ told_of s → r ≡ s
told_unique r s e = sym (laid_for_lem r) ∙ ap laid_for e ∙ laid_for_lem s

pub laid_unique : (r s : Result Laid Refusal) → laid_answer r ≡ laid_answer s → r ≡ s
unfolding laid_answer
laid_unique (Ok a) (Ok b) e = ap Ok (told_unique a b (given_inj _ _ e))
laid_unique (Ok a) (Err y) e = absurd (refused_not (number_of y.fault) y.place _ (sym e))
laid_unique (Err x) (Ok b) e = absurd (refused_not (number_of x.fault) x.place _ e)
laid_unique (Err x) (Err y) e = ap Err (refusal_unique x y e)

-- ---- the call

pub record LeftBy (A : Type 0) : Type 0 where
  pub answer : A
  pub turns : List ℕ
  pub lands : List ℕ
  pub lengths : List ℕ

pub same : {A : Type 0} (x y : LeftBy A) → x.answer ≡ y.answer → x.turns ≡ y.turns → x.lands ≡ y.lands → x.lengths ≡ y.lengths → x ≡ y
same x y a t l n i = record { answer = a i; turns = t i; lands = l i; lengths = n i }

pub lay_pairs_unique : OneResult 4 lay-pairs-kinds.ps lay-pairs-kinds.r (LeftBy Laid) lay-pairs-reads.Post (λ κs r x. record { answer = r; turns = x.1.1.1.0.now; lands = x.1.1.1.1.0.now; lengths = x.1.1.1.1.1.0.now })
lay_pairs_unique κs a r s x y p q = same _ _ (told_unique r s (p.said ∙ sym q.said)) (p.of_turns ∙ sym q.of_turns) (p.of_lands ∙ sym q.of_lands) (p.of_lengths ∙ sym q.of_lengths)
