-- `plate::mark_tests` meets its contract: the first of the three tests that refuses decides.
-- Assumes nothing.
use mathlib.Core.Path.{sym, ap, ◌∙◌}
use mathlib.Core.Bool.{not}
use borrow.Author.Tests.{lt-ltb, le-ltb, ne_eqb, eq-eqb}
use Rattle.plate.proofs.Stages.{mark_1, mark_2, mark_3, mark_passed, passed_is, short_is, version_is}
use Rattle.plate.proofs.mark_tests.Goals as goal

pub returns-then-file-lt-PAIRS_AT : goal.returns-then-file-lt-PAIRS_AT
returns-then-file-lt-PAIRS_AT c = c.refused.ensures ∙ sym (mark_1 _ _ (short_is _ _ ∙ lt-ltb _ _ c.if-file-lt-PAIRS_AT.true))

pub returns-then-not-has_mark : goal.returns-then-not-has_mark
returns-then-not-has_mark c =
    c.refused-then-not-has_mark.ensures
    ∙ sym (mark_2 _ _ (short_is _ _ ∙ le-ltb _ _ c.if-file-lt-PAIRS_AT.false) (sym c.has_mark.ensures ∙ (ap not c.if-not-has_mark.true)))

pub returns-then-word_at-ne-VERSION : goal.returns-then-word_at-ne-VERSION
returns-then-word_at-ne-VERSION c =
    c.refused-then-word_at-ne-VERSION.ensures
    ∙ sym (mark_3 _ _ (short_is _ _ ∙ le-ltb _ _ c.if-file-lt-PAIRS_AT.false) (sym c.has_mark.ensures ∙ (ap not c.if-not-has_mark.false))
    (version_is _ _ ∙ ap not (ne_eqb _ _ (λ q. c.if-word_at-ne-VERSION.true (c.word_at.ensures ∙ q)))))

pub returns : goal.returns
returns c =
    sym passed_is
    ∙ sym (mark_passed _ _ (short_is _ _ ∙ le-ltb _ _ c.if-file-lt-PAIRS_AT.false) (sym c.has_mark.ensures ∙ (ap not c.if-not-has_mark.false))
    (version_is _ _ ∙ ap not (eq-eqb _ _ (sym c.word_at.ensures ∙ c.if-word_at-ne-VERSION.false))))
