-- `plate::count_tests` meets its contract: the first of the three tests that refuses decides. The number of channels fits, since the second test was passed.
-- Assumes nothing.
use mathlib.Core.Path.{◌≡◌, sym, ap, ◌∙◌}
use mathlib.Core.Bool.{not}
use borrow.Author.Rules.{rules}
use borrow.Author.Tests.{tests, ne_eqb, eq-eqb}
use Rattle.rules.specs.Refusals.{outside}
use Rattle.plate.specs.Answers.{format_of}
use Rattle.plate.proofs.Stages.{bad_ports, bad_channels, count_4, count_5, count_6, count_passed, passed_is, ports_test, channels_test, length_test}
use Rattle.plate.proofs.count_tests.Goals as goal
use Rattle.plate.proofs.count_tests.Goals.{After-contains, After-contains-2}

-- the two tests of a count, by what `contains` answers
ports : (c : After-contains) → bad_ports (format_of c.args.kind) c.args.file.now ≡ not c.contains.result
unfolding outside
ports c =
    let o : not c.contains.result ≡ outside 3 200 c.counts-head.result.ports = search (rules, tests) in
    ports_test _ _ _ _ c.counts-head.ensures.0 o

channels : (c : After-contains-2) → bad_channels (format_of c.args.kind) c.args.file.now ≡ not c.contains-2.result
unfolding outside
channels c =
    let o : not c.contains-2.result ≡ outside 3 600 c.counts-head.result.channels = search (rules, tests) in
    channels_test _ _ _ _ c.counts-head.ensures.1 o

pub returns-then-not-contains : goal.returns-then-not-contains
returns-then-not-contains c =
    c.refused.ensures
    ∙ sym (count_4 _ _ (ports (goal.at.returns-then-not-contains c).After-contains ∙ ap not c.if-not-contains.true))

pub returns-then-not-contains-2 : goal.returns-then-not-contains-2
returns-then-not-contains-2 c =
    let at = goal.at.returns-then-not-contains-2 c in
    c.refused-then-not-contains-2.ensures
    ∙ sym (count_5 _ _ (ports at.After-contains ∙ ap not c.if-not-contains.false) (channels at.After-contains-2 ∙ ap not c.if-not-contains-2.true))

pub returns-then-file-file_length : goal.returns-then-file-file_length
returns-then-file-file_length c =
    let at = goal.at.returns-then-file-file_length c in
    c.refused-then-file-file_length.ensures
    ∙ sym (count_6 _ _ (ports at.After-contains ∙ ap not c.if-not-contains.false) (channels at.After-contains-2 ∙ ap not c.if-not-contains-2.false)
    (length_test _ _ _ _ c.counts-head.ensures.1 c.file_length.ensures ∙ ap not (ne_eqb _ _ c.if-file-file_length.true)))

pub returns : goal.returns
returns c =
    let at = goal.at.returns c in
    sym passed_is
    ∙ sym (count_passed _ _ (ports at.After-contains ∙ ap not c.if-not-contains.false) (channels at.After-contains-2 ∙ ap not c.if-not-contains-2.false)
    (length_test _ _ _ _ c.counts-head.ensures.1 c.file_length.ensures ∙ ap not (eq-eqb _ _ c.if-file-file_length.false)))
