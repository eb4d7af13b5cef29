use Rattle.std.proofs.Common.{sym, ◌∙◌}
use Rattle.std.proofs.lemmas.Bool.{false≢true}
use Rattle.blif_read.proofs.Sayings.{latch_says, says_latch}
use Rattle.blif_read.proofs.saying.latch_of.Goals as goal

pub returns-then-not-is_word-clause-none : goal.returns-then-not-is_word-clause-none
returns-then-not-is_word-clause-none c = λ s says.
    false≢true (sym c.if-not-is_word.true
    ∙ c.is_word.ensures.1 (latch_says c.args.takes.now c.args.drives.now c.args.edge.now c.args.clock.now c.args.initial.now s says).edge_is)

pub returns-then-not-are_three_names-clause-none : goal.returns-then-not-are_three_names-clause-none
returns-then-not-are_three_names-clause-none c = λ s says.
    false≢true (sym c.if-not-are_three_names.true
    ∙ c.are_three_names.ensures.1 (latch_says c.args.takes.now c.args.drives.now c.args.edge.now c.args.clock.now c.args.initial.now s says).names)

pub returns-in-Some-clause-some : goal.returns-in-Some-clause-some
returns-in-Some-clause-some c =
    says_latch c.args.takes.now c.args.drives.now c.args.edge.now c.args.clock.now c.args.initial.now c.in-Some.initial (c.is_word.ensures.0 c.if-not-is_word.false)
    (c.are_three_names.ensures.0 c.if-not-are_three_names.false) c.in-Some.ensures.some

pub returns-in-None-clause-none : goal.returns-in-None-clause-none
returns-in-None-clause-none c = λ s says.
    let latch = latch_says c.args.takes.now c.args.drives.now c.args.edge.now c.args.clock.now c.args.initial.now s says in
    c.in-None.ensures.none latch.bit latch.bit_is
