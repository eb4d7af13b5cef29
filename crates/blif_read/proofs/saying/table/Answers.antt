use Rattle.std.proofs.Common.{◌≡◌, ◌<◌, ◌+◌, ◌-◌, length, refl, sym, ◌∙◌, take, arith}
use Rattle.std.proofs.lemmas.Bool.{false≢true}
use Rattle.std.proofs.lemmas.Grind.{common_steps}
use Rattle.stimulus.specs.Texts.{texts}
use Rattle.blif_read.proofs.Lists.{length-texts}
use Rattle.blif_read.proofs.Sayings.{no_table, not_table, says_table_of}
use Rattle.blif_read.proofs.saying.table.Goals as goal

pub returns-then-is_empty-clause-none : goal.returns-then-is_empty-clause-none
returns-then-is_empty-clause-none c =
    let none : length c.args.others.now ≡ 0 = grind (arith, common_steps) in
    no_table (texts c.args.others.now) (length-texts c.args.others.now ∙ none)

pub returns-then-not-are_names-clause-none : goal.returns-then-not-are_names-clause-none
returns-then-not-are_names-clause-none c =
    not_table (texts c.args.others.now) (λ all. false≢true (sym c.if-not-are_names.true ∙ c.are_names.ensures.1 all))

pub returns-clause-some : goal.returns-clause-some
returns-clause-some c =
    let others = c.args.others.now in
    let some : 0 < length others = grind (arith, common_steps) in
    let count : length others ≡ length others - 1 + 1 = omega arith in
    let reads : c.in_ok-reads.reads.items ≡ take (length others - 1) others = grind (arith, c.in_ok-reads.ensures.items) in
    says_table_of others c.in_ok-reads.reads.items (length others - 1) _ _ count reads refl (c.are_names.ensures.0 c.if-not-are_names.false)
