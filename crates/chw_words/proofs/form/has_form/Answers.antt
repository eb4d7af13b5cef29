use Rattle.std.proofs.Common.{arith}
use Rattle.chw_words.proofs.Forms.{few_options}
use Rattle.chw_words.proofs.form.has_form.Goals as goal

pub returns-then-option_count-le1 : goal.returns-then-option_count-le1
returns-then-option_count-le1 c =
    few_options (λ s. s.now) c.args.words.now c.are_budget_options.result (omega (arith, c.option_count.ensures, c.if-option_count-le1.true)) c.are_budget_options.ensures
