use Rattle.std.proofs.Common.{refl}
use Rattle.verilog_checks.proofs.Each.{holds_at}
use Rattle.verilog_checks.specs.Formed.{IsFormed}
use Rattle.verilog_tree.specs.declared.item.FirstWord.{FirstWord}
use Rattle.verilog_judge.proofs.registers.check_words.Goals as goal

pub check_first-requires : goal.check_first-requires
check_first-requires c = holds_at (λ (word : FirstWord). IsFormed word.literal) c.args.words.now c.loop-place.place _ _ c.loop-place-test.true refl c.requires
