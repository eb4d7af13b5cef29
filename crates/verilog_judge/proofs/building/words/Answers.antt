use Rattle.std.proofs.Common.{refl}
use Rattle.verilog_checks.proofs.Each.{holds_at}
use Rattle.verilog_judge.specs.Meant.{IsMeant}
use Rattle.verilog_tree.specs.declared.item.FirstWord.{FirstWord}
use Rattle.verilog_judge.proofs.building.words.Goals as goal

pub bits-requires : goal.bits-requires
bits-requires c = holds_at (λ (word : FirstWord). IsMeant word.literal) c.args.words.now c.loop-word.word-index _ _ c.loop-word-test.true refl c.requires
