use Rattle.std.proofs.Common.{ℕ, List, sym, ◌∙◌}
use Rattle.std.specs.Prelude.{IsTrue}
use Rattle.std.proofs.lemmas.Bool.{false≢true}
use Rattle.name_tables.specs.Names.{is_among}
use Rattle.stimulus.proofs.Lists.{all_text_at}
use Rattle.blif_read.proofs.names.are_known.Goals as goal

pub returns-then-not-is_known : goal.returns-then-not-is_known
returns-then-not-is_known c = (
  λ e. absurd (false≢true e),
  λ all. sym c.if-not-is_known.true
      ∙ c.is_known.ensures.1 (all_text_at (λ (n : List ℕ). IsTrue (is_among c.args.table.now n)) c.args.names.now c.loop-name.name-index _ c.loop-name-test.true all),
)
