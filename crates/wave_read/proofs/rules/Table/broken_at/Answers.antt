use Rattle.std.proofs.Common.{refl, sym, ◌∙◌}
use Rattle.std.proofs.lemmas.Bool.{false≢true}
use Rattle.wave_read.specs.Rules.{Keeps}
use Rattle.wave_read.proofs.Searching.{first_without}
use Rattle.wave_read.proofs.rules.Table.broken_at.Goals as goal

pub returns-then-not-keeps-clause-some : goal.returns-then-not-keeps-clause-some
returns-then-not-keeps-clause-some c = (
  _,
  first_without (Keeps c.args.rule c.args.self.now) c.args.changes.now c.loop-change.change-index _ _ c.loop-change-test.true refl c.loop-change.invariant
      (λ kept. false≢true (sym c.if-not-keeps.true ∙ c.keeps.ensures.1 kept)),
  c.place_in.ensures,
)
