use Rattle.std.proofs.Common.{List, sym, ap, ◌∙◌, subst}
use Rattle.std.specs.List.{AllByRecursion}
use Rattle.std.specs.Prelude.{IfNone, IfSome}
use Rattle.wave_text.specs.VcdText.{Changed, all_changes}
use Rattle.wave_read.specs.Rules.{BreaksAt, Keeps}
use Rattle.wave_read.proofs.Timing.{changes_of_times}
use Rattle.wave_read.proofs.rules.Table.break_of.Goals as goal

pub returns-clause-some : goal.returns-clause-some
returns-clause-some c =
    let parts = c.parts.ensures in
    let all = sym (changes_of_times c.parts.result.0.now c.parts.result.1.now parts.count) ∙ ap all_changes parts.times in
    subst (λ (cs : List Changed). IfSome c.broken_at.result (BreaksAt c.args.rule c.args.self.now cs)) all c.broken_at.ensures.some

pub returns-clause-none : goal.returns-clause-none
returns-clause-none c =
    let parts = c.parts.ensures in
    let all = sym (changes_of_times c.parts.result.0.now c.parts.result.1.now parts.count) ∙ ap all_changes parts.times in
    subst (λ (cs : List Changed). IfNone c.broken_at.result (AllByRecursion (Keeps c.args.rule c.args.self.now) cs)) all c.broken_at.ensures.none
