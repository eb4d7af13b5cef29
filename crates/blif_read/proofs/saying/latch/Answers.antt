use Rattle.std.proofs.Common.{◌≡◌, ℕ, List, ◌∷◌, codes, length, sym, ◌∙◌, subst, arith}
use Rattle.std.specs.Prelude.{IfNone, IfSome}
use Rattle.blif_text.specs.Statements.{Says, Statement}
use Rattle.stimulus.specs.Texts.{texts}
use Rattle.blif_read.specs.Shown.{statement_of}
use Rattle.blif_read.specs.declared.statement.Statement.{Statement as ReadStatement}
use Rattle.blif_read.proofs.Lists.{length-texts}
use Rattle.blif_read.proofs.Sayings.{five, not_latch}
use Rattle.blif_read.proofs.saying.latch.Goals as goal

pub returns-then-others-ne5-clause-none : goal.returns-then-others-ne5-clause-none
returns-then-others-ne5-clause-none c =
    not_latch (texts c.args.others.now) (λ is. c.if-others-ne5.true (sym (length-texts c.args.others.now) ∙ is))

pub returns-clause-some : goal.returns-clause-some
returns-clause-some c =
    let count : length c.args.others.now ≡ 5 = omega arith in
    subst (λ (ws : List (List ℕ)). IfSome c.latch_of.result (λ (s : ReadStatement). Says (codes ".latch" ∷ ws) (statement_of s))) (sym (five c.args.others.now _ count))
    c.latch_of.ensures.some

pub returns-clause-none : goal.returns-clause-none
returns-clause-none c =
    let count : length c.args.others.now ≡ 5 = omega arith in
    subst (λ (ws : List (List ℕ)). IfNone c.latch_of.result ((s : Statement) → Says (codes ".latch" ∷ ws) s → ⊥)) (sym (five c.args.others.now _ count))
    c.latch_of.ensures.none
