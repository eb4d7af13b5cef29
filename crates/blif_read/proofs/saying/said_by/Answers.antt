use Rattle.std.proofs.Common.{ℕ, List, ◌∷◌, sym, subst}
use Rattle.std.specs.Prelude.{IfNone, IfOk, IfSome, Option}
use Rattle.blif_text.specs.Statements.{Says, Statement}
use Rattle.stimulus.specs.Texts.{texts}
use Rattle.blif_read.specs.Shown.{statement_of}
use Rattle.blif_read.specs.declared.statement.Statement.{Statement as ReadStatement}
use Rattle.blif_read.proofs.saying.said_by.Goals as goal

pub returns-in-Some-clause-some : goal.returns-in-Some-clause-some
returns-in-Some-clause-some c =
    subst (λ (w : List ℕ). IfOk c.behind_keyword.result (λ (r : Option ReadStatement). IfSome r (λ (s : ReadStatement). Says (w ∷ texts c.args.others.now) (statement_of s))))
    (sym c.in-Some.ensures.some) c.behind_keyword.ensures.some

pub returns-in-Some-clause-none : goal.returns-in-Some-clause-none
returns-in-Some-clause-none c =
    subst (λ (w : List ℕ). IfOk c.behind_keyword.result (λ (r : Option ReadStatement). IfNone r ((s : Statement) → Says (w ∷ texts c.args.others.now) s → ⊥)))
    (sym c.in-Some.ensures.some) c.behind_keyword.ensures.none
