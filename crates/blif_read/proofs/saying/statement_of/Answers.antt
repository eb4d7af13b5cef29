use Rattle.std.proofs.Common.{◌≡◌, ◌<◌, ℕ, List, length, ap, sym, subst, arith}
use Rattle.std.specs.Prelude.{IfNone, IfOk, IfSome, Option}
use Rattle.std.proofs.lemmas.List.{nil_from_length, take_rest}
use Rattle.std.proofs.lemmas.Grind.{common_steps}
use Rattle.stimulus.specs.Texts.{texts}
use Rattle.blif_text.specs.Statements.{Says, Statement}
use Rattle.blif_read.specs.Shown.{statement_of}
use Rattle.blif_read.specs.declared.statement.Statement.{Statement as ReadStatement}
use Rattle.blif_read.proofs.Lists.{first_apart}
use Rattle.blif_read.proofs.Rows.{no_words_say}
use Rattle.blif_read.proofs.saying.statement_of.Goals as goal

pub returns-then-is_empty-clause-none : goal.returns-then-is_empty-clause-none
returns-then-is_empty-clause-none c =
    let none : length c.args.words.now ≡ 0 = grind (arith, common_steps) in
    no_words_say (texts c.args.words.now) (ap texts (nil_from_length c.args.words.now none))

pub returns-clause-some : goal.returns-clause-some
returns-clause-some c =
    let some : 0 < length c.args.words.now = grind (arith, common_steps) in
    subst (λ (ws : List (List ℕ)). IfOk c.said_by.result (λ (r : Option ReadStatement). IfSome r (λ (s : ReadStatement). Says ws (statement_of s))))
    (sym (first_apart c.args.words.now _ _ some (take_rest c.args.words.now 1))) c.said_by.ensures.some

pub returns-clause-none : goal.returns-clause-none
returns-clause-none c =
    let some : 0 < length c.args.words.now = grind (arith, common_steps) in
    subst (λ (ws : List (List ℕ)). IfOk c.said_by.result (λ (r : Option ReadStatement). IfNone r ((s : Statement) → Says ws s → ⊥)))
    (sym (first_apart c.args.words.now _ _ some (take_rest c.args.words.now 1))) c.said_by.ensures.none
