use Rattle.std.proofs.Common.{◌≡◌, ◌<◌, ℕ, List, [], ◌∷◌, length, sym, ap, ◌∙◌, subst, arith}
use Rattle.std.specs.Prelude.{IfNone, IfSome}
use Rattle.std.proofs.lemmas.List.{nil_from_length}
use Rattle.std.proofs.lemmas.Grind.{common_steps}
use Rattle.stimulus.specs.Texts.{texts}
use Rattle.blif_text.specs.Statements.{Says, Statement}
use Rattle.blif_read.specs.Shown.{statement_of}
use Rattle.blif_read.specs.declared.statement.Statement.{Statement as ReadStatement}
use Rattle.blif_read.proofs.Lists.{length-texts}
use Rattle.blif_read.proofs.saying.row.Goals as goal

pub returns-then-is_empty-clause-some : goal.returns-then-is_empty-clause-some
returns-then-is_empty-clause-some c =
    let count : length c.args.others.now ≡ 0 = grind (arith, common_steps) in
    let none : texts c.args.others.now ≡ [] = ap texts (nil_from_length c.args.others.now count) in
    subst (λ (ws : List (List ℕ)). IfSome c.empty_row.result (λ (s : ReadStatement). Says (c.args.first.now ∷ ws) (statement_of s))) (sym none) c.empty_row.ensures.some

pub returns-then-is_empty-clause-none : goal.returns-then-is_empty-clause-none
returns-then-is_empty-clause-none c =
    let count : length c.args.others.now ≡ 0 = grind (arith, common_steps) in
    let none : texts c.args.others.now ≡ [] = ap texts (nil_from_length c.args.others.now count) in
    subst (λ (ws : List (List ℕ)). IfNone c.empty_row.result ((s : Statement) → Says (c.args.first.now ∷ ws) s → ⊥)) (sym none) c.empty_row.ensures.none

pub marked_row-requires-clause-some : goal.marked_row-requires-clause-some
marked_row-requires-clause-some c = λ none.
    let some : 0 < length c.args.others.now = grind (arith, common_steps) in
    absurd (omega (arith, length-texts c.args.others.now, ap length none))
