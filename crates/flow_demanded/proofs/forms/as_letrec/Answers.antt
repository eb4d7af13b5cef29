use Rattle.std.proofs.Common.{◌≡◌, ◌∙◌, ◌<◌, length, sym, subst, arith, vec_len}
use Rattle.chw_terms.proofs.Deep.{some_there}
use Rattle.rewriting.specs.Shapes.{IsLet}
use Rattle.flow_demanded.proofs.Parts.{no_let_applied}
use Rattle.flow_demanded.proofs.forms.as_letrec.Goals as goal

pub returns-then-not-is_empty-clause-none : goal.returns-then-not-is_empty-clause-none
returns-then-not-is_empty-clause-none c = λ l.
    let counted : vec_len c.term.inside.args ≡ length c.term.inside.args.items = omega (arith, c.term.inside.args.ok.0) in
    let some = some_there (vec_len c.term.inside.args) (sym c.is_empty.ensures ∙ c.if-not-is_empty.true) in
    no_let_applied c.term.inside.head c.term.inside.args.items (subst (λ n. 0 < n) counted some) (subst IsLet (sym c.term.view_is) l)
