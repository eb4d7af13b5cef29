use Rattle.std.proofs.Common.{◌≡◌, ◌∙◌, ◌<◌, length, sym, subst, arith, false, true, refl, vec_len}
use Rattle.std.proofs.lemmas.Bool.{eqb-true}
use Rattle.chw_terms.specs.declared.term.Head.{Head}
use Rattle.chw_terms.specs.TermView.{tree_of, applied}
use Rattle.chw_terms.proofs.Deep.{some_there}
use Rattle.rewriting.specs.Shapes.{IsLet}
use Rattle.moved_in_place.proofs.FirstLet.{not_applied, not_let, let_bare}
use Rattle.letrec_runs.proofs.lets.is_let.Goals as goal

pub returns-then-not-is_empty : goal.returns-then-not-is_empty
returns-then-not-is_empty c =
    let args = c.term.inside.args.items in
    let counted : vec_len c.term.inside.args ≡ length args = omega (arith, c.term.inside.args.ok.0) in
    let some = some_there (vec_len c.term.inside.args) (sym c.is_empty.ensures ∙ c.if-not-is_empty.true) in
    (λ (t : false ≡ true). absurd cc, λ l. absurd (not_applied c.term.inside.head args (subst (λ n. 0 < n) counted some) (subst IsLet (sym c.term.view_is) l)))

pub returns-in-LetRec : goal.returns-in-LetRec
returns-in-LetRec c =
    let args = c.term.inside.args.items in
    let counted : vec_len c.term.inside.args ≡ length args = omega (arith, c.term.inside.args.ok.0) in
    let none : length args ≡ 0 = sym counted ∙ eqb-true (vec_len c.term.inside.args) 0 (sym c.is_empty.ensures ∙ c.if-not-is_empty.false) in
    (λ t. subst IsLet c.term.view_is (subst (λ (h : Head). IsLet (applied (tree_of h) args)) (sym c.in-LetRec.is) (let_bare _ _ args none)), λ l. refl)

pub returns-in_default : goal.returns-in_default
returns-in_default c =
    (λ (t : false ≡ true). absurd cc, λ l. absurd (not_let c.term.inside.head c.term.inside.args.items c.in_default.not-LetRec (subst IsLet (sym c.term.view_is) l)))
