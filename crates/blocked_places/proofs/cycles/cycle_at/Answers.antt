use Rattle.std.proofs.Common.{◌≡◌, ◌∙◌, [], length, sym, ap, arith}
use Rattle.std.proofs.lemmas.Bool.{eqb-true, eqb-false}
use Rattle.std.proofs.lemmas.List.{nil_from_length}
use Rattle.chw_terms.specs.TermTree.{letrec}
use Rattle.chw_terms.specs.TermView.{tree_of, applied, group_of}
use Rattle.blocked_places.proofs.Results.{ok_more}
use Rattle.blocked_places.proofs.Shapes.{letrec_alone, no_letrec}
use Rattle.blocked_places.proofs.Turning.{cycle_of_letrec}
use Rattle.blocked_places.proofs.cycles.cycle_at.Goals as goal

pub returns-then-not-is_empty : goal.returns-then-not-is_empty
returns-then-not-is_empty c cycle h =
    let args = c.at.inside.args.items in
    let none = ap length (letrec_alone c.at.inside.head args h.group h.body (c.at.view_is ∙ h.is)) in
    eqb-false _ _ (sym c.is_empty.ensures ∙ c.if-not-is_empty.true) (omega (arith, none, c.at.inside.args.ok.0))

pub returns-in_default : goal.returns-in_default
returns-in_default c cycle h =
    no_letrec c.at.inside.head c.at.inside.args.items c.in_default.not-LetRec h.group h.body (c.at.view_is ∙ h.is)

pub returns : goal.returns
returns c =
    let args = c.at.inside.args.items in
    let bs = c.in-LetRec.bindings.items in
    let body = c.in-LetRec.field-1.value in
    let none = eqb-true _ _ (sym c.is_empty.ensures ∙ c.if-not-is_empty.false) in
    let alone : args ≡ [] = nil_from_length _ (omega (arith, none, c.at.inside.args.ok.0)) in
    let is : c.args.at.now ≡ letrec (group_of bs) body =
    sym c.at.view_is ∙ ap (λ h. applied (tree_of h) args) c.in-LetRec.is ∙ ap (applied (letrec (group_of bs) body)) alone in
    ok_more c.round_of.result _ _
    (λ answer h. cycle_of_letrec c.args.datas.now c.args.mode c.args.at.now bs c.deref.result.now body answer is c.deref.ensures.value h)
    c.round_of.ensures
