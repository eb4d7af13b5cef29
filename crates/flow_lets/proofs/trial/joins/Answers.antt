use Rattle.std.proofs.Common.{◌≡◌, ◌∙◌, ap, sym, refl, subst, IsTrue, true, false}
use Rattle.std.specs.Prelude.{◌↔◌}
use Rattle.chw_terms.specs.TermTree.{letrec}
use Rattle.chw_terms.specs.TermView.{tree_of, applied, group_of}
use Rattle.rewriting.specs.Spots.{spot_of}
use Rattle.rewriting.specs.Shapes.{IsOfHead}
use Rattle.flow_lets.specs.Flat.{JoinsAt, JoinsCore}
use Rattle.flow_lets.proofs.FirstLet.{other_head}
use Rattle.flow_lets.proofs.Flat.{at_head, of_other}
use Rattle.flow_lets.proofs.WhereJoined.{joins_nothing, with_arguments}
use Rattle.flow_lets.proofs.trial.joins.Goals as goal

pub returns-then-is_of_head : goal.returns-then-is_of_head
returns-then-is_of_head c o =
    let at = spot_of c.args.place.now in
    joins_nothing o at c.args.at.now
    (at_head at c.args.at.now (c.if-is_of_head.ensures.0 refl) o)

pub returns-in_default : goal.returns-in_default
returns-in_default c o =
    let at = spot_of c.args.place.now in
    let args = c.at.inside.args.items in
    subst (λ e. IsTrue false ↔ JoinsAt o at e) c.at.view_is
    (joins_nothing o at (applied (tree_of c.at.inside.head) args)
    (of_other at c.at.inside.head args (other_head c.at.inside.head c.in_default.not-LetRec) o))

pub returns : goal.returns
returns c o =
    let at = spot_of c.args.place.now in
    let args = c.at.inside.args.items in
    let g = group_of c.in-LetRec.group.items in
    let e = c.in-LetRec.body.value in
    let b = c.joins_letrec.result in
    let whole : applied (letrec g e) args ≡ c.args.at.now = ap (λ h. applied (tree_of h) args) (sym c.in-LetRec.is) ∙ c.at.view_is in
    let parts : letrec (group_of c.deref.result.now) c.deref-2.result.now ≡ letrec g e = λ i. letrec (group_of (c.deref.ensures.value i)) (c.deref-2.ensures i) in
    let no_head : IsOfHead c.args.place.now.mode → ⊥ = λ h. let f : false ≡ true = c.if-is_of_head.ensures.1 h in absurd cc in
    let core : IsTrue b ↔ JoinsCore o at (letrec g e) =
    subst (λ x. IsTrue b ↔ JoinsCore o at x) parts (c.joins_letrec.ensures o at no_head) in
    subst (λ x. IsTrue b ↔ JoinsAt o at x) whole (with_arguments o at g e args b core)
