use Rattle.std.proofs.Common.{◌≡◌, ◌∙◌, None, Some, length, sym, ap, subst, false}
use Rattle.chw_terms.specs.declared.scene.Mode.TheVariants.{K}
use Rattle.chw_terms.specs.Constructors.{Constructor, con_at}
use Rattle.chw_terms.specs.TermTree.{con}
use Rattle.chw_terms.specs.TermView.{applied}
use Rattle.chw_typing.specs.HeadTypes.{con_type}
use Rattle.chw_typing.specs.Scopes.{with_more}
use Rattle.con_places.specs.Constructing.{constructor_of}
use Rattle.chw_typing.specs.Paths.{argument_path}
use Rattle.rewriting.specs.Origins.{origins_of}
use Rattle.rewriting.specs.Active.{Below, of_constructor}
use Rattle.rewriting.specs.Spots.{spot, spot_of, asked_for}
use Rattle.active_parts.proofs.Fields.{same_constructor}
use Rattle.active_parts.proofs.Spines.{no_constants}
use Rattle.active_parts.proofs.Truths.{not_true}
use Rattle.active_parts.proofs.arguments.constant_argument.Goals as goal

pub returns-then-not-is_constant : goal.returns-then-not-is_constant
returns-then-not-is_constant c at' x b =
    let args = c.args.args.now in
    no_constants (origins_of c.args.ground.now.scene.now) (spot_of c.args.place.now) c.args.of.number args (argument_path c.args.number (length args))
    (λ k it is l. not_true c.is_constant.result c.if-not-is_constant.true (c.is_constant.ensures.1 k)) at' x b

pub returns-in_default : goal.returns-in_default
returns-in_default c at' x b =
    let args = c.args.args.now in
    let n = c.args.of.number in
    let none = subst (λ ds. con_at ds n ≡ None) c.requires.ground.table.constructors c.in_default.ensures in
    no_constants (origins_of c.args.ground.now.scene.now) (spot_of c.args.place.now) n args (argument_path c.args.number (length args))
    (λ k it is l. absurd cc) at' x b

pub returns-then-not-is_saturated : goal.returns-then-not-is_saturated
returns-then-not-is_saturated c at' x b =
    let args = c.args.args.now in
    let n = c.args.of.number in
    let datas = c.args.ground.now.scene.now.program.now.datas in
    let here = constructor_of c.in-Some.it in
    let at = subst (λ ds. con_at ds n ≡ Some here) c.requires.ground.table.constructors c.in-Some.ensures.is in
    no_constants (origins_of c.args.ground.now.scene.now) (spot_of c.args.place.now) n args (argument_path c.args.number (length args))
    (λ k it is l.
    let same : it ≡ here = same_constructor datas n it here is at in
    not_true c.is_saturated.result c.if-not-is_saturated.true
    (c.is_saturated.ensures.1 (l ∙ ap (λ (z : Constructor). asked_for (con_type z)) same))) at' x b

pub returns : goal.returns
returns c =
    let o = origins_of c.args.ground.now.scene.now in
    let at = spot_of c.args.place.now in
    let args = c.args.args.now in
    let i = c.args.number in
    let n = c.args.of.number in
    let a = c.args.at.now in
    let here = constructor_of c.in-Some.it in
    let con_here = subst (λ ds. con_at ds n ≡ Some here) c.requires.ground.table.constructors c.in-Some.ensures.is in
    let constant = c.is_constant.ensures.0 c.if-not-is_constant.false in
    let saturated = c.is_saturated.ensures.0 c.if-not-is_saturated.false in
    subst (λ ts. Below o at (applied (con n) args) (argument_path i (length args)) (spot K false (with_more ts at.vars)) a)
    (sym c.new-more.ensures.items)
    (of_constructor n i args constant con_here saturated c.requires.is)
