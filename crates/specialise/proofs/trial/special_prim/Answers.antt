use Rattle.std.proofs.Common.{◌≡◌, ◌∙◌, ◌++◌, sym, subst, IfOk}
use Rattle.std.proofs.lemmas.List.{take-append-drop}
use Rattle.chw_terms.specs.TermTree.{prim}
use Rattle.chw_terms.specs.TermView.{applied}
use Rattle.chw_prims.specs.declared.prim.Primitive.TheVariants.{Fmap}
use Rattle.rewriting.specs.Origins.{origins_of}
use Rattle.rewriting.specs.Spots.{spot_of}
use Rattle.rule_parts.specs.Cores.{HasTypeAt}
use Rattle.specialise.specs.Special.{AnswersSpecial}
use Rattle.specialise.proofs.Numbering.{none_special, no_instance_of, no_instance_on_few}
use Rattle.specialise.proofs.trial.special_prim.Goals as goal

pub returns-in_default : goal.returns-in_default
returns-in_default c =
    none_special c.args.scene.now.program.now c.args.scene.now.made.now c.args.table.now
    (spot_of c.args.place.now) _ c.requires.same
    (λ e' i. no_instance_of c.args.which c.args.args.now c.in_default.not-Fmap i)

pub returns-then-args-lt-FMAP_ARGS : goal.returns-then-args-lt-FMAP_ARGS
returns-then-args-lt-FMAP_ARGS c =
    none_special c.args.scene.now.program.now c.args.scene.now.made.now c.args.table.now
    (spot_of c.args.place.now) _ c.requires.same
    (λ e' i. no_instance_on_few c.args.which c.args.args.now c.if-args-lt-FMAP_ARGS.true i)

pub special_lifted-requires-clause-typed : goal.special_lifted-requires-clause-typed
special_lifted-requires-clause-typed c =
    let o = origins_of c.args.scene.now in
    let at = spot_of c.args.place.now in
    let args = c.args.args.now in
    let parts : args ≡ c.split_at.result.0.now ++ c.split_at.result.1.now =
    sym (take-append-drop 5 args)
    ∙ (λ i. sym c.split_at.ensures.front i ++ sym c.split_at.ensures.back i) in
    subst (λ xs. HasTypeAt o at (applied (prim Fmap) xs)) parts
    (subst (λ p. HasTypeAt o at (applied (prim p) args)) c.in-Fmap.is c.requires.typed)

pub returns : goal.returns
returns c =
    let p = c.args.scene.now.program.now in
    let at = spot_of c.args.place.now in
    let args = c.args.args.now in
    let parts : args ≡ c.split_at.result.0.now ++ c.split_at.result.1.now =
    sym (take-append-drop 5 args)
    ∙ (λ i. sym c.split_at.ensures.front i ++ sym c.split_at.ensures.back i) in
    subst (λ q. IfOk c.special_lifted.result
    (AnswersSpecial p c.args.table.now at (applied (prim q) args))) (sym c.in-Fmap.is)
    (subst (λ xs. IfOk c.special_lifted.result
    (AnswersSpecial p c.args.table.now at (applied (prim Fmap) xs))) (sym parts)
    c.special_lifted.ensures)
