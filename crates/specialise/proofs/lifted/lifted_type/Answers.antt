use Rattle.std.proofs.Common.{IfSome, [], subst}
use Rattle.chw_typing.specs.Finding.{Finds}
use Rattle.rewriting.specs.Origins.{origins_of, setting_at}
use Rattle.rewriting.specs.Spots.{spot_of}
use Rattle.specialise.proofs.Lifting.{no_answer, none_typed, no_lambdas, has_each}
use Rattle.specialise.proofs.lifted.lifted_type.Goals as goal

pub returns-then-is_made : goal.returns-then-is_made
returns-then-is_made c = λ t l. l.lifted.not_made (c.is_made.ensures.0 c.if-is_made.true)

pub returns-then-not-branch : goal.returns-then-not-branch
returns-then-not-branch c = λ t l.
    let yes = c.in_ok-is_closed.ensures.1 l.lifted.closed in
    let no = c.if-not-branch.true in
    absurd cc

pub returns-in_default : goal.returns-in_default
returns-in_default c =
    let o = origins_of c.args.scene.now in
    let at = spot_of c.args.place.now in
    none_typed o at c.args.function.now c.found_is_type.ensures
    (no_answer c.in_ok-ty.field-0 c.in_default.not-Some c.in_ok-ty.ensures.none)

pub returns-then-branch : goal.returns-then-branch
returns-then-branch c =
    let o = origins_of c.args.scene.now in
    let at = spot_of c.args.place.now in
    let g = c.args.function.now in
    let t = c.in-Some.ty in
    let found : Finds (setting_at o) [] at.vars g t =
    subst (λ r. IfSome r (λ t. Finds (setting_at o) [] at.vars g t)) c.in-Some.is
    c.in_ok-ty.ensures.some in
    has_each o at g t c.as_slice.result.now c.as_slice.ensures
    (c.in_ok-is_closed.ensures.0 c.if-not-branch.false)
    (λ m. let yes = c.is_made.ensures.1 m in let no = c.if-is_made.false in absurd cc) found
    (c.in_ok-has_lambda_each.ensures.0 c.if-branch.true)

pub returns-else-branch : goal.returns-else-branch
returns-else-branch c =
    let o = origins_of c.args.scene.now in
    let at = spot_of c.args.place.now in
    let g = c.args.function.now in
    let t = c.in-Some.ty in
    let found : Finds (setting_at o) [] at.vars g t =
    subst (λ r. IfSome r (λ t. Finds (setting_at o) [] at.vars g t)) c.in-Some.is
    c.in_ok-ty.ensures.some in
    no_lambdas o at g t c.as_slice.result.now c.as_slice.ensures c.one_found.ensures found
    (λ l. let yes = c.in_ok-has_lambda_each.ensures.1 l in let no = c.if-branch.false in absurd cc)
