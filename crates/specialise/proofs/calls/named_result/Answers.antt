use Rattle.std.proofs.Common.{sym, subst}
use Rattle.rewriting.specs.Named.{IsNamed}
use Rattle.rewriting.specs.Origins.{origins_of}
use Rattle.rewriting.specs.Spots.{spot_of}
use Rattle.specialise.proofs.Called.{named_call}
use Rattle.specialise.proofs.calls.named_result.Goals as goal

pub returns-then-branch : goal.returns-then-branch
returns-then-branch c =
    let o = origins_of c.args.scene.now in
    let at = spot_of c.args.place.now in
    let t = c.in_ok-gives.gives in
    let named : IsNamed o.program.datas at.mode t =
    subst (λ ds. IsNamed ds at.mode t) c.as_slice.ensures
    (c.in_ok-is_named.ensures.0 c.if-branch.true) in
    (c.in_ok-gives.ensures, named)

pub returns-else-branch : goal.returns-else-branch
returns-else-branch c = λ types gives call.
    let o = origins_of c.args.scene.now in
    let at = spot_of c.args.place.now in
    let t = c.in_ok-gives.gives in
    let yes = c.in_ok-is_named.ensures.1
    (subst (λ ds. IsNamed ds at.mode t) (sym c.as_slice.ensures)
    (named_call t c.one_found.ensures c.in_ok-gives.ensures call)) in
    let no = c.if-branch.false in
    absurd cc
