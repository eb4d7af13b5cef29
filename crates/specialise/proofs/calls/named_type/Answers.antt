use Rattle.std.proofs.Common.{◌∙◌, sym, subst}
use Rattle.std.proofs.lemmas.Option.{same_Some}
use Rattle.rewriting.specs.Named.{IsNamed}
use Rattle.rewriting.specs.Origins.{origins_of}
use Rattle.rewriting.specs.Spots.{spot_of}
use Rattle.specialise.specs.Calls.{HasNamedType}
use Rattle.specialise.proofs.calls.named_type.Goals as goal

pub returns-in_ok-copy : goal.returns-in_ok-copy
returns-in_ok-copy c =
    let o = origins_of c.args.scene.now in
    let at = spot_of c.args.place.now in
    let n = c.args.at.number in
    let t = c.in-Some.ty.now in
    let named : IsNamed o.program.datas at.mode t =
    subst (λ ds. IsNamed ds at.mode t) c.as_slice.ensures
    (c.in_ok-is_named.ensures.0 c.if-branch.true) in
    subst (HasNamedType o at n) (sym c.in_ok-copy.ensures) (c.in-Some.ensures, named)

pub returns-else-branch : goal.returns-else-branch
returns-else-branch c = λ u h.
    let o = origins_of c.args.scene.now in
    let at = spot_of c.args.place.now in
    let same = same_Some u c.in-Some.ty.now (sym h.0 ∙ c.in-Some.ensures) in
    let yes = c.in_ok-is_named.ensures.1
    (subst (λ ds. IsNamed ds at.mode c.in-Some.ty.now) (sym c.as_slice.ensures)
    (subst (IsNamed o.program.datas at.mode) same h.1)) in
    let no = c.if-branch.false in
    absurd cc
