use Rattle.std.proofs.Common.{◌≡◌, ◌∙◌, Some, slice_get, sym, ap, subst}
use Rattle.type_ports.specs.Representable.{Representable}
use Rattle.chw_terms.specs.declared.term.Arg.TheVariants.{OfType}
use Rattle.chw_terms.specs.TermTree.{prim}
use Rattle.chw_terms.specs.TermView.{tree_of, applied}
use Rattle.blocked_places.proofs.OfPrims.{payload_of, payload_there, payload_is}
use Rattle.blocked_places.proofs.Shapes.{no_prim}
use Rattle.blocked_places.proofs.payloads.payload_at.Goals as goal

pub returns-in_default : goal.returns-in_default
returns-in_default c t h =
    no_prim c.at.inside.head c.at.inside.args.items c.in_default.not-PrimOf h.which h.args (c.at.view_is ∙ h.is)

pub returns-in_default-payload_number : goal.returns-in_default-payload_number
returns-in_default-payload_number c t h =
    let args = c.at.inside.args.items in
    let p = c.in-PrimOf.which in
    let is : c.args.at.now ≡ applied (prim p) args = sym c.at.view_is ∙ ap (λ k. applied (tree_of k) args) c.in-PrimOf.is in
    let it = payload_of c.args.datas.now p args c.args.at.now t is h in
    c.in_default-payload_number.ensures it.number it.has

pub returns-in_default-type_at : goal.returns-in_default-type_at
returns-in_default-type_at c t h =
    let args = c.at.inside.args.items in
    let p = c.in-PrimOf.which in
    let is : c.args.at.now ≡ applied (prim p) args = sym c.at.view_is ∙ ap (λ k. applied (tree_of k) args) c.in-PrimOf.is in
    let it = payload_of c.args.datas.now p args c.args.at.now t is h in
    let there = payload_there c.args.datas.now p args t c.in-Some.number it (c.in-Some.ensures.1 it.number it.has) in
    c.in_default-type_at.ensures t (subst (λ xs. slice_get xs c.in-Some.number ≡ Some (OfType t)) (sym c.deref.ensures.value) there)

pub returns-then-branch : goal.returns-then-branch
returns-then-branch c t h =
    let datas = c.args.datas.now in
    let args = c.at.inside.args.items in
    let p = c.in-PrimOf.which in
    let is : c.args.at.now ≡ applied (prim p) args = sym c.at.view_is ∙ ap (λ k. applied (tree_of k) args) c.in-PrimOf.is in
    let it = payload_of datas p args c.args.at.now t is h in
    let there = payload_there datas p args t c.in-Some.number it (c.in-Some.ensures.1 it.number it.has) in
    let read = subst (λ xs. slice_get xs c.in-Some.number ≡ Some (OfType c.in-Some-type_at.ty.now)) c.deref.ensures.value c.in-Some-type_at.ensures in
    let same : c.in-Some-type_at.ty.now ≡ t = payload_is args c.in-Some.number c.in-Some-type_at.ty.now t read there in
    it.refused (subst (Representable datas) same (c.in_ok-representable.ensures.0 c.if-branch.true))
