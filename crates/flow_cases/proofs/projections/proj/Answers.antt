use Rattle.std.proofs.Common.{refl, subst}
use Rattle.chw_terms.specs.declared.scene.Mode.TheVariants.{C}
use Rattle.chw_terms.specs.declared.term.Pattern.TheVariants.{OfCon}
use Rattle.chw_terms.specs.TermView.{alts_of}
use Rattle.chw_typing.specs.HeadTypes.{PatternOf}
use Rattle.rewriting.specs.Named.{IsNamed}
use Rattle.rewriting.specs.Origins.{origins_of}
use Rattle.rewriting.specs.Spots.{spot_of}
use Rattle.flow_cases.specs.Moves.{fields_put}
use Rattle.flow_cases.proofs.Inversions.{of_port}
use Rattle.flow_cases.proofs.Makings.{port_made}
use Rattle.flow_cases.proofs.projections.proj.Goals as goal

pub returns-in_default : goal.returns-in_default
returns-in_default c e' m =
    let h = of_port m refl c.args.on.now (alts_of c.args.alts.now) refl in
    c.in_default.not-C h.mode

pub returns-in_default-port_case : goal.returns-in_default-port_case
returns-in_default-port_case c e' m =
    let h = of_port m refl c.args.on.now (alts_of c.args.alts.now) refl in
    c.in_default-port_case.ensures h.number h.names h.con h.body h.is

pub returns : goal.returns
returns c =
    let o = origins_of c.args.scene.now in
    let at = spot_of c.args.place.now in
    let it = c.in-Some.it in
    let t = c.in-Some-from_end.ty.now in
    let fields = fields_put c.in-Some-fields_of_pattern.fields.now c.in-Some-fields_of_pattern.args.now in
    port_made o at c.args.on.now (alts_of c.args.alts.now) it.of.number it.con it.names it.body.now t fields c.in_ok-with_projections.field-0
    c.in-Some.ensures c.in-C.is
    c.in-Some-from_end.ensures
    (subst (λ ds. IsNamed ds C t) c.as_slice.ensures (c.in_ok-is_named.ensures.0 c.if-not-branch.false))
    (subst (λ ds. PatternOf ds t (OfCon it.con it.names) fields) c.requires.table.constructors c.in-Some-fields_of_pattern.ensures)
    c.in_ok-with_projections.ensures
