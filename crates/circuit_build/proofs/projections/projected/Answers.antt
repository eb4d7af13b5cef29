use Rattle.std.proofs.Common.{◌∙◌, List, sym, subst}
use Rattle.std.proofs.lemmas.Result.{on_ok_weaker}
use Rattle.chw_types.specs.TypeTree.{TypeTree}
use Rattle.net_built.specs.Circuits.{HaveParts}
use Rattle.net_built.proofs.Parts.{pattern_once}
use Rattle.value_build.specs.InScope.{as_variable}
use Rattle.circuit_build.proofs.FieldWires.{projected_made}
use Rattle.circuit_build.proofs.projections.projected.Goals as goal

pub pattern_fields-requires : goal.pattern_fields-requires
pattern_fields-requires c = (c.requires.fields.0, c.requires.fields.2)

pub field_copied-copied-requires : goal.field_copied-copied-requires
field_copied-copied-requires c =
    let r = c.requires.fields in
    let same = pattern_once r.2 c.in_ok-types.ensures ∙ sym c.deref.ensures.value in
    record { ports = (r.1, subst (λ (ts : List TypeTree). HaveParts c.args.base.now.datas ts r.1) same r.3) }

pub returns-clause-projected : goal.returns-clause-projected
returns-clause-projected c =
    let q = c.fields_bound-count.ensures in
    on_ok_weaker c.field_copied-copied.result
    (λ is. projected_made c.args.base.now.datas (as_variable c.args.it.now) c.args.q.now q.0 c.fields_bound-count.result c.args.z.number
    c.saturating_sub.result c.saturating_sub-number.result c.in_ok-types.types.items c.deref.result.now c.as_slice.result.now c.args.widths.now
    c.args.into.now c.field_copied-copied.new.into q.1 c.in_ok-types.ensures c.deref.ensures.value c.as_slice.ensures
    c.saturating_sub.ensures c.saturating_sub-number.ensures is)
    c.field_copied-copied.ensures.copied
