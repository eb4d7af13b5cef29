use Rattle.std.proofs.Common.{◌∙◌, ap, sym, length}
use Rattle.std.proofs.lemmas.List.{length-map}
use Rattle.chw_base.specs.declared.index.VarIx.{VarIx}
use Rattle.specialise.proofs.Lifting.{closed_tells}
use Rattle.specialise.proofs.lifted.is_closed.Goals as goal

pub returns : goal.returns
returns c =
    let vs = c.in_ok-free_in.field-0 in
    closed_tells c.args.term.now vs.len c.is_empty.result (vs.ok.0 ∙ sym (length-map vs.items (λ (v : VarIx). v.number)) ∙ ap length c.in_ok-free_in.ensures) c.is_empty.ensures
