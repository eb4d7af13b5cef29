use Rattle.std.proofs.Common.{◌≡◌, ◌∙◌, ◌∷◌, [], sym, subst}
use Rattle.std.proofs.lemmas.Result.{on_ok_weaker}
use Rattle.chw_terms.specs.TermTree.{made}
use Rattle.netlist.specs.declared.net.Cell.TheVariants.{Use}
use Rattle.net_built.specs.Bodies.{ValueCells, value_call}
use Rattle.net_built.specs.Circuits.{used, use_cells}
use Rattle.net_built.specs.Terms.{wires_of_all}
use Rattle.net_built.specs.Wires.{◌▸◌, present}
use Rattle.value_build.specs.Added.{Adds, next}
use Rattle.value_build.specs.Arguments.{terms_in, types_in}
use Rattle.value_build.specs.InScope.{in_scope}
use Rattle.value_build.proofs.Behind.{adds_one}
use Rattle.value_build.proofs.Operands.{no_types}
use Rattle.value_build.proofs.sides.call.Goals as goal

pub returns : goal.returns
returns c =
    let s = c.args.into.now in
    let t = c.used.new.into in
    let ground = c.args.base.now in
    let scope = in_scope c.args.scope.now in
    let m = c.args.m.number in
    let w = c.args.w in
    let es = terms_in c.args.args.now in
    let types : types_in c.args.args.now ≡ [] = no_types c.args.args.now c.requires in
    let reads : c.deref.result.now ≡ wires_of_all scope es = c.deref.ensures.value ∙ c.in_ok-reads.ensures in
    on_ok_weaker c.used.result
    (λ is. subst (λ ts. Adds (ValueCells ground scope (next s) w (made m) ts es) s t) (sym types)
    (adds_one (ValueCells ground scope (next s) w (made m) [] es) s t (used ground m (next s) (wires_of_all scope es) (w ∷ []))
    (is ∙ (λ i. s ▸ record { widths = present (w ∷ []); cells = use_cells (next s) (w ∷ []) (λ drives. Use (c.module_of-callee.ensures i) (reads i) drives) }))
    value_call))
    c.used.ensures
