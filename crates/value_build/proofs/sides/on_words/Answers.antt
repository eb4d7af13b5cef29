use Rattle.std.proofs.Common.{◌∙◌, map}
use Rattle.std.specs.List.{slice_index}
use Rattle.std.proofs.lemmas.Result.{on_ok_weaker}
use Rattle.chw_layout.specs.Measured.{closed_value}
use Rattle.chw_terms.specs.TermTree.{prim}
use Rattle.net_built.specs.Bodies.{ValueCells, value_primitive, operand_at}
use Rattle.net_built.specs.Words.{word_cells}
use Rattle.net_built.specs.Wires.{◌▸◌}
use Rattle.value_build.specs.Added.{next}
use Rattle.value_build.specs.Arguments.{terms_in, types_in}
use Rattle.value_build.specs.InScope.{in_scope}
use Rattle.value_build.proofs.Behind.{adds_one}
use Rattle.value_build.proofs.sides.on_words.Goals as goal

pub returns : goal.returns
returns c =
    let s = c.args.into.now in
    let scope = in_scope c.args.scope.now in
    let which = c.args.which in
    let ts = types_in c.args.args.now in
    let es = terms_in c.args.args.now in
    on_ok_weaker c.word_cells.result
    (λ is ground w. adds_one (ValueCells ground scope (next s) w (prim which) ts es) s c.word_cells.new.into
    (word_cells which (slice_index (map closed_value ts) 0) (slice_index (map closed_value ts) 1) (next s) (operand_at scope es 0) (operand_at scope es 1))
    (is ∙ (λ i. s ▸ word_cells which (c.number_at-n.ensures i) (c.number_at-m.ensures i) (next s) (c.operand_at-a.ensures i) (c.operand_at-b.ensures i)))
    (value_primitive c.requires))
    c.word_cells.ensures
