use Rattle.std.proofs.Common.{subst, arith}
use Rattle.netlist.specs.NetValue.{HasCell}
use Rattle.wire_classes.proofs.Copying.{condition_narrow, condition_within}
use Rattle.wire_classes.proofs.copies.copied_by.Goals as goal

pub choice_of-requires : goal.choice_of-requires
choice_of-requires c =
    let has = subst (λ x. HasCell c.args.flat.now x) c.in-Mux.is c.requires.has in
    let one = condition_narrow c.args.flat.now c.args.of.now c.args.known.now c.args.values.now c.requires.found _ c.in-Mux.c c.in-Mux.a c.in-Mux.b has in
    record {
      within = condition_within c.args.flat.now c.args.of.now c.args.known.now c.args.values.now c.requires.found _ c.in-Mux.c c.in-Mux.a c.in-Mux.b has;
      narrow = omega (arith, one);
    }
