use Rattle.std.proofs.Common.{◌≡◌, ℕ, List, length, refl, sym, ap, subst, ◌∙◌, arith}
use Rattle.std.specs.List.{AllByRecursion}
use Rattle.chw_base.specs.declared.index.WireId.{WireId}
use Rattle.net_share.specs.Renaming.{IsNamed, new_wires}
use Rattle.net_share.proofs.Looking.{listed, outputs_exist}
use Rattle.net_share.proofs.Whole.{kept_after, kept_fits, kept_wires_exist, made_by, widths_by}
use Rattle.net_share.proofs.sharing.module_by.Goals as goal

pub widths_after-requires-clause-inputs : goal.widths_after-requires-clause-inputs
widths_after-requires-clause-inputs c =
    let sound = c.requires.sound in omega (arith, sound.all, c.len-inputs.ensures, ap length c.as_slice.ensures)

pub widths_after-requires-clause-kept : goal.widths_after-requires-clause-kept
widths_after-requires-clause-kept c =
    kept_wires_exist c.args.flat.now c.args.plan.now.kept.items c.args.plan.now.names.items c.deref.result.now c.as_slice.result.now c.requires.sound
    c.requires.plan c.deref.ensures.value c.as_slice.ensures

pub wires_after-requires : goal.wires_after-requires
wires_after-requires c =
    let flat = c.args.flat.now in
    let plan = c.args.plan.now in
    let names : length c.deref-2.result.now ≡ length flat.widths = ap length c.deref-2.ensures.value ∙ c.requires.plan.count in
    subst (λ (ws : List WireId). AllByRecursion (IsNamed c.deref-2.result.now) ws) (sym c.as_slice-2.ensures)
    (listed c.deref-2.result.now flat.widths flat.outputs names (outputs_exist flat c.requires.sound))

pub overflow_cast-first : goal.overflow_cast-first
overflow_cast-first c = let sound = c.requires.sound in omega (arith, sound.few, sound.all, c.len-inputs.ensures)

pub made_cells-requires-clause-names : goal.made_cells-requires-clause-names
made_cells-requires-clause-names c = ap length c.deref-3.ensures.value ∙ c.requires.plan.count

pub made_cells-requires-clause-wires : goal.made_cells-requires-clause-wires
made_cells-requires-clause-wires c =
    let flat = c.args.flat.now in
    kept_wires_exist flat c.args.plan.now.kept.items c.args.plan.now.names.items c.deref-4.result.now flat.widths c.requires.sound
    c.requires.plan c.deref-4.ensures.value refl

pub made_cells-requires-clause-after : goal.made_cells-requires-clause-after
made_cells-requires-clause-after c =
    kept_after c.args.flat.now c.args.plan.now.kept.items c.args.plan.now.names.items c.deref-4.result.now c.requires.plan c.deref-4.ensures.value

pub made_cells-requires-clause-numbers : goal.made_cells-requires-clause-numbers
made_cells-requires-clause-numbers c =
    let fits = kept_fits c.args.flat.now c.args.plan.now.kept.items c.args.plan.now.names.items c.deref-4.result.now c.requires.sound c.requires.plan
    c.deref-4.ensures.value in
    let sound = c.requires.sound in
    omega (arith, fits, sound.few, c.len-inputs.ensures)

pub returns : goal.returns
returns c =
    let flat = c.args.flat.now in
    let plan = c.args.plan.now in
    record {
      inputs = c.len-inputs.ensures;
      widths = c.from.ensures
          ∙ widths_by flat plan.kept.items c.len-inputs.result c.as_slice.result.now c.deref.result.now c.in_ok-widths.widths.items c.len-inputs.ensures
          c.as_slice.ensures c.deref.ensures.value c.in_ok-widths.ensures;
      outputs = c.in_ok-outputs.ensures ∙ ap (λ (ns : List ℕ). new_wires ns c.as_slice-2.result.now) c.deref-2.ensures.value
          ∙ ap (λ (ws : List WireId). new_wires plan.names.items ws) c.as_slice-2.ensures;
      cells = made_by flat c.args.classes.now plan.kept.items plan.names.items c.deref-4.result.now c.deref-3.result.now c.len-inputs.result
          c.in_ok-cells.cells.items c.from-2.result c.deref-4.ensures.value c.deref-3.ensures.value c.len-inputs.ensures c.from-2.ensures c.in_ok-cells.ensures;
    }
