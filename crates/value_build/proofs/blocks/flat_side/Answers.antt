use Rattle.std.proofs.Common.{◌≡◌, ◌-◌, ◌∷◌, [], ℕ}
use Rattle.std.proofs.lemmas.Result.{IfOk-weaker}
use Rattle.chw_types.specs.TypeTree.{TypeTree}
use Rattle.chw_layout.specs.Measured.{HasWidth}
use Rattle.net_built.specs.Wires.{wire_count, wires_from}
use Rattle.net_ready.specs.Drafts.{Known, SideDrafted}
use Rattle.value_build.specs.Added.{Adds, next}
use Rattle.value_build.specs.InScope.{in_scope}
use Rattle.value_build.proofs.DraftParts.{flat_drafted}
use Rattle.value_build.proofs.blocks.flat_side.Goals as goal

pub returns-clause-drafted : goal.returns-clause-drafted
returns-clause-drafted c =
    let ground = c.args.base.now in
    let scope = in_scope c.args.scope.now in
    let s = c.args.into.now in
    let u = c.value_cells.new.into in
    let w = c.args.w in
    IfOk-weaker c.last_wires.result (λ ws. ws ≡ wires_from (next u - wire_count (w ∷ [])) (wire_count (w ∷ [])))
    (λ ws. (known : Known) (at : ℕ) (t : TypeTree) → HasWidth ground.datas t w → Adds (λ p. SideDrafted ground known at scope (next s) t c.args.e.now p ws []) s u)
    (λ ws is known at t measured. flat_drafted ground known at scope t c.args.e.now w ws s u measured is c.in_ok-value_cells.ensures.cells)
    c.last_wires.ensures
