use Rattle.std.proofs.Common.{◌≡◌, ◌++◌, ◌∙◌, ap, map, length, take, drop, arith}
use Rattle.std.proofs.lemmas.Result.{on_ok_weaker}
use Rattle.chw_types.specs.TypeMoves.{raised}
use Rattle.chw_typing.proofs.Puts.{written_back}
use Rattle.moved_in_place.specs.Moves.{renamed_binding}
use Rattle.moved_in_place.proofs.Renamed.{lifted_raise}
use Rattle.moved_in_place.proofs.joining.raise_group.Goals as goal

pub returns : goal.returns
returns c =
    let group = c.args.group.now in
    let new = c.walk_bindings.new.bindings in
    let back : take group.len (new ++ drop (length new) group.items) ≡ new =
    written_back group.len new group.items (omega (arith, c.walk_bindings.auto.bindings, ap length c.deref_mut.ensures.value)) (omega (arith, group.ok.0)) in
    on_ok_weaker c.walk_bindings.result (λ h. back ∙ h ∙ ap (λ ρ. map (renamed_binding ρ) c.deref_mut.result.now) (lifted_raise c.args.from c.args.by) ∙ ap (map (renamed_binding (raised c.args.from c.args.by))) c.deref_mut.ensures.value) c.walk_bindings.ensures
