use Rattle.std.proofs.Common.{◌≡◌, ◌++◌, ◌∙◌, ap, map, length, take, drop, arith}
use Rattle.std.proofs.lemmas.Result.{on_ok_weaker}
use Rattle.chw_terms.specs.TermMoves.{exchanged}
use Rattle.chw_typing.proofs.Puts.{written_back}
use Rattle.moved_in_place.specs.Moves.{renamed_binding}
use Rattle.moved_in_place.proofs.joining.exchange_group.Goals as goal

pub returns : goal.returns
returns c =
    let group = c.args.group.now in
    let new = c.walk_bindings.new.bindings in
    let back : take group.len (new ++ drop (length new) group.items) ≡ new =
    written_back group.len new group.items (omega (arith, c.walk_bindings.auto.bindings, ap length c.deref_mut.ensures.value)) (omega (arith, group.ok.0)) in
    on_ok_weaker c.walk_bindings.result (λ h. back ∙ h ∙ ap (map (renamed_binding (exchanged c.args.first c.args.next))) c.deref_mut.ensures.value) c.walk_bindings.ensures
