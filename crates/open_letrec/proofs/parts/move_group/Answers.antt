use Rattle.std.proofs.Common.{◌≡◌, ◌++◌, ◌∙◌, ap, map, length, take, drop, arith}
use Rattle.std.proofs.lemmas.Result.{on_ok_weaker}
use Rattle.chw_typing.proofs.Puts.{written_back}
use Rattle.moved_in_place.specs.Moves.{renamed_binding}
use Rattle.open_letrec.specs.Places.{renaming_of}
use Rattle.open_letrec.proofs.parts.move_group.Goals as goal

pub returns : goal.returns
returns c =
    let group = c.args.group.now in
    let new = c.renumber_group.new.group in
    let back : take group.len (new ++ drop (length new) group.items) ≡ new =
    written_back group.len new group.items (omega (arith, c.renumber_group.auto.group, ap length c.deref_mut.ensures.value)) (omega (arith, group.ok.0)) in
    on_ok_weaker c.renumber_group.result (λ h. back ∙ h ∙ ap (map (renamed_binding (renaming_of c.args.places.now c.args.way))) c.deref_mut.ensures.value) c.renumber_group.ensures
