-- The right sides before one that changes stay quiet.
use Rattle.std.proofs.Common.{◌∙◌, sym, subst, suc, ◌<◌}
use Rattle.chw_types.specs.TypeMoves.{raised}
use Rattle.chw_terms.specs.TermMoves.{rename, rename_group, exchanged}
use Rattle.chw_terms.specs.TermTree.{letrec, bind, size_of}
use Rattle.chw_terms.proofs.Renamed.{size_renamed}
use Rattle.chw_typing.specs.Groups.{joined}
use Rattle.chw_typing.proofs.GroupParts.{first_of_joined}
use Rattle.kept_letrecs.specs.Laws.{QuietAfterSide, QuietAfterJoin}
use Rattle.kept_letrecs.proofs.Places.{renamed_at}
use Rattle.kept_letrecs.proofs.QuietRenamed.{quiet_renamed}

pub quiet_after_side : QuietAfterSide
quiet_after_side front t x x' back e i l h =
    (h.0, (first_of_joined front (bind t x' back) i l ∙ sym (first_of_joined front (bind t x back) i l) ∙ h.1.0, h.1.1))

pub quiet_after_join : QuietAfterJoin
quiet_after_join front t cs x back e i l h =
    let m = size_of cs in
    let n = suc (size_of back) in
    let room = raised n m in
    let swap = exchanged m n in
    let behind = joined (rename_group cs swap) (bind t (rename x swap) (rename_group back room)) in
    let within : i < size_of (rename_group front room) = subst (λ k. i < k) (sym (size_renamed front room)) l in
    let there = renamed_at front room i h.0 (sym (first_of_joined front (bind t (letrec cs x) back) i l) ∙ h.1.0) in
    ((h.0.0, rename h.0.1 room), (first_of_joined (rename_group front room) behind i within ∙ there, quiet_renamed room h.1.1))
