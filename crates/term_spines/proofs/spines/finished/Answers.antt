use Rattle.std.proofs.Common.{ap, ◌∙◌, refl}
use Rattle.std.specs.Prelude.{reverse}
use Rattle.chw_types.specs.Arguments.{given}
use Rattle.chw_types.specs.TypeMoves.{sub}
use Rattle.term_spines.proofs.Waiting.{found_finished}
use Rattle.term_spines.proofs.spines.finished.Goals as goal

pub returns : goal.returns
returns c =
    let spine = c.args.spine in
    found_finished spine (record { ty = c.in_ok-ty.ty; kind = spine.body.kind }) (c.in_ok-ty.ensures ∙ ap (λ ts. sub spine.body.ty (given (reverse ts))) c.as_slice.ensures.value) refl
