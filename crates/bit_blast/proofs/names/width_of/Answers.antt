use Rattle.std.proofs.Common.{◌≡◌, ℕ, List, ap, ◌∙◌, arith}
use Rattle.std.specs.Prelude.{slice_index}
use Rattle.bit_blast.proofs.Widths.{width_known, width_within}
use Rattle.bit_blast.proofs.names.width_of.Goals as goal

pub returns-clause-within : goal.returns-clause-within
returns-clause-within c =
    let w = c.args.wire.number in
    let is : c.width_at.result ≡ slice_index c.args.flat.now.widths w =
    c.width_at.ensures ∙ ap (λ (widths : List ℕ). slice_index widths w) c.as_slice.ensures in
    omega (arith, is, width_within c.args.flat.now w c.requires)

pub returns-clause-some : goal.returns-clause-some
returns-clause-some c = λ less.
    let w = c.args.wire.number in
    let is : c.width_at.result ≡ slice_index c.args.flat.now.widths w =
    c.width_at.ensures ∙ ap (λ (widths : List ℕ). slice_index widths w) c.as_slice.ensures in
    omega (arith, is, (width_known c.args.flat.now w c.requires less).0)
