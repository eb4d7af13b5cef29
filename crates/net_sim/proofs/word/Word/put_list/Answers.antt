use Rattle.std.proofs.Common.{ap, ◌∙◌, arith}
use Rattle.net_sim.specs.Kept.{kept_bits}
use Rattle.net_sim.proofs.Keeping.{is_narrow}
use Rattle.net_sim.proofs.word.Word.put_list.Goals as goal
use Rattle.net_sim.proofs.word.Word.put_list.Goals.{in-Wide, in_default}

pub returns : goal.returns
returns c =
    elim c.match-self.branch [
      | in-Wide w ↦ ap (λ inside. kept_bits inside.kept) w.self-inside-is ∙ w.copy_from_slice.ensures.items
      | in_default w ↦
          let wide = c.requires.wide in
          absurd (omega (arith, is_narrow _ _ c.self.invariant c.self.view_is w.in_default.not-Wide))
    ]
