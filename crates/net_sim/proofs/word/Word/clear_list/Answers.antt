use Rattle.std.proofs.Common.{false, ◌≡◌, length, replicate, vec_len, sym, ap, ◌∙◌, arith}
use Rattle.net_sim.specs.Kept.{kept_bits}
use Rattle.net_sim.proofs.Keeping.{bits_of_zero, is_narrow, list_known}
use Rattle.net_sim.proofs.word.Word.clear_list.Goals as goal
use Rattle.net_sim.proofs.word.Word.clear_list.Goals.{in-Wide, in_default}

pub returns : goal.returns
returns c =
    elim c.match-self.branch [
      | in-Wide w ↦
          let known = list_known _ _ _ w.in-Wide.is c.self.invariant c.self.view_is in
          let same = ap length known.same in
          let count : vec_len w.in-Wide.list.value ≡ length c.args.self.now = omega arith in
          ap (λ inside. kept_bits inside.kept) w.self-inside-is ∙ w.fill.ensures.items (λ y is. is)
          ∙ ap (λ n. replicate n false) (ap vec_len w.deref_mut.ensures.value ∙ count)
          ∙ sym (bits_of_zero (length c.args.self.now))
      | in_default w ↦
          let wide = c.requires in
          absurd (omega (arith, is_narrow _ _ c.self.invariant c.self.view_is w.in_default.not-Wide))
    ]
