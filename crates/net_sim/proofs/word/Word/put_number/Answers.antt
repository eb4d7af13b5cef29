use Rattle.std.proofs.Common.{◌<◌, ◌^◌, sym, ap, ◌∙◌, subst, arith}
use Rattle.chw_bits.specs.Bits.{bits_of}
use Rattle.chw_bits.proofs.Numbers.{lt-pow}
use Rattle.net_sim.specs.Kept.{kept_bits}
use Rattle.net_sim.proofs.Keeping.{large_known, list_known, narrow_known, small_known}
use Rattle.net_sim.proofs.word.Word.put_number.Goals as goal
use Rattle.net_sim.proofs.word.Word.put_number.Goals.{in-Small, in-Narrow, in-Wide}

pub overflow_cast-number : goal.overflow_cast-number
overflow_cast-number c =
    let own = small_known _ _ _ _ c.in-Small.is c.self.invariant c.self.view_is in
    record { fits = lt-pow c.args.n _ 64 (subst (λ k. c.args.n < 2 ^ k) (sym own.count) c.requires.below) own.narrow }

pub invariant_of-self : goal.invariant_of-self
invariant_of-self c =
    elim c.match-self.branch [
      | in-Small w ↦
          let own = small_known _ _ _ _ w.in-Small.is c.self.invariant c.self.view_is in
          rw w.self-inside-is (record { narrow = own.narrow; below = subst (λ k. c.args.n < 2 ^ k) (sym own.count) c.requires.below })
      | in-Narrow w ↦
          let own = narrow_known _ _ _ _ w.in-Narrow.is c.self.invariant c.self.view_is in
          let below = subst (λ k. c.args.n < 2 ^ k) (sym own.count) c.requires.below in
          rw w.self-inside-is
          (record { large = large_known _ _ _ w.in-Narrow.is c.self.invariant; is = record { narrow = own.narrow; below = below } })
      | in-Wide w ↦ rw w.self-inside-is c.self.invariant
    ]

pub returns : goal.returns
returns c =
    elim c.match-self.branch [
      | in-Small w ↦
          let own = small_known _ _ _ _ w.in-Small.is c.self.invariant c.self.view_is in
          ap (λ inside. kept_bits inside.kept) w.self-inside-is ∙ ap (λ k. bits_of k c.args.n) own.count
      | in-Narrow w ↦
          let own = narrow_known _ _ _ _ w.in-Narrow.is c.self.invariant c.self.view_is in
          ap (λ inside. kept_bits inside.kept) w.self-inside-is ∙ ap (λ k. bits_of k c.args.n) own.count
      | in-Wide w ↦
          let known = list_known _ _ _ w.in-Wide.is c.self.invariant c.self.view_is in
          let narrow = c.requires.narrow in
          absurd (omega (arith, known.wide))
    ]
