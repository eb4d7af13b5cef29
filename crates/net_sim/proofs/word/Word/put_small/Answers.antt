use Rattle.std.proofs.Common.{◌<◌, ◌^◌, sym, ap, subst}
use Rattle.chw_bits.specs.Bits.{bits_of}
use Rattle.net_sim.proofs.Keeping.{is_small, small_known}
use Rattle.net_sim.proofs.word.Word.put_small.Goals as goal

pub unreachable-requires : goal.unreachable-requires
unreachable-requires c = is_small _ _ c.self.invariant c.self.view_is c.in_default.not-Small c.requires.small

pub invariant_of-self : goal.invariant_of-self
invariant_of-self c =
    let own = small_known _ _ _ _ c.in-Small.is c.self.invariant c.self.view_is in
    record { narrow = own.narrow; below = subst (λ k. c.args.n < 2 ^ k) (sym own.count) c.requires.below }

pub returns : goal.returns
returns c =
    let own = small_known _ _ _ _ c.in-Small.is c.self.invariant c.self.view_is in
    ap (λ k. bits_of k c.args.n) own.count
