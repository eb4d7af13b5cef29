use Rattle.std.proofs.Common.{◌+◌, refl}
use Rattle.use_laws.proofs.Back.{value_back}
use Rattle.use_laws.proofs.Forth.{value_there}
use Rattle.use_laws.proofs.laws.bits_through_uses.Goals as goal

pub returns : goal.returns
returns c = λ net flat path m base h w bits wf f at begins l. (
  λ v. value_there net flat wf f path h w bits base v begins,
  λ v. value_back net flat wf f h (base + w) bits path base m w v (record { at = at; begins = begins }) l refl,
)
