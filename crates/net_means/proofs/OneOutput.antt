-- An output has no other bits, and no other meaning.
use Rattle.std.proofs.Common.{◌≡◌, ℕ, Bool, List, subst}
use Rattle.chw_base.specs.declared.index.WireId.{WireId}
use Rattle.chw_clock.specs.declared.event.Event.{Event}
use Rattle.chw_meaning.specs.Laws.{OneMeaning}
use Rattle.netlist.specs.NetValue.{NetValue}
use Rattle.netlist.specs.Sound.{Sound}
use Rattle.netlist.specs.declared.net.Flat.{Flat}
use Rattle.net_means.proofs.Lists.{same_some}
use Rattle.net_means.specs.Laws.{OutputsHaveOneMeaning}

pub one_output : ((flat : Flat) (h : List Event) (w : ℕ) (a b : List Bool) → Sound flat → NetValue flat h w a → NetValue flat h w b → a ≡ b) → OneMeaning → OutputsHaveOneMeaning
one_output one_value one_meaning p flat h k v wire bits sound o means is has =
    let same : o.wire ≡ wire = same_some o.is_output is in (
      one_meaning p h k o.value v o.means means,
      one_value flat h wire.number o.bits bits sound (subst (λ (w : WireId). NetValue flat h w.number o.bits) same o.has) has,
    )
