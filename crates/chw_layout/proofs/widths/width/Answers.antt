use Rattle.chw_layout.proofs.Measures.{representable_measured}
use Rattle.chw_layout.proofs.Telling.{width_told, refusal_told, number_not_told}
use Rattle.chw_layout.proofs.widths.width.Goals as goal

pub returns-in-Fits-clause-width : goal.returns-in-Fits-clause-width
returns-in-Fits-clause-width c =
    let w = representable_measured (c.in_ok-has_bits.ensures.0 c.if-not-has_bits.false) in
    width_told c.args.datas.now c.args.t.now w.0 c.in_ok-outcome.outcome c.in-Fits.width w.1 (c.in_ok-outcome.ensures.comes w.0 w.1) c.in-Fits.is

pub returns-in-TooWide-clause-refused : goal.returns-in-TooWide-clause-refused
returns-in-TooWide-clause-refused c =
    let w = representable_measured (c.in_ok-has_bits.ensures.0 c.if-not-has_bits.false) in
    refusal_told c.args.datas.now c.args.t.now w.0 c.in_ok-outcome.outcome c.in-TooWide.limit w.1 (c.in_ok-outcome.ensures.comes w.0 w.1) c.in-TooWide.is

pub unreachable-requires : goal.unreachable-requires
unreachable-requires c =
    let w = representable_measured (c.in_ok-has_bits.ensures.0 c.if-not-has_bits.false) in
    number_not_told w.0 c.in_ok-outcome.outcome _ (c.in_ok-outcome.ensures.comes w.0 w.1) c.in-Number.is
