use Rattle.std.proofs.Common.{◌≡◌, ℕ, Bool, List, length, ◌∙◌, sym, subst}
use Rattle.std.specs.List.{AllByRecursion}
use Rattle.std.proofs.lemmas.Option.{get_or_from_slice_get}
use Rattle.bit_blast.proofs.Adding.{added_as, both_added}
use Rattle.bit_blast.proofs.RamWords.{ram_is}
use Rattle.bit_blast.proofs.rams.ram.Goals as goal

pub all_words-requires-clause-within : goal.all_words-requires-clause-within
all_words-requires-clause-within c = c.width_of-width.ensures.within

pub all_words-requires-clause-few : goal.all_words-requires-clause-few
all_words-requires-clause-few c = c.requires.fits.1.1

pub all_words-requires-clause-wide : goal.all_words-requires-clause-wide
all_words-requires-clause-wide c =
    let flat = c.args.flat.now in
    let f = c.requires.fits.1 in
    let own = c.width_of-width.ensures.width ∙ get_or_from_slice_get flat.widths c.args.w.number f.5.0 0 f.5.1 in
    subst (λ (n : ℕ). AllByRecursion (λ (bits : List Bool). length bits ≡ n) c.args.words.now) (sym own) f.5.3

pub returns : goal.returns
returns c =
    let flat = c.args.flat.now in
    let f = c.requires.fits.1 in
    added_as flat c.args.nodes.now.items c.shown_latches.new.nodes.items _ _
    (ram_is flat c.args.w c.args.domain c.args.words.now c.args.inputs.now c.width_of-width.result f.5.0 c.in_ok-shown.shown f.5.1 f.5.2
    c.width_of-width.ensures.width c.in_ok-shown.ensures.shown)
    (both_added flat c.args.nodes.now.items c.zeros.new.nodes.items c.shown_latches.new.nodes.items _ _ (c.in_ok-zeros.ensures flat)
    (both_added flat c.zeros.new.nodes.items _ c.shown_latches.new.nodes.items _ _ (c.in_ok-shown.ensures.made flat)
    (c.in_ok-shown_latches.ensures flat)))
