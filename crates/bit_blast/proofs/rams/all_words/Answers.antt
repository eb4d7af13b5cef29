use Rattle.std.proofs.Common.{◌≡◌, ◌≤◌, ◌<◌, ◌^◌, Bool, List, Some, length, ◌∙◌, ap, refl, sym, arith}
use Rattle.std.proofs.lemmas.List.{get_or_read}
use Rattle.std.proofs.lemmas.Option.{slice_get-get_or}
use Rattle.netlist.proofs.Places.{all_at}
use Rattle.bit_blast.specs.Numbering.{nth}
use Rattle.bit_blast.proofs.ByPlaces.{nth_below}
use Rattle.bit_blast.proofs.RamWords.{shown_all, shown_names_more, words_all, words_more}
use Rattle.bit_blast.proofs.rams.all_words.Goals as goal

pub loop-at-init : goal.loop-at-init
loop-at-init c =
    let within = c.requires.within in
    record {
      made = λ flat. refl;
      shown = refl;
      small = omega arith;
      numbers = omega arith;
    }

pub word-requires-clause-wide : goal.word-requires-clause-wide
word-requires-clause-wide c =
    let words = c.args.words.now in
    let bits = c.index-words-at.result in
    all_at (λ (word : List Bool). length word ≡ c.args.memory.width) words c.loop-at.at bits c.requires.wide
    (slice_get-get_or words c.loop-at.at bits c.loop-at-test.true ∙ ap (λ (word : List Bool). Some word) (sym c.index-words-at.is))

pub word-requires-clause-numbers : goal.word-requires-clause-numbers
word-requires-clause-numbers c =
    let within = c.requires.within in
    let few = c.requires.few in
    let below = c.loop-at-test.true in
    let small = c.loop-at.invariant.small in
    omega arith

pub word-requires-clause-shown : goal.word-requires-clause-shown
word-requires-clause-shown c =
    let within = c.requires.within in
    let few = c.requires.few in
    let below = c.loop-at-test.true in
    let numbers = c.loop-at.invariant.numbers in
    let le : c.args.memory.width ≤ 4096 = omega arith in
    let fits : nth c.loop-at.shown 4096 < 2 ^ 32 = omega arith in
    nth_below c.loop-at.shown c.args.memory.width 4096 le fits

pub loop-at-preserved : goal.loop-at-preserved
loop-at-preserved c =
    let memory = c.args.memory in
    let words = c.args.words.now in
    let at = c.loop-at.at in
    let within = c.requires.within in
    let less : at < length words = c.loop-at-test.true in
    let bits = c.index-words-at.result in
    let small = c.loop-at.invariant.small in
    record {
      made = λ flat.
          words_more flat c.loop-at.nodes.items c.word.new.nodes.items memory c.loop-at.x at c.loop-at.shown words bits less
          (get_or_read words at bits less c.index-words-at.is _) (c.in_ok-word.ensures flat)
          ∙ c.loop-at.invariant.made flat;
      shown = shown_names_more memory.wire.number memory.width c.loop-at.x at c.loop-at.shown words less ∙ c.loop-at.invariant.shown;
      small = omega arith;
      numbers = omega arith;
    }

pub returns-clause-made : goal.returns-clause-made
returns-clause-made c = λ flat.
    words_all flat c.args.nodes.now.items c.loop-at.nodes.items c.args.memory c.loop-at.x c.loop-at.at c.loop-at.shown c.args.words.now
    c.loop-at-test.false (c.loop-at.invariant.made flat)

pub returns-clause-shown : goal.returns-clause-shown
returns-clause-shown c =
    shown_all c.args.memory.wire.number c.args.memory.width c.loop-at.x c.loop-at.at c.loop-at.shown c.args.words.now c.loop-at-test.false
    c.loop-at.invariant.shown

pub returns-clause-small : goal.returns-clause-small
returns-clause-small c =
    let within = c.requires.within in
    let few = c.requires.few in
    let ends = c.loop-at.auto.at-end in
    let numbers = c.loop-at.invariant.numbers in
    let le : c.args.memory.width ≤ 4096 = omega arith in
    let fits : nth c.loop-at.shown 4096 < 2 ^ 32 = omega arith in
    nth_below c.loop-at.shown c.args.memory.width 4096 le fits
