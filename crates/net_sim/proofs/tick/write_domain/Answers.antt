use Rattle.std.proofs.Common.{◌≡◌, List, [], Bool, length, map, sym, subst, ◌∙◌, arith}
use Rattle.std.proofs.lemmas.List.{length-map}
use Rattle.net_sim.specs.Ticking.{IsRamOf, ListsKeepers, moved_words}
use Rattle.net_sim.proofs.Domains.{keeper_there, ram_cases, ram_keeper, ram_writes}
use Rattle.net_sim.proofs.Writing.{behind_within, fits_table, listed_all, listed_more}
use Rattle.net_sim.proofs.tick.write_domain.Goals as goal

pub write-requires-clause-fits : goal.write-requires-clause-fits
write-requires-clause-fits c =
    fits_table c.args.flat.now c.args.words.now c.cell_at.result.now c.requires.sound c.requires.table (_, c.cell_at.ensures)

pub loop-place-preserved : goal.loop-place-preserved
loop-place-preserved c =
    let flat = c.args.flat.now in
    let l = c.loop-place in
    let cell = c.cell_at.result.now in
    let number = c.args.number in
    let lists = subst (λ ps. ListsKeepers flat number ps (length flat.cells)) (sym c.places_of-place-items.ensures)
    (c.requires.keepers.lists number c.requires.within) in
    let fits = fits_table flat c.args.words.now cell c.requires.sound c.requires.table (_, c.cell_at.ensures) in
    let size : length (map length c.args.words.now) ≡ length l.memories = length-map c.args.words.now length ∙ sym l.invariant.memories.count in
    let own = lists.own l.place-index cell c.loop-place-test.true c.cell_at.ensures in
    record {
      written =
          listed_more (List (List Bool)) [] (IsRamOf number) (λ w cell old. moved_words c.args.words.now cell old) flat number _ c.args.memories.now
          l.memories c.write.new.memories l.place-index cell c.requires.sound lists (ram_keeper number) c.loop-place-test.true
          (ram_cases number cell own)
          (λ is. keeper_there fits.0 (length l.memories) number (map length c.args.words.now) cell fits.1 size (ram_keeper number cell is))
          c.cell_at.ensures l.invariant.written
          (ram_writes (List (List Bool)) [] (λ w cell old. moved_words c.args.words.now cell old) number cell l.memories c.write.new.memories own
          c.write.ensures.written);
      memories = c.write.ensures.memories;
    }

pub returns-clause-written : goal.returns-clause-written
returns-clause-written c =
    let flat = c.args.flat.now in
    let l = c.loop-place in
    let number = c.args.number in
    let lists = subst (λ ps. ListsKeepers flat number ps (length flat.cells)) (sym c.places_of-place-items.ensures)
    (c.requires.keepers.lists number c.requires.within) in
    listed_all (List (List Bool)) [] (IsRamOf number) (λ w cell old. moved_words c.args.words.now cell old) flat number _
    c.args.memories.now l.memories l.place-index lists (ram_keeper number) (omega arith)
    (behind_within flat number _ (length flat.cells) l.place-index lists (omega arith)) l.invariant.written
