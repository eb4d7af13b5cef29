-- what is written, with the parts that are left, is all
use Rattle.std.proofs.Common.{drop}
use Rattle.chw_grammar.specs.declared.stand.Stand.TheVariants.{Summand, Factor}
use Rattle.chw_grammar.specs.declared.terminal.Terminal.TheVariants.{Plus, Star}
use Rattle.chw_grammar.specs.TypeView.{types_of}
use Rattle.chw_grammar.specs.Text.{parts_lexemes, types_lexemes}
use Rattle.chw_text.specs.Spaced.{Leaves, parts_from}
use Rattle.chw_text.proofs.types.+put_type.Given as goal

abbrev pub invariant-put_bare-loop-i : goal.invariant-put_bare-loop-i
invariant-put_bare-loop-i l = Leaves l.initial.out.items (parts_lexemes Summand Plus (types_of l.part-items)) l.out.items (parts_from l.i Summand Plus (types_of (drop l.i l.part-items)))

abbrev pub invariant-put_bare-loop-i-2 : goal.invariant-put_bare-loop-i-2
invariant-put_bare-loop-i-2 l = Leaves l.initial.out.items (parts_lexemes Factor Star (types_of l.part-items)) l.out.items (parts_from l.i Factor Star (types_of (drop l.i l.part-items)))

abbrev pub invariant-put_bare-loop-argument : goal.invariant-put_bare-loop-argument
invariant-put_bare-loop-argument l = Leaves l.initial.out.items (types_lexemes (types_of l.argument-items)) l.out.items (types_lexemes (types_of (drop l.argument-index l.argument-items)))
