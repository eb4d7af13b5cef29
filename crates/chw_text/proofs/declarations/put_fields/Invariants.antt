use Rattle.std.proofs.Common.{drop}
use Rattle.chw_grammar.specs.Text.{fields_lexemes}
use Rattle.chw_text.specs.Spaced.{Leaves}
use Rattle.chw_text.proofs.declarations.put_fields.Given as goal

abbrev pub invariant-loop-field : goal.invariant-loop-field
invariant-loop-field l = Leaves l.initial.out.items (fields_lexemes l.fields) l.out.items (fields_lexemes (drop l.field-index l.fields))
