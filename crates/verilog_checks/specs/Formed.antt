-- Words that have the form of a literal, as each token that is one has.
use Rattle.verilog_text.specs.VForms.{IsLiteral}
use Rattle.verilog_tree.specs.Sources.{bytes_of}
use Rattle.verilog_tree.specs.declared.word.Word.{Word}

-- the word has the form of a literal
abbrev pub IsFormed : Word → Type 0
IsFormed literal = IsLiteral (bytes_of literal)
