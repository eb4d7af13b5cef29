-- When a stack of symbols can be read to its end, and how far a stack is from wanting a token.
use Rattle.std.specs.Prelude.{◌≡◌, ℕ, ◌+◌, Bool, true, false, List, [], ◌∷◌}
use Rattle.chw_grammar.specs.Grammar.{is_lower}
use Rattle.chw_grammar.specs.declared.terminal.Terminal.{Terminal}
use Rattle.chw_grammar.specs.declared.terminal.Terminal.TheVariants as the
use Rattle.chw_parser.specs.declared.symbol.Symbol.{Symbol}
use Rattle.chw_parser.specs.declared.symbol.Symbol.TheVariants.{Token, Word, Kind, Reset, Part, Act}
use Rattle.chw_parser.specs.declared.symbol.WordSort.{WordSort}
use Rattle.chw_parser.specs.declared.symbol.WordSort.TheVariants as sort
use Rattle.chw_parser.specs.declared.symbol.Rule.{Rule}
use Rattle.chw_parser.specs.declared.symbol.Rule.TheVariants as rule
use Rattle.chw_parser.specs.Follow.{begins_atom, after_product, after_sum, after_type, after_term}

-- whether the rule, read as shortly as can be, would take this terminal too
abbrev pub goes_on : Rule → Terminal → Bool
goes_on rule.Program x = false
goes_on rule.Declarations x = false
goes_on rule.DomainEnd x = false
goes_on rule.Parameters the.Open = true
goes_on rule.Parameters x = false
goes_on rule.Constructor x = begins_atom x
goes_on rule.Constructors the.Bar = true
goes_on rule.Constructors x = begins_atom x
goes_on rule.Atoms x = begins_atom x
goes_on rule.Inputs the.Close = false
goes_on rule.Inputs x = true
goes_on rule.Ports the.Comma = true
goes_on rule.Ports x = false
goes_on rule.Fields x = is_lower x
goes_on rule.Type x = after_type x
goes_on rule.ArrowTail x = after_type x
goes_on rule.SumTail x = after_sum x
goes_on rule.SumMore x = after_sum x
goes_on rule.Product x = after_product x
goes_on rule.ProductTail x = after_product x
goes_on rule.ProductMore x = after_product x
goes_on rule.Applied x = begins_atom x
goes_on rule.Atom x = false
goes_on rule.Term x = after_term x
goes_on rule.Bindings x = is_lower x
goes_on rule.Alternatives the.Upper = true
goes_on rule.Alternatives the.Nat = true
goes_on rule.Alternatives the.Dom = true
goes_on rule.Alternatives the.Val = true
goes_on rule.Alternatives the.Cir = true
goes_on rule.Alternatives the.Literal = true
goes_on rule.Alternatives the.Underscore = true
goes_on rule.Alternatives x = false
goes_on rule.ApplyTail x = after_term x
goes_on rule.Arguments x = after_term x
goes_on rule.Argument x = false
goes_on rule.Simple x = false
goes_on rule.Elements the.CloseBracket = false
goes_on rule.Elements x = true
goes_on rule.MoreElements the.Comma = true
goes_on rule.MoreElements x = after_term x

-- with which terminal the rule, read as shortly as can be, begins, where this one follows it
abbrev pub begins : Rule → Terminal → Terminal
begins rule.Program x = the.Top
begins rule.Declarations x = the.Top
begins rule.DomainEnd x = the.Semicolon
begins rule.Constructor x = the.Upper
begins rule.Type x = the.Lower
begins rule.Product x = the.Lower
begins rule.Applied x = the.Lower
begins rule.Atom x = the.Lower
begins rule.Term x = the.Lower
begins rule.Argument x = the.Lower
begins rule.Simple x = the.Lower
begins _ x = x

abbrev pub word_terminal : WordSort → Terminal
word_terminal sort.Lower = the.Lower
word_terminal sort.Upper = the.Upper
word_terminal sort.Numeral = the.Numeral
word_terminal sort.Literal = the.Literal

-- with which terminal the symbols, read as shortly as can be, begin
abbrev pub first : List Symbol → Terminal
first [] = the.End
first (Token x ∷ s) = x
first (Word x ∷ s) = word_terminal x
first (Kind ∷ s) = the.Nat
first (Reset ∷ s) = the.Lower
first (Part x ∷ s) = begins x (first s)
first (Act x ∷ s) = first s

abbrev pub is_end : Terminal → Bool
is_end the.End = true
is_end _ = false

-- no part would take the terminal with which the symbols behind it begin, and the end of the text is no token
abbrev pub Fine : List Symbol → Type 0
Fine [] = Unit {0}
Fine (Token x ∷ s) = (is_end x ≡ false) × Fine s
Fine (Word x ∷ s) = Fine s
Fine (Kind ∷ s) = Fine s
Fine (Reset ∷ s) = Fine s
Fine (Part x ∷ s) = (goes_on x (first s) ≡ false) × Fine s
Fine (Act x ∷ s) = Fine s

-- how many steps, or more, a rule is from a token
abbrev pub rank : Rule → ℕ
rank rule.Program = 3
rank rule.Atoms = 2
rank rule.Type = 4
rank rule.SumTail = 2
rank rule.SumMore = 2
rank rule.Product = 3
rank rule.ProductTail = 2
rank rule.ProductMore = 2
rank rule.Applied = 2
rank rule.Term = 2
rank rule.ApplyTail = 4
rank rule.Arguments = 3
rank rule.Argument = 2
rank rule.Elements = 3
rank _ = 1

-- the same for a stack whose part it is on: what is behind it counts where it may be read by no token
abbrev pub rank_before : Rule → ℕ → ℕ
rank_before rule.Program n = 3
rank_before rule.Declarations n = 1
rank_before rule.DomainEnd n = 1
rank_before rule.Constructor n = 1
rank_before rule.Type n = 4
rank_before rule.Product n = 3
rank_before rule.Applied n = 2
rank_before rule.Atom n = 1
rank_before rule.Term n = 2
rank_before rule.Argument n = 2
rank_before rule.Simple n = 1
rank_before x n = rank x + n

abbrev pub weight : List Symbol → ℕ
weight [] = 0
weight (Token x ∷ s) = 0
weight (Word x ∷ s) = 0
weight (Kind ∷ s) = 0
weight (Reset ∷ s) = 0
weight (Part x ∷ s) = rank_before x (weight s)
weight (Act x ∷ s) = weight s + 1
