-- What the tokens of the lexer say.
use Rattle.std.specs.Prelude.{◌≡◌, ℕ, List, codes, map}
use Rattle.verilog_text.specs.Grammar.{keyword, literal, name, number, sign, signed}
use Rattle.verilog_text.specs.VForms.{Token as TextToken}
use Rattle.verilog_text.specs.VTokens.{Placed as PlacedToken}
use Rattle.verilog_lex.specs.declared.token.Keyword.{Keyword}
use Rattle.verilog_lex.specs.declared.token.Keyword.TheVariants.{Always, Assign, Begin, End}
use Rattle.verilog_lex.specs.declared.token.Keyword.TheVariants.{Endmodule, If, Initial, Input}
use Rattle.verilog_lex.specs.declared.token.Keyword.TheVariants.{Module, Output, Posedge, Reg, Wire}
use Rattle.verilog_lex.specs.declared.token.Placed.{Placed}
use Rattle.verilog_lex.specs.declared.token.Sign.{Sign}
use Rattle.verilog_lex.specs.declared.token.Sign.TheVariants.{Ampersand, At, Bar, Caret}
use Rattle.verilog_lex.specs.declared.token.Sign.TheVariants.{CloseBrace, CloseBracket, CloseParen}
use Rattle.verilog_lex.specs.declared.token.Sign.TheVariants.{Colon, Comma, Dot, Equals}
use Rattle.verilog_lex.specs.declared.token.Sign.TheVariants.{EqualsEquals, GreaterGreater}
use Rattle.verilog_lex.specs.declared.token.Sign.TheVariants.{GreaterGreaterGreater, Less}
use Rattle.verilog_lex.specs.declared.token.Sign.TheVariants.{LessEquals, LessLess, Minus, Tilde}
use Rattle.verilog_lex.specs.declared.token.Sign.TheVariants.{OpenBrace, OpenBracket, OpenParen}
use Rattle.verilog_lex.specs.declared.token.Sign.TheVariants.{Plus, Question, Semicolon, Star}
use Rattle.verilog_lex.specs.declared.token.Token.{Token}
use Rattle.verilog_lex.specs.declared.token.Token.TheVariants.{Keyword as KeywordToken}
use Rattle.verilog_lex.specs.declared.token.Token.TheVariants.{Literal, Name, Number}
use Rattle.verilog_lex.specs.declared.token.Token.TheVariants.{Sign as SignToken, Signed}

-- the bytes of a keyword
abbrev pub keyword_bytes : Keyword → List ℕ
keyword_bytes Module = codes "module"
keyword_bytes Endmodule = codes "endmodule"
keyword_bytes Input = codes "input"
keyword_bytes Output = codes "output"
keyword_bytes Wire = codes "wire"
keyword_bytes Reg = codes "reg"
keyword_bytes Assign = codes "assign"
keyword_bytes Always = codes "always"
keyword_bytes Posedge = codes "posedge"
keyword_bytes Initial = codes "initial"
keyword_bytes Begin = codes "begin"
keyword_bytes End = codes "end"
keyword_bytes If = codes "if"

-- the bytes of a sign
abbrev pub sign_bytes : Sign → List ℕ
sign_bytes OpenParen = codes "("
sign_bytes CloseParen = codes ")"
sign_bytes OpenBracket = codes "["
sign_bytes CloseBracket = codes "]"
sign_bytes OpenBrace = codes "{"
sign_bytes CloseBrace = codes "}"
sign_bytes Comma = codes ","
sign_bytes Semicolon = codes ";"
sign_bytes Dot = codes "."
sign_bytes Colon = codes ":"
sign_bytes Question = codes "?"
sign_bytes At = codes "@"
sign_bytes Equals = codes "="
sign_bytes Plus = codes "+"
sign_bytes Minus = codes "-"
sign_bytes Star = codes "*"
sign_bytes Ampersand = codes "&"
sign_bytes Bar = codes "|"
sign_bytes Caret = codes "^"
sign_bytes Tilde = codes "~"
sign_bytes EqualsEquals = codes "=="
sign_bytes Less = codes "<"
sign_bytes LessEquals = codes "<="
sign_bytes LessLess = codes "<<"
sign_bytes GreaterGreater = codes ">>"
sign_bytes GreaterGreaterGreater = codes ">>>"

-- the token of a text that a token is
abbrev pub token_of : Token → TextToken
token_of (KeywordToken k) = keyword (keyword_bytes k)
token_of (Name bytes) = name bytes.now
token_of (Number bytes) = number bytes.now
token_of (Literal bytes) = literal bytes.now
token_of Signed = signed
token_of (SignToken s) = sign (sign_bytes s)

-- the same at its place
abbrev pub placed_of : Placed → PlacedToken
placed_of p = record { at = p.at; token = token_of p.token }

abbrev pub placed : List Placed → List PlacedToken
placed tokens = map placed_of tokens
