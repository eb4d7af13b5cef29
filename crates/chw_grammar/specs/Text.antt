-- The canonical text of a tree: its tokens with one space between two, a declaration on each line, and parentheses only where the grammar
-- needs them.
use Rattle.std.specs.Prelude.{ℕ, Bool, true, false, List, [], ◌∷◌, ◌++◌, codes}
use Rattle.std.specs.List.{flat_map}
use Rattle.chw_lexer.specs.declared.token.Sort.{Sort}
use Rattle.chw_lexer.specs.declared.token.Sort.TheVariants as sort
use Rattle.chw_grammar.specs.declared.type_tree.KindTree.{KindTree}
use Rattle.chw_grammar.specs.declared.terminal.Terminal.{Terminal}
use Rattle.chw_grammar.specs.declared.terminal.Terminal.TheVariants as the
use Rattle.chw_grammar.specs.declared.stand.Stand.{Stand}
use Rattle.chw_grammar.specs.declared.stand.Stand.TheVariants.{Alone as alone, Left as left, Summand as summand, Factor as factor, Simple as simple}
use Rattle.chw_grammar.specs.declared.word.Word.{Word}
use Rattle.chw_grammar.specs.declared.term_tree.Pattern.{Pattern}
use Rattle.chw_grammar.specs.declared.term_tree.Pattern.TheVariants as pattern
use Rattle.chw_grammar.specs.declared.program.Tree.{Tree}
use Rattle.chw_grammar.specs.declared.program.Top.{Top}
use Rattle.chw_grammar.specs.declared.program.Declaration.{Declaration}
use Rattle.chw_grammar.specs.declared.program.Declaration.TheVariants.{Domain, Data, Def}
use Rattle.chw_grammar.specs.declared.program.Parameter.{Parameter}
use Rattle.chw_grammar.specs.declared.program.Constructor.{Constructor}
use Rattle.chw_grammar.specs.Lexemes.{Lexeme, kind_terminal}
use Rattle.chw_grammar.specs.TypeTree.{Ty, type_forall, type_arrow, type_sum, type_product, type_named, type_variable, type_numeral, Tys, no_types, type_and}
use Rattle.chw_grammar.specs.TermTree.{Tm, term_lambda, term_type_lambda, term_letrec, term_case, term_apply, term_name, term_constructor, term_literal, term_vec, Tms, no_terms, term_and, Bindings, no_bindings, binding_and, Alternatives, no_alternatives, alternative_and, Arguments, no_arguments, argument_and, type_argument_and}

-- a token with the place of its word
abbrev pub as_token : Sort → Word → Lexeme
as_token s w = record { sort = s; at = w.at; bytes = w.bytes }

-- the token of a keyword, a symbol or a kind
abbrev pub sign_bytes : Terminal → List ℕ
sign_bytes the.Domain = codes "domain"
sign_bytes the.Data = codes "data"
sign_bytes the.Def = codes "def"
sign_bytes the.Top = codes "top"
sign_bytes the.Letrec = codes "letrec"
sign_bytes the.In = codes "in"
sign_bytes the.Case = codes "case"
sign_bytes the.Of = codes "of"
sign_bytes the.Forall = codes "forall"
sign_bytes the.Vec = codes "vec"
sign_bytes the.Semicolon = codes ";"
sign_bytes the.Colon = codes ":"
sign_bytes the.Equals = codes "="
sign_bytes the.Bar = codes "|"
sign_bytes the.Open = codes "("
sign_bytes the.Close = codes ")"
sign_bytes the.OpenBrace = codes "{"
sign_bytes the.CloseBrace = codes "}"
sign_bytes the.OpenBracket = codes "["
sign_bytes the.CloseBracket = codes "]"
sign_bytes the.Comma = codes ","
sign_bytes the.Dot = codes "."
sign_bytes the.Lambda = codes "\\"
sign_bytes the.TypeLambda = codes "/\\"
sign_bytes the.At = codes "@"
sign_bytes the.Arrow = codes "->"
sign_bytes the.Plus = codes "+"
sign_bytes the.Star = codes "*"
sign_bytes the.Underscore = codes "_"
sign_bytes the.Nat = codes "Nat"
sign_bytes the.Dom = codes "Dom"
sign_bytes the.Val = codes "Val"
sign_bytes the.Cir = codes "Cir"
sign_bytes _ = []

abbrev pub sign_sort : Terminal → Sort
sign_sort the.Domain = sort.Key
sign_sort the.Data = sort.Key
sign_sort the.Def = sort.Key
sign_sort the.Top = sort.Key
sign_sort the.Letrec = sort.Key
sign_sort the.In = sort.Key
sign_sort the.Case = sort.Key
sign_sort the.Of = sort.Key
sign_sort the.Forall = sort.Key
sign_sort the.Vec = sort.Key
sign_sort the.Nat = sort.Upper
sign_sort the.Dom = sort.Upper
sign_sort the.Val = sort.Upper
sign_sort the.Cir = sort.Upper
sign_sort _ = sort.Symbol

abbrev pub sign : Terminal → Lexeme
sign x = record { sort = sign_sort x; at = 0; bytes = sign_bytes x }

abbrev pub lower : Word → Lexeme
lower = as_token sort.Lower

abbrev pub upper : Word → Lexeme
upper = as_token sort.Upper

abbrev pub kind : KindTree → Lexeme
kind k = sign (kind_terminal k)

abbrev pub lowers : List Word → List Lexeme
lowers [] = []
lowers (w ∷ ws) = lower w ∷ lowers ws

-- in parentheses, or as it is
abbrev pub closed : Bool → List Lexeme → List Lexeme
closed true ls = sign the.Open ∷ (ls ++ sign the.Close ∷ [])
closed false ls = ls

-- whether a type with `->` or `forall`, a sum, a product, or a name with arguments needs parentheses there
abbrev pub closes_arrow : Stand → Bool
closes_arrow alone = false
closes_arrow _ = true

abbrev pub closes_sum : Stand → Bool
closes_sum alone = false
closes_sum left = false
closes_sum _ = true

abbrev pub closes_product : Stand → Bool
closes_product factor = true
closes_product simple = true
closes_product _ = false

abbrev pub closes_named : Stand → Tys → Bool
closes_named simple (type_and t ts) = true
closes_named _ _ = false

abbrev mutual
  pub type_lexemes : Stand → Ty → List Lexeme
  type_lexemes p (type_forall w k t) =
      closed (closes_arrow p) (sign the.Forall ∷ sign the.Open ∷ lower w ∷ sign the.Colon ∷ kind k ∷ sign the.Close ∷ sign the.Dot ∷ type_lexemes alone t)
  type_lexemes p (type_arrow a b) = closed (closes_arrow p) (type_lexemes left a ++ sign the.Arrow ∷ type_lexemes alone b)
  type_lexemes p (type_sum ts) = closed (closes_sum p) (parts_lexemes summand the.Plus ts)
  type_lexemes p (type_product ts) = closed (closes_product p) (parts_lexemes factor the.Star ts)
  type_lexemes p (type_named w ts) = closed (closes_named p ts) (upper w ∷ types_lexemes ts)
  type_lexemes p (type_variable w) = lower w ∷ []
  type_lexemes p (type_numeral w) = as_token sort.Numeral w ∷ []

  -- the types with a sign between two
  pub parts_lexemes : Stand → Terminal → Tys → List Lexeme
  parts_lexemes p x no_types = []
  parts_lexemes p x (type_and t ts) = type_lexemes p t ++ more_lexemes p x ts

  -- the sign before each
  pub more_lexemes : Stand → Terminal → Tys → List Lexeme
  more_lexemes p x no_types = []
  more_lexemes p x (type_and t ts) = sign x ∷ (type_lexemes p t ++ more_lexemes p x ts)

  -- the types as arguments
  pub types_lexemes : Tys → List Lexeme
  types_lexemes no_types = []
  types_lexemes (type_and t ts) = type_lexemes simple t ++ types_lexemes ts

abbrev pub pattern_lexemes : Pattern → List Lexeme
pattern_lexemes (pattern.Constructor w ws) = upper w ∷ lowers ws
pattern_lexemes (pattern.Literal w) = as_token sort.Literal w ∷ []
pattern_lexemes pattern.Default = sign the.Underscore ∷ []

-- a term, as the head or an argument of an application or by itself
abbrev mutual
  pub term_lexemes : (inner : Bool) → Tm → List Lexeme
  term_lexemes p (term_lambda w t e) =
      closed p (sign the.Lambda ∷ sign the.Open ∷ lower w ∷ sign the.Colon ∷ (type_lexemes alone t ++ sign the.Close ∷ sign the.Dot ∷ term_lexemes false e))
  term_lexemes p (term_type_lambda w k e) =
      closed p (sign the.TypeLambda ∷ sign the.Open ∷ lower w ∷ sign the.Colon ∷ kind k ∷ sign the.Close ∷ sign the.Dot ∷ term_lexemes false e)
  term_lexemes p (term_letrec bs e) =
      closed p (sign the.Letrec ∷ sign the.OpenBrace ∷ (bindings_lexemes bs ++ sign the.CloseBrace ∷ sign the.In ∷ term_lexemes false e))
  term_lexemes p (term_case e alts) =
      closed p (sign the.Case ∷ (term_lexemes false e ++ sign the.Of ∷ sign the.OpenBrace ∷ (alternatives_lexemes alts ++ sign the.CloseBrace ∷ [])))
  term_lexemes p (term_apply e args) = closed p (term_lexemes true e ++ arguments_lexemes args)
  term_lexemes p (term_name w) = lower w ∷ []
  term_lexemes p (term_constructor w) = upper w ∷ []
  term_lexemes p (term_literal w) = as_token sort.Literal w ∷ []
  term_lexemes p (term_vec t es) =
      sign the.Vec ∷ sign the.At ∷ (type_lexemes simple t ++ sign the.OpenBracket ∷ (elements_lexemes es ++ sign the.CloseBracket ∷ []))

  pub bindings_lexemes : Bindings → List Lexeme
  bindings_lexemes no_bindings = []
  bindings_lexemes (binding_and w t e bs) =
      lower w ∷ sign the.Colon ∷ (type_lexemes alone t ++ sign the.Equals ∷ (term_lexemes false e ++ sign the.Semicolon ∷ bindings_lexemes bs))

  pub alternatives_lexemes : Alternatives → List Lexeme
  alternatives_lexemes no_alternatives = []
  alternatives_lexemes (alternative_and q e more) =
      pattern_lexemes q ++ sign the.Arrow ∷ (term_lexemes false e ++ sign the.Semicolon ∷ alternatives_lexemes more)

  pub arguments_lexemes : Arguments → List Lexeme
  arguments_lexemes no_arguments = []
  arguments_lexemes (argument_and e more) = term_lexemes true e ++ arguments_lexemes more
  arguments_lexemes (type_argument_and t more) = sign the.At ∷ (type_lexemes simple t ++ arguments_lexemes more)

  pub elements_lexemes : Tms → List Lexeme
  elements_lexemes no_terms = []
  elements_lexemes (term_and e es) = term_lexemes false e ++ more_elements_lexemes es

  pub more_elements_lexemes : Tms → List Lexeme
  more_elements_lexemes no_terms = []
  more_elements_lexemes (term_and e es) = sign the.Comma ∷ (term_lexemes false e ++ more_elements_lexemes es)

abbrev pub parameter_lexemes : Parameter → List Lexeme
parameter_lexemes p = sign the.Open ∷ lower p.name ∷ sign the.Colon ∷ kind p.kind ∷ sign the.Close ∷ []

abbrev pub fields_lexemes : List Ty → List Lexeme
fields_lexemes = flat_map (type_lexemes simple)

abbrev pub constructor_lexemes : Constructor → List Lexeme
constructor_lexemes x = upper x.name ∷ fields_lexemes x.fields

abbrev pub more_constructor_lexemes : Constructor → List Lexeme
more_constructor_lexemes x = sign the.Bar ∷ constructor_lexemes x

abbrev pub constructors_lexemes : List Constructor → List Lexeme
constructors_lexemes [] = []
constructors_lexemes (x ∷ xs) = constructor_lexemes x ++ flat_map more_constructor_lexemes xs

-- what stands behind the name of a domain with a reset
abbrev pub reset_word : Word
reset_word = record { at = 0; bytes = codes "reset" }

abbrev pub declaration_lexemes : Declaration → List Lexeme
declaration_lexemes (Domain w false) = sign the.Domain ∷ upper w ∷ sign the.Semicolon ∷ []
declaration_lexemes (Domain w true) =
    sign the.Domain ∷ upper w ∷ lower reset_word ∷ sign the.Semicolon ∷ []
declaration_lexemes (Data w ps xs) =
    sign the.Data ∷ upper w ∷ (flat_map parameter_lexemes ps ++ sign the.Equals ∷ (constructors_lexemes xs ++ sign the.Semicolon ∷ []))
declaration_lexemes (Def w t e) =
    sign the.Def ∷ lower w ∷ sign the.Colon ∷ (type_lexemes alone t ++ sign the.Equals ∷ (term_lexemes false e ++ sign the.Semicolon ∷ []))

abbrev pub port_lexemes : Word → List Lexeme
port_lexemes w = sign the.Comma ∷ lower w ∷ []

-- the names with commas between
abbrev pub port_names_lexemes : List Word → List Lexeme
port_names_lexemes [] = []
port_names_lexemes (w ∷ ws) = lower w ∷ flat_map port_lexemes ws

abbrev pub ports_lexemes : List Word → List Lexeme
ports_lexemes ws = sign the.Open ∷ (port_names_lexemes ws ++ sign the.Close ∷ [])

abbrev pub top_lexemes : Top → List Lexeme
top_lexemes x = sign the.Top ∷ lower x.definition ∷ (ports_lexemes x.inputs ++ (ports_lexemes x.outputs ++ sign the.Semicolon ∷ []))

abbrev pub tree_lexemes : Tree → List Lexeme
tree_lexemes t = flat_map declaration_lexemes t.declarations ++ top_lexemes t.top

-- the tokens with a space between two, and a line feed
abbrev pub line : List Lexeme → List ℕ
line [] = 10 ∷ []
line (l ∷ []) = l.bytes ++ 10 ∷ []
line (l ∷ m ∷ ls) = l.bytes ++ 32 ∷ line (m ∷ ls)

abbrev pub declaration_text : Declaration → List ℕ
declaration_text x = line (declaration_lexemes x)

abbrev pub Text : Tree → List ℕ
Text t = flat_map declaration_text t.declarations ++ line (top_lexemes t.top)
