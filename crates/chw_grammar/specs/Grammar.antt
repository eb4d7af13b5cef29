-- The grammar: which tokens make which tree. `XAt x a b` says that the tokens a begin with an X, that x is its tree, and that the
-- tokens b follow it. There is a case for each production.
use Rattle.std.specs.Prelude.{◌≡◌, Bool, true, false, IsTrue, List, [], ◌∷◌, codes}
use Rattle.chw_grammar.specs.declared.type_tree.KindTree.{KindTree}
use Rattle.chw_grammar.specs.declared.terminal.Terminal.{Terminal}
use Rattle.chw_grammar.specs.declared.terminal.Terminal.TheVariants as the
use Rattle.chw_grammar.specs.declared.word.Word.{Word}
use Rattle.chw_grammar.specs.declared.term_tree.Pattern.{Pattern}
use Rattle.chw_grammar.specs.declared.term_tree.Pattern.TheVariants as pattern
use Rattle.chw_grammar.specs.declared.term_tree.Binding.{Binding}
use Rattle.chw_grammar.specs.declared.term_tree.Alternative.{Alternative}
use Rattle.chw_grammar.specs.declared.term_tree.Argument.{Argument}
use Rattle.chw_grammar.specs.declared.term_tree.Argument.TheVariants.{OfTerm, OfType}
use Rattle.chw_grammar.specs.declared.program.Tree.{Tree}
use Rattle.chw_grammar.specs.declared.program.Top.{Top}
use Rattle.chw_grammar.specs.declared.program.Declaration.{Declaration}
use Rattle.chw_grammar.specs.declared.program.Declaration.TheVariants as declaration
use Rattle.chw_grammar.specs.declared.program.Parameter.{Parameter}
use Rattle.chw_grammar.specs.declared.program.Constructor.{Constructor}
use Rattle.chw_grammar.specs.Lexemes.{Lexeme, terminal, kind_terminal, word_of}
use Rattle.chw_grammar.specs.TypeTree.{Ty, type_forall, type_arrow, type_sum, type_product, type_named, type_variable, type_numeral, no_types}
use Rattle.chw_grammar.specs.TypeView.{types_of}
use Rattle.chw_grammar.specs.TermTree.{Tm, term_lambda, term_type_lambda, term_letrec, term_case, term_apply, term_name, term_constructor, term_literal, term_vec}
use Rattle.chw_grammar.specs.TermView.{terms_of, bindings_of, alternatives_of, arguments_of}

-- these keywords and symbols, one after the other
abbrev pub Takes : List Terminal → List Lexeme → List Lexeme → Type 0
Takes [] a b = a ≡ b
Takes (x ∷ xs) [] b = ⊥
Takes (x ∷ xs) (l ∷ a) b = (terminal l ≡ x) × Takes xs a b

-- what is a name, a numeral or a literal
abbrev pub is_lower : Terminal → Bool
is_lower the.Lower = true
is_lower _ = false

abbrev pub is_upper : Terminal → Bool
is_upper the.Upper = true
is_upper the.Nat = true
is_upper the.Dom = true
is_upper the.Val = true
is_upper the.Cir = true
is_upper _ = false

abbrev pub is_numeral : Terminal → Bool
is_numeral the.Numeral = true
is_numeral _ = false

abbrev pub is_literal : Terminal → Bool
is_literal the.Literal = true
is_literal _ = false

-- one token that passes the test, as a word
abbrev pub WordAt : (Terminal → Bool) → Word → List Lexeme → List Lexeme → Type 0
WordAt test w [] b = ⊥
WordAt test w (l ∷ a) b = IsTrue (test (terminal l)) × (w ≡ word_of l) × (a ≡ b)

abbrev pub LowerAt : Word → List Lexeme → List Lexeme → Type 0
LowerAt = WordAt is_lower

abbrev pub UpperAt : Word → List Lexeme → List Lexeme → Type 0
UpperAt = WordAt is_upper

abbrev pub NumeralAt : Word → List Lexeme → List Lexeme → Type 0
NumeralAt = WordAt is_numeral

abbrev pub LiteralAt : Word → List Lexeme → List Lexeme → Type 0
LiteralAt = WordAt is_literal

-- the lower name `reset`, which is no keyword
abbrev pub ResetAt : List Lexeme → List Lexeme → Type 0
ResetAt a b = (w : Word) × LowerAt w a b × (w.bytes ≡ codes "reset")

-- kind = "Nat" | "Dom" | "Val" | "Cir"
abbrev pub KindAt : KindTree → List Lexeme → List Lexeme → Type 0
KindAt k = Takes (kind_terminal k ∷ [])

mutual
  -- type = "forall" "(" l ":" kind ")" "." type | sum ["->" type]
  pub data TypeAt : Ty → List Lexeme → List Lexeme → Type 0 where
    forall_type : {w : Word} {k : KindTree} {t : Ty} {a g : List Lexeme} (b c d e f : List Lexeme)
        → Takes (the.Forall ∷ the.Open ∷ []) a b → LowerAt w b c → Takes (the.Colon ∷ []) c d → KindAt k d e
        → Takes (the.Close ∷ the.Dot ∷ []) e f → TypeAt t f g → TypeAt (type_forall w k t) a g
    sum_type : {t : Ty} {a b : List Lexeme} → SumAt t a b → TypeAt t a b
    arrow_type : {t u : Ty} {a d : List Lexeme} (b c : List Lexeme) → SumAt t a b → Takes (the.Arrow ∷ []) b c → TypeAt u c d → TypeAt (type_arrow t u) a d

  -- sum = prod {"+" prod}
  pub data SumAt : Ty → List Lexeme → List Lexeme → Type 0 where
    one_product : {t : Ty} {a b : List Lexeme} → ProductAt t a b → SumAt t a b
    sum_of : (t u : Ty) (ts : List Ty) {a e : List Lexeme} (b c d : List Lexeme)
        → ProductAt t a b → Takes (the.Plus ∷ []) b c → ProductAt u c d → SummandsAt ts d e → SumAt (type_sum (types_of (t ∷ u ∷ ts))) a e

  -- {"+" prod}
  pub data SummandsAt : List Ty → List Lexeme → List Lexeme → Type 0 where
    no_summand : {a : List Lexeme} → SummandsAt [] a a
    summand : {t : Ty} {ts : List Ty} {a d : List Lexeme} (b c : List Lexeme)
        → Takes (the.Plus ∷ []) a b → ProductAt t b c → SummandsAt ts c d → SummandsAt (t ∷ ts) a d

  -- prod = tapp {"*" tapp}
  pub data ProductAt : Ty → List Lexeme → List Lexeme → Type 0 where
    one_factor : {t : Ty} {a b : List Lexeme} → AppliedAt t a b → ProductAt t a b
    product_of : (t u : Ty) (ts : List Ty) {a e : List Lexeme} (b c d : List Lexeme)
        → AppliedAt t a b → Takes (the.Star ∷ []) b c → AppliedAt u c d → FactorsAt ts d e → ProductAt (type_product (types_of (t ∷ u ∷ ts))) a e

  -- {"*" tapp}
  pub data FactorsAt : List Ty → List Lexeme → List Lexeme → Type 0 where
    no_factor : {a : List Lexeme} → FactorsAt [] a a
    factor : {t : Ty} {ts : List Ty} {a d : List Lexeme} (b c : List Lexeme)
        → Takes (the.Star ∷ []) a b → AppliedAt t b c → FactorsAt ts c d → FactorsAt (t ∷ ts) a d

  -- tapp = U {atype} | atype
  pub data AppliedAt : Ty → List Lexeme → List Lexeme → Type 0 where
    named_type : {w : Word} (ts : List Ty) {a c : List Lexeme} (b : List Lexeme)
        → UpperAt w a b → AtomsAt ts b c → AppliedAt (type_named w (types_of ts)) a c
    atom_type : {t : Ty} {a b : List Lexeme} → AtomAt t a b → AppliedAt t a b

  -- {atype}
  pub data AtomsAt : List Ty → List Lexeme → List Lexeme → Type 0 where
    no_atom : {a : List Lexeme} → AtomsAt [] a a
    atom : {t : Ty} {ts : List Ty} {a c : List Lexeme} (b : List Lexeme) → AtomAt t a b → AtomsAt ts b c → AtomsAt (t ∷ ts) a c

  -- atype = l | U | numeral | "(" type ")"
  pub data AtomAt : Ty → List Lexeme → List Lexeme → Type 0 where
    variable_type : {w : Word} {a b : List Lexeme} → LowerAt w a b → AtomAt (type_variable w) a b
    name_type : {w : Word} {a b : List Lexeme} → UpperAt w a b → AtomAt (type_named w no_types) a b
    numeral_type : {w : Word} {a b : List Lexeme} → NumeralAt w a b → AtomAt (type_numeral w) a b
    bracketed_type : {t : Ty} {a d : List Lexeme} (b c : List Lexeme) → Takes (the.Open ∷ []) a b → TypeAt t b c → Takes (the.Close ∷ []) c d → AtomAt t a d

-- {l}
pub data NamesAt : List Word → List Lexeme → List Lexeme → Type 0 where
  no_name : {a : List Lexeme} → NamesAt [] a a
  name : {w : Word} {ws : List Word} {a c : List Lexeme} (b : List Lexeme) → LowerAt w a b → NamesAt ws b c → NamesAt (w ∷ ws) a c

-- pat = U {l} | literal, or "_"
pub data PatternAt : Pattern → List Lexeme → List Lexeme → Type 0 where
  constructor_pattern : {w : Word} {ws : List Word} {a c : List Lexeme} (b : List Lexeme)
      → UpperAt w a b → NamesAt ws b c → PatternAt (pattern.Constructor w ws) a c
  literal_pattern : {w : Word} {a b : List Lexeme} → LiteralAt w a b → PatternAt (pattern.Literal w) a b

mutual
  -- term = "\" "(" l ":" type ")" "." term | "/\" "(" l ":" kind ")" "." term | "letrec" "{" {l ":" type "=" term ";"} "}" "in" term
  --      | "case" term "of" "{" {pat "->" term ";"} ["_" "->" term ";"] "}" | app
  pub data TermAt : Tm → List Lexeme → List Lexeme → Type 0 where
    lambda : {w : Word} {t : Ty} {e : Tm} {a h : List Lexeme} (b c d f g : List Lexeme)
        → Takes (the.Lambda ∷ the.Open ∷ []) a b → LowerAt w b c → Takes (the.Colon ∷ []) c d → TypeAt t d f
        → Takes (the.Close ∷ the.Dot ∷ []) f g → TermAt e g h → TermAt (term_lambda w t e) a h
    type_lambda : {w : Word} {k : KindTree} {e : Tm} {a h : List Lexeme} (b c d f g : List Lexeme)
        → Takes (the.TypeLambda ∷ the.Open ∷ []) a b → LowerAt w b c → Takes (the.Colon ∷ []) c d → KindAt k d f
        → Takes (the.Close ∷ the.Dot ∷ []) f g → TermAt e g h → TermAt (term_type_lambda w k e) a h
    letrec : (bs : List Binding) {e : Tm} {a f : List Lexeme} (b c d : List Lexeme)
        → Takes (the.Letrec ∷ the.OpenBrace ∷ []) a b → BindingsAt bs b c → Takes (the.CloseBrace ∷ the.In ∷ []) c d
        → TermAt e d f → TermAt (term_letrec (bindings_of bs) e) a f
    case_of : {e : Tm} (alts : List Alternative) {a g : List Lexeme} (b c d f : List Lexeme)
        → Takes (the.Case ∷ []) a b → TermAt e b c → Takes (the.Of ∷ the.OpenBrace ∷ []) c d → AlternativesAt alts d f
        → Takes (the.CloseBrace ∷ []) f g → TermAt (term_case e (alternatives_of alts)) a g
    application : {e : Tm} {a b : List Lexeme} → ApplicationAt e a b → TermAt e a b

  -- {l ":" type "=" term ";"}
  pub data BindingsAt : List Binding → List Lexeme → List Lexeme → Type 0 where
    no_binding : {a : List Lexeme} → BindingsAt [] a a
    binding : {w : Word} {t : Ty} {e : Tm} {bs : List Binding} {a i : List Lexeme} (b c d f g h : List Lexeme)
        → LowerAt w a b → Takes (the.Colon ∷ []) b c → TypeAt t c d → Takes (the.Equals ∷ []) d f → TermAt e f g
        → Takes (the.Semicolon ∷ []) g h → BindingsAt bs h i → BindingsAt (record { name = w; ty = t; term = e } ∷ bs) a i

  -- {pat "->" term ";"} ["_" "->" term ";"]
  pub data AlternativesAt : List Alternative → List Lexeme → List Lexeme → Type 0 where
    no_alternative : {a : List Lexeme} → AlternativesAt [] a a
    alternative : {q : Pattern} {e : Tm} {alts : List Alternative} {a g : List Lexeme} (b c d f : List Lexeme)
        → PatternAt q a b → Takes (the.Arrow ∷ []) b c → TermAt e c d → Takes (the.Semicolon ∷ []) d f
        → AlternativesAt alts f g → AlternativesAt (record { pattern = q; term = e } ∷ alts) a g
    default : {e : Tm} {a d : List Lexeme} (b c : List Lexeme)
        → Takes (the.Underscore ∷ the.Arrow ∷ []) a b → TermAt e b c → Takes (the.Semicolon ∷ []) c d
        → AlternativesAt (record { pattern = pattern.Default; term = e } ∷ []) a d

  -- app = aterm {aterm | "@" atype}
  pub data ApplicationAt : Tm → List Lexeme → List Lexeme → Type 0 where
    head_alone : {e : Tm} {a b : List Lexeme} → SimpleAt e a b → ApplicationAt e a b
    applied : {e : Tm} (x : Argument) (args : List Argument) {a d : List Lexeme} (b c : List Lexeme)
        → SimpleAt e a b → ArgumentAt x b c → ArgumentsAt args c d → ApplicationAt (term_apply e (arguments_of (x ∷ args))) a d

  -- {aterm | "@" atype}
  pub data ArgumentsAt : List Argument → List Lexeme → List Lexeme → Type 0 where
    no_argument : {a : List Lexeme} → ArgumentsAt [] a a
    argument : {x : Argument} {args : List Argument} {a c : List Lexeme} (b : List Lexeme)
        → ArgumentAt x a b → ArgumentsAt args b c → ArgumentsAt (x ∷ args) a c

  -- aterm | "@" atype
  pub data ArgumentAt : Argument → List Lexeme → List Lexeme → Type 0 where
    term_argument : {e : Tm} {a b : List Lexeme} → SimpleAt e a b → ArgumentAt (OfTerm e) a b
    type_argument : {t : Ty} {a c : List Lexeme} (b : List Lexeme) → Takes (the.At ∷ []) a b → AtomAt t b c → ArgumentAt (OfType t) a c

  -- aterm = l | U | literal | "vec" "@" atype "[" [term {"," term}] "]" | "(" term ")"
  pub data SimpleAt : Tm → List Lexeme → List Lexeme → Type 0 where
    name_term : {w : Word} {a b : List Lexeme} → LowerAt w a b → SimpleAt (term_name w) a b
    constructor_term : {w : Word} {a b : List Lexeme} → UpperAt w a b → SimpleAt (term_constructor w) a b
    literal_term : {w : Word} {a b : List Lexeme} → LiteralAt w a b → SimpleAt (term_literal w) a b
    vec_term : {t : Ty} (es : List Tm) {a g : List Lexeme} (b c d f : List Lexeme)
        → Takes (the.Vec ∷ the.At ∷ []) a b → AtomAt t b c → Takes (the.OpenBracket ∷ []) c d → ElementsAt es d f
        → Takes (the.CloseBracket ∷ []) f g → SimpleAt (term_vec t (terms_of es)) a g
    bracketed_term : {e : Tm} {a d : List Lexeme} (b c : List Lexeme)
        → Takes (the.Open ∷ []) a b → TermAt e b c → Takes (the.Close ∷ []) c d → SimpleAt e a d

  -- [term {"," term}]
  pub data ElementsAt : List Tm → List Lexeme → List Lexeme → Type 0 where
    no_element : {a : List Lexeme} → ElementsAt [] a a
    elements : {e : Tm} {es : List Tm} {a c : List Lexeme} (b : List Lexeme) → TermAt e a b → MoreElementsAt es b c → ElementsAt (e ∷ es) a c

  -- {"," term}
  pub data MoreElementsAt : List Tm → List Lexeme → List Lexeme → Type 0 where
    no_more_element : {a : List Lexeme} → MoreElementsAt [] a a
    element : {e : Tm} {es : List Tm} {a d : List Lexeme} (b c : List Lexeme)
        → Takes (the.Comma ∷ []) a b → TermAt e b c → MoreElementsAt es c d → MoreElementsAt (e ∷ es) a d

-- {"(" l ":" kind ")"}
pub data ParametersAt : List Parameter → List Lexeme → List Lexeme → Type 0 where
  no_parameter : {a : List Lexeme} → ParametersAt [] a a
  parameter : {w : Word} {k : KindTree} {ps : List Parameter} {a g : List Lexeme} (b c d e f : List Lexeme)
      → Takes (the.Open ∷ []) a b → LowerAt w b c → Takes (the.Colon ∷ []) c d → KindAt k d e → Takes (the.Close ∷ []) e f
      → ParametersAt ps f g → ParametersAt (record { name = w; kind = k } ∷ ps) a g

-- U {atype}
pub data ConstructorAt : Constructor → List Lexeme → List Lexeme → Type 0 where
  constructor : {w : Word} {ts : List Ty} {a c : List Lexeme} (b : List Lexeme)
      → UpperAt w a b → AtomsAt ts b c → ConstructorAt (record { name = w; fields = ts }) a c

-- {"|" U {atype}}
pub data ConstructorsAt : List Constructor → List Lexeme → List Lexeme → Type 0 where
  no_constructor : {a : List Lexeme} → ConstructorsAt [] a a
  one_more : {x : Constructor} {xs : List Constructor} {a d : List Lexeme} (b c : List Lexeme)
      → Takes (the.Bar ∷ []) a b → ConstructorAt x b c → ConstructorsAt xs c d → ConstructorsAt (x ∷ xs) a d

-- decl = "domain" U ["reset"] ";" | "def" l ":" type "=" term ";"
--      | "data" U {"(" l ":" kind ")"} "=" U {atype} {"|" U {atype}} ";"
pub data DeclarationAt : Declaration → List Lexeme → List Lexeme → Type 0 where
  domain_declared : {w : Word} {a d : List Lexeme} (b c : List Lexeme)
      → Takes (the.Domain ∷ []) a b → UpperAt w b c → Takes (the.Semicolon ∷ []) c d
      → DeclarationAt (declaration.Domain w false) a d
  reset_declared : {w : Word} {a e : List Lexeme} (b c d : List Lexeme)
      → Takes (the.Domain ∷ []) a b → UpperAt w b c → ResetAt c d → Takes (the.Semicolon ∷ []) d e
      → DeclarationAt (declaration.Domain w true) a e
  definition_declared : {w : Word} {t : Ty} {e : Tm} {a i : List Lexeme} (b c d f g h : List Lexeme)
      → Takes (the.Def ∷ []) a b → LowerAt w b c → Takes (the.Colon ∷ []) c d → TypeAt t d f → Takes (the.Equals ∷ []) f g
      → TermAt e g h → Takes (the.Semicolon ∷ []) h i → DeclarationAt (declaration.Def w t e) a i
  data_declared : {w : Word} {ps : List Parameter} {x : Constructor} {xs : List Constructor} {a h : List Lexeme} (b c d e f g : List Lexeme)
      → Takes (the.Data ∷ []) a b → UpperAt w b c → ParametersAt ps c d → Takes (the.Equals ∷ []) d e → ConstructorAt x e f
      → ConstructorsAt xs f g → Takes (the.Semicolon ∷ []) g h → DeclarationAt (declaration.Data w ps (x ∷ xs)) a h

-- {decl}
pub data DeclarationsAt : List Declaration → List Lexeme → List Lexeme → Type 0 where
  no_declaration : {a : List Lexeme} → DeclarationsAt [] a a
  declared : {x : Declaration} {xs : List Declaration} {a c : List Lexeme} (b : List Lexeme)
      → DeclarationAt x a b → DeclarationsAt xs b c → DeclarationsAt (x ∷ xs) a c

-- {"," l}
pub data MorePortsAt : List Word → List Lexeme → List Lexeme → Type 0 where
  no_port : {a : List Lexeme} → MorePortsAt [] a a
  port : {w : Word} {ws : List Word} {a d : List Lexeme} (b c : List Lexeme)
      → Takes (the.Comma ∷ []) a b → LowerAt w b c → MorePortsAt ws c d → MorePortsAt (w ∷ ws) a d

-- "(" l {"," l} ")"
pub data PortsAt : List Word → List Lexeme → List Lexeme → Type 0 where
  ports : {w : Word} {ws : List Word} {a e : List Lexeme} (b c d : List Lexeme)
      → Takes (the.Open ∷ []) a b → LowerAt w b c → MorePortsAt ws c d → Takes (the.Close ∷ []) d e → PortsAt (w ∷ ws) a e

-- [l {"," l}]
pub data InputNamesAt : List Word → List Lexeme → List Lexeme → Type 0 where
  no_input : {a : List Lexeme} → InputNamesAt [] a a
  input_names : {w : Word} {ws : List Word} {a c : List Lexeme} (b : List Lexeme) → LowerAt w a b → MorePortsAt ws b c → InputNamesAt (w ∷ ws) a c

-- "(" [l {"," l}] ")"
pub data InputsAt : List Word → List Lexeme → List Lexeme → Type 0 where
  inputs : {ws : List Word} {a d : List Lexeme} (b c : List Lexeme)
      → Takes (the.Open ∷ []) a b → InputNamesAt ws b c → Takes (the.Close ∷ []) c d → InputsAt ws a d

-- "top" l "(" [l {"," l}] ")" "(" l {"," l} ")" ";"
pub data TopAt : Top → List Lexeme → List Lexeme → Type 0 where
  top : {w : Word} {ins outs : List Word} {a f : List Lexeme} (b c d e : List Lexeme)
      → Takes (the.Top ∷ []) a b → LowerAt w b c → InputsAt ins c d → PortsAt outs d e → Takes (the.Semicolon ∷ []) e f
      → TopAt (record { definition = w; inputs = ins; outputs = outs }) a f

-- program = {decl} "top" l "(" [l {"," l}] ")" "(" l {"," l} ")" ";"
pub record Reads (lexemes : List Lexeme) (tree : Tree) : Type 0 where
  pub last : List Lexeme
  pub declared : DeclarationsAt tree.declarations lexemes last
  pub topped : TopAt tree.top last []
