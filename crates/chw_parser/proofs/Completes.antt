-- A fine stack can be read to its end.
use Rattle.std.specs.Prelude.{◌≡◌, ℕ, suc, false, IsTrue, Some, List, [], ◌∷◌, codes, refl}
use Rattle.std.proofs.Common.{ap, ◌∙◌}
use Rattle.chw_lexer.specs.declared.token.Sort.{Sort}
use Rattle.chw_lexer.specs.declared.token.Sort.TheVariants as sorts
use Rattle.chw_grammar.specs.declared.type_tree.KindTree.TheVariants as kinds
use Rattle.chw_grammar.specs.declared.terminal.Terminal.{Terminal}
use Rattle.chw_grammar.specs.declared.terminal.Terminal.TheVariants as the
use Rattle.chw_grammar.specs.Lexemes.{Lexeme, terminal, next}
use Rattle.chw_grammar.specs.Text.{lower, reset_word}
use Rattle.chw_parser.specs.declared.symbol.Symbol.{Symbol}
use Rattle.chw_parser.specs.declared.symbol.Symbol.TheVariants.{Token, Word, Kind, Reset, Part, Act}
use Rattle.chw_parser.specs.declared.symbol.WordSort.{WordSort}
use Rattle.chw_parser.specs.declared.symbol.WordSort.TheVariants as sort
use Rattle.chw_parser.specs.declared.symbol.Rule.{Rule}
use Rattle.chw_parser.specs.declared.symbol.Rule.TheVariants as rule
use Rattle.parser_parts.specs.declared.action.Action.{Action}
use Rattle.chw_parser.specs.Follow.{after_product}
use Rattle.chw_parser.specs.Ending.{goes_on, begins, word_terminal, first, is_end, Fine}
use Rattle.chw_parser.specs.Machine.{is_word, Reading, end, on_token, on_word, on_kind, on_reset, on_part, on_act}
use Rattle.chw_parser.specs.Productions.{production}
use Rattle.chw_parser.proofs.Choices.{no_arrow, type_sum, sum_product, no_plus, no_more_plus, no_star, no_more_star, no_atom, no_argument, no_more_argument, no_field}

-- a token of each terminal
abbrev pub sample_bytes : Terminal → List ℕ
sample_bytes the.Domain = codes "domain"
sample_bytes the.Data = codes "data"
sample_bytes the.Def = codes "def"
sample_bytes the.Top = codes "top"
sample_bytes the.Letrec = codes "letrec"
sample_bytes the.In = codes "in"
sample_bytes the.Case = codes "case"
sample_bytes the.Of = codes "of"
sample_bytes the.Forall = codes "forall"
sample_bytes the.Vec = codes "vec"
sample_bytes the.Semicolon = codes ";"
sample_bytes the.Colon = codes ":"
sample_bytes the.Equals = codes "="
sample_bytes the.Bar = codes "|"
sample_bytes the.Open = codes "("
sample_bytes the.Close = codes ")"
sample_bytes the.OpenBrace = codes "{"
sample_bytes the.CloseBrace = codes "}"
sample_bytes the.OpenBracket = codes "["
sample_bytes the.CloseBracket = codes "]"
sample_bytes the.Comma = codes ","
sample_bytes the.Dot = codes "."
sample_bytes the.Lambda = codes "\\"
sample_bytes the.TypeLambda = codes "/\\"
sample_bytes the.At = codes "@"
sample_bytes the.Arrow = codes "->"
sample_bytes the.Plus = codes "+"
sample_bytes the.Star = codes "*"
sample_bytes the.Underscore = codes "_"
sample_bytes the.Lower = codes "a"
sample_bytes the.Upper = codes "A"
sample_bytes the.Nat = codes "Nat"
sample_bytes the.Dom = codes "Dom"
sample_bytes the.Val = codes "Val"
sample_bytes the.Cir = codes "Cir"
sample_bytes the.Numeral = codes "0"
sample_bytes the.Literal = codes "0u0"
sample_bytes the.End = codes "0"

abbrev pub sample_sort : Terminal → Sort
sample_sort the.Domain = sorts.Key
sample_sort the.Data = sorts.Key
sample_sort the.Def = sorts.Key
sample_sort the.Top = sorts.Key
sample_sort the.Letrec = sorts.Key
sample_sort the.In = sorts.Key
sample_sort the.Case = sorts.Key
sample_sort the.Of = sorts.Key
sample_sort the.Forall = sorts.Key
sample_sort the.Vec = sorts.Key
sample_sort the.Semicolon = sorts.Symbol
sample_sort the.Colon = sorts.Symbol
sample_sort the.Equals = sorts.Symbol
sample_sort the.Bar = sorts.Symbol
sample_sort the.Open = sorts.Symbol
sample_sort the.Close = sorts.Symbol
sample_sort the.OpenBrace = sorts.Symbol
sample_sort the.CloseBrace = sorts.Symbol
sample_sort the.OpenBracket = sorts.Symbol
sample_sort the.CloseBracket = sorts.Symbol
sample_sort the.Comma = sorts.Symbol
sample_sort the.Dot = sorts.Symbol
sample_sort the.Lambda = sorts.Symbol
sample_sort the.TypeLambda = sorts.Symbol
sample_sort the.At = sorts.Symbol
sample_sort the.Arrow = sorts.Symbol
sample_sort the.Plus = sorts.Symbol
sample_sort the.Star = sorts.Symbol
sample_sort the.Underscore = sorts.Symbol
sample_sort the.Lower = sorts.Lower
sample_sort the.Upper = sorts.Upper
sample_sort the.Nat = sorts.Upper
sample_sort the.Dom = sorts.Upper
sample_sort the.Val = sorts.Upper
sample_sort the.Cir = sorts.Upper
sample_sort the.Numeral = sorts.Numeral
sample_sort the.Literal = sorts.Literal
sample_sort the.End = sorts.Numeral

abbrev pub sample : Terminal → Lexeme
sample x = record { sort = sample_sort x; at = 0; bytes = sample_bytes x }

sample_is : (x : Terminal) → is_end x ≡ false → terminal (sample x) ≡ x
sample_is the.Domain h = refl
sample_is the.Data h = refl
sample_is the.Def h = refl
sample_is the.Top h = refl
sample_is the.Letrec h = refl
sample_is the.In h = refl
sample_is the.Case h = refl
sample_is the.Of h = refl
sample_is the.Forall h = refl
sample_is the.Vec h = refl
sample_is the.Semicolon h = refl
sample_is the.Colon h = refl
sample_is the.Equals h = refl
sample_is the.Bar h = refl
sample_is the.Open h = refl
sample_is the.Close h = refl
sample_is the.OpenBrace h = refl
sample_is the.CloseBrace h = refl
sample_is the.OpenBracket h = refl
sample_is the.CloseBracket h = refl
sample_is the.Comma h = refl
sample_is the.Dot h = refl
sample_is the.Lambda h = refl
sample_is the.TypeLambda h = refl
sample_is the.At h = refl
sample_is the.Arrow h = refl
sample_is the.Plus h = refl
sample_is the.Star h = refl
sample_is the.Underscore h = refl
sample_is the.Lower h = refl
sample_is the.Upper h = refl
sample_is the.Nat h = refl
sample_is the.Dom h = refl
sample_is the.Val h = refl
sample_is the.Cir h = refl
sample_is the.Numeral h = refl
sample_is the.Literal h = refl
sample_is the.End h = cc

word_sample : (x : WordSort) → IsTrue (is_word x (terminal (sample (word_terminal x))))
word_sample sort.Lower = refl
word_sample sort.Upper = refl
word_sample sort.Numeral = refl
word_sample sort.Literal = refl

word_sample_is : (x : WordSort) → terminal (sample (word_terminal x)) ≡ word_terminal x
word_sample_is sort.Lower = refl
word_sample_is sort.Upper = refl
word_sample_is sort.Numeral = refl
word_sample_is sort.Literal = refl

-- some tokens, which begin with this terminal, are read
pub record Read (s : List Symbol) (x : Terminal) : Type 0 where
  pub tokens : List Lexeme
  pub steps : ℕ
  pub reading : Reading steps s tokens
  pub begin : next tokens ≡ x

-- by the rule, before tokens that would not go on with it

lower_then : (x : Rule) (m : Action) {n : ℕ} {s : List Symbol} {a : List Lexeme} → production x the.Lower ≡ Some (Word sort.Lower ∷ Act m ∷ [])
    → Reading n s a → Reading (suc (suc (suc n))) (Part x ∷ s) (sample the.Lower ∷ a)
lower_then x m e r = on_part (Word sort.Lower ∷ Act m ∷ []) e (on_word refl (on_act r))

no_parameter : (x : Terminal) → goes_on rule.Parameters x ≡ false → production rule.Parameters x ≡ Some []
no_parameter the.Open h = cc
no_parameter _ h = refl

no_constructor : (x : Terminal) → goes_on rule.Constructors x ≡ false → production rule.Constructors x ≡ Some []
no_constructor the.Bar h = cc
no_constructor _ h = refl

no_inputs : (x : Terminal) → goes_on rule.Inputs x ≡ false → production rule.Inputs x ≡ Some []
no_inputs the.Close h = refl
no_inputs _ h = cc

no_port : (x : Terminal) → goes_on rule.Ports x ≡ false → production rule.Ports x ≡ Some []
no_port the.Comma h = cc
no_port _ h = refl

no_binding : (x : Terminal) → goes_on rule.Bindings x ≡ false → production rule.Bindings x ≡ Some []
no_binding the.Lower h = cc
no_binding _ h = refl

no_alternative : (x : Terminal) → goes_on rule.Alternatives x ≡ false → production rule.Alternatives x ≡ Some []
no_alternative the.Upper h = cc
no_alternative the.Nat h = cc
no_alternative the.Dom h = cc
no_alternative the.Val h = cc
no_alternative the.Cir h = cc
no_alternative the.Literal h = cc
no_alternative the.Underscore h = cc
no_alternative _ h = refl

no_element : (x : Terminal) → goes_on rule.Elements x ≡ false → production rule.Elements x ≡ Some []
no_element the.CloseBracket h = refl
no_element _ h = cc

no_more_element : (x : Terminal) → goes_on rule.MoreElements x ≡ false → production rule.MoreElements x ≡ Some []
no_more_element the.Comma h = cc
no_more_element _ h = refl

empty : {x : Rule} {n : ℕ} {s : List Symbol} {a : List Lexeme} → Reading n s a → production x (next a) ≡ Some [] → Reading (suc n) (Part x ∷ s) a
empty r e = on_part [] e r

acted : {x : Rule} {n : ℕ} {s : List Symbol} {a : List Lexeme} (m : Action) → Reading n s a → production x (next a) ≡ Some (Act m ∷ []) → Reading (suc (suc n)) (Part x ∷ s) a
acted m r e = on_part (Act m ∷ []) e (on_act r)

declarations_read : {n : ℕ} {s : List Symbol} {a : List Lexeme} → Reading n s a → Read (Part rule.Declarations ∷ s) the.Top
declarations_read {a = a} r =
    let w = sample the.Lower in let o = sample the.Open in let c = sample the.Close in
    record {
      tokens = sample the.Top ∷ w ∷ o ∷ c ∷ o ∷ w ∷ c ∷ sample the.Semicolon ∷ a;
      steps = _;
      reading = on_part _ refl (on_token refl (on_word refl (on_token refl (on_act (on_part [] refl (on_token refl
          (on_token refl (on_act (on_word refl (on_act (on_part [] refl (on_token refl (on_token refl (on_act r))))))))))))));
      begin = refl;
    }

product_read : {n : ℕ} {s : List Symbol} {a : List Lexeme} → Reading n s a → after_product (next a) ≡ false → Reading (suc (suc (suc (suc (suc (suc n)))))) (Part rule.Product ∷ s) (sample the.Lower ∷ a)
product_read {a = a} r h = on_part _ refl (on_part _ refl (lower_then rule.Atom _ refl (empty r (no_star (next a) h))))

rule_read : (x : Rule) {n : ℕ} {s : List Symbol} (a : List Lexeme) → Reading n s a → goes_on x (next a) ≡ false → Read (Part x ∷ s) (begins x (next a))
rule_read rule.Program a r h =
    let d = declarations_read r in
    record { tokens = d.tokens; steps = _; reading = on_part _ refl (on_act d.reading); begin = d.begin }
rule_read rule.Declarations a r h = declarations_read r
rule_read rule.DomainEnd a r h = record { tokens = sample the.Semicolon ∷ a; steps = _; reading = on_part _ refl (on_token refl (on_act r)); begin = refl }
rule_read rule.Parameters a r h = record { tokens = a; steps = _; reading = empty r (no_parameter (next a) h); begin = refl }
rule_read rule.Constructor a r h =
    record { tokens = sample the.Upper ∷ a; steps = _; reading = on_part _ refl (on_word refl (on_act (empty (on_act r) (no_atom (next a) h)))); begin = refl }
rule_read rule.Constructors a r h = record { tokens = a; steps = _; reading = empty r (no_constructor (next a) h); begin = refl }
rule_read rule.Atoms a r h = record { tokens = a; steps = _; reading = empty r (no_atom (next a) h); begin = refl }
rule_read rule.Inputs a r h = record { tokens = a; steps = _; reading = empty r (no_inputs (next a) h); begin = refl }
rule_read rule.Ports a r h = record { tokens = a; steps = _; reading = empty r (no_port (next a) h); begin = refl }
rule_read rule.Fields a r h = record { tokens = a; steps = _; reading = empty r (no_field (next a) h); begin = refl }
rule_read rule.Type a r h =
    record { tokens = sample the.Lower ∷ a; steps = _; reading = on_part _ refl (product_read (empty (empty r (no_arrow (next a) h)) (no_plus (next a) (type_sum (next a) h))) (sum_product (next a) (type_sum (next a) h))); begin = refl }
rule_read rule.ArrowTail a r h = record { tokens = a; steps = _; reading = empty r (no_arrow (next a) h); begin = refl }
rule_read rule.SumTail a r h = record { tokens = a; steps = _; reading = empty r (no_plus (next a) h); begin = refl }
rule_read rule.SumMore a r h = record { tokens = a; steps = _; reading = acted _ r (no_more_plus (next a) h); begin = refl }
rule_read rule.Product a r h = record { tokens = sample the.Lower ∷ a; steps = _; reading = product_read r h; begin = refl }
rule_read rule.ProductTail a r h = record { tokens = a; steps = _; reading = empty r (no_star (next a) h); begin = refl }
rule_read rule.ProductMore a r h = record { tokens = a; steps = _; reading = acted _ r (no_more_star (next a) h); begin = refl }
rule_read rule.Applied a r h = record { tokens = sample the.Lower ∷ a; steps = _; reading = on_part _ refl (lower_then rule.Atom _ refl r); begin = refl }
rule_read rule.Atom a r h = record { tokens = sample the.Lower ∷ a; steps = _; reading = lower_then rule.Atom _ refl r; begin = refl }
rule_read rule.Term a r h =
    record { tokens = sample the.Lower ∷ a; steps = _; reading = on_part _ refl (lower_then rule.Simple _ refl (empty r (no_argument (next a) h))); begin = refl }
rule_read rule.Bindings a r h = record { tokens = a; steps = _; reading = empty r (no_binding (next a) h); begin = refl }
rule_read rule.Alternatives a r h = record { tokens = a; steps = _; reading = empty r (no_alternative (next a) h); begin = refl }
rule_read rule.ApplyTail a r h = record { tokens = a; steps = _; reading = empty r (no_argument (next a) h); begin = refl }
rule_read rule.Arguments a r h = record { tokens = a; steps = _; reading = acted _ r (no_more_argument (next a) h); begin = refl }
rule_read rule.Argument a r h =
    record { tokens = sample the.Lower ∷ a; steps = _; reading = on_part _ refl (lower_then rule.Simple _ refl (on_act r)); begin = refl }
rule_read rule.Simple a r h = record { tokens = sample the.Lower ∷ a; steps = _; reading = lower_then rule.Simple _ refl r; begin = refl }
rule_read rule.Elements a r h = record { tokens = a; steps = _; reading = empty r (no_element (next a) h); begin = refl }
rule_read rule.MoreElements a r h = record { tokens = a; steps = _; reading = empty r (no_more_element (next a) h); begin = refl }

pub completes : (s : List Symbol) → Fine s → Read s (first s)
completes [] f = record { tokens = []; steps = 0; reading = end; begin = refl }
completes (Token x ∷ s) f =
    let c = completes s f.1 in
    record { tokens = sample x ∷ c.tokens; steps = suc c.steps; reading = on_token (sample_is x f.0) c.reading; begin = sample_is x f.0 }
completes (Word x ∷ s) f =
    let c = completes s f in
    record { tokens = sample (word_terminal x) ∷ c.tokens; steps = suc c.steps; reading = on_word (word_sample x) c.reading; begin = word_sample_is x }
completes (Kind ∷ s) f =
    let c = completes s f in
    record { tokens = sample the.Nat ∷ c.tokens; steps = suc c.steps; reading = on_kind kinds.Nat refl c.reading; begin = refl }
completes (Reset ∷ s) f =
    let c = completes s f in
    record { tokens = lower reset_word ∷ c.tokens; steps = suc c.steps; reading = on_reset (refl, refl) c.reading; begin = refl }
completes (Part x ∷ s) f =
    let c = completes s f.1 in
    let g = rule_read x c.tokens c.reading (ap (goes_on x) c.begin ∙ f.0) in
    record { tokens = g.tokens; steps = g.steps; reading = g.reading; begin = g.begin ∙ ap (begins x) c.begin }
completes (Act x ∷ s) f =
    let c = completes s f in
    record { tokens = c.tokens; steps = suc c.steps; reading = on_act c.reading; begin = c.begin }
