-- Trees that agree in all but places have one canonical text.
use Rattle.std.specs.Prelude.{◌≡◌, ℕ, Bool, true, false, List, [], ◌∷◌, ◌++◌, map, refl}
use Rattle.std.specs.List.{flat_map}
use Rattle.std.proofs.Common.{sym, ap, ◌∙◌}
use Rattle.chw_lexer.specs.declared.token.Sort.{Sort}
use Rattle.chw_lexer.specs.declared.token.Sort.TheVariants as sort
use Rattle.chw_grammar.specs.declared.type_tree.KindTree.{KindTree}
use Rattle.chw_grammar.specs.declared.word.Word.{Word}
use Rattle.chw_grammar.specs.declared.stand.Stand.{Stand}
use Rattle.chw_grammar.specs.declared.stand.Stand.TheVariants.{Alone, Left, Summand, Factor, Simple}
use Rattle.chw_grammar.specs.declared.terminal.Terminal.{Terminal}
use Rattle.chw_grammar.specs.declared.terminal.Terminal.TheVariants as the
use Rattle.chw_grammar.specs.declared.term_tree.Pattern.{Pattern}
use Rattle.chw_grammar.specs.declared.term_tree.Pattern.TheVariants as pattern
use Rattle.chw_grammar.specs.declared.program.Tree.{Tree}
use Rattle.chw_grammar.specs.declared.program.Top.{Top}
use Rattle.chw_grammar.specs.declared.program.Declaration.{Declaration}
use Rattle.chw_grammar.specs.declared.program.Declaration.TheVariants.{Domain, Data, Def}
use Rattle.chw_grammar.specs.declared.program.Parameter.{Parameter}
use Rattle.chw_grammar.specs.declared.program.Constructor.{Constructor}
use Rattle.chw_grammar.specs.Lexemes.{Lexeme, kind_terminal}
use Rattle.chw_grammar.specs.TypeTree.{Ty, type_forall, type_arrow, type_sum, type_product, type_named, type_variable, type_numeral, Tys, no_types, type_and}
use Rattle.chw_grammar.specs.TermTree.{Tm, term_lambda, term_type_lambda, term_letrec, term_case, term_apply, term_name, term_constructor, term_literal, term_vec, Tms, no_terms, term_and, Bindings, no_bindings, binding_and, Alternatives, no_alternatives, alternative_and, Arguments, no_arguments, argument_and, type_argument_and}
use Rattle.chw_grammar.specs.Text.{as_token, sign, kind, lowers, closed, closes_arrow, closes_sum, closes_product, closes_named, type_lexemes, parts_lexemes, more_lexemes, types_lexemes, pattern_lexemes, term_lexemes, bindings_lexemes, alternatives_lexemes, arguments_lexemes, elements_lexemes, more_elements_lexemes, parameter_lexemes, fields_lexemes, constructor_lexemes, more_constructor_lexemes, constructors_lexemes, reset_word, declaration_lexemes, port_lexemes, ports_lexemes, top_lexemes, line, declaration_text, Text}
use Rattle.chw_grammar.specs.Places.{bare_word, bare_words, bare_type, bare_types, bare_pattern, bare_term, bare_terms, bare_bindings, bare_alternatives, bare_arguments, bare_parameter, bare_constructor, bare_declaration, bare_top, bare_tree, Same}

-- a token without its place
abbrev pub bare_lexeme : Lexeme → Lexeme
bare_lexeme l = record { sort = l.sort; at = 0; bytes = l.bytes }

-- the first tokens are the second ones without their places
pub record Bared (a b : List Lexeme) : Type 0 where
  pub is : a ≡ map bare_lexeme b

none : Bared [] []
none = record { is = refl }

sign_and : (x : Terminal) {a b : List Lexeme} → Bared a b → Bared (sign x ∷ a) (sign x ∷ b)
sign_and x h = record { is = ap (λ (z : List Lexeme). sign x ∷ z) h.is }

word_and : (s : Sort) (w : Word) {a b : List Lexeme} → Bared a b → Bared (as_token s (bare_word w) ∷ a) (as_token s w ∷ b)
word_and s w h = record { is = ap (λ (z : List Lexeme). as_token s (bare_word w) ∷ z) h.is }

map_append : (a b : List Lexeme) → map bare_lexeme a ++ map bare_lexeme b ≡ map bare_lexeme (a ++ b)
map_append [] b = refl
map_append (l ∷ a) b = ap (λ (z : List Lexeme). bare_lexeme l ∷ z) (map_append a b)

both : {a b c d : List Lexeme} → Bared a b → Bared c d → Bared (a ++ c) (b ++ d)
both {b = b} {d = d} one two = record { is = (λ i. one.is i ++ two.is i) ∙ map_append b d }

within : (v : Bool) {a b : List Lexeme} → Bared a b → Bared (closed v a) (closed v b)
within true h = sign_and the.Open (both h (sign_and the.Close none))
within false h = h

kind_and : (k : KindTree) {a b : List Lexeme} → Bared a b → Bared (kind k ∷ a) (kind k ∷ b)
kind_and k h = sign_and (kind_terminal k) h

-- a name with arguments
named_within : (p : Stand) (t u : Ty) (ts us : Tys) {a b : List Lexeme} → Bared a b → Bared (closed (closes_named p (type_and t ts)) a) (closed (closes_named p (type_and u us)) b)
named_within Simple t u ts us h = within true h
named_within Alone t u ts us h = h
named_within Left t u ts us h = h
named_within Summand t u ts us h = h
named_within Factor t u ts us h = h

mutual
  type_bared : (p : Stand) (t : Ty) → Bared (type_lexemes p (bare_type t)) (type_lexemes p t)
  type_bared p (type_forall w k t) =
      within (closes_arrow p) (sign_and the.Forall (sign_and the.Open (word_and sort.Lower w (sign_and the.Colon (kind_and k (sign_and the.Close (sign_and the.Dot (type_bared Alone t))))))))
  type_bared p (type_arrow a b) = within (closes_arrow p) (both (type_bared Left a) (sign_and the.Arrow (type_bared Alone b)))
  type_bared p (type_sum ts) = within (closes_sum p) (parts_bared Summand the.Plus ts)
  type_bared p (type_product ts) = within (closes_product p) (parts_bared Factor the.Star ts)
  type_bared p (type_named w no_types) = within (closes_named p no_types) (word_and sort.Upper w none)
  type_bared p (type_named w (type_and t ts)) = named_within p (bare_type t) t (bare_types ts) ts (word_and sort.Upper w (both (type_bared Simple t) (types_bared ts)))
  type_bared p (type_variable w) = word_and sort.Lower w none
  type_bared p (type_numeral w) = word_and sort.Numeral w none

  parts_bared : (p : Stand) (x : Terminal) (ts : Tys) → Bared (parts_lexemes p x (bare_types ts)) (parts_lexemes p x ts)
  parts_bared p x no_types = none
  parts_bared p x (type_and t ts) = both (type_bared p t) (more_bared p x ts)

  more_bared : (p : Stand) (x : Terminal) (ts : Tys) → Bared (more_lexemes p x (bare_types ts)) (more_lexemes p x ts)
  more_bared p x no_types = none
  more_bared p x (type_and t ts) = sign_and x (both (type_bared p t) (more_bared p x ts))

  types_bared : (ts : Tys) → Bared (types_lexemes (bare_types ts)) (types_lexemes ts)
  types_bared no_types = none
  types_bared (type_and t ts) = both (type_bared Simple t) (types_bared ts)

lowers_bared : (ws : List Word) → Bared (lowers (bare_words ws)) (lowers ws)
lowers_bared [] = none
lowers_bared (w ∷ ws) = word_and sort.Lower w (lowers_bared ws)

pattern_bared : (q : Pattern) → Bared (pattern_lexemes (bare_pattern q)) (pattern_lexemes q)
pattern_bared (pattern.Constructor w ws) = word_and sort.Upper w (lowers_bared ws)
pattern_bared (pattern.Literal w) = word_and sort.Literal w none
pattern_bared pattern.Default = sign_and the.Underscore none

mutual
  term_bared : (p : Bool) (e : Tm) → Bared (term_lexemes p (bare_term e)) (term_lexemes p e)
  term_bared p (term_lambda w t e) =
      within p (sign_and the.Lambda (sign_and the.Open (word_and sort.Lower w (sign_and the.Colon (both (type_bared Alone t) (sign_and the.Close (sign_and the.Dot (term_bared false e))))))))
  term_bared p (term_type_lambda w k e) =
      within p (sign_and the.TypeLambda (sign_and the.Open (word_and sort.Lower w (sign_and the.Colon (kind_and k (sign_and the.Close (sign_and the.Dot (term_bared false e))))))))
  term_bared p (term_letrec bs e) =
      within p (sign_and the.Letrec (sign_and the.OpenBrace (both (bindings_bared bs) (sign_and the.CloseBrace (sign_and the.In (term_bared false e))))))
  term_bared p (term_case e alts) =
      within p (sign_and the.Case (both (term_bared false e) (sign_and the.Of (sign_and the.OpenBrace (both (alternatives_bared alts) (sign_and the.CloseBrace none))))))
  term_bared p (term_apply e args) = within p (both (term_bared true e) (arguments_bared args))
  term_bared p (term_name w) = word_and sort.Lower w none
  term_bared p (term_constructor w) = word_and sort.Upper w none
  term_bared p (term_literal w) = word_and sort.Literal w none
  term_bared p (term_vec t es) =
      sign_and the.Vec (sign_and the.At (both (type_bared Simple t) (sign_and the.OpenBracket (both (elements_bared es) (sign_and the.CloseBracket none)))))

  bindings_bared : (bs : Bindings) → Bared (bindings_lexemes (bare_bindings bs)) (bindings_lexemes bs)
  bindings_bared no_bindings = none
  bindings_bared (binding_and w t e bs) =
      word_and sort.Lower w (sign_and the.Colon (both (type_bared Alone t) (sign_and the.Equals (both (term_bared false e) (sign_and the.Semicolon (bindings_bared bs))))))

  alternatives_bared : (alts : Alternatives) → Bared (alternatives_lexemes (bare_alternatives alts)) (alternatives_lexemes alts)
  alternatives_bared no_alternatives = none
  alternatives_bared (alternative_and q e more) =
      both (pattern_bared q) (sign_and the.Arrow (both (term_bared false e) (sign_and the.Semicolon (alternatives_bared more))))

  arguments_bared : (args : Arguments) → Bared (arguments_lexemes (bare_arguments args)) (arguments_lexemes args)
  arguments_bared no_arguments = none
  arguments_bared (argument_and e more) = both (term_bared true e) (arguments_bared more)
  arguments_bared (type_argument_and t more) = sign_and the.At (both (type_bared Simple t) (arguments_bared more))

  elements_bared : (es : Tms) → Bared (elements_lexemes (bare_terms es)) (elements_lexemes es)
  elements_bared no_terms = none
  elements_bared (term_and e es) = both (term_bared false e) (more_elements_bared es)

  more_elements_bared : (es : Tms) → Bared (more_elements_lexemes (bare_terms es)) (more_elements_lexemes es)
  more_elements_bared no_terms = none
  more_elements_bared (term_and e es) = sign_and the.Comma (both (term_bared false e) (more_elements_bared es))

parameters_bared : (ps : List Parameter) → Bared (flat_map parameter_lexemes (map bare_parameter ps)) (flat_map parameter_lexemes ps)
parameters_bared [] = none
parameters_bared (p ∷ ps) = sign_and the.Open (word_and sort.Lower p.name (sign_and the.Colon (kind_and p.kind (sign_and the.Close (parameters_bared ps)))))

fields_bared : (ts : List Ty) → Bared (fields_lexemes (map bare_type ts)) (fields_lexemes ts)
fields_bared [] = none
fields_bared (t ∷ ts) = both (type_bared Simple t) (fields_bared ts)

constructor_bared : (x : Constructor) → Bared (constructor_lexemes (bare_constructor x)) (constructor_lexemes x)
constructor_bared x = word_and sort.Upper x.name (fields_bared x.fields)

more_constructors_bared : (xs : List Constructor) → Bared (flat_map more_constructor_lexemes (map bare_constructor xs)) (flat_map more_constructor_lexemes xs)
more_constructors_bared [] = none
more_constructors_bared (x ∷ xs) = sign_and the.Bar (both (constructor_bared x) (more_constructors_bared xs))

constructors_bared : (xs : List Constructor) → Bared (constructors_lexemes (map bare_constructor xs)) (constructors_lexemes xs)
constructors_bared [] = none
constructors_bared (x ∷ xs) = both (constructor_bared x) (more_constructors_bared xs)

declaration_bared : (x : Declaration) → Bared (declaration_lexemes (bare_declaration x)) (declaration_lexemes x)
declaration_bared (Domain w false) = sign_and the.Domain (word_and sort.Upper w (sign_and the.Semicolon none))
declaration_bared (Domain w true) = sign_and the.Domain (word_and sort.Upper w (word_and sort.Lower reset_word (sign_and the.Semicolon none)))
declaration_bared (Data w ps xs) =
    sign_and the.Data (word_and sort.Upper w (both (parameters_bared ps) (sign_and the.Equals (both (constructors_bared xs) (sign_and the.Semicolon none)))))
declaration_bared (Def w t e) =
    sign_and the.Def (word_and sort.Lower w (sign_and the.Colon (both (type_bared Alone t) (sign_and the.Equals (both (term_bared false e) (sign_and the.Semicolon none))))))

more_ports_bared : (ws : List Word) → Bared (flat_map port_lexemes (bare_words ws)) (flat_map port_lexemes ws)
more_ports_bared [] = none
more_ports_bared (w ∷ ws) = sign_and the.Comma (word_and sort.Lower w (more_ports_bared ws))

ports_bared : (ws : List Word) → Bared (ports_lexemes (bare_words ws)) (ports_lexemes ws)
ports_bared [] = sign_and the.Open (sign_and the.Close none)
ports_bared (w ∷ ws) = sign_and the.Open (both (word_and sort.Lower w (more_ports_bared ws)) (sign_and the.Close none))

top_bared : (x : Top) → Bared (top_lexemes (bare_top x)) (top_lexemes x)
top_bared x = sign_and the.Top (word_and sort.Lower x.definition (both (ports_bared x.inputs) (both (ports_bared x.outputs) (sign_and the.Semicolon none))))

-- a line doesn't show places
line_bared : (ls : List Lexeme) → line (map bare_lexeme ls) ≡ line ls
line_bared [] = refl
line_bared (l ∷ []) = refl
line_bared (l ∷ m ∷ ls) = ap (λ (z : List ℕ). l.bytes ++ 32 ∷ z) (line_bared (m ∷ ls))

same_line : {a b : List Lexeme} → Bared a b → line a ≡ line b
same_line {b = b} h = ap line h.is ∙ line_bared b

declarations_text : (xs : List Declaration) → flat_map declaration_text (map bare_declaration xs) ≡ flat_map declaration_text xs
declarations_text [] = refl
declarations_text (x ∷ xs) = λ i. same_line (declaration_bared x) i ++ declarations_text xs i

bare_text : (t : Tree) → Text (bare_tree t) ≡ Text t
bare_text t = λ i. declarations_text t.declarations i ++ same_line (top_bared t.top) i

pub same_text : (a b : Tree) → Same a b → Text a ≡ Text b
same_text a b same = sym (bare_text a) ∙ ap Text same ∙ bare_text b
