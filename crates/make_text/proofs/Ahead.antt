-- What can be read before tokens with their forms, from tokens with theirs.
use Rattle.std.specs.Prelude.{List, [], ◌∷◌, refl}
use Rattle.chw_lexer.specs.Forms.{HasForm}
use Rattle.chw_lexer.specs.declared.token.Sort.TheVariants as sort
use Rattle.chw_grammar.specs.declared.terminal.Terminal.TheVariants as the
use Rattle.chw_grammar.specs.declared.term_tree.Argument.{Argument}
use Rattle.chw_grammar.specs.declared.term_tree.Argument.TheVariants.{OfTerm, OfType}
use Rattle.chw_grammar.specs.declared.term_tree.Binding.{Binding}
use Rattle.chw_grammar.specs.declared.word.Word.{Word}
use Rattle.chw_grammar.specs.Grammar.{TypeAt, sum_type, arrow_type, SumAt, one_product, one_factor, AppliedAt, named_type, AtomsAt, no_atom, atom, AtomAt, name_type, numeral_type, bracketed_type, TermAt, lambda, letrec, application, BindingsAt, no_binding, binding, head_alone, applied, ArgumentsAt, no_argument, argument, ArgumentAt, term_argument, type_argument, SimpleAt, name_term, literal_term, vec_term, bracketed_term, ElementsAt, elements, MoreElementsAt, no_more_element, element}
use Rattle.chw_grammar.specs.Lexemes.{Lexeme}
use Rattle.chw_grammar.specs.Text.{as_token, lower, sign, upper}
use Rattle.chw_grammar.specs.TermTree.{Tm, term_apply, term_lambda, term_letrec, term_literal, term_name, term_vec}
use Rattle.chw_grammar.specs.TermView.{arguments_of, bindings_of, terms_of}
use Rattle.chw_grammar.specs.TypeTree.{Ty, no_types, type_arrow, type_named, type_numeral}
use Rattle.chw_grammar.specs.TypeView.{types_of}
use Rattle.chw_grammar.proofs.Formed.{Formed}
use Rattle.chw_grammar.proofs.TypesBack.{lower_read, upper_read}

-- tokens with their forms begin with it, and these follow
pub record Ahead {X : Type 0} (At : X → List Lexeme → List Lexeme → Type 0) (x : X) (rest : List Lexeme) : Type 0 where
  pub start : List Lexeme
  pub reads : At x start rest
  pub formed : Formed start

-- it can be read before any tokens with their forms
abbrev pub Readable : {X : Type 0} → (X → List Lexeme → List Lexeme → Type 0) → X → Type 0
Readable At x = (rest : List Lexeme) → Formed rest → Ahead At x rest

abbrev pub Lower : Word → Type 0
Lower w = HasForm sort.Lower w.bytes

abbrev pub Upper : Word → Type 0
Upper w = HasForm sort.Upper w.bytes

-- types

pub numeral_readable : (w : Word) → HasForm sort.Numeral w.bytes → Readable AtomAt (type_numeral w)
numeral_readable w is rest formed =
    record { start = as_token sort.Numeral w ∷ rest; reads = numeral_type (refl, refl, refl); formed = (is, formed) }

pub named_readable : (w : Word) → Upper w → Readable AtomAt (type_named w no_types)
named_readable w is rest formed =
    record { start = upper w ∷ rest; reads = name_type (upper_read w rest); formed = (is, formed) }

pub no_atom_readable : Readable AtomsAt []
no_atom_readable rest formed = record { start = rest; reads = no_atom; formed = formed }

pub atom_readable : (t : Ty) (ts : List Ty) → Readable AtomAt t → Readable AtomsAt ts → Readable AtomsAt (t ∷ ts)
atom_readable t ts one more rest formed =
    let r1 = more rest formed in
    let r2 = one r1.start r1.formed in
    record { start = r2.start; reads = atom r1.start r2.reads r1.reads; formed = r2.formed }

pub applied_readable : (w : Word) (ts : List Ty) → Upper w → Readable AtomsAt ts → Readable AppliedAt (type_named w (types_of ts))
applied_readable w ts is more rest formed =
    let r = more rest formed in
    record { start = upper w ∷ r.start; reads = named_type ts r.start (upper_read w r.start) r.reads; formed = (is, r.formed) }

pub sum_readable : (t : Ty) → Readable AppliedAt t → Readable SumAt t
sum_readable t one rest formed =
    let r = one rest formed in
    record { start = r.start; reads = one_product (one_factor r.reads); formed = r.formed }

pub type_readable : (t : Ty) → Readable SumAt t → Readable TypeAt t
type_readable t one rest formed =
    let r = one rest formed in
    record { start = r.start; reads = sum_type r.reads; formed = r.formed }

pub arrow_readable : (t u : Ty) → Readable SumAt t → Readable TypeAt u → Readable TypeAt (type_arrow t u)
arrow_readable t u from to rest formed =
    let r1 = to rest formed in
    let r2 = from (sign the.Arrow ∷ r1.start) (refl, r1.formed) in
    record {
      start = r2.start;
      reads = arrow_type (sign the.Arrow ∷ r1.start) r1.start r2.reads (refl, refl) r1.reads;
      formed = r2.formed;
    }

pub bracketed_readable : (t : Ty) → Readable TypeAt t → Readable AtomAt t
bracketed_readable t one rest formed =
    let r = one (sign the.Close ∷ rest) (refl, formed) in
    record {
      start = sign the.Open ∷ r.start;
      reads = bracketed_type r.start (sign the.Close ∷ rest) (refl, refl) r.reads (refl, refl);
      formed = (refl, r.formed);
    }

-- terms

pub name_readable : (w : Word) → Lower w → Readable SimpleAt (term_name w)
name_readable w is rest formed =
    record { start = lower w ∷ rest; reads = name_term (lower_read w rest); formed = (is, formed) }

pub literal_readable : (w : Word) → HasForm sort.Literal w.bytes → Readable SimpleAt (term_literal w)
literal_readable w is rest formed =
    record { start = as_token sort.Literal w ∷ rest; reads = literal_term (refl, refl, refl); formed = (is, formed) }

pub simple_readable : (e : Tm) → Readable SimpleAt e → Readable TermAt e
simple_readable e one rest formed =
    let r = one rest formed in
    record { start = r.start; reads = application (head_alone r.reads); formed = r.formed }

pub closed_readable : (e : Tm) → Readable TermAt e → Readable SimpleAt e
closed_readable e one rest formed =
    let r = one (sign the.Close ∷ rest) (refl, formed) in
    record {
      start = sign the.Open ∷ r.start;
      reads = bracketed_term r.start (sign the.Close ∷ rest) (refl, refl) r.reads (refl, refl);
      formed = (refl, r.formed);
    }

pub term_argument_readable : (e : Tm) → Readable SimpleAt e → Readable ArgumentAt (OfTerm e)
term_argument_readable e one rest formed =
    let r = one rest formed in
    record { start = r.start; reads = term_argument r.reads; formed = r.formed }

pub type_argument_readable : (t : Ty) → Readable AtomAt t → Readable ArgumentAt (OfType t)
type_argument_readable t one rest formed =
    let r = one rest formed in
    record { start = sign the.At ∷ r.start; reads = type_argument r.start (refl, refl) r.reads; formed = (refl, r.formed) }

pub no_argument_readable : Readable ArgumentsAt []
no_argument_readable rest formed = record { start = rest; reads = no_argument; formed = formed }

pub argument_readable : (x : Argument) (args : List Argument) → Readable ArgumentAt x → Readable ArgumentsAt args → Readable ArgumentsAt (x ∷ args)
argument_readable x args one more rest formed =
    let r1 = more rest formed in
    let r2 = one r1.start r1.formed in
    record { start = r2.start; reads = argument r1.start r2.reads r1.reads; formed = r2.formed }

pub call_readable : (e : Tm) (x : Argument) (args : List Argument) → Readable SimpleAt e → Readable ArgumentAt x → Readable ArgumentsAt args
    → Readable TermAt (term_apply e (arguments_of (x ∷ args)))
call_readable e x args head one more rest formed =
    let r1 = more rest formed in
    let r2 = one r1.start r1.formed in
    let r3 = head r2.start r2.formed in
    record { start = r3.start; reads = application (applied x args r2.start r1.start r3.reads r2.reads r1.reads); formed = r3.formed }

pub lambda_readable : (w : Word) (t : Ty) (e : Tm) → Lower w → Readable TypeAt t → Readable TermAt e → Readable TermAt (term_lambda w t e)
lambda_readable w t e is of body rest formed =
    let r1 = body rest formed in
    let r2 = of (sign the.Close ∷ sign the.Dot ∷ r1.start) (refl, (refl, r1.formed)) in
    record {
      start = sign the.Lambda ∷ sign the.Open ∷ lower w ∷ sign the.Colon ∷ r2.start;
      reads = lambda (lower w ∷ sign the.Colon ∷ r2.start) (sign the.Colon ∷ r2.start) r2.start (sign the.Close ∷ sign the.Dot ∷ r1.start) r1.start
          (refl, (refl, refl)) (lower_read w _) (refl, refl) r2.reads (refl, (refl, refl)) r1.reads;
      formed = (refl, (refl, (is, (refl, r2.formed))));
    }

pub letrec_readable : (bs : List Binding) (e : Tm) → Readable BindingsAt bs → Readable TermAt e → Readable TermAt (term_letrec (bindings_of bs) e)
letrec_readable bs e bound body rest formed =
    let r1 = body rest formed in
    let r2 = bound (sign the.CloseBrace ∷ sign the.In ∷ r1.start) (refl, (refl, r1.formed)) in
    record {
      start = sign the.Letrec ∷ sign the.OpenBrace ∷ r2.start;
      reads = letrec bs r2.start (sign the.CloseBrace ∷ sign the.In ∷ r1.start) r1.start (refl, (refl, refl)) r2.reads (refl, (refl, refl)) r1.reads;
      formed = (refl, (refl, r2.formed));
    }

pub no_binding_readable : Readable BindingsAt []
no_binding_readable rest formed = record { start = rest; reads = no_binding; formed = formed }

pub binding_readable : (w : Word) (t : Ty) (e : Tm) (bs : List Binding) → Lower w → Readable TypeAt t → Readable TermAt e → Readable BindingsAt bs
    → Readable BindingsAt (record { name = w; ty = t; term = e } ∷ bs)
binding_readable w t e bs is of body more rest formed =
    let r1 = more rest formed in
    let r2 = body (sign the.Semicolon ∷ r1.start) (refl, r1.formed) in
    let r3 = of (sign the.Equals ∷ r2.start) (refl, r2.formed) in
    record {
      start = lower w ∷ sign the.Colon ∷ r3.start;
      reads = binding (sign the.Colon ∷ r3.start) r3.start (sign the.Equals ∷ r2.start) r2.start (sign the.Semicolon ∷ r1.start) r1.start
          (lower_read w _) (refl, refl) r3.reads (refl, refl) r2.reads (refl, refl) r1.reads;
      formed = (is, (refl, r3.formed));
    }

pub no_more_readable : Readable MoreElementsAt []
no_more_readable rest formed = record { start = rest; reads = no_more_element; formed = formed }

pub more_readable : (e : Tm) (es : List Tm) → Readable TermAt e → Readable MoreElementsAt es → Readable MoreElementsAt (e ∷ es)
more_readable e es one more rest formed =
    let r1 = more rest formed in
    let r2 = one r1.start r1.formed in
    record { start = sign the.Comma ∷ r2.start; reads = element r2.start r1.start (refl, refl) r2.reads r1.reads; formed = (refl, r2.formed) }

pub elements_readable : (e : Tm) (es : List Tm) → Readable TermAt e → Readable MoreElementsAt es → Readable ElementsAt (e ∷ es)
elements_readable e es one more rest formed =
    let r1 = more rest formed in
    let r2 = one r1.start r1.formed in
    record { start = r2.start; reads = elements r1.start r2.reads r1.reads; formed = r2.formed }

pub vec_readable : (t : Ty) (es : List Tm) → Readable AtomAt t → Readable ElementsAt es → Readable SimpleAt (term_vec t (terms_of es))
vec_readable t es of each rest formed =
    let r1 = each (sign the.CloseBracket ∷ rest) (refl, formed) in
    let r2 = of (sign the.OpenBracket ∷ r1.start) (refl, r1.formed) in
    record {
      start = sign the.Vec ∷ sign the.At ∷ r2.start;
      reads = vec_term es r2.start (sign the.OpenBracket ∷ r1.start) r1.start (sign the.CloseBracket ∷ rest)
          (refl, (refl, refl)) r2.reads (refl, refl) r1.reads (refl, refl);
      formed = (refl, (refl, r2.formed));
    }
