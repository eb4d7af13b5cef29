-- The whole description can be read from tokens with their forms.
use Rattle.std.specs.Prelude.{ℕ, ◌<◌, ◌^◌, false, List, [], ◌∷◌, codes, refl}
use Rattle.chw_grammar.specs.declared.program.Declaration.{Declaration}
use Rattle.chw_grammar.specs.declared.program.Declaration.TheVariants.{Def, Domain}
use Rattle.chw_grammar.specs.declared.program.Tree.{Tree}
use Rattle.chw_grammar.specs.declared.terminal.Terminal.TheVariants as the
use Rattle.chw_grammar.specs.declared.word.Word.{Word}
use Rattle.chw_grammar.specs.Grammar.{TypeAt, TermAt, DeclarationAt, domain_declared, definition_declared, DeclarationsAt, no_declaration, declared, no_port, ports, input_names, inputs, TopAt, top, Reads}
use Rattle.chw_grammar.specs.Lexemes.{Lexeme}
use Rattle.chw_grammar.specs.Text.{sign, upper, lower}
use Rattle.chw_grammar.specs.TermTree.{Tm}
use Rattle.chw_grammar.specs.TypeTree.{Ty}
use Rattle.chw_grammar.proofs.Formed.{Formed}
use Rattle.chw_grammar.proofs.TypesBack.{lower_read, upper_read}
use Rattle.make_text.specs.MakeTree.{make_tree, word}
use Rattle.make_text.proofs.Ahead.{Ahead, Readable, Lower, Upper}
use Rattle.make_text.proofs.Filter.{main_readable, main_type_readable, plus_readable, plus_type_readable}
use Rattle.make_text.proofs.Forms.{lower as lower_form, upper as upper_form}

domain_readable : (w : Word) → Upper w → Readable DeclarationAt (Domain w false)
domain_readable w is rest formed = record {
  start = sign the.Domain ∷ upper w ∷ sign the.Semicolon ∷ rest;
  reads = domain_declared (upper w ∷ sign the.Semicolon ∷ rest) (sign the.Semicolon ∷ rest) (refl, refl) (upper_read w _) (refl, refl);
  formed = (refl, (is, (refl, formed)));
}

definition_readable : (w : Word) (t : Ty) (e : Tm) → Lower w → Readable TypeAt t → Readable TermAt e → Readable DeclarationAt (Def w t e)
definition_readable w t e is of body rest formed =
    let r1 = body (sign the.Semicolon ∷ rest) (refl, formed) in
    let r2 = of (sign the.Equals ∷ r1.start) (refl, r1.formed) in
    record {
      start = sign the.Def ∷ lower w ∷ sign the.Colon ∷ r2.start;
      reads = definition_declared (lower w ∷ sign the.Colon ∷ r2.start) (sign the.Colon ∷ r2.start) r2.start (sign the.Equals ∷ r1.start) r1.start
          (sign the.Semicolon ∷ rest) (refl, refl) (lower_read w _) (refl, refl) r2.reads (refl, refl) r1.reads (refl, refl);
      formed = (refl, (is, (refl, r2.formed)));
    }

no_declaration_readable : Readable DeclarationsAt []
no_declaration_readable rest formed = record { start = rest; reads = no_declaration; formed = formed }

declared_readable : (x : Declaration) (xs : List Declaration) → Readable DeclarationAt x → Readable DeclarationsAt xs → Readable DeclarationsAt (x ∷ xs)
declared_readable x xs one more rest formed =
    let r1 = more rest formed in
    let r2 = one r1.start r1.formed in
    record { start = r2.start; reads = declared r1.start r2.reads r1.reads; formed = r2.formed }

declarations_readable : (taps : ℕ) → taps < 2 ^ 64 → Readable DeclarationsAt (make_tree taps).declarations
declarations_readable taps small =
    declared_readable _ _ (domain_readable (word (codes "A")) (upper_form (codes "A") refl))
    (declared_readable _ _ (domain_readable (word (codes "B")) (upper_form (codes "B") refl))
    (declared_readable _ _ (definition_readable (word (codes "plus")) _ _ (lower_form (codes "plus") refl) plus_type_readable plus_readable)
    (declared_readable _ [] (definition_readable (word (codes "main")) _ _ (lower_form (codes "main") refl) main_type_readable (main_readable taps small))
    no_declaration_readable)))

-- `top main ( x ) ( o ) ;`
make_top : (taps : ℕ) → Ahead TopAt (make_tree taps).top []
make_top taps =
    let from_semicolon : List Lexeme = sign the.Semicolon ∷ [] in
    let from_outputs : List Lexeme = sign the.Open ∷ lower (word (codes "o")) ∷ sign the.Close ∷ from_semicolon in
    let from_inputs : List Lexeme = sign the.Open ∷ lower (word (codes "x")) ∷ sign the.Close ∷ from_outputs in
    record {
      start = sign the.Top ∷ lower (word (codes "main")) ∷ from_inputs;
      reads = top (lower (word (codes "main")) ∷ from_inputs) from_inputs from_outputs from_semicolon (refl, refl) (lower_read _ _)
          (inputs (lower (word (codes "x")) ∷ sign the.Close ∷ from_outputs) (sign the.Close ∷ from_outputs) (refl, refl)
          (input_names (sign the.Close ∷ from_outputs) (lower_read _ _) no_port) (refl, refl))
          (ports (lower (word (codes "o")) ∷ sign the.Close ∷ from_semicolon) (sign the.Close ∷ from_semicolon) (sign the.Close ∷ from_semicolon)
          (refl, refl) (lower_read _ _) no_port (refl, refl))
          (refl, refl);
      formed = (refl, (lower_form (codes "main") refl, (refl, (lower_form (codes "x") refl, (refl, (refl, (lower_form (codes "o") refl, (refl, (refl, tt)))))))));
    }

-- tokens with their forms have this tree
pub record ReadFrom (tree : Tree) : Type 0 where
  pub lexemes : List Lexeme
  pub reads : Reads lexemes tree
  pub formed : Formed lexemes

pub made_readable : (taps : ℕ) → taps < 2 ^ 64 → ReadFrom (make_tree taps)
made_readable taps small =
    let last = make_top taps in
    let whole = declarations_readable taps small last.start last.formed in
    record {
      lexemes = whole.start;
      reads = record { last = last.start; declared = whole.reads; topped = last.reads };
      formed = whole.formed;
    }
