-- Tokens that differ in their places alone are read as descriptions that do.
use Rattle.std.specs.Prelude.{◌≡◌, true, false, List, [], ◌∷◌, map, refl}
use Rattle.std.proofs.Common.{ap, ◌∙◌, subst}
use Rattle.chw_grammar.specs.declared.terminal.Terminal.TheVariants as the
use Rattle.chw_grammar.specs.declared.word.Word.{Word}
use Rattle.chw_grammar.specs.declared.program.Tree.{Tree}
use Rattle.chw_grammar.specs.declared.program.Top.{Top}
use Rattle.chw_grammar.specs.declared.program.Declaration.{Declaration}
use Rattle.chw_grammar.specs.declared.program.Declaration.TheVariants as declaration
use Rattle.chw_grammar.specs.declared.program.Parameter.{Parameter}
use Rattle.chw_grammar.specs.declared.program.Constructor.{Constructor}
use Rattle.chw_grammar.specs.Lexemes.{Lexeme}
use Rattle.chw_grammar.specs.Grammar.{is_lower, is_upper, AtomsAt, no_atom, atom, ParametersAt, no_parameter, parameter, ConstructorAt, constructor, ConstructorsAt, no_constructor, one_more, DeclarationAt, domain_declared, reset_declared, definition_declared, data_declared, DeclarationsAt, no_declaration, declared, MorePortsAt, no_port, port, PortsAt, ports, InputNamesAt, no_input, input_names, InputsAt, inputs, TopAt, top, Reads}
use Rattle.chw_grammar.specs.TypeTree.{Ty}
use Rattle.chw_grammar.specs.Places.{bare_words, bare_type, bare_parameter, bare_constructor, bare_declaration, bare_top, Same}
use Rattle.chw_grammar.proofs.Again.{Alike, Again, takes_again, word_again, kind_again}
use Rattle.chw_grammar.proofs.AgainTypes.{type_again, atom_again}
use Rattle.chw_grammar.proofs.AgainTerms.{term_again}

parameters_again : {ps : List Parameter} {a b : List Lexeme} → ParametersAt ps a b → (a' : List Lexeme) → Alike a a' → Again ParametersAt (map bare_parameter) ps a' b
parameters_again no_parameter a' alike = record { again = []; rest = a'; reads = no_parameter; same = refl; alike = alike }
parameters_again (parameter {w = w} {k = k} {a = a} b c d e f h1 h2 h3 h4 h5 h6) a' alike =
    let r1 = takes_again (the.Open ∷ []) a b a' h1 alike in
    let r2 = word_again is_lower w b c r1.rest h2 r1.alike in
    let r3 = takes_again (the.Colon ∷ []) c d r2.rest h3 r2.alike in
    let r4 = kind_again k d e r3.rest h4 r3.alike in
    let r5 = takes_again (the.Close ∷ []) e f r4.rest h5 r4.alike in
    let r6 = parameters_again h6 r5.rest r5.alike in
    record {
      again = record { name = r2.again; kind = k } ∷ r6.again;
      rest = r6.rest;
      reads = parameter r1.rest r2.rest r3.rest r4.rest r5.rest r1.reads r2.reads r3.reads r4.reads r5.reads r6.reads;
      same = λ i. record { name = r2.same i; kind = k } ∷ r6.same i;
      alike = r6.alike;
    }

fields_again : {ts : List Ty} {a b : List Lexeme} → AtomsAt ts a b → (a' : List Lexeme) → Alike a a' → Again AtomsAt (map bare_type) ts a' b
fields_again no_atom a' alike = record { again = []; rest = a'; reads = no_atom; same = refl; alike = alike }
fields_again (atom {a = a} b h1 h2) a' alike =
    let r1 = atom_again h1 a' alike in
    let r2 = fields_again h2 r1.rest r1.alike in
    record {
      again = r1.again ∷ r2.again;
      rest = r2.rest;
      reads = atom r1.rest r1.reads r2.reads;
      same = λ i. r1.same i ∷ r2.same i;
      alike = r2.alike;
    }

constructor_again : {x : Constructor} {a b : List Lexeme} → ConstructorAt x a b → (a' : List Lexeme) → Alike a a' → Again ConstructorAt bare_constructor x a' b
constructor_again (constructor {w = w} {a = a} b h1 h2) a' alike =
    let r1 = word_again is_upper w a b a' h1 alike in
    let r2 = fields_again h2 r1.rest r1.alike in
    record {
      again = record { name = r1.again; fields = r2.again };
      rest = r2.rest;
      reads = constructor r1.rest r1.reads r2.reads;
      same = λ i. record { name = r1.same i; fields = r2.same i };
      alike = r2.alike;
    }

constructors_again : {xs : List Constructor} {a b : List Lexeme} → ConstructorsAt xs a b → (a' : List Lexeme) → Alike a a' → Again ConstructorsAt (map bare_constructor) xs a' b
constructors_again no_constructor a' alike = record { again = []; rest = a'; reads = no_constructor; same = refl; alike = alike }
constructors_again (one_more {a = a} b c h1 h2 h3) a' alike =
    let r1 = takes_again (the.Bar ∷ []) a b a' h1 alike in
    let r2 = constructor_again h2 r1.rest r1.alike in
    let r3 = constructors_again h3 r2.rest r2.alike in
    record {
      again = r2.again ∷ r3.again;
      rest = r3.rest;
      reads = one_more r1.rest r2.rest r1.reads r2.reads r3.reads;
      same = λ i. r2.same i ∷ r3.same i;
      alike = r3.alike;
    }

declaration_again : {x : Declaration} {a b : List Lexeme} → DeclarationAt x a b → (a' : List Lexeme) → Alike a a' → Again DeclarationAt bare_declaration x a' b
declaration_again (domain_declared {w = w} {a = a} {d = d} b c h1 h2 h3) a' alike =
    let r1 = takes_again (the.Domain ∷ []) a b a' h1 alike in
    let r2 = word_again is_upper w b c r1.rest h2 r1.alike in
    let r3 = takes_again (the.Semicolon ∷ []) c d r2.rest h3 r2.alike in
    record {
      again = declaration.Domain r2.again false;
      rest = r3.rest;
      reads = domain_declared r1.rest r2.rest r1.reads r2.reads r3.reads;
      same = λ i. declaration.Domain (r2.same i) false;
      alike = r3.alike;
    }
declaration_again (reset_declared {w = w} {a = a} {e = e} b c d h1 h2 h3 h4) a' alike =
    let r1 = takes_again (the.Domain ∷ []) a b a' h1 alike in
    let r2 = word_again is_upper w b c r1.rest h2 r1.alike in
    let r3 = word_again is_lower h3.0 c d r2.rest h3.1 r2.alike in
    let r4 = takes_again (the.Semicolon ∷ []) d e r3.rest h4 r3.alike in
    record {
      again = declaration.Domain r2.again true;
      rest = r4.rest;
      reads = reset_declared r1.rest r2.rest r3.rest r1.reads r2.reads (r3.again, r3.reads, ap (λ (z : Word). z.bytes) r3.same ∙ h3.2) r4.reads;
      same = λ i. declaration.Domain (r2.same i) true;
      alike = r4.alike;
    }
declaration_again (definition_declared {w = w} {a = a} {i = i} b c d f g h h1 h2 h3 h4 h5 h6 h7) a' alike =
    let r1 = takes_again (the.Def ∷ []) a b a' h1 alike in
    let r2 = word_again is_lower w b c r1.rest h2 r1.alike in
    let r3 = takes_again (the.Colon ∷ []) c d r2.rest h3 r2.alike in
    let r4 = type_again h4 r3.rest r3.alike in
    let r5 = takes_again (the.Equals ∷ []) f g r4.rest h5 r4.alike in
    let r6 = term_again h6 r5.rest r5.alike in
    let r7 = takes_again (the.Semicolon ∷ []) h i r6.rest h7 r6.alike in
    record {
      again = declaration.Def r2.again r4.again r6.again;
      rest = r7.rest;
      reads = definition_declared r1.rest r2.rest r3.rest r4.rest r5.rest r6.rest r1.reads r2.reads r3.reads r4.reads r5.reads r6.reads r7.reads;
      same = λ i. declaration.Def (r2.same i) (r4.same i) (r6.same i);
      alike = r7.alike;
    }
declaration_again (data_declared {w = w} {a = a} {h = h} b c d e f g h1 h2 h3 h4 h5 h6 h7) a' alike =
    let r1 = takes_again (the.Data ∷ []) a b a' h1 alike in
    let r2 = word_again is_upper w b c r1.rest h2 r1.alike in
    let r3 = parameters_again h3 r2.rest r2.alike in
    let r4 = takes_again (the.Equals ∷ []) d e r3.rest h4 r3.alike in
    let r5 = constructor_again h5 r4.rest r4.alike in
    let r6 = constructors_again h6 r5.rest r5.alike in
    let r7 = takes_again (the.Semicolon ∷ []) g h r6.rest h7 r6.alike in
    record {
      again = declaration.Data r2.again r3.again (r5.again ∷ r6.again);
      rest = r7.rest;
      reads = data_declared r1.rest r2.rest r3.rest r4.rest r5.rest r6.rest r1.reads r2.reads r3.reads r4.reads r5.reads r6.reads r7.reads;
      same = λ i. declaration.Data (r2.same i) (r3.same i) (r5.same i ∷ r6.same i);
      alike = r7.alike;
    }

declarations_again : {xs : List Declaration} {a b : List Lexeme} → DeclarationsAt xs a b → (a' : List Lexeme) → Alike a a' → Again DeclarationsAt (map bare_declaration) xs a' b
declarations_again no_declaration a' alike = record { again = []; rest = a'; reads = no_declaration; same = refl; alike = alike }
declarations_again (declared {a = a} b h1 h2) a' alike =
    let r1 = declaration_again h1 a' alike in
    let r2 = declarations_again h2 r1.rest r1.alike in
    record {
      again = r1.again ∷ r2.again;
      rest = r2.rest;
      reads = declared r1.rest r1.reads r2.reads;
      same = λ i. r1.same i ∷ r2.same i;
      alike = r2.alike;
    }

more_ports_again : {ws : List Word} {a b : List Lexeme} → MorePortsAt ws a b → (a' : List Lexeme) → Alike a a' → Again MorePortsAt bare_words ws a' b
more_ports_again no_port a' alike = record { again = []; rest = a'; reads = no_port; same = refl; alike = alike }
more_ports_again (port {w = w} {a = a} b c h1 h2 h3) a' alike =
    let r1 = takes_again (the.Comma ∷ []) a b a' h1 alike in
    let r2 = word_again is_lower w b c r1.rest h2 r1.alike in
    let r3 = more_ports_again h3 r2.rest r2.alike in
    record {
      again = r2.again ∷ r3.again;
      rest = r3.rest;
      reads = port r1.rest r2.rest r1.reads r2.reads r3.reads;
      same = λ i. r2.same i ∷ r3.same i;
      alike = r3.alike;
    }

ports_again : {ws : List Word} {a b : List Lexeme} → PortsAt ws a b → (a' : List Lexeme) → Alike a a' → Again PortsAt bare_words ws a' b
ports_again (ports {w = w} {a = a} {e = e} b c d h1 h2 h3 h4) a' alike =
    let r1 = takes_again (the.Open ∷ []) a b a' h1 alike in
    let r2 = word_again is_lower w b c r1.rest h2 r1.alike in
    let r3 = more_ports_again h3 r2.rest r2.alike in
    let r4 = takes_again (the.Close ∷ []) d e r3.rest h4 r3.alike in
    record {
      again = r2.again ∷ r3.again;
      rest = r4.rest;
      reads = ports r1.rest r2.rest r3.rest r1.reads r2.reads r3.reads r4.reads;
      same = λ i. r2.same i ∷ r3.same i;
      alike = r4.alike;
    }

input_names_again : {ws : List Word} {a b : List Lexeme} → InputNamesAt ws a b → (a' : List Lexeme) → Alike a a' → Again InputNamesAt bare_words ws a' b
input_names_again no_input a' alike = record { again = []; rest = a'; reads = no_input; same = refl; alike = alike }
input_names_again (input_names {w = w} {a = a} b h1 h2) a' alike =
    let r1 = word_again is_lower w a b a' h1 alike in
    let r2 = more_ports_again h2 r1.rest r1.alike in
    record {
      again = r1.again ∷ r2.again;
      rest = r2.rest;
      reads = input_names r1.rest r1.reads r2.reads;
      same = λ i. r1.same i ∷ r2.same i;
      alike = r2.alike;
    }

inputs_again : {ws : List Word} {a b : List Lexeme} → InputsAt ws a b → (a' : List Lexeme) → Alike a a' → Again InputsAt bare_words ws a' b
inputs_again (inputs {a = a} {d = d} b c h1 h2 h3) a' alike =
    let r1 = takes_again (the.Open ∷ []) a b a' h1 alike in
    let r2 = input_names_again h2 r1.rest r1.alike in
    let r3 = takes_again (the.Close ∷ []) c d r2.rest h3 r2.alike in
    record {
      again = r2.again;
      rest = r3.rest;
      reads = inputs r1.rest r2.rest r1.reads r2.reads r3.reads;
      same = r2.same;
      alike = r3.alike;
    }

top_again : {x : Top} {a b : List Lexeme} → TopAt x a b → (a' : List Lexeme) → Alike a a' → Again TopAt bare_top x a' b
top_again (top {w = w} {a = a} {f = f} b c d e h1 h2 h3 h4 h5) a' alike =
    let r1 = takes_again (the.Top ∷ []) a b a' h1 alike in
    let r2 = word_again is_lower w b c r1.rest h2 r1.alike in
    let r3 = inputs_again h3 r2.rest r2.alike in
    let r4 = ports_again h4 r3.rest r3.alike in
    let r5 = takes_again (the.Semicolon ∷ []) e f r4.rest h5 r4.alike in
    record {
      again = record { definition = r2.again; inputs = r3.again; outputs = r4.again };
      rest = r5.rest;
      reads = top r1.rest r2.rest r3.rest r4.rest r1.reads r2.reads r3.reads r4.reads r5.reads;
      same = λ i. record { definition = r2.same i; inputs = r3.same i; outputs = r4.same i };
      alike = r5.alike;
    }

-- a tree that is the same, read from tokens
pub record ReadAgain (tree : Tree) (lexemes : List Lexeme) : Type 0 where
  pub again : Tree
  pub reads : Reads lexemes again
  pub same : Same again tree

end_again : (b : List Lexeme) → Alike [] b → b ≡ []
end_again [] alike = refl
end_again (l ∷ b) alike = absurd alike

pub tree_again : (lexemes others : List Lexeme) (tree : Tree) → Reads lexemes tree → Alike lexemes others → ReadAgain tree others
tree_again lexemes others tree read alike =
    let r1 = declarations_again read.declared others alike in
    let r2 = top_again read.topped r1.rest r1.alike in
    record {
      again = record { declarations = r1.again; top = r2.again };
      reads = record { last = r1.rest; declared = r1.reads; topped = subst (TopAt r2.again r1.rest) (end_again r2.rest r2.alike) r2.reads };
      same = λ i. record { declarations = r1.same i; top = r2.same i };
    }
