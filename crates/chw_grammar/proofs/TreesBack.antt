-- The canonical tokens of a description read back to its tree.
use Rattle.std.specs.Prelude.{false, List, [], ◌∷◌, ◌++◌, refl}
use Rattle.std.specs.List.{flat_map}
use Rattle.chw_grammar.specs.declared.terminal.Terminal.TheVariants as the
use Rattle.chw_grammar.specs.declared.stand.Stand.TheVariants.{Alone as alone, Simple as simple}
use Rattle.chw_grammar.specs.declared.word.Word.{Word}
use Rattle.chw_grammar.specs.declared.program.Tree.{Tree}
use Rattle.chw_grammar.specs.declared.program.Top.{Top}
use Rattle.chw_grammar.specs.declared.program.Declaration.{Declaration}
use Rattle.chw_grammar.specs.declared.program.Parameter.{Parameter}
use Rattle.chw_grammar.specs.declared.program.Constructor.{Constructor}
use Rattle.chw_grammar.specs.Lexemes.{Lexeme}
use Rattle.chw_grammar.specs.Grammar.{TypeAt, AtomsAt, no_atom, atom, AtomAt, TermAt, ParametersAt, no_parameter, parameter, ConstructorAt, constructor, ConstructorsAt, no_constructor, one_more, DeclarationAt, domain_declared, reset_declared, definition_declared, data_declared, DeclarationsAt, no_declaration, declared, MorePortsAt, no_port, port, PortsAt, ports, InputNamesAt, no_input, input_names, InputsAt, inputs, TopAt, top, Reads}
use Rattle.chw_grammar.specs.TypeTree.{Ty}
use Rattle.chw_grammar.specs.Text.{sign, reset_word, type_lexemes, term_lexemes, parameter_lexemes, fields_lexemes, constructor_lexemes, more_constructor_lexemes, constructors_lexemes, declaration_lexemes, port_lexemes, port_names_lexemes, ports_lexemes, top_lexemes, tree_lexemes}
use Rattle.chw_grammar.proofs.TypesBack.{kind_read, upper_read, lower_read, type_back, atom_back}
use Rattle.chw_grammar.proofs.TermsBack.{moved, term_back}

parameters_back : {ps : List Parameter} {a b : List Lexeme} → ParametersAt ps a b → (rest : List Lexeme) → ParametersAt ps (flat_map parameter_lexemes ps ++ rest) rest
parameters_back no_parameter rest = no_parameter
parameters_back (parameter {w = w} {k = k} b c d e f h1 h2 h3 h4 h5 more) rest =
    parameter _ _ _ _ _ (refl, refl) (lower_read w _) (refl, refl) (kind_read k _) (refl, refl) (parameters_back more rest)

fields_back : {ts : List Ty} {a b : List Lexeme} → AtomsAt ts a b → (rest : List Lexeme) → AtomsAt ts (fields_lexemes ts ++ rest) rest
fields_back no_atom rest = no_atom
fields_back (atom {t = t} {ts = ts} b d more) rest =
    atom _ (moved (λ (z : List Lexeme). AtomAt t z (fields_lexemes ts ++ rest)) (type_lexemes simple t) (fields_lexemes ts) rest (atom_back d simple _)) (fields_back more rest)

constructor_back : {x : Constructor} {a b : List Lexeme} → ConstructorAt x a b → (rest : List Lexeme) → ConstructorAt x (constructor_lexemes x ++ rest) rest
constructor_back (constructor {w = w} b h more) rest = constructor _ (upper_read w _) (fields_back more rest)

constructors_back : {xs : List Constructor} {a b : List Lexeme} → ConstructorsAt xs a b → (rest : List Lexeme)
    → ConstructorsAt xs (flat_map more_constructor_lexemes xs ++ rest) rest
constructors_back no_constructor rest = no_constructor
constructors_back (one_more {x = x} {xs = xs} b c h d more) rest =
    one_more _ _ (refl, refl)
    (moved (λ (z : List Lexeme). ConstructorAt x z (flat_map more_constructor_lexemes xs ++ rest)) (constructor_lexemes x) (flat_map more_constructor_lexemes xs) rest (constructor_back d _))
    (constructors_back more rest)

declaration_back : {x : Declaration} {a b : List Lexeme} → DeclarationAt x a b → (rest : List Lexeme) → DeclarationAt x (declaration_lexemes x ++ rest) rest
declaration_back (domain_declared {w = w} b c h1 h2 h3) rest = domain_declared _ _ (refl, refl) (upper_read w _) (refl, refl)
declaration_back (reset_declared {w = w} b c d h1 h2 h3 h4) rest = reset_declared _ _ _ (refl, refl) (upper_read w _) (reset_word, lower_read reset_word _, refl) (refl, refl)
declaration_back (definition_declared {w = w} {t = t} {e = e} b c d f g h h1 h2 h3 ty h4 body h5) rest =
    definition_declared _ _ _ _ _ _ (refl, refl) (lower_read w _) (refl, refl)
    (moved (λ (z : List Lexeme). TypeAt t z (sign the.Equals ∷ ((term_lexemes false e ++ sign the.Semicolon ∷ []) ++ rest))) (type_lexemes alone t) (sign the.Equals ∷ (term_lexemes false e ++ sign the.Semicolon ∷ [])) rest (type_back ty alone _))
    (refl, refl)
    (moved (λ (z : List Lexeme). TermAt e z (sign the.Semicolon ∷ rest)) (term_lexemes false e) (sign the.Semicolon ∷ []) rest ((term_back body).0 _))
    (refl, refl)
declaration_back (data_declared {w = w} {ps = ps} {x = x} {xs = xs} b c d e f g h1 h2 params h3 first more h4) rest =
    data_declared _ _ _ _ _ _ (refl, refl) (upper_read w _)
    (moved (λ (z : List Lexeme). ParametersAt ps z (sign the.Equals ∷ ((constructors_lexemes (x ∷ xs) ++ sign the.Semicolon ∷ []) ++ rest))) (flat_map parameter_lexemes ps) (sign the.Equals ∷ (constructors_lexemes (x ∷ xs) ++ sign the.Semicolon ∷ [])) rest (parameters_back params _))
    (refl, refl)
    (moved (λ (z : List Lexeme). ConstructorAt x z (flat_map more_constructor_lexemes xs ++ sign the.Semicolon ∷ rest)) (constructors_lexemes (x ∷ xs)) (sign the.Semicolon ∷ []) rest
    (moved (λ (z : List Lexeme). ConstructorAt x z (flat_map more_constructor_lexemes xs ++ sign the.Semicolon ∷ rest)) (constructor_lexemes x) (flat_map more_constructor_lexemes xs) (sign the.Semicolon ∷ rest) (constructor_back first _)))
    (constructors_back more (sign the.Semicolon ∷ rest)) (refl, refl)

declarations_back : {xs : List Declaration} {a b : List Lexeme} → DeclarationsAt xs a b → (rest : List Lexeme) → DeclarationsAt xs (flat_map declaration_lexemes xs ++ rest) rest
declarations_back no_declaration rest = no_declaration
declarations_back (declared {x = x} {xs = xs} b d more) rest =
    declared _ (moved (λ (z : List Lexeme). DeclarationAt x z (flat_map declaration_lexemes xs ++ rest)) (declaration_lexemes x) (flat_map declaration_lexemes xs) rest (declaration_back d _))
    (declarations_back more rest)

more_ports_back : {ws : List Word} {a b : List Lexeme} → MorePortsAt ws a b → (rest : List Lexeme) → MorePortsAt ws (flat_map port_lexemes ws ++ rest) rest
more_ports_back no_port rest = no_port
more_ports_back (port {w = w} b c h h2 more) rest = port _ _ (refl, refl) (lower_read w _) (more_ports_back more rest)

ports_back : {ws : List Word} {a b : List Lexeme} → PortsAt ws a b → (rest : List Lexeme) → PortsAt ws (ports_lexemes ws ++ rest) rest
ports_back (ports {w = w} {ws = ws} b c d h1 h2 more h3) rest =
    ports _ _ _ (refl, refl) (lower_read w _)
    (moved (λ (z : List Lexeme). MorePortsAt ws z (sign the.Close ∷ rest)) (flat_map port_lexemes ws) (sign the.Close ∷ []) rest (more_ports_back more _)) (refl, refl)

input_names_back : {ws : List Word} {a b : List Lexeme} → InputNamesAt ws a b → (rest : List Lexeme) → InputNamesAt ws (port_names_lexemes ws ++ rest) rest
input_names_back no_input rest = no_input
input_names_back (input_names {w = w} b h more) rest = input_names _ (lower_read w _) (more_ports_back more rest)

inputs_back : {ws : List Word} {a b : List Lexeme} → InputsAt ws a b → (rest : List Lexeme) → InputsAt ws (ports_lexemes ws ++ rest) rest
inputs_back (inputs {ws = ws} b c h1 names h2) rest =
    inputs _ _ (refl, refl)
    (moved (λ (z : List Lexeme). InputNamesAt ws z (sign the.Close ∷ rest)) (port_names_lexemes ws) (sign the.Close ∷ []) rest (input_names_back names _)) (refl, refl)

top_back : {x : Top} {a b : List Lexeme} → TopAt x a b → TopAt x (top_lexemes x) []
top_back (top {w = w} b c d e h1 h2 first second h3) = top _ _ _ _ (refl, refl) (lower_read w _) (inputs_back first _) (ports_back second _) (refl, refl)

pub tree_back : (lexemes : List Lexeme) (tree : Tree) → Reads lexemes tree → Reads (tree_lexemes tree) tree
tree_back lexemes tree r = record { last = top_lexemes tree.top; declared = declarations_back r.declared (top_lexemes tree.top); topped = top_back r.topped }
