-- The canonical tokens of a description that was read from tokens with their forms have theirs.
use Rattle.std.specs.Prelude.{ℕ, List, [], ◌∷◌, ◌++◌, false, refl}
use Rattle.std.specs.List.{flat_map}
use Rattle.std.proofs.Common.{subst}
use Rattle.chw_lexer.specs.Forms.{HasForm}
use Rattle.chw_lexer.specs.declared.token.Sort.TheVariants as sort
use Rattle.chw_grammar.specs.declared.stand.Stand.TheVariants.{Alone, Simple}
use Rattle.chw_grammar.specs.declared.terminal.Terminal.TheVariants as the
use Rattle.chw_grammar.specs.declared.word.Word.{Word}
use Rattle.chw_grammar.specs.declared.program.Tree.{Tree}
use Rattle.chw_grammar.specs.declared.program.Top.{Top}
use Rattle.chw_grammar.specs.declared.program.Declaration.{Declaration}
use Rattle.chw_grammar.specs.declared.program.Parameter.{Parameter}
use Rattle.chw_grammar.specs.declared.program.Constructor.{Constructor}
use Rattle.chw_grammar.specs.Lexemes.{Lexeme}
use Rattle.chw_grammar.specs.Grammar.{AtomsAt, no_atom, atom, ParametersAt, no_parameter, parameter, ConstructorAt, constructor, ConstructorsAt, no_constructor, one_more, DeclarationAt, domain_declared, reset_declared, definition_declared, data_declared, DeclarationsAt, no_declaration, declared, MorePortsAt, no_port, port, PortsAt, ports, InputNamesAt, no_input, input_names, InputsAt, inputs, TopAt, top, Reads}
use Rattle.chw_grammar.specs.TypeTree.{Ty}
use Rattle.chw_grammar.specs.Text.{sign, type_lexemes, term_lexemes, parameter_lexemes, fields_lexemes, constructor_lexemes, more_constructor_lexemes, declaration_lexemes, port_lexemes, port_names_lexemes, ports_lexemes, top_lexemes}
use Rattle.chw_grammar.proofs.Formed.{Formed, formed_append, kind_formed, takes_formed, lower_formed, upper_formed}
use Rattle.chw_grammar.proofs.FormedTypes.{kind_at_formed, type_formed, atom_formed}
use Rattle.chw_grammar.proofs.FormedTerms.{term_formed}

parameters_formed : {ps : List Parameter} {a b : List Lexeme} → ParametersAt ps a b → Formed a → Formed (flat_map parameter_lexemes ps) × Formed b
parameters_formed no_parameter given = (tt, given)
parameters_formed (parameter {w = w} {k = k} {a = a} b c d e f h1 h2 h3 h4 h5 more) given =
    let one = lower_formed w b c h2 (takes_formed (the.Open ∷ []) a b h1 given) in
    let rest = parameters_formed more (takes_formed (the.Close ∷ []) e f h5 (kind_at_formed k d e h4 (takes_formed (the.Colon ∷ []) c d h3 one.1))) in
    ((refl, (one.0, (refl, (kind_formed k, (refl, rest.0))))), rest.1)

fields_formed : {ts : List Ty} {a b : List Lexeme} → AtomsAt ts a b → Formed a → Formed (fields_lexemes ts) × Formed b
fields_formed no_atom given = (tt, given)
fields_formed (atom {t = t} {ts = ts} b d more) given =
    let one = atom_formed d given in
    let rest = fields_formed more one.1 in
    (formed_append (type_lexemes Simple t) (fields_lexemes ts) (one.0 Simple) rest.0, rest.1)

constructor_formed : {x : Constructor} {a b : List Lexeme} → ConstructorAt x a b → Formed a → Formed (constructor_lexemes x) × Formed b
constructor_formed (constructor {w = w} {a = a} b h more) given =
    let one = upper_formed w a b h given in let rest = fields_formed more one.1 in ((one.0, rest.0), rest.1)

constructors_formed : {xs : List Constructor} {a b : List Lexeme} → ConstructorsAt xs a b → Formed a → Formed (flat_map more_constructor_lexemes xs) × Formed b
constructors_formed no_constructor given = (tt, given)
constructors_formed (one_more {x = x} {xs = xs} {a = a} b c h d more) given =
    let one = constructor_formed d (takes_formed (the.Bar ∷ []) a b h given) in
    let rest = constructors_formed more one.1 in
    ((refl, formed_append (constructor_lexemes x) (flat_map more_constructor_lexemes xs) one.0 rest.0), rest.1)

pub declaration_formed : {x : Declaration} {a b : List Lexeme} → DeclarationAt x a b → Formed a → Formed (declaration_lexemes x) × Formed b
declaration_formed (domain_declared {w = w} {a = a} {d = d} b c h1 h2 h3) given =
    let one = upper_formed w b c h2 (takes_formed (the.Domain ∷ []) a b h1 given) in ((refl, (one.0, (refl, tt))), takes_formed (the.Semicolon ∷ []) c d h3 one.1)
declaration_formed (reset_declared {w = w} {a = a} {e = e} b c d h1 h2 h3 h4) given =
    let one = upper_formed w b c h2 (takes_formed (the.Domain ∷ []) a b h1 given) in
    let two = lower_formed h3.0 c d h3.1 one.1 in
    let reset = subst (λ (z : List ℕ). HasForm sort.Lower z) h3.2 two.0 in
    ((refl, (one.0, (reset, (refl, tt)))), takes_formed (the.Semicolon ∷ []) d e h4 two.1)
declaration_formed (definition_declared {w = w} {t = t} {e = e} {a = a} {i = i} b c d f g h h1 h2 h3 ty h4 body h5) given =
    let one = lower_formed w b c h2 (takes_formed (the.Def ∷ []) a b h1 given) in
    let of = type_formed ty (takes_formed (the.Colon ∷ []) c d h3 one.1) in
    let inner = term_formed body (takes_formed (the.Equals ∷ []) f g h4 of.1) in
    ((refl, (one.0, (refl, formed_append (type_lexemes Alone t) (sign the.Equals ∷ (term_lexemes false e ++ sign the.Semicolon ∷ [])) (of.0 Alone) (refl, formed_append (term_lexemes false e) (sign the.Semicolon ∷ []) (inner.0 false) (refl, tt))))), takes_formed (the.Semicolon ∷ []) h i h5 inner.1)
declaration_formed (data_declared {w = w} {ps = ps} {x = x} {xs = xs} {a = a} {h = h} b c d e f g h1 h2 params h3 first more h4) given =
    let one = upper_formed w b c h2 (takes_formed (the.Data ∷ []) a b h1 given) in
    let kinds = parameters_formed params one.1 in
    let two = constructor_formed first (takes_formed (the.Equals ∷ []) d e h3 kinds.1) in
    let rest = constructors_formed more two.1 in
    let both = formed_append (constructor_lexemes x) (flat_map more_constructor_lexemes xs) two.0 rest.0 in
    ((refl, (one.0, formed_append (flat_map parameter_lexemes ps) (sign the.Equals ∷ ((constructor_lexemes x ++ flat_map more_constructor_lexemes xs) ++ sign the.Semicolon ∷ [])) kinds.0 (refl, formed_append (constructor_lexemes x ++ flat_map more_constructor_lexemes xs) (sign the.Semicolon ∷ []) both (refl, tt)))), takes_formed (the.Semicolon ∷ []) g h h4 rest.1)

-- each of the declarations, by itself
abbrev pub DeclarationsFormed : List Declaration → Type 0
DeclarationsFormed [] = Unit {0}
DeclarationsFormed (x ∷ xs) = Formed (declaration_lexemes x) × DeclarationsFormed xs

declarations_formed : {xs : List Declaration} {a b : List Lexeme} → DeclarationsAt xs a b → Formed a → DeclarationsFormed xs × Formed b
declarations_formed no_declaration given = (tt, given)
declarations_formed (declared b d more) given =
    let one = declaration_formed d given in let rest = declarations_formed more one.1 in ((one.0, rest.0), rest.1)

more_ports_formed : {ws : List Word} {a b : List Lexeme} → MorePortsAt ws a b → Formed a → Formed (flat_map port_lexemes ws) × Formed b
more_ports_formed no_port given = (tt, given)
more_ports_formed (port {w = w} {a = a} b c h1 h2 more) given =
    let one = lower_formed w b c h2 (takes_formed (the.Comma ∷ []) a b h1 given) in let rest = more_ports_formed more one.1 in ((refl, (one.0, rest.0)), rest.1)

ports_formed : {ws : List Word} {a b : List Lexeme} → PortsAt ws a b → Formed a → Formed (ports_lexemes ws) × Formed b
ports_formed (ports {w = w} {ws = ws} {a = a} {e = e} b c d h1 h2 more h3) given =
    let one = lower_formed w b c h2 (takes_formed (the.Open ∷ []) a b h1 given) in
    let rest = more_ports_formed more one.1 in
    ((refl, (one.0, formed_append (flat_map port_lexemes ws) (sign the.Close ∷ []) rest.0 (refl, tt))), takes_formed (the.Close ∷ []) d e h3 rest.1)

input_names_formed : {ws : List Word} {a b : List Lexeme} → InputNamesAt ws a b → Formed a → Formed (port_names_lexemes ws) × Formed b
input_names_formed no_input given = (tt, given)
input_names_formed (input_names {w = w} {a = a} b h more) given =
    let one = lower_formed w a b h given in let rest = more_ports_formed more one.1 in ((one.0, rest.0), rest.1)

inputs_formed : {ws : List Word} {a b : List Lexeme} → InputsAt ws a b → Formed a → Formed (ports_lexemes ws) × Formed b
inputs_formed (inputs {ws = ws} {a = a} {d = d} b c h1 names h2) given =
    let all = input_names_formed names (takes_formed (the.Open ∷ []) a b h1 given) in
    ((refl, formed_append (port_names_lexemes ws) (sign the.Close ∷ []) all.0 (refl, tt)), takes_formed (the.Close ∷ []) c d h2 all.1)

top_formed : {x : Top} {a b : List Lexeme} → TopAt x a b → Formed a → Formed (top_lexemes x) × Formed b
top_formed (top {w = w} {ins = ins} {outs = outs} {a = a} {f = f} b c d e h1 h2 first second h3) given =
    let one = lower_formed w b c h2 (takes_formed (the.Top ∷ []) a b h1 given) in
    let ports_in = inputs_formed first one.1 in
    let ports_out = ports_formed second ports_in.1 in
    ((refl, (one.0, formed_append (ports_lexemes ins) (ports_lexemes outs ++ sign the.Semicolon ∷ []) ports_in.0 (formed_append (ports_lexemes outs) (sign the.Semicolon ∷ []) ports_out.0 (refl, tt)))), takes_formed (the.Semicolon ∷ []) e f h3 ports_out.1)

pub tree_formed : (lexemes : List Lexeme) (tree : Tree) → Reads lexemes tree → Formed lexemes → DeclarationsFormed tree.declarations × Formed (top_lexemes tree.top)
tree_formed lexemes tree r given =
    let one = declarations_formed r.declared given in let two = top_formed r.topped one.1 in (one.0, two.0)
