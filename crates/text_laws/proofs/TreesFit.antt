-- The canonical tokens of a description that was read and isn't higher than the limit open no more brackets at once than the limit.
use Rattle.std.specs.Prelude.{ℕ, zero, suc, ◌≤◌, List, [], ◌∷◌, ◌++◌, false, refl}
use Rattle.std.specs.List.{flat_map}
use Rattle.std.proofs.Common.{subst, arith}
use Rattle.std.proofs.lemmas.List.{append-nil}
use Rattle.chw_base.specs.declared.limits.TheConstants.{NESTING}
use Rattle.chw_grammar.specs.declared.stand.Stand.TheVariants.{Alone, Simple}
use Rattle.chw_grammar.specs.declared.terminal.Terminal.TheVariants as the
use Rattle.chw_grammar.specs.declared.word.Word.{Word}
use Rattle.chw_grammar.specs.declared.program.Tree.{Tree}
use Rattle.chw_grammar.specs.declared.program.Top.{Top}
use Rattle.chw_grammar.specs.declared.program.Declaration.{Declaration}
use Rattle.chw_grammar.specs.declared.program.Parameter.{Parameter}
use Rattle.chw_grammar.specs.declared.program.Constructor.{Constructor}
use Rattle.chw_grammar.specs.Lexemes.{Lexeme}
use Rattle.chw_grammar.specs.Grammar.{AtomsAt, no_atom, atom, ConstructorAt, constructor, ConstructorsAt, no_constructor, one_more, DeclarationAt, domain_declared, reset_declared, definition_declared, data_declared, DeclarationsAt, no_declaration, declared, Reads}
use Rattle.chw_grammar.specs.Height.{types_height, constructors_height, declaration_height, declarations_height, tree_height}
use Rattle.chw_grammar.specs.TypeTree.{Ty}
use Rattle.chw_grammar.specs.TypeView.{types_of}
use Rattle.chw_grammar.specs.Text.{lower, upper, kind, sign, type_lexemes, term_lexemes, parameter_lexemes, fields_lexemes, constructor_lexemes, more_constructor_lexemes, reset_word, declaration_lexemes, port_lexemes, port_names_lexemes, ports_lexemes, top_lexemes, tree_lexemes}
use Rattle.chw_parser.specs.Faults.{ShallowFrom, Shallow}
use Rattle.text_laws.proofs.Fits.{Fits, fits_nothing, fits_append, fits_plain, fits_brackets, kind_plain, upper_plain}
use Rattle.text_laws.proofs.TypesFit.{type_fits, atom_fits}
use Rattle.text_laws.proofs.TermsFit.{term_fits}

parameter_fits : (k : ℕ) (p : Parameter) (more : List Lexeme) → Fits (suc k) more → Fits (suc k) (parameter_lexemes p ++ more)
parameter_fits k p more rest =
    fits_brackets k (sign the.Open) (sign the.Close) (lower p.name ∷ sign the.Colon ∷ kind p.kind ∷ []) more (λ n. refl) (λ n. omega arith)
    (fits_plain k (lower p.name) (sign the.Colon ∷ kind p.kind ∷ []) (λ n. refl) (fits_plain k (sign the.Colon) (kind p.kind ∷ []) (λ n. refl) (fits_plain k (kind p.kind) [] (kind_plain p.kind) (fits_nothing k)))) rest

parameters_fit : (k : ℕ) (ps : List Parameter) → Fits (suc k) (flat_map parameter_lexemes ps)
parameters_fit k [] = fits_nothing (suc k)
parameters_fit k (p ∷ ps) = parameter_fits k p (flat_map parameter_lexemes ps) (parameters_fit k ps)

fields_fit : {ts : List Ty} {a b : List Lexeme} → AtomsAt ts a b → (k : ℕ) → types_height (types_of ts) ≤ k → Fits k (fields_lexemes ts)
fields_fit no_atom = λ k low. fits_nothing k
fields_fit (atom {t = t} {ts = ts} b d more) = λ k low.
    let one = atom_fits d in
    let rest = fields_fit more in
    fits_append k (type_lexemes Simple t) (fields_lexemes ts) (one.there Simple k (omega (arith, low))) (rest k (omega (arith, low)))

constructor_fits : {x : Constructor} {a b : List Lexeme} → ConstructorAt x a b → (k : ℕ) → types_height (types_of x.fields) ≤ k → Fits k (constructor_lexemes x)
constructor_fits (constructor {w = w} {ts = ts} b h more) = λ k low. fits_plain k (upper w) (fields_lexemes ts) (upper_plain w) (fields_fit more k low)

constructors_fit : {xs : List Constructor} {a b : List Lexeme} → ConstructorsAt xs a b → (k : ℕ) → constructors_height xs ≤ k → Fits k (flat_map more_constructor_lexemes xs)
constructors_fit no_constructor = λ k low. fits_nothing k
constructors_fit (one_more {x = x} {xs = xs} b c h d more) = λ k low.
    let one = constructor_fits d in
    let rest = constructors_fit more in
    fits_plain k (sign the.Bar) (constructor_lexemes x ++ flat_map more_constructor_lexemes xs) (λ n. refl)
    (fits_append k (constructor_lexemes x) (flat_map more_constructor_lexemes xs) (one k (omega (arith, low))) (rest k (omega (arith, low))))

declaration_fits : {x : Declaration} {a b : List Lexeme} → DeclarationAt x a b → (k : ℕ) → declaration_height x ≤ suc k → Fits (suc k) (declaration_lexemes x)
declaration_fits (domain_declared {w = w} b c h1 h2 h3) = λ k low.
    fits_plain (suc k) (sign the.Domain) (upper w ∷ sign the.Semicolon ∷ []) (λ n. refl) (fits_plain (suc k) (upper w) (sign the.Semicolon ∷ []) (upper_plain w) (fits_plain (suc k) (sign the.Semicolon) [] (λ n. refl) (fits_nothing (suc k))))
declaration_fits (reset_declared {w = w} b c d h1 h2 h3 h4) = λ k low.
    fits_plain (suc k) (sign the.Domain) (upper w ∷ lower reset_word ∷ sign the.Semicolon ∷ []) (λ n. refl)
    (fits_plain (suc k) (upper w) (lower reset_word ∷ sign the.Semicolon ∷ []) (upper_plain w)
    (fits_plain (suc k) (lower reset_word) (sign the.Semicolon ∷ []) (λ n. refl) (fits_plain (suc k) (sign the.Semicolon) [] (λ n. refl) (fits_nothing (suc k)))))
declaration_fits (definition_declared {w = w} {t = t} {e = e} b c d f g h h1 h2 h3 ty h4 body h5) = λ k low.
    let of = type_fits ty in
    let inner = term_fits body in
    fits_plain (suc k) (sign the.Def) (lower w ∷ sign the.Colon ∷ (type_lexemes Alone t ++ sign the.Equals ∷ (term_lexemes false e ++ sign the.Semicolon ∷ []))) (λ n. refl)
    (fits_plain (suc k) (lower w) (sign the.Colon ∷ (type_lexemes Alone t ++ sign the.Equals ∷ (term_lexemes false e ++ sign the.Semicolon ∷ []))) (λ n. refl)
    (fits_plain (suc k) (sign the.Colon) (type_lexemes Alone t ++ sign the.Equals ∷ (term_lexemes false e ++ sign the.Semicolon ∷ [])) (λ n. refl)
    (fits_append (suc k) (type_lexemes Alone t) (sign the.Equals ∷ (term_lexemes false e ++ sign the.Semicolon ∷ [])) (of.alone (suc k) (omega (arith, low)))
    (fits_plain (suc k) (sign the.Equals) (term_lexemes false e ++ sign the.Semicolon ∷ []) (λ n. refl)
    (fits_append (suc k) (term_lexemes false e) (sign the.Semicolon ∷ []) (inner.alone (suc k) (omega (arith, low))) (fits_plain (suc k) (sign the.Semicolon) [] (λ n. refl) (fits_nothing (suc k))))))))
declaration_fits (data_declared {w = w} {ps = ps} {x = x} {xs = xs} b c d e f g h1 h2 params h3 first more h4) = λ k low.
    let one = constructor_fits first in
    let rest = constructors_fit more in
    fits_plain (suc k) (sign the.Data) (upper w ∷ (flat_map parameter_lexemes ps ++ sign the.Equals ∷ ((constructor_lexemes x ++ flat_map more_constructor_lexemes xs) ++ sign the.Semicolon ∷ []))) (λ n. refl)
    (fits_plain (suc k) (upper w) (flat_map parameter_lexemes ps ++ sign the.Equals ∷ ((constructor_lexemes x ++ flat_map more_constructor_lexemes xs) ++ sign the.Semicolon ∷ [])) (upper_plain w)
    (fits_append (suc k) (flat_map parameter_lexemes ps) (sign the.Equals ∷ ((constructor_lexemes x ++ flat_map more_constructor_lexemes xs) ++ sign the.Semicolon ∷ [])) (parameters_fit k ps)
    (fits_plain (suc k) (sign the.Equals) ((constructor_lexemes x ++ flat_map more_constructor_lexemes xs) ++ sign the.Semicolon ∷ []) (λ n. refl)
    (fits_append (suc k) (constructor_lexemes x ++ flat_map more_constructor_lexemes xs) (sign the.Semicolon ∷ [])
    (fits_append (suc k) (constructor_lexemes x) (flat_map more_constructor_lexemes xs) (one (suc k) (omega (arith, low))) (rest (suc k) (omega (arith, low))))
    (fits_plain (suc k) (sign the.Semicolon) [] (λ n. refl) (fits_nothing (suc k)))))))

declarations_fit : {xs : List Declaration} {a b : List Lexeme} → DeclarationsAt xs a b → (k : ℕ) → declarations_height xs ≤ suc k → Fits (suc k) (flat_map declaration_lexemes xs)
declarations_fit no_declaration = λ k low. fits_nothing (suc k)
declarations_fit (declared {x = x} {xs = xs} b d more) = λ k low.
    let one = declaration_fits d in
    let rest = declarations_fit more in
    fits_append (suc k) (declaration_lexemes x) (flat_map declaration_lexemes xs) (one k (omega (arith, low))) (rest k (omega (arith, low)))

ports_more_fit : (k : ℕ) (ws : List Word) → Fits k (flat_map port_lexemes ws)
ports_more_fit k [] = fits_nothing k
ports_more_fit k (w ∷ ws) = fits_plain k (sign the.Comma) (lower w ∷ flat_map port_lexemes ws) (λ n. refl) (fits_plain k (lower w) (flat_map port_lexemes ws) (λ n. refl) (ports_more_fit k ws))

port_names_fit : (k : ℕ) (ws : List Word) → Fits k (port_names_lexemes ws)
port_names_fit k [] = fits_nothing k
port_names_fit k (w ∷ ws) = fits_plain k (lower w) (flat_map port_lexemes ws) (λ n. refl) (ports_more_fit k ws)

ports_fit : (k : ℕ) (ws : List Word) → Fits (suc k) (ports_lexemes ws)
ports_fit k ws = fits_brackets k (sign the.Open) (sign the.Close) (port_names_lexemes ws) [] (λ n. refl) (λ n. omega arith) (port_names_fit k ws) (fits_nothing (suc k))

top_fits : (k : ℕ) (x : Top) → Fits (suc k) (top_lexemes x)
top_fits k x =
    fits_plain (suc k) (sign the.Top) (lower x.definition ∷ (ports_lexemes x.inputs ++ (ports_lexemes x.outputs ++ sign the.Semicolon ∷ []))) (λ n. refl)
    (fits_plain (suc k) (lower x.definition) (ports_lexemes x.inputs ++ (ports_lexemes x.outputs ++ sign the.Semicolon ∷ [])) (λ n. refl)
    (fits_append (suc k) (ports_lexemes x.inputs) (ports_lexemes x.outputs ++ sign the.Semicolon ∷ []) (ports_fit k x.inputs)
    (fits_append (suc k) (ports_lexemes x.outputs) (sign the.Semicolon ∷ []) (ports_fit k x.outputs) (fits_plain (suc k) (sign the.Semicolon) [] (λ n. refl) (fits_nothing (suc k))))))

pub canonical_shallow : (lexemes : List Lexeme) (tree : Tree) → Reads lexemes tree → tree_height tree ≤ NESTING → Shallow (tree_lexemes tree)
canonical_shallow lexemes tree r low =
    let fits = fits_append 199 (flat_map declaration_lexemes tree.declarations) (top_lexemes tree.top) (declarations_fit r.declared 198 (omega (arith, low))) (top_fits 198 tree.top) in
    subst (λ (z : List Lexeme). ShallowFrom zero z) (append-nil (tree_lexemes tree)) (fits zero [] (omega arith) tt)
