-- What the grammar reads as a description, the symbols read.
use Rattle.std.specs.Prelude.{◌≡◌, false, List, [], ◌∷◌, refl}
use Rattle.std.proofs.Common.{ap}
use Rattle.chw_grammar.specs.declared.terminal.Terminal.TheVariants as the
use Rattle.chw_grammar.specs.declared.word.Word.{Word}
use Rattle.chw_grammar.specs.declared.program.Constructor.{Constructor}
use Rattle.chw_grammar.specs.declared.program.Parameter.{Parameter}
use Rattle.chw_grammar.specs.declared.program.Declaration.{Declaration}
use Rattle.chw_grammar.specs.declared.program.Declaration.TheVariants as declaration
use Rattle.chw_grammar.specs.declared.program.Top.{Top}
use Rattle.chw_grammar.specs.declared.program.Tree.{Tree}
use Rattle.chw_grammar.specs.Lexemes.{Lexeme, next}
use Rattle.chw_grammar.specs.Grammar.{is_lower, ParametersAt, no_parameter, parameter, ConstructorAt, constructor, ConstructorsAt, no_constructor, one_more, DeclarationAt, domain_declared, reset_declared, definition_declared, data_declared, DeclarationsAt, no_declaration, declared, MorePortsAt, no_port, port, PortsAt, ports, InputNamesAt, no_input, input_names, InputsAt, inputs, TopAt, top, Reads}
use Rattle.parser_parts.specs.declared.action.Action.TheVariants as action
use Rattle.chw_parser.specs.declared.symbol.Symbol.{Symbol}
use Rattle.chw_parser.specs.declared.symbol.Symbol.TheVariants.{Part, Act, Token}
use Rattle.chw_parser.specs.declared.symbol.WordSort.TheVariants as sort
use Rattle.chw_parser.specs.declared.symbol.Rule.TheVariants as rule
use Rattle.parser_parts.specs.declared.value.Value.{Value}
use Rattle.parser_parts.specs.declared.value.Value.TheVariants.{Words, Parameters, Constructors, Declarations, Whole}
use Rattle.chw_parser.specs.Follow.{begins_atom, after_type, after_term}
use Rattle.chw_parser.specs.Machine.{Runs, all_read, part, act}
use Rattle.chw_parser.specs.Productions.{production}
use Rattle.parser_parts.specs.Stacks.{onto}
use Rattle.chw_parser.proofs.Choices.{lower_is}
use Rattle.chw_parser.proofs.Made.{constructor_made, data_made, tree_made}
use Rattle.chw_parser.proofs.ReadTypes.{type_runs, atoms_run}
use Rattle.chw_parser.proofs.ReadTerms.{term_runs}
use Rattle.chw_parser.proofs.Steps.{takes_next, word_next, tokens_run, word_runs, kind_runs, reset_runs}

pub parameters_run : {ps : List Parameter} {a b : List Lexeme} → ParametersAt ps a b → next b ≡ the.Equals → (done : List Parameter)
    → {s : List Symbol} {vs out : List Value} → Runs s b (Parameters (onto ps done) ∷ vs) out → Runs (Part rule.Parameters ∷ s) a (Parameters done ∷ vs) out
parameters_run no_parameter stop done r = part _ (ap (production rule.Parameters) stop) r
parameters_run {a = a} (parameter {w = w} {k = k} b c d e f h1 h2 h3 h4 h5 more) stop done r =
    part _ (ap (production rule.Parameters) (takes_next the.Open [] a b h1))
    (tokens_run (the.Open ∷ []) h1 (word_runs sort.Lower h2 (tokens_run (the.Colon ∷ []) h3 (kind_runs k h4
    (tokens_run (the.Close ∷ []) h5 (act _ refl (parameters_run more stop (record { name = w; kind = k } ∷ done) r)))))))

pub constructor_runs : {x : Constructor} {a b : List Lexeme} → ConstructorAt x a b → begins_atom (next b) ≡ false → {done : List Constructor}
    → {s : List Symbol} {vs out : List Value} → Runs s b (Constructors (x ∷ done) ∷ vs) out
    → Runs (Part rule.Constructor ∷ s) a (Constructors done ∷ vs) out
constructor_runs (constructor {w = w} {ts = ts} b h more) stop {done = done} {vs = vs} r =
    part _ refl (word_runs sort.Upper h (act _ refl (atoms_run more stop []
    (act (Constructors (record { name = w; fields = ts } ∷ done) ∷ vs) (constructor_made ts w done vs) r))))

constructors_stop : {xs : List Constructor} {a b : List Lexeme} → ConstructorsAt xs a b → next b ≡ the.Semicolon → begins_atom (next a) ≡ false
constructors_stop no_constructor stop = ap begins_atom stop
constructors_stop {a = a} (one_more b c h d more) stop = ap begins_atom (takes_next the.Bar [] a b h)

pub constructors_run : {xs : List Constructor} {a b : List Lexeme} → ConstructorsAt xs a b → next b ≡ the.Semicolon → (done : List Constructor)
    → {s : List Symbol} {vs out : List Value} → Runs s b (Constructors (onto xs done) ∷ vs) out
    → Runs (Part rule.Constructors ∷ s) a (Constructors done ∷ vs) out
constructors_run no_constructor stop done r = part _ (ap (production rule.Constructors) stop) r
constructors_run {a = a} (one_more {x = x} b c h d more) stop done r =
    part _ (ap (production rule.Constructors) (takes_next the.Bar [] a b h))
    (tokens_run (the.Bar ∷ []) h (constructor_runs d (constructors_stop more stop) (constructors_run more stop (x ∷ done) r)))

more_ports_run : {ws : List Word} {a b : List Lexeme} → MorePortsAt ws a b → next b ≡ the.Close → (done : List Word)
    → {s : List Symbol} {vs out : List Value} → Runs s b (Words (onto ws done) ∷ vs) out → Runs (Part rule.Ports ∷ s) a (Words done ∷ vs) out
more_ports_run no_port stop done r = part _ (ap (production rule.Ports) stop) r
more_ports_run {a = a} (port {w = w} b c h h2 more) stop done r =
    part _ (ap (production rule.Ports) (takes_next the.Comma [] a b h))
    (tokens_run (the.Comma ∷ []) h (word_runs sort.Lower h2 (act _ refl (more_ports_run more stop (w ∷ done) r))))

pub ports_run : {ws : List Word} {a b : List Lexeme} → PortsAt ws a b
    → {s : List Symbol} {vs out : List Value} → Runs s b (Words (onto ws []) ∷ vs) out
    → Runs (Token the.Open ∷ Act action.NoWords ∷ Symbol.Word sort.Lower ∷ Act action.Word ∷ Part rule.Ports ∷ Token the.Close ∷ s) a vs out
ports_run {b = last} (ports {w = w} b c d h1 h2 more h3) r =
    tokens_run (the.Open ∷ []) h1 (act _ refl (word_runs sort.Lower h2 (act _ refl (more_ports_run more (takes_next the.Close [] d last h3) (w ∷ [])
    (tokens_run (the.Close ∷ []) h3 r)))))

input_names_run : {ws : List Word} {a b : List Lexeme} → InputNamesAt ws a b → next b ≡ the.Close
    → {s : List Symbol} {vs out : List Value} → Runs s b (Words (onto ws []) ∷ vs) out → Runs (Part rule.Inputs ∷ s) a (Words [] ∷ vs) out
input_names_run no_input stop r = part _ (ap (production rule.Inputs) stop) r
input_names_run {a = a} (input_names {w = w} b h more) stop r =
    part _ (ap (production rule.Inputs) (lower_is (next a) (word_next is_lower w a b h)))
    (word_runs sort.Lower h (act _ refl (more_ports_run more stop (w ∷ []) r)))

pub inputs_run : {ws : List Word} {a b : List Lexeme} → InputsAt ws a b
    → {s : List Symbol} {vs out : List Value} → Runs s b (Words (onto ws []) ∷ vs) out
    → Runs (Token the.Open ∷ Act action.NoWords ∷ Part rule.Inputs ∷ Token the.Close ∷ s) a vs out
inputs_run {b = last} (inputs b c h1 names h2) r =
    tokens_run (the.Open ∷ []) h1 (act _ refl (input_names_run names (takes_next the.Close [] c last h2) (tokens_run (the.Close ∷ []) h2 r)))

declaration_runs : {x : Declaration} {a b : List Lexeme} → DeclarationAt x a b → {done : List Declaration}
    → {s : List Symbol} {vs out : List Value} → Runs (Part rule.Declarations ∷ s) b (Declarations (x ∷ done) ∷ vs) out
    → Runs (Part rule.Declarations ∷ s) a (Declarations done ∷ vs) out
declaration_runs {a = a} {b = last} (domain_declared b c h1 h2 h3) r =
    part _ (ap (production rule.Declarations) (takes_next the.Domain [] a b h1))
    (tokens_run (the.Domain ∷ []) h1 (word_runs sort.Upper h2
    (part _ (ap (production rule.DomainEnd) (takes_next the.Semicolon [] c last h3)) (tokens_run (the.Semicolon ∷ []) h3 (act _ refl r)))))
declaration_runs {a = a} (reset_declared b c d h1 h2 h3 h4) r =
    part _ (ap (production rule.Declarations) (takes_next the.Domain [] a b h1))
    (tokens_run (the.Domain ∷ []) h1 (word_runs sort.Upper h2
    (part _ (ap (production rule.DomainEnd) (lower_is (next c) (word_next is_lower h3.0 c d h3.1)))
    (reset_runs h3 (tokens_run (the.Semicolon ∷ []) h4 (act _ refl r))))))
declaration_runs {a = a} {b = last} (definition_declared b c d f g h h1 h2 h3 t h4 e h5) r =
    part _ (ap (production rule.Declarations) (takes_next the.Def [] a b h1))
    (tokens_run (the.Def ∷ []) h1 (word_runs sort.Lower h2 (tokens_run (the.Colon ∷ []) h3 (type_runs t (ap after_type (takes_next the.Equals [] f g h4))
    (tokens_run (the.Equals ∷ []) h4 (term_runs e (ap after_term (takes_next the.Semicolon [] h last h5))
    (tokens_run (the.Semicolon ∷ []) h5 (act _ refl r))))))))
declaration_runs {a = a} {b = last} (data_declared {w = w} {ps = ps} {x = x} {xs = xs} b c d e f g h1 h2 params h3 first more h4) {done = done} {vs = vs} r =
    part _ (ap (production rule.Declarations) (takes_next the.Data [] a b h1))
    (tokens_run (the.Data ∷ []) h1 (word_runs sort.Upper h2 (act _ refl (parameters_run params (takes_next the.Equals [] d e h3) []
    (tokens_run (the.Equals ∷ []) h3 (act _ refl (constructor_runs first (constructors_stop more (takes_next the.Semicolon [] g last h4))
    (constructors_run more (takes_next the.Semicolon [] g last h4) (x ∷ [])
    (tokens_run (the.Semicolon ∷ []) h4 (act (Declarations (declaration.Data w ps (x ∷ xs) ∷ done) ∷ vs) (data_made (x ∷ xs) ps w done vs) r))))))))))

declarations_run : {xs : List Declaration} {a b : List Lexeme} → DeclarationsAt xs a b → {done : List Declaration}
    → {s : List Symbol} {vs out : List Value} → Runs (Part rule.Declarations ∷ s) b (Declarations (onto xs done) ∷ vs) out
    → Runs (Part rule.Declarations ∷ s) a (Declarations done ∷ vs) out
declarations_run no_declaration r = r
declarations_run (declared b d more) r = declaration_runs d (declarations_run more r)

-- what stands for a description, before any token is read
abbrev pub start : List Symbol
start = Part rule.Program ∷ []

top_runs : {x : Top} {a : List Lexeme} → TopAt x a [] → (ds : List Declaration)
    → Runs (Part rule.Declarations ∷ []) a (Declarations (onto ds []) ∷ []) (Whole (record { declarations = ds; top = x }) ∷ [])
top_runs {a = a} (top {w = w} {ins = ins} {outs = outs} b c d e h1 h2 first second h3) ds =
    part _ (ap (production rule.Declarations) (takes_next the.Top [] a b h1))
    (tokens_run (the.Top ∷ []) h1 (word_runs sort.Lower h2 (inputs_run first (ports_run second (tokens_run (the.Semicolon ∷ []) h3
    (act (Whole (record { declarations = ds; top = record { definition = w; inputs = ins; outputs = outs } }) ∷ []) (tree_made outs ins w ds []) all_read))))))

pub tree_runs : (a : List Lexeme) (tree : Tree) → Reads a tree → Runs start a [] (Whole tree ∷ [])
tree_runs a tree r = part _ refl (act _ refl (declarations_run r.declared (top_runs r.topped tree.declarations)))
