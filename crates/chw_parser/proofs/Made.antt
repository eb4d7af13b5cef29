-- What actions make of lists, the last item of which was read last.
use Rattle.std.specs.Prelude.{◌≡◌, Option, Some, List, [], ◌∷◌}
use Rattle.std.proofs.Common.{ap}
use Rattle.chw_grammar.specs.declared.word.Word.{Word}
use Rattle.chw_grammar.specs.declared.term_tree.Pattern.TheVariants as pattern
use Rattle.chw_grammar.specs.declared.term_tree.Binding.{Binding}
use Rattle.chw_grammar.specs.declared.term_tree.Alternative.{Alternative}
use Rattle.chw_grammar.specs.declared.program.Constructor.{Constructor}
use Rattle.chw_grammar.specs.declared.program.Parameter.{Parameter}
use Rattle.chw_grammar.specs.declared.program.Declaration.{Declaration}
use Rattle.chw_grammar.specs.declared.program.Declaration.TheVariants as declaration
use Rattle.chw_grammar.specs.TypeTree.{Ty, type_named}
use Rattle.chw_grammar.specs.TypeView.{types_of}
use Rattle.chw_grammar.specs.TermTree.{Tm, term_letrec, term_case, term_vec}
use Rattle.chw_grammar.specs.TermView.{terms_of, bindings_of, alternatives_of}
use Rattle.parser_parts.specs.declared.action.Action.TheVariants as action
use Rattle.parser_parts.specs.declared.value.Value.{Value}
use Rattle.parser_parts.specs.declared.value.Value.TheVariants.{OneWord, Words, OneType, Types, OneTerm, Terms, OnePattern, Bindings, Alternatives, Parameters, Constructors, Declarations, Whole}
use Rattle.parser_parts.specs.Actions.{made}
use Rattle.parser_parts.specs.Stacks.{onto}
use Rattle.chw_parser.proofs.Turned.{turned}

pub named_made : (w : Word) (ts : List Ty) (vs : List Value)
    → made action.Named (Types (onto ts []) ∷ OneWord w ∷ vs) ≡ Some (OneType (type_named w (types_of ts)) ∷ vs)
named_made w ts vs = let f : List Ty → Option (List Value) = λ xs. Some (OneType (type_named w (types_of xs)) ∷ vs) in ap f (turned ts)

pub pattern_made : (w : Word) (ws : List Word) (vs : List Value)
    → made action.ConstructorPattern (Words (onto ws []) ∷ OneWord w ∷ vs) ≡ Some (OnePattern (pattern.Constructor w ws) ∷ vs)
pattern_made w ws vs = let f : List Word → Option (List Value) = λ xs. Some (OnePattern (pattern.Constructor w xs) ∷ vs) in ap f (turned ws)

pub letrec_made : (bs : List Binding) (e : Tm) (vs : List Value)
    → made action.LetRec (OneTerm e ∷ Bindings (onto bs []) ∷ vs) ≡ Some (OneTerm (term_letrec (bindings_of bs) e) ∷ vs)
letrec_made bs e vs = let f : List Binding → Option (List Value) = λ xs. Some (OneTerm (term_letrec (bindings_of xs) e) ∷ vs) in ap f (turned bs)

pub case_made : (alts : List Alternative) (e : Tm) (vs : List Value)
    → made action.Case (Alternatives (onto alts []) ∷ OneTerm e ∷ vs) ≡ Some (OneTerm (term_case e (alternatives_of alts)) ∷ vs)
case_made alts e vs = let f : List Alternative → Option (List Value) = λ xs. Some (OneTerm (term_case e (alternatives_of xs)) ∷ vs) in ap f (turned alts)

pub vec_made : (es : List Tm) (t : Ty) (vs : List Value)
    → made action.VecLit (Terms (onto es []) ∷ OneType t ∷ vs) ≡ Some (OneTerm (term_vec t (terms_of es)) ∷ vs)
vec_made es t vs = let f : List Tm → Option (List Value) = λ xs. Some (OneTerm (term_vec t (terms_of xs)) ∷ vs) in ap f (turned es)

pub constructor_made : (ts : List Ty) (w : Word) (xs : List Constructor) (vs : List Value)
    → made action.Constructor (Types (onto ts []) ∷ OneWord w ∷ Constructors xs ∷ vs) ≡ Some (Constructors (record { name = w; fields = ts } ∷ xs) ∷ vs)
constructor_made ts w xs vs =
    let f : List Ty → Option (List Value) = λ us. Some (Constructors (record { name = w; fields = us } ∷ xs) ∷ vs) in ap f (turned ts)

pub data_made : (xs : List Constructor) (ps : List Parameter) (w : Word) (ds : List Declaration) (vs : List Value)
    → made action.DataType (Constructors (onto xs []) ∷ Parameters (onto ps []) ∷ OneWord w ∷ Declarations ds ∷ vs)
    ≡ Some (Declarations (declaration.Data w ps xs ∷ ds) ∷ vs)
data_made xs ps w ds vs = λ i. Some (Declarations (declaration.Data w (turned ps i) (turned xs i) ∷ ds) ∷ vs)

pub tree_made : (outs ins : List Word) (w : Word) (ds : List Declaration) (vs : List Value)
    → made action.Tree (Words (onto outs []) ∷ Words (onto ins []) ∷ OneWord w ∷ Declarations (onto ds []) ∷ vs)
    ≡ Some (Whole (record { declarations = ds; top = record { definition = w; inputs = ins; outputs = outs } }) ∷ vs)
tree_made outs ins w ds vs =
    λ i. Some (Whole (record { declarations = turned ds i; top = record { definition = w; inputs = turned ins i; outputs = turned outs i } }) ∷ vs)
