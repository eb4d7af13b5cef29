-- The heights of parts that were read, and what an action makes of them.
use Rattle.std.specs.Prelude.{ℕ, zero, suc, max, min, List, [], ◌∷◌, length, map}
use Rattle.chw_grammar.specs.TypeView.{types_of}
use Rattle.chw_grammar.specs.TermView.{terms_of, bindings_of, alternatives_of, arguments_of}
use Rattle.chw_grammar.specs.Height.{leaf, applied, chained, type_height, types_height, term_height, terms_height, bindings_height, alternatives_height, arguments_height, parameters_height, constructors_height, declarations_height, tree_height}
use Rattle.parser_parts.specs.declared.action.Action.{Action}
use Rattle.parser_parts.specs.declared.action.Action.TheVariants as act
use Rattle.parser_parts.specs.declared.heights.Measure.{Measure}
use Rattle.parser_parts.specs.declared.heights.Shape.{Shape}
use Rattle.parser_parts.specs.declared.heights.Shape.TheVariants as shape
use Rattle.parser_parts.specs.declared.value.Value.{Value}
use Rattle.parser_parts.specs.declared.value.Value.TheVariants.{OneWord, Words, OneKind, OneType, Types, OneTerm, Terms, OnePattern, Bindings, Alternatives, Arguments, Parameters, Constructors, Declarations, Whole}

-- the height of a part, and of the highest item of a list
abbrev pub value_height : Value → ℕ
value_height (OneWord w) = 0
value_height (Words ws) = 0
value_height (OneKind k) = leaf
value_height (OneType t) = type_height t
value_height (Types ts) = types_height (types_of ts)
value_height (OneTerm e) = term_height e
value_height (Terms es) = terms_height (terms_of es)
value_height (OnePattern q) = leaf
value_height (Bindings bs) = bindings_height (bindings_of bs)
value_height (Alternatives alts) = alternatives_height (alternatives_of alts)
value_height (Arguments xs) = arguments_height (arguments_of xs)
value_height (Parameters ps) = parameters_height ps
value_height (Constructors xs) = constructors_height xs
value_height (Declarations ds) = declarations_height ds
value_height (Whole tree) = tree_height tree

-- how many items a list has
abbrev pub value_count : Value → ℕ
value_count (Words ws) = length ws
value_count (Types ts) = length ts
value_count (Terms es) = length es
value_count (Bindings bs) = length bs
value_count (Alternatives alts) = length alts
value_count (Arguments xs) = length xs
value_count (Parameters ps) = length ps
value_count (Constructors xs) = length xs
value_count (Declarations ds) = length ds
value_count _ = 0

-- Heights and counts as they are kept: all that are well over the limit are one.
-- Counts go further, since a chain takes one off.
abbrev pub told : ℕ → ℕ
told n = min n 1000

abbrev pub counted : ℕ → ℕ
counted n = min n 2000

abbrev pub measure : Value → Measure
measure v = record { height = told (value_height v); count = counted (value_count v) }

abbrev pub measures : List Value → List Measure
measures vs = map measure vs

abbrev pub highest : List Measure → ℕ
highest [] = 0
highest (m ∷ ms) = max m.height (highest ms)

-- the newest, and the others
abbrev pub newest : List Measure → Measure
newest [] = record { height = 0; count = 0 }
newest (m ∷ ms) = m

abbrev pub others : List Measure → List Measure
others [] = []
others (m ∷ ms) = ms

-- the height of the highest of the n newest, and those behind them
abbrev pub peak : ℕ → List Measure → ℕ
peak zero ms = 0
peak (suc n) ms = max (newest ms).height (peak n (others ms))

abbrev pub beyond : ℕ → List Measure → List Measure
beyond zero ms = ms
beyond (suc n) ms = beyond n (others ms)

-- a part that is no list, and a list with one item more
abbrev pub single : ℕ → Measure
single h = record { height = told h; count = 0 }

abbrev pub longer : ℕ → Measure → Measure
longer h m = record { height = told (max h m.height); count = counted (suc m.count) }

abbrev pub raised : Shape → List Measure → List Measure
raised shape.NoItems ms = single 0 ∷ ms
raised shape.FirstItem ms = record { height = told (newest ms).height; count = 1 } ∷ others ms
raised (shape.Item n) ms = longer (peak n ms) (newest (beyond n ms)) ∷ others (beyond n ms)
raised (shape.NodeItem n) ms =
    longer (suc (peak n ms)) (newest (beyond n ms)) ∷ others (beyond n ms)
raised (shape.Node n) ms = single (suc (peak n ms)) ∷ beyond n ms
raised shape.Chain ms = single (chained (newest ms).count (newest ms).height) ∷ others ms
raised shape.Application ms = single (applied (newest ms).count (peak 2 ms)) ∷ beyond 2 ms

abbrev pub shape_of : Action → Shape
shape_of act.NoDeclarations = shape.NoItems
shape_of (act.Domain has_reset) = shape.NodeItem 1
shape_of act.Definition = shape.NodeItem 3
shape_of act.DataType = shape.NodeItem 3
shape_of act.NoParameters = shape.NoItems
shape_of act.Parameter = shape.Item 2
shape_of act.NoConstructors = shape.NoItems
shape_of act.Constructor = shape.Item 2
shape_of act.NoWords = shape.NoItems
shape_of act.Word = shape.Item 1
shape_of act.Tree = shape.Node 4
shape_of act.NoTypes = shape.NoItems
shape_of act.FirstType = shape.FirstItem
shape_of act.MoreType = shape.Item 1
shape_of act.Forall = shape.Node 3
shape_of act.Arrow = shape.Node 2
shape_of act.Sum = shape.Chain
shape_of act.Product = shape.Chain
shape_of act.Named = shape.Application
shape_of act.Variable = shape.Node 1
shape_of act.Numeral = shape.Node 1
shape_of act.Lambda = shape.Node 3
shape_of act.TypeLambda = shape.Node 3
shape_of act.NoBindings = shape.NoItems
shape_of act.Binding = shape.Item 3
shape_of act.LetRec = shape.Node 2
shape_of act.NoAlternatives = shape.NoItems
shape_of act.Alternative = shape.Item 2
shape_of act.ConstructorPattern = shape.Node 2
shape_of act.LiteralPattern = shape.Node 1
shape_of act.DefaultPattern = shape.Node 0
shape_of act.Case = shape.Node 2
shape_of act.NoArguments = shape.NoItems
shape_of act.TermArgument = shape.Item 1
shape_of act.TypeArgument = shape.Item 1
shape_of act.Apply = shape.Application
shape_of act.NameTerm = shape.Node 1
shape_of act.ConstructorTerm = shape.Node 1
shape_of act.LiteralTerm = shape.Node 1
shape_of act.NoTerms = shape.NoItems
shape_of act.MoreTerm = shape.Item 1
shape_of act.VecLit = shape.Node 2
