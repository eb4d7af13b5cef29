-- Terms as right sides: a head on types and operands; and variables with their wires.
use Rattle.std.specs.Prelude.{ℕ, List, [], ◌∷◌, ◌++◌, flat_map, slice_get, option_map, unwrap_or}
use Rattle.chw_base.specs.declared.index.WireId.{WireId}
use Rattle.chw_types.specs.TypeTree.{TypeTree, fun}
use Rattle.chw_terms.specs.TermTree.{TermTree, var, app, ty_app, Terms, no_terms, term_and}

-- what a term applies
abbrev pub head_of : TermTree → TermTree
head_of (app f a) = head_of f
head_of (ty_app f t) = head_of f
head_of e = e

-- the types to which it applies that, and the terms, the first one first
abbrev pub types_of : TermTree → List TypeTree
types_of (app f a) = types_of f
types_of (ty_app f t) = types_of f ++ t ∷ []
types_of e = []

abbrev pub operands_of : TermTree → List TermTree
operands_of (app f a) = operands_of f ++ a ∷ []
operands_of (ty_app f t) = operands_of f
operands_of e = []

abbrev pub list_of : Terms → List TermTree
list_of no_terms = []
list_of (term_and e es) = e ∷ list_of es

-- what a function gives in the end
abbrev pub result_of : TypeTree → TypeTree
result_of (fun a b) = result_of b
result_of t = t

-- a variable in scope: its type, and its wires
pub record Variable : Type 0 where
  pub ty : TypeTree
  pub wires : List WireId

abbrev pub variable : TypeTree → List WireId → Variable
variable t wires = record { ty = t; wires = wires }

-- the wires of a variable; the innermost is 0
abbrev pub wires_at : List Variable → ℕ → List WireId
wires_at scope x = unwrap_or (option_map (λ (v : Variable). v.wires) (slice_get scope x)) []

-- the wires of an operand, which is a variable
abbrev pub wires_of : List Variable → TermTree → List WireId
wires_of scope (var x) = wires_at scope x
wires_of scope e = []

-- the wires of operands, in order
abbrev pub wires_of_all : List Variable → List TermTree → List WireId
wires_of_all scope es = flat_map (wires_of scope) es
