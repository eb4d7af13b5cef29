-- The limits on a tree, in the order in which they are looked for, each in the whole tree.
use Rattle.std.specs.Prelude.{ℕ, Bool, false, nat_lt, is_none, List, count_by, Option, Some, None, if◌then◌else◌, codes}
use Rattle.chw_base.specs.declared.limits.TheConstants.{DEFINITIONS, DATA_TYPES, DOMAINS, WRITTEN_VECTOR, LITERAL_VALUE_BITS, TYPE_NUMERAL_BITS}
use Rattle.chw_grammar.specs.declared.program.Tree.{Tree}
use Rattle.chw_limits.specs.declared.which.Limit.{Limit}
use Rattle.chw_limits.specs.declared.which.Which.{Which}
use Rattle.chw_limits.specs.declared.which.Which.TheVariants.{Definitions, Data, Domains, Vector, Number}
use Rattle.chw_grammar.specs.Literals.{number_of, within, literal_of}
use Rattle.chw_limits.specs.Parts.{Tests, tree_has, is_definition, is_data_type, is_domain}

-- no part of this sort
abbrev pub none : List ℕ → Bool
none bytes = false

-- written vectors of more elements than the limit
abbrev pub long_vectors : Tests
long_vectors = record { vector = nat_lt WRITTEN_VECTOR; literal = none; numeral = none }

-- literals whose value, without its sign, isn't below two to the 128
abbrev pub great_values : Tests
great_values =
    record { vector = λ n. false; literal = λ w. is_none (literal_of w).value; numeral = none }

-- numerals of types, and literals by their widths, that aren't below two to the 32
abbrev pub great_numbers : Tests
great_numbers =
    record {
      vector = λ n. false;
      literal = λ w. is_none (literal_of w).width;
      numeral = λ w. is_none (within TYPE_NUMERAL_BITS (number_of w));
    }

abbrev pub limit : Which → ℕ → Option Limit
limit which number = Some (record { which = which; number = number })

-- the first limit that the tree passes
abbrev pub limit_of : Tree → Option Limit
limit_of tree =
    if nat_lt DEFINITIONS (count_by is_definition tree.declarations) then limit Definitions DEFINITIONS
    else (if nat_lt DATA_TYPES (count_by is_data_type tree.declarations) then limit Data DATA_TYPES
    else (if nat_lt DOMAINS (count_by is_domain tree.declarations) then limit Domains DOMAINS
    else (if tree_has long_vectors tree then limit Vector WRITTEN_VECTOR
    else (if tree_has great_values tree then limit Number LITERAL_VALUE_BITS
    else (if tree_has great_numbers tree then limit Number TYPE_NUMERAL_BITS
    else None)))))

-- the word of what a limit is on
abbrev pub word_of : Which → List ℕ
word_of Definitions = codes "definitions"
word_of Data = codes "data"
word_of Domains = codes "domains"
word_of Vector = codes "vector"
word_of Number = codes "number"
