-- What the grammar reads as a type, the symbols read.
use Rattle.std.specs.Prelude.{◌≡◌, true, false, List, [], ◌∷◌, refl}
use Rattle.std.proofs.Common.{ap}
use Rattle.chw_grammar.specs.declared.terminal.Terminal.TheVariants as the
use Rattle.chw_grammar.specs.Lexemes.{Lexeme, next}
use Rattle.chw_grammar.specs.Grammar.{is_lower, is_upper, is_numeral, TypeAt, forall_type, sum_type, arrow_type, SumAt, one_product, sum_of, SummandsAt, no_summand, summand, ProductAt, one_factor, product_of, FactorsAt, no_factor, factor, AppliedAt, named_type, atom_type, AtomsAt, no_atom as no_more_atom, atom, AtomAt, variable_type, name_type, numeral_type, bracketed_type}
use Rattle.chw_grammar.specs.TypeTree.{Ty, type_sum, type_product, type_named}
use Rattle.chw_grammar.specs.TypeView.{types_of}
use Rattle.chw_parser.specs.declared.symbol.Symbol.{Symbol}
use Rattle.chw_parser.specs.declared.symbol.Symbol.TheVariants.{Part}
use Rattle.chw_parser.specs.declared.symbol.WordSort.TheVariants as sort
use Rattle.chw_parser.specs.declared.symbol.Rule.TheVariants as rule
use Rattle.parser_parts.specs.declared.value.Value.{Value}
use Rattle.parser_parts.specs.declared.value.Value.TheVariants.{OneType, Types}
use Rattle.chw_parser.specs.Follow.{begins_atom, after_product, after_sum, after_type}
use Rattle.chw_parser.proofs.Made.{named_made}
use Rattle.chw_parser.specs.Machine.{Runs, part, act}
use Rattle.chw_parser.specs.Productions.{production}
use Rattle.parser_parts.specs.Stacks.{onto}
use Rattle.chw_parser.proofs.Choices.{no_arrow, type_sum as type_to_sum, sum_product, product_atom, no_plus, no_more_plus, no_star, no_more_star, no_atom, some_atom, some_sum, upper_begins, lower_is, numeral_is, upper_applied, upper_atom}
use Rattle.chw_parser.proofs.Steps.{takes_next, word_next, tokens_run, word_runs, kind_runs}

-- with which tokens types begin

pub atom_begins : {t : Ty} {a b : List Lexeme} → AtomAt t a b → begins_atom (next a) ≡ true
atom_begins {a = a} {b = b} (variable_type {w = w} h) = ap begins_atom (lower_is (next a) (word_next is_lower w a b h))
atom_begins {a = a} {b = b} (name_type {w = w} h) = upper_begins (next a) (word_next is_upper w a b h)
atom_begins {a = a} {b = b} (numeral_type {w = w} h) = ap begins_atom (numeral_is (next a) (word_next is_numeral w a b h))
atom_begins {a = a} (bracketed_type b c h d i) = ap begins_atom (takes_next the.Open [] a b h)

pub applied_begins : {t : Ty} {a b : List Lexeme} → AppliedAt t a b → begins_atom (next a) ≡ true
applied_begins {a = a} (named_type {w = w} ts b h d) = upper_begins (next a) (word_next is_upper w a b h)
applied_begins (atom_type d) = atom_begins d

pub product_begins : {t : Ty} {a b : List Lexeme} → ProductAt t a b → begins_atom (next a) ≡ true
product_begins (one_factor d) = applied_begins d
product_begins (product_of t u ts b c d p h q more) = applied_begins p

pub sum_begins : {t : Ty} {a b : List Lexeme} → SumAt t a b → begins_atom (next a) ≡ true
sum_begins (one_product d) = product_begins d
sum_begins (sum_of t u ts b c d p h q more) = product_begins p

-- before what is left of a sum or product, a part of it doesn't go on

summands_stop : {ts : List Ty} {a b : List Lexeme} → SummandsAt ts a b → after_sum (next b) ≡ false → after_product (next a) ≡ false
summands_stop {b = b} no_summand stop = sum_product (next b) stop
summands_stop {a = a} (summand b c h p more) stop = ap after_product (takes_next the.Plus [] a b h)

factors_stop : {ts : List Ty} {a b : List Lexeme} → FactorsAt ts a b → after_product (next b) ≡ false → begins_atom (next a) ≡ false
factors_stop {b = b} no_factor stop = product_atom (next b) stop
factors_stop {a = a} (factor b c h p more) stop = ap begins_atom (takes_next the.Star [] a b h)

-- a simple type where an upper name with arguments might stand

atom_as_applied : {t : Ty} {a b : List Lexeme} → AtomAt t a b → begins_atom (next b) ≡ false
    → {s : List Symbol} {vs out : List Value} → Runs s b (OneType t ∷ vs) out → Runs (Part rule.Atom ∷ s) a vs out → Runs (Part rule.Applied ∷ s) a vs out
atom_as_applied {a = a} {b = b} (variable_type {w = w} h) stop r whole =
    part _ (ap (production rule.Applied) (lower_is (next a) (word_next is_lower w a b h))) whole
atom_as_applied {a = a} {b = b} (name_type {w = w} h) stop r whole =
    part _ (upper_applied (next a) (word_next is_upper w a b h))
    (word_runs sort.Upper h (act _ refl (part _ (no_atom (next b) stop) (act _ refl r))))
atom_as_applied {a = a} {b = b} (numeral_type {w = w} h) stop r whole =
    part _ (ap (production rule.Applied) (numeral_is (next a) (word_next is_numeral w a b h))) whole
atom_as_applied {a = a} (bracketed_type b c h d i) stop r whole =
    part _ (ap (production rule.Applied) (takes_next the.Open [] a b h)) whole

mutual
  pub type_runs : {t : Ty} {a b : List Lexeme} → TypeAt t a b → after_type (next b) ≡ false
      → {s : List Symbol} {vs out : List Value} → Runs s b (OneType t ∷ vs) out → Runs (Part rule.Type ∷ s) a vs out
  type_runs {a = a} (forall_type {k = k} b c d e f h1 h2 h3 h4 h5 body) stop r =
      part _ (ap (production rule.Type) (takes_next the.Forall (the.Open ∷ []) a b h1))
      (tokens_run (the.Forall ∷ the.Open ∷ []) h1 (word_runs sort.Lower h2 (tokens_run (the.Colon ∷ []) h3 (kind_runs k h4
      (tokens_run (the.Close ∷ the.Dot ∷ []) h5 (type_runs body stop (act _ refl r)))))))
  type_runs {a = a} {b = b} (sum_type d) stop r =
      part _ (some_sum (next a) (sum_begins d)) (sum_runs d (type_to_sum (next b) stop) (part _ (no_arrow (next b) stop) r))
  type_runs {a = a} (arrow_type b c d h e) stop r =
      part _ (some_sum (next a) (sum_begins d)) (sum_runs d (ap after_sum (takes_next the.Arrow [] b c h))
      (part _ (ap (production rule.ArrowTail) (takes_next the.Arrow [] b c h)) (tokens_run (the.Arrow ∷ []) h (type_runs e stop (act _ refl r)))))

  pub sum_runs : {t : Ty} {a b : List Lexeme} → SumAt t a b → after_sum (next b) ≡ false
      → {s : List Symbol} {vs out : List Value} → Runs s b (OneType t ∷ vs) out → Runs (Part rule.Product ∷ Part rule.SumTail ∷ s) a vs out
  sum_runs {b = b} (one_product d) stop r = product_runs d (sum_product (next b) stop) (part _ (no_plus (next b) stop) r)
  sum_runs (sum_of t u ts b c d p h q more) stop r =
      product_runs p (ap after_product (takes_next the.Plus [] b c h))
      (part _ (ap (production rule.SumTail) (takes_next the.Plus [] b c h))
      (act _ refl (tokens_run (the.Plus ∷ []) h (product_runs q (summands_stop more stop) (act _ refl (summands_run more stop (u ∷ t ∷ []) r))))))

  pub summands_run : {ts : List Ty} {a b : List Lexeme} → SummandsAt ts a b → after_sum (next b) ≡ false → (done : List Ty)
      → {s : List Symbol} {vs out : List Value} → Runs s b (OneType (type_sum (types_of (onto done ts))) ∷ vs) out
      → Runs (Part rule.SumMore ∷ s) a (Types done ∷ vs) out
  summands_run {b = b} no_summand stop done r = part _ (no_more_plus (next b) stop) (act _ refl r)
  summands_run {a = a} (summand {t = t} b c h p more) stop done r =
      part _ (ap (production rule.SumMore) (takes_next the.Plus [] a b h))
      (tokens_run (the.Plus ∷ []) h (product_runs p (summands_stop more stop) (act _ refl (summands_run more stop (t ∷ done) r))))

  pub product_runs : {t : Ty} {a b : List Lexeme} → ProductAt t a b → after_product (next b) ≡ false
      → {s : List Symbol} {vs out : List Value} → Runs s b (OneType t ∷ vs) out → Runs (Part rule.Product ∷ s) a vs out
  product_runs {b = b} (one_factor d) stop r = part _ refl (applied_runs d (product_atom (next b) stop) (part _ (no_star (next b) stop) r))
  product_runs (product_of t u ts b c d p h q more) stop r =
      part _ refl (applied_runs p (ap begins_atom (takes_next the.Star [] b c h))
      (part _ (ap (production rule.ProductTail) (takes_next the.Star [] b c h))
      (act _ refl (tokens_run (the.Star ∷ []) h (applied_runs q (factors_stop more stop) (act _ refl (factors_run more stop (u ∷ t ∷ []) r)))))))

  pub factors_run : {ts : List Ty} {a b : List Lexeme} → FactorsAt ts a b → after_product (next b) ≡ false → (done : List Ty)
      → {s : List Symbol} {vs out : List Value} → Runs s b (OneType (type_product (types_of (onto done ts))) ∷ vs) out
      → Runs (Part rule.ProductMore ∷ s) a (Types done ∷ vs) out
  factors_run {b = b} no_factor stop done r = part _ (no_more_star (next b) stop) (act _ refl r)
  factors_run {a = a} (factor {t = t} b c h p more) stop done r =
      part _ (ap (production rule.ProductMore) (takes_next the.Star [] a b h))
      (tokens_run (the.Star ∷ []) h (applied_runs p (factors_stop more stop) (act _ refl (factors_run more stop (t ∷ done) r))))

  pub applied_runs : {t : Ty} {a b : List Lexeme} → AppliedAt t a b → begins_atom (next b) ≡ false
      → {s : List Symbol} {vs out : List Value} → Runs s b (OneType t ∷ vs) out → Runs (Part rule.Applied ∷ s) a vs out
  applied_runs {a = a} (named_type {w = w} ts b h more) stop {vs = vs} r =
      part _ (upper_applied (next a) (word_next is_upper w a b h)) (word_runs sort.Upper h (act _ refl (atoms_run more stop [] (act (OneType (type_named w (types_of ts)) ∷ vs) (named_made w ts vs) r))))
  applied_runs (atom_type d) stop r = atom_as_applied d stop r (atom_runs d r)

  pub atoms_run : {ts : List Ty} {a b : List Lexeme} → AtomsAt ts a b → begins_atom (next b) ≡ false → (done : List Ty)
      → {s : List Symbol} {vs out : List Value} → Runs s b (Types (onto ts done) ∷ vs) out
      → Runs (Part rule.Atoms ∷ s) a (Types done ∷ vs) out
  atoms_run {b = b} no_more_atom stop done r = part _ (no_atom (next b) stop) r
  atoms_run {a = a} (atom {t = t} b d more) stop done r =
      part _ (some_atom (next a) (atom_begins d)) (atom_runs d (act _ refl (atoms_run more stop (t ∷ done) r)))

  pub atom_runs : {t : Ty} {a b : List Lexeme} → AtomAt t a b
      → {s : List Symbol} {vs out : List Value} → Runs s b (OneType t ∷ vs) out → Runs (Part rule.Atom ∷ s) a vs out
  atom_runs {a = a} {b = b} (variable_type {w = w} h) r =
      part _ (ap (production rule.Atom) (lower_is (next a) (word_next is_lower w a b h))) (word_runs sort.Lower h (act _ refl r))
  atom_runs {a = a} {b = b} (name_type {w = w} h) r =
      part _ (upper_atom (next a) (word_next is_upper w a b h)) (word_runs sort.Upper h (act _ refl (act _ refl r)))
  atom_runs {a = a} {b = b} (numeral_type {w = w} h) r =
      part _ (ap (production rule.Atom) (numeral_is (next a) (word_next is_numeral w a b h))) (word_runs sort.Numeral h (act _ refl r))
  atom_runs {a = a} (bracketed_type b c h d i) r =
      part _ (ap (production rule.Atom) (takes_next the.Open [] a b h))
      (tokens_run (the.Open ∷ []) h (type_runs d (ap after_type (takes_next the.Close [] c _ i)) (tokens_run (the.Close ∷ []) i r)))
