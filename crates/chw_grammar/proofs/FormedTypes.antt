-- The canonical tokens of a type that was read from tokens with their forms have theirs.
use Rattle.std.specs.Prelude.{List, [], ◌∷◌, ◌++◌, refl}
use Rattle.chw_grammar.specs.declared.stand.Stand.{Stand}
use Rattle.chw_grammar.specs.declared.stand.Stand.TheVariants.{Alone, Left, Summand, Factor, Simple}
use Rattle.chw_grammar.specs.declared.terminal.Terminal.TheVariants as the
use Rattle.chw_grammar.specs.declared.type_tree.KindTree.{KindTree}
use Rattle.chw_grammar.specs.Lexemes.{Lexeme, kind_terminal}
use Rattle.chw_grammar.specs.Grammar.{KindAt, TypeAt, forall_type, sum_type, arrow_type, SumAt, one_product, sum_of, SummandsAt, no_summand, summand, ProductAt, one_factor, product_of, FactorsAt, no_factor, factor, AppliedAt, named_type, atom_type, AtomsAt, no_atom, atom, AtomAt, variable_type, name_type, numeral_type, bracketed_type}
use Rattle.chw_grammar.specs.TypeTree.{Ty, no_types}
use Rattle.chw_grammar.specs.TypeView.{types_of}
use Rattle.chw_grammar.specs.Text.{sign, closes_arrow, closes_sum, closes_product, closes_named, type_lexemes, more_lexemes, types_lexemes}
use Rattle.chw_grammar.proofs.Formed.{Formed, formed_append, formed_closed, kind_formed, takes_formed, lower_formed, upper_formed, numeral_formed}

-- wherever the type stands
abbrev pub TypeFormed : Ty → Type 0
TypeFormed t = (p : Stand) → Formed (type_lexemes p t)

pub kind_at_formed : (k : KindTree) (a b : List Lexeme) → KindAt k a b → Formed a → Formed b
kind_at_formed k = takes_formed (kind_terminal k ∷ [])

mutual
  pub type_formed : {t : Ty} {a b : List Lexeme} → TypeAt t a b → Formed a → TypeFormed t × Formed b
  type_formed (forall_type {w = w} {k = k} {a = a} b c d e f h1 h2 h3 h4 h5 body) given =
      let name = lower_formed w b c h2 (takes_formed (the.Forall ∷ the.Open ∷ []) a b h1 given) in
      let inner = type_formed body (takes_formed (the.Close ∷ the.Dot ∷ []) e f h5 (kind_at_formed k d e h4 (takes_formed (the.Colon ∷ []) c d h3 name.1))) in
      ((λ p. formed_closed (closes_arrow p) _ (refl, (refl, (name.0, (refl, (kind_formed k, (refl, (refl, inner.0 Alone)))))))), inner.1)
  type_formed (sum_type d) given = sum_formed d given
  type_formed (arrow_type {t = t} {u = u} b c h1 h2 h3) given =
      let from = sum_formed h1 given in
      let to = type_formed h3 (takes_formed (the.Arrow ∷ []) b c h2 from.1) in
      ((λ p. formed_closed (closes_arrow p) _ (formed_append (type_lexemes Left t) (sign the.Arrow ∷ type_lexemes Alone u) (from.0 Left) (refl, to.0 Alone))), to.1)

  pub sum_formed : {t : Ty} {a b : List Lexeme} → SumAt t a b → Formed a → TypeFormed t × Formed b
  sum_formed (one_product d) given = product_formed d given
  sum_formed (sum_of t u ts b c d h1 h2 h3 more) given =
      let one = product_formed h1 given in
      let two = product_formed h3 (takes_formed (the.Plus ∷ []) b c h2 one.1) in
      let rest = summands_formed more two.1 in
      ((λ p. formed_closed (closes_sum p) _ (formed_append (type_lexemes Summand t) (sign the.Plus ∷ (type_lexemes Summand u ++ more_lexemes Summand the.Plus (types_of ts))) (one.0 Summand) (refl, formed_append (type_lexemes Summand u) (more_lexemes Summand the.Plus (types_of ts)) (two.0 Summand) rest.0))), rest.1)

  summands_formed : {ts : List Ty} {a b : List Lexeme} → SummandsAt ts a b → Formed a → Formed (more_lexemes Summand the.Plus (types_of ts)) × Formed b
  summands_formed no_summand given = (tt, given)
  summands_formed (summand {t = t} {ts = ts} {a = a} b c h1 h2 more) given =
      let one = product_formed h2 (takes_formed (the.Plus ∷ []) a b h1 given) in
      let rest = summands_formed more one.1 in
      ((refl, formed_append (type_lexemes Summand t) (more_lexemes Summand the.Plus (types_of ts)) (one.0 Summand) rest.0), rest.1)

  product_formed : {t : Ty} {a b : List Lexeme} → ProductAt t a b → Formed a → TypeFormed t × Formed b
  product_formed (one_factor d) given = applied_formed d given
  product_formed (product_of t u ts b c d h1 h2 h3 more) given =
      let one = applied_formed h1 given in
      let two = applied_formed h3 (takes_formed (the.Star ∷ []) b c h2 one.1) in
      let rest = factors_formed more two.1 in
      ((λ p. formed_closed (closes_product p) _ (formed_append (type_lexemes Factor t) (sign the.Star ∷ (type_lexemes Factor u ++ more_lexemes Factor the.Star (types_of ts))) (one.0 Factor) (refl, formed_append (type_lexemes Factor u) (more_lexemes Factor the.Star (types_of ts)) (two.0 Factor) rest.0))), rest.1)

  factors_formed : {ts : List Ty} {a b : List Lexeme} → FactorsAt ts a b → Formed a → Formed (more_lexemes Factor the.Star (types_of ts)) × Formed b
  factors_formed no_factor given = (tt, given)
  factors_formed (factor {t = t} {ts = ts} {a = a} b c h1 h2 more) given =
      let one = applied_formed h2 (takes_formed (the.Star ∷ []) a b h1 given) in
      let rest = factors_formed more one.1 in
      ((refl, formed_append (type_lexemes Factor t) (more_lexemes Factor the.Star (types_of ts)) (one.0 Factor) rest.0), rest.1)

  applied_formed : {t : Ty} {a b : List Lexeme} → AppliedAt t a b → Formed a → TypeFormed t × Formed b
  applied_formed (named_type {w = w} ts {a = a} b h more) given =
      let name = upper_formed w a b h given in
      let rest = atoms_formed more name.1 in
      ((λ p. formed_closed (closes_named p (types_of ts)) _ (name.0, rest.0)), rest.1)
  applied_formed (atom_type d) given = atom_formed d given

  pub atoms_formed : {ts : List Ty} {a b : List Lexeme} → AtomsAt ts a b → Formed a → Formed (types_lexemes (types_of ts)) × Formed b
  atoms_formed no_atom given = (tt, given)
  atoms_formed (atom {t = t} {ts = ts} b d more) given =
      let one = atom_formed d given in
      let rest = atoms_formed more one.1 in
      (formed_append (type_lexemes Simple t) (types_lexemes (types_of ts)) (one.0 Simple) rest.0, rest.1)

  pub atom_formed : {t : Ty} {a b : List Lexeme} → AtomAt t a b → Formed a → TypeFormed t × Formed b
  atom_formed (variable_type {w = w} {a = a} {b = b} h) given =
      let name = lower_formed w a b h given in ((λ p. (name.0, tt)), name.1)
  atom_formed (name_type {w = w} {a = a} {b = b} h) given =
      let name = upper_formed w a b h given in ((λ p. formed_closed (closes_named p no_types) _ (name.0, tt)), name.1)
  atom_formed (numeral_type {w = w} {a = a} {b = b} h) given =
      let name = numeral_formed w a b h given in ((λ p. (name.0, tt)), name.1)
  atom_formed (bracketed_type {a = a} {d = d} b c h1 inner h2) given =
      let one = type_formed inner (takes_formed (the.Open ∷ []) a b h1 given) in (one.0, takes_formed (the.Close ∷ []) c d h2 one.1)
