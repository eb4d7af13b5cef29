-- Tokens that differ in their places alone are read as types that do.
use Rattle.std.specs.Prelude.{List, [], ◌∷◌, refl}
use Rattle.chw_grammar.specs.declared.terminal.Terminal.TheVariants as the
use Rattle.chw_grammar.specs.Lexemes.{Lexeme}
use Rattle.chw_grammar.specs.Grammar.{is_lower, is_upper, is_numeral, TypeAt, forall_type, sum_type, arrow_type, SumAt, one_product, sum_of, SummandsAt, no_summand, summand, ProductAt, one_factor, product_of, FactorsAt, no_factor, factor, AppliedAt, named_type, atom_type, AtomsAt, no_atom, atom, AtomAt, variable_type, name_type, numeral_type, bracketed_type}
use Rattle.chw_grammar.specs.TypeTree.{Ty, type_forall, type_arrow, type_sum, type_product, type_named, type_variable, type_numeral, Tys, no_types, type_and}
use Rattle.chw_grammar.specs.TypeView.{types_of}
use Rattle.chw_grammar.specs.Places.{bare_type, bare_types}
use Rattle.chw_grammar.proofs.Again.{Alike, Again, takes_again, word_again, kind_again}

-- a list of types
abbrev pub bare_list : List Ty → Tys
bare_list ts = bare_types (types_of ts)

mutual
  pub type_again : {t : Ty} {a b : List Lexeme} → TypeAt t a b → (a' : List Lexeme) → Alike a a' → Again TypeAt bare_type t a' b
  type_again (forall_type {w = w} {k = k} {a = a} b c d e f h1 h2 h3 h4 h5 body) a' alike =
      let r1 = takes_again (the.Forall ∷ the.Open ∷ []) a b a' h1 alike in
      let r2 = word_again is_lower w b c r1.rest h2 r1.alike in
      let r3 = takes_again (the.Colon ∷ []) c d r2.rest h3 r2.alike in
      let r4 = kind_again k d e r3.rest h4 r3.alike in
      let r5 = takes_again (the.Close ∷ the.Dot ∷ []) e f r4.rest h5 r4.alike in
      let r6 = type_again body r5.rest r5.alike in
      record {
        again = type_forall r2.again k r6.again;
        rest = r6.rest;
        reads = forall_type r1.rest r2.rest r3.rest r4.rest r5.rest r1.reads r2.reads r3.reads r4.reads r5.reads r6.reads;
        same = λ i. type_forall (r2.same i) k (r6.same i);
        alike = r6.alike;
      }
  type_again (sum_type d) a' alike =
      let r = sum_again d a' alike in
      record { again = r.again; rest = r.rest; reads = sum_type r.reads; same = r.same; alike = r.alike }
  type_again (arrow_type b c h1 h2 h3) a' alike =
      let r1 = sum_again h1 a' alike in
      let r2 = takes_again (the.Arrow ∷ []) b c r1.rest h2 r1.alike in
      let r3 = type_again h3 r2.rest r2.alike in
      record {
        again = type_arrow r1.again r3.again;
        rest = r3.rest;
        reads = arrow_type r1.rest r2.rest r1.reads r2.reads r3.reads;
        same = λ i. type_arrow (r1.same i) (r3.same i);
        alike = r3.alike;
      }

  sum_again : {t : Ty} {a b : List Lexeme} → SumAt t a b → (a' : List Lexeme) → Alike a a' → Again SumAt bare_type t a' b
  sum_again (one_product d) a' alike =
      let r = product_again d a' alike in
      record { again = r.again; rest = r.rest; reads = one_product r.reads; same = r.same; alike = r.alike }
  sum_again (sum_of t u ts b c d h1 h2 h3 more) a' alike =
      let r1 = product_again h1 a' alike in
      let r2 = takes_again (the.Plus ∷ []) b c r1.rest h2 r1.alike in
      let r3 = product_again h3 r2.rest r2.alike in
      let r4 = summands_again more r3.rest r3.alike in
      record {
        again = type_sum (types_of (r1.again ∷ r3.again ∷ r4.again));
        rest = r4.rest;
        reads = sum_of r1.again r3.again r4.again r1.rest r2.rest r3.rest r1.reads r2.reads r3.reads r4.reads;
        same = λ i. type_sum (type_and (r1.same i) (type_and (r3.same i) (r4.same i)));
        alike = r4.alike;
      }

  summands_again : {ts : List Ty} {a b : List Lexeme} → SummandsAt ts a b → (a' : List Lexeme) → Alike a a' → Again SummandsAt bare_list ts a' b
  summands_again no_summand a' alike = record { again = []; rest = a'; reads = no_summand; same = refl; alike = alike }
  summands_again (summand {a = a} b c h1 h2 more) a' alike =
      let r1 = takes_again (the.Plus ∷ []) a b a' h1 alike in
      let r2 = product_again h2 r1.rest r1.alike in
      let r3 = summands_again more r2.rest r2.alike in
      record {
        again = r2.again ∷ r3.again;
        rest = r3.rest;
        reads = summand r1.rest r2.rest r1.reads r2.reads r3.reads;
        same = λ i. type_and (r2.same i) (r3.same i);
        alike = r3.alike;
      }

  product_again : {t : Ty} {a b : List Lexeme} → ProductAt t a b → (a' : List Lexeme) → Alike a a' → Again ProductAt bare_type t a' b
  product_again (one_factor d) a' alike =
      let r = applied_again d a' alike in
      record { again = r.again; rest = r.rest; reads = one_factor r.reads; same = r.same; alike = r.alike }
  product_again (product_of t u ts b c d h1 h2 h3 more) a' alike =
      let r1 = applied_again h1 a' alike in
      let r2 = takes_again (the.Star ∷ []) b c r1.rest h2 r1.alike in
      let r3 = applied_again h3 r2.rest r2.alike in
      let r4 = factors_again more r3.rest r3.alike in
      record {
        again = type_product (types_of (r1.again ∷ r3.again ∷ r4.again));
        rest = r4.rest;
        reads = product_of r1.again r3.again r4.again r1.rest r2.rest r3.rest r1.reads r2.reads r3.reads r4.reads;
        same = λ i. type_product (type_and (r1.same i) (type_and (r3.same i) (r4.same i)));
        alike = r4.alike;
      }

  factors_again : {ts : List Ty} {a b : List Lexeme} → FactorsAt ts a b → (a' : List Lexeme) → Alike a a' → Again FactorsAt bare_list ts a' b
  factors_again no_factor a' alike = record { again = []; rest = a'; reads = no_factor; same = refl; alike = alike }
  factors_again (factor {a = a} b c h1 h2 more) a' alike =
      let r1 = takes_again (the.Star ∷ []) a b a' h1 alike in
      let r2 = applied_again h2 r1.rest r1.alike in
      let r3 = factors_again more r2.rest r2.alike in
      record {
        again = r2.again ∷ r3.again;
        rest = r3.rest;
        reads = factor r1.rest r2.rest r1.reads r2.reads r3.reads;
        same = λ i. type_and (r2.same i) (r3.same i);
        alike = r3.alike;
      }

  applied_again : {t : Ty} {a b : List Lexeme} → AppliedAt t a b → (a' : List Lexeme) → Alike a a' → Again AppliedAt bare_type t a' b
  applied_again (named_type {w = w} ts {a = a} b h more) a' alike =
      let r1 = word_again is_upper w a b a' h alike in
      let r2 = atoms_again more r1.rest r1.alike in
      record {
        again = type_named r1.again (types_of r2.again);
        rest = r2.rest;
        reads = named_type r2.again r1.rest r1.reads r2.reads;
        same = λ i. type_named (r1.same i) (r2.same i);
        alike = r2.alike;
      }
  applied_again (atom_type d) a' alike =
      let r = atom_again d a' alike in
      record { again = r.again; rest = r.rest; reads = atom_type r.reads; same = r.same; alike = r.alike }

  atoms_again : {ts : List Ty} {a b : List Lexeme} → AtomsAt ts a b → (a' : List Lexeme) → Alike a a' → Again AtomsAt bare_list ts a' b
  atoms_again no_atom a' alike = record { again = []; rest = a'; reads = no_atom; same = refl; alike = alike }
  atoms_again (atom b h more) a' alike =
      let r1 = atom_again h a' alike in
      let r2 = atoms_again more r1.rest r1.alike in
      record {
        again = r1.again ∷ r2.again;
        rest = r2.rest;
        reads = atom r1.rest r1.reads r2.reads;
        same = λ i. type_and (r1.same i) (r2.same i);
        alike = r2.alike;
      }

  pub atom_again : {t : Ty} {a b : List Lexeme} → AtomAt t a b → (a' : List Lexeme) → Alike a a' → Again AtomAt bare_type t a' b
  atom_again (variable_type {w = w} {a = a} {b = b} h) a' alike =
      let r = word_again is_lower w a b a' h alike in
      record { again = type_variable r.again; rest = r.rest; reads = variable_type r.reads; same = λ i. type_variable (r.same i); alike = r.alike }
  atom_again (name_type {w = w} {a = a} {b = b} h) a' alike =
      let r = word_again is_upper w a b a' h alike in
      record { again = type_named r.again no_types; rest = r.rest; reads = name_type r.reads; same = λ i. type_named (r.same i) no_types; alike = r.alike }
  atom_again (numeral_type {w = w} {a = a} {b = b} h) a' alike =
      let r = word_again is_numeral w a b a' h alike in
      record { again = type_numeral r.again; rest = r.rest; reads = numeral_type r.reads; same = λ i. type_numeral (r.same i); alike = r.alike }
  atom_again (bracketed_type {a = a} {d = d} b c h1 h2 h3) a' alike =
      let r1 = takes_again (the.Open ∷ []) a b a' h1 alike in
      let r2 = type_again h2 r1.rest r1.alike in
      let r3 = takes_again (the.Close ∷ []) c d r2.rest h3 r2.alike in
      record { again = r2.again; rest = r3.rest; reads = bracketed_type r1.rest r2.rest r1.reads r2.reads r3.reads; same = r2.same; alike = r3.alike }
