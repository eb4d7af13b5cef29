-- The canonical tokens of a type read back to it.
use Rattle.std.specs.Prelude.{◌≡◌, ℕ, true, false, IsTrue, List, [], ◌∷◌, ◌++◌, cond, refl}
use Rattle.std.proofs.Common.{sym, subst}
use Rattle.std.proofs.lemmas.List.{append_assoc}
use Rattle.std.specs.Str.{bytes_eq}
use Rattle.std.specs.Prelude.{codes}
use Rattle.chw_grammar.specs.declared.type_tree.KindTree.{KindTree}
use Rattle.chw_grammar.specs.declared.type_tree.KindTree.TheVariants as kinds
use Rattle.chw_grammar.specs.declared.terminal.Terminal.TheVariants as the
use Rattle.chw_grammar.specs.declared.stand.Stand.{Stand}
use Rattle.chw_grammar.specs.declared.stand.Stand.TheVariants.{Alone as alone, Left as left, Summand as as_summand, Factor as as_factor, Simple as simple}
use Rattle.chw_grammar.specs.declared.word.Word.{Word}
use Rattle.chw_grammar.specs.Lexemes.{Lexeme, upper_terminal}
use Rattle.chw_grammar.specs.Grammar.{is_upper, LowerAt, UpperAt, NumeralAt, KindAt, TypeAt, forall_type, sum_type, arrow_type, SumAt, one_product, sum_of, SummandsAt, no_summand, summand, ProductAt, one_factor, product_of, FactorsAt, no_factor, factor, AppliedAt, named_type, atom_type, AtomsAt, no_atom, atom, AtomAt, variable_type, name_type, numeral_type, bracketed_type}
use Rattle.chw_grammar.specs.TypeTree.{Ty, type_forall, type_arrow, type_sum, type_product, type_named, type_numeral, Tys, no_types, type_and}
use Rattle.chw_grammar.specs.TypeView.{types_of}
use Rattle.chw_grammar.specs.Text.{sign, lower, upper, kind, closed, closes_arrow, closes_sum, closes_product, type_lexemes, more_lexemes, types_lexemes}

pub kind_read : (k : KindTree) (b : List Lexeme) → KindAt k (kind k ∷ b) b
kind_read kinds.Nat b = (refl, refl)
kind_read kinds.Dom b = (refl, refl)
kind_read kinds.Val b = (refl, refl)
kind_read kinds.Cir b = (refl, refl)

upper_is : (bytes : List ℕ) → IsTrue (is_upper (upper_terminal bytes))
upper_is bytes = elim (bytes_eq bytes (codes "Nat")) as (λ v. IsTrue (is_upper (cond v the.Nat (cond (bytes_eq bytes (codes "Dom")) the.Dom (cond (bytes_eq bytes (codes "Val")) the.Val (cond (bytes_eq bytes (codes "Cir")) the.Cir the.Upper)))))) [
  | true ↦ refl
  | false ↦ elim (bytes_eq bytes (codes "Dom")) as (λ v. IsTrue (is_upper (cond v the.Dom (cond (bytes_eq bytes (codes "Val")) the.Val (cond (bytes_eq bytes (codes "Cir")) the.Cir the.Upper))))) [
    | true ↦ refl
    | false ↦ elim (bytes_eq bytes (codes "Val")) as (λ v. IsTrue (is_upper (cond v the.Val (cond (bytes_eq bytes (codes "Cir")) the.Cir the.Upper)))) [
      | true ↦ refl
      | false ↦ elim (bytes_eq bytes (codes "Cir")) as (λ v. IsTrue (is_upper (cond v the.Cir the.Upper))) [ true ↦ refl | false ↦ refl ]
    ]
  ]
]

pub upper_read : (w : Word) (b : List Lexeme) → UpperAt w (upper w ∷ b) b
upper_read w b = (upper_is w.bytes, refl, refl)

pub lower_read : (w : Word) (b : List Lexeme) → LowerAt w (lower w ∷ b) b
lower_read w b = (refl, refl, refl)

-- what a type is read as where it stands
abbrev pub StandAt : Stand → Ty → List Lexeme → List Lexeme → Type 0
StandAt alone = TypeAt
StandAt left = SumAt
StandAt as_summand = ProductAt
StandAt as_factor = AppliedAt
StandAt simple = AtomAt

-- wherever the type stands, its canonical tokens read back to it
abbrev pub TypeBack : Ty → Type 0
TypeBack t = (p : Stand) (rest : List Lexeme) → StandAt p t (type_lexemes p t ++ rest) rest

from_atom : (p : Stand) {t : Ty} {a b : List Lexeme} → AtomAt t a b → StandAt p t a b
from_atom alone d = sum_type (one_product (one_factor (atom_type d)))
from_atom left d = one_product (one_factor (atom_type d))
from_atom as_summand d = one_factor (atom_type d)
from_atom as_factor d = atom_type d
from_atom simple d = d

closing : {t : Ty} (ls : List Lexeme) → ((rest : List Lexeme) → TypeAt t (ls ++ rest) rest) → (rest : List Lexeme) → AtomAt t (closed true ls ++ rest) rest
closing {t = t} ls whole rest =
    bracketed_type _ _ (refl, refl) (subst (λ (z : List Lexeme). TypeAt t z (sign the.Close ∷ rest)) (sym (append_assoc ls (sign the.Close ∷ []) rest)) (whole (sign the.Close ∷ rest))) (refl, refl)

-- each form, from its reading without parentheses

arrow_like : (t : Ty) (ls : List Lexeme) → ((p : Stand) → type_lexemes p t ≡ closed (closes_arrow p) ls) → ((rest : List Lexeme) → TypeAt t (ls ++ rest) rest) → TypeBack t
arrow_like t ls e whole alone rest = subst (λ (z : List Lexeme). TypeAt t (z ++ rest) rest) (sym (e alone)) (whole rest)
arrow_like t ls e whole left rest = subst (λ (z : List Lexeme). SumAt t (z ++ rest) rest) (sym (e left)) (from_atom left (closing ls whole rest))
arrow_like t ls e whole as_summand rest = subst (λ (z : List Lexeme). ProductAt t (z ++ rest) rest) (sym (e as_summand)) (from_atom as_summand (closing ls whole rest))
arrow_like t ls e whole as_factor rest = subst (λ (z : List Lexeme). AppliedAt t (z ++ rest) rest) (sym (e as_factor)) (from_atom as_factor (closing ls whole rest))
arrow_like t ls e whole simple rest = subst (λ (z : List Lexeme). AtomAt t (z ++ rest) rest) (sym (e simple)) (closing ls whole rest)

sum_like : (t : Ty) (ls : List Lexeme) → ((p : Stand) → type_lexemes p t ≡ closed (closes_sum p) ls) → ((rest : List Lexeme) → SumAt t (ls ++ rest) rest) → TypeBack t
sum_like t ls e whole alone rest = subst (λ (z : List Lexeme). TypeAt t (z ++ rest) rest) (sym (e alone)) (sum_type (whole rest))
sum_like t ls e whole left rest = subst (λ (z : List Lexeme). SumAt t (z ++ rest) rest) (sym (e left)) (whole rest)
sum_like t ls e whole as_summand rest = subst (λ (z : List Lexeme). ProductAt t (z ++ rest) rest) (sym (e as_summand)) (from_atom as_summand (closing ls (λ r. sum_type (whole r)) rest))
sum_like t ls e whole as_factor rest = subst (λ (z : List Lexeme). AppliedAt t (z ++ rest) rest) (sym (e as_factor)) (from_atom as_factor (closing ls (λ r. sum_type (whole r)) rest))
sum_like t ls e whole simple rest = subst (λ (z : List Lexeme). AtomAt t (z ++ rest) rest) (sym (e simple)) (closing ls (λ r. sum_type (whole r)) rest)

product_like : (t : Ty) (ls : List Lexeme) → ((p : Stand) → type_lexemes p t ≡ closed (closes_product p) ls) → ((rest : List Lexeme) → ProductAt t (ls ++ rest) rest) → TypeBack t
product_like t ls e whole alone rest = subst (λ (z : List Lexeme). TypeAt t (z ++ rest) rest) (sym (e alone)) (sum_type (one_product (whole rest)))
product_like t ls e whole left rest = subst (λ (z : List Lexeme). SumAt t (z ++ rest) rest) (sym (e left)) (one_product (whole rest))
product_like t ls e whole as_summand rest = subst (λ (z : List Lexeme). ProductAt t (z ++ rest) rest) (sym (e as_summand)) (whole rest)
product_like t ls e whole as_factor rest = subst (λ (z : List Lexeme). AppliedAt t (z ++ rest) rest) (sym (e as_factor)) (from_atom as_factor (closing ls (λ r. sum_type (one_product (whole r))) rest))
product_like t ls e whole simple rest = subst (λ (z : List Lexeme). AtomAt t (z ++ rest) rest) (sym (e simple)) (closing ls (λ r. sum_type (one_product (whole r))) rest)

atom_like : (t : Ty) (ls : List Lexeme) → ((p : Stand) → type_lexemes p t ≡ ls) → ((rest : List Lexeme) → AtomAt t (ls ++ rest) rest) → TypeBack t
atom_like t ls e whole p rest = subst (λ (z : List Lexeme). StandAt p t (z ++ rest) rest) (sym (e p)) (from_atom p (whole rest))

named_like : (w : Word) (t : Ty) (ts : Tys) (ls : List Lexeme) → ls ≡ type_lexemes alone (type_named w (type_and t ts))
    → ((rest : List Lexeme) → AppliedAt (type_named w (type_and t ts)) (ls ++ rest) rest) → TypeBack (type_named w (type_and t ts))
named_like w t ts ls e whole alone rest = subst (λ (z : List Lexeme). TypeAt (type_named w (type_and t ts)) (z ++ rest) rest) e (sum_type (one_product (one_factor (whole rest))))
named_like w t ts ls e whole left rest = subst (λ (z : List Lexeme). SumAt (type_named w (type_and t ts)) (z ++ rest) rest) e (one_product (one_factor (whole rest)))
named_like w t ts ls e whole as_summand rest = subst (λ (z : List Lexeme). ProductAt (type_named w (type_and t ts)) (z ++ rest) rest) e (one_factor (whole rest))
named_like w t ts ls e whole as_factor rest = subst (λ (z : List Lexeme). AppliedAt (type_named w (type_and t ts)) (z ++ rest) rest) e (whole rest)
named_like w t ts ls e whole simple rest = subst (λ (z : List Lexeme). AtomAt (type_named w (type_and t ts)) (closed true z ++ rest) rest) e (closing ls (λ r. sum_type (one_product (one_factor (whole r)))) rest)

numeral_read : (w : Word) (rest : List Lexeme) → NumeralAt w (type_lexemes alone (type_numeral w) ++ rest) rest
numeral_read w rest = (refl, refl, refl)

forall_back : (w : Word) (k : KindTree) (t : Ty) → TypeBack t → TypeBack (type_forall w k t)
forall_back w k t back = arrow_like _ _ (λ p. refl) (λ rest. forall_type _ _ _ _ _ (refl, (refl, refl)) (lower_read w _) (refl, refl) (kind_read k _) (refl, (refl, refl)) (back alone rest))

arrow_back : (a b : Ty) → TypeBack a → TypeBack b → TypeBack (type_arrow a b)
arrow_back a b one two = arrow_like _ _ (λ p. refl) (λ rest.
    subst (λ (z : List Lexeme). TypeAt (type_arrow a b) z rest) (sym (append_assoc (type_lexemes left a) (sign the.Arrow ∷ type_lexemes alone b) rest))
    (arrow_type _ _ (one left _) (refl, refl) (two alone rest)))

named_back : (w : Word) (ts : List Ty) → ((rest : List Lexeme) → AtomsAt ts (types_lexemes (types_of ts) ++ rest) rest) → TypeBack (type_named w (types_of ts))
named_back w [] more = atom_like _ _ (λ p. elim p as (λ q. type_lexemes q (type_named w no_types) ≡ upper w ∷ []) [ alone ↦ refl | left ↦ refl | as_summand ↦ refl | as_factor ↦ refl | simple ↦ refl ]) (λ rest. name_type (upper_read w rest))
named_back w (t ∷ ts) more = named_like w t (types_of ts) _ refl (λ rest. named_type (t ∷ ts) _ (upper_read w _) (more rest))

mutual
  pub type_back : {t : Ty} {a b : List Lexeme} → TypeAt t a b → TypeBack t
  type_back (forall_type {w = w} {k = k} {t = t} b c d e f h1 h2 h3 h4 h5 body) = forall_back w k t (type_back body)
  type_back (sum_type d) = sum_back d
  type_back (arrow_type {t = t} {u = u} b c d h e) = arrow_back t u (sum_back d) (type_back e)

  pub sum_back : {t : Ty} {a b : List Lexeme} → SumAt t a b → TypeBack t
  sum_back (one_product d) = product_back d
  sum_back (sum_of t u ts b c d p h q more) = sum_like _ _ (λ s. refl) (λ rest.
      subst (λ (z : List Lexeme). SumAt (type_sum (types_of (t ∷ u ∷ ts))) z rest)
      (sym (append_assoc (type_lexemes as_summand t) (sign the.Plus ∷ (type_lexemes as_summand u ++ more_lexemes as_summand the.Plus (types_of ts))) rest))
      (sum_of t u ts _ _ _ (product_back p as_summand _) (refl, refl)
      (subst (λ (z : List Lexeme). ProductAt u z (more_lexemes as_summand the.Plus (types_of ts) ++ rest))
      (sym (append_assoc (type_lexemes as_summand u) (more_lexemes as_summand the.Plus (types_of ts)) rest)) (product_back q as_summand _))
      (summands_back more rest)))

  pub summands_back : {ts : List Ty} {a b : List Lexeme} → SummandsAt ts a b → (rest : List Lexeme)
      → SummandsAt ts (more_lexemes as_summand the.Plus (types_of ts) ++ rest) rest
  summands_back no_summand rest = no_summand
  summands_back (summand {t = t} {ts = ts} b c h p more) rest =
      summand _ _ (refl, refl)
      (subst (λ (z : List Lexeme). ProductAt t z (more_lexemes as_summand the.Plus (types_of ts) ++ rest))
      (sym (append_assoc (type_lexemes as_summand t) (more_lexemes as_summand the.Plus (types_of ts)) rest)) (product_back p as_summand _))
      (summands_back more rest)

  pub product_back : {t : Ty} {a b : List Lexeme} → ProductAt t a b → TypeBack t
  product_back (one_factor d) = applied_back d
  product_back (product_of t u ts b c d p h q more) = product_like _ _ (λ s. refl) (λ rest.
      subst (λ (z : List Lexeme). ProductAt (type_product (types_of (t ∷ u ∷ ts))) z rest)
      (sym (append_assoc (type_lexemes as_factor t) (sign the.Star ∷ (type_lexemes as_factor u ++ more_lexemes as_factor the.Star (types_of ts))) rest))
      (product_of t u ts _ _ _ (applied_back p as_factor _) (refl, refl)
      (subst (λ (z : List Lexeme). AppliedAt u z (more_lexemes as_factor the.Star (types_of ts) ++ rest))
      (sym (append_assoc (type_lexemes as_factor u) (more_lexemes as_factor the.Star (types_of ts)) rest)) (applied_back q as_factor _))
      (factors_back more rest)))

  pub factors_back : {ts : List Ty} {a b : List Lexeme} → FactorsAt ts a b → (rest : List Lexeme)
      → FactorsAt ts (more_lexemes as_factor the.Star (types_of ts) ++ rest) rest
  factors_back no_factor rest = no_factor
  factors_back (factor {t = t} {ts = ts} b c h p more) rest =
      factor _ _ (refl, refl)
      (subst (λ (z : List Lexeme). AppliedAt t z (more_lexemes as_factor the.Star (types_of ts) ++ rest))
      (sym (append_assoc (type_lexemes as_factor t) (more_lexemes as_factor the.Star (types_of ts)) rest)) (applied_back p as_factor _))
      (factors_back more rest)

  pub applied_back : {t : Ty} {a b : List Lexeme} → AppliedAt t a b → TypeBack t
  applied_back (named_type {w = w} ts b h more) = named_back w ts (atoms_back more)
  applied_back (atom_type d) = atom_back d

  pub atoms_back : {ts : List Ty} {a b : List Lexeme} → AtomsAt ts a b → (rest : List Lexeme) → AtomsAt ts (types_lexemes (types_of ts) ++ rest) rest
  atoms_back no_atom rest = no_atom
  atoms_back (atom {t = t} {ts = ts} b d more) rest =
      atom _ (subst (λ (z : List Lexeme). AtomAt t z (types_lexemes (types_of ts) ++ rest))
      (sym (append_assoc (type_lexemes simple t) (types_lexemes (types_of ts)) rest)) (atom_back d simple _)) (atoms_back more rest)

  pub atom_back : {t : Ty} {a b : List Lexeme} → AtomAt t a b → TypeBack t
  atom_back (variable_type {w = w} h) = atom_like _ _ (λ p. refl) (λ rest. variable_type (lower_read w rest))
  atom_back (name_type {w = w} h) = named_back w [] (λ rest. no_atom)
  atom_back (numeral_type {w = w} h) = atom_like _ _ (λ p. refl) (λ rest. numeral_type (numeral_read w rest))
  atom_back (bracketed_type b c h d i) = type_back d
