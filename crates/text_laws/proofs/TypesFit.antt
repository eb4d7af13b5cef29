-- The canonical tokens of a type that was read open fewer brackets at once than it is high, or as many where it stands in parentheses.
use Rattle.std.specs.Prelude.{◌≡◌, ℕ, zero, suc, ◌≤◌, ◌<◌, Bool, false, List, [], ◌∷◌, ◌++◌, refl}
use Rattle.std.proofs.Common.{sym, ap, ◌∙◌, subst, arith}
use Rattle.chw_grammar.specs.declared.stand.Stand.{Stand}
use Rattle.chw_grammar.specs.declared.stand.Stand.TheVariants.{Alone, Left, Summand, Factor, Simple}
use Rattle.chw_grammar.specs.declared.terminal.Terminal.TheVariants as the
use Rattle.chw_grammar.specs.declared.type_tree.KindTree.{KindTree}
use Rattle.chw_grammar.specs.declared.word.Word.{Word}
use Rattle.chw_lexer.specs.declared.token.Sort.TheVariants as sort
use Rattle.chw_grammar.specs.Lexemes.{Lexeme}
use Rattle.chw_grammar.specs.Grammar.{TypeAt, forall_type, sum_type, arrow_type, SumAt, one_product, sum_of, SummandsAt, no_summand, summand, ProductAt, one_factor, product_of, FactorsAt, no_factor, factor, AppliedAt, named_type, atom_type, AtomsAt, no_atom, atom, AtomAt, variable_type, name_type, numeral_type, bracketed_type}
use Rattle.chw_grammar.specs.Height.{type_height, types_height}
use Rattle.chw_grammar.specs.TypeTree.{Ty, type_forall, type_arrow, type_sum, type_product, type_named, type_variable, type_numeral, no_types}
use Rattle.chw_grammar.specs.TypeView.{types_of}
use Rattle.chw_grammar.specs.Text.{as_token, lower, upper, kind, sign, closed, closes_arrow, closes_sum, closes_product, closes_named, type_lexemes, parts_lexemes, more_lexemes, types_lexemes}
use Rattle.text_laws.proofs.Fits.{Fits, fits_nothing, fits_append, fits_plain, fits_brackets, fits_closed, kind_plain, upper_plain}

-- by itself, and wherever it stands
pub record TypeFits (t : Ty) : Type 0 where
  pub some : 0 < type_height t
  pub alone : (k : ℕ) → type_height t ≤ suc k → Fits k (type_lexemes Alone t)
  pub there : (p : Stand) (k : ℕ) → type_height t ≤ k → Fits k (type_lexemes p t)

-- a type that is in parentheses or not
both : (t : Ty) (v : Stand → Bool) (ls : List Lexeme) → ((p : Stand) → type_lexemes p t ≡ closed (v p) ls) → v Alone ≡ false → 0 < type_height t
    → ((k : ℕ) → type_height t ≤ suc k → Fits k ls) → TypeFits t
both t v ls is free some inner = record {
  some = some;
  alone = λ k low. subst (λ (z : List Lexeme). Fits k z) (sym (is Alone ∙ ap (λ (b : Bool). closed b ls) free)) (inner k low);
  there = λ p k low. subst (λ (z : List Lexeme). Fits k z) (sym (is p)) (fits_closed (v p) (type_height t) ls some inner k low);
}

-- a type of one token
one_token : (t : Ty) (l : Lexeme) → 0 < type_height t → ((p : Stand) → type_lexemes p t ≡ l ∷ []) → ((k : ℕ) → Fits k (l ∷ [])) → TypeFits t
one_token t l some is fits = record {
  some = some;
  alone = λ k low. subst (λ (z : List Lexeme). Fits k z) (sym (is Alone)) (fits k);
  there = λ p k low. subst (λ (z : List Lexeme). Fits k z) (sym (is p)) (fits k);
}

-- a name without arguments is never in parentheses
name_alone : (w : Word) (p : Stand) → type_lexemes p (type_named w no_types) ≡ upper w ∷ []
name_alone w Alone = refl
name_alone w Left = refl
name_alone w Summand = refl
name_alone w Factor = refl
name_alone w Simple = refl

-- `( w : k ) .` and more
pub fits_kinded : (k : ℕ) (w : Word) (l : Lexeme) (more : List Lexeme) → Fits zero (l ∷ []) → Fits (suc k) more
    → Fits (suc k) (sign the.Open ∷ lower w ∷ sign the.Colon ∷ l ∷ sign the.Close ∷ sign the.Dot ∷ more)
fits_kinded k w l more one rest =
    fits_brackets k (sign the.Open) (sign the.Close) (lower w ∷ sign the.Colon ∷ l ∷ []) (sign the.Dot ∷ more) (λ n. refl) (λ n. omega arith)
    (fits_plain k (lower w) (sign the.Colon ∷ l ∷ []) (λ n. refl) (fits_plain k (sign the.Colon) (l ∷ []) (λ n. refl) (λ n rest' within s. one n rest' (omega (arith, within)) s)))
    (fits_plain (suc k) (sign the.Dot) more (λ n. refl) rest)

forall_fits : (w : Word) (kd : KindTree) (t : Ty) → TypeFits t → (k : ℕ) → type_height (type_forall w kd t) ≤ suc k
    → Fits k (sign the.Forall ∷ sign the.Open ∷ lower w ∷ sign the.Colon ∷ kind kd ∷ sign the.Close ∷ sign the.Dot ∷ type_lexemes Alone t)
forall_fits w kd t inner zero low = absurd (omega (arith, low))
forall_fits w kd t inner (suc k) low =
    fits_plain (suc k) (sign the.Forall) (sign the.Open ∷ lower w ∷ sign the.Colon ∷ kind kd ∷ sign the.Close ∷ sign the.Dot ∷ type_lexemes Alone t) (λ n. refl)
    (fits_kinded k w (kind kd) (type_lexemes Alone t) (fits_plain zero (kind kd) [] (kind_plain kd) (fits_nothing zero)) (inner.alone (suc k) (omega (arith, low))))

name_fits : (w : Word) → TypeFits (type_named w no_types)
name_fits w = one_token (type_named w no_types) (upper w) (omega arith) (name_alone w) (λ k. fits_plain k (upper w) [] (upper_plain w) (fits_nothing k))

mutual
  pub type_fits : {t : Ty} {a b : List Lexeme} → TypeAt t a b → TypeFits t
  type_fits (forall_type {w = w} {k = kd} {t = t} b c d e f h1 h2 h3 h4 h5 body) =
      both (type_forall w kd t) closes_arrow (sign the.Forall ∷ sign the.Open ∷ lower w ∷ sign the.Colon ∷ kind kd ∷ sign the.Close ∷ sign the.Dot ∷ type_lexemes Alone t) (λ p. refl) refl (omega arith)
      (forall_fits w kd t (type_fits body))
  type_fits (sum_type d) = sum_fits d
  type_fits (arrow_type {t = t} {u = u} b c h1 h2 h3) =
      let from = sum_fits h1 in
      let to = type_fits h3 in
      both (type_arrow t u) closes_arrow (type_lexemes Left t ++ sign the.Arrow ∷ type_lexemes Alone u) (λ p. refl) refl (omega arith)
      (λ k low. fits_append k (type_lexemes Left t) (sign the.Arrow ∷ type_lexemes Alone u) (from.there Left k (omega (arith, low))) (fits_plain k (sign the.Arrow) (type_lexemes Alone u) (λ n. refl) (to.alone k (omega (arith, low)))))

  sum_fits : {t : Ty} {a b : List Lexeme} → SumAt t a b → TypeFits t
  sum_fits (one_product d) = product_fits d
  sum_fits (sum_of t u ts b c d h1 h2 h3 more) =
      let one = product_fits h1 in
      let two = product_fits h3 in
      let rest = summands_fit more in
      both (type_sum (types_of (t ∷ u ∷ ts))) closes_sum (parts_lexemes Summand the.Plus (types_of (t ∷ u ∷ ts))) (λ p. refl) refl (omega arith)
      (λ k low. fits_append k (type_lexemes Summand t) (sign the.Plus ∷ (type_lexemes Summand u ++ more_lexemes Summand the.Plus (types_of ts))) (one.there Summand k (omega (arith, low)))
      (fits_plain k (sign the.Plus) (type_lexemes Summand u ++ more_lexemes Summand the.Plus (types_of ts)) (λ n. refl)
      (fits_append k (type_lexemes Summand u) (more_lexemes Summand the.Plus (types_of ts)) (two.there Summand k (omega (arith, low))) (rest k (omega (arith, low))))))

  summands_fit : {ts : List Ty} {a b : List Lexeme} → SummandsAt ts a b → (k : ℕ) → types_height (types_of ts) ≤ k → Fits k (more_lexemes Summand the.Plus (types_of ts))
  summands_fit no_summand = λ k low. fits_nothing k
  summands_fit (summand {t = t} {ts = ts} b c h1 h2 more) = λ k low.
      let one = product_fits h2 in
      let rest = summands_fit more in
      fits_plain k (sign the.Plus) (type_lexemes Summand t ++ more_lexemes Summand the.Plus (types_of ts)) (λ n. refl)
      (fits_append k (type_lexemes Summand t) (more_lexemes Summand the.Plus (types_of ts)) (one.there Summand k (omega (arith, low))) (rest k (omega (arith, low))))

  product_fits : {t : Ty} {a b : List Lexeme} → ProductAt t a b → TypeFits t
  product_fits (one_factor d) = applied_fits d
  product_fits (product_of t u ts b c d h1 h2 h3 more) =
      let one = applied_fits h1 in
      let two = applied_fits h3 in
      let rest = factors_fit more in
      both (type_product (types_of (t ∷ u ∷ ts))) closes_product (parts_lexemes Factor the.Star (types_of (t ∷ u ∷ ts))) (λ p. refl) refl (omega arith)
      (λ k low. fits_append k (type_lexemes Factor t) (sign the.Star ∷ (type_lexemes Factor u ++ more_lexemes Factor the.Star (types_of ts))) (one.there Factor k (omega (arith, low)))
      (fits_plain k (sign the.Star) (type_lexemes Factor u ++ more_lexemes Factor the.Star (types_of ts)) (λ n. refl)
      (fits_append k (type_lexemes Factor u) (more_lexemes Factor the.Star (types_of ts)) (two.there Factor k (omega (arith, low))) (rest k (omega (arith, low))))))

  factors_fit : {ts : List Ty} {a b : List Lexeme} → FactorsAt ts a b → (k : ℕ) → types_height (types_of ts) ≤ k → Fits k (more_lexemes Factor the.Star (types_of ts))
  factors_fit no_factor = λ k low. fits_nothing k
  factors_fit (factor {t = t} {ts = ts} b c h1 h2 more) = λ k low.
      let one = applied_fits h2 in
      let rest = factors_fit more in
      fits_plain k (sign the.Star) (type_lexemes Factor t ++ more_lexemes Factor the.Star (types_of ts)) (λ n. refl)
      (fits_append k (type_lexemes Factor t) (more_lexemes Factor the.Star (types_of ts)) (one.there Factor k (omega (arith, low))) (rest k (omega (arith, low))))

  applied_fits : {t : Ty} {a b : List Lexeme} → AppliedAt t a b → TypeFits t
  applied_fits (named_type {w = w} [] b h more) = name_fits w
  applied_fits (named_type {w = w} (t ∷ ts) b h more) =
      let args = atoms_fit more in
      both (type_named w (types_of (t ∷ ts))) (λ p. closes_named p (types_of (t ∷ ts))) (upper w ∷ types_lexemes (types_of (t ∷ ts))) (λ p. refl) refl (omega arith)
      (λ k low. fits_plain k (upper w) (types_lexemes (types_of (t ∷ ts))) (upper_plain w) (args k (omega (arith, low))))
  applied_fits (atom_type d) = atom_fits d

  pub atoms_fit : {ts : List Ty} {a b : List Lexeme} → AtomsAt ts a b → (k : ℕ) → types_height (types_of ts) ≤ k → Fits k (types_lexemes (types_of ts))
  atoms_fit no_atom = λ k low. fits_nothing k
  atoms_fit (atom {t = t} {ts = ts} b d more) = λ k low.
      let one = atom_fits d in
      let rest = atoms_fit more in
      fits_append k (type_lexemes Simple t) (types_lexemes (types_of ts)) (one.there Simple k (omega (arith, low))) (rest k (omega (arith, low)))

  pub atom_fits : {t : Ty} {a b : List Lexeme} → AtomAt t a b → TypeFits t
  atom_fits (variable_type {w = w} h) = one_token (type_variable w) (lower w) (omega arith) (λ p. refl) (λ k. fits_plain k (lower w) [] (λ n. refl) (fits_nothing k))
  atom_fits (name_type {w = w} h) = name_fits w
  atom_fits (numeral_type {w = w} h) = one_token (type_numeral w) (as_token sort.Numeral w) (omega arith) (λ p. refl) (λ k. fits_plain k (as_token sort.Numeral w) [] (λ n. refl) (fits_nothing k))
  atom_fits (bracketed_type b c h1 inner h2) = type_fits inner
