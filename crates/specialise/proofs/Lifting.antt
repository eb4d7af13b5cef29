-- Which lifted functions have a lambda for each parameter.
use Rattle.std.proofs.Common.{◌≡◌, ◌∙◌, ◌↔◌, sym, ap, refl, subst, ℕ, zero, suc, ◌<◌, ◌≤◌, ◌==◌, Bool}
use Rattle.std.proofs.Common.{true, false, IsTrue, List, [], ◌∷◌, length, Contains, Option, Some, None, arith}
use Rattle.std.proofs.Common.{eq-eqb, eqb-true}
use Rattle.std.specs.Prelude.{IfNone}
use Rattle.std.proofs.lemmas.Bool.{true≢false}
use Rattle.chw_types.specs.declared.declarations.Data.{Data}
use Rattle.chw_types.specs.TypeTree.{TypeTree}
use Rattle.chw_terms.specs.FreeVariables.{free_in}
use Rattle.chw_terms.specs.Occurs.{occurs}
use Rattle.chw_terms.specs.TermTree.{TermTree}
use Rattle.chw_typing.specs.HeadTypes.{from_each}
use Rattle.chw_typing.specs.Finding.{Finds}
use Rattle.chw_typing.specs.FoundLaws.{FoundIsType, OneFound}
use Rattle.chw_typing.proofs.Free.{free_occur}
use Rattle.rewriting.specs.Origins.{Origins, setting_at}
use Rattle.rewriting.specs.Spots.{Spot}
use Rattle.rewriting.specs.Shapes.{IsClosed, IsMade, leading_lambdas}
use Rattle.rewriting.proofs.Lists.{function_same}
use Rattle.term_types.specs.Answers.{HasNoType}
use Rattle.specialise.specs.Seeds.{IsOfValues, AnswersCount, HasLambdas}
use Rattle.specialise.proofs.Values.{NoValues}

-- no variable is free exactly where none occurs
not_occurs : (b : Bool) → (b ≡ true → ⊥) → b ≡ false
not_occurs true h = absurd (h refl)
not_occurs false h = refl

none_free : (e : TermTree) → length (free_in e) ≡ 0 → IsClosed e
none_free e h x =
    not_occurs (occurs e x)
    (λ o. let c = (free_occur e x).1 o in let l = c.1 in absurd (omega (arith, l, h)))

some_free : (e : TermTree) (xs : List ℕ) → free_in e ≡ xs → IsClosed e → length xs ≡ 0
some_free e [] q closed = refl
some_free e (x ∷ xs) q closed =
    let here : Contains (free_in e) x =
    subst (λ ys. Contains ys x) (sym q) (0, omega arith, refl) in
    absurd (true≢false (sym ((free_occur e x).0 here) ∙ closed x))

pub closed_tells : (e : TermTree) (n : ℕ) (b : Bool) → n ≡ length (free_in e) → b ≡ (n == 0)
    → IsTrue b ↔ IsClosed e
closed_tells e n b h q = (yes, no)
  where
    yes : IsTrue b → IsClosed e
    yes t = none_free e (sym h ∙ eqb-true n 0 (sym q ∙ t))

    no : IsClosed e → IsTrue b
    no closed = q ∙ eq-eqb n 0 (h ∙ some_free e (free_in e) refl closed)

-- what an answer says that is none
pub no_answer : {A P : Type 0} (r : Option A) → ((x : A) → r ≡ Some x → ⊥) → IfNone r P → P
no_answer None none h = h
no_answer (Some x) none h = absurd (none x refl)

-- a function without a type has none
pub none_typed : (o : Origins) (at : Spot) (g : TermTree) → FoundIsType
    → HasNoType (setting_at o) [] at.vars g → (t : TypeTree) → HasLambdas o at g t → ⊥
none_typed o at g is none t l = none _ (is (setting_at o) [] at.vars g _ l.lifted.has)

-- the type that is found is that of its parameters
of_values : (o : Origins) (at : Spot) (g : TermTree) (u t : TypeTree) → OneFound
    → Finds (setting_at o) [] at.vars g t → (l : HasLambdas o at g u)
    → IsOfValues o.program.datas t (l.first ∷ l.others)
of_values o at g u t one f l = record {
  gives = l.gives;
  is = one (setting_at o) [] at.vars g t (from_each (l.first ∷ l.others) l.gives) f l.lifted.has;
  takes = l.lifted.takes;
  result = l.lifted.gives;
}

-- the parameters are those that are counted
same_params : (datas : List Data) (t : TypeTree) (ps qs : List TypeTree) → IsOfValues datas t ps
    → IsOfValues datas t qs → ps ≡ qs
same_params datas t ps qs v w =
    (function_same datas ps qs v.gives w.gives v.result w.result (sym v.is ∙ w.is)).params

-- a type whose parameters are counted
pub some_values : (datas : List Data) (t : TypeTree) (r : Option ℕ) (n : ℕ) → r ≡ Some n
    → AnswersCount datas t r → AnswersCount datas t (Some n)
some_values datas t r n q h = subst (AnswersCount datas t) q h

counts : (datas : List Data) (t : TypeTree) (n : ℕ) → AnswersCount datas t (Some n)
    → (ps : List TypeTree) → IsOfValues datas t ps → n ≡ length ps
counts datas t n c ps v = c.1 ∙ ap length (same_params datas t c.0 ps c.2 v)

pub none_valued_at : (datas : List Data) (t : TypeTree) (n : ℕ) → AnswersCount datas t (Some n)
    → n ≡ 0 → (ps : List TypeTree) → IsOfValues datas t ps → 0 < length ps → ⊥
none_valued_at datas t n c none ps v some =
    let count = counts datas t n c ps v in
    omega (arith, count, none, some)

-- a function of that type, with a lambda for each of them
abbrev pub LambdaEach : List Data → TypeTree → TermTree → Type 0
LambdaEach datas t g =
    (ps : List TypeTree) × IsOfValues datas t ps × (0 < length ps)
    × (length ps ≤ leading_lambdas g)

some_length : (n k : ℕ) → n ≡ k → (n ≡ 0 → ⊥) → 0 < k
some_length n zero q some = absurd (some q)
some_length n (suc k) q some = omega arith

pub lambdas_counted : (datas : List Data) (t : TypeTree) (g : TermTree) (n : ℕ)
    → AnswersCount datas t (Some n) → (n ≡ 0 → ⊥) → n ≤ leading_lambdas g → LambdaEach datas t g
lambdas_counted datas t g n c some enough = (
  c.0,
  c.2,
  some_length n (length c.0) c.1 some,
  subst (λ k. k ≤ leading_lambdas g) c.1 enough,
)

pub counted_lambdas : (datas : List Data) (t : TypeTree) (g : TermTree) (n : ℕ)
    → AnswersCount datas t (Some n) → (ps : List TypeTree) → IsOfValues datas t ps
    → length ps ≤ leading_lambdas g → n ≤ leading_lambdas g
counted_lambdas datas t g n c ps v enough =
    subst (λ k. k ≤ leading_lambdas g) (sym (counts datas t n c ps v)) enough

pub no_lambdas : (o : Origins) (at : Spot) (g : TermTree) (t : TypeTree) (datas : List Data)
    → datas ≡ o.program.datas → OneFound → Finds (setting_at o) [] at.vars g t
    → (LambdaEach datas t g → ⊥) → (u : TypeTree) → HasLambdas o at g u → ⊥
no_lambdas o at g t datas q one f none u l =
    subst (λ ds. LambdaEach ds t g → ⊥) q none
    (l.first ∷ l.others, of_values o at g u t one f l, omega arith, l.lambdas)

-- one with a lambda for each
each_has : (o : Origins) (at : Spot) (g : TermTree) (t : TypeTree) (ps : List TypeTree)
    → IsClosed g → (IsMade g → ⊥) → Finds (setting_at o) [] at.vars g t
    → IsOfValues o.program.datas t ps → 0 < length ps → length ps ≤ leading_lambdas g
    → HasLambdas o at g t
each_has o at g t [] closed named f v some enough = absurd (omega (arith, some))
each_has o at g t (p ∷ ps) closed named f v some enough = record {
  first = p;
  others = ps;
  gives = v.gives;
  is = v.is;
  lifted = record {
    closed = closed;
    not_made = named;
    has = subst (Finds (setting_at o) [] at.vars g) v.is f;
    takes = v.takes;
    gives = v.result;
  };
  lambdas = enough;
}

pub has_each : (o : Origins) (at : Spot) (g : TermTree) (t : TypeTree) (datas : List Data)
    → datas ≡ o.program.datas → IsClosed g → (IsMade g → ⊥) → Finds (setting_at o) [] at.vars g t
    → LambdaEach datas t g → HasLambdas o at g t
has_each o at g t datas q closed named f l =
    let here : LambdaEach o.program.datas t g = subst (λ ds. LambdaEach ds t g) q l in
    each_has o at g t here.0 closed named f here.1 here.2 here.3

-- what an answer says of parameters
pub no_values : (datas : List Data) (t : TypeTree) (r : Option ℕ) → ((n : ℕ) → r ≡ Some n → ⊥)
    → AnswersCount datas t r → NoValues datas t
no_values datas t None none h = h
no_values datas t (Some n) none h = absurd (none n refl)
