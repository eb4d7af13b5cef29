-- Which lifted functions lack a lambda for a parameter.
use Rattle.std.proofs.Common.{◌≡◌, ◌∙◌, ◌↔◌, sym, ap, refl, subst, ℕ, ◌<◌, ◌==◌, Bool, true, false, IsTrue, List, [], ◌∷◌, length, Contains, Option, Some, None, arith, eq-eqb, eqb-true}
use Rattle.std.specs.List.{AllByRecursion}
use Rattle.std.specs.Option.{option_map}
use Rattle.std.specs.Prelude.{IfNone}
use Rattle.std.proofs.lemmas.Bool.{true≢false}
use Rattle.chw_types.specs.declared.declarations.Data.{Data}
use Rattle.type_ports.specs.Representable.{Representable}
use Rattle.chw_types.specs.TypeTree.{TypeTree}
use Rattle.chw_terms.specs.FreeVariables.{free_in}
use Rattle.chw_terms.specs.Occurs.{occurs}
use Rattle.chw_terms.specs.TermTree.{TermTree}
use Rattle.chw_typing.specs.HeadTypes.{from_each}
use Rattle.chw_typing.specs.Finding.{Finds}
use Rattle.chw_typing.specs.FoundLaws.{FoundIsType, OneFound}
use Rattle.chw_typing.proofs.Free.{free_occur}
use Rattle.rewriting.specs.Origins.{Origins, setting_at}
use Rattle.rewriting.specs.Spots.{Spot}
use Rattle.rewriting.specs.Shapes.{IsClosed, IsMade, leading_lambdas}
use Rattle.rewriting.proofs.Lists.{function_same}
use Rattle.term_types.specs.Answers.{HasNoType}
use Rattle.work_names.specs.Functions.{AnswersLambdas, AnswersParameters, IsOfValues, LacksLambdas}
use Rattle.work_names.proofs.Values.{NoValues}

-- no variable is free exactly where none occurs
not_true : (b : Bool) → (b ≡ true → ⊥) → b ≡ false
not_true true h = absurd (h refl)
not_true false h = refl

none_free : (e : TermTree) → length (free_in e) ≡ 0 → IsClosed e
none_free e h x = not_true (occurs e x) (λ o. let c = (free_occur e x).1 o in let l = c.1 in absurd (omega (arith, l, h)))

some_free : (e : TermTree) (xs : List ℕ) → free_in e ≡ xs → IsClosed e → length xs ≡ 0
some_free e [] q closed = refl
some_free e (x ∷ xs) q closed =
    let here : Contains (free_in e) x = subst (λ ys. Contains ys x) (sym q) (0, omega arith, refl) in
    absurd (true≢false (sym ((free_occur e x).0 here) ∙ closed x))

pub closed_tells : (e : TermTree) (n : ℕ) (b : Bool) → n ≡ length (free_in e) → b ≡ (n == 0) → IsTrue b ↔ IsClosed e
closed_tells e n b h q = (yes, no)
  where
    yes : IsTrue b → IsClosed e
    yes t = none_free e (sym h ∙ eqb-true n 0 (sym q ∙ t))

    no : IsClosed e → IsTrue b
    no closed = q ∙ eq-eqb n 0 (h ∙ some_free e (free_in e) refl closed)

-- what an answer says that is none, or some
pub no_answer : {A P : Type 0} (r : Option A) → ((x : A) → r ≡ Some x → ⊥) → IfNone r P → P
no_answer None none h = h
no_answer (Some x) none h = absurd (none x refl)

pub no_params : {A : Type 0} (f : A → List TypeTree) (datas : List Data) (t : TypeTree) (r : Option A) → ((x : A) → r ≡ Some x → ⊥) → AnswersParameters datas t (option_map f r) → NoValues datas t
no_params f datas t None none h = h
no_params f datas t (Some x) none h = absurd (none x refl)

pub params_are : {A : Type 0} (f : A → List TypeTree) (datas : List Data) (t : TypeTree) (r : Option A) (x : A) → r ≡ Some x → AnswersParameters datas t (option_map f r) → IsOfValues datas t (f x)
params_are f datas t r x q h = subst (λ r. AnswersParameters datas t (option_map f r)) q h

pub none_lack : {A : Type 0} (f : A → List TypeTree) (o : Origins) (at : Spot) (g : TermTree) (r : Option A) → ((x : A) → r ≡ Some x → ⊥) → AnswersLambdas o at g (option_map f r) → (params : List TypeTree) → LacksLambdas o at g params → ⊥
none_lack f o at g None none h = h
none_lack f o at g (Some x) none h = absurd (none x refl)

pub lambdas_lack : {A : Type 0} (f : A → List TypeTree) (o : Origins) (at : Spot) (g : TermTree) (r : Option A) (x : A) → r ≡ Some x → AnswersLambdas o at g (option_map f r) → LacksLambdas o at g (f x)
lambdas_lack f o at g r x q h = subst (λ r. AnswersLambdas o at g (option_map f r)) q h

-- what is found for a function that lacks one
none_typed : (o : Origins) (at : Spot) (g : TermTree) (params : List TypeTree) → FoundIsType → HasNoType (setting_at o) [] at.vars g → LacksLambdas o at g params → ⊥
none_typed o at g params is none l = none _ (is (setting_at o) [] at.vars g _ l.lifted.has)

pub lacks_none : (o : Origins) (at : Spot) (g : TermTree) → FoundIsType → HasNoType (setting_at o) [] at.vars g → (params : List TypeTree) → LacksLambdas o at g params → ⊥
lacks_none o at g is none params l = none_typed o at g params is none l

of_values : (o : Origins) (at : Spot) (g : TermTree) (params : List TypeTree) (t : TypeTree) → OneFound → Finds (setting_at o) [] at.vars g t → LacksLambdas o at g params → IsOfValues o.program.datas t params
of_values o at g params t one f l = record {
  gives = l.gives;
  is = one (setting_at o) [] at.vars g t (from_each (l.first ∷ l.others) l.gives) f l.lifted.has ∙ ap (λ ps. from_each ps l.gives) (sym l.are);
  takes = subst (AllByRecursion (Representable o.program.datas)) (sym l.are) l.lifted.takes;
  result = l.lifted.gives;
}

pub lacks_other : (o : Origins) (at : Spot) (g : TermTree) (t : TypeTree) → OneFound → Finds (setting_at o) [] at.vars g t → NoValues o.program.datas t → (params : List TypeTree) → LacksLambdas o at g params → ⊥
lacks_other o at g t one f none params l = none params (of_values o at g params t one f l)

pub lacks_no_lambda : (o : Origins) (at : Spot) (g : TermTree) (t : TypeTree) (ps : List TypeTree) → OneFound → Finds (setting_at o) [] at.vars g t → IsOfValues o.program.datas t ps → (leading_lambdas g < length ps → ⊥) → (params : List TypeTree) → LacksLambdas o at g params → ⊥
lacks_no_lambda o at g t ps one f v none params l =
    let w = of_values o at g params t one f l in
    let same = function_same o.program.datas ps params v.gives w.gives v.result w.result (sym v.is ∙ w.is) in
    none (subst (λ ps. leading_lambdas g < length ps) (sym same.params) l.lacks)

-- one that does
pub lacks_some : (o : Origins) (at : Spot) (g : TermTree) (t : TypeTree) (ps : List TypeTree) → IsClosed g → (IsMade g → ⊥) → Finds (setting_at o) [] at.vars g t → IsOfValues o.program.datas t ps → leading_lambdas g < length ps → LacksLambdas o at g ps
lacks_some o at g t [] closed named f v less = absurd (omega (arith, less))
lacks_some o at g t (p ∷ ps) closed named f v less = record {
  first = p;
  others = ps;
  gives = v.gives;
  are = refl;
  lifted = record {
    closed = closed;
    not_made = named;
    has = subst (Finds (setting_at o) [] at.vars g) v.is f;
    takes = v.takes;
    gives = v.result;
  };
  lacks = less;
}
