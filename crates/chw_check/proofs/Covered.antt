-- The alternatives of a typed case: they cover what is looked at where they leave nothing out.
use Rattle.std.proofs.Common.{◌≡◌, ℕ, suc, zero, ◌<◌, Bool, true, false, ◌⊎◌, inl, inr, refl, sym, ap, ◌∙◌, subst, List, arith, eqb, eqb-true, add-one, below_more}
use Rattle.std.specs.Prelude.{Option, Some, None}
use Rattle.std.proofs.lemmas.Bool.{eqb-false}
use Rattle.chw_base.specs.declared.index.ConId.{ConId}
use Rattle.chw_types.specs.declared.kind.Kind.{Kind}
use Rattle.chw_types.specs.declared.kind.Scalar.{Scalar}
use Rattle.chw_types.specs.declared.declarations.Data.{Data}
use Rattle.chw_types.specs.TypeTree.{TypeTree, data_of, TypeTrees}
use Rattle.chw_terms.specs.declared.term.Pattern.{Pattern}
use Rattle.chw_terms.specs.declared.term.Pattern.TheVariants.{OfCon, OfLit, Default}
use Rattle.chw_terms.specs.Constructors.{Constructor, con_at}
use Rattle.chw_terms.specs.TermTree.{TermTree, Alts, no_alts, alt}
use Rattle.chw_typing.specs.Alternatives.{HasDefault, IsFor, ForAll, IsCovered}
use Rattle.chw_typing.specs.HeadTypes.{PatternOf, of_con, of_lit, of_any}
use Rattle.chw_typing.specs.Scopes.{Setting}
use Rattle.chw_typing.specs.Typing.{AllGive, none_give, give_and}
use Rattle.chw_check.specs.declared.cases.lacks.Lacks.TheVariants.{Constructor as LacksConstructor, Default as LacksDefault}
use Rattle.chw_check.specs.declared.cases.lacks.Sought.{Sought}
use Rattle.chw_check.specs.declared.cases.lacks.Sought.TheVariants.{Constructors, Defaults}
use Rattle.chw_check.specs.LeavesOut.{a_constructor, a_default, LeavesNothing}

pub either : {A B C : Type 0} → (A → C) → (B → C) → A ⊎ B → C
either f g (inl x) = f x
either f g (inr y) = g y

decide_default : (alts : Alts) → HasDefault alts ⊎ (HasDefault alts → ⊥)
decide_default no_alts = inr (λ h. h)
decide_default (alt Default e more) = inl tt
decide_default (alt (OfCon c n) e more) = decide_default more
decide_default (alt (OfLit s b) e more) = decide_default more

decide_for : (c : ℕ) (alts : Alts) → IsFor c alts ⊎ (IsFor c alts → ⊥)
decide_for c no_alts = inr (λ h. h)
decide_for c (alt Default e more) = decide_for c more
decide_for c (alt (OfLit s b) e more) = decide_for c more
decide_for c (alt (OfCon d n) e more) = at (eqb c d.number) refl (decide_for c more)
  where
    at : (b : Bool) → eqb c d.number ≡ b → IsFor c more ⊎ (IsFor c more → ⊥) → ((c ≡ d.number) ⊎ IsFor c more) ⊎ ((c ≡ d.number) ⊎ IsFor c more → ⊥)
    at true is rest = inl (inl (eqb-true c d.number is))
    at false is (inl later) = inl (inr later)
    at false is (inr none) = inr (λ h. either (eqb-false c d.number is) none h)

-- each constructor of the data type below this number has an alternative
abbrev AllBelow : List Data → ℕ → Alts → ℕ → Type 0
AllBelow datas of alts n = (b : ℕ) → b < n → (other : Constructor) → con_at datas b ≡ Some other → other.of ≡ of → IsFor b alts

-- the first constructor of the data type that has none
record Missing (datas : List Data) (of : ℕ) (alts : Alts) : Type 0 where
  at : ℕ
  lacking : Constructor
  is : con_at datas at ≡ Some lacking
  same : lacking.of ≡ of
  not_for : IsFor at alts → ⊥
  earlier : AllBelow datas of alts at

one_more : (datas : List Data) (of : ℕ) (alts : Alts) (n : ℕ) → AllBelow datas of alts n → ((other : Constructor) → con_at datas n ≡ Some other → other.of ≡ of → IsFor n alts) → AllBelow datas of alts (suc n)
one_more datas of alts n below here =
    subst (AllBelow datas of alts) (add-one n) (below_more (λ b. (other : Constructor) → con_at datas b ≡ Some other → other.of ≡ of → IsFor b alts) n below here)

search_missing : (datas : List Data) (of : ℕ) (alts : Alts) (n : ℕ) → Missing datas of alts ⊎ AllBelow datas of alts n
search_missing datas of alts zero = inr (λ b lt. absurd (omega arith))
search_missing datas of alts (suc n) = either (λ m. inl m) (λ below. at below (con_at datas n) refl) (search_missing datas of alts n)
  where
    of_it : AllBelow datas of alts n → (it : Constructor) → con_at datas n ≡ Some it → (b : Bool) → eqb it.of of ≡ b → Missing datas of alts ⊎ AllBelow datas of alts (suc n)
    of_it below it is false e = inr (one_more datas of alts n below (λ other at same. absurd (let f : other ≡ it = cc in eqb-false it.of of e (ap (λ c. c.of) (sym f) ∙ same))))
    of_it below it is true e =
        either (λ h. inr (one_more datas of alts n below (λ other at same. h)))
        (λ none. inl (record { at = n; lacking = it; is = is; same = eqb-true it.of of e; not_for = none; earlier = below })) (decide_for n alts)

    at : AllBelow datas of alts n → (o : Option Constructor) → con_at datas n ≡ o → Missing datas of alts ⊎ AllBelow datas of alts (suc n)
    at below None is = inr (one_more datas of alts n below (λ other at same. absurd (cc)))
    at below (Some it) is = of_it below it is (eqb it.of of) refl

-- where they leave out neither a constructor nor a default, they cover what is looked at
pub covered : {datas : List Data} {u : TypeTree} {q : Pattern} {fields : List TypeTree} (e : TermTree) (more : Alts) → PatternOf datas u q fields → ((sought : Sought) → LeavesNothing datas sought (alt q e more)) → IsCovered datas (alt q e more)
covered e more of_any nothing = inl tt
covered e more (of_lit {s = s} {bits = bits} l same) nothing = either (λ h. inl h) (λ none. absurd (nothing Defaults LacksDefault (a_default none))) (decide_default (alt (OfLit s bits) e more))
covered {datas} e more (of_con {n = n} {c = c} it is of names) nothing = either (λ h. inl h) (λ none. inr (for_all none)) (decide_default (alt (OfCon c n) e more))
  where
    for_all : (HasDefault (alt (OfCon c n) e more) → ⊥) → ForAll datas (alt (OfCon c n) e more)
    for_all none =
        record {
          con = c.number;
          has = inl refl;
          it = it;
          is = is;
          each = λ b other at same. either
              (λ m. absurd (nothing Constructors (LacksConstructor (record { number = m.at })) (a_constructor it m.lacking none is m.is m.same m.not_for (λ a earlier lt. m.earlier a lt earlier))))
              (λ below. below b (omega arith) other at same) (search_missing datas it.of (alt (OfCon c n) e more) (suc b));
        }

-- the constructor of this number, and the type of the values that it makes
record OfData (datas : List Data) (c : ℕ) (u : TypeTree) : Type 0 where
  it : Constructor
  is : con_at datas c ≡ Some it
  ts : TypeTrees
  same : u ≡ data_of it.of ts

pattern_data : {datas : List Data} {u : TypeTree} {c : ConId} {n : ℕ} {fields : List TypeTree} → PatternOf datas u (OfCon c n) fields → OfData datas c.number u
pattern_data (of_con {ts = ts} it is of names) = record { it = it; is = is; ts = ts; same = ap (λ d. data_of d ts) (sym of) }

given_data : {s : Setting} {kinds : List Kind} {vars : List TypeTree} {u t : TypeTree} {alts : Alts} → AllGive s kinds vars u t alts → (c : ℕ) → IsFor c alts → OfData s.datas c u
given_data none_give c is = absurd is
given_data {s} {u = u} (give_and {q = OfCon d n} b f x more) c is =
    either (λ e. subst (λ m. OfData s.datas m u) (sym e) (pattern_data b.pattern)) (given_data more c) is
given_data (give_and {q = OfLit r bits} b f x more) c is = given_data more c is
given_data (give_and {q = Default} b f x more) c is = given_data more c is

no_literal : {datas : List Data} {u : TypeTree} {r : Scalar} {bits : List Bool} {fields : List TypeTree} → PatternOf datas u (OfLit r bits) fields → (d : ℕ) (ts : TypeTrees) → u ≡ data_of d ts → ⊥
no_literal (of_lit l same) d ts e = absurd (cc)

default_keeps : {datas : List Data} {sought : Sought} {alts : Alts} → HasDefault alts → LeavesNothing datas sought alts
default_keeps h l (a_constructor it lacking none is at same not_for earlier) = none h
default_keeps h l (a_default none) = none h

all_keep : {datas : List Data} {sought : Sought} {u : TypeTree} {q : Pattern} {e : TermTree} {more : Alts} {fields : List TypeTree} → PatternOf datas u q fields → ((c : ℕ) → IsFor c (alt q e more) → OfData datas c u) → ForAll datas (alt q e more) → LeavesNothing datas sought (alt q e more)
all_keep p of all l (a_default none) = let con = of all.con all.has in no_literal p con.it.of con.ts con.same
all_keep p of all l (a_constructor {c = c} {d = d} it lacking none is at same not_for earlier) =
    let con = of all.con all.has in
    let first = of c.number (inl refl) in
    let e : con.it ≡ all.it = cc in
    let f : first.it ≡ it = cc in
    let g : first.it.of ≡ con.it.of = cc in
    not_for (all.each d.number lacking at (same ∙ ap (λ i. i.of) (sym f) ∙ g ∙ ap (λ i. i.of) e))

-- where the alternatives of a typed case cover what is looked at, they leave nothing out
pub nothing_left : (sought : Sought) {s : Setting} {kinds : List Kind} {vars : List TypeTree} {u t : TypeTree} {q : Pattern} {e : TermTree} {more : Alts} {fields : List TypeTree} → PatternOf s.datas u q fields → AllGive s kinds vars u t more → IsCovered s.datas (alt q e more) → LeavesNothing s.datas sought (alt q e more)
nothing_left sought p given (inl h) = default_keeps h
nothing_left sought {s} {u = u} {q = q} {e = e} {more = more} p given (inr all) = all_keep p (each q p) all
  where
    each : {fields : List TypeTree} (q : Pattern) → PatternOf s.datas u q fields → (c : ℕ) → IsFor c (alt q e more) → OfData s.datas c u
    each (OfCon d n) p c is = either (λ x. subst (λ m. OfData s.datas m u) (sym x) (pattern_data p)) (given_data given c) is
    each (OfLit r bits) p c is = given_data given c is
    each Default p c is = given_data given c is
