-- What rules make of applications, by what they make of a core.
use Rattle.std.proofs.Common.{◌≡◌, ◌∙◌, ◌<◌, ◌++◌, sym, ap, refl, subst, List, [], ◌∷◌, length, length-append, Option, Some, None, arith}
use Rattle.std.specs.Option.{option_map}
use Rattle.chw_prims.specs.declared.prim.Primitive.{Primitive as Prim}
use Rattle.chw_prims.specs.Schemas.{schema_type}
use Rattle.chw_terms.specs.declared.rule.Rule.{Rule}
use Rattle.chw_terms.specs.declared.term.Arg.{Arg}
use Rattle.chw_terms.specs.declared.term.Arg.TheVariants.{OfTerm, OfType}
use Rattle.chw_terms.specs.declared.term.Head.{Head}
use Rattle.chw_terms.specs.declared.term.Head.TheVariants.{Var, Global, Made, Lam, TyLam, LetRec, Con, PrimOf, Lit, VecLit, Case}
use Rattle.chw_terms.specs.TermTree.{TermTree, app, ty_app, prim}
use Rattle.chw_terms.specs.TermView.{tree_of, applied}
use Rattle.rewriting.specs.Origins.{Origins}
use Rattle.rewriting.specs.Spots.{Spot, asked_for}
use Rattle.rewriting.specs.Instances.{Makes}
use Rattle.rewriting.proofs.Spines.{IsBare, head_is, args_are, fronts_same}
use Rattle.rule_parts.specs.Cores.{MakesOf, of_core, Answers, AnswersCore}

-- heads are no applications
pub bare : (h : Head) → IsBare (tree_of h)
bare (Var x) = record { itself = refl; alone = refl }
bare (Global d) = record { itself = refl; alone = refl }
bare (Made m) = record { itself = refl; alone = refl }
bare (Lam t e) = record { itself = refl; alone = refl }
bare (TyLam k e) = record { itself = refl; alone = refl }
bare (LetRec bs e) = record { itself = refl; alone = refl }
bare (Con c) = record { itself = refl; alone = refl }
bare (PrimOf p) = record { itself = refl; alone = refl }
bare (Lit s b) = record { itself = refl; alone = refl }
bare (VecLit t es) = record { itself = refl; alone = refl }
bare (Case e alts) = record { itself = refl; alone = refl }

-- the rule makes something of terms alone that are no applications
abbrev pub IsOfBare : Rule → Type 0
IsOfBare r = (o : Origins) (at : Spot) (e e' : TermTree) → Makes o at r e e' → IsBare e

no_other : {o : Origins} {at : Spot} {r : Rule} {h e e' : TermTree} (args : List Arg) → IsOfBare r → IsBare h → ((x : TermTree) → Makes o at r h x → ⊥) → MakesOf o at r e e' → applied h args ≡ e → ⊥
no_other {o} {at} {r} {h} {e} {e'} args of b none (of_core core core' rest m) q =
    none core' (subst (λ e. Makes o at r e core') (sym (head_is h core args rest b (of o at core core' m) q)) m)

-- then what it makes of an application is what it makes of its head, with the arguments behind it
pub of_head : (o : Origins) (at : Spot) (r : Rule) (h : TermTree) (args : List Arg) (answer : Option TermTree) → IsOfBare r → IsBare h → AnswersCore o at r h answer → Answers o at r (applied h args) (option_map (λ e. applied e args) answer)
of_head o at r h args (Some e) of b m = of_core h e args m
of_head o at r h args None of b none = λ e' m. no_other args of b none m refl

-- a primitive on as many arguments as it names
pub record IsPrimCore (e : TermTree) : Type 0 where
  pub which : Prim
  pub args : List Arg
  pub is : e ≡ applied (prim which) args
  pub count : length args ≡ asked_for (schema_type which)

-- the rule makes something of primitives on as many arguments as they name
abbrev pub IsOfPrims : Rule → Type 0
IsOfPrims r = (o : Origins) (at : Spot) (e e' : TermTree) → Makes o at r e e' → IsPrimCore e

-- more arguments behind others
applied_behind : (args rest : List Arg) (h : TermTree) → applied (applied h args) rest ≡ applied h (args ++ rest)
applied_behind [] rest h = refl
applied_behind (OfTerm a ∷ args) rest h = applied_behind args rest (app h a)
applied_behind (OfType t ∷ args) rest h = applied_behind args rest (ty_app h t)

-- a primitive with arguments that is made something of: they are those that it names, with others behind them
record IsMadeOf (o : Origins) (at : Spot) (r : Rule) (p : Prim) (args : List Arg) : Type 0 where
  front : List Arg
  back : List Arg
  are : args ≡ front ++ back
  count : length front ≡ asked_for (schema_type p)
  made : TermTree
  makes : Makes o at r (applied (prim p) front) made

same_prim : (p q : Prim) → prim p ≡ prim q → p ≡ q
same_prim p q e = cc

made_of_prim : {o : Origins} {at : Spot} {r : Rule} {e e' : TermTree} (h : TermTree) (args : List Arg) → IsOfPrims r → IsBare h → MakesOf o at r e e' → applied h args ≡ e → (p : Prim) × (h ≡ prim p) × IsMadeOf o at r p args
made_of_prim {o} {at} {r} h args of b (of_core core core' rest m) q =
    let core_is = of o at core core' m in
    let whole : applied h args ≡ applied (prim core_is.which) (core_is.args ++ rest) = q ∙ ap (λ e. applied e rest) core_is.is ∙ applied_behind core_is.args rest (prim core_is.which) in
    let bare_prim = bare (PrimOf core_is.which) in (
      core_is.which,
      head_is h (prim core_is.which) args (core_is.args ++ rest) b bare_prim whole,
      record {
        front = core_is.args;
        back = rest;
        are = args_are h (prim core_is.which) args (core_is.args ++ rest) b bare_prim whole;
        count = core_is.count;
        made = core';
        makes = subst (λ e. Makes o at r e core') core_is.is m;
      },
    )

no_more : {o : Origins} {at : Spot} {r : Rule} {e' : TermTree} (p : Prim) (args rest : List Arg) → IsOfPrims r → length args ≡ asked_for (schema_type p) → ((x : TermTree) → Makes o at r (applied (prim p) args) x → ⊥) → MakesOf o at r (applied (prim p) (args ++ rest)) e' → ⊥
no_more {o} {at} {r} p args rest of n none m =
    let found = made_of_prim (prim p) (args ++ rest) of (bare (PrimOf p)) m refl in
    let same = same_prim p found.0 found.1 in
    let it = found.2 in
    let count : length it.front ≡ length args = it.count ∙ ap (λ q. asked_for (schema_type q)) (sym same) ∙ sym n in
    let front : args ≡ it.front = fronts_same args it.front rest it.back (sym count) it.are in
    none it.made (subst (λ q. Makes o at r (applied (prim q) args) it.made) (sym same) (subst (λ xs. Makes o at r (applied (prim found.0) xs) it.made) (sym front) it.makes))

-- then what it makes of a primitive on more is what it makes of it on those that it names, with the others behind it
pub of_named_args : (o : Origins) (at : Spot) (r : Rule) (p : Prim) (args rest : List Arg) (answer : Option TermTree) → IsOfPrims r → length args ≡ asked_for (schema_type p) → AnswersCore o at r (applied (prim p) args) answer → Answers o at r (applied (prim p) (args ++ rest)) (option_map (λ e. applied e rest) answer)
of_named_args o at r p args rest (Some e) of n m =
    subst (λ x. MakesOf o at r x (applied e rest)) (applied_behind args rest (prim p)) (of_core (applied (prim p) args) e rest m)
of_named_args o at r p args rest None of n none = λ e' m. no_more p args rest of n none m

-- it makes nothing of a primitive on fewer, nor of another head
pub of_few_args : (o : Origins) (at : Spot) (r : Rule) (p : Prim) (args : List Arg) → IsOfPrims r → length args < asked_for (schema_type p) → Answers o at r (applied (prim p) args) None
of_few_args o at r p args of few = λ e' m.
    let found = made_of_prim (prim p) args of (bare (PrimOf p)) m refl in
    let same = same_prim p found.0 found.1 in
    let it = found.2 in
    let count : length it.front ≡ asked_for (schema_type p) = it.count ∙ ap (λ q. asked_for (schema_type q)) (sym same) in
    absurd (omega (arith, few, count, ap length it.are, length-append it.front it.back))

pub of_other_head : (o : Origins) (at : Spot) (r : Rule) (h : TermTree) (args : List Arg) → IsOfPrims r → IsBare h → ((p : Prim) → h ≡ prim p → ⊥) → Answers o at r (applied h args) None
of_other_head o at r h args of b other = λ e' m.
    let found = made_of_prim h args of b m refl in other found.0 found.1
