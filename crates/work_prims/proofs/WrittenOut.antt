-- What the rule on primitives on vectors makes of one on these arguments.
use Rattle.std.proofs.Common.{◌≡◌, ◌∙◌, sym, ap, refl, subst, ◌↔◌, Bool, true, false, not, IsTrue, List, [], ◌∷◌, length, map, drop, Option, Some, None, MatchOption}
use Rattle.std.specs.Prelude.{IsSome}
use Rattle.std.specs.List.{slice_get}
use Rattle.chw_types.specs.TypeTree.{TypeTree}
use Rattle.chw_prims.specs.Schemas.{row_of}
use Rattle.chw_prims.specs.declared.prim.Primitive.{Primitive as Prim}
use Rattle.chw_prims.specs.declared.prim.Primitive.TheVariants.{VAt}
use Rattle.chw_terms.specs.declared.rule.Rule.TheVariants.{Unroll}
use Rattle.chw_terms.specs.declared.scene.Mode.TheVariants.{K}
use Rattle.chw_terms.specs.declared.term.Arg.{Arg}
use Rattle.chw_terms.specs.declared.term.Arg.TheVariants.{OfTerm}
use Rattle.chw_terms.specs.Evaluated.{evaluated}
use Rattle.chw_terms.specs.TermTree.{TermTree, prim}
use Rattle.chw_terms.specs.TermView.{applied}
use Rattle.chw_terms.specs.Unrolled.{CanUnroll, body_of}
use Rattle.chw_typing.specs.Scopes.{Setting}
use Rattle.chw_typing.specs.Laws.{OneType, TypesAreTermTypes}
use Rattle.chw_typing.specs.Typing.{HasType}
use Rattle.chw_typing.specs.Finding.{Finds}
use Rattle.chw_typing.specs.FoundLaws.{FoundIsType}
use Rattle.term_types.specs.Answers.{IsReady}
use Rattle.rewriting.specs.SceneLaws.{SameKeepsNamed}
use Rattle.rewriting.specs.Named.{IsNamed}
use Rattle.rewriting.specs.Origins.{Origins, setting_at}
use Rattle.rewriting.specs.Spots.{Spot}
use Rattle.rewriting.specs.Primitives.{OfPrimitives, HasUnnamedVector, unroll}
use Rattle.rule_parts.specs.Cores.{AnswersCore}
use Rattle.work_prims.specs.Given.{types_in, as_args}
use Rattle.work_prims.specs.Unnamed.{IsUnnamed, BeginsUnnamed, IsWrittenOut}
use Rattle.work_prims.proofs.Inverted.{unrolled_of}
use Rattle.work_prims.proofs.Splits.{split_is, types_are, rest_is}

-- the first of terms as arguments
first_term : (es : List TermTree) (x : TermTree) → slice_get (as_args es) 0 ≡ Some (OfTerm x) → slice_get es 0 ≡ Some x
first_term [] x q = absurd cc
first_term (e ∷ es) x q = cc

first_arg : (es : List TermTree) (x : TermTree) → slice_get es 0 ≡ Some x → slice_get (as_args es) 0 ≡ Some (OfTerm x)
first_arg [] x q = absurd cc
first_arg (e ∷ es) x q = cc

-- a vector that isn't named
has_unnamed : (o : Origins) (at : Spot) (rest : List Arg) (es : List TermTree) → rest ≡ as_args es → BeginsUnnamed o at rest → HasUnnamedVector o at es
has_unnamed o at rest es q b =
    record { no_constant = b.2.no_constant; vector = b.0; is_first = first_term es b.0 (ap (λ xs. slice_get xs 0) (sym q) ∙ b.1); type = b.2.type; has = b.2.has; unnamed = b.2.unnamed }

begins_unnamed : (o : Origins) (at : Spot) (rest : List Arg) (es : List TermTree) → rest ≡ as_args es → HasUnnamedVector o at es → BeginsUnnamed o at rest
begins_unnamed o at rest es q v =
    (v.vector, ap (λ xs. slice_get xs 0) q ∙ first_arg es v.vector v.is_first, record { no_constant = v.no_constant; type = v.type; has = v.has; unnamed = v.unnamed })

-- what is written out is what the rule makes
pub unroll_answer : (o : Origins) (at : Spot) (p : Prim) (args rest : List Arg) (r : Option TermTree) → (p ≡ VAt → BeginsUnnamed o at rest) → drop (length (types_in args)) args ≡ rest → MatchOption r ((es : List TermTree) → rest ≡ as_args es → CanUnroll p (types_in args) es → ⊥) (λ e. IsWrittenOut p (types_in args) rest e) → AnswersCore o at Unroll (applied (prim p) args) r
unroll_answer o at p args rest (Some e) u d h =
    subst (λ args'. OfPrimitives o at Unroll (applied (prim p) args') e) (sym (split_is args rest h.es d h.are))
    (unroll h.can (λ w. has_unnamed o at rest h.es h.are (u w)) h.gives)
unroll_answer o at p args rest None u d none = λ e m.
    let c = unrolled_of p args m refl refl in
    none c.es (rest_is args rest c.types c.es c.are d) (subst (λ ts. CanUnroll p ts c.es) (sym (types_are args c.types c.es c.are)) c.can)

-- nothing is made of a primitive that is never written out
no_body : (body : Option TermTree) → body ≡ None → IsSome body → ⊥
no_body None q h = cc
no_body (Some e) q h = cc

pub formless_answer : (o : Origins) (at : Spot) (p : Prim) (args : List Arg) → ((types : List TypeTree) → body_of (row_of p) types ≡ None) → AnswersCore o at Unroll (applied (prim p) args) None
formless_answer o at p args none = λ e m.
    let c = unrolled_of p args m refl refl in
    no_body (body_of (row_of p) (map evaluated c.types)) (none (map evaluated c.types)) c.can.on_types

-- an element by a word of a vector that is named isn't written out
pub named_answer : (o : Origins) (at : Spot) (p : Prim) (args rest : List Arg) → ((p ≡ VAt → BeginsUnnamed o at rest) → ⊥) → drop (length (types_in args)) args ≡ rest → AnswersCore o at Unroll (applied (prim p) args) None
named_answer o at p args rest none d = λ e m.
    let c = unrolled_of p args m refl refl in
    none (λ w. begins_unnamed o at rest c.es (rest_is args rest c.types c.es c.are d) (c.vector w))

-- the type that is found tells whether a vector is named
pub unnamed_is : (o : Origins) (at : Spot) (s : Setting) (vector : TermTree) (ty : TypeTree) (named : Bool) → FoundIsType → OneType → TypesAreTermTypes → SameKeepsNamed → setting_at o ≡ s → IsReady s [] at.vars → Finds s [] at.vars vector ty → (at.mode ≡ K → ⊥) → (IsTrue named ↔ IsNamed s.datas at.mode ty) → IsTrue (not named) ↔ IsUnnamed o at vector
unnamed_is o at s vector ty true is one kinds keeps q ready f k n = (
  λ h. absurd (no h),
  λ u.
      let has : HasType s [] at.vars vector u.type = subst (λ s. HasType s [] at.vars vector u.type) q u.has in
      let found = is s [] at.vars vector ty f in
      let kind = kinds s [] at.vars vector ty ready.0 ready.1 found in
      let same = one s [] at.vars vector ty u.type ready.0 ready.1 found has in
      let other = keeps s at.mode ty u.type kind.kind ready.0 kind.has same (n.0 refl) in
      absurd (u.unnamed (subst (λ s. IsNamed s.datas at.mode u.type) (sym q) other)),
)
  where
    no : false ≡ true → ⊥
    no h = cc
unnamed_is o at s vector ty false is one kinds keeps q ready f k n = (
  λ h. record {
    no_constant = k;
    type = ty;
    has = subst (λ s. HasType s [] at.vars vector ty) (sym q) (is s [] at.vars vector ty f);
    unnamed = λ w. no (n.1 (subst (λ s. IsNamed s.datas at.mode ty) q w));
  },
  λ u. refl,
)
  where
    no : false ≡ true → ⊥
    no h = cc
