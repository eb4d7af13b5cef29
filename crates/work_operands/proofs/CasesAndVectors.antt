-- What a case and a vector become, where the first operand gets its name.
use Rattle.std.proofs.Common.{◌≡◌, ◌∙◌, sym, refl, ap, subst, inl, inr, arith, ℕ, zero, suc}
use Rattle.std.proofs.Common.{List, [], ◌∷◌, map, set, length, Option, Some, None}
use Rattle.std.specs.List.{slice_get}
use Rattle.std.specs.Option.{option_map}
use Rattle.std.proofs.lemmas.Option.{slice_get_within}
use Rattle.chw_types.specs.TypeMoves.{raised}
use Rattle.chw_types.specs.TypeTree.{TypeTree}
use Rattle.chw_terms.specs.declared.rule.Rule.TheVariants.{Anf}
use Rattle.chw_terms.specs.declared.term.Alt.{Alt}
use Rattle.chw_terms.specs.declared.term.Arg.{Arg}
use Rattle.chw_terms.specs.TermMoves.{shift, rename, rename_all, rename_alts}
use Rattle.chw_terms.specs.TermTree.{TermTree, var, vec_lit, case_of, Terms, no_terms, term_and}
use Rattle.chw_terms.specs.TermTree.{Alts, alt, binders}
use Rattle.chw_terms.specs.TermView.{applied, terms_of, alts_of}
use Rattle.chw_terms.proofs.ShiftLaws.{raised_is}
use Rattle.chw_typing.specs.Paths.{element_at, with_element, with_part, IsEarlier}
use Rattle.chw_typing.proofs.PathParts.{with_part_below}
use Rattle.rewriting.specs.Origins.{Origins}
use Rattle.rewriting.specs.Spots.{Spot, HasLets}
use Rattle.rewriting.specs.Operands.{StandsAt, of_case, of_vector, NeedsName}
use Rattle.rewriting.specs.Operands.{IsOperand, OfOperands, anf}
use Rattle.rewriting.specs.Shapes.{shift_alts}
use Rattle.rule_parts.specs.Cores.{of_core}
use Rattle.work_operands.specs.Firsts.{NeedsNameOf, NoElementBefore, IsFirstElement, AnswersPart}
use Rattle.work_operands.specs.Firsts.{AnswersOperand}
use Rattle.work_operands.specs.Named.{let_of, alt_under_one}
use Rattle.work_operands.proofs.Spines.{none_needs}
use Rattle.work_operands.proofs.Standing.{bare_case, bare_vector, StandsIn, in_prim, in_con}
use Rattle.work_operands.proofs.Standing.{in_case, in_vector, stands_in, case_in, vector_in}

-- alternatives under one more binder
pub alts_under : (alts : List Alt)
    → alts_of (map alt_under_one alts) ≡ shift_alts (alts_of alts) 0 1
unfolding rename rename_alts
alts_under [] = refl
alts_under (it ∷ alts) = λ i. alt it.pattern (rename it.body (raised_is (binders it.pattern) 1 i))
    (alts_under alts i)

-- a scrutinee
pub scrutinee_named : {o : Origins} {at : Spot} {t : TypeTree} (e : TermTree) (alts : Alts)
    → NeedsNameOf o at e t
    → OfOperands o at Anf (case_of e alts) (let_of t e (case_of (var 0) (shift_alts alts 0 1)))
unfolding rename rename_alts
scrutinee_named {o} {at} e alts n =
    anf (record {
      is = (of_case, n.0);
      first = λ q y p l. not_before
          (stands_in (case_of e alts) [] [] (bare_case e alts) p.0 refl) l;
    }) n.1
  where
    not_before : {q : List ℕ} {y : TermTree} → StandsIn o at (case_of e alts) [] q y
        → IsEarlier q (zero ∷ []) → ⊥
    not_before (in_prim p q i) l = absurd cc
    not_before (in_con c it q m k i) l = absurd cc
    not_before (in_case alts q r) l =
        elim (subst (λ q. IsEarlier q (zero ∷ [])) r l) [
          | inl l ↦ omega (arith, l)
          | inr h ↦ absurd h.1
        ]
    not_before (in_vector t es i q m k r) l = absurd cc

pub scrutinee_stays : {o : Origins} {at : Spot} (e : TermTree) (alts : Alts)
    → (NeedsName o at e → ⊥) → (path : List ℕ) (x : TermTree)
    → IsOperand o at (case_of e alts) path x → ⊥
scrutinee_stays {o} {at} e alts none path x i =
    other (stands_in (case_of e alts) [] [] (bare_case e alts) i.0 refl)
  where
    other : StandsIn o at (case_of e alts) [] path x → ⊥
    other (in_prim p q j) = absurd cc
    other (in_con c it q m k j) = absurd cc
    other (in_case alts q r) = let same : x ≡ e = cc in none (subst (NeedsName o at) same i.1)
    other (in_vector t es j q m k r) = absurd cc

-- the elements of a list
pub element_of : (es : List TermTree) (i : ℕ) → element_at (terms_of es) i ≡ slice_get es i
element_of [] i = refl
element_of (e ∷ es) zero = refl
element_of (e ∷ es) (suc i) = element_of es i

element_put : (es : List TermTree) (i : ℕ) (y : TermTree)
    → with_element (terms_of es) i y ≡ terms_of (set es i y)
element_put [] i y = refl
element_put (e ∷ es) zero y = refl
element_put (e ∷ es) (suc i) y = ap (term_and e) (element_put es i y)

elements_under : (es : List TermTree)
    → rename_all (terms_of es) (raised 0 1) ≡ terms_of (map (λ e. shift e 0 1) es)
unfolding rename_all
elements_under [] = refl
elements_under (e ∷ es) = ap (term_and (shift e 0 1)) (elements_under es)

element_renamed : (es : Terms) (i : ℕ) (x : TermTree) → element_at es i ≡ Some x
    → element_at (rename_all es (raised 0 1)) i ≡ Some (shift x 0 1)
unfolding rename_all
element_renamed no_terms i x e = absurd cc
element_renamed (term_and y es) zero x e = let is : y ≡ x = cc in ap (λ y. Some (shift y 0 1)) is
element_renamed (term_and y es) (suc i) x e = element_renamed es i x e

-- a vector under one more binder, whose variable is one of its elements
put_in_vector : (t : TypeTree) (es : List TermTree) (i : ℕ) (x : TermTree) → slice_get es i ≡ Some x
    → with_part (shift (vec_lit t (terms_of es)) 0 1) (i ∷ []) (var 0)
    ≡ vec_lit t (terms_of (set (map (λ e. shift e 0 1) es) i (var 0)))
unfolding rename
put_in_vector t es i x e =
    let under = rename_all (terms_of es) (raised 0 1) in
    with_part_below (vec_lit t under) (shift x 0 1) (var 0) i []
    (element_renamed (terms_of es) i x (element_of es i ∙ e))
    ∙ ap (λ es. vec_lit t (with_element es i (var 0))) (elements_under es)
    ∙ ap (vec_lit t) (element_put (map (λ e. shift e 0 1) es) i (var 0))

-- which element stands where
element_before : {o : Origins} {at : Spot} {path : List ℕ} {y : TermTree} (t : TypeTree)
    (es : List TermTree) (i : ℕ) → NoElementBefore o at es i
    → StandsAt o at (vec_lit t (terms_of es)) path y → NeedsName o at y → IsEarlier path (i ∷ [])
    → ⊥
element_before {o} {at} {y = y} t es i none s needs l =
    before (stands_in (vec_lit t (terms_of es)) [] [] (bare_vector t (terms_of es)) s refl) l
  where
    before : {path : List ℕ} → StandsIn o at (vec_lit t (terms_of es)) [] path y
        → IsEarlier path (i ∷ []) → ⊥
    before (in_prim p q j) l = absurd cc
    before (in_con c it q m k j) l = absurd cc
    before (in_case alts q r) l = absurd cc
    before (in_vector u fs j q m k r) l =
        let same : fs ≡ terms_of es = cc in
        let there : slice_get es j ≡ Some y =
        sym (element_of es j) ∙ subst (λ fs. element_at fs j ≡ Some y) same k in
        elim (subst (λ path. IsEarlier path (i ∷ [])) r l) [
          | inl l ↦ none j y l there needs
          | inr h ↦ absurd h.1
        ]

pub element_named : {o : Origins} {at : Spot} (t : TypeTree) (es : List TermTree) (i : ℕ)
    (u : TypeTree) (x : TermTree) → HasLets at.mode → IsFirstElement o at es i u x
    → OfOperands o at Anf (vec_lit t (terms_of es))
    (let_of u x (vec_lit t (terms_of (set (map (λ e. shift e 0 1) es) i (var 0)))))
element_named {o} {at} t es i u x m f =
    subst (OfOperands o at Anf (vec_lit t (terms_of es)))
    (ap (let_of u x) (put_in_vector t es i x f.is))
    (anf (record {
      is = (of_vector m (element_of es i ∙ f.is), f.needs.0);
      first = λ q y p l. element_before t es i f.first p.0 p.1 l;
    }) f.needs.1)

pub elements_stay : {o : Origins} {at : Spot} (t : TypeTree) (es : List TermTree)
    → (HasLets at.mode → NoElementBefore o at es (length es)) → (path : List ℕ) (x : TermTree)
    → IsOperand o at (vec_lit t (terms_of es)) path x → ⊥
elements_stay {o} {at} t es none path x i =
    other (stands_in (vec_lit t (terms_of es)) [] [] (bare_vector t (terms_of es)) i.0 refl)
  where
    other : StandsIn o at (vec_lit t (terms_of es)) [] path x → ⊥
    other (in_prim p q j) = absurd cc
    other (in_con c it q m k j) = absurd cc
    other (in_case alts q r) = absurd cc
    other (in_vector u fs j q m k r) =
        let same : fs ≡ terms_of es = cc in
        let there : slice_get es j ≡ Some x =
        sym (element_of es j) ∙ subst (λ fs. element_at fs j ≡ Some x) same k in
        none m j x (slice_get_within es j x there) there i.1

-- a case, or a vector, with arguments behind it
pub case_behind : (o : Origins) (at : Spot) (e : TermTree) (alts : Alts) (args : List Arg)
    (made : Option TermTree) → AnswersPart o at (case_of e alts) made
    → AnswersOperand o at (applied (case_of e alts) args) (option_map (λ d. applied d args) made)
case_behind o at e alts args (Some d) m = inl (of_core (case_of e alts) d args m)
case_behind o at e alts args None none =
    none_needs o at (case_of e alts) args (bare_case e alts)
    (λ path x i needs. none path x (case_in e alts i, needs)) (λ path x i needs. i.name)

pub vector_behind : (o : Origins) (at : Spot) (t : TypeTree) (es : Terms) (args : List Arg)
    (made : Option TermTree) → AnswersPart o at (vec_lit t es) made
    → AnswersOperand o at (applied (vec_lit t es) args) (option_map (λ d. applied d args) made)
vector_behind o at t es args (Some d) m = inl (of_core (vec_lit t es) d args m)
vector_behind o at t es args None none =
    none_needs o at (vec_lit t es) args (bare_vector t es)
    (λ path x i needs. none path x (vector_in t es i, needs)) (λ path x i needs. i.name)
