-- Parts that a search passes over.
use Rattle.std.proofs.Common.{◌≡◌, ◌∙◌, ℕ, zero, suc, refl, sym, ap, subst, List, [], ◌∷◌, Some, None}
use Rattle.std.proofs.Common.{slice_get, false, length, arith}
use Rattle.chw_types.specs.TypeTree.{TypeTree}
use Rattle.chw_terms.specs.declared.rule.Rule.{Rule}
use Rattle.chw_terms.specs.declared.scene.Scene.{Scene}
use Rattle.chw_terms.specs.declared.term.Arg.{Arg}
use Rattle.chw_terms.specs.declared.term.Binding.{Binding}
use Rattle.chw_terms.specs.TermTree.{TermTree, letrec, con, prim, Group, no_bindings, bind, size_of}
use Rattle.chw_terms.specs.TermView.{applied, group_of}
use Rattle.chw_typing.specs.Programs.{IsSound}
use Rattle.chw_typing.specs.Scopes.{with_more, declared, setting_in, AreTermTypes}
use Rattle.chw_typing.specs.Groups.{binding_at}
use Rattle.chw_typing.proofs.Typed.{PartTyped, part_typed}
use Rattle.rewriting.specs.Origins.{Origins, origins_of, setting_at}
use Rattle.rewriting.proofs.Settings.{setting_of_scene}
use Rattle.rewriting.specs.Active.{Below, right_side, let_body, constant_body, scrutinee, branch}
use Rattle.rewriting.specs.Active.{of_constructor, of_words, of_element, of_vector, demanded}
use Rattle.rewriting.specs.Active.{begins, IsActive}
use Rattle.rewriting.specs.Spots.{Spot, spot, HasLets}
use Rattle.rewriting.proofs.Around.{below_around}
use Rattle.rewriting.proofs.OneStep.{head_of, head_applied}
use Rattle.active_parts.specs.Grounds.{IsTypedAt}
use Rattle.active_parts.specs.Parts.{path_to}
use Rattle.quiet_sides.specs.Laws.{QuietSidesHaveNoStep}
use Rattle.quiet_sides.specs.Quiet.{IsQuiet}
use Rattle.step_search.specs.First.{AtPath, From, HasNoStepAt}
use Rattle.step_search.specs.Passed.{ArePassedParts, IsPassedPart, OfFirst}
use Rattle.step_search.proofs.Numbered.{none_up_to_next}

-- the place of a right side of a letrec
record IsSide (at : Spot) (g : Group) (b : TypeTree × TermTree) (at' : Spot) (x : TermTree)
    : Type 0 where
  lets : HasLets at.mode
  stands : at' ≡ spot at.mode false (with_more (declared g) at.vars)
  term : x ≡ b.1

-- the body has another number
body_is_no_side : (g : Group) (b : TypeTree × TermTree) → binding_at g (size_of g) ≡ Some b → ⊥
body_is_no_side no_bindings b h = absurd cc
body_is_no_side (bind t e g) b h = body_is_no_side g b h

not_body : (g h : Group) (e f : TermTree) (n : ℕ) (b : TypeTree × TermTree)
    → letrec h f ≡ letrec g e → size_of h ∷ [] ≡ n ∷ [] → binding_at g n ≡ Some b → ⊥
not_body g h e f n b q p item =
    let is : h ≡ g = cc in
    let last : size_of h ≡ n = cc in
    body_is_no_side g b (subst (λ k. binding_at g k ≡ Some b) (sym last ∙ ap size_of is) item)

-- an application is no letrec
no_spine : (args : List Arg) (h : TermTree) (g : Group) (e : TermTree) → head_of h ≡ h
    → (h ≡ letrec g e → ⊥) → applied h args ≡ letrec g e → ⊥
no_spine args h g e is not q = not (sym is ∙ sym (head_applied args h) ∙ ap head_of q)

-- what stands below a letrec at the number of a right side is that right side
side_there : {o : Origins} {at at' : Spot} {t x : TermTree} {p : List ℕ} → Below o at t p at' x
    → (g : Group) (e : TermTree) (n : ℕ) (b : TypeTree × TermTree) → t ≡ letrec g e
    → p ≡ n ∷ [] → binding_at g n ≡ Some b → IsSide at g b at' x
side_there {at = at} (right_side {g = h} {i = i} {b = c} l s named) g e n b q r item =
    let is : h ≡ g = cc in
    let number : i ≡ n = cc in
    let there : binding_at g n ≡ Some c =
    subst (λ k. binding_at g k ≡ Some c) number (subst (λ k. binding_at k i ≡ Some c) is s) in
    let same : c ≡ b = cc in record {
      lets = l;
      stands = ap (λ k. spot at.mode false (with_more (declared k) at.vars)) is;
      term = ap (λ (d : TypeTree × TermTree). d.1) same;
    }
side_there (let_body {g = h} {e = f} l) g e n b q r item = absurd (not_body g h e f n b q r item)
side_there (constant_body {g = h} {e = f} k) g e n b q r item =
    absurd (not_body g h e f n b q r item)
side_there (scrutinee d u) g e n b q r item = absurd cc
side_there (branch v s m a d) g e n b q r item = absurd cc
side_there (of_vector k s) g e n b q r item = absurd cc
side_there (of_constructor c i args k s l a) g e n b q r item =
    absurd (no_spine args (con c) g e refl (λ z. absurd cc) q)
side_there (of_words w i args k s l m a) g e n b q r item =
    absurd (no_spine args (prim w) g e refl (λ z. absurd cc) q)
side_there (of_element w i args k s m a) g e n b q r item =
    absurd (no_spine args (prim w) g e refl (λ z. absurd cc) q)
side_there (demanded {p = w} {args = args} d) g e n b q r item =
    absurd (no_spine args (prim w) g e refl (λ z. absurd cc) q)
side_there (begins w i j args m s t v a) g e n b q r item =
    absurd (no_spine args (prim w) g e refl (λ z. absurd cc) q)

-- the binding of a list
listed_binding : (bs : List Binding) (i : ℕ) (x : Binding)
    → slice_get bs i ≡ Some x → binding_at (group_of bs) i ≡ Some (x.ty, x.body)
listed_binding [] i x h = absurd cc
listed_binding (y ∷ bs) zero x h =
    let is : y ≡ x = cc in ap (λ (c : Binding). Some (c.ty, c.body)) is
listed_binding (y ∷ bs) (suc i) x h = listed_binding bs i x h

-- at a quiet right side and below it there is no step
no_quiet_step : QuietSidesHaveNoStep → (rules : List Rule) (o : Origins) (at : Spot)
    (bs : List Binding) (e : TermTree) (n : ℕ) (b : Binding) (from : List ℕ)
    → IsSound (setting_at o) → IsTypedAt (setting_at o) at (letrec (group_of bs) e)
    → slice_get bs n ≡ Some b → IsQuiet b.body
    → HasNoStepAt rules o (From o (AtPath (Below o at (letrec (group_of bs) e)) (n ∷ []))) from
no_quiet_step law rules o at bs e n b from sound typed item quiet path rule new s =
    let g = group_of bs in
    let p = s.place in
    let below : Below o at (letrec g e) (n ∷ []) p.spot p.term =
    subst (λ q. Below o at (letrec g e) q p.spot p.term) p.place.0 p.place.1 in
    let side = side_there below g e n (b.ty, b.body) refl refl (listed_binding bs n b item) in
    let inner = with_more (declared g) at.vars in
    let part : PartTyped (setting_at o) [] p.spot.vars p.term =
    part_typed (below_around below sound typed.0) sound typed.0 typed.1.0 typed.1.1 in
    let scope = subst (λ (w : Spot). AreTermTypes (setting_at o) [] w.vars) side.stands part.0 in
    law o at.mode inner b.body sound scope side.lets quiet p.rest s.at s.term rule new
    (subst (λ z. IsActive o (spot at.mode false inner) z p.rest s.at s.term) side.term
    (subst (λ w. IsActive o w p.term p.rest s.at s.term) side.stands p.active)) s.made

pub quiet_is_passed : QuietSidesHaveNoStep → (rules : List Rule) (t : TermTree)
    (bs : List Binding) (e : TermTree) (n : ℕ) (b : Binding) (from : List ℕ)
    → letrec (group_of bs) e ≡ t → slice_get bs n ≡ Some b → IsQuiet b.body
    → IsPassedPart rules t from n
quiet_is_passed law rules t bs e n b from is item quiet =
    subst (λ z. IsPassedPart rules z from n) is
    (λ o at sound typed. no_quiet_step law rules o at bs e n b from sound typed item quiet)

-- the parts before a number, and then that of the number too
pub one_more_passed : (rules : List Rule) (e : TermTree) (from : List ℕ) (n : ℕ)
    → ArePassedParts rules e from n → IsPassedPart rules e from n
    → ArePassedParts rules e from (suc n)
one_more_passed rules e from n before here o at sound typed =
    none_up_to_next rules o (λ at e r d. Unit {0}) (Below o at e) (path_to e) n from None refl
    (before o at sound typed) (here o at sound typed)

-- a search in a typed scene
pub passed_in_scene : (rules : List Rule) (scene : Scene) (at : Spot) (e : TermTree)
    (from : List ℕ) (n : ℕ) → IsSound (setting_in scene) → IsTypedAt (setting_in scene) at e
    → IsPassedPart rules e from n
    → HasNoStepAt rules (origins_of scene)
    (From (origins_of scene) (AtPath (Below (origins_of scene) at e) (path_to e n))) from
passed_in_scene rules scene at e from n sound typed passed =
    let is = sym (setting_of_scene scene) in
    passed (origins_of scene) at (subst IsSound is sound) (subst (λ s. IsTypedAt s at e) is typed)

pub all_passed_in_scene : (rules : List Rule) (scene : Scene) (at : Spot) (e : TermTree)
    (from : List ℕ) (n : ℕ) → IsSound (setting_in scene) → IsTypedAt (setting_in scene) at e
    → ArePassedParts rules e from n
    → HasNoStepAt rules (origins_of scene)
    (From (origins_of scene) (OfFirst (Below (origins_of scene) at e) (path_to e) n)) from
all_passed_in_scene rules scene at e from n sound typed passed =
    let is = sym (setting_of_scene scene) in
    passed (origins_of scene) at (subst IsSound is sound) (subst (λ s. IsTypedAt s at e) is typed)

pub without_items : {X : Type 0} (xs : List X) → length xs ≡ 0 → xs ≡ []
without_items [] h = refl
without_items (x ∷ xs) h = absurd (omega (arith, h))
