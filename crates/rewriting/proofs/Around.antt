-- What is at an active place is around the term in the sense of typing.
use Rattle.std.proofs.Common.{◌≡◌, ℕ, zero, suc, refl, sym, ap, subst, ◌-◌, arith, List, [], ◌∷◌, ◌++◌, length, map, replicate, reverse, Some}
use Rattle.std.specs.List.{slice_get}
use Rattle.chw_types.specs.declared.kind.Kind.{Kind}
use Rattle.chw_types.specs.TypeTree.{TypeTree, TypeTrees}
use Rattle.chw_types.specs.TypeMoves.{sub}
use Rattle.chw_types.specs.Arguments.{arguments}
use Rattle.chw_types.specs.Kinds.{KindsOf}
use Rattle.chw_terms.specs.declared.term.Arg.{Arg}
use Rattle.chw_terms.specs.declared.term.Arg.TheVariants.{OfTerm, OfType}
use Rattle.chw_terms.specs.declared.term.Pattern.{Pattern}
use Rattle.chw_terms.specs.TermTree.{TermTree, con, prim}
use Rattle.chw_terms.specs.TermView.{applied_to, applied}
use Rattle.chw_typing.specs.HeadTypes.{PatternOf, of_con, of_lit, of_any}
use Rattle.chw_typing.specs.Programs.{IsSound}
use Rattle.chw_typing.specs.Scopes.{Setting, HasKind, IsTermType, AreTermTypes}
use Rattle.chw_typing.specs.Typing.{Binds, HasType, h_var, HasTypeUpTo}
use Rattle.chw_typing.proofs.Kinded.{typed_at}
use Rattle.chw_typing.proofs.Patterns.{fields_typed, constructor_arguments}
use Rattle.chw_typing.proofs.SameScopes.{are_same_self}
use Rattle.chw_typing.proofs.FieldKinds.{closed_put}
use Rattle.chw_typing.specs.Paths.{argument_path}
use Rattle.chw_typing.specs.Around.{Around, here, in_lam, in_function, in_argument, in_ty_app, in_letrec, in_vector, in_scrutinee, in_branch}
use Rattle.chw_typing.proofs.ContextPlaces.{around_behind}
use Rattle.chw_typing.proofs.Typed.{PartTyped, part_typed}
use Rattle.rewriting.specs.Named.{UnderLambdas, under_none, under_one}
use Rattle.rewriting.specs.Origins.{MadeOf, Origins, setting_at}
use Rattle.rewriting.specs.Active.{Below, right_side, let_body, constant_body, scrutinee, branch, of_constructor, of_words, of_element, of_vector, demanded, begins, IsActive, at_it, below, IsPlaceOf}
use Rattle.rewriting.specs.Spots.{Spot}
use Rattle.rewriting.proofs.Parts.{side_at, body_at}

zeros_turned : (n : ℕ) (q : List ℕ) → replicate n 0 ++ 0 ∷ q ≡ 0 ∷ replicate n 0 ++ q
zeros_turned zero q = refl
zeros_turned (suc n) q = ap (λ p. 0 ∷ p) (zeros_turned n q)

around_function : {s : Setting} {kinds ks : List Kind} {vars vs : List TypeTree} {e x : TermTree} {q : List ℕ} (a : Arg) → Around s kinds vars e q ks vs x → Around s kinds vars (applied_to e a) (0 ∷ q) ks vs x
around_function (OfTerm a) r = in_function r
around_function (OfType t) r = in_ty_app r

-- a place of the head is one of the application
around_head : {s : Setting} {kinds ks : List Kind} {vars vs : List TypeTree} {e x : TermTree} {q : List ℕ} (args : List Arg) → Around s kinds vars e q ks vs x → Around s kinds vars (applied e args) (replicate (length args) 0 ++ q) ks vs x
around_head [] r = r
around_head {s} {kinds} {ks} {vars} {vs} {e} {x} {q} (a ∷ args) r =
    subst (λ p. Around s kinds vars (applied (applied_to e a) args) p ks vs x) (zeros_turned (length args) q) (around_head args (around_function a r))

first_path : (m : ℕ) → argument_path 0 (suc m) ≡ replicate m 0 ++ 1 ∷ []
first_path m = let n : suc m - 1 - 0 ≡ m = omega arith in ap (λ k. replicate k 0 ++ 1 ∷ []) n

later_path : (i m : ℕ) → argument_path (suc i) (suc m) ≡ argument_path i m
later_path i m = let n : suc m - 1 - suc i ≡ m - 1 - i = omega arith in ap (λ k. replicate k 0 ++ 1 ∷ []) n

-- an argument is around the application, in its scope
around_argument : {s : Setting} {kinds : List Kind} {vars : List TypeTree} (args : List Arg) (e a : TermTree) (i : ℕ) → slice_get args i ≡ Some (OfTerm a) → Around s kinds vars (applied e args) (argument_path i (length args)) kinds vars a
around_argument [] e a i h = absurd cc
around_argument {s} {kinds} {vars} (b ∷ args) e a zero h =
    let is : OfTerm a ≡ b = cc in
    subst (λ p. Around s kinds vars (applied (applied_to e b) args) p kinds vars a) (sym (first_path (length args)))
    (subst (λ c. Around s kinds vars (applied (applied_to e c) args) (replicate (length args) 0 ++ 1 ∷ []) kinds vars a) is (around_head args (in_argument here)))
around_argument {s} {kinds} {vars} (b ∷ args) e a (suc i) h =
    subst (λ p. Around s kinds vars (applied (applied_to e b) args) p kinds vars a) (sym (later_path i (length args))) (around_argument args (applied_to e b) a i h)

all_typed : (s : Setting) (params : List Kind) (ts : TypeTrees) (fs : List TypeTree) → KindsOf s.datas s.domains [] ts params → ((i : ℕ) (f : TypeTree) → slice_get fs i ≡ Some f → IsTermType s (reverse params) f) → AreTermTypes s [] (map (λ f. sub f (arguments ts)) fs)
all_typed s params ts [] d h = tt
all_typed s params ts (f ∷ fs) d h =
    let of = h 0 f refl in
    (record { kind = of.kind; has = closed_put s params ts f of.kind d of.has; of_terms = of.of_terms }, all_typed s params ts fs d (λ i g e. h (suc i) g e))

-- the fields of a closed type have kinds of terms
pattern_fields_typed : {s : Setting} {u : TypeTree} {q : Pattern} {fields : List TypeTree} → PatternOf s.datas u q fields → IsSound s → (j : Kind) → HasKind s [] u j → AreTermTypes s [] fields
pattern_fields_typed {s} (of_con {d = d} {c = c} {ts = ts} it e o n) h j k =
    all_typed s it.it.params ts it.decl.fields (constructor_arguments s [] c.number d it ts j e o k) (fields_typed s c.number it h e)
pattern_fields_typed (of_lit l e) h j k = tt
pattern_fields_typed of_any h j k = tt

binds_fields : (s : Setting) (vars : List TypeTree) (x : ℕ) (u : TypeTree) (q : Pattern) (fields : List TypeTree) → IsSound s → AreTermTypes s [] vars → slice_get vars x ≡ Some u → PatternOf s.datas u q fields → Binds s [] u q fields
binds_fields s vars x u q fields h g is p =
    let of = typed_at s [] vars x u g is in
    record { fields = fields; pattern = p; same = are_same_self fields; typed = pattern_fields_typed p h of.kind of.has }

pub below_around : {o : Origins} {at at' : Spot} {e x : TermTree} {p : List ℕ} → Below o at e p at' x → IsSound (setting_at o) → AreTermTypes (setting_at o) [] at.vars → Around (setting_at o) [] at.vars e p [] at'.vars x
below_around (right_side {g = g} {e = e} {i = i} {b = b} l s n) h typed = in_letrec (side_at g e i b s) here
below_around (let_body {g = g} {e = e} l) h typed = in_letrec (body_at g e) here
below_around (constant_body {g = g} {e = e} k) h typed = in_letrec (body_at g e) here
below_around (scrutinee d n) h typed = in_scrutinee here
below_around {o} {at} (branch {x = x} {u = u} {a = a} {fields = fields} v s n b p) h typed =
    in_branch b (h_var s) (binds_fields (setting_at o) at.vars x u a.pattern fields h typed s p) here
below_around (of_constructor c i args {a = a} k s l r) h typed = around_argument args (con c) a i r
below_around (of_words p i args {a = a} k w l m r) h typed = around_argument args (prim p) a i r
below_around (of_element p i args {a = a} k w m r) h typed = around_argument args (prim p) a i r
below_around (of_vector k s) h typed = in_vector s here
below_around (demanded {p = p} {i = i} {args = args} {a = a} d) h typed = around_argument args (prim p) a i d.is
below_around (begins p i j args {a = a} m b t v r) h typed = around_argument args (prim p) a i r

pub active_around : {o : Origins} {at at' : Spot} {e x : TermTree} {p : List ℕ} → IsActive o at e p at' x → IsSound (setting_at o) → AreTermTypes (setting_at o) [] at.vars → (t : TypeTree) → HasType (setting_at o) [] at.vars e t → Around (setting_at o) [] at.vars e p [] at'.vars x
active_around at_it h typed t d = here
active_around (below b r) h typed t d =
    let one = below_around b h typed in
    let of = part_typed one h typed t d in
    around_behind one (active_around r h of.0 of.1.0 of.1.1)

pub active_typed : {o : Origins} {at at' : Spot} {e x : TermTree} {p : List ℕ} → IsActive o at e p at' x → IsSound (setting_at o) → AreTermTypes (setting_at o) [] at.vars → (t : TypeTree) → HasType (setting_at o) [] at.vars e t → PartTyped (setting_at o) [] at'.vars x
active_typed r h typed t d = part_typed (active_around r h typed t d) h typed t d

under_around : {s : Setting} {kinds : List Kind} {vars vs : List TypeTree} {e x : TermTree} {t : TypeTree} {p : List ℕ} → UnderLambdas vars e t p vs x → Around s kinds vars e p kinds vs x
under_around (under_none a) = here
under_around (under_one x r) = in_lam (under_around r)

pub place_around : (o : Origins) (it : MadeOf) (body x : TermTree) (path : List ℕ) (at : Spot) → IsSound (setting_at o) → HasTypeUpTo (setting_at o) [] [] body it.ty → IsPlaceOf o it body path at x → Around (setting_at o) [] [] body path [] at.vars x
place_around o it body x path at h d r =
    let root = under_around r.under in
    let of = part_typed root h tt d.type d.has in
    subst (λ p. Around (setting_at o) [] [] body p [] at.vars x) (sym r.is) (around_behind root (active_around r.active h of.0 of.1.0 of.1.1))
