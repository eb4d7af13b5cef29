-- Terms at the arguments so far, of which type arguments wait.
use Rattle.std.proofs.Common.{◌≡◌, ℕ, suc, zero, ◌≤◌, Option, Some, None, refl, sym, ap, ◌∙◌, subst, List, [], ◌∷◌, ◌++◌, length, reverse}
use Rattle.std.specs.Prelude.{IfSome, MatchOption}
use Rattle.std.proofs.lemmas.List.{reverse-append}
use Rattle.chw_types.specs.declared.kind.Kind.{Kind}
use Rattle.chw_types.specs.SameTypes.{SameTypes}
use Rattle.chw_types.specs.TypeTree.{TypeTree, fun, for_all}
use Rattle.chw_types.specs.TypeView.{trees_of}
use Rattle.chw_types.specs.TypeMoves.{up, sub, up_by, one, put_at, put}
use Rattle.chw_types.specs.Arguments.{given, arguments}
use Rattle.chw_types.specs.Kinds.{degree}
use Rattle.chw_types.proofs.Filled.{list_of_trees}
use Rattle.chw_types.proofs.KindsKept.{kind_put, puts_put}
use Rattle.chw_types.proofs.TypeLaws.{same, rename_sub, sub_sub, sub_ids}
use Rattle.chw_typing.specs.Scopes.{Setting, HasKind}
use Rattle.chw_typing.proofs.Kinded.{bound_part}
use Rattle.chw_typing.proofs.Settling.{settled_kinded}
use Rattle.term_spines.specs.Forms.{Takes, TakesNot, TakesType}
use Rattle.seen_types.specs.NumberOf.{IsNumberOf}
use Rattle.term_spines.specs.Spines.{put_for, spine_found, IsNumbered, IsStarted}
use Rattle.seen_types.specs.declared.found.Found.{Found}
use Rattle.term_spines.specs.declared.spines.Spine.{Spine}
use Rattle.seen_types.proofs.Staying.{put_nothing}
use Rattle.term_spines.proofs.Taking.{takes_not}

-- a list with one more at its end, turned
pub reverse_last : {A : Type 0} (xs ys : List A) (x : A) → ys ≡ xs ++ x ∷ [] → x ∷ reverse xs ≡ reverse ys
reverse_last xs ys x e = sym (ap reverse e ∙ reverse-append xs (x ∷ []))

-- the arguments of a list, the last one for the variable 0
pub put_waiting : (t : TypeTree) (ts : List TypeTree) → sub t (arguments (trees_of ts)) ≡ sub t (given (reverse ts))
put_waiting t ts = ap (λ xs. sub t (given (reverse xs))) (list_of_trees ts)

-- one more type, put for the innermost variable
put_given : (t a : TypeTree) (taken : List TypeTree) → put (sub t (up (given taken))) 0 a ≡ sub t (given (a ∷ taken))
unfolding put_at up_by up sub
put_given t a taken = sub_sub t (up (given taken)) (one a) ∙ ap (sub t) (same (λ x. sub (up (given taken) x) (one a)) (given (a ∷ taken)) here)
  where
    here : (x : ℕ) → sub (up (given taken) x) (one a) ≡ given (a ∷ taken) x
    here zero = refl
    here (suc x) = rename_sub (given taken x) suc (one a) ∙ sub_ids (given taken x)

-- what was found, where nothing waits
pub found_started : (f : Found) (p : Spine) → p.body ≡ f → length p.waiting.items ≡ 0 → spine_found p ≡ f
found_started f p is none = (λ i. record { ty = put_nothing p.body.ty p.waiting.items none i; kind = p.body.kind }) ∙ is

-- what is found with all that waits put
pub found_finished : (p : Spine) (f : Found) → f.ty ≡ (spine_found p).ty → f.kind ≡ p.body.kind → f ≡ spine_found p
found_finished p f is kind = λ i. record { ty = is i; kind = kind i }

pub started_told : (P : Type 0) (Q : Found → Type 0) (o : Option Found) (r : Option Spine) → IsStarted o r → MatchOption o P Q → MatchOption r P (λ p. Q (spine_found p))
started_told P Q o (Some p) is h = subst (λ x. MatchOption x P Q) is h
started_told P Q o None is h = subst (λ x. MatchOption x P Q) is h

-- a type with a type parameter stays one
pub found_bound : (p : Spine) (of : TypeTree) (j : Kind) → p.body.ty ≡ for_all j of → (spine_found p).ty ≡ for_all j (sub of (up (put_for p)))
unfolding sub
found_bound p of j is = ap (λ t. sub t (put_for p)) is

-- a function type stays one
found_function : (p : Spine) (from to : TypeTree) → p.body.ty ≡ fun from to → (spine_found p).ty ≡ fun (sub from (put_for p)) (sub to (put_for p))
unfolding sub
found_function p from to is = ap (λ t. sub t (put_for p)) is

-- one more type argument waits
pub spine_waits : (s : Setting) (kinds : List Kind) (p q : Spine) (a of : TypeTree) (j : Kind) → p.body.ty ≡ for_all j of → HasKind s kinds a j → degree a ≤ 1 → q.body.ty ≡ of → q.body.kind ≡ p.body.kind → q.waiting.items ≡ p.waiting.items ++ a ∷ [] → HasKind s kinds (spine_found p).ty p.body.kind → TakesType s kinds (spine_found p).ty a (spine_found q)
spine_waits s kinds p q a of j is d small body kind items h =
    let k = p.body.kind in
    let under = sub of (up (put_for p)) in
    let bound = found_bound p of j is in
    let inner = (bound_part (subst (λ t. HasKind s kinds t k) bound h)).0 in
    let now : HasKind s kinds (put under 0 a) k = kind_put inner (put_at 0 a) kinds (puts_put s.datas s.domains [] kinds a j d small) in
    let more : given (a ∷ reverse p.waiting.items) ≡ put_for q = ap given (reverse_last p.waiting.items q.waiting.items a items) in
    let at : put under 0 a ≡ (spine_found q).ty = put_given of a (reverse p.waiting.items) ∙ ap (sub of) more ∙ ap (λ t. sub t (put_for q)) (sym body) in
    record {
      j = j;
      of = under;
      is = bound;
      kind = d;
      settled = settled_kinded s kinds (put under 0 a) k now ∙ at;
      kinded = subst (HasKind s kinds (spine_found q).ty) (sym kind) (subst (λ t. HasKind s kinds t k) at now);
    }

-- a function takes a term, and what waited goes on waiting
pub spine_takes : (p q : Spine) (from to c : TypeTree) → p.body.ty ≡ fun from to → q.body.ty ≡ to → q.body.kind ≡ p.body.kind → q.waiting.items ≡ p.waiting.items → SameTypes (sub from (put_for p)) c → Takes (spine_found p) c (spine_found q)
spine_takes p q from to c is body kind items same =
    let stays : put_for p ≡ put_for q = ap (λ xs. given (reverse xs)) (sym items) in
    record {
      from = sub from (put_for p);
      is = found_function p from to is ∙ ap (fun (sub from (put_for p))) (ap (sub to) stays ∙ ap (λ t. sub t (put_for q)) (sym body));
      same = same;
      kind = kind;
    }

-- a term of another type than the parameter's
pub spine_takes_not : (p : Spine) (from to c : TypeTree) → p.body.ty ≡ fun from to → (SameTypes (sub from (put_for p)) c → ⊥) → TakesNot (spine_found p).ty c
spine_takes_not p from to c is never = takes_not (spine_found p).ty c (sub from (put_for p)) (sub to (put_for p)) (found_function p from to is) never

-- a term that is started
pub numbered_start : (ts : List TypeTree) (p : Spine) (f : Found) (o : Option ℕ) → p.body ≡ f → p.number ≡ o → IsNumberOf ts o f.ty → IsNumbered ts p
numbered_start ts p f o body number h =
    subst (λ m. IsNumberOf ts m p.body.ty) (sym number) (subst (λ (g : Found). IsNumberOf ts o g.ty) (sym body) h)

-- one without a number
pub unnumbered : (ts : List TypeTree) (r : Option Spine) → IfSome r (λ p. p.number ≡ None) → IfSome r (λ p. IsNumbered ts p)
unnumbered ts None h = tt
unnumbered ts (Some p) h = subst (λ o. IsNumberOf ts o p.body.ty) (sym h) tt
