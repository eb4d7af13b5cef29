-- Arguments that are put at once: the same ones, and their kinds.
use Rattle.std.proofs.Common.{◌≡◌, ℕ, suc, zero, sym, subst, List, [], ◌∷◌, ◌++◌, reverse}
use Rattle.std.specs.Prelude.{Some}
use Rattle.std.specs.List.{slice_get}
use Rattle.std.proofs.lemmas.List.{reverse-append}
use Rattle.chw_types.specs.declared.kind.Kind.{Kind}
use Rattle.chw_types.specs.declared.declarations.Data.{Data}
use Rattle.chw_types.specs.TypeTree.{TypeTree, ty_var, TypeTrees}
use Rattle.chw_types.specs.Arguments.{list_of, given, arguments}
use Rattle.chw_types.specs.Kinds.{KindOf, KindsOf, no_kinds, kind_and}
use Rattle.chw_types.specs.SameTypes.{SameTypes, SameAll, same_none, same_and}
use Rattle.chw_types.proofs.SameLaws.{same_self}
use Rattle.type_laws.proofs.PutSame.{SamePuts}

reverse_cons : {A : Type 0} (x : A) (xs : List A) → reverse (x ∷ xs) ≡ reverse xs ++ x ∷ []
reverse_cons x xs = reverse-append (x ∷ []) xs

-- two lists hold, place by place, what is related
abbrev Along : {A B : Type 0} → (A → B → Type 0) → List A → List B → Type 0
Along R [] [] = Unit {0}
Along R (x ∷ xs) (y ∷ ys) = R x y × Along R xs ys
Along R _ _ = ⊥

along_append : {A B : Type 0} (R : A → B → Type 0) (xs : List A) (ys : List B) (x : A) (y : B) → Along R xs ys → R x y → Along R (xs ++ x ∷ []) (ys ++ y ∷ [])
along_append R [] [] x y h r = (r, tt)
along_append R (z ∷ xs) (w ∷ ys) x y h r = (h.0, along_append R xs ys x y h.1 r)
along_append R [] (w ∷ ys) x y h r = absurd h
along_append R (z ∷ xs) [] x y h r = absurd h

along_reverse : {A B : Type 0} (R : A → B → Type 0) (xs : List A) (ys : List B) → Along R xs ys → Along R (reverse xs) (reverse ys)
along_reverse R [] [] h = tt
along_reverse R (x ∷ xs) (y ∷ ys) h =
    subst (λ zs. Along R zs (reverse (y ∷ ys))) (sym (reverse_cons x xs))
    (subst (Along R (reverse xs ++ x ∷ [])) (sym (reverse_cons y ys)) (along_append R (reverse xs) (reverse ys) x y (along_reverse R xs ys h.1) h.0))
along_reverse R [] (y ∷ ys) h = absurd h
along_reverse R (x ∷ xs) [] h = absurd h

same_along : {ts us : TypeTrees} → SameAll ts us → Along SameTypes (list_of ts) (list_of us)
same_along same_none = tt
same_along (same_and h hs) = (h, same_along hs)

same_given : (ts us : List TypeTree) → Along SameTypes ts us → SamePuts (given ts) (given us)
same_given [] [] h x = same_self (ty_var x)
same_given (t ∷ ts) (u ∷ us) h zero = h.0
same_given (t ∷ ts) (u ∷ us) h (suc x) = same_given ts us h.1 x
same_given [] (u ∷ us) h x = absurd h
same_given (t ∷ ts) [] h x = absurd h

pub same_arguments : (ts us : TypeTrees) → SameAll ts us → SamePuts (arguments ts) (arguments us)
same_arguments ts us h = same_given (reverse (list_of ts)) (reverse (list_of us)) (along_reverse SameTypes (list_of ts) (list_of us) (same_along h))

kinds_along : {datas : List Data} {domains : ℕ} {scope : List Kind} {ts : TypeTrees} {ks : List Kind} → KindsOf datas domains scope ts ks → Along (KindOf datas domains scope) (list_of ts) ks
kinds_along no_kinds = tt
kinds_along (kind_and h hs) = (h, kinds_along hs)

kinds_given : (datas : List Data) (domains : ℕ) (scope : List Kind) (ts : List TypeTree) (ks : List Kind) → Along (KindOf datas domains scope) ts ks → (x : ℕ) (k : Kind) → slice_get ks x ≡ Some k → KindOf datas domains scope (given ts x) k
kinds_given datas domains scope [] [] h x k e = absurd (cc)
kinds_given datas domains scope (t ∷ ts) (j ∷ ks) h zero k e = let is : j ≡ k = cc in subst (KindOf datas domains scope t) is h.0
kinds_given datas domains scope (t ∷ ts) (j ∷ ks) h (suc x) k e = kinds_given datas domains scope ts ks h.1 x k e
kinds_given datas domains scope [] (j ∷ ks) h x k e = absurd h
kinds_given datas domains scope (t ∷ ts) [] h x k e = absurd h

pub kinds_of_arguments : (datas : List Data) (domains : ℕ) (scope params : List Kind) (ts : TypeTrees) → KindsOf datas domains scope ts params → (x : ℕ) (k : Kind) → slice_get (reverse params) x ≡ Some k → KindOf datas domains scope (arguments ts x) k
kinds_of_arguments datas domains scope params ts h =
    kinds_given datas domains scope (reverse (list_of ts)) (reverse params) (along_reverse (KindOf datas domains scope) (list_of ts) params (kinds_along h))
