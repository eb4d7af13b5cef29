-- The types of letrecs, and of vectors.
use Rattle.std.proofs.Common.{◌≡◌, ℕ, suc, zero, ◌+◌, ◌<◌, ◌≤◌, true, false, refl, sym, ap, ◌∙◌, subst, List, [], ◌∷◌, ◌++◌, length, take, get_or, arith}
use Rattle.std.proofs.lemmas.List.{map-append, take_all}
use Rattle.chw_types.specs.declared.kind.Kind.{Kind}
use Rattle.chw_types.specs.declared.kind.Kind.TheVariants.{Nat, Dom, Val, Cir}
use Rattle.chw_types.specs.TypeTree.{TypeTree, nat_lit, vector}
use Rattle.chw_types.specs.Kinds.{IsOfTerms, HasFunctions, kind_nat, kind_vector}
use Rattle.chw_types.proofs.KindsFound.{one_kind}
use Rattle.type_laws.proofs.OneKind.{same_kind}
use Rattle.chw_terms.specs.declared.term.Binding.{Binding}
use Rattle.chw_terms.specs.TermTree.{TermTree, letrec, vec_lit, Terms, term_and, Group, bind}
use Rattle.chw_terms.specs.TermView.{group_of, terms_of}
use Rattle.chw_typing.specs.Scopes.{Setting, HasKind, IsTermType, AreTermTypes, with_more, declared}
use Rattle.chw_typing.specs.Typing.{count, HasType, HasTypeUpTo, h_letrec, h_vec, AreBound, none_bound, bound_and, AllHave, none_have, have_and}
use Rattle.chw_typing.proofs.Kinded.{term_type, typed_append, bound_typed}
use Rattle.chw_typing.specs.Finding.{Finds, f_letrec, f_vec}
use Rattle.term_types.specs.Answers.{HasNoType, IsTyped, IsReady}
use Rattle.seen_types.specs.Each.{Each}
use Rattle.term_types.specs.Groups.{AreOfTerms, NotAllOfTerms, GoesWith, GoWith, IsGroupKind, HaveTheirTypes, together}
use Rattle.term_spines.specs.Kinding.{has_functions}
use Rattle.seen_types.specs.declared.found.Found.{Found}
use Rattle.seen_types.proofs.EachItem.{each_append, next_taken}
use Rattle.chw_typing.proofs.FoundTyped.{found_is_type}
use Rattle.term_types.proofs.Lambdas.{functions_found, functions_none}
use Rattle.term_types.proofs.Ready.{one, of_terms}
use Rattle.term_frames.proofs.VarsFound.{types_of}

declared_of : (bs : List Binding) → declared (group_of bs) ≡ types_of bs
declared_of [] = refl
declared_of (b ∷ bs) = ap (λ ts. b.ty ∷ ts) (declared_of bs)

all_bound : {s : Setting} {kinds : List Kind} {vars : List TypeTree} (k : Kind) (bs : List Binding) → GoWith s kinds k bs → HaveTheirTypes s kinds vars bs → AreBound s kinds vars k (group_of bs)
all_bound k [] h g = none_bound
all_bound k (b ∷ bs) h g = bound_and h.0.1 h.0.2 g.0.has g.0.same (all_bound k bs h.1 g.1)

bound_parts : {s : Setting} {kinds : List Kind} {vars : List TypeTree} {k : Kind} (b : Binding) (bs : List Binding) → AreBound s kinds vars k (bind b.ty b.body (group_of bs)) → GoesWith s kinds k b.ty × HasTypeUpTo s kinds vars b.body b.ty × AreBound s kinds vars k (group_of bs)
bound_parts b bs (bound_and {j = j} {u = u} d h e m rest) = ((j, d, h), record { type = u; has = e; same = m }, rest)

bound_all : {s : Setting} {kinds : List Kind} {vars : List TypeTree} {k : Kind} (bs : List Binding) → AreBound s kinds vars k (group_of bs) → GoWith s kinds k bs × HaveTheirTypes s kinds vars bs
bound_all [] h = (tt, tt)
bound_all (b ∷ bs) h = let p = bound_parts b bs h in let rest = bound_all bs p.2 in ((p.0, rest.0), (p.1, rest.1))

pub record LetParts (s : Setting) (kinds : List Kind) (vars : List TypeTree) (bs : List Binding) (e : TermTree) (t : TypeTree) : Type 0 where
  pub k : Kind
  pub body : HasType s kinds (with_more (types_of bs) vars) e t
  pub kind : HasKind s kinds t k
  pub typed : AreOfTerms s kinds bs
  pub go : GoWith s kinds k bs
  pub have : HaveTheirTypes s kinds (with_more (types_of bs) vars) bs

let_parts : {s : Setting} {kinds : List Kind} {vars : List TypeTree} (bs : List Binding) {g : Group} {e : TermTree} {t : TypeTree} → g ≡ group_of bs → HasType s kinds vars (letrec g e) t → LetParts s kinds vars bs e t
let_parts {s} {kinds} {vars} bs {g} {e} {t} is (h_letrec {k = k} d l b) =
    let at : declared g ≡ types_of bs = ap declared is ∙ declared_of bs in
    let bound = subst (λ h. AreBound s kinds (with_more (declared g) vars) k h) is b in
    let all = bound_all bs (subst (λ ts. AreBound s kinds (with_more ts vars) k (group_of bs)) at bound) in
    record {
      k = k;
      body = subst (λ ts. HasType s kinds (with_more ts vars) e t) at d;
      kind = l;
      typed = subst (AreTermTypes s kinds) at (bound_typed b);
      go = all.0;
      have = all.1;
    }

pub let_typed : {s : Setting} {kinds : List Kind} {vars : List TypeTree} {e : TermTree} (bs : List Binding) (all : Kind) (f : Found) → IsGroupKind s kinds bs all → IsTyped s kinds (with_more (types_of bs) vars) e f → has_functions all f.kind ≡ true → HaveTheirTypes s kinds (with_more (types_of bs) vars) bs → IsTyped s kinds vars (letrec (group_of bs) e) f
let_typed {s} {kinds} {vars} {e} bs all f g d goes have =
    let at = sym (declared_of bs) in (
      f_letrec (subst (λ ts. Finds s kinds (with_more ts vars) e f.ty) at d.0) d.1
          (subst (λ ts. AreBound s kinds (with_more ts vars) f.kind (group_of bs)) at (all_bound f.kind bs (g.go f.kind (functions_found all f.kind goes)) have)),
      d.1,
    )

pub let_group : {s : Setting} {kinds : List Kind} {vars : List TypeTree} {e : TermTree} (bs : List Binding) → NotAllOfTerms s kinds bs → HasNoType s kinds vars (letrec (group_of bs) e)
let_group bs never t d = never (let_parts bs refl d).typed

pub let_body : {s : Setting} {kinds : List Kind} {vars : List TypeTree} {e : TermTree} (bs : List Binding) → HasNoType s kinds (with_more (types_of bs) vars) e → HasNoType s kinds vars (letrec (group_of bs) e)
let_body bs never t d = never t (let_parts bs refl d).body

pub let_kind : {s : Setting} {kinds : List Kind} {vars : List TypeTree} {e : TermTree} (bs : List Binding) (all : Kind) (f : Found) → IsReady s kinds (with_more (types_of bs) vars) → IsGroupKind s kinds bs all → IsTyped s kinds (with_more (types_of bs) vars) e f → has_functions all f.kind ≡ false → HasNoType s kinds vars (letrec (group_of bs) e)
let_kind {s} {kinds} bs all f h g d never t other =
    let p = let_parts bs refl other in
    let same : p.k ≡ f.kind = same_kind (one h p.body (found_is_type d.0)) p.kind d.1 in
    functions_none all f.kind never (g.goes f.kind (of_terms f h d) (subst (λ k. GoWith s kinds k bs) same p.go))

pub let_types : {s : Setting} {kinds : List Kind} {vars : List TypeTree} {e : TermTree} (bs : List Binding) → (HaveTheirTypes s kinds (with_more (types_of bs) vars) bs → ⊥) → HasNoType s kinds vars (letrec (group_of bs) e)
let_types bs never t d = never (let_parts bs refl d).have

pub no_group : (s : Setting) (kinds : List Kind) → IsGroupKind s kinds [] Val
no_group s kinds = record { typed = tt; go = λ k h. tt; goes = λ k o h. values k o }
  where
    values : (k : Kind) → IsOfTerms k → HasFunctions Val k
    values Val o = tt
    values Cir o = tt
    values Nat o = o
    values Dom o = o

last_go : {A : Type 0} (P : A → Type 0) (xs : List A) (x : A) → Each P (xs ++ x ∷ []) → Each P xs × P x
last_go P [] x h = (tt, h.0)
last_go P (y ∷ xs) x h = let rest = last_go P xs x h.1 in ((h.0, rest.0), rest.1)

-- the kind of a circuit stands for all others
circuits_to : (k : Kind) → HasFunctions Cir k → k ≡ Cir
circuits_to Cir h = refl
circuits_to Val h = absurd h
circuits_to Nat h = absurd h
circuits_to Dom h = absurd h

to_circuit : (j : Kind) → IsOfTerms j → HasFunctions j Cir
to_circuit Val o = tt
to_circuit Cir o = tt
to_circuit Nat o = absurd o
to_circuit Dom o = absurd o

from_value : (all k : Kind) → IsOfTerms all → HasFunctions all k → HasFunctions Val k
from_value Val k o h = h
from_value Cir k o h = subst (HasFunctions Val) (sym (circuits_to k h)) tt
from_value Nat k o h = absurd o
from_value Dom k o h = absurd o

-- to functions from a circuit there are those from what goes with it
under_circuit : (all k : Kind) → IsOfTerms all → HasFunctions Cir k → HasFunctions all k
under_circuit all k o h = subst (HasFunctions all) (sym (circuits_to k h)) (to_circuit all o)

last_typed : (s : Setting) (kinds : List Kind) (bs : List Binding) (b : Binding) (j : Kind) → AreOfTerms s kinds bs → HasKind s kinds b.ty j × IsOfTerms j → AreOfTerms s kinds (bs ++ b ∷ [])
last_typed s kinds bs b j h d = subst (AreTermTypes s kinds) (sym (map-append (λ b. b.ty) bs (b ∷ []))) (typed_append s kinds (types_of bs) (b.ty ∷ []) h (term_type s kinds b.ty j d.0 d.1, tt))

pub group_value : (s : Setting) (kinds : List Kind) (bs : List Binding) (b : Binding) (all : Kind) → IsOfTerms all → IsGroupKind s kinds bs all → HasKind s kinds b.ty Val → IsGroupKind s kinds (bs ++ b ∷ []) all
group_value s kinds bs b all o g d = record {
  typed = last_typed s kinds bs b Val g.typed (d, tt);
  go = λ k h. each_append (λ b. GoesWith s kinds k b.ty) bs (b ∷ []) (g.go k h) ((Val, d, from_value all k o h), tt);
  goes = λ k p h. g.goes k p (last_go (λ b. GoesWith s kinds k b.ty) bs b h).0;
}

pub group_circuit : (s : Setting) (kinds : List Kind) (bs : List Binding) (b : Binding) (all : Kind) → IsOfTerms all → IsGroupKind s kinds bs all → HasKind s kinds b.ty Cir → IsGroupKind s kinds (bs ++ b ∷ []) Cir
group_circuit s kinds bs b all o g d = record {
  typed = last_typed s kinds bs b Cir g.typed (d, tt);
  go = λ k h. each_append (λ b. GoesWith s kinds k b.ty) bs (b ∷ []) (g.go k (under_circuit all k o h)) ((Cir, d, h), tt);
  goes = λ k p h. let last = (last_go (λ b. GoesWith s kinds k b.ty) bs b h).1 in subst (λ j. HasFunctions j k) (one_kind last.1 d) last.2;
}

-- one more binding
pub group_next : (s : Setting) (kinds : List Kind) (bs : List Binding) (i : ℕ) (b d : Binding) (all k : Kind) → i < length bs → b ≡ get_or bs i d → IsOfTerms all → IsGroupKind s kinds (take i bs) all → HasKind s kinds b.ty k × IsOfTerms k → IsGroupKind s kinds (take (i + 1) bs) (together all k) × IsOfTerms (together all k)
group_next s kinds bs i b d all Val l is o g h = (subst (λ xs. IsGroupKind s kinds xs all) (sym (next_taken bs i b d l is)) (group_value s kinds (take i bs) b all o g h.0), o)
group_next s kinds bs i b d all Cir l is o g h = (subst (λ xs. IsGroupKind s kinds xs Cir) (sym (next_taken bs i b d l is)) (group_circuit s kinds (take i bs) b all o g h.0), tt)
group_next s kinds bs i b d all Nat l is o g h = absurd h.1
group_next s kinds bs i b d all Dom l is o g h = absurd h.1

pub group_all : (s : Setting) (kinds : List Kind) (bs : List Binding) (i : ℕ) (all : Kind) → length bs ≤ i → IsGroupKind s kinds (take i bs) all → IsGroupKind s kinds bs all
group_all s kinds bs i all l g = subst (λ xs. IsGroupKind s kinds xs all) (take_all i bs l) g

-- a binding whose type terms don't have
pub no_group_at : (s : Setting) (kinds : List Kind) (bs : List Binding) (i : ℕ) (b d : Binding) → i < length bs → b ≡ get_or bs i d → (IsTermType s kinds b.ty → ⊥) → NotAllOfTerms s kinds bs
no_group_at s kinds [] i b d l is never h = absurd (omega arith)
no_group_at s kinds (c ∷ bs) zero b d l is never h = never (subst (λ x. IsTermType s kinds x.ty) (sym is) h.0)
no_group_at s kinds (c ∷ bs) (suc i) b d l is never h = no_group_at s kinds bs i b d (omega arith) is never h.1

-- vectors
have_all : {s : Setting} {kinds : List Kind} {vars : List TypeTree} (t : TypeTree) (es : List TermTree) → Each (λ e. HasTypeUpTo s kinds vars e t) es → AllHave s kinds vars t (terms_of es)
have_all t [] h = none_have
have_all t (e ∷ es) h = have_and h.0.has h.0.same (have_all t es h.1)

have_parts : {s : Setting} {kinds : List Kind} {vars : List TypeTree} {t : TypeTree} {e : TermTree} {es : Terms} → AllHave s kinds vars t (term_and e es) → HasTypeUpTo s kinds vars e t × AllHave s kinds vars t es
have_parts (have_and {u = u} d m rest) = (record { type = u; has = d; same = m }, rest)

all_have : {s : Setting} {kinds : List Kind} {vars : List TypeTree} {t : TypeTree} (es : List TermTree) → AllHave s kinds vars t (terms_of es) → Each (λ e. HasTypeUpTo s kinds vars e t) es
all_have [] h = tt
all_have (e ∷ es) h = let p = have_parts h in (p.0, all_have es p.1)

count_of : (es : List TermTree) → count (terms_of es) ≡ length es
count_of [] = refl
count_of (e ∷ es) = ap suc (count_of es)

vec_parts : {s : Setting} {kinds : List Kind} {vars : List TypeTree} {t u : TypeTree} {es : Terms} → HasType s kinds vars (vec_lit t es) u → IsTermType s kinds t × AllHave s kinds vars t es
vec_parts (h_vec k d) = (k, d)

pub vec_element : {s : Setting} {kinds : List Kind} {vars : List TypeTree} (t : TypeTree) (es : List TermTree) → (IsTermType s kinds t → ⊥) → HasNoType s kinds vars (vec_lit t (terms_of es))
vec_element t es never u d = never (vec_parts d).0

pub vec_elements : {s : Setting} {kinds : List Kind} {vars : List TypeTree} (t : TypeTree) (es : List TermTree) → (Each (λ e. HasTypeUpTo s kinds vars e t) es → ⊥) → HasNoType s kinds vars (vec_lit t (terms_of es))
vec_elements t es never u d = never (all_have es (vec_parts d).1)

pub vec_typed : {s : Setting} {kinds : List Kind} {vars : List TypeTree} (t : TypeTree) (k : Kind) (es : List TermTree) (n : ℕ) (r : Found) → HasKind s kinds t k × IsOfTerms k → Each (λ e. HasTypeUpTo s kinds vars e t) es → n ≡ length es → r.ty ≡ vector (nat_lit n) t → r.kind ≡ k → IsTyped s kinds vars (vec_lit t (terms_of es)) r
vec_typed {s} {kinds} {vars} t k es n r d h l is same =
    let at : vector (nat_lit (count (terms_of es))) t ≡ r.ty = ap (λ m. vector (nat_lit m) t) (count_of es ∙ sym l) ∙ sym is in (
      subst (Finds s kinds vars (vec_lit t (terms_of es))) at (f_vec (term_type s kinds t k d.0 d.1) (have_all t es h)),
      subst (HasKind s kinds r.ty) (sym same) (subst (λ w. HasKind s kinds w k) (sym is) (kind_vector kind_nat d.0 d.1)),
    )
