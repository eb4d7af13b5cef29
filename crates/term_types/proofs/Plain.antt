-- The types of terms without parts.
use Rattle.std.proofs.Common.{◌≡◌, ℕ, suc, zero, ◌≤◌, ◌<◌, Bool, Option, refl, sym, ap, ◌∙◌, subst, List, [], ◌∷◌, map, length, arith}
use Rattle.std.specs.Prelude.{Some, None, MatchOption}
use Rattle.std.specs.List.{slice_get}
use Rattle.chw_types.specs.declared.kind.Kind.{Kind}
use Rattle.chw_types.specs.declared.kind.Kind.TheVariants.{Val}
use Rattle.chw_types.specs.declared.kind.Scalar.{Scalar}
use Rattle.chw_types.specs.TypeTree.{TypeTree}
use Rattle.chw_types.specs.TypeMoves.{shift}
use Rattle.chw_types.specs.Kinds.{kind_nat, kind_scalar}
use Rattle.chw_types.proofs.TypeLaws.{rename_by_none}
use Rattle.chw_prims.specs.declared.prim.Primitive.{Primitive}
use Rattle.chw_prims.specs.Schemas.{schema_type}
use Rattle.chw_terms.specs.TermTree.{TermTree, var, global, made, con, prim, lit}
use Rattle.chw_terms.specs.Constructors.{Constructor, con_at}
use Rattle.chw_typing.specs.Scopes.{Setting, HasKind}
use Rattle.chw_typing.specs.HeadTypes.{con_type, widest, literal_type}
use Rattle.chw_typing.specs.Typing.{HasType, h_var, h_global, h_made, h_con, h_prim, h_lit}
use Rattle.chw_typing.specs.Finding.{Finds, f_var, f_made, f_con, f_prim, f_lit}
use Rattle.term_types.specs.Answers.{HasNoType, IsTyped, IsAnswer, IsReady, IsSet}
use Rattle.term_frames.specs.InScope.{InScope}
use Rattle.term_frames.specs.VarsView.{IsAt}
use Rattle.term_spines.specs.Kinding.{LacksKind, IsWithKind}
use Rattle.seen_types.specs.declared.found.Found.{Found}
use Rattle.term_types.proofs.Ready.{without_kind}
use Rattle.term_types.proofs.Scoped.{kind_at}

pub raised_by_none : (ts : List TypeTree) → map (λ t. shift t 0 0) ts ≡ ts
raised_by_none [] = refl
raised_by_none (t ∷ ts) = λ i. rename_by_none t i ∷ raised_by_none ts i

pub missing_in_map : {A B : Type 0} (f : A → B) (xs : List A) (x : ℕ) → slice_get xs x ≡ None → slice_get (map f xs) x ≡ None
missing_in_map f [] x e = refl
missing_in_map f (a ∷ xs) zero e = absurd (cc)
missing_in_map f (a ∷ xs) (suc x) e = missing_in_map f xs x e

found_is : {A : Type 0} (xs : List A) (x : ℕ) (a b : A) → slice_get xs x ≡ Some a → slice_get xs x ≡ Some b → b ≡ a
found_is xs x a b e f = cc

pub typed_as : {s : Setting} {kinds : List Kind} {vars : List TypeTree} {e : TermTree} (t : TypeTree) (f : Found) → Finds s kinds vars e t → IsWithKind s kinds t f → IsTyped s kinds vars e f
typed_as {s} {kinds} {vars} {e} t f d w = (subst (Finds s kinds vars e) (sym w.0) d, subst (λ u. HasKind s kinds u f.kind) (sym w.0) w.1)

var_at : {s : Setting} {kinds : List Kind} {vars : List TypeTree} {x : ℕ} {t : TypeTree} → HasType s kinds vars (var x) t → slice_get vars x ≡ Some t
var_at (h_var e) = e

global_at : {s : Setting} {kinds : List Kind} {vars : List TypeTree} {x : ℕ} {t : TypeTree} → HasType s kinds vars (global x) t → slice_get s.defs x ≡ Some t
global_at (h_global e) = e

made_at : {s : Setting} {kinds : List Kind} {vars : List TypeTree} {x : ℕ} {t : TypeTree} → HasType s kinds vars (made x) t → slice_get s.made x ≡ Some t
made_at (h_made e) = e

con_at_of : {s : Setting} {kinds : List Kind} {vars : List TypeTree} {c : ℕ} {t : TypeTree} → HasType s kinds vars (con c) t → (it : Constructor) × (con_at s.datas c ≡ Some it) × (t ≡ con_type it)
con_at_of (h_con {it = it} e) = (it, e, refl)

prim_is : {s : Setting} {kinds : List Kind} {vars : List TypeTree} {p : Primitive} {t : TypeTree} → HasType s kinds vars (prim p) t → t ≡ schema_type p
prim_is h_prim = refl

lit_is : {s : Setting} {kinds : List Kind} {vars : List TypeTree} {r : Scalar} {bits : List Bool} {t : TypeTree} → HasType s kinds vars (lit r bits) t → length bits ≤ widest
lit_is (h_lit l) = l

pub var_missing : {s : Setting} {kinds : List Kind} {vars : List TypeTree} (x : ℕ) → slice_get vars x ≡ None → HasNoType s kinds vars (var x)
var_missing x e t d = let f = var_at d in absurd (cc)

pub global_missing : {s : Setting} {kinds : List Kind} {vars : List TypeTree} (x : ℕ) → slice_get s.defs x ≡ None → HasNoType s kinds vars (global x)
global_missing x e t d = let f = global_at d in absurd (cc)

pub made_typed : {s : Setting} {kinds : List Kind} {vars : List TypeTree} (x : ℕ) (t : TypeTree) (f : Found) → slice_get s.made x ≡ Some t → IsWithKind s kinds t f → IsTyped s kinds vars (made x) f
made_typed x t f e w = typed_as t f (f_made e) w

pub made_unkinded : {s : Setting} {kinds : List Kind} {vars : List TypeTree} (x : ℕ) (t : TypeTree) → IsReady s kinds vars → slice_get s.made x ≡ Some t → LacksKind s kinds t → HasNoType s kinds vars (made x)
made_unkinded {s} x t h e never = without_kind t h (λ u d. found_is s.made x t u e (made_at d)) never

pub made_missing : {s : Setting} {kinds : List Kind} {vars : List TypeTree} (x : ℕ) → slice_get s.made x ≡ None → HasNoType s kinds vars (made x)
made_missing x e t d = let f = made_at d in absurd (cc)

pub con_typed : {s : Setting} {kinds : List Kind} {vars : List TypeTree} (c : ℕ) (it : Constructor) (t : TypeTree) (f : Found) → con_at s.datas c ≡ Some it → t ≡ con_type it → IsWithKind s kinds t f → IsTyped s kinds vars (con c) f
con_typed {s} {kinds} {vars} c it t f e is w = typed_as t f (subst (Finds s kinds vars (con c)) (sym is) (f_con e)) w

pub con_unkinded : {s : Setting} {kinds : List Kind} {vars : List TypeTree} (c : ℕ) (it : Constructor) (t : TypeTree) → IsReady s kinds vars → con_at s.datas c ≡ Some it → t ≡ con_type it → LacksKind s kinds t → HasNoType s kinds vars (con c)
con_unkinded {s} {kinds} {vars} c it t h e is never = without_kind t h here never
  where
    here : (u : TypeTree) → HasType s kinds vars (con c) u → u ≡ t
    here u d =
        let at = con_at_of d in
        let f = at.1 in
        let same : at.0 ≡ it = cc in
        at.2 ∙ ap con_type same ∙ sym is

pub con_missing : {s : Setting} {kinds : List Kind} {vars : List TypeTree} (c : ℕ) → con_at s.datas c ≡ None → HasNoType s kinds vars (con c)
con_missing c e t d = let at = con_at_of d in let f = at.1 in absurd (cc)

pub prim_typed : {s : Setting} {kinds : List Kind} {vars : List TypeTree} (p : Primitive) (t : TypeTree) (f : Found) → t ≡ schema_type p → IsWithKind s kinds t f → IsTyped s kinds vars (prim p) f
prim_typed {s} {kinds} {vars} p t f is w = typed_as t f (subst (Finds s kinds vars (prim p)) (sym is) f_prim) w

pub prim_unkinded : {s : Setting} {kinds : List Kind} {vars : List TypeTree} (p : Primitive) (t : TypeTree) → IsReady s kinds vars → t ≡ schema_type p → LacksKind s kinds t → HasNoType s kinds vars (prim p)
prim_unkinded p t h is never = without_kind t h (λ u d. prim_is d ∙ sym is) never

-- what is found of the type of a term without parts
abbrev pub IsKinded : Setting → List Kind → TypeTree → Option Found → Type 0
IsKinded s kinds t r = MatchOption r (LacksKind s kinds t) (λ f. IsWithKind s kinds t f)

pub made_told : (s : Setting) (kinds : List Kind) (vars : List TypeTree) (x : ℕ) (t : TypeTree) (r : Option Found) → IsReady s kinds vars → slice_get s.made x ≡ Some t → IsKinded s kinds t r → IsAnswer s kinds vars (made x) r
made_told s kinds vars x t (Some f) h e k = made_typed x t f e k
made_told s kinds vars x t None h e k = made_unkinded x t h e k

pub con_told : (s : Setting) (kinds : List Kind) (vars : List TypeTree) (x : ℕ) (it : Constructor) (t : TypeTree) (r : Option Found) → IsReady s kinds vars → con_at s.datas x ≡ Some it → t ≡ con_type it → IsKinded s kinds t r → IsAnswer s kinds vars (con x) r
con_told s kinds vars x it t (Some f) h e is k = con_typed x it t f e is k
con_told s kinds vars x it t None h e is k = con_unkinded x it t h e is k

pub lit_typed : {s : Setting} {kinds : List Kind} {vars : List TypeTree} (r : Scalar) (bits : List Bool) (t : TypeTree) → length bits ≤ widest → t ≡ literal_type r bits → IsTyped s kinds vars (lit r bits) (record { ty = t; kind = Val })
lit_typed {s} {kinds} {vars} r bits t l is = (subst (Finds s kinds vars (lit r bits)) (sym is) (f_lit l), subst (λ u. HasKind s kinds u Val) (sym is) (kind_scalar kind_nat))

pub lit_wide : {s : Setting} {kinds : List Kind} {vars : List TypeTree} (r : Scalar) (bits : List Bool) → widest < length bits → HasNoType s kinds vars (lit r bits)
lit_wide r bits l t d = let m = lit_is d in absurd (omega arith)

-- a variable, by what is found of it
pub var_told : (s : Setting) (kinds : List Kind) (scope : InScope) (x : ℕ) (r : Option Found) → IsSet s kinds scope → IsAt (map (λ t. shift t 0 0) scope.vars) scope.kinds x r → IsAnswer s kinds scope.vars (var x) r
var_told s kinds scope x r h a = at r (subst (λ ts. IsAt ts scope.kinds x r) (raised_by_none scope.vars) a)
  where
    at : (r : Option Found) → IsAt scope.vars scope.kinds x r → IsAnswer s kinds scope.vars (var x) r
    at (Some f) g = (f_var g.0, kind_at s kinds scope.vars scope.kinds x f.ty f.kind h.1 g.0 g.1)
    at None g = var_missing x g
