-- Types of what stands at the active places of a body in normal form.
use Rattle.std.proofs.Common.{◌≡◌, ℕ, zero, suc, Bool, true, false, List, [], ◌∷◌, Some, refl, sym, subst, if◌then◌else◌}
use Rattle.chw_types.specs.declared.declarations.Data.{Data}
use Rattle.chw_types.specs.declared.kind.Kind.{Kind}
use Rattle.chw_types.specs.SameTypes.{SameTypes}
use Rattle.chw_types.specs.TypeTree.{TypeTree}
use Rattle.type_laws.proofs.SameForms.{as_function}
use Rattle.chw_terms.specs.declared.scene.Mode.{Mode}
use Rattle.chw_terms.specs.declared.scene.Mode.TheVariants.{V, C, HV, HC, K}
use Rattle.chw_terms.specs.TermTree.{TermTree, letrec, Group, no_bindings, bind, Alts}
use Rattle.chw_typing.specs.HeadTypes.{from_each}
use Rattle.chw_typing.specs.Scopes.{Setting, HasKind, IsTermType, with_more, declared}
use Rattle.chw_typing.specs.Typing.{HasType, h_lam, h_letrec, HasTypeUpTo, AreBound, bound_and}
use Rattle.chw_typing.proofs.Kinded.{function_gives}
use Rattle.chw_typing.specs.Given.{AsksForNone}
use Rattle.chw_typing.specs.Groups.{binding_at}
use Rattle.rewriting.specs.Named.{UnderLambdas, under_none, under_one}
use Rattle.rewriting.specs.Spots.{is_of_values, scrutinee_mode, head_mode}

-- a right side, of the declared type up to naturals
pub record SideTyped (s : Setting) (vars : List TypeTree) (b : TypeTree × TermTree) : Type 0 where
  pub type : TypeTree
  pub has : HasType s [] vars b.1 type
  pub kind : Kind
  pub kinded : HasKind s [] b.0 kind
  pub same : SameTypes b.0 type

pub side_typed : {s : Setting} {kinds : List Kind} {vars : List TypeTree} {k : Kind} (g : Group) (i : ℕ) (b : TypeTree × TermTree) → kinds ≡ [] → AreBound s kinds vars k g → binding_at g i ≡ Some b → SideTyped s vars b
side_typed no_bindings i b n bound h = absurd cc
side_typed {s} {kinds} {vars} (bind t e g) zero b n (bound_and {j = j} {u = u} l f d x more) h =
    let is : (t, e) ≡ b = cc in
    subst (SideTyped s vars) is
    (record { type = u; has = subst (λ ks. HasType s ks vars e u) n d; kind = j; kinded = subst (λ ks. HasKind s ks t j) n l; same = x })
side_typed (bind t e g) (suc i) b n (bound_and l f d x more) h = side_typed g i b n more h

pub record LetTyped (s : Setting) (vars : List TypeTree) (g : Group) (e : TermTree) (t : TypeTree) : Type 0 where
  pub body : HasType s [] (with_more (declared g) vars) e t
  pub side : (i : ℕ) (b : TypeTree × TermTree) → binding_at g i ≡ Some b → SideTyped s (with_more (declared g) vars) b

pub let_typed : {s : Setting} {vars : List TypeTree} (g : Group) (e : TermTree) (t : TypeTree) → HasType s [] vars (letrec g e) t → LetTyped s vars g e t
let_typed g e t (h_letrec d l bound) = record { body = d; side = λ i b h. side_typed g i b refl bound h }

-- modes of what is looked at
pub head_no_circuit : (m : Mode) → head_mode m ≡ C → ⊥
head_no_circuit V q = cc
head_no_circuit C q = cc
head_no_circuit HV q = cc
head_no_circuit HC q = cc
head_no_circuit K q = cc

constant_or_head : (b : Bool) → (if b then K else HC) ≡ C → ⊥
constant_or_head true q = cc
constant_or_head false q = cc

pub scrutinee_no_circuit : (datas : List Data) (m : Mode) (alts : Alts) → scrutinee_mode datas m alts ≡ C → ⊥
scrutinee_no_circuit datas V alts q = cc
scrutinee_no_circuit datas C alts q = constant_or_head (is_of_values datas alts) q
scrutinee_no_circuit datas HV alts q = cc
scrutinee_no_circuit datas HC alts q = constant_or_head (is_of_values datas alts) q
scrutinee_no_circuit datas K alts q = cc

-- below leading lambdas the term has the result's type
pub under_typed : {s : Setting} {vars vs : List TypeTree} {e x : TermTree} {t : TypeTree} {p : List ℕ} → UnderLambdas vars e t p vs x → (u : TypeTree) → HasType s [] vars e u → SameTypes t u
    → (params : List TypeTree) (result : TypeTree) → t ≡ from_each params result → AsksForNone result → HasTypeUpTo s [] vs x result
under_typed {s} {vars} {e = e} (under_none {t = t} a) u h x [] result is none =
    record { type = u; has = h; same = subst (λ r. SameTypes r u) is x }
under_typed (under_none {t = t} a) u h x (b ∷ params) result is none = absurd (subst AsksForNone is a)
under_typed (under_one s w) u h x [] result is none = absurd (subst AsksForNone (sym is) none)
under_typed (under_one {b = b} {t = t} s w) _ (h_lam {b = r} d l) x (c ∷ params) result is none =
    let at = as_function x in
    let gives : at.1 ≡ r = cc in
    let rest : t ≡ from_each params result = cc in
    under_typed w r d (subst (SameTypes t) gives at.4) params result rest none

-- the result has a kind
pub result_kind : (s : Setting) (params : List TypeTree) (result : TypeTree) → IsTermType s [] (from_each params result) → IsTermType s [] result
result_kind s [] result h = h
result_kind s (a ∷ params) result h = result_kind s params result (function_gives s [] a (from_each params result) h.kind h.has)
