-- The parts of letrecs and of cases at rest, with their types.
use Rattle.std.proofs.Common.{◌≡◌, ◌∙◌, sym, subst, ℕ, suc, zero, false, true, List, [], ◌∷◌, Some}
use Rattle.std.specs.List.{slice_get, AllByRecursion}
use Rattle.chw_types.specs.declared.kind.Kind.{Kind}
use Rattle.chw_types.specs.SameTypes.{SameTypes}
use Rattle.chw_types.specs.TypeTree.{TypeTree}
use Rattle.chw_types.proofs.SameLaws.{same_through}
use Rattle.chw_terms.specs.declared.scene.Mode.TheVariants.{V}
use Rattle.chw_terms.specs.TermTree.{TermTree, var, letrec, case_of, Group, no_bindings, bind, size_of, Alts, no_alts, alt}
use Rattle.chw_typing.specs.Groups.{binding_at}
use Rattle.chw_typing.specs.Paths.{Branch, branch_at}
use Rattle.chw_typing.specs.Scopes.{Setting, HasKind, with_more, declared}
use Rattle.chw_typing.specs.Typing.{HasType, h_var, HasTypeUpTo, AreBound, bound_and, AllGive, give_and, Binds}
use Rattle.chw_typing.proofs.Kinded.{typed_more}
use Rattle.chw_typing.proofs.OneType.{one_type}
use Rattle.chw_typing.proofs.SameScopes.{are_same_self, are_same_turned, same_more}
use Rattle.rewriting.specs.Active.{right_side, let_body, scrutinee, branch}
use Rattle.rewriting.specs.Named.{IsNamed}
use Rattle.rewriting.specs.Origins.{Origins, setting_at}
use Rattle.rewriting.specs.SceneLaws.{NamedIsDecided, SameKeepsNamed}
use Rattle.rewriting.specs.Spots.{Spot, spot, HasLets, scrutinee_mode}
use Rattle.rule_types.proofs.Scrutinees.{case_typed, let_parts}
use Rattle.rest_places.specs.PartLaws.{SideAtRest, BranchAtRest}
use Rattle.rest_places.specs.Rest.{IsRestPlace}
use Rattle.rest_places.proofs.Below.{rest_below}
use Rattle.rest_places.proofs.Lets.{bindings_named}
use Rattle.rest_places.proofs.Steps.{retyped}

-- a right side, of the declared type up to naturals
record SideTyped (s : Setting) (vars : List TypeTree) (b : TypeTree × TermTree) : Type 0 where
  pub type : TypeTree
  pub has : HasType s [] vars b.1 type
  pub kind : Kind
  pub kinded : HasKind s [] b.0 kind
  pub same : SameTypes b.0 type

side_typed : {s : Setting} {vars : List TypeTree} {k : Kind} (g : Group) (i : ℕ) (b : TypeTree × TermTree) → AreBound s [] vars k g → binding_at g i ≡ Some b → SideTyped s vars b
side_typed no_bindings i b bound h = absurd cc
side_typed {s} {vars} (bind t e g) zero b (bound_and {j = j} {u = u} l f d x more) h =
    let is : (t, e) ≡ b = cc in
    subst (SideTyped s vars) is (record { type = u; has = d; kind = j; kinded = l; same = x })
side_typed (bind t e g) (suc i) b (bound_and l f d x more) h = side_typed g i b more h

-- this holds of the binding's type
named_at : (P : TypeTree → Type 0) (g : Group) (i : ℕ) (b : TypeTree × TermTree) → AllByRecursion P (declared g) → binding_at g i ≡ Some b → P b.0
named_at P no_bindings i b all h = absurd cc
named_at P (bind t e g) zero b all h = let is : (t, e) ≡ b = cc in subst (λ (c : TypeTree × TermTree). P c.0) is all.0
named_at P (bind t e g) (suc i) b all h = named_at P g i b all.1 h

pub side_at_rest : NamedIsDecided → SameKeepsNamed → (o : Origins) (at : Spot) (g : Group) (e : TermTree) (t : TypeTree) (i : ℕ) (b : TypeTree × TermTree) → HasLets at.mode → IsRestPlace o at (letrec g e) t → binding_at g i ≡ Some b → SideAtRest o at g b
side_at_rest decided kept o at g e t i b l p h =
    let named = named_at (IsNamed o.program.datas at.mode) g i b (bindings_named decided o at g e t l p) h in
    let side = side_typed g i b (let_parts p.has).sides h in
    let there = rest_below decided o at (spot at.mode false (with_more (declared g) at.vars)) (letrec g e) b.1 t (i ∷ []) p (right_side l h named) in
    record {
      type = side.type;
      same = side.same;
      named = kept (setting_at o) at.mode b.0 side.type side.kind p.place.sound side.kinded side.same named;
      rest = retyped there.1 side.has;
    }

pub body_at_rest : NamedIsDecided → (o : Origins) (at : Spot) (g : Group) (e : TermTree) (t : TypeTree) → HasLets at.mode → IsRestPlace o at (letrec g e) t → IsRestPlace o (spot at.mode true (with_more (declared g) at.vars)) e t
body_at_rest decided o at g e t l p =
    retyped (rest_below decided o at (spot at.mode true (with_more (declared g) at.vars)) (letrec g e) e t (size_of g ∷ []) p (let_body l)).1 (let_parts p.has).body

pub scrutinee_at_rest : NamedIsDecided → (o : Origins) (at : Spot) (e : TermTree) (alts : Alts) (t u : TypeTree) → IsRestPlace o at (case_of e alts) t → HasType (setting_at o) [] at.vars e u → (IsNamed o.program.datas at.mode u → ⊥) → IsRestPlace o (spot (scrutinee_mode o.program.datas at.mode alts) false at.vars) e u
scrutinee_at_rest decided o at e alts t u p d n =
    retyped (rest_below decided o at (spot (scrutinee_mode o.program.datas at.mode alts) false at.vars) (case_of e alts) e t (0 ∷ []) p (scrutinee d n)).1 d

-- an alternative with its type
record BranchTyped (s : Setting) (vars : List TypeTree) (u t : TypeTree) (b : Branch) : Type 0 where
  pub bound : List TypeTree
  pub binds : Binds s [] u b.pattern bound
  pub has : HasTypeUpTo s [] (with_more bound vars) b.body t

branch_typed : {s : Setting} {vars : List TypeTree} {u t : TypeTree} (alts : Alts) (i : ℕ) (b : Branch) → AllGive s [] vars u t alts → branch_at alts i ≡ Some b → BranchTyped s vars u t b
branch_typed no_alts i b all h = absurd cc
branch_typed {s} {vars} {u} {t} (alt q e more) zero b (give_and {bound = bound} {v = v} p d x rest) h =
    let is : record { pattern = q; body = e } ≡ b = cc in
    subst (BranchTyped s vars u t) is (record { bound = bound; binds = p; has = record { type = v; has = d; same = x } })
branch_typed (alt q e more) (suc i) b (give_and p d x rest) h = branch_typed more i b rest h

variable_type : {s : Setting} {vars : List TypeTree} {x : ℕ} {t u : TypeTree} → HasType s [] vars (var x) t → slice_get vars x ≡ Some u → t ≡ u
variable_type (h_var is) h = let both = sym is ∙ h in cc

pub branch_at_rest : NamedIsDecided → (o : Origins) (at : Spot) (x : ℕ) (alts : Alts) (t u : TypeTree) (i : ℕ) (b : Branch) → at.mode ≡ V → IsRestPlace o at (case_of (var x) alts) t → slice_get at.vars x ≡ Some u → IsNamed o.program.datas V u → branch_at alts i ≡ Some b → BranchAtRest o at u t b
branch_at_rest decided o at x alts t u i b m p is named h =
    let of = case_typed p.has in
    let same = variable_type of.has is in
    let side = branch_typed alts i b (subst (λ u. AllGive (setting_at o) [] at.vars u t alts) same of.given_all) h in
    let there = rest_below decided o at (spot V true (with_more side.binds.fields at.vars)) (case_of (var x) alts) b.body t (suc i ∷ []) p (branch m is named h side.binds.pattern) in
    let inside = typed_more (setting_at o) [] side.bound at.vars side.binds.typed p.place.vars in
    record {
      fields = side.binds.fields;
      pattern = side.binds.pattern;
      type = there.0;
      same = same_through side.has.same (one_type side.has.has there.1.has p.place.sound inside there.1.place.vars (same_more side.bound side.binds.fields at.vars at.vars (are_same_turned side.binds.fields side.bound side.binds.same) (are_same_self at.vars)));
      rest = there.1;
    }
