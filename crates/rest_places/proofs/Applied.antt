-- At rest no lambda, letrec or case is applied, and no definition is at a place where it can't be called.
use Rattle.std.proofs.Common.{◌≡◌, refl, ℕ, List, [], ◌∷◌, Some}
use Rattle.std.specs.List.{slice_get}
use Rattle.chw_types.specs.TypeTree.{TypeTree, fun, for_all}
use Rattle.chw_terms.specs.declared.program.Def.{Def}
use Rattle.chw_terms.specs.declared.rule.Rule.{Rule}
use Rattle.chw_terms.specs.declared.rule.Rule.TheVariants.{TyBeta, Beta, AppLet, AppCase, Unfold}
use Rattle.chw_terms.specs.declared.term.Arg.{Arg}
use Rattle.chw_terms.specs.declared.term.Arg.TheVariants.{OfTerm, OfType}
use Rattle.chw_terms.specs.TermTree.{TermTree, global, made, lam, app, ty_lam, ty_app, letrec, case_of}
use Rattle.chw_terms.specs.TermView.{applied, applied_to}
use Rattle.chw_typing.specs.Scopes.{Setting, AreTermTypes}
use Rattle.chw_typing.specs.Programs.{IsSound}
use Rattle.chw_typing.specs.Typing.{HasType, h_global, h_made, h_lam, h_app, h_ty_lam, h_ty_app}
use Rattle.chw_typing.proofs.Lists.{found_before_map}
use Rattle.chw_typing.proofs.TypedFound.{typed_found}
use Rattle.chw_typing.proofs.TypedSpines.{head_typed}
use Rattle.rewriting.specs.Functions.{ty_beta, beta, app_let, app_let_type, app_case, app_case_type}
use Rattle.rewriting.specs.Instances.{Makes}
use Rattle.rewriting.specs.Names.{unfold_global, unfold_made}
use Rattle.rewriting.specs.Origins.{MadeOf, Origins, setting_at}
use Rattle.rewriting.specs.Spots.{Spot, HasLets}
use Rattle.rest_places.specs.Laws.{IsMovedInto}
use Rattle.rest_places.specs.Rest.{IsRestPlace}
use Rattle.rest_places.proofs.Steps.{no_core}

-- a rule acts on the term
record IsActedOn (o : Origins) (at : Spot) (e : TermTree) : Type 0 where
  pub rule : Rule
  pub new : TermTree
  pub makes : Makes o at rule e new

acted_on : {o : Origins} {at : Spot} {e : TermTree} (r : Rule) (new : TermTree) → Makes o at r e new → IsActedOn o at e
acted_on r new m = record { rule = r; new = new; makes = m }

-- the types of lambdas
lambda_type : {s : Setting} {vars : List TypeTree} {b u : TypeTree} {e : TermTree} → HasType s [] vars (lam b e) u → (c : TypeTree) × (u ≡ fun b c)
lambda_type (h_lam {b = c} d k) = (c, refl)

type_lambda_type : {s : Setting} {vars : List TypeTree} {k : _} {u : TypeTree} {e : TermTree} → HasType s [] vars (ty_lam k e) u → (c : TypeTree) × (u ≡ for_all k c)
type_lambda_type (h_ty_lam {t = c} d) = (c, refl)

no_type_for_lambda : {s : Setting} {vars : List TypeTree} {b a u : TypeTree} {e : TermTree} → HasType s [] vars (ty_app (lam b e) a) u → ⊥
no_type_for_lambda (h_ty_app {j = j} {t = c} d k x l) = let of = lambda_type d in let wrong : for_all j c ≡ fun _ of.0 = of.1 in cc

no_term_for_type_lambda : {s : Setting} {vars : List TypeTree} {k : _} {u : TypeTree} {e a : TermTree} → HasType s [] vars (app (ty_lam k e) a) u → ⊥
no_term_for_type_lambda (h_app {a = b} {b = c} d f x) = let of = type_lambda_type d in let wrong : fun b c ≡ for_all _ of.0 = of.1 in cc

argument_typed : {s : Setting} {vars : List TypeTree} {f a : TermTree} {u : TypeTree} → HasType s [] vars (app f a) u → (c : TypeTree) × HasType s [] vars a c
argument_typed (h_app {c = c} d f x) = (c, f)

module _ (o : Origins) (at : Spot) (sound : IsSound (setting_at o)) (typed : AreTermTypes (setting_at o) [] at.vars) where
  acts : (h : TermTree) (a : Arg) (u : TypeTree) → IsMovedInto h → HasType (setting_at o) [] at.vars (applied_to h a) u → IsActedOn o at (applied_to h a)
  acts (lam b e) (OfTerm a) u m d = acted_on Beta _ beta
  acts (lam b e) (OfType a) u m d = absurd (no_type_for_lambda d)
  acts (ty_lam k e) (OfTerm a) u m d = absurd (no_term_for_type_lambda d)
  acts (ty_lam k e) (OfType a) u m d = acted_on TyBeta _ ty_beta
  acts (letrec g e) (OfTerm a) u m d = acted_on AppLet _ app_let
  acts (letrec g e) (OfType a) u m d = acted_on AppLet _ app_let_type
  acts (case_of e alts) (OfTerm a) u m d =
      let of = argument_typed d in
      let found = typed_found a of.1 sound typed in
      acted_on AppCase _ (app_case found.is)
  acts (case_of e alts) (OfType a) u m d = acted_on AppCase _ app_case_type
  acts _ a u m d = absurd m

-- so at rest they have no arguments
pub not_applied : (o : Origins) (at : Spot) (h : TermTree) (args : List Arg) (t : TypeTree) → IsRestPlace o at (applied h args) t → IsMovedInto h → args ≡ []
not_applied o at h [] t p m = refl
not_applied o at h (a ∷ rest) t p m =
    let of = head_typed (setting_at o) [] at.vars (applied_to h a) rest t p.has in
    let act = acts o at p.place.sound p.place.vars h a of.0 m of.1 in
    absurd (no_core act.rule (applied_to h a) act.new rest act.makes p)

-- the definition of a name that has a type
named_def : (o : Origins) {vars : List TypeTree} {d : ℕ} {u : TypeTree} → HasType (setting_at o) [] vars (global d) u → (it : Def) × (slice_get o.program.defs d ≡ Some it)
named_def o (h_global {d = d} {t = t} is) = let at = found_before_map (λ (d : Def). d.ty) o.program.defs d t is in (at.0, at.1)

named_made : (o : Origins) {vars : List TypeTree} {m : ℕ} {u : TypeTree} → HasType (setting_at o) [] vars (made m) u → (it : MadeOf) × (slice_get o.made m ≡ Some it)
named_made o (h_made {m = m} {t = t} is) = let at = found_before_map (λ (m : MadeOf). m.ty) o.made m t is in (at.0, at.1)

pub no_definition : (o : Origins) (at : Spot) (d : ℕ) (args : List Arg) (t : TypeTree) → (HasLets at.mode → ⊥) → IsRestPlace o at (applied (global d) args) t → ⊥
no_definition o at d args t n p =
    let of = head_typed (setting_at o) [] at.vars (global d) args t p.has in
    let it = named_def o of.1 in
    no_core Unfold (global d) it.0.body args (unfold_global n it.1) p

pub no_made_definition : (o : Origins) (at : Spot) (m : ℕ) (args : List Arg) (t : TypeTree) → (HasLets at.mode → ⊥) → IsRestPlace o at (applied (made m) args) t → ⊥
no_made_definition o at m args t n p =
    let of = head_typed (setting_at o) [] at.vars (made m) args t p.has in
    let it = named_made o of.1 in
    no_core Unfold (made m) it.0.origin args (unfold_made n it.1) p
