-- What a rule up to INLINE makes of its own shape keeps its meaning: the laws of each group of rules, by
-- the shapes of the group.
use Rattle.std.proofs.Common.{◌∙◌, sym, arith}
use Rattle.std.proofs.lemmas.List.{length-map}
use Rattle.chw_types.specs.TypeMoves.{sub}
use Rattle.chw_types.specs.Arguments.{arguments}
use Rattle.chw_types.specs.TypeView.{trees_of}
use Rattle.chw_terms.specs.declared.rule.Rule.{Rule}
use Rattle.chw_terms.specs.declared.rule.Rule.TheVariants.{TyBeta, Beta, AppLet, AppCase, CaseCon, CaseLet, CaseCase, Proj, PrimLet, PrimCase, Flat, Dead, Inline, Unfold, Unroll, Elem, Delta, ApPure, Eta, Spec, Anf}
use Rattle.chw_terms.specs.TermTree.{TermTree}
use Rattle.chw_typing.specs.HeadTypes.{fields_at}
use Rattle.rewriting.specs.Origins.{Origins}
use Rattle.rewriting.specs.Spots.{Spot}
use Rattle.rewriting.specs.Lets.{OfLets, flat_side, flat_body, dead, inline}
use Rattle.rewriting.specs.Cases.{OfCases, case_con, case_lit, case_any, case_let, case_case, proj}
use Rattle.rewriting.specs.Functions.{OfFunctions, ty_beta, beta, app_let, app_let_type, app_case, app_case_type}
use Rattle.rewriting.specs.Demanded.{OfDemanded, prim_let, prim_case}
use Rattle.rewriting.specs.Instances.{Makes}
use Rattle.act_rules.specs.RuleLaws.{KeepsMeaning, TypeBetaActs, BetaActs, LetAppActs, LetTypeAppActs, CaseLetActs}
use Rattle.act_rules.specs.CaseLaws.{KeepsMeaningIn, CaseAppActs, CaseTypeAppActs, CaseCaseActs, CaseConActs, CaseLitActs, CaseDefaultActs, ProjectionsAct, PrimLetActs, PrimCaseActs}
use Rattle.act_rules.specs.LetLaws.{LetInLetActs, LetInSideActs, DeadActs, InlineActs}
use Rattle.act_rules.specs.StepLaws.{IsUpToInline}

-- the laws of the rules
pub record RuleLaws : Type 0 where
  pub type_beta : TypeBetaActs
  pub beta : BetaActs
  pub let_app : LetAppActs
  pub let_type_app : LetTypeAppActs
  pub case_app : CaseAppActs
  pub case_type_app : CaseTypeAppActs
  pub case_con : CaseConActs
  pub case_lit : CaseLitActs
  pub case_default : CaseDefaultActs
  pub case_let : CaseLetActs
  pub case_case : CaseCaseActs
  pub projections : ProjectionsAct
  pub prim_let : PrimLetActs
  pub prim_case : PrimCaseActs
  pub let_in_let : LetInLetActs
  pub let_in_side : LetInSideActs
  pub dead : DeadActs
  pub inline : InlineActs

functions_act : RuleLaws → {o : Origins} {at : Spot} {r : Rule} {e f : TermTree} → OfFunctions o at r e f → KeepsMeaning f e
functions_act l (ty_beta {k = k} {e = s} {a = t}) = l.type_beta k s t
functions_act l (beta {t = t} {e = s} {a = x}) = l.beta t s x
functions_act l (app_let {g = g} {e = s} {a = x}) = l.let_app g s x
functions_act l (app_let_type {g = g} {e = s} {a = x}) = l.let_type_app g s x
functions_act l (app_case {e = s} {a = x} {alts = alts} {t = t} found) = l.case_app t s x alts
functions_act l (app_case_type {e = s} {alts = alts} {a = x}) = l.case_type_app s alts x

cases_act : RuleLaws → {o : Origins} {at : Spot} {r : Rule} {e f : TermTree} → OfCases o at r e f → KeepsMeaningIn o.program f e
cases_act l {o} (case_con k {it} types es {alts} {b = br} held m n t) =
    l.case_con o.program k it (fields_at it (trees_of types)) types es alts br held m n (length-map it.decl.fields (λ f. sub f (arguments (trees_of types))) ∙ sym n) t
cases_act l {o} (case_lit {r = r} {bits = bs} {alts = alts} {b = br} t) = l.case_lit r bs alts br t o.program
cases_act l {o} (case_any {e = s} {f = g}) = l.case_default s g o.program
cases_act l {o} (case_let {g = g} {e = s} {alts = alts}) = l.case_let g s alts o.program
cases_act l {o} (case_case {e = s} {inner = i} {alts = alts} h n) = l.case_case s i alts o.program
cases_act l {o} (proj {x = x} {n = n} {c = k} {e = s} {more = more} {t = t} {fields = fs} m i port pat def other) = l.projections o.program t fs x n k s more port pat

demanded_act : RuleLaws → {o : Origins} {at : Spot} {r : Rule} {e f : TermTree} → OfDemanded o at r e f → KeepsMeaning f e
demanded_act l (prim_let {p = q} {args = args} {i = i} {g = g} {e = s} n d none) = l.prim_let q args i g s d.is
demanded_act l (prim_case {p = q} {args = args} {i = i} {e = s} {alts = alts} n d none m) = l.prim_case q args i s alts d.is

lets_act : RuleLaws → {o : Origins} {at : Spot} {r : Rule} {e f : TermTree} → OfLets o at r e f → KeepsMeaning f e
lets_act l (flat_side front t cs x back {e} h n) = l.let_in_side front t cs x back e
lets_act l (flat_body {g = g} {cs = cs} {x = x} h n) = l.let_in_let g cs x
lets_act l (dead {g = g} {e = e} {marks = m} h n k) = l.dead g e m n
lets_act l (inline front t x back {e} h n k m) = l.inline front t x back e k

pub made_acts : RuleLaws → (o : Origins) (at : Spot) (r : Rule) (core core' : TermTree) → IsUpToInline r → Makes o at r core core' → KeepsMeaningIn o.program core' core
made_acts l o at TyBeta e f i m = functions_act l m o.program
made_acts l o at Beta e f i m = functions_act l m o.program
made_acts l o at AppLet e f i m = functions_act l m o.program
made_acts l o at AppCase e f i m = functions_act l m o.program
made_acts l o at CaseCon e f i m = cases_act l m
made_acts l o at CaseLet e f i m = cases_act l m
made_acts l o at CaseCase e f i m = cases_act l m
made_acts l o at Proj e f i m = cases_act l m
made_acts l o at PrimLet e f i m = demanded_act l m o.program
made_acts l o at PrimCase e f i m = demanded_act l m o.program
made_acts l o at Flat e f i m = lets_act l m o.program
made_acts l o at Dead e f i m = lets_act l m o.program
made_acts l o at Inline e f i m = lets_act l m o.program
made_acts l o at Unfold e f i m = absurd (omega (arith, i))
made_acts l o at Unroll e f i m = absurd (omega (arith, i))
made_acts l o at Elem e f i m = absurd (omega (arith, i))
made_acts l o at Delta e f i m = absurd (omega (arith, i))
made_acts l o at ApPure e f i m = absurd (omega (arith, i))
made_acts l o at Eta e f i m = absurd (omega (arith, i))
made_acts l o at Spec e f i m = absurd (omega (arith, i))
made_acts l o at Anf e f i m = absurd (omega (arith, i))
