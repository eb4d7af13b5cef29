-- Declarations and terms whose types fit, by their parts.
use Rattle.std.proofs.Common.{◌≡◌, zero, suc, refl, subst, List, [], ◌∷◌}
use Rattle.chw_terms.specs.TermTree.{TermTree, app, ty_app}
use Rattle.chw_terms.specs.TermView.{applied, terms_of, group_of, alts_of}
use Rattle.chw_terms.specs.declared.term.Alt.{Alt}
use Rattle.chw_terms.specs.declared.term.Arg.{Arg}
use Rattle.chw_terms.specs.declared.term.Arg.TheVariants.{OfTerm, OfType}
use Rattle.chw_terms.specs.declared.term.Binding.{Binding}
use Rattle.chw_types.specs.declared.declarations.Data.{Data}
use Rattle.chw_types.specs.declared.kind.Kind.{Kind}
use Rattle.chw_typing.specs.Scopes.{IsTermType, Setting}
use Rattle.chw_check.specs.Each.{Each}
use Rattle.chw_check.specs.Fits.{AllFit, AltsFit, DataFits, GroupFits, TypesFit}
use Rattle.chw_check.specs.FitParts.{ArgFits, FieldsFit}

pub data_of_fields : (s : Setting) (it : Data) → Each (FieldsFit s it.params) it.cons → DataFits s it
data_of_fields s it h t f = h f.con f.of f.is_con f.at t f.is_field

pub fields_of_data : (s : Setting) (it : Data) → DataFits s it → Each (FieldsFit s it.params) it.cons
fields_of_data s it h n con e at t f = h t (record { con = n; of = con; is_con = e; at = at; is_field = f })

-- what holds of the first item and of the others
pub each_more : {X : Type 0} (P : X → Type 0) (x : X) (xs : List X) → P x → Each P xs → Each P (x ∷ xs)
each_more P x xs p h zero y e = let same : x ≡ y = cc in subst P same p
each_more P x xs p h (suc n) y e = h n y e

-- the binding has a type that terms have, and the types in its right side fit
abbrev pub BindingFits : Setting → List Kind → Binding → Type 0
BindingFits s kinds b = IsTermType s kinds b.ty × TypesFit s kinds b.body

pub group_fits : (s : Setting) (kinds : List Kind) (bs : List Binding) → Each (BindingFits s kinds) bs → GroupFits s kinds (group_of bs)
group_fits s kinds [] h = tt
group_fits s kinds (b ∷ bs) h = let first = h 0 b refl in (first.0, first.1, group_fits s kinds bs (λ n x e. h (suc n) x e))

pub each_binding : (s : Setting) (kinds : List Kind) (bs : List Binding) → GroupFits s kinds (group_of bs) → Each (BindingFits s kinds) bs
each_binding s kinds [] h = λ n x i. absurd (cc)
each_binding s kinds (b ∷ bs) h = each_more (BindingFits s kinds) b bs (h.0, h.1) (each_binding s kinds bs h.2)

pub elements_fit : (s : Setting) (kinds : List Kind) (es : List TermTree) → Each (TypesFit s kinds) es → AllFit s kinds (terms_of es)
elements_fit s kinds [] h = tt
elements_fit s kinds (e ∷ es) h = (h 0 e refl, elements_fit s kinds es (λ n x i. h (suc n) x i))

pub each_element : (s : Setting) (kinds : List Kind) (es : List TermTree) → AllFit s kinds (terms_of es) → Each (TypesFit s kinds) es
each_element s kinds [] h = λ n x i. absurd (cc)
each_element s kinds (e ∷ es) h = each_more (TypesFit s kinds) e es h.0 (each_element s kinds es h.1)

-- the types in an alternative fit
abbrev pub AltFits : Setting → List Kind → Alt → Type 0
AltFits s kinds a = TypesFit s kinds a.body

pub alts_fit : (s : Setting) (kinds : List Kind) (alts : List Alt) → Each (AltFits s kinds) alts → AltsFit s kinds (alts_of alts)
alts_fit s kinds [] h = tt
alts_fit s kinds (a ∷ alts) h = (h 0 a refl, alts_fit s kinds alts (λ n x e. h (suc n) x e))

pub each_alt : (s : Setting) (kinds : List Kind) (alts : List Alt) → AltsFit s kinds (alts_of alts) → Each (AltFits s kinds) alts
each_alt s kinds [] h = λ n x i. absurd (cc)
each_alt s kinds (a ∷ alts) h = each_more (AltFits s kinds) a alts h.0 (each_alt s kinds alts h.1)

-- a spine fits where its head and its arguments do
pub spine_fits : (s : Setting) (kinds : List Kind) (e : TermTree) (args : List Arg) → TypesFit s kinds e → Each (ArgFits s kinds) args → TypesFit s kinds (applied e args)
spine_fits s kinds e [] h g = h
spine_fits s kinds e (OfTerm a ∷ args) h g = spine_fits s kinds (app e a) args (h, g 0 (OfTerm a) refl) (λ n x i. g (suc n) x i)
spine_fits s kinds e (OfType t ∷ args) h g = spine_fits s kinds (ty_app e t) args (h, g 0 (OfType t) refl) (λ n x i. g (suc n) x i)

-- so by its parts
pub parts_fit : (s : Setting) (kinds : List Kind) (e : TermTree) (args : List Arg) → TypesFit s kinds (applied e args) → TypesFit s kinds e × Each (ArgFits s kinds) args
parts_fit s kinds e [] h = (h, λ n x i. absurd (cc))
parts_fit s kinds e (OfTerm a ∷ args) h =
    let at = parts_fit s kinds (app e a) args h in (at.0.0, each_more (ArgFits s kinds) (OfTerm a) args at.0.1 at.1)
parts_fit s kinds e (OfType t ∷ args) h =
    let at = parts_fit s kinds (ty_app e t) args h in (at.0.0, each_more (ArgFits s kinds) (OfType t) args at.0.1 at.1)
