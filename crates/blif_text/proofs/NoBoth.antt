-- A text of a net has no fault.
use Rattle.std.proofs.Common.{◌≡◌, ℕ, List, [], ◌∷◌, ◌++◌, inl, inr, sym, ap, ◌∙◌, subst}
use Rattle.std.specs.Prelude.{Some}
use Rattle.std.proofs.lemmas.Option.{same_Some}
use Rattle.bit_laws.specs.Bitnet.{Bitnet}
use Rattle.blif_text.specs.BlifText.{BlifText, EachIs, HasLength, HasNames, Lead, Said}
use Rattle.blif_text.specs.BlifText.Lead.{none, more}
use Rattle.blif_text.specs.Faults.{FitsNothing, HasFault, IsBlifFault, IsFirstWithout}
use Rattle.blif_text.specs.Lines.{Line, net_lines}
use Rattle.blif_text.specs.Statements.{Place, Says, Statement, place_behind}
use Rattle.blif_text.specs.Statements.Place.{at_model, behind_end}
use Rattle.blif_text.specs.declared.fault.BlifCode.{BlifCode}
use Rattle.blif_text.specs.declared.fault.BlifCode.TheVariants.{B01, B02, B03}
use Rattle.blif_text.specs.declared.fault.BlifFault.{BlifFault}
use Rattle.blif_text.proofs.Going.{each_at}
use Rattle.blif_text.proofs.OneSaid.{one_lead, one_said}

-- a first line that leads on says something that may stand there
first_fits : (place : Place) (line : Line) (others : List Line) (all : List Said) (end : Place) → Lead place (line ∷ others) all end
    → FitsNothing place line.words → ⊥
first_fits _ _ _ _ _ (more place next end line others s xs says there rest) nothing = nothing s next says there

-- what is behind a first line that says a statement
behind_first : (place next : Place) (line : Line) (others : List Line) (s : Statement) (all : List Said) (end : Place) → Lead place (line ∷ others) all end
    → Says line.words s → place_behind place s ≡ Some next → (xs : List Said) × Lead next others xs end
behind_first _ next _ _ s _ _ (more place other end line others t xs says there rest) first to =
    let same : t ≡ s = one_said line.words t s says first in
    let places : other ≡ next = same_Some other next (sym there ∙ ap (place_behind place) same ∙ to) in
    (xs, subst (λ p. Lead p others xs end) places rest)

never_misplaced : (place p end : Place) (front : List Line) (line : Line) (others : List Line) (xs all : List Said) → Lead place front xs p
    → Lead place (front ++ line ∷ others) all end → FitsNothing p line.words → ⊥
never_misplaced _ _ end _ line others _ all (none place) whole nothing = first_fits place line others all end whole nothing
never_misplaced _ _ end _ line others _ all (more place next p l front s xs says there rest) whole nothing =
    let it = behind_first place next l (front ++ line ∷ others) s all end whole says there in
    never_misplaced next p end front line others xs it.0 rest it.1 nothing

never_without : (Right : List Said → Statement → Type 0) (all : List Said) (number : ℕ) → EachIs Right [] all → IsFirstWithout Right all number → ⊥
never_without Right all number each first = first.broken (each_at Right [] first.earlier first.it first.others (subst (EachIs Right []) first.all_are each))

never_broken : (text : List ℕ) (b : Bitnet) (code : BlifCode) (number : ℕ) → BlifText text b → HasFault text code number → ⊥
never_broken text b B01 number is (inl out) =
    never_misplaced at_model out.place behind_end out.front out.line out.others out.all is.all out.before
    (subst (λ lines. Lead at_model lines is.all behind_end) out.lines_are is.says) out.none
never_broken text b B01 number is (inr early) =
    early.early (one_lead at_model (net_lines text) early.all is.all early.place behind_end early.before is.says).1
never_broken text b B02 number is fault =
    let same = (one_lead at_model (net_lines text) is.all fault.0 behind_end behind_end is.says fault.1.0).0 in
    never_without (HasNames fault.0) fault.0 number (subst (λ all. EachIs (HasNames all) [] all) same is.names) fault.1.1
never_broken text b B03 number is fault =
    let same = (one_lead at_model (net_lines text) is.all fault.0 behind_end behind_end is.says fault.1.0).0 in
    never_without HasLength fault.0 number (subst (λ all. EachIs HasLength [] all) same is.lengths) fault.1.2

pub no_text_is_both : (text : List ℕ) (b : Bitnet) (fault : BlifFault) → BlifText text b → IsBlifFault text fault → ⊥
no_text_is_both text b fault is broken = never_broken text b fault.code fault.line is broken
