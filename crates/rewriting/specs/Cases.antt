-- What rules make of a case.
use Rattle.std.specs.Prelude.{◌≡◌, ℕ, ◌<◌, ◌⊎◌, Bool, List, [], length, Some}
use Rattle.std.specs.List.{slice_get}
use Rattle.chw_base.specs.declared.index.ConId.{ConId}
use Rattle.chw_types.specs.declared.kind.Scalar.{Scalar}
use Rattle.type_ports.specs.Ports.{IsPort}
use Rattle.chw_types.specs.TypeTree.{TypeTree}
use Rattle.chw_types.specs.TypeView.{trees_of}
use Rattle.chw_terms.specs.Constructors.{Constructor, con_at}
use Rattle.chw_terms.specs.declared.rule.Rule.{Rule}
use Rattle.chw_terms.specs.declared.rule.Rule.TheVariants.{CaseCon, CaseLet, CaseCase, Proj}
use Rattle.chw_terms.specs.declared.scene.Mode.TheVariants.{C}
use Rattle.chw_terms.specs.declared.term.Pattern.TheVariants.{OfCon, OfLit, Default}
use Rattle.chw_terms.specs.TermTree.{TermTree, var, letrec, con, lit, case_of}
use Rattle.chw_terms.specs.TermTree.{Group, size_of, Alts, no_alts, alt}
use Rattle.chw_terms.specs.TermView.{applied}
use Rattle.chw_terms.specs.Unrolled.{named}
use Rattle.chw_typing.specs.Alternatives.{HasDefault}
use Rattle.chw_typing.specs.HeadTypes.{PatternOf, fields_at}
use Rattle.chw_typing.specs.Typing.{HasType}
use Rattle.chw_typing.specs.Groups.{each_body}
use Rattle.chw_typing.specs.Given.{types_then}
use Rattle.chw_typing.specs.Paths.{Branch}
use Rattle.rewriting.specs.Named.{IsNamed}
use Rattle.rewriting.specs.Origins.{Origins, setting_at}
use Rattle.rewriting.specs.Spots.{Spot}
use Rattle.rewriting.specs.Shapes.{IsTakenBy, with_fields, or_body, projections}
use Rattle.rewriting.specs.Shapes.{shift_alts, IsDefaultOrNone}

pub data OfCases (o : Origins) (at : Spot) : Rule → TermTree → TermTree → Type 0 where
  -- a case on a constructor with all its arguments becomes the alternative for it, with a let of
  -- the pattern's names and the arguments
  case_con : (c : ℕ) {it : Constructor} (types : List TypeTree) (es : List TermTree) {alts : Alts}
      {b : Branch}
      → con_at o.program.datas c ≡ Some it
      → length types ≡ length it.it.params → length es ≡ length it.decl.fields
      → IsTakenBy (OfCon (record { number = c }) (length es)) alts b
      → OfCases o at CaseCon
      (case_of (applied (con c) (types_then types es)) alts)
      (with_fields b.pattern (fields_at it (trees_of types)) es b.body)
  -- so on a literal
  case_lit : {r : Scalar} {bits : List Bool} {alts : Alts} {b : Branch}
      → IsTakenBy (OfLit r bits) alts b
      → OfCases o at CaseCon (case_of (lit r bits) alts) b.body
  -- a default alone takes whatever there is
  case_any : {e f : TermTree} → OfCases o at CaseCon (case_of e (alt Default f no_alts)) f
  -- a letrec moves out of a scrutinee
  case_let : {g : Group} {e : TermTree} {alts : Alts}
      → OfCases o at CaseLet
      (case_of (letrec g e) alts) (letrec g (case_of e (shift_alts alts 0 (size_of g))))
  -- a case whose type isn't named moves out of a scrutinee
  case_case : {e : TermTree} {inner alts : Alts} {t : TypeTree}
      → HasType (setting_at o) [] at.vars (case_of e inner) t
      → (IsNamed o.program.datas at.mode t → ⊥)
      → OfCases o at CaseCase
      (case_of (case_of e inner) alts)
      (case_of e (each_body (λ n f. case_of f (shift_alts alts 0 n)) inner))
  -- in circuits the parts of a port become projections, unless the term is itself a projection
  proj : {x n : ℕ} {c : ConId} {e : TermTree} {more : Alts} {t : TypeTree} {fields : List TypeTree}
      → at.mode ≡ C → slice_get at.vars x ≡ Some t → IsPort o.program.datas t
      → PatternOf o.program.datas t (OfCon c n) fields → IsDefaultOrNone more
      → ((j : ℕ) → j < n → e ≡ var j → ⊥) ⊎ HasDefault more
      → OfCases o at Proj
      (case_of (var x) (alt (OfCon c n) e more))
      (or_body (named fields (projections c n x)) e)
