-- The instances of the rules: what a rule makes of a term at a place.
use Rattle.std.specs.Prelude.{List, []}
use Rattle.chw_types.specs.TypeTree.{TypeTree}
use Rattle.chw_terms.specs.declared.rule.Rule.{Rule}
use Rattle.chw_terms.specs.declared.rule.Rule.TheVariants.{TyBeta, Beta, AppLet, AppCase}
use Rattle.chw_terms.specs.declared.rule.Rule.TheVariants.{CaseCon, CaseLet, CaseCase, Proj}
use Rattle.chw_terms.specs.declared.rule.Rule.TheVariants.{PrimLet, PrimCase, Flat, Dead, Inline}
use Rattle.chw_terms.specs.declared.rule.Rule.TheVariants.{Unfold, Unroll, Elem, Delta, ApPure}
use Rattle.chw_terms.specs.declared.rule.Rule.TheVariants.{Eta, Spec, Anf}
use Rattle.chw_terms.specs.declared.term.Arg.{Arg}
use Rattle.chw_terms.specs.TermTree.{TermTree}
use Rattle.chw_terms.specs.TermView.{applied}
use Rattle.chw_typing.specs.Typing.{HasType}
use Rattle.rewriting.specs.Origins.{Origins, setting_at}
use Rattle.rewriting.specs.Spots.{Spot}
use Rattle.rewriting.specs.Calls.{OfWhole}
use Rattle.rewriting.specs.Cases.{OfCases}
use Rattle.rewriting.specs.Demanded.{OfDemanded}
use Rattle.rewriting.specs.Functions.{OfFunctions}
use Rattle.rewriting.specs.Lets.{OfLets}
use Rattle.rewriting.specs.Operands.{OfOperands}
use Rattle.rewriting.specs.Primitives.{OfPrimitives}
use Rattle.rewriting.specs.Signals.{OfSignals}
use Rattle.rewriting.specs.Names.{OfNames}

-- what each rule makes of its own shape
abbrev pub Makes : Origins → Spot → Rule → TermTree → TermTree → Type 0
Makes o at TyBeta = OfFunctions o at TyBeta
Makes o at Beta = OfFunctions o at Beta
Makes o at AppLet = OfFunctions o at AppLet
Makes o at AppCase = OfFunctions o at AppCase
Makes o at CaseCon = OfCases o at CaseCon
Makes o at CaseLet = OfCases o at CaseLet
Makes o at CaseCase = OfCases o at CaseCase
Makes o at Proj = OfCases o at Proj
Makes o at PrimLet = OfDemanded o at PrimLet
Makes o at PrimCase = OfDemanded o at PrimCase
Makes o at Flat = OfLets o at Flat
Makes o at Dead = OfLets o at Dead
Makes o at Inline = OfLets o at Inline
Makes o at Unfold = OfNames o at Unfold
Makes o at Unroll = OfPrimitives o at Unroll
Makes o at Elem = OfPrimitives o at Elem
Makes o at Delta = OfPrimitives o at Delta
Makes o at ApPure = OfSignals o at ApPure
Makes o at Eta = OfSignals o at Eta
Makes o at Spec = OfSignals o at Spec
Makes o at Anf = OfOperands o at Anf

-- a rule's instance on the term at a place, which has a type: further arguments stay behind what a
-- rule makes of its shape
pub data HasInstance (o : Origins) (at : Spot) (r : Rule) : TermTree → TermTree → Type 0 where
  on_core : (core core' : TermTree) (rest : List Arg) {t : TypeTree}
      → Makes o at r core core' → HasType (setting_at o) [] at.vars (applied core rest) t
      → HasInstance o at r (applied core rest) (applied core' rest)
  on_whole : {e e' : TermTree} {t : TypeTree}
      → OfWhole o at r e e' → HasType (setting_at o) [] at.vars e t → HasInstance o at r e e'
