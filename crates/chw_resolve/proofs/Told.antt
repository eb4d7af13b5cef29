-- What the steps of resolving tell of a description.
use Rattle.std.proofs.Common.{◌≡◌, ℕ, List, [], None, Result, Ok, Err, IfOk, sym, subst}
use Rattle.chw_base.specs.declared.outcome.Or.{Or}
use Rattle.chw_base.specs.declared.outcome.Or.TheVariants.{Memory, Fault}
use Rattle.chw_base.specs.Outcome.{IfFault}
use Rattle.chw_grammar.specs.declared.program.Tree.{Tree}
use Rattle.chw_grammar.specs.declared.word.Word.{Word}
use Rattle.chw_limits.specs.Limits.{limit_of}
use Rattle.chw_names.specs.Twices.{twices}
use Rattle.chw_names.specs.Unknowns.{unknowns}
use Rattle.chw_names.specs.Words.{IsLeast}
use Rattle.chw_resolve.specs.Faults.{HasNames, IsCircle, IsNameFault, twice, unknown, circle, IsWellNamed, data_types_of}
use Rattle.chw_resolve.specs.Kinds.{GetsKinds}
use Rattle.chw_resolve.specs.Written.{WasRead}
use Rattle.chw_resolve.specs.declared.fault.NameFault.{NameFault}
use Rattle.chw_resolve.specs.declared.fault.NameFault.TheVariants.{Twice, Unknown}
use Rattle.chw_resolve.proofs.Carried.{circle_carried}
use Rattle.chw_resolve.proofs.Tidied.{tidied, well_named}
use Rattle.chw_terms.specs.Tidy.{IsTidy}
use Rattle.chw_terms.specs.declared.program.Program.{Program}
use Rattle.chw_resolve.specs.Programs.{IsProgramOf}

pub twice_told : (tree : Tree) (w : Word) (name : List ℕ) → name ≡ w.bytes → limit_of tree ≡ None → IsLeast (twices tree) w → IsNameFault tree (Twice name w.at)
twice_told tree w name same within least = subst (λ (n : List ℕ). IsNameFault tree (Twice n w.at)) (sym same) (twice w within least)

pub unknown_told : (tree : Tree) (w : Word) (name : List ℕ) → name ≡ w.bytes → limit_of tree ≡ None → twices tree ≡ [] → IsLeast (unknowns tree) w → IsNameFault tree (Unknown name w.at)
unknown_told tree w name same within once least = subst (λ (n : List ℕ). IsNameFault tree (Unknown n w.at)) (sym same) (unknown w within once least)

module _ (tree : Tree) (bare : Program) (names : HasNames tree) (made : IsProgramOf tree bare) where
  pub if_tidy : {text : List ℕ} (r : Result Program (Or NameFault)) → WasRead text tree → IfOk r (GetsKinds bare) → IfOk r IsTidy
  if_tidy (Ok p) read got = tidied tree bare p names made got read
  if_tidy (Err e) read got = tt

  pub if_well_named : (r : Result Program (Or NameFault)) → IfOk r (GetsKinds bare) → IfOk r (λ _. IsWellNamed tree)
  if_well_named (Ok p) got = well_named tree bare p names made got
  if_well_named (Err e) got = tt

  pub if_circle : (r : Result Program (Or NameFault)) → IfFault r (IsCircle bare.datas bare.defs) → IfFault r (IsNameFault tree)
  if_circle (Ok p) h = tt
  if_circle (Err Memory) h = tt
  if_circle (Err (Fault fault)) h = circle fault names (circle_carried bare.datas (data_types_of tree) bare.defs _ made.datas made.defs h)
