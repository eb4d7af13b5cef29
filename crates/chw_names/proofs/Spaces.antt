-- The names of a name space, and those that are declared again.
use Rattle.std.proofs.Common.{List, ◌++◌, Option}
use Rattle.chw_grammar.specs.declared.program.Declaration.{Declaration}
use Rattle.chw_grammar.specs.declared.word.Word.{Word}
use Rattle.chw_names.specs.declared.space.Space.TheVariants.{Domains, DataTypes, Constructors, Definitions}
use Rattle.chw_names.specs.Twices.{space_twices, global_twices}
use Rattle.chw_names.specs.Words.{Meets}
use Rattle.chw_names.proofs.Steps.{meets_then}

pub globals_meet : (ds : List Declaration) {m0 m1 m2 m3 m4 : Option Word} → Meets m0 m1 (space_twices ds Domains) → Meets m1 m2 (space_twices ds DataTypes)
    → Meets m2 m3 (space_twices ds Constructors) → Meets m3 m4 (space_twices ds Definitions) → Meets m0 m4 (global_twices ds)
globals_meet ds a b c d =
    let xs = space_twices ds in
    meets_then (xs Domains ++ xs DataTypes ++ xs Constructors) (xs Definitions)
    (meets_then (xs Domains ++ xs DataTypes) (xs Constructors) (meets_then (xs Domains) (xs DataTypes) a b) c) d
