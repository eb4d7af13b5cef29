-- Closed terms with their parameters written out.
use Rattle.std.specs.Prelude.{ℕ, length}
use Rattle.chw_types.specs.TypeTree.{TypeTree}
use Rattle.chw_terms.specs.declared.program.Def.{Def}
use Rattle.chw_terms.specs.declared.scene.Made.{Made}
use Rattle.chw_terms.specs.declared.scene.Sort.TheVariants.{Circuit}
use Rattle.chw_terms.specs.TermTree.{TermTree, global}
use Rattle.chw_terms.specs.Unrolled.{parameters}
use Rattle.rewriting.specs.Origins.{on_variables, under_each}

-- a closed term on a variable for each parameter of the type, below a lambda for each
abbrev pub on_parameters : TypeTree → TermTree → TermTree
on_parameters t e = under_each (parameters t) (on_variables e 0 (length (parameters t)))

-- the made definition for the call of a definition: the name on parameters, and for it the body
abbrev pub call_of : ℕ → Def → Made
call_of d it =
    record {
      origin = on_parameters it.ty (global d);
      body = on_parameters it.ty it.body;
      ty = it.ty;
      sort = Circuit;
    }
