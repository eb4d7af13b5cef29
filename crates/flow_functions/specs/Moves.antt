-- Alternatives to which an argument moved.
use Rattle.chw_types.specs.TypeTree.{TypeTree}
use Rattle.chw_terms.specs.declared.term.Alt.{Alt}
use Rattle.chw_terms.specs.TermMoves.{shift}
use Rattle.chw_terms.specs.TermTree.{var, app, ty_app, binders}

-- the body at a type
abbrev pub at_type : TypeTree → Alt → Alt
at_type t it = record { pattern = it.pattern; body = ty_app it.body t }

-- the body at a variable that is new, just outside of those of the pattern
abbrev pub at_name : Alt → Alt
at_name it =
    record {
      pattern = it.pattern;
      body = app (shift it.body (binders it.pattern) 1) (var (binders it.pattern));
    }
