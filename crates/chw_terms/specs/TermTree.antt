-- Terms as plain trees, with variables by their distance to the binder.
use Rattle.std.specs.Prelude.{ℕ, suc, Bool, List}
use Rattle.chw_types.specs.declared.kind.Kind.{Kind}
use Rattle.chw_types.specs.declared.kind.Scalar.{Scalar}
use Rattle.chw_types.specs.TypeTree.{TypeTree}
use Rattle.chw_prims.specs.declared.prim.Primitive.{Primitive as Prim}
use Rattle.chw_terms.specs.declared.term.Pattern.{Pattern}
use Rattle.chw_terms.specs.declared.term.Pattern.TheVariants.{OfCon, OfLit, Default}

mutual
  pub data TermTree : Type 0 where
    var : ℕ → TermTree
    global : ℕ → TermTree
    made : ℕ → TermTree
    lam : TypeTree → TermTree → TermTree
    app : TermTree → TermTree → TermTree
    ty_lam : Kind → TermTree → TermTree
    ty_app : TermTree → TypeTree → TermTree
    letrec : Group → TermTree → TermTree
    con : ℕ → TermTree
    prim : Prim → TermTree
    lit : Scalar → List Bool → TermTree
    vec_lit : TypeTree → Terms → TermTree
    case_of : TermTree → Alts → TermTree

  -- the elements of a vector, the first one first
  pub data Terms : Type 0 where
    no_terms : Terms
    term_and : TermTree → Terms → Terms

  -- the bindings of a letrec, the first one first
  pub data Group : Type 0 where
    no_bindings : Group
    bind : TypeTree → TermTree → Group → Group

  -- the alternatives of a case, the first one first
  pub data Alts : Type 0 where
    no_alts : Alts
    alt : Pattern → TermTree → Alts → Alts

-- how many variables a pattern binds
abbrev pub binders : Pattern → ℕ
binders (OfCon c n) = n
binders (OfLit s b) = 0
binders Default = 0

-- how many variables a group binds
abbrev pub size_of : Group → ℕ
size_of no_bindings = 0
size_of (bind t e g) = suc (size_of g)
