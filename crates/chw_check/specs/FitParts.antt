-- Parts of declarations and terms in which the types that are written have kinds.
use Rattle.std.specs.Prelude.{List, reverse}
use Rattle.chw_terms.specs.declared.term.Arg.{Arg}
use Rattle.chw_terms.specs.declared.term.Arg.TheVariants.{OfTerm, OfType}
use Rattle.chw_types.specs.declared.declarations.ConDecl.{ConDecl}
use Rattle.chw_types.specs.declared.kind.Kind.{Kind}
use Rattle.chw_types.specs.TypeTree.{TypeTree}
use Rattle.chw_typing.specs.Scopes.{IsTermType, Setting}
use Rattle.chw_check.specs.Each.{Each}
use Rattle.chw_check.specs.Fits.{HasSomeKind, TypesFit}

-- each field of the constructor has a type that terms have, where the parameters have these kinds,
-- the outermost first
abbrev pub FieldsFit : Setting → List Kind → ConDecl → Type 0
FieldsFit s params con = Each (λ (t : TypeTree). IsTermType s (reverse params) t) con.fields

-- an argument is a term whose types fit, or a type with a kind
abbrev pub ArgFits : Setting → List Kind → Arg → Type 0
ArgFits s kinds (OfTerm e) = TypesFit s kinds e
ArgFits s kinds (OfType t) = HasSomeKind s kinds t
