-- The types and kinds of the fields of a constructor, at the arguments of its data type.
use Rattle.std.specs.Prelude.{ℕ, List, map, reverse, length, Option, Some, None}
use Rattle.std.specs.List.{slice_get}
use Rattle.chw_types.specs.declared.declarations.Data.{Data}
use Rattle.chw_types.specs.declared.kind.Kind.{Kind}
use Rattle.chw_types.specs.declared.kind.Kind.TheVariants.{Nat, Dom, Val, Cir}
use Rattle.chw_types.specs.Arguments.{arguments}
use Rattle.chw_types.specs.KindFound.{kind_found}
use Rattle.chw_types.specs.TypeMoves.{sub}
use Rattle.chw_types.specs.TypeTree.{TypeTree, ty_var, nat_lit, nat_sum, nat_product, domain}
use Rattle.chw_types.specs.TypeTree.{scalar, vector, data_of, fun, signal, for_all}
use Rattle.chw_types.specs.TypeView.{trees_of}
use Rattle.chw_typing.specs.Scopes.{Setting}
use Rattle.term_frames.specs.declared.fields.Args.{Args}
use Rattle.term_frames.specs.declared.fields.Args.TheVariants.{Written, Made}
use Rattle.term_frames.specs.declared.fields.Fields.{Fields}

-- the arguments that are seen
abbrev pub args_seen : Args → List TypeTree
args_seen (Written ts) = ts.now
args_seen (Made ts) = ts.now

-- the kind, where there is one, or else that of values
abbrev pub kind_or_val : Option Kind → Kind
kind_or_val (Some k) = k
kind_or_val None = Val

-- the kind of a data type, where there is one
abbrev pub kind_declared : Option Data → Kind
kind_declared (Some it) = it.kind
kind_declared None = Val

-- the kind of a type that has one, found from no more of the type than is needed; of any other
-- type it is some kind
unfoldable pub kind_by_form : List Data → ℕ → List Kind → TypeTree → Kind
kind_by_form datas domains scope (ty_var x) = kind_or_val (slice_get scope x)
kind_by_form datas domains scope (nat_lit n) = Nat
kind_by_form datas domains scope (nat_sum a b) = Nat
kind_by_form datas domains scope (nat_product a b) = Nat
kind_by_form datas domains scope (domain d) = Dom
kind_by_form datas domains scope (scalar s w) = Val
kind_by_form datas domains scope (vector n t) = kind_by_form datas domains scope t
kind_by_form datas domains scope (data_of d ts) = kind_declared (slice_get datas d)
kind_by_form datas domains scope (fun a b) = kind_by_form datas domains scope b
kind_by_form datas domains scope (signal d t) = Cir
kind_by_form datas domains scope (for_all j t) =
    kind_or_val (kind_found datas domains scope (for_all j t))

-- a field's type at the arguments
abbrev pub put_type : Fields → TypeTree → TypeTree
put_type p f = sub f (arguments (trees_of (args_seen p.args)))

-- a field's kind, which it has in its data type
abbrev pub put_kind : Fields → TypeTree → Kind
put_kind p f = kind_by_form p.datas.now (length p.domains.now) (reverse p.params.now) f

-- the types and kinds of all fields
abbrev pub put_types : Fields → List TypeTree
put_types p = map (λ f. put_type p f) p.types.now

abbrev pub put_kinds : Fields → List Kind
put_kinds p = map (λ f. put_kind p f) p.types.now

-- the kinds of types that have kinds, with type variables of these kinds
abbrev pub kinds_by_form : Setting → List Kind → List TypeTree → List Kind
kinds_by_form s kinds ts = map (λ t. kind_by_form s.datas s.domains kinds t) ts
