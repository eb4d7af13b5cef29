-- The types of the variables in scope as a list, the innermost first, and their kinds.
use Rattle.std.specs.Prelude.{◌≡◌, ℕ, ◌+◌, List, [], ◌∷◌, ◌++◌, reverse, map, Option, Some, None}
use Rattle.std.specs.Prelude.{MatchOption}
use Rattle.std.specs.List.{slice_get}
use Rattle.chw_types.specs.declared.kind.Kind.{Kind}
use Rattle.chw_types.specs.TypeTree.{TypeTree}
use Rattle.chw_typing.specs.Scopes.{under_binder, with_more}
use Rattle.term_frames.specs.FieldTypes.{put_types, put_kinds}
use Rattle.term_frames.specs.InScope.{InScope}
use Rattle.term_frames.specs.declared.fields.Bound.{Bound}
use Rattle.term_frames.specs.declared.fields.Bound.TheVariants.{OfFields as BoundFields, Settled}
use Rattle.seen_types.specs.declared.found.Found.{Found}
use Rattle.seen_types.specs.declared.found.Kinded.{Kinded}
use Rattle.term_frames.specs.declared.vars.Frame.{Frame}
use Rattle.term_frames.specs.declared.vars.Frame.TheVariants.{Empty, UnderType, OfLambda, OfGroup}
use Rattle.term_frames.specs.declared.vars.Frame.TheVariants.{OfPattern, OfFields}

-- the types and kinds of written types
abbrev pub written_types : List Kinded → List TypeTree
written_types ks = map (λ k. k.ty.now) ks

abbrev pub written_kinds : List Kinded → List Kind
written_kinds ks = map (λ k. k.kind) ks

-- the types and kinds that were found
abbrev pub found_types : List Found → List TypeTree
found_types fs = map (λ f. f.ty) fs

abbrev pub found_kinds : List Found → List Kind
found_kinds fs = map (λ f. f.kind) fs

-- the types and kinds of what a pattern binds
abbrev pub bound_types : Bound → List TypeTree
bound_types (BoundFields p) = put_types p
bound_types (Settled fs) = found_types fs.items

abbrev pub bound_kinds : Bound → List Kind
bound_kinds (BoundFields p) = put_kinds p
bound_kinds (Settled fs) = found_kinds fs.items

-- variables that are bound together inside others
abbrev pub bound_inside : List TypeTree → List Kind → InScope → InScope
bound_inside ts ks outer =
    record { vars = with_more ts outer.vars; kinds = reverse ks ++ outer.kinds; depth = outer.depth + 1 }

abbrev pub in_scope : Frame → InScope
in_scope Empty = record { vars = []; kinds = []; depth = 0 }
in_scope (UnderType outer) =
    record { vars = under_binder outer.now.vars; kinds = outer.now.kinds; depth = outer.now.depth + 1 }
in_scope (OfLambda ty kind outer) =
    record { vars = ty.now ∷ outer.now.vars; kinds = kind ∷ outer.now.kinds; depth = outer.now.depth + 1 }
in_scope (OfGroup bound outer) =
    bound_inside (written_types bound.now) (written_kinds bound.now) outer.now
in_scope (OfPattern bound outer) =
    bound_inside (found_types bound.now) (found_kinds bound.now) outer.now
in_scope (OfFields p outer) = bound_inside (put_types p.now) (put_kinds p.now) outer.now

-- what is found of the variable of this number among these: its type with its kind, where it is in
-- scope
abbrev pub IsAt : List TypeTree → List Kind → ℕ → Option Found → Type 0
IsAt ts ks n r =
    MatchOption r (slice_get ts n ≡ None)
    (λ f. (slice_get ts n ≡ Some f.ty) × (slice_get ks n ≡ Some f.kind))
