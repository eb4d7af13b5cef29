-- The width of a block RAM's content: a body at the limit, in normal form, and one past it.
use Rattle.std.specs.Prelude.{ℕ, suc, false, List, [], ◌∷◌, replicate}
use Rattle.chw_types.specs.declared.kind.Scalar.TheVariants.{U}
use Rattle.chw_types.specs.TypeTree.{TypeTree, nat_lit, domain, scalar, signal}
use Rattle.chw_prims.specs.declared.prim.Primitive.TheVariants.{BlockRam}
use Rattle.chw_prims.specs.Schemas.{maybe, pair}
use Rattle.chw_terms.specs.declared.scene.Sort.TheVariants.{Circuit}
use Rattle.chw_terms.specs.TermTree.{TermTree, var, letrec, lit, vec_lit, no_bindings, bind}
use Rattle.chw_terms.specs.TermView.{terms_of}
use Rattle.chw_layout.specs.declared.outcome.NoLayout.TheVariants.{Data as OverData}
use Rattle.rewriting.specs.Origins.{MadeOf}
use Rattle.normal_forms.specs.Blocked.{limit, IsBlocked}
use Rattle.normal_forms.specs.Circuits.{beginning_with}
use Rattle.normal_forms.specs.Examples.{here}
use Rattle.normal_forms.specs.Normal.{IsNormalBody}

-- `Unsigned 128`, its zero, and one of it for each address up to this one
abbrev pub wide : TypeTree
wide = scalar U (nat_lit 128)

abbrev pub wide_zero : TermTree
wide_zero = lit U (replicate 128 false)

abbrev pub content : ℕ → TermTree
content last = vec_lit wide (terms_of (replicate (suc last) wide_zero))

-- signals of places, of writes and of what is read
abbrev pub place : TypeTree
place = scalar U (nat_lit 6)

abbrev pub places : TypeTree
places = signal (domain 0) place

abbrev pub writes : TypeTree
writes = signal (domain 0) (maybe (pair place wide))

abbrev pub reads : TypeTree
reads = signal (domain 0) wide

-- `letrec { r : Signal A (Unsigned 128) = blockRam @A @last @6 @(Unsigned 128) content p w; p : ..
-- = p; w : .. = w; } in r`
abbrev pub ram : ℕ → TermTree
ram last =
    let types : List TypeTree = domain 0 ∷ nat_lit last ∷ nat_lit 6 ∷ wide ∷ [] in
    beginning_with BlockRam types (content last) (1 ∷ 0 ∷ [])

abbrev pub memory : ℕ → TermTree
memory last =
    letrec (bind reads (ram last) (bind places (var 1) (bind writes (var 0) no_bindings))) (var 2)

abbrev pub remembering : MadeOf
remembering = record { origin = var 0; ty = reads; sort = Circuit }

-- 32 words have 4,096 bits, and the body is in normal form
abbrev pub MemoryIsNormal : Type 0
MemoryIsNormal = IsNormalBody here remembering (memory 31)

-- 33 words have 4,224 bits, and the body isn't
abbrev pub LargerIsNotNormal : Type 0
LargerIsNotNormal = IsNormalBody here remembering (memory 32) → ⊥

-- it is blocked at the block RAM's content
abbrev pub LargerIsBlocked : Type 0
LargerIsBlocked =
    IsBlocked here remembering (memory 32) (0 ∷ 0 ∷ 0 ∷ 1 ∷ []) (limit (OverData 4224))
