-- Every primitive that is unrolled: what it is unrolled to has the type of the call.
use Rattle.std.proofs.Common.{◌≡◌, refl, subst, List, map, length}
use Rattle.std.specs.Prelude.{Option, Some, None}
use Rattle.std.specs.Option.{option_map}
use Rattle.chw_types.specs.declared.kind.Kind.{Kind}
use Rattle.chw_types.specs.declared.kind.Kind.TheVariants.{Val, Cir}
use Rattle.chw_types.specs.TypeTree.{TypeTree}
use Rattle.chw_prims.specs.declared.prim.Primitive.{Primitive as Prim}
use Rattle.chw_prims.specs.declared.prim.Primitive.TheVariants.{VAt, VReplace, VMap, VMapC, VZipWith, VZipWithC, VFoldl, VFoldlC, VFoldr, VFoldrC, VGenerate, VGenerateC, VReplicate, VReplicateC, VAppend, VAppendC, VConcat, VConcatC, VTake, VTakeC, VDrop, VDropC, VReverse, VReverseC, VRotl, VRotlC}
use Rattle.chw_prims.specs.Schemas.{row_of, schema_type}
use Rattle.chw_terms.specs.TermTree.{TermTree, letrec}
use Rattle.chw_terms.specs.TermMoves.{shift}
use Rattle.chw_terms.specs.Evaluated.{evaluated}
use Rattle.chw_terms.specs.Unrolled.{named, parameters, at_types, body_of, unrolled, CanUnroll}
use Rattle.chw_typing.specs.Scopes.{Setting, AreTermTypes}
use Rattle.chw_typing.specs.Programs.{IsSound}
use Rattle.chw_typing.specs.Typing.{HasType, HasTypeUpTo}
use Rattle.unroll_laws.specs.Laws.{called}
use Rattle.unroll_laws.proofs.ByIndex.{element_at}
use Rattle.unroll_laws.proofs.Folds.{folded_left, folded_right}
use Rattle.unroll_laws.proofs.Joins.{appended, concatenated}
use Rattle.unroll_laws.proofs.Kept.{Call, Keeps}
use Rattle.unroll_laws.proofs.Makes.{replicated, generated}
use Rattle.unroll_laws.proofs.Maps.{mapped, zipped}
use Rattle.unroll_laws.proofs.Places.{taken, dropped, reversed, rotated}
use Rattle.unroll_laws.proofs.Replaces.{replaced}

keeps : (p : Prim) (types : List TypeTree) (args : List TermTree) (body : TermTree) → body_of (row_of p) (map evaluated types) ≡ Some body → (c : Call (row_of p) types args) → Keeps (row_of p) types args c body
keeps VAt types args body e c = element_at types args body e c
keeps VReplace types args body e c = replaced types args body e c
keeps VMap types args body e c = mapped Val types args body tt e c
keeps VMapC types args body e c = mapped Cir types args body tt e c
keeps VZipWith types args body e c = zipped Val types args body tt e c
keeps VZipWithC types args body e c = zipped Cir types args body tt e c
keeps VFoldl types args body e c = folded_left Val types args body tt e c
keeps VFoldlC types args body e c = folded_left Cir types args body tt e c
keeps VFoldr types args body e c = folded_right Val types args body tt e c
keeps VFoldrC types args body e c = folded_right Cir types args body tt e c
keeps VGenerate types args body e c = generated Val types args body tt e c
keeps VGenerateC types args body e c = generated Cir types args body tt e c
keeps VReplicate types args body e c = replicated Val types args body tt e c
keeps VReplicateC types args body e c = replicated Cir types args body tt e c
keeps VAppend types args body e c = appended Val types args body tt e c
keeps VAppendC types args body e c = appended Cir types args body tt e c
keeps VConcat types args body e c = concatenated Val types args body tt e c
keeps VConcatC types args body e c = concatenated Cir types args body tt e c
keeps VTake types args body e c = taken Val types args body tt e c
keeps VTakeC types args body e c = taken Cir types args body tt e c
keeps VDrop types args body e c = dropped Val types args body tt e c
keeps VDropC types args body e c = dropped Cir types args body tt e c
keeps VReverse types args body e c = reversed Val types args body tt e c
keeps VReverseC types args body e c = reversed Cir types args body tt e c
keeps VRotl types args body e c = rotated Val types args body tt e c
keeps VRotlC types args body e c = rotated Cir types args body tt e c
keeps _ types args body e c = absurd (cc)

-- what was mapped
mapped_some : {A B : Type 0} (f : A → B) (o : Option A) (y : B) → option_map f o ≡ Some y → (x : A) × (o ≡ Some x) × (f x ≡ y)
mapped_some f (Some x) y e = (x, refl, cc)
mapped_some f None y e = absurd (cc)

pub unrolling_keeps : (s : Setting) (kinds : List Kind) (vars : List TypeTree) (p : Prim) (types : List TypeTree) (args : List TermTree) (u : TermTree) (t : TypeTree) → IsSound s → AreTermTypes s kinds vars → CanUnroll p types args → unrolled p types args ≡ Some u → HasType s kinds vars (called p types args) t → HasTypeUpTo s kinds vars u t
unrolling_keeps s kinds vars p types args u t h g can e d = subst (λ f. HasTypeUpTo s kinds vars f t) body.2 (keeps p types args body.0 body.1 call)
  where
    around : TermTree → TermTree
    around f = letrec (named (map (at_types types) (parameters (schema_type p))) (map (λ e. shift e 0 (length args)) args)) f

    body : (x : TermTree) × (body_of (row_of p) (map evaluated types) ≡ Some x) × (around x ≡ u)
    body = mapped_some around (body_of (row_of p) (map evaluated types)) u e

    call : Call (row_of p) types args
    call = record { s = s; kinds = kinds; vars = vars; p = p; t = t; sound = h; typed = g; is = refl; many = can.on_terms; narrow = can.narrow; has = d }
