-- The counter is in normal form.
use Rattle.std.proofs.Common.{◌≡◌, ℕ, suc, zero, refl, sym, ◌∙◌, subst, arith, Some, List, [], ◌∷◌}
use Rattle.std.specs.Prelude.{Contains}
use Rattle.std.specs.List.{AllByRecursion}
use Rattle.chw_types.specs.BuiltIn.{built_in}
use Rattle.chw_types.specs.declared.declarations.Data.{Data}
use Rattle.chw_types.specs.declared.kind.Kind.{Kind}
use Rattle.chw_types.specs.declared.kind.Kind.TheVariants.{Dom, Val, Cir}
use Rattle.type_ports.specs.declared.ports.Leaf.{Leaf}
use Rattle.chw_types.specs.KindFound.{kind_found}
use Rattle.type_ports.specs.Ports.{Leaves, one_leaf, leaves_of_fields}
use Rattle.type_ports.specs.Representable.{Representable}
use Rattle.chw_types.specs.SamePromises.{natural_value}
use Rattle.chw_types.specs.TypeMoves.{sub, rename, up, up_by, put_at}
use Rattle.chw_types.specs.TypeTree.{TypeTree, ty_var, domain, fun, signal, for_all}
use Rattle.chw_types.proofs.KindsFound.{found_is_kind}
use Rattle.chw_types.proofs.SameLaws.{same_self}
use Rattle.chw_terms.specs.TermTree.{TermTree}
use Rattle.chw_terms.specs.TypesMoved.{rename_types}
use Rattle.chw_typing.specs.Scopes.{HasKind}
use Rattle.chw_typing.specs.Typing.{HasType, h_var, h_made, h_app, h_ty_app, h_letrec, h_prim, h_lit, none_bound, bound_and}
use Rattle.chw_layout.specs.Measured.{HasWidth, measured_scalar}
use Rattle.rewriting.specs.Named.{under_none}
use Rattle.rewriting.specs.Origins.{setting_at}
use Rattle.normal_forms.specs.Examples.{byte, bytes, zeros, here, counter, register_of, lifted, CounterIsNormal}
use Rattle.normal_forms.specs.Normal.{HoldsWidths}
use Rattle.normal_forms.specs.Parts.{declared_by}
use Rattle.normal_forms.proofs.Plain.{AllParts, part_holds}
use Rattle.normal_forms.proofs.Shown.{byte_port, counter_is_circuit}

kind_here : (t : TypeTree) (k : Kind) → kind_found here.program.datas 1 [] t ≡ Some k → HasKind (setting_at here) [] t k
kind_here t k h = found_is_kind here.program.datas 1 [] t k h

abbrev vars : List TypeTree
vars = bytes ∷ bytes ∷ []

-- `register @A @U8` and `fmap @A @U8 @U8`
abbrev delayed : TypeTree → TypeTree
delayed a = fun a (fun (signal (domain 0) a) (signal (domain 0) a))

abbrev mapped : TypeTree → TypeTree → TypeTree
mapped a b = fun (fun a b) (fun (signal (domain 0) a) (signal (domain 0) b))

register_typed : HasType (setting_at here) [] vars (register_of zeros 0) bytes
unfolding kind_found sub rename up up_by put_at
register_typed =
    h_app
    (h_app
    (h_ty_app {u = delayed byte}
    (h_ty_app {u = for_all Val (delayed (ty_var 0))} h_prim (kind_here (domain 0) Dom refl) (same_self (for_all Val (delayed (ty_var 0)))) (kind_here (for_all Val (delayed (ty_var 0))) Cir refl))
    (kind_here byte Val refl) (same_self (delayed byte)) (kind_here (delayed byte) Cir refl))
    (h_lit (omega arith)) (same_self byte))
    (h_var refl) (same_self bytes)

lifted_typed : HasType (setting_at here) [] vars (lifted 1) bytes
unfolding kind_found sub rename up up_by put_at
lifted_typed =
    h_app
    (h_app
    (h_ty_app {u = mapped byte byte}
    (h_ty_app {u = for_all Val (mapped byte (ty_var 0))}
    (h_ty_app {u = for_all Val (for_all Val (mapped (ty_var 1) (ty_var 0)))} h_prim (kind_here (domain 0) Dom refl) (same_self (for_all Val (for_all Val (mapped (ty_var 1) (ty_var 0)))))
    (kind_here (for_all Val (for_all Val (mapped (ty_var 1) (ty_var 0)))) Cir refl))
    (kind_here byte Val refl) (same_self (for_all Val (mapped byte (ty_var 0)))) (kind_here (for_all Val (mapped byte (ty_var 0))) Cir refl))
    (kind_here byte Val refl) (same_self (mapped byte byte)) (kind_here (mapped byte byte) Cir refl))
    (h_made refl) (same_self (fun byte byte)))
    (h_var refl) (same_self bytes)

bytes_kind : HasKind (setting_at here) [] bytes Cir
unfolding kind_found
bytes_kind = kind_here bytes Cir refl

counter_typed : HasType (setting_at here) [] [] counter bytes
counter_typed =
    h_letrec (h_var refl) bytes_kind
    (bound_and bytes_kind tt register_typed (same_self bytes) (bound_and bytes_kind tt lifted_typed (same_self bytes) none_bound))

-- the one leaf of a signal of bytes has a width
payload_width : {datas : List Data} {t : TypeTree} {ls : List Leaf} (l : Leaf) → Leaves datas t ls → t ≡ bytes → Contains ls l → (w : ℕ) × HasWidth datas l.payload w
unfolding natural_value
payload_width {datas} l (one_leaf {t = t} r) is (zero, below, at) =
    let same : t ≡ byte = cc in let payload : t ≡ l.payload = cc in (8, subst (λ u. HasWidth datas u 8) (sym same ∙ payload) measured_scalar)
payload_width l (one_leaf r) is (suc k, below, at) = absurd (omega (arith, below))
payload_width l (leaves_of_fields a b c d e) is h = absurd cc

no_value : {datas : List Data} {d t : TypeTree} → Representable datas (signal d t) → ⊥
no_value r = elim r [ ]

bytes_hold : HoldsWidths built_in bytes
bytes_hold = record { value = λ r. absurd (no_value r); leaves = λ ls l h m. payload_width l h refl m }

abbrev Held : TermTree → Type 0
Held x = AllByRecursion (HoldsWidths built_in) (declared_by x)

counter_parts : AllParts Held counter
counter_parts =
    let register_parts : AllParts Held (register_of zeros 0) = (tt, ((tt, ((tt, (tt, tt)), tt)), tt)) in
    let lifted_parts : AllParts Held (lifted 1) = (tt, ((tt, ((tt, (tt, (tt, tt))), tt)), tt)) in
    ((bytes_hold, (bytes_hold, tt)), ((register_parts, (lifted_parts, tt)), tt))

pub counter_is_normal : CounterIsNormal
unfolding rename_types rename
counter_is_normal =
    record {
      typed = record { type = bytes; has = counter_typed; same = same_self bytes };
      complete = ((((tt, tt), tt), (((tt, tt), tt), tt)), tt);
      closed = λ ρ. refl;
      path = [];
      vars = [];
      inner = counter;
      under = under_none tt;
      named = tt;
      form = counter_is_circuit;
      widths = λ path x is. part_holds Held path counter x counter_parts is;
      params = [];
      result = bytes;
      gives = refl;
      result_named = byte_port;
      result_width = bytes_hold;
    }
