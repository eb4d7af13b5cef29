-- What is held and shown at a closed type is so at each that is the same up to naturals.
use Rattle.std.specs.Prelude.{slice_get, ◌-◌}
use Rattle.std.proofs.Common.{◌≡◌, Bool, List, ◌++◌, Some, sym, ◌∙◌, subst}
use Rattle.chw_types.specs.Arguments.{arguments}
use Rattle.chw_types.specs.SamePromises.{SameValues}
use Rattle.chw_types.specs.TypeTree.{TypeTree}
use Rattle.chw_types.specs.TypeMoves.{Substitution}
use Rattle.type_laws.specs.SameKept.{FieldsKeepSame}
use Rattle.type_laws.proofs.SameForms.{as_scalar, as_vector, as_data}
use Rattle.chw_terms.specs.declared.program.Program.{Program}
use Rattle.chw_typing.specs.Programs.{IsSound, setting_of}
use Rattle.chw_typing.specs.Alike.{AreLike}
use Rattle.chw_typing.proofs.FieldsPut.{AllLike, con_like, fields_like}
use Rattle.chw_typing.proofs.SameNames.{element_like}
use Rattle.chw_layout.specs.Encodes.{first_constructor, filled}
use Rattle.chw_layout.specs.Measured.{fits, Measured}
use Rattle.layout_laws.proofs.SameLayout.{same_number, measured_same}
use Rattle.chw_meaning.specs.Values.{History, Value, bits, con_of, vec_of, Thunk, Thunks}
use Rattle.carrying.specs.Carrying.{tag_of, Holds, holds_word, holds_elements, holds_built, Shows, shows_nothing, shows_bits, CarryEach, carry_none, carry_each, CarryFields, carry_no_field, carry_field}
use Rattle.carrying.proofs.Yields.{place_of}

module _ (p : Program) (sound : IsSound (setting_of p)) (values : SameValues) (keep : FieldsKeepSame) where
  mutual
    pub held_same : {t u : TypeTree} {v : Value} {b : List Bool} → Holds p t v b → AreLike (setting_of p) t u → Holds p u v b
    held_same {u = u} (holds_word {s = sort} {n = w} {b = b} e) l =
        let at = as_scalar l.same in
        subst (λ x. Holds p x (bits b) b) (sym at.1) (holds_word (e ∙ same_number values at.2))
    held_same {u = u} (holds_elements {n = n} {t = t} {ths = ths} {b = b} e a) l =
        let at = as_vector l.same in
        subst (λ x. Holds p x (vec_of ths) b) (sym at.2)
        (holds_elements (e ∙ same_number values at.3) (each_same a (element_like {n = n} l.has at.4)))
    held_same {u = u} (holds_built {d = d} {c = c} {w = w} {ts = ts} {it = it} {ths = ths} {b = b} held of many a has) l =
        let at = as_data l.same in
        let place = place_of p.datas c it held in
        let known : slice_get p.datas d ≡ Some it.it = subst (λ d. slice_get p.datas d ≡ Some it.it) of place.in_datas in
        let i = c - first_constructor p.datas it.of in
        let like = con_like (setting_of p) (arguments ts) (arguments at.0) it.it.cons i it.decl place.in_cons (fields_like (setting_of p) sound keep d it.it ts at.0 l.kind known l.has at.2) in
        let wide = subst (λ x. Measured p.datas x (fits w)) at.1 (measured_same (setting_of p) sound values keep has l) in
        subst (λ x. Holds p x (con_of c ths) (filled w (tag_of p.datas c it ++ b))) (sym at.1)
        (holds_built held of many (fields_same a like) wide)

    pub shown_same : {t u : TypeTree} {th : Thunk} {h : History} {b : List Bool} → Shows p t th h b → AreLike (setting_of p) t u → Shows p u th h b
    shown_same (shows_nothing z) l = shows_nothing (measured_same (setting_of p) sound values keep z l)
    shown_same (shows_bits wide f held) l = shows_bits (wide.0, measured_same (setting_of p) sound values keep wide.1 l) f (held_same held l)

    each_same : {t u : TypeTree} {ths : Thunks} {b : List Bool} → CarryEach p t ths b → AreLike (setting_of p) t u → CarryEach p u ths b
    each_same carry_none l = carry_none
    each_same (carry_each f more) l = carry_each (λ h. shown_same (f h) l) (each_same more l)

    fields_same : {fs : List TypeTree} {σ τ : Substitution} {ths : Thunks} {b : List Bool} → CarryFields p fs σ ths b → AllLike (setting_of p) σ τ fs → CarryFields p fs τ ths b
    fields_same carry_no_field l = carry_no_field
    fields_same (carry_field at f more) l = carry_field at (λ h. shown_same (f h) l.0) (fields_same more l.1)
