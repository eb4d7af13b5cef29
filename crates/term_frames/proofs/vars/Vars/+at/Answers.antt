use Rattle.std.proofs.Common.{Some, refl, sym, ap, ◌∙◌, subst, arith}
use Rattle.std.specs.List.{slice_get}
use Rattle.chw_types.specs.TypeMoves.{shift}
use Rattle.chw_typing.specs.Scopes.{under_binder}
use Rattle.seen_types.specs.declared.found.Found.{Found}
use Rattle.seen_types.specs.declared.found.Kinded.{Kinded}
use Rattle.term_frames.specs.InScope.{InScope}
use Rattle.term_frames.specs.FieldTypes.{put_type, put_kind}
use Rattle.term_frames.specs.VarsView.{in_scope, IsAt}
use Rattle.term_frames.proofs.VarsFound.{raised_all, raised_under, at_moved, at_bound, at_past}
use Rattle.term_frames.proofs.vars.Vars.+at.Goals as goal

pub returns-in_ok-at-in-UnderType : goal.returns-in_ok-at-in-UnderType
returns-in_ok-at-in-UnderType t c =
    let outer = c.in-UnderType.outer.now in
    let n = c.args.number in
    let r = c.in_ok-at-in-UnderType.field-0 in
    subst (λ (v : InScope). IsAt (raised_all c.args.by v.vars) v.kinds n r) (ap in_scope (sym c.in-UnderType.is) ∙ c.self.view_is)
    (at_moved _ (raised_all c.args.by (under_binder outer.vars)) outer.kinds outer.kinds n n r
    (ap (λ by. slice_get (raised_all by outer.vars) n) c.in_ok-by-in-UnderType.ensures ∙ ap (λ ts. slice_get ts n) (raised_under outer.vars c.args.by)) refl c.in_ok-at-in-UnderType.ensures)

pub returns-then-number-count : goal.returns-then-number-count
returns-then-number-count t c =
    let outer = c.in-OfGroup.outer.now in
    let n = c.args.number in
    let r = c.in_ok-written-in-OfGroup.field-0 in
    subst (λ (v : InScope). IsAt (raised_all c.args.by v.vars) v.kinds n (Some r)) (ap in_scope (sym c.in-OfGroup.is) ∙ c.self.view_is)
    (at_bound (λ (k : Kinded). k.ty.now) (λ (k : Kinded). k.kind) c.in-OfGroup.bound.now outer.vars outer.kinds n c.args.by c.index-bound-count.result r (omega (arith, c.if-number-count.true)) c.index-bound-count.is
    (c.in_ok-written-in-OfGroup.ensures.0 ∙ ap (λ (k : Kinded). shift k.ty.now 0 c.args.by) (sym c.index-bound-count.is))
    (c.in_ok-written-in-OfGroup.ensures.1 ∙ ap (λ (k : Kinded). k.kind) (sym c.index-bound-count.is)))

pub returns-in_ok-at-in-OfGroup : goal.returns-in_ok-at-in-OfGroup
returns-in_ok-at-in-OfGroup t c =
    let outer = c.in-OfGroup.outer.now in
    let n = c.args.number in
    let r = c.in_ok-at-in-OfGroup.field-0 in
    subst (λ (v : InScope). IsAt (raised_all c.args.by v.vars) v.kinds n r) (ap in_scope (sym c.in-OfGroup.is) ∙ c.self.view_is)
    (at_past (λ (k : Kinded). k.ty.now) (λ (k : Kinded). k.kind) c.in-OfGroup.bound.now outer.vars outer.kinds n c.args.by r (omega (arith, c.if-number-count.false)) c.in_ok-at-in-OfGroup.ensures)

pub returns-then-number-count-2 : goal.returns-then-number-count-2
returns-then-number-count-2 t c =
    let outer = c.in-OfPattern.outer.now in
    let n = c.args.number in
    let r = c.in_ok-found_again-in-OfPattern.field-0 in
    subst (λ (v : InScope). IsAt (raised_all c.args.by v.vars) v.kinds n (Some r)) (ap in_scope (sym c.in-OfPattern.is) ∙ c.self.view_is)
    (at_bound (λ (f : Found). f.ty) (λ (f : Found). f.kind) c.in-OfPattern.bound.now outer.vars outer.kinds n c.args.by c.index-bound-count-then-number-count-2.result r (omega (arith, c.if-number-count-2.true)) c.index-bound-count-then-number-count-2.is
    (c.in_ok-found_again-in-OfPattern.ensures.0 ∙ ap (λ (f : Found). shift f.ty 0 c.args.by) (sym c.index-bound-count-then-number-count-2.is))
    (c.in_ok-found_again-in-OfPattern.ensures.1 ∙ ap (λ (f : Found). f.kind) (sym c.index-bound-count-then-number-count-2.is)))

pub returns-in_ok-at-in-OfPattern : goal.returns-in_ok-at-in-OfPattern
returns-in_ok-at-in-OfPattern t c =
    let outer = c.in-OfPattern.outer.now in
    let n = c.args.number in
    let r = c.in_ok-at-in-OfPattern.field-0 in
    subst (λ (v : InScope). IsAt (raised_all c.args.by v.vars) v.kinds n r) (ap in_scope (sym c.in-OfPattern.is) ∙ c.self.view_is)
    (at_past (λ (f : Found). f.ty) (λ (f : Found). f.kind) c.in-OfPattern.bound.now outer.vars outer.kinds n c.args.by r (omega (arith, c.if-number-count-2.false)) c.in_ok-at-in-OfPattern.ensures)

pub returns-then-number-count-3 : goal.returns-then-number-count-3
returns-then-number-count-3 t c =
    let outer = c.in-OfFields.outer.now in
    let p = c.in-OfFields.fields.now in
    let n = c.args.number in
    let r = c.in_ok-field_found-in-OfFields.field-0 in
    subst (λ (v : InScope). IsAt (raised_all c.args.by v.vars) v.kinds n (Some r)) (ap in_scope (sym c.in-OfFields.is) ∙ c.self.view_is)
    (at_bound (λ f. put_type p f) (λ f. put_kind p f) p.types.now outer.vars outer.kinds n c.args.by c.index-fields-count.result r (omega (arith, c.if-number-count-3.true)) c.index-fields-count.is
    (c.in_ok-field_found-in-OfFields.ensures.0 ∙ ap (λ t. shift (put_type p t) 0 c.args.by) (sym c.index-fields-count.is))
    (c.in_ok-field_found-in-OfFields.ensures.1 ∙ ap (λ t. put_kind p t) (sym c.index-fields-count.is)))

pub returns-in_ok-at-in-OfFields : goal.returns-in_ok-at-in-OfFields
returns-in_ok-at-in-OfFields t c =
    let outer = c.in-OfFields.outer.now in
    let p = c.in-OfFields.fields.now in
    let n = c.args.number in
    let r = c.in_ok-at-in-OfFields.field-0 in
    subst (λ (v : InScope). IsAt (raised_all c.args.by v.vars) v.kinds n r) (ap in_scope (sym c.in-OfFields.is) ∙ c.self.view_is)
    (at_past (λ f. put_type p f) (λ f. put_kind p f) p.types.now outer.vars outer.kinds n c.args.by r (omega (arith, c.if-number-count-3.false)) c.in_ok-at-in-OfFields.ensures)
