use Rattle.std.proofs.Common.{◌≡◌, ◌+◌, ◌<◌, ◌≤◌, length, List, get_or, Some, None, sym, ap, subst, ◌∙◌}
use Rattle.std.proofs.lemmas.Bool.{ltb-false}
use Rattle.chw_types.specs.declared.declarations.ConDecl.{ConDecl}
use Rattle.chw_types.specs.declared.declarations.Data.{Data}
use Rattle.chw_terms.specs.Constructors.{con_at, first_con}
use Rattle.con_places.specs.declared.table.Place.{Place}
use Rattle.con_places.proofs.Placed.{read, found, in_datas, in_cons, none_found}
use Rattle.con_places.proofs.table.Constructors.at.Goals as goal

pub returns-in_default : goal.returns-in_default
returns-in_default c =
    let n = c.args.at.number in
    let past = ltb-false _ _ (sym c.in_default.ensures.lookup.0) in
    subst (λ (ds : List Data). con_at ds n ≡ None) c.self.view_is
    (none_found c.self.inside.datas.now n c.self.inside.places.items c.self.invariant (subst (λ (ps : List Place). length ps ≤ n) c.deref.ensures.value past))

pub bounds-self-inside-stands : goal.bounds-self-inside-stands
bounds-self-inside-stands c =
    let place = c.in-Some.stands.now in
    let table = c.self.inside in
    let n = c.args.at.number in
    in_datas table.datas.now n place (read table.datas.now table.places.items c.deref.result.now n place c.self.invariant c.deref.ensures.value c.in-Some.ensures.lookup.0 c.in-Some.ensures.lookup.1)

pub bounds-cons-stands : goal.bounds-cons-stands
bounds-cons-stands c =
    let place = c.in-Some.stands.now in
    let table = c.self.inside in
    let n = c.args.at.number in
    let it = c.index-self-stands.result in
    let stands = read table.datas.now table.places.items c.deref.result.now n place c.self.invariant c.deref.ensures.value c.in-Some.ensures.lookup.0 c.in-Some.ensures.lookup.1 in
    let cons = c.as_slice-cons.ensures ∙ ap (λ (d : Data). d.cons) (sym c.index-self-stands.is) in
    subst (λ (cs : List ConDecl). place.place < length cs) (sym cons) (in_cons table.datas.now n place it it stands c.index-self-stands.is)

pub returns : goal.returns
returns c =
    let place = c.in-Some.stands.now in
    let table = c.self.inside in
    let n = c.args.at.number in
    let it = c.index-self-stands.result in
    let decl = c.index-cons-stands.result in
    let stands = read table.datas.now table.places.items c.deref.result.now n place c.self.invariant c.deref.ensures.value c.in-Some.ensures.lookup.0 c.in-Some.ensures.lookup.1 in
    let cons = c.as_slice-cons.ensures ∙ ap (λ (d : Data). d.cons) (sym c.index-self-stands.is) in
    let at : decl ≡ get_or it.cons place.place decl = subst (λ (cs : List ConDecl). decl ≡ get_or cs place.place decl) cons c.index-cons-stands.is in
    record {
      is = subst (λ (ds : List Data). con_at ds n ≡ Some (record { of = place.of; it = it; decl = decl })) c.self.view_is
          (found table.datas.now n place it it decl decl stands c.index-self-stands.is at)
          ∙ ap (λ (d : Data). Some (record { of = place.of; it = d; decl = decl })) c.index-self-stands.is;
      number = subst (λ (ds : List Data). n ≡ first_con ds place.of + place.place) c.self.view_is stands.number;
    }
