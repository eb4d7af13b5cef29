-- What a projection that is ready is made of.
use Rattle.std.proofs.Common.{◌≡◌, ◌∙◌, sym, ap, refl, subst, arith, ℕ, zero, suc, ◌<◌, List, [], ◌∷◌, length, get_or, Some}
use Rattle.std.specs.List.{slice_get}
use Rattle.chw_types.specs.declared.declarations.Data.{Data}
use Rattle.chw_types.specs.TypeTree.{TypeTree}
use Rattle.chw_terms.specs.declared.scene.Sort.TheVariants.{Circuit}
use Rattle.chw_terms.specs.declared.term.Alt.{Alt}
use Rattle.chw_terms.specs.declared.term.Pattern.{Pattern}
use Rattle.chw_terms.specs.declared.term.Pattern.TheVariants.{OfCon}
use Rattle.chw_terms.specs.TermTree.{TermTree, var, Alts, alt, no_alts}
use Rattle.chw_terms.specs.TermView.{alts_of}
use Rattle.chw_typing.specs.HeadTypes.{PatternOf}
use Rattle.net_built.specs.Circuits.{HaveParts}
use Rattle.net_built.specs.Data.{HasParts}
use Rattle.net_built.specs.Terms.{Variable}
use Rattle.net_ready.specs.Ready.{types_on, ProjectionReady}
use Rattle.net_ready.proofs.Scopes.{variable_there}
use Rattle.net_built.proofs.Parts.{same_some}
use Rattle.value_build.specs.InScope.{in_scope}
use Rattle.value_build.specs.declared.scope.Variable.{Variable as Held}
use Rattle.value_build.proofs.Ready.{in_scope_held, name_number}
use Rattle.value_build.specs.ReadyParts.{IsName}
use Rattle.circuit_build.specs.Shapes.{IsConPattern, IsOneAlternative}

not_two : (datas : List Data) (vars : List TypeTree) (x : ℕ) (q : Pattern) (e : TermTree) (r : Pattern) (f : TermTree) (more : Alts) → ProjectionReady datas vars x (alt q e (alt r f more)) → ⊥
not_two datas vars x (OfCon c n) (var z) r f more h = h
not_two datas vars x _ _ r f more h = h

pub one_alternative : (datas : List Data) (vars : List TypeTree) (x : ℕ) (alts : List Alt) → ProjectionReady datas vars x (alts_of alts) → IsOneAlternative alts
one_alternative datas vars x [] h = absurd h
one_alternative datas vars x (a ∷ []) h = tt
one_alternative datas vars x (a ∷ b ∷ alts) h = absurd (not_two datas vars x a.pattern a.body b.pattern b.body (alts_of alts) h)

-- an alternative that is ready: a constructor's pattern, a variable, and the fields of a variable in scope
abbrev pub AloneReady : List Data → List TypeTree → ℕ → Pattern → TermTree → Type 0
AloneReady datas vars x q e = IsConPattern q × IsName e
    × ((ty : TypeTree) × (fields : List TypeTree) × (parts : List (List ℕ)) × (slice_get vars x ≡ Some ty) × PatternOf datas ty q fields × HaveParts datas fields parts)

alone_ready : (datas : List Data) (vars : List TypeTree) (x : ℕ) (q : Pattern) (e : TermTree) → ProjectionReady datas vars x (alt q e no_alts)
    → AloneReady datas vars x q e
alone_ready datas vars x (OfCon c n) (var z) h = (tt, (z, refl), (h.0.ty, h.0.fields, h.0.parts, h.0.held, h.0.pattern, h.0.have))
alone_ready datas vars x _ _ h = absurd h

only_ready : (datas : List Data) (vars : List TypeTree) (x : ℕ) (alts : List Alt) (a : Alt) → alts ≡ a ∷ [] → ProjectionReady datas vars x (alts_of alts) → AloneReady datas vars x a.pattern a.body
only_ready datas vars x alts a is h = alone_ready datas vars x a.pattern a.body (subst (λ bs. ProjectionReady datas vars x (alts_of bs)) is h)

pub only_pattern : (datas : List Data) (vars : List TypeTree) (x : ℕ) (alts : List Alt) (a : Alt) → alts ≡ a ∷ [] → ProjectionReady datas vars x (alts_of alts) → IsConPattern a.pattern
only_pattern datas vars x alts a is h = (only_ready datas vars x alts a is h).0

pub only_gives : (datas : List Data) (vars : List TypeTree) (x : ℕ) (alts : List Alt) (a : Alt) → alts ≡ a ∷ [] → ProjectionReady datas vars x (alts_of alts) → IsName a.body
only_gives datas vars x alts a is h = (only_ready datas vars x alts a is h).1

-- the variable on which a projection is, is in scope
pub only_held : (datas : List Data) (scope : List Held) (x y : ℕ) (on : TermTree) (alts : List Alt) (a : Alt)
    → on ≡ var x → on ≡ var y → alts ≡ a ∷ [] → ProjectionReady datas (types_on (in_scope scope)) x (alts_of alts) → y < length scope
only_held datas scope x y on alts a is named only h =
    let r = (only_ready datas (types_on (in_scope scope)) x alts a only h).2 in
    in_scope_held scope y r.0 (subst (λ k. slice_get (types_on (in_scope scope)) k ≡ Some r.0) (name_number x y (sym is ∙ named)) r.3)

pub only_fields : (datas : List Data) (scope : List Variable) (x y : ℕ) (on : TermTree) (alts : List Alt) (a : Alt) (it : Variable)
    → on ≡ var x → on ≡ var y → alts ≡ a ∷ [] → slice_get scope y ≡ Some it → ProjectionReady datas (types_on scope) x (alts_of alts)
    → (fields : List TypeTree) × (parts : List (List ℕ)) × PatternOf datas it.ty a.pattern fields × HaveParts datas fields parts
only_fields datas scope x y on alts a it is named only held h =
    let r = (only_ready datas (types_on scope) x alts a only h).2 in
    let found = variable_there scope (types_on scope) x r.0 refl r.3 in
    let number : x ≡ y = name_number x y (sym is ∙ named) in
    let same : it ≡ found.0 = same_some held (subst (λ k. slice_get scope k ≡ Some found.0) number found.1) in
    let ty : r.0 ≡ it.ty = sym (ap (λ (v : Variable). v.ty) same ∙ found.2) in
    (r.1, r.2, subst (λ t. PatternOf datas t a.pattern r.1) ty r.4, r.5)

-- of ports that have parts, each has
pub parts_at : (datas : List Data) (ts : List TypeTree) (parts : List (List ℕ)) (i : ℕ) (t : TypeTree) → i < length ts → t ≡ get_or ts i t
    → HaveParts datas ts parts → (ws : List ℕ) × HasParts datas Circuit t ws
parts_at datas [] parts i t l is have = absurd (omega (arith, l))
parts_at datas (u ∷ ts) [] i t l is have = absurd have
parts_at datas (u ∷ ts) (ws ∷ parts) zero t l is have = (ws, subst (λ v. HasParts datas Circuit v ws) (sym is) have.0)
parts_at datas (u ∷ ts) (ws ∷ parts) (suc i) t l is have = parts_at datas ts parts i t (omega (arith, l)) is have.1
