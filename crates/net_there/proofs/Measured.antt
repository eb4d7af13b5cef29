-- Variables in scope have parts: those of lambdas and of letrecs, and the fields of what is taken apart.
use Rattle.std.proofs.Common.{◌≡◌, ℕ, zero, suc, ◌≤◌, List, [], ◌∷◌, map, Some, slice_get, Contains, refl, sym, subst, arith}
use Rattle.std.specs.List.{AllByRecursion}
use Rattle.chw_base.specs.declared.index.ConId.{ConId}
use Rattle.chw_base.specs.declared.limits.TheConstants.{DATA_BITS}
use Rattle.chw_types.specs.Arguments.{arguments}
use Rattle.chw_types.specs.declared.declarations.Data.{Data}
use Rattle.chw_types.specs.TypeMoves.{Substitution, sub}
use Rattle.chw_types.specs.TypeTree.{TypeTree}
use Rattle.type_ports.specs.declared.ports.Leaf.{Leaf}
use Rattle.type_ports.specs.Ports.{LeavesOfAll, no_leaves, leaves_and}
use Rattle.chw_terms.specs.declared.program.Program.{Program}
use Rattle.chw_terms.specs.declared.scene.Sort.{Sort}
use Rattle.chw_terms.specs.declared.scene.Sort.TheVariants.{Value, Circuit}
use Rattle.chw_terms.specs.declared.term.Pattern.{Pattern}
use Rattle.chw_terms.specs.declared.term.Pattern.TheVariants.{OfCon}
use Rattle.chw_typing.specs.HeadTypes.{PatternOf, of_con, of_lit, of_any}
use Rattle.chw_typing.specs.Scopes.{with_more}
use Rattle.chw_layout.specs.Measured.{fits, MeasuredFields, HasWidth}
use Rattle.rewriting.specs.Named.{IsNamed, mode_of}
use Rattle.normal_forms.specs.Normal.{HoldsWidths}
use Rattle.net_built.specs.Circuits.{HaveParts}
use Rattle.net_built.specs.Data.{HaveWidths, HasParts, value_part, port_parts}
use Rattle.net_grounds.specs.Facts.{Facts}
use Rattle.net_means.proofs.Lists.{turned_onto}
use Rattle.net_means.proofs.NetFits.Ports.{payloads, split, con_leaves}

-- a variable of the type has parts
abbrev pub HasSomeParts : List Data → Sort → TypeTree → Type 0
HasSomeParts datas sort t = (widths : List ℕ) × HasParts datas sort t widths

-- so each variable in scope
abbrev pub AllHaveParts : List Data → Sort → List TypeTree → Type 0
AllHaveParts datas sort vars = AllByRecursion (HasSomeParts datas sort) vars

pub value_width : {datas : List Data} {t : TypeTree} {widths : List ℕ} → HasParts datas Value t widths → (w : ℕ) × HasWidth datas t w
value_width (value_part {w = w} has) = (w, has)

-- of items that are bound together, and of those outside
pub all_more : (P : TypeTree → Type 0) (new vars : List TypeTree) → AllByRecursion P new → AllByRecursion P vars → AllByRecursion P (with_more new vars)
all_more P [] vars h k = k
all_more P (t ∷ new) vars h k = subst (AllByRecursion P) (sym (turned_onto t new vars)) (all_more P new (t ∷ vars) h.1 (h.0, k))

pub item_of_all : {A : Type 0} (P : A → Type 0) (xs : List A) (i : ℕ) (x : A) → AllByRecursion P xs → slice_get xs i ≡ Some x → P x
item_of_all P [] i x all e = absurd cc
item_of_all P (y ∷ xs) zero x all e = let is : y ≡ x = cc in subst P is all.0
item_of_all P (y ∷ xs) (suc i) x all e = item_of_all P xs i x all.1 e

-- leaves of which each has a width
leaf_widths : (datas : List Data) (ls : List Leaf) → ((l : Leaf) → Contains ls l → (w : ℕ) × HasWidth datas l.payload w) → (ws : List ℕ) × HaveWidths datas (payloads ls) ws
leaf_widths datas [] h = ([], tt)
leaf_widths datas (l ∷ ls) h =
    let first = h l (0, omega arith, refl) in
    let rest = leaf_widths datas ls (λ m c. let within = c.1 in h m (suc c.0, omega (arith, within), c.2)) in
    (first.0 ∷ rest.0, (first.1, rest.1))

-- a named type that holds the widths has parts
pub holds_parts : (datas : List Data) (sort : Sort) (t : TypeTree) → IsNamed datas (mode_of sort) t → HoldsWidths datas t → HasSomeParts datas sort t
holds_parts datas Value t named h = let w = h.value named in (w.0 ∷ [], value_part w.1)
holds_parts datas Circuit t named h =
    let ws = leaf_widths datas named.0 (λ l c. h.leaves named.0 l named.1 c) in (ws.0, port_parts named.1 ws.1)

pub all_hold_parts : (datas : List Data) (sort : Sort) (ts : List TypeTree) → AllByRecursion (IsNamed datas (mode_of sort)) ts → AllByRecursion (HoldsWidths datas) ts → AllHaveParts datas sort ts
all_hold_parts datas sort [] named h = tt
all_hold_parts datas sort (t ∷ ts) named h = (holds_parts datas sort t named.0 h.0, all_hold_parts datas sort ts named.1 h.1)

pub widths_as_parts : (datas : List Data) (ts : List TypeTree) (ws : List ℕ) → HaveWidths datas ts ws → AllHaveParts datas Value ts
widths_as_parts datas [] [] h = tt
widths_as_parts datas [] (w ∷ ws) h = absurd h
widths_as_parts datas (t ∷ ts) [] h = absurd h
widths_as_parts datas (t ∷ ts) (w ∷ ws) h = ((w ∷ [], value_part h.0), widths_as_parts datas ts ws h.1)

-- fields that have a width together have one each
fields_wide : Facts → (datas : List Data) (fs : List TypeTree) (σ : Substitution) (s : ℕ) → s ≤ DATA_BITS → MeasuredFields datas fs σ (fits s) → (ws : List ℕ) × HaveWidths datas (map (λ f. sub f σ) fs) ws
fields_wide facts datas [] σ s small measured = ([], tt)
fields_wide facts datas (f ∷ fs) σ s small measured =
    let at = facts.widths.field_width small measured in
    let sum = at.is in
    let rest = fields_wide facts datas fs σ at.b (omega (arith, small, sum)) at.rest in
    (at.a ∷ rest.0, (at.first, rest.1))

-- so do those of a type with a width
pub pattern_wide : Facts → (p : Program) {t : TypeTree} {q : Pattern} {fields : List TypeTree} {w : ℕ} → PatternOf p.datas t q fields → HasWidth p.datas t w → (ws : List ℕ) × HaveWidths p.datas fields ws
pattern_wide facts p {w = w} (of_con {d = d} {c = c} {ts = ts} it at of n) has =
    let whole = facts.widths.whole_width p c.number d it ts w at of has in
    fields_wide facts p.datas it.decl.fields (arguments ts) whole.s whole.small whole.fields
pattern_wide facts p (of_lit l same) has = ([], tt)
pattern_wide facts p of_any has = ([], tt)

-- the parts of the fields of a port
fields_parts : (datas : List Data) {fs : List TypeTree} {σ : Substitution} {ls : List Leaf} (ws : List ℕ) → LeavesOfAll datas fs σ ls → HaveWidths datas (payloads ls) ws → (parts : List (List ℕ)) × HaveParts datas (map (λ f. sub f σ) fs) parts
fields_parts datas ws no_leaves h = ([], tt)
fields_parts datas ws (leaves_and {ls = ls} {ms = ms} a b) h =
    let at = split datas ls ms ws h in
    let rest = fields_parts datas at.rest b at.others in
    (at.first ∷ rest.0, (port_parts a at.have, rest.1))

pub pattern_parts : Facts → {datas : List Data} {t : TypeTree} {c : ConId} {n : ℕ} {fields : List TypeTree} {ws : List ℕ} → PatternOf datas t (OfCon c n) fields → HasParts datas Circuit t ws → (parts : List (List ℕ)) × HaveParts datas fields parts
pattern_parts facts {datas} {ws = ws} (of_con {d = d} {c = c} it known of n) (port_parts l h) = fields_parts datas ws (con_leaves facts datas c.number d it known of l) h
