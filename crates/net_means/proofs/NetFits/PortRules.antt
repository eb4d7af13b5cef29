-- The ports of a tidy and typed program keep the rules on ports.
use Rattle.std.proofs.Common.{◌≡◌, ℕ, suc, ◌+◌, ◌<◌, ◌≤◌, arith, Bool, true, false, ◌||◌, List, [], ◌∷◌, ◌++◌, length, map, Some, refl, sym, ap, subst, length-append}
use Rattle.std.specs.Prelude.{Option, None, is_some, if◌then◌else◌, ◌&&◌, nat_eq}
use Rattle.std.specs.Option.{option_map}
use Rattle.std.specs.List.{slice_get, list_any, AllByRecursion}
use Rattle.std.specs.Str.{bytes_eq}
use Rattle.chw_base.specs.Names.{IsLower, IsUpper}
use Rattle.chw_base.specs.Ordered.{AreOrderedFrom}
use Rattle.chw_base.specs.declared.index.DomId.{DomId}
use Rattle.chw_clock.specs.declared.event.Port.{Port}
use Rattle.chw_clock.specs.declared.event.Ports.{Ports}
use Rattle.chw_types.specs.declared.declarations.Data.{Data}
use Rattle.chw_types.specs.declared.kind.Kind.{Kind}
use Rattle.type_ports.specs.declared.ports.Leaf.{Leaf}
use Rattle.chw_types.specs.Arguments.{arguments}
use Rattle.chw_types.specs.Kinds.{KindsOf, kind_domain, kind_data, kind_signal}
use Rattle.type_ports.specs.Ports.{Leaves, one_leaf, leaves_of_fields, LeavesOfAll, no_leaves, leaves_and}
use Rattle.chw_types.specs.TypeMoves.{Substitution}
use Rattle.chw_types.specs.TypeTree.{TypeTree, TypeTrees, domain, data_of, signal}
use Rattle.chw_terms.specs.Names.{AreNames}
use Rattle.chw_terms.specs.declared.program.Program.{Program}
use Rattle.chw_terms.specs.declared.scene.Made.{Made}
use Rattle.chw_typing.specs.Programs.{IsSound}
use Rattle.chw_typing.specs.Scopes.{Setting, HasKind}
use Rattle.chw_meaning.specs.Means.{HasPorts, LeadsFrom, leads_to, leads_from, PortsOf, no_ports, port_and, no_port_and}
use Rattle.name_tables.specs.Names.{AreDistinct, is_among, place_of}
use Rattle.net_rules.specs.PortsHold.{PortsHold, RiseWithin, FitsPort, full_name}
use Rattle.rewriting.specs.Steps.{origins_in}
use Rattle.rewriting.specs.Origins.{setting_at}
use Rattle.rule_types.specs.States.{IsTypedState, StatesHaveTypedOrigins}
use Rattle.net_grounds.specs.Facts.{Facts}
use Rattle.net_means.proofs.Lists.{found_in_map, same_some}
use Rattle.net_means.proofs.NetFits.CircuitDrivers.{AllKinded, all_kinded}
use Rattle.net_means.proofs.NetFits.Reading.{all_append}

-- the leaf's domain exists
abbrev InDomain : ℕ → Leaf → Type 0
InDomain domains l = l.dom.number < domains

signal_domain : (s : Setting) (d : ℕ) (t : TypeTree) (k : Kind) → HasKind s [] (signal (domain d) t) k → d < s.domains
signal_domain s d t k (kind_signal (kind_domain l) of) = l

data_kinds : (s : Setting) (d : ℕ) (ts : TypeTrees) (it : Data) (k : Kind) → slice_get s.datas d ≡ Some it → HasKind s [] (data_of d ts) k → KindsOf s.datas s.domains [] ts it.params
data_kinds s d ts it k known (kind_data there kinds) = subst (λ (it : Data). KindsOf s.datas s.domains [] ts it.params) (same_some there known) kinds

module _ (facts : Facts) (s : Setting) (sound : IsSound s) where
  mutual
    leaf_domains : {t : TypeTree} {ls : List Leaf} (k : Kind) → Leaves s.datas t ls → HasKind s [] t k → AllByRecursion (InDomain s.domains) ls
    leaf_domains k (one_leaf {dom = dom} {t = t} r) kind = (signal_domain s dom.number t k kind, tt)
    leaf_domains k (leaves_of_fields {d = d} {it = it} {ts = ts} {c = c} known as_many one fields a) kind =
        let all = all_kinded facts s sound d it ts c.fields known (data_kinds s d ts it k known kind) (λ i f e. record { con = 0; of = c; is_con = ap (λ cs. slice_get cs 0) one; at = i; is_field = e }) in
        fields_domains a (subst (AllKinded s (arguments ts)) fields all)

    fields_domains : {fs : List TypeTree} {σ : Substitution} {ls : List Leaf} → LeavesOfAll s.datas fs σ ls → AllKinded s σ fs → AllByRecursion (InDomain s.domains) ls
    fields_domains no_leaves kinds = tt
    fields_domains (leaves_and {ls = ls} {ms = ms} a b) kinds = all_append (InDomain s.domains) ls ms (leaf_domains kinds.0.0 a kinds.0.1) (fields_domains b kinds.1)

  led_domains : {t : TypeTree} {ins outs : List Leaf} (k : Kind) → LeadsFrom s.datas t ins outs → HasKind s [] t k → AllByRecursion (InDomain s.domains) ins × AllByRecursion (InDomain s.domains) outs
  led_domains k (leads_to l) kind = (tt, leaf_domains k l kind)
  led_domains k (leads_from {ls = ls} {ins = ins} l more) kind =
      let at = facts.kinds.function_parts kind in
      let rest = led_domains k more at.2 in
      (all_append (InDomain s.domains) ls ins (leaf_domains at.0 l at.1) rest.0, rest.1)

mutual
  -- a port has a leaf
  some_leaf : {datas : List Data} {t : TypeTree} {ls : List Leaf} → Leaves datas t ls → 1 ≤ length ls
  some_leaf (one_leaf r) = omega arith
  some_leaf (leaves_of_fields known as_many one fields a) = some_of a

  some_of : {datas : List Data} {f : TypeTree} {fs : List TypeTree} {σ : Substitution} {ls : List Leaf} → LeavesOfAll datas (f ∷ fs) σ ls → 1 ≤ length ls
  some_of (leaves_and {ls = ls} {ms = ms} a b) =
      let l = some_leaf a in
      let e : length (ls ++ ms) ≡ length ls + length ms = length-append ls ms in
      omega (arith, l, e)

led_some : {datas : List Data} {t : TypeTree} {ins outs : List Leaf} → LeadsFrom datas t ins outs → 1 ≤ length outs
led_some (leads_to l) = some_leaf l
led_some (leads_from l more) = led_some more

-- a leaf has a domain
domain_some : (domains : ℕ) (ls : List Leaf) → 1 ≤ length ls → AllByRecursion (InDomain domains) ls → 1 ≤ domains
domain_some domains [] l h = absurd (omega (arith, l))
domain_some domains (x ∷ ls) l h = let here = h.0 in omega (arith, here)

ports_fit : {datas : List Data} {ls : List Leaf} {names : List (List ℕ)} {ports : List Port} (domains : ℕ) → PortsOf datas ls names ports → AllByRecursion (InDomain domains) ls → AreNames IsLower names → AllByRecursion (FitsPort domains) ports
ports_fit domains no_ports all names = tt
ports_fit domains (port_and h more) all names = ((all.0, names.0.0), ports_fit domains more all.1 names.2)
ports_fit domains (no_port_and h more) all names = ports_fit domains more all.1 names.2

first_false : (b c : Bool) → (b || c) ≡ false → b ≡ false
first_false true c h = absurd cc
first_false false c h = refl

rest_false : (b c : Bool) → (b || c) ≡ false → c ≡ false
rest_false true c h = absurd cc
rest_false false c h = h

new_by : (b c : Bool) (o : Option ℕ) → c ≡ false → is_some o ≡ false → is_some (if b && c then Some 0 else option_map (λ place. place + 1) o) ≡ false
new_by b true o e h = absurd cc
new_by true false None e h = refl
new_by false false None e h = refl
new_by b false (Some x) e h = absurd cc

new_name : (c : Bool) (o : Option ℕ) → c ≡ false → is_some o ≡ false → is_some (if c then Some 0 else option_map (λ place. place + 1) o) ≡ false
new_name true o e h = absurd cc
new_name false None e h = refl
new_name false (Some x) e h = absurd cc

-- a name that isn't among those of leaves isn't among those of ports
new_port : {datas : List Data} {ls : List Leaf} {names : List (List ℕ)} {ports : List Port} (d : ℕ) (name : List ℕ) → PortsOf datas ls names ports → list_any (bytes_eq name) names ≡ false → is_among (map full_name ports) (d ∷ name) ≡ false
new_port d name no_ports h = refl
new_port d name (port_and {leaf = leaf} {name = n} {names = names} {ports = ports} w more) h =
    new_by (nat_eq d leaf.dom.number) (bytes_eq name n) (place_of (map full_name ports) (d ∷ name)) (first_false (bytes_eq name n) (list_any (bytes_eq name) names) h)
    (new_port d name more (rest_false (bytes_eq name n) (list_any (bytes_eq name) names) h))
new_port d name (no_port_and {name = n} {names = names} w more) h = new_port d name more (rest_false (bytes_eq name n) (list_any (bytes_eq name) names) h)

ports_distinct : {datas : List Data} {ls : List Leaf} {names : List (List ℕ)} {ports : List Port} → PortsOf datas ls names ports → AreNames IsLower names → AreDistinct (map full_name ports)
ports_distinct no_ports names = tt
ports_distinct (port_and {leaf = leaf} {name = n} h more) names = (new_port leaf.dom.number n more names.1, ports_distinct more names.2)
ports_distinct (no_port_and h more) names = ports_distinct more names.2

new_among : (name : List ℕ) (names : List (List ℕ)) → list_any (bytes_eq name) names ≡ false → is_among names name ≡ false
new_among name [] h = refl
new_among name (n ∷ names) h =
    new_name (bytes_eq name n) (place_of names name) (first_false (bytes_eq name n) (list_any (bytes_eq name) names) h) (new_among name names (rest_false (bytes_eq name n) (list_any (bytes_eq name) names) h))

names_distinct : (names : List (List ℕ)) → AreNames IsUpper names → AreDistinct names
names_distinct [] h = tt
names_distinct (n ∷ names) h = (new_among n names h.1, names_distinct names h.2)

names_upper : (names : List (List ℕ)) → AreNames IsUpper names → AllByRecursion IsUpper names
names_upper [] h = tt
names_upper (n ∷ names) h = (h.0, names_upper names h.2)

resets_rise : (least count : ℕ) (ds : List DomId) → AreOrderedFrom least count ds → RiseWithin least count ds
resets_rise least count [] h = tt
resets_rise least count (d ∷ ds) h =
    let next : suc d.number ≡ d.number + 1 = omega arith in
    (h.0, h.1, resets_rise (d.number + 1) count ds (subst (λ n. AreOrderedFrom n count ds) next h.2))

pub ports_hold : Facts → StatesHaveTypedOrigins → (p : Program) (state : List Made) (ports : Ports) → IsTypedState p state → HasPorts p ports → PortsHold ports
ports_hold facts typed_origins p state ports typed has =
    let s : Setting = setting_at (origins_in p state) in
    let sound = (typed_origins p state typed).sound in
    let tidy = typed.tidy in
    let number = p.top.«def».number in
    let closed = sound.defs number has.it.ty (found_in_map (λ d. d.ty) p.defs number has.it has.top.held) in
    let led = led_domains facts s sound closed.kind has.top.leads closed.has in
    let some = domain_some (length p.domains) has.outs (led_some has.top.leads) led.1 in
    let many : length p.domains ≡ length ports.domains = ap (λ (ds : List (List ℕ)). length ds) (sym has.domains) in
    record {
      domains = record {
        some = omega (arith, some, many);
        names = subst (AllByRecursion IsUpper) (sym has.domains) (names_upper p.domains tidy.domain_names);
        differ = subst AreDistinct (sym has.domains) (names_distinct p.domains tidy.domain_names);
        rise =
            subst (λ ds. RiseWithin 0 (length ports.domains) ds) (sym has.resets) (subst (λ n. RiseWithin 0 n p.resets) many (resets_rise 0 (length p.domains) p.resets tidy.resets));
      };
      inputs = (subst (λ n. AllByRecursion (FitsPort n) ports.inputs) many (ports_fit (length p.domains) has.inputs led.0 tidy.input_names), ports_distinct has.inputs tidy.input_names);
      outputs = (subst (λ n. AllByRecursion (FitsPort n) ports.outputs) many (ports_fit (length p.domains) has.outputs led.1 tidy.output_names), ports_distinct has.outputs tidy.output_names);
    }
