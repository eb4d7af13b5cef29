-- The program of a typed normal state that begins with the top has ports.
use Rattle.std.proofs.Common.{◌≡◌, ℕ, zero, suc, List, [], ◌∷◌, ◌++◌, length, Some, refl, subst, arith, length-append}
use Rattle.std.specs.List.{slice_get}
use Rattle.chw_clock.specs.declared.event.Port.{Port}
use Rattle.chw_clock.specs.declared.event.Ports.{Ports}
use Rattle.chw_types.specs.declared.declarations.Data.{Data}
use Rattle.chw_types.specs.TypeTree.{TypeTree}
use Rattle.type_ports.specs.declared.ports.Leaf.{Leaf}
use Rattle.type_ports.specs.Ports.{Leaves, one_leaf, leaves_of_fields}
use Rattle.type_laws.specs.SameKept.{FieldsKeepSame}
use Rattle.chw_terms.specs.declared.program.Def.{Def}
use Rattle.chw_terms.specs.declared.program.Program.{Program}
use Rattle.chw_terms.specs.declared.scene.Sort.TheVariants.{Circuit}
use Rattle.chw_terms.specs.TermTree.{TermTree}
use Rattle.chw_typing.specs.Programs.{IsSound, LeadsToPort, to_port, from_port}
use Rattle.chw_typing.specs.Scopes.{Setting}
use Rattle.chw_typing.specs.Typing.{HasType, h_lam}
use Rattle.chw_meaning.specs.Means.{LeadsFrom, leads_to, leads_from, PortsOf, no_ports, port_and, no_port_and, HasPorts}
use Rattle.layout_laws.specs.SameLayout.{SameKeepsMeasure}
use Rattle.rewriting.specs.Named.{UnderLambdas, under_none, under_one}
use Rattle.net_built.proofs.Parts.{leaves_once}
use Rattle.net_built.specs.Data.{HaveWidths, HasParts, port_parts}
use Rattle.net_built.specs.Terms.{result_of}
use Rattle.net_grounds.specs.Facts.{Facts}
use Rattle.net_means.proofs.NetFits.Ports.{payloads, parts_kept}
use Rattle.net_there.proofs.Declared.{under_keeps}
use Rattle.net_there.proofs.Measured.{HasSomeParts, AllHaveParts}

-- leaves that have widths
abbrev AreWide : List Data → List Leaf → Type 0
AreWide datas ls = (ws : List ℕ) × HaveWidths datas (payloads ls) ws

wide_append : (datas : List Data) (ls ms : List Leaf) → AreWide datas ls → AreWide datas ms → AreWide datas (ls ++ ms)
wide_append datas [] ms h k = k
wide_append datas (l ∷ ls) ms ([], h) k = absurd h
wide_append datas (l ∷ ls) ms (w ∷ ws, h) k = let rest = wide_append datas ls ms (ws, h.1) k in (w ∷ rest.0, (h.0, rest.1))

-- the leaves of a port that has parts have widths
leaves_wide : {datas : List Data} {t : TypeTree} {ls : List Leaf} {ws : List ℕ} → Leaves datas t ls → HasParts datas Circuit t ws → AreWide datas ls
leaves_wide {datas} l (port_parts {leaves = ms} {widths = ws} m h) = subst (AreWide datas) (leaves_once m l) (ws, h)

port_result : {datas : List Data} {t : TypeTree} {ls : List Leaf} → Leaves datas t ls → result_of t ≡ t
port_result (one_leaf r) = refl
port_result (leaves_of_fields known as_many one fields a) = refl

-- a type leads from so many leaves to so many, which all have widths
record Led (datas : List Data) (t : TypeTree) (m n : ℕ) : Type 0 where
  ins : List Leaf
  outs : List Leaf
  leads : LeadsFrom datas t ins outs
  ins_wide : AreWide datas ins
  outs_wide : AreWide datas outs
  many_ins : length ins ≡ m
  many_outs : length outs ≡ n

module _ (facts : Facts) (keep : FieldsKeepSame) (law : SameKeepsMeasure) (s : Setting) (sound : IsSound s) where
  -- below lambdas on variables with parts, of which the types are the parameters' up to naturals
  led : {t : TypeTree} {m n : ℕ} {vars vs : List TypeTree} {e x : TermTree} {u : TypeTree} {path : List ℕ} → LeadsToPort s.datas t m n → UnderLambdas vars e t path vs x → HasType s [] vars e u → AllHaveParts s.datas Circuit vs → HasSomeParts s.datas Circuit (result_of t) → Led s.datas t m n
  led (to_port {t = t} {ls = ls} l) under typed parts result =
      let is = port_result l in
      record { ins = []; outs = ls; leads = leads_to l; ins_wide = ([], tt); outs_wide = leaves_wide l (subst (λ t. HasParts s.datas Circuit t result.0) is result.1); many_ins = refl; many_outs = refl }
  led (from_port l more) (under_none asks) typed parts result = absurd asks
  led (from_port {a = b} {b = t} {ls = ls} l more) (under_one {a = a} same under) (h_lam typed kind) parts result =
      let at = facts.kinds.function_parts kind in
      let own = (under_keeps (HasSomeParts s.datas Circuit) under parts).0 in
      let kept = parts_kept facts keep law s sound a b own.0 (record { kind = at.0; has = at.1; same = same }) own.1 in
      let rest = led more under typed parts result in
      let many = rest.many_ins in
      let whole = length-append ls rest.ins in
      record {
        ins = ls ++ rest.ins;
        outs = rest.outs;
        leads = leads_from l rest.leads;
        ins_wide = wide_append s.datas ls rest.ins (leaves_wide l kept) rest.ins_wide;
        outs_wide = rest.outs_wide;
        many_ins = omega (arith, many, whole);
        many_outs = rest.many_outs;
      }

-- leaves with widths, and as many names, have ports
named_ports : (datas : List Data) (ls : List Leaf) (names : List (List ℕ)) (ws : List ℕ) → length ls ≡ length names → HaveWidths datas (payloads ls) ws → (ports : List Port) × PortsOf datas ls names ports
named_ports datas [] [] ws many h = ([], no_ports)
named_ports datas [] (n ∷ names) ws many h = absurd (omega (arith, many))
named_ports datas (l ∷ ls) [] ws many h = absurd (omega (arith, many))
named_ports datas (l ∷ ls) (n ∷ names) [] many h = absurd h
named_ports datas (l ∷ ls) (n ∷ names) (zero ∷ ws) many h =
    let rest = named_ports datas ls names ws (omega (arith, many)) h.1 in (rest.0, no_port_and h.0 rest.1)
named_ports datas (l ∷ ls) (n ∷ names) (suc w ∷ ws) many h =
    let rest = named_ports datas ls names ws (omega (arith, many)) h.1 in (_, port_and h.0 rest.1)

-- so the top's type gives the program's ports
pub ports_there : Facts → FieldsKeepSame → SameKeepsMeasure → (p : Program) (s : Setting) → IsSound s → s.datas ≡ p.datas → (top : Def) {vs : List TypeTree} {e x : TermTree} {u : TypeTree} {path : List ℕ} → slice_get p.defs p.top.«def».number ≡ Some top → LeadsToPort s.datas top.ty (length p.top.inputs) (length p.top.outputs) → UnderLambdas [] e top.ty path vs x → HasType s [] [] e u → AllHaveParts s.datas Circuit vs → HasSomeParts s.datas Circuit (result_of top.ty)
    → (ports : Ports) × HasPorts p ports
ports_there facts keep law p s sound same top held leads under typed parts result =
    let l = subst (λ datas. Led datas top.ty (length p.top.inputs) (length p.top.outputs)) same (led facts keep law s sound leads under typed parts result) in
    let inputs = named_ports p.datas l.ins p.top.inputs l.ins_wide.0 l.many_ins l.ins_wide.1 in
    let outputs = named_ports p.datas l.outs p.top.outputs l.outs_wide.0 l.many_outs l.outs_wide.1 in (
      record { domains = p.domains; resets = p.resets; inputs = inputs.0; outputs = outputs.0 },
      record { it = top; ins = l.ins; outs = l.outs; top = record { held = held; leads = l.leads }; domains = refl; resets = refl; inputs = inputs.1; outputs = outputs.1 },
    )
